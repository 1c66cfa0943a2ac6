-- The reading functions read as the points do: what values hold, over readers of values and statements.
use Rattle.std.proofs.Common.{◌≡◌, ◌∙◌, ℕ, zero, suc, ◌+◌, ◌<◌, ◌≤◌, List, [], ◌∷◌, ◌++◌, length, drop, Bool, true, false, cond, Option, Some, None, Ok, refl, sym, ap, subst, arith}
use Rattle.kernel_syntax.specs.declared.built_in.BuiltIn.{BuiltIn}
use Rattle.kernel_syntax.specs.Sugar as sugar
use Rattle.kernel_syntax.specs.Sugar.{Values, no_values, ValueClauses, no_clauses, Statements, no_statements, statement_and}
use Rattle.oz_grammar.specs.declared.symbol.Symbol.{Symbol}
use Rattle.oz_grammar.specs.declared.symbol.Symbol.TheVariants as t
use Rattle.oz_grammar.specs.declared.symbol.Sign.TheVariants as sign
use Rattle.oz_grammar.specs.declared.fault.FaultKind.{FaultKind}
use Rattle.oz_grammar.specs.declared.fault.What.{What}
use Rattle.oz_grammar.specs.declared.fault.What.TheVariants as what
use Rattle.oz_grammar.specs.Scoping.{Scope, built_in_at, declaration_of}
use Rattle.oz_grammar.specs.Faults.{use_fault, called_fault, fault_here, mismatch}
use Rattle.oz_grammar.specs.Check.{first_fault}
use Rattle.oz_grammar.specs.Points.{Stage, First, Later}
use Rattle.oz_grammar.specs.Reading.{◌>>=◌, fault_or, sign_at}
use Rattle.surface_grammar.specs.declared.parts.CallUse.{CallUse}
use Rattle.surface_grammar.specs.declared.parts.CallUse.TheVariants.{AsValue, AsStatement}
use Rattle.surface_grammar.specs.declared.parts.Callable.{Callable}
use Rattle.surface_grammar.specs.declared.parts.Callable.TheVariants.{OfProc, OfFun}
use Rattle.surface_grammar.specs.declared.parts.Closer.{Closer}
use Rattle.surface_grammar.specs.declared.parts.Closer.TheVariants as closer
use Rattle.surface_grammar.specs.Points.{Extent, OfValue, Closing, Ends, BeforeElse, InClause, InTry, InHandler, WithText, Point, At, Here, Formals, ValueOf, Behind, BehindAtom, FieldOf, CallName, Wanted, PatternOf, ClauseEnd, next_call, next_closing, body_points, expected_after, expected_statement, run}
use Rattle.surface_grammar.specs.Points as points
use Rattle.surface_grammar.specs.Trees.{record_value, call_value}
use Rattle.surface_grammar.specs.Reading.{Read, Called, wanted_at, arguments_at, wanted_of, most_of_call, called_at, call_at, call_value_at, fields_at, atom_at, brackets_at, formals_at, is_closer, is_end_of, expected_behind, with_statement, others_at, sequence_at, closed_at, body_at, callable_body_at, callable_at, callable_value_at, compound_at, if_value_at, value_clause_at, value_clause_end_at, value_clauses_at, with_value_clause, case_value_at, readers_over, below, value_with, statement_with}
use Rattle.surface_grammar.proofs.Starts.{atom_behind, same_inside}
use Rattle.surface_grammar.proofs.ReadSteps.{IsReadFrom, any, bind, done, weaken, sign_then, sign_last, formals_read, clause_head_then}
use Rattle.surface_grammar.proofs.ReadValues.{NothingBeside, ReadsValues, Reads, value_here, CompoundRead, Choices}
use Rattle.surface_grammar.proofs.ReadFields.{arguments_read, wanted_read, Same, fields_read}

-- ---- sequences of statements

-- what closes the sequence, as reading tells it
abbrev pub closer_of : Closing → Closer
closer_of Ends = closer.End
closer_of BeforeElse = closer.Else
closer_of (InClause scope d) = closer.OfClause
closer_of (InTry scope d) = closer.OfTry
closer_of (InHandler scope d) = closer.OfHandler
closer_of WithText = closer.EndOfText

after_is : (c : Closing) → expected_behind (closer_of c) ≡ expected_after c
after_is Ends = refl
after_is BeforeElse = refl
after_is (InClause scope d) = refl
after_is (InTry scope d) = refl
after_is (InHandler scope d) = refl
after_is WithText = refl

pub first_beside : (c : Closing) (scope : Scope) (d : ℕ) (symbols : List Symbol) → NothingBeside First c scope d symbols
first_beside c scope d [] = tt
first_beside c scope d (x ∷ xs) = refl

none_closes : (c : Closing) (x : Symbol) → is_closer (closer_of c) x ≡ false → next_closing c x ≡ None
none_closes Ends t.End e = absurd cc
none_closes Ends x e = refl
none_closes BeforeElse t.Else e = absurd cc
none_closes BeforeElse x e = refl
none_closes (InClause scope d) t.Clause e = absurd cc
none_closes (InClause scope d) t.Else e = absurd cc
none_closes (InClause scope d) x e = refl
none_closes (InTry scope d) t.Catch e = absurd cc
none_closes (InTry scope d) t.Finally e = absurd cc
none_closes (InTry scope d) x e = refl
none_closes (InHandler scope d) t.End e = absurd cc
none_closes (InHandler scope d) t.Finally e = absurd cc
none_closes (InHandler scope d) x e = refl
none_closes WithText t.EndOfText e = absurd cc
none_closes WithText x e = refl

later_beside : (c : Closing) (scope : Scope) (d : ℕ) (symbols : List Symbol) → is_end_of (closer_of c) symbols ≡ false → NothingBeside Later c scope d symbols
later_beside c scope d [] e = tt
later_beside c scope d (x ∷ xs) e = none_closes c x e

-- what closes the sequence stands behind it
abbrev pub IsClosed : Closing → Statements × List Symbol → Type 0
IsClosed c x = is_end_of (closer_of c) x.1 ≡ true

others_read : (fuel d : ℕ) (r : Reads d) (c : Closing) (scope : Scope) (before : Statements) (n : ℕ) (symbols : List Symbol) (σ : List Point) → length symbols < fuel → length symbols ≤ n
    → IsReadFrom n symbols (At Later c scope d ∷ σ) (others_at (statement_with d) (closer_of c) scope fuel before symbols) (IsClosed c) (λ q. At Later c scope d ∷ σ)
unfolding others_at
others_read zero d r c scope before n symbols σ lt le = absurd (omega (arith, lt))
others_read (suc fuel) d r c scope before n [] σ lt le = record { reads = ap (λ (w : What). Some (fault_here (mismatch w []) [])) (sym (after_is c)); good = tt }
others_read (suc fuel) d r c scope before n (x ∷ xs) σ lt le =
    let chosen : (b : Bool) → is_end_of (closer_of c) (x ∷ xs) ≡ b → IsReadFrom n (x ∷ xs) (At Later c scope d ∷ σ) (cond b (Ok (before, x ∷ xs)) (statement_with d scope (expected_behind (closer_of c)) (x ∷ xs) >>= λ s. others_at (statement_with d) (closer_of c) scope fuel (with_statement before s.0) s.1)) (IsClosed c) (λ q. At Later c scope d ∷ σ) = elim [
      | true ↦ λ e. record { reads = refl; good = (le, e) }
      | false ↦ λ e. weaken (length xs) n (x ∷ xs) (At Later c scope d ∷ σ) _ (IsClosed c) (λ q. At Later c scope d ∷ σ) (omega (arith, le))
          (bind (length xs) (x ∷ xs) (At Later c scope d ∷ σ) (statement_with d scope (expected_behind (closer_of c)) (x ∷ xs)) any (λ s. At Later c scope d ∷ σ) (λ s. others_at (statement_with d) (closer_of c) scope fuel (with_statement before s.0) s.1) (IsClosed c) (λ q. At Later c scope d ∷ σ)
          (r.statement Later c scope (expected_behind (closer_of c)) (length xs) (x ∷ xs) σ (after_is c) (later_beside c scope d (x ∷ xs) e) (omega arith))
          (λ s l g. others_read fuel d r c scope (with_statement before s.0) (length xs) s.1 σ (omega (arith, l, lt)) l))
    ] in chosen (is_end_of (closer_of c) (x ∷ xs)) refl

pub sequence_read : (d : ℕ) (r : Reads d) (stage : Stage) (c : Closing) (scope : Scope) (w : What) (n : ℕ) (symbols : List Symbol) (σ : List Point) → w ≡ expected_statement stage c → NothingBeside stage c scope d symbols → length symbols ≤ n + 1
    → IsReadFrom n symbols (At stage c scope d ∷ σ) (sequence_at (statement_with d) (closer_of c) scope w symbols) (IsClosed c) (λ q. At Later c scope d ∷ σ)
sequence_read d r stage c scope w n symbols σ e none le =
    bind n symbols (At stage c scope d ∷ σ) (statement_with d scope w symbols) any (λ s. At Later c scope d ∷ σ) (λ s. others_at (statement_with d) (closer_of c) scope (length s.1 + 1) (statement_and s.0 no_statements) s.1) (IsClosed c) (λ q. At Later c scope d ∷ σ)
    (r.statement stage c scope w n symbols σ e none le) (λ s l g. others_read (length s.1 + 1) d r c scope (statement_and s.0 no_statements) n s.1 σ (omega arith) l)

end_reads : (scope : Scope) (d : ℕ) (symbols : List Symbol) (σ : List Point) → is_end_of closer.End symbols ≡ true → run symbols (At Later Ends scope d ∷ σ) ≡ run (drop 1 symbols) σ
end_reads scope d [] σ e = absurd cc
end_reads scope d (t.End ∷ rest) σ e = refl
end_reads scope d (s ∷ rest) σ e = absurd cc

else_reads : (scope : Scope) (d : ℕ) (symbols : List Symbol) (σ : List Point) → is_end_of closer.Else symbols ≡ true → run symbols (At Later BeforeElse scope d ∷ σ) ≡ run (drop 1 symbols) σ
else_reads scope d [] σ e = absurd cc
else_reads scope d (t.Else ∷ rest) σ e = refl
else_reads scope d (s ∷ rest) σ e = absurd cc

drop_within : (n : ℕ) (symbols : List Symbol) → length symbols ≤ n → length (drop 1 symbols) ≤ n
drop_within n [] le = omega arith
drop_within n (s ∷ rest) le = omega (arith, le)

-- statements up to `end`
pub ended_read : (d : ℕ) (r : Reads d) (stage : Stage) (scope : Scope) (w : What) (n : ℕ) (symbols : List Symbol) (σ : List Point) → w ≡ expected_statement stage Ends → NothingBeside stage Ends scope d symbols → length symbols ≤ n + 1
    → IsReadFrom n symbols (At stage Ends scope d ∷ σ) (closed_at (statement_with d) closer.End scope w symbols) any (λ q. σ)
ended_read d r stage scope w n symbols σ e none le =
    bind n symbols (At stage Ends scope d ∷ σ) (sequence_at (statement_with d) closer.End scope w symbols) (IsClosed Ends) (λ q. At Later Ends scope d ∷ σ) (λ q. Ok (q.0, drop 1 q.1)) any (λ q. σ) (sequence_read d r stage Ends scope w n symbols σ e none le)
    (λ q l g. record { reads = end_reads scope d q.1 σ g; good = (drop_within n q.1 l, tt) })

pub body_read : (d : ℕ) (r : Reads d) (scope : Scope) (n : ℕ) (symbols : List Symbol) (σ : List Point) → length symbols ≤ n + 1 → IsReadFrom n symbols (At First Ends scope d ∷ σ) (body_at (statement_with d) scope symbols) any (λ q. σ)
body_read d r scope n symbols σ le = ended_read d r First scope what.Statement n symbols σ refl (first_beside Ends scope d symbols) le

-- .. up to `else`
pub chosen_read : (d : ℕ) (r : Reads d) (scope : Scope) (n : ℕ) (symbols : List Symbol) (σ : List Point) → length symbols ≤ n + 1 → IsReadFrom n symbols (At First BeforeElse scope d ∷ σ) (closed_at (statement_with d) closer.Else scope what.Statement symbols) any (λ q. σ)
chosen_read d r scope n symbols σ le =
    bind n symbols (At First BeforeElse scope d ∷ σ) (sequence_at (statement_with d) closer.Else scope what.Statement symbols) (IsClosed BeforeElse) (λ q. At Later BeforeElse scope d ∷ σ) (λ q. Ok (q.0, drop 1 q.1)) any (λ q. σ)
    (sequence_read d r First BeforeElse scope what.Statement n symbols σ refl (first_beside BeforeElse scope d symbols) le) (λ q l g. record { reads = else_reads scope d q.1 σ g; good = (drop_within n q.1 l, tt) })

-- ---- procedures, functions and calls

callable_body_read : (d : ℕ) (r : Reads d) (c : Callable) (scope : Scope) (left count n : ℕ) (symbols : List Symbol) (σ : List Point) → length symbols ≤ n + 1 → IsReadFrom n symbols (body_points c scope d ++ σ) (callable_body_at (readers_over (below d) d) c scope left count symbols) any (λ v. σ)
callable_body_read d r OfProc scope left count n symbols σ le =
    bind n symbols (At First Ends scope d ∷ σ) (body_at (statement_with d) scope symbols) any (λ q. σ) (λ q. Ok (sugar.Proc left count q.0, q.1)) any (λ v. σ) (body_read d r scope n symbols σ le) (λ q l g. done n (sugar.Proc left count q.0) q.1 any (λ v. σ) l tt)
callable_body_read d r OfFun scope left count n symbols σ le =
    bind n symbols (ValueOf scope d ∷ Here sign.End ∷ σ) (value_with d scope None what.Value symbols) any (λ v. Here sign.End ∷ σ) (λ v. sign_at sign.End v.1 >>= λ rest. Ok (sugar.Fun left count v.0, rest)) any (λ v. σ) (value_here d r.values scope n symbols (Here sign.End ∷ σ) refl le)
    (λ v l g. sign_last sign.End n v.1 σ (sugar.Fun left count v.0) (omega (arith, l)))

pub callable_read : (d : ℕ) (r : Reads d) (c : Callable) (scope : Scope) (left n : ℕ) (symbols : List Symbol) (σ : List Point) → length symbols ≤ n + 1 → IsReadFrom n symbols (Formals c scope [] d ∷ σ) (callable_at (readers_over (below d) d) c scope left symbols) any (λ v. σ)
callable_read d r c scope left n symbols σ le =
    bind n symbols (Formals c scope [] d ∷ σ) (formals_at c [] symbols) any (λ xs. body_points c (scope ++ xs) d ++ σ) (λ m. callable_body_at (readers_over (below d) d) c (scope ++ m.0) left (length m.0) m.1) any (λ v. σ) (formals_read n symbols [] c scope d σ le)
    (λ m l g. callable_body_read d r c (scope ++ m.0) left (length m.0) n m.1 σ (omega (arith, l)))

callable_value_read : (d : ℕ) (r : Reads d) (c : Callable) (scope : Scope) (left n : ℕ) (symbols : List Symbol) (σ : List Point) → length symbols ≤ n + 1
    → IsReadFrom n symbols (Here sign.OpenCurly ∷ Here sign.Dollar ∷ Formals c scope [] d ∷ σ) (callable_value_at (readers_over (below d) d) c scope left symbols) any (λ v. σ)
callable_value_read d r c scope left n symbols σ le =
    sign_then sign.OpenCurly n symbols (Here sign.Dollar ∷ Formals c scope [] d ∷ σ) (λ a. sign_at sign.Dollar a >>= λ b. callable_at (readers_over (below d) d) c scope left b) any (λ v. σ) le
    (λ a l. sign_then sign.Dollar n a (Formals c scope [] d ∷ σ) (λ b. callable_at (readers_over (below d) d) c scope left b) any (λ v. σ) (omega (arith, l)) (λ b k. callable_read d r c scope left n b σ (omega (arith, k))))

-- where a call's name stands, behind what is wrong with it
name_reads : (u : CallUse) (scope : Scope) (d : ℕ) (p : List ℕ) (rest : List Symbol) (σ : List Point) (o : Option BuiltIn) → built_in_at scope p ≡ o
    → run (t.Variable p ∷ rest) (CallName u scope d ∷ σ) ≡ first_fault (called_fault o scope p) (t.Variable p ∷ rest) (run rest (next_call u scope d o ++ σ))
name_reads u scope d p rest σ o e = ap (λ (k : Option BuiltIn). first_fault (called_fault k scope p) (t.Variable p ∷ rest) (run rest (next_call u scope d k ++ σ))) e

wanted_points : (u : CallUse) (scope : Scope) (d : ℕ) (b : BuiltIn) → next_call u scope d (Some b) ≡ Wanted scope d (wanted_of u b) ∷ []
wanted_points AsValue scope d b = refl
wanted_points AsStatement scope d b = refl

argument_points : (u : CallUse) (scope : Scope) (d : ℕ) → next_call u scope d None ≡ points.Arguments scope d 0 (most_of_call u) ∷ []
argument_points AsValue scope d = refl
argument_points AsStatement scope d = refl

built_in_read : (b : BuiltIn) (d : ℕ) (r : ReadsValues d) (u : CallUse) (scope : Scope) (p : List ℕ) (n : ℕ) (rest : List Symbol) (σ : List Point) → length rest ≤ n → IsReadFrom n rest (next_call u scope d (Some b) ++ σ) (called_at (value_with d) u scope (Some b) p rest) any (λ c. σ)
built_in_read b d r u scope p n rest σ le =
    subst (λ (k : List Point). IsReadFrom n rest (k ++ σ) (called_at (value_with d) u scope (Some b) p rest) any (λ c. σ)) (sym (wanted_points u scope d b))
    (bind n rest (Wanted scope d (wanted_of u b) ∷ σ) (wanted_at (value_with d) scope (wanted_of u b) no_values rest) any (λ vs. σ) (λ vs. Ok ((Some b, declaration_of scope p, vs.0), vs.1)) any (λ c. σ) (wanted_read (wanted_of u b) d r scope no_values n rest σ (omega (arith, le)))
    (λ vs l g. done n (Some b, declaration_of scope p, vs.0) vs.1 any (λ c. σ) l tt))

abbrev AsCalled : ℕ → Values × List Symbol → Read Called
AsCalled k vs = Ok ((None, k, vs.0), vs.1)

procedure_arguments : (d : ℕ) (r : ReadsValues d) (u : CallUse) (scope : Scope) (k : ℕ) (n : ℕ) (rest : List Symbol) (σ : List Point) → length rest ≤ n
    → IsReadFrom n rest (next_call u scope d None ++ σ) (arguments_at (value_with d) scope (most_of_call u) no_values rest >>= AsCalled k) any (λ c. σ)
procedure_arguments d r u scope k n rest σ le =
    subst (λ (i : List Point). IsReadFrom n rest (i ++ σ) (arguments_at (value_with d) scope (most_of_call u) no_values rest >>= AsCalled k) any (λ c. σ)) (sym (argument_points u scope d))
    (bind n rest (points.Arguments scope d 0 (most_of_call u) ∷ σ) (arguments_at (value_with d) scope (most_of_call u) no_values rest) any (λ vs. σ) (AsCalled k) any (λ c. σ)
    (arguments_read (most_of_call u) d r scope 0 (most_of_call u) no_values n rest σ (omega arith) (omega (arith, le))) (λ vs l g. done {X = Called} n (None, k, vs.0) vs.1 any (λ c. σ) l tt))

-- the arguments behind the position of a procedure
abbrev BehindName : ℕ → CallUse → Scope → ℕ × List Symbol → Read Called
BehindName d u scope q = arguments_at (value_with d) scope (most_of_call u) no_values q.1 >>= AsCalled q.0

-- a call of a procedure, whose name is declared or not
procedure_read : (w : Option FaultKind) (d : ℕ) (r : ReadsValues d) (u : CallUse) (scope : Scope) (p : List ℕ) (n : ℕ) (rest : List Symbol) (points : List Point) (σ : List Point) → run (t.Variable p ∷ rest) points ≡ first_fault w (t.Variable p ∷ rest) (run rest (next_call u scope d None ++ σ)) → length rest ≤ n
    → IsReadFrom n (t.Variable p ∷ rest) points (fault_or {A = ℕ × List Symbol} w (t.Variable p ∷ rest) (Ok (declaration_of scope p, rest)) >>= BehindName d u scope) any (λ c. σ)
procedure_read None d r u scope p n rest points σ e le = let l = procedure_arguments d r u scope (declaration_of scope p) n rest σ le in record { reads = e ∙ l.reads; good = l.good }
procedure_read (Some kind) d r u scope p n rest points σ e le = record { reads = e; good = tt }

called_read : (o : Option BuiltIn) (d : ℕ) (r : ReadsValues d) (u : CallUse) (scope : Scope) (p : List ℕ) (n : ℕ) (rest : List Symbol) (σ : List Point) → built_in_at scope p ≡ o → length rest ≤ n
    → IsReadFrom n (t.Variable p ∷ rest) (CallName u scope d ∷ σ) (called_at (value_with d) u scope o p rest) any (λ c. σ)
called_read None d r u scope p n rest σ e le = procedure_read (use_fault scope p) d r u scope p n rest (CallName u scope d ∷ σ) σ (name_reads u scope d p rest σ None e) le
called_read (Some b) d r u scope p n rest σ e le = let l = built_in_read b d r u scope p n rest σ le in record { reads = name_reads u scope d p rest σ (Some b) e ∙ l.reads; good = l.good }

pub call_read : (d : ℕ) (r : ReadsValues d) (u : CallUse) (scope : Scope) (n : ℕ) (symbols : List Symbol) (σ : List Point) → length symbols ≤ n + 1 → IsReadFrom n symbols (CallName u scope d ∷ σ) (call_at (value_with d) u scope symbols) any (λ c. σ)
call_read d r u scope n [] σ le = record { reads = refl; good = tt }
call_read d r u scope n (t.Variable p ∷ rest) σ le = called_read (built_in_at scope p) d r u scope p n rest σ refl (omega (arith, le))
call_read d r u scope n (s ∷ rest) σ le = record { reads = refl; good = tt }

call_value_read : (d : ℕ) (r : ReadsValues d) (scope : Scope) (left n : ℕ) (symbols : List Symbol) (σ : List Point) → length symbols ≤ n + 1 → IsReadFrom n symbols (CallName AsValue scope d ∷ σ) (call_value_at (value_with d) scope left symbols) any (λ v. σ)
call_value_read d r scope left n symbols σ le =
    bind n symbols (CallName AsValue scope d ∷ σ) (call_at (value_with d) AsValue scope symbols) any (λ c. σ) (λ c. Ok (call_value c.0.0 left c.0.1 c.0.2, c.1)) any (λ v. σ) (call_read d r AsValue scope n symbols σ le) (λ c l g. done n (call_value c.0.0 left c.0.1 c.0.2) c.1 any (λ v. σ) l tt)

-- ---- primaries of several symbols

pub same_no_fields : Same [] ([], no_values, 1)
same_no_fields f = refl

atom_read : (d : ℕ) (r : ReadsValues d) (extent : Extent) (scope : Scope) (left : ℕ) (a : List ℕ) (n : ℕ) (rest : List Symbol) (behind : List Point) → length rest ≤ n
    → IsReadFrom n rest (BehindAtom extent scope (suc d) ∷ behind) (atom_at (value_with d) scope left a rest) any (λ v. Behind extent scope (suc d) d ∷ behind)
atom_read d r extent scope left a n [] behind le = record { reads = atom_behind extent scope (suc d) [] behind refl; good = (le, tt) }
atom_read d r extent scope left a n (t.OpenRound ∷ rest) behind le =
    let l = bind n rest (FieldOf scope d 64 [] 1 ∷ Behind extent scope (suc d) d ∷ behind) (fields_at (value_with d) scope 64 ([], no_values, 1) rest) any (λ m. Behind extent scope (suc d) d ∷ behind) (λ m. Ok (record_value left a m.0.0 m.0.1, m.1)) any (λ v. Behind extent scope (suc d) d ∷ behind)
    (fields_read 64 d r scope [] ([], no_values, 1) n rest (Behind extent scope (suc d) d ∷ behind) same_no_fields (omega (arith, le))) (λ m k g. done n (record_value left a m.0.0 m.0.1) m.1 any (λ v. Behind extent scope (suc d) d ∷ behind) k tt) in
    record { reads = l.reads; good = l.good }
atom_read d r extent scope left a n (s ∷ rest) behind le = record { reads = atom_behind extent scope (suc d) (s ∷ rest) behind refl; good = (le, tt) }

brackets_read : (d : ℕ) (r : ReadsValues d) (scope : Scope) (left n : ℕ) (symbols : List Symbol) (σ : List Point) → length symbols ≤ n + 1 → IsReadFrom n symbols (ValueOf scope d ∷ Here sign.CloseRound ∷ σ) (brackets_at (value_with d) scope left symbols) any (λ v. σ)
brackets_read d r scope left n symbols σ le =
    bind n symbols (ValueOf scope d ∷ Here sign.CloseRound ∷ σ) (value_with d scope None what.Value symbols) any (λ v. Here sign.CloseRound ∷ σ) (λ v. sign_at sign.CloseRound v.1 >>= λ rest. Ok (sugar.Brackets left v.0, rest)) any (λ v. σ) (value_here d r scope n symbols (Here sign.CloseRound ∷ σ) refl le)
    (λ v l g. sign_last sign.CloseRound n v.1 σ (sugar.Brackets left v.0) (omega (arith, l)))

pub compounds_read : (d : ℕ) (r : Reads d) → CompoundRead d
compounds_read d r extent scope n (t.Atom a) rest inside behind b k le =
    subst (λ (i : List Point). IsReadFrom n rest (i ++ behind) (compound_at (readers_over (below d) d) scope (t.Atom a ∷ rest)) any (λ v. Behind extent scope (suc d) d ∷ behind)) (same_inside _ inside k) (atom_read d r.values extent scope (length (t.Atom a ∷ rest)) a n rest behind le)
compounds_read d r extent scope n t.OpenCurly rest inside behind b k le =
    subst (λ (i : List Point). IsReadFrom n rest (i ++ behind) (compound_at (readers_over (below d) d) scope (t.OpenCurly ∷ rest)) any (λ v. Behind extent scope (suc d) d ∷ behind)) (same_inside _ inside k)
    (call_value_read d r.values scope (length (t.OpenCurly ∷ rest)) n rest (Behind extent scope (suc d) d ∷ behind) (omega (arith, le)))
compounds_read d r extent scope n t.Proc rest inside behind b k le =
    subst (λ (i : List Point). IsReadFrom n rest (i ++ behind) (compound_at (readers_over (below d) d) scope (t.Proc ∷ rest)) any (λ v. Behind extent scope (suc d) d ∷ behind)) (same_inside _ inside k)
    (callable_value_read d r OfProc scope (length (t.Proc ∷ rest)) n rest (Behind extent scope (suc d) d ∷ behind) (omega (arith, le)))
compounds_read d r extent scope n t.Fun rest inside behind b k le =
    subst (λ (i : List Point). IsReadFrom n rest (i ++ behind) (compound_at (readers_over (below d) d) scope (t.Fun ∷ rest)) any (λ v. Behind extent scope (suc d) d ∷ behind)) (same_inside _ inside k)
    (callable_value_read d r OfFun scope (length (t.Fun ∷ rest)) n rest (Behind extent scope (suc d) d ∷ behind) (omega (arith, le)))
compounds_read d r extent scope n t.OpenRound rest inside behind b k le =
    subst (λ (i : List Point). IsReadFrom n rest (i ++ behind) (compound_at (readers_over (below d) d) scope (t.OpenRound ∷ rest)) any (λ v. Behind extent scope (suc d) d ∷ behind)) (same_inside _ inside k)
    (brackets_read d r.values scope (length (t.OpenRound ∷ rest)) n rest (Behind extent scope (suc d) d ∷ behind) (omega (arith, le)))
compounds_read d r extent scope n s rest inside behind b k le = absurd cc

-- ---- `if` and `case` values

if_read : (d : ℕ) (r : ReadsValues d) (scope : Scope) (left n : ℕ) (symbols : List Symbol) (σ : List Point) → length symbols ≤ n + 1
    → IsReadFrom n symbols (ValueOf scope d ∷ Here sign.Then ∷ ValueOf scope d ∷ Here sign.Else ∷ ValueOf scope d ∷ Here sign.End ∷ σ) (if_value_at (value_with d) scope left symbols) any (λ v. σ)
if_read d r scope left n symbols σ le =
    bind n symbols _ (value_with d scope None what.Value symbols) any (λ v. Here sign.Then ∷ ValueOf scope d ∷ Here sign.Else ∷ ValueOf scope d ∷ Here sign.End ∷ σ) _ any (λ v. σ) (value_here d r scope n symbols _ refl le) (λ e l g.
    sign_then sign.Then n e.1 (ValueOf scope d ∷ Here sign.Else ∷ ValueOf scope d ∷ Here sign.End ∷ σ) _ any (λ v. σ) (omega (arith, l)) (λ m k.
    bind n m _ (value_with d scope None what.Value m) any (λ v. Here sign.Else ∷ ValueOf scope d ∷ Here sign.End ∷ σ) _ any (λ v. σ) (value_here d r scope n m _ refl (omega (arith, k))) (λ a la ga.
    sign_then sign.Else n a.1 (ValueOf scope d ∷ Here sign.End ∷ σ) _ any (λ v. σ) (omega (arith, la)) (λ o ko.
    bind n o _ (value_with d scope None what.Value o) any (λ v. Here sign.End ∷ σ) _ any (λ v. σ) (value_here d r scope n o _ refl (omega (arith, ko))) (λ b lb gb. sign_last sign.End n b.1 σ (sugar.If left e.0 a.0 b.0) (omega (arith, lb)))))))

pub value_clause_read : (d : ℕ) (r : ReadsValues d) (scope : Scope) (n : ℕ) (symbols : List Symbol) (σ : List Point) → length symbols ≤ n + 1 → IsReadFrom n symbols (PatternOf OfValue scope d ∷ σ) (value_clause_at (value_with d) scope symbols) any (λ c. ClauseEnd scope d ∷ σ)
value_clause_read d r scope n symbols σ le =
    clause_head_then OfValue scope d n symbols σ (λ m. value_with d m.1 None what.Value m.2 >>= λ v. Ok ((m.0, v.0), v.1)) any (λ c. ClauseEnd scope d ∷ σ) le (λ m l.
    bind n m.2 (ValueOf m.1 d ∷ ClauseEnd scope d ∷ σ) (value_with d m.1 None what.Value m.2) any (λ v. ClauseEnd scope d ∷ σ) (λ v. Ok ((m.0, v.0), v.1)) any (λ c. ClauseEnd scope d ∷ σ) (value_here d r m.1 n m.2 (ClauseEnd scope d ∷ σ) refl (omega (arith, l)))
    (λ v k g. done n (m.0, v.0) v.1 any (λ c. ClauseEnd scope d ∷ σ) k tt))

abbrev AfterClauses : Scope → ℕ → List Point → List Point
AfterClauses scope d σ = ValueOf scope d ∷ Here sign.End ∷ σ

value_clause_ends : (d : ℕ) (scope : Scope) (another : List Symbol → Read ValueClauses) (cs : ValueClauses) (n : ℕ) (symbols : List Symbol) (σ : List Point) → length symbols ≤ n
    → ((rest : List Symbol) → length rest < length symbols → IsReadFrom n rest (PatternOf OfValue scope d ∷ σ) (another rest) any (λ x. AfterClauses scope d σ)) → IsReadFrom n symbols (ClauseEnd scope d ∷ σ) (value_clause_end_at another cs symbols) any (λ x. AfterClauses scope d σ)
value_clause_ends d scope another cs n [] σ le next = record { reads = refl; good = tt }
value_clause_ends d scope another cs n (t.Clause ∷ rest) σ le next = let l = next rest (omega arith) in record { reads = l.reads; good = l.good }
value_clause_ends d scope another cs n (t.Else ∷ rest) σ le next = record { reads = refl; good = (omega (arith, le), tt) }
value_clause_ends d scope another cs n (s ∷ rest) σ le next = record { reads = refl; good = tt }

value_clauses_read : (fuel d : ℕ) (r : ReadsValues d) (scope : Scope) (before : ValueClauses) (n : ℕ) (symbols : List Symbol) (σ : List Point) → length symbols < fuel → length symbols ≤ n + 1
    → IsReadFrom n symbols (PatternOf OfValue scope d ∷ σ) (value_clauses_at (value_with d) scope fuel before symbols) any (λ x. AfterClauses scope d σ)
unfolding value_clauses_at
value_clauses_read zero d r scope before n symbols σ lt le = absurd (omega (arith, lt))
value_clauses_read (suc fuel) d r scope before n [] σ lt le = record { reads = refl; good = tt }
value_clauses_read (suc fuel) d r scope before n (x ∷ xs) σ lt le =
    weaken (length xs) n (x ∷ xs) (PatternOf OfValue scope d ∷ σ) _ any (λ y. AfterClauses scope d σ) (omega (arith, le))
    (bind (length xs) (x ∷ xs) (PatternOf OfValue scope d ∷ σ) (value_clause_at (value_with d) scope (x ∷ xs)) any (λ c. ClauseEnd scope d ∷ σ) _ any (λ y. AfterClauses scope d σ) (value_clause_read d r scope (length xs) (x ∷ xs) σ (omega arith))
    (λ c l g. value_clause_ends d scope (value_clauses_at (value_with d) scope fuel (with_value_clause before c.0.0 c.0.1)) (with_value_clause before c.0.0 c.0.1) (length xs) c.1 σ l
    (λ rest k. value_clauses_read fuel d r scope (with_value_clause before c.0.0 c.0.1) (length xs) rest σ (omega (arith, k, l, lt)) (omega (arith, k, l)))))

case_read : (d : ℕ) (r : ReadsValues d) (scope : Scope) (left n : ℕ) (symbols : List Symbol) (σ : List Point) → length symbols ≤ n + 1
    → IsReadFrom n symbols (ValueOf scope d ∷ Here sign.Of ∷ PatternOf OfValue scope d ∷ σ) (case_value_at (value_with d) scope left symbols) any (λ v. σ)
case_read d r scope left n symbols σ le =
    bind n symbols _ (value_with d scope None what.Value symbols) any (λ v. Here sign.Of ∷ PatternOf OfValue scope d ∷ σ) _ any (λ v. σ) (value_here d r scope n symbols _ refl le) (λ e l g.
    sign_then sign.Of n e.1 (PatternOf OfValue scope d ∷ σ) _ any (λ v. σ) (omega (arith, l)) (λ m k.
    bind n m (PatternOf OfValue scope d ∷ σ) (value_clauses_at (value_with d) scope (length m + 1) no_clauses m) any (λ x. AfterClauses scope d σ) _ any (λ v. σ) (value_clauses_read (length m + 1) d r scope no_clauses n m σ (omega arith) (omega (arith, k))) (λ cs lc gc.
    bind n cs.1 (ValueOf scope d ∷ Here sign.End ∷ σ) (value_with d scope None what.Value cs.1) any (λ v. Here sign.End ∷ σ) _ any (λ v. σ) (value_here d r scope n cs.1 _ refl (omega (arith, lc))) (λ b lb gb. sign_last sign.End n b.1 σ (sugar.Case left e.0 cs.0 b.0) (omega (arith, lb))))))

pub choices_read : (d : ℕ) (r : ReadsValues d) → Choices d
choices_read d r = record { ifs = if_read d r; cases = case_read d r }
