-- The reading functions read as the points do: statements, and programs.
use Rattle.std.proofs.Common.{◌≡◌, ◌∙◌, ℕ, zero, suc, ◌+◌, ◌<◌, ◌≤◌, List, [], ◌∷◌, ◌++◌, length, Bool, true, false, cond, Option, Some, None, Result, Ok, Err, refl, sym, ap, subst, arith}
use Rattle.kernel_syntax.specs.declared.sugar.Action.TheVariants as action
use Rattle.kernel_syntax.specs.Sugar as sugar
use Rattle.kernel_syntax.specs.Sugar.{Statement, Statements, no_statements, statement_and, Clauses, no_cases, value_and, no_values}
use Rattle.oz_grammar.specs.declared.symbol.Symbol.{Symbol}
use Rattle.oz_grammar.specs.declared.symbol.Symbol.TheVariants as t
use Rattle.oz_grammar.specs.declared.symbol.Sign.TheVariants as sign
use Rattle.oz_grammar.specs.declared.fault.Fault.{Fault}
use Rattle.oz_grammar.specs.declared.fault.FaultKind.TheVariants.{Deep, Expected}
use Rattle.oz_grammar.specs.declared.fault.What.{What}
use Rattle.oz_grammar.specs.declared.fault.What.TheVariants as what
use Rattle.oz_grammar.specs.Scoping.{Scope, declaration_of}
use Rattle.oz_grammar.specs.Faults.{use_fault, fault_here, mismatch}
use Rattle.oz_grammar.specs.Check.{first_fault}
use Rattle.oz_grammar.specs.Points.{Stage, First, AfterThread, Later}
use Rattle.oz_grammar.specs.Reading.{◌>>=◌, fault_expected, used_variable_at, first_local_at, site_at, catch_name_at}
use Rattle.oz_grammar.specs.Automata.{read_step, is_done}
use Rattle.surface_grammar.specs.declared.parts.CallUse.TheVariants.{AsStatement}
use Rattle.surface_grammar.specs.declared.parts.Callable.{Callable}
use Rattle.surface_grammar.specs.declared.parts.Callable.TheVariants.{OfProc, OfFun}
use Rattle.surface_grammar.specs.declared.parts.Closer.TheVariants as closer
use Rattle.surface_grammar.specs.Points.{OfStatements, Closing, Ends, BeforeElse, InClause, InTry, InHandler, WithText, Point, At, Here, LocalName, CallableName, Formals, ValueOf, CallName, PatternOf, SiteHere, CatchName, expected_statement, statement_fault, next_first, next, run, start, points_automaton}
use Rattle.surface_grammar.specs.Trees.{call_statement}
use Rattle.surface_grammar.specs.Reading.{Read, sequence_at, closed_at, body_at, callable_at, callable_statement_at, call_at, call_statement_at, tell_at, raise_at, local_at, thread_at, if_at, clause_at, clause_end_at, clauses_at, with_clause, case_at, handler_at, handler_end_at, try_end_at, try_at, kind_at, is_at_statement, is_end_of, on_level, readers_over, no_readers, below, value_with, statement_with, program_at}
use Rattle.surface_grammar.proofs.ReadSteps.{IsReadFrom, any, bind, done, begin, weaken, sign_then, sign_last, callable_name_read, first_local_read, site_read, catch_read, clause_head_then}
use Rattle.surface_grammar.proofs.ReadValues.{NothingBeside, ReadsValues, Reads, ReadsBelow, value_here, operand_read, tail_read, value_read}
use Rattle.surface_grammar.proofs.ReadHeld.{first_beside, IsClosed, sequence_read, ended_read, body_read, chosen_read, callable_read, call_read, compounds_read, choices_read}

-- ---- statements with d levels inside, whose values have one more. τ are the points behind

tell_read : (d : ℕ) (v : ReadsValues d) (scope : Scope) (left n : ℕ) (x : List ℕ) (rest : List Symbol) (points τ : List Point) → run (t.Variable x ∷ rest) points ≡ first_fault (use_fault scope x) (t.Variable x ∷ rest) (run rest (Here sign.Equals ∷ ValueOf scope d ∷ τ))
    → is_done τ ≡ false → length rest ≤ n → IsReadFrom n (t.Variable x ∷ rest) points (tell_at (value_with d) scope left (t.Variable x ∷ rest)) any (λ s. τ)
tell_read d v scope left n x rest points τ e goes le =
    bind n (t.Variable x ∷ rest) points (used_variable_at what.Statement scope (t.Variable x ∷ rest)) any (λ k. Here sign.Equals ∷ ValueOf scope d ∷ τ) _ any (λ s. τ)
    (begin n (use_fault scope x) (t.Variable x) rest points (Here sign.Equals ∷ ValueOf scope d ∷ τ) (Ok (declaration_of scope x, rest)) any (λ k. Here sign.Equals ∷ ValueOf scope d ∷ τ) e (done n (declaration_of scope x) rest any (λ k. Here sign.Equals ∷ ValueOf scope d ∷ τ) le tt)) (λ k l g.
    sign_then sign.Equals n k.1 (ValueOf scope d ∷ τ) _ any (λ s. τ) (omega (arith, l)) (λ a j.
    bind n a (ValueOf scope d ∷ τ) (value_with d scope None what.Value a) any (λ y. τ) (λ y. Ok (sugar.Tell left k.0 y.0, y.1)) any (λ s. τ) (value_here d v scope n a τ goes (omega (arith, j))) (λ y i h. done n (sugar.Tell left k.0 y.0) y.1 any (λ s. τ) i tt)))

raise_read : (d : ℕ) (v : ReadsValues d) (scope : Scope) (left n : ℕ) (symbols : List Symbol) (τ : List Point) → length symbols ≤ n + 1 → IsReadFrom n symbols (ValueOf scope d ∷ Here sign.End ∷ τ) (raise_at (value_with d) scope left symbols) any (λ s. τ)
raise_read d v scope left n symbols τ le =
    bind n symbols (ValueOf scope d ∷ Here sign.End ∷ τ) (value_with d scope None what.Value symbols) any (λ y. Here sign.End ∷ τ) _ any (λ s. τ) (value_here d v scope n symbols (Here sign.End ∷ τ) refl le)
    (λ y l g. sign_last sign.End n y.1 τ (sugar.Acts left action.Raise (value_and y.0 no_values)) (omega (arith, l)))

call_statement_read : (d : ℕ) (v : ReadsValues d) (scope : Scope) (left n : ℕ) (symbols : List Symbol) (τ : List Point) → length symbols ≤ n + 1 → IsReadFrom n symbols (CallName AsStatement scope d ∷ τ) (call_statement_at (value_with d) scope left symbols) any (λ s. τ)
call_statement_read d v scope left n symbols τ le =
    bind n symbols (CallName AsStatement scope d ∷ τ) (call_at (value_with d) AsStatement scope symbols) any (λ c. τ) (λ c. Ok (call_statement c.0.0 left c.0.1 c.0.2, c.1)) any (λ s. τ) (call_read d v AsStatement scope n symbols τ le) (λ c l g. done n (call_statement c.0.0 left c.0.1 c.0.2) c.1 any (λ s. τ) l tt)

local_read : (d : ℕ) (r : Reads d) (scope : Scope) (left n : ℕ) (symbols : List Symbol) (τ : List Point) → length symbols ≤ n + 1 → IsReadFrom n symbols (LocalName scope d ∷ τ) (local_at (statement_with d) scope left symbols) any (λ s. τ)
local_read d r scope left n symbols τ le =
    bind n symbols (LocalName scope d ∷ τ) (first_local_at symbols) any (λ xs. At First Ends (scope ++ xs) d ∷ τ) _ any (λ s. τ) (first_local_read n symbols scope d τ le) (λ m l g.
    bind n m.1 (At First Ends (scope ++ m.0) d ∷ τ) (body_at (statement_with d) (scope ++ m.0) m.1) any (λ q. τ) (λ q. Ok (sugar.Local left (length m.0) q.0, q.1)) any (λ s. τ) (body_read d r (scope ++ m.0) n m.1 τ (omega (arith, l))) (λ q k h. done n (sugar.Local left (length m.0) q.0) q.1 any (λ s. τ) k tt))

callable_statement_read : (d : ℕ) (r : Reads d) (c : Callable) (scope : Scope) (left n : ℕ) (symbols : List Symbol) (τ : List Point) → length symbols ≤ n + 1
    → IsReadFrom n symbols (Here sign.OpenCurly ∷ CallableName c scope d ∷ τ) (callable_statement_at (readers_over (below d) d) c scope left symbols) any (λ s. τ)
callable_statement_read d r c scope left n symbols τ le =
    sign_then sign.OpenCurly n symbols (CallableName c scope d ∷ τ) _ any (λ s. τ) le (λ a j.
    bind n a (CallableName c scope d ∷ τ) (used_variable_at what.Variable scope a) any (λ k. Formals c scope [] d ∷ τ) _ any (λ s. τ) (callable_name_read n c scope d a τ (omega (arith, j))) (λ x l g.
    bind n x.1 (Formals c scope [] d ∷ τ) (callable_at (readers_over (below d) d) c scope left x.1) any (λ v. τ) (λ v. Ok (sugar.Tell left x.0 v.0, v.1)) any (λ s. τ) (callable_read d r c scope left n x.1 τ (omega (arith, l))) (λ v k h. done n (sugar.Tell left x.0 v.0) v.1 any (λ s. τ) k tt)))

thread_body : (d : ℕ) (r : Reads d) (scope : Scope) (left n : ℕ) (symbols : List Symbol) (τ : List Point) → NothingBeside AfterThread Ends scope d symbols → length symbols ≤ n + 1
    → IsReadFrom n symbols (At AfterThread Ends scope d ∷ τ) (closed_at (statement_with d) closer.End scope what.StatementOrAt symbols >>= λ q. Ok (sugar.Thread left None q.0, q.1)) any (λ s. τ)
thread_body d r scope left n symbols τ none le =
    bind n symbols (At AfterThread Ends scope d ∷ τ) (closed_at (statement_with d) closer.End scope what.StatementOrAt symbols) any (λ q. τ) (λ q. Ok (sugar.Thread left None q.0, q.1)) any (λ s. τ) (ended_read d r AfterThread scope what.StatementOrAt n symbols τ refl none le) (λ q k h. done n (sugar.Thread left None q.0) q.1 any (λ s. τ) k tt)

thread_read : (d : ℕ) (r : Reads d) (scope : Scope) (left n : ℕ) (symbols : List Symbol) (τ : List Point) → length symbols ≤ n + 1 → IsReadFrom n symbols (At AfterThread Ends scope d ∷ τ) (thread_at (statement_with d) scope left symbols) any (λ s. τ)
thread_read d r scope left n [] τ le = thread_body d r scope left n [] τ tt le
thread_read d r scope left n (t.At ∷ rest) τ le =
    let l = bind n rest (SiteHere ∷ At First Ends scope d ∷ τ) (site_at rest) any (λ k. At First Ends scope d ∷ τ) (λ k. body_at (statement_with d) scope k.1 >>= λ q. Ok (sugar.Thread left (Some k.0) q.0, q.1)) any (λ s. τ) (site_read n rest (At First Ends scope d ∷ τ) (omega (arith, le))) (λ k l g.
    bind n k.1 (At First Ends scope d ∷ τ) (body_at (statement_with d) scope k.1) any (λ q. τ) (λ q. Ok (sugar.Thread left (Some k.0) q.0, q.1)) any (λ s. τ) (body_read d r scope n k.1 τ (omega (arith, l))) (λ q j h. done n (sugar.Thread left (Some k.0) q.0) q.1 any (λ s. τ) j tt)) in
    record { reads = l.reads; good = l.good }
thread_read d r scope left n (s ∷ rest) τ le = thread_body d r scope left n (s ∷ rest) τ refl le

if_read : (d e : ℕ) (v : ReadsValues e) (r : Reads d) (scope : Scope) (left n : ℕ) (symbols : List Symbol) (τ : List Point) → length symbols ≤ n + 1
    → IsReadFrom n symbols (ValueOf scope e ∷ Here sign.Then ∷ At First BeforeElse scope d ∷ At First Ends scope d ∷ τ) (if_at (value_with e) (statement_with d) scope left symbols) any (λ s. τ)
if_read d e v r scope left n symbols τ le =
    bind n symbols _ (value_with e scope None what.Value symbols) any (λ y. Here sign.Then ∷ At First BeforeElse scope d ∷ At First Ends scope d ∷ τ) _ any (λ s. τ) (value_here e v scope n symbols _ refl le) (λ y l g.
    sign_then sign.Then n y.1 (At First BeforeElse scope d ∷ At First Ends scope d ∷ τ) _ any (λ s. τ) (omega (arith, l)) (λ a k.
    bind n a (At First BeforeElse scope d ∷ At First Ends scope d ∷ τ) (closed_at (statement_with d) closer.Else scope what.Statement a) any (λ q. At First Ends scope d ∷ τ) _ any (λ s. τ) (chosen_read d r scope n a (At First Ends scope d ∷ τ) (omega (arith, k))) (λ q j h.
    bind n q.1 (At First Ends scope d ∷ τ) (body_at (statement_with d) scope q.1) any (λ o. τ) (λ o. Ok (sugar.IfStatement left y.0 q.0 o.0, o.1)) any (λ s. τ) (body_read d r scope n q.1 τ (omega (arith, j))) (λ o i w. done n (sugar.IfStatement left y.0 q.0 o.0) o.1 any (λ s. τ) i tt))))

-- ---- clauses

clause_same : (scope a b : Scope) (d : ℕ) (symbols : List Symbol) (τ : List Point) → is_end_of closer.OfClause symbols ≡ true → run symbols (At Later (InClause scope d) a d ∷ τ) ≡ run symbols (At Later (InClause scope d) b d ∷ τ)
clause_same scope a b d [] τ e = absurd cc
clause_same scope a b d (t.Clause ∷ rest) τ e = refl
clause_same scope a b d (t.Else ∷ rest) τ e = refl
clause_same scope a b d (s ∷ rest) τ e = absurd cc

handler_same : (scope a b : Scope) (d : ℕ) (symbols : List Symbol) (τ : List Point) → is_end_of closer.OfHandler symbols ≡ true → run symbols (At Later (InHandler scope d) a d ∷ τ) ≡ run symbols (At Later (InHandler scope d) b d ∷ τ)
handler_same scope a b d [] τ e = absurd cc
handler_same scope a b d (t.Finally ∷ rest) τ e = refl
handler_same scope a b d (t.End ∷ rest) τ e = refl
handler_same scope a b d (s ∷ rest) τ e = absurd cc

abbrev pub ClauseEnds : {X : Type 0} → X × List Symbol → Type 0
ClauseEnds x = is_end_of closer.OfClause x.1 ≡ true

pub clause_read : (d : ℕ) (r : Reads d) (scope : Scope) (n : ℕ) (symbols : List Symbol) (τ : List Point) → length symbols ≤ n + 1
    → IsReadFrom n symbols (PatternOf OfStatements scope d ∷ τ) (clause_at (statement_with d) scope symbols) ClauseEnds (λ c. At Later (InClause scope d) scope d ∷ τ)
clause_read d r scope n symbols τ le =
    clause_head_then OfStatements scope d n symbols τ (λ m. sequence_at (statement_with d) closer.OfClause m.1 what.Statement m.2 >>= λ q. Ok ((m.0, q.0), q.1)) ClauseEnds (λ c. At Later (InClause scope d) scope d ∷ τ) le (λ m l.
    bind n m.2 (At First (InClause scope d) m.1 d ∷ τ) (sequence_at (statement_with d) closer.OfClause m.1 what.Statement m.2) (IsClosed (InClause scope d)) (λ q. At Later (InClause scope d) m.1 d ∷ τ) (λ q. Ok ((m.0, q.0), q.1)) ClauseEnds (λ c. At Later (InClause scope d) scope d ∷ τ)
    (sequence_read d r First (InClause scope d) m.1 what.Statement n m.2 τ refl (first_beside (InClause scope d) m.1 d m.2) (omega (arith, l))) (λ q k g. record { reads = clause_same scope m.1 scope d q.1 τ g; good = (k, g) }))

clause_ends : (d : ℕ) (scope : Scope) (another : List Symbol → Read Clauses) (cs : Clauses) (n : ℕ) (symbols : List Symbol) (τ : List Point) → is_end_of closer.OfClause symbols ≡ true → length symbols ≤ n
    → ((rest : List Symbol) → length rest < length symbols → IsReadFrom n rest (PatternOf OfStatements scope d ∷ τ) (another rest) any (λ x. At First Ends scope d ∷ τ)) → IsReadFrom n symbols (At Later (InClause scope d) scope d ∷ τ) (clause_end_at another cs symbols) any (λ x. At First Ends scope d ∷ τ)
clause_ends d scope another cs n [] τ e le next = absurd cc
clause_ends d scope another cs n (t.Clause ∷ rest) τ e le next = let l = next rest (omega arith) in record { reads = l.reads; good = l.good }
clause_ends d scope another cs n (t.Else ∷ rest) τ e le next = record { reads = refl; good = (omega (arith, le), tt) }
clause_ends d scope another cs n (s ∷ rest) τ e le next = absurd cc

clauses_read : (fuel d : ℕ) (r : Reads d) (scope : Scope) (before : Clauses) (n : ℕ) (symbols : List Symbol) (τ : List Point) → length symbols < fuel → length symbols ≤ n + 1
    → IsReadFrom n symbols (PatternOf OfStatements scope d ∷ τ) (clauses_at (statement_with d) scope fuel before symbols) any (λ x. At First Ends scope d ∷ τ)
unfolding clauses_at
clauses_read zero d r scope before n symbols τ lt le = absurd (omega (arith, lt))
clauses_read (suc fuel) d r scope before n [] τ lt le = record { reads = refl; good = tt }
clauses_read (suc fuel) d r scope before n (x ∷ xs) τ lt le =
    weaken (length xs) n (x ∷ xs) (PatternOf OfStatements scope d ∷ τ) _ any (λ y. At First Ends scope d ∷ τ) (omega (arith, le))
    (bind (length xs) (x ∷ xs) (PatternOf OfStatements scope d ∷ τ) (clause_at (statement_with d) scope (x ∷ xs)) ClauseEnds (λ c. At Later (InClause scope d) scope d ∷ τ) _ any (λ y. At First Ends scope d ∷ τ) (clause_read d r scope (length xs) (x ∷ xs) τ (omega arith))
    (λ c l g. clause_ends d scope (clauses_at (statement_with d) scope fuel (with_clause before c.0.0 c.0.1)) (with_clause before c.0.0 c.0.1) (length xs) c.1 τ g l
    (λ rest k. clauses_read fuel d r scope (with_clause before c.0.0 c.0.1) (length xs) rest τ (omega (arith, k, l, lt)) (omega (arith, k, l)))))

case_read : (d e : ℕ) (v : ReadsValues e) (r : Reads d) (scope : Scope) (left n : ℕ) (symbols : List Symbol) (τ : List Point) → length symbols ≤ n + 1
    → IsReadFrom n symbols (ValueOf scope e ∷ Here sign.Of ∷ PatternOf OfStatements scope d ∷ τ) (case_at (value_with e) (statement_with d) scope left symbols) any (λ s. τ)
case_read d e v r scope left n symbols τ le =
    bind n symbols _ (value_with e scope None what.Value symbols) any (λ y. Here sign.Of ∷ PatternOf OfStatements scope d ∷ τ) _ any (λ s. τ) (value_here e v scope n symbols _ refl le) (λ y l g.
    sign_then sign.Of n y.1 (PatternOf OfStatements scope d ∷ τ) _ any (λ s. τ) (omega (arith, l)) (λ m k.
    bind n m (PatternOf OfStatements scope d ∷ τ) (clauses_at (statement_with d) scope (length m + 1) no_cases m) any (λ x. At First Ends scope d ∷ τ) _ any (λ s. τ) (clauses_read (length m + 1) d r scope no_cases n m τ (omega arith) (omega (arith, k))) (λ cs j h.
    bind n cs.1 (At First Ends scope d ∷ τ) (body_at (statement_with d) scope cs.1) any (λ o. τ) (λ o. Ok (sugar.CaseStatement left y.0 cs.0 o.0, o.1)) any (λ s. τ) (body_read d r scope n cs.1 τ (omega (arith, j))) (λ o i w. done n (sugar.CaseStatement left y.0 cs.0 o.0) o.1 any (λ s. τ) i tt))))

-- ---- `try`

abbrev HandlerEnds : {X : Type 0} → X × List Symbol → Type 0
HandlerEnds x = is_end_of closer.OfHandler x.1 ≡ true

handler_read : (d : ℕ) (r : Reads d) (scope : Scope) (n : ℕ) (symbols : List Symbol) (τ : List Point) → length symbols ≤ n + 1
    → IsReadFrom n symbols (CatchName scope d ∷ τ) (handler_at (statement_with d) scope symbols) HandlerEnds (λ q. At Later (InHandler scope d) scope d ∷ τ)
handler_read d r scope n symbols τ le =
    bind n symbols (CatchName scope d ∷ τ) (catch_name_at symbols) any (λ x. Here sign.Then ∷ At First (InHandler scope d) (scope ++ x ∷ []) d ∷ τ) _ HandlerEnds (λ q. At Later (InHandler scope d) scope d ∷ τ) (catch_read n scope d symbols τ le) (λ x l g.
    sign_then sign.Then n x.1 (At First (InHandler scope d) (scope ++ x.0 ∷ []) d ∷ τ) _ HandlerEnds (λ q. At Later (InHandler scope d) scope d ∷ τ) (omega (arith, l)) (λ rest k. moved x.0 rest (sequence_at (statement_with d) closer.OfHandler (scope ++ x.0 ∷ []) what.Statement rest)
    (sequence_read d r First (InHandler scope d) (scope ++ x.0 ∷ []) what.Statement n rest τ refl (first_beside (InHandler scope d) (scope ++ x.0 ∷ []) d rest) (omega (arith, k)))))
  where
    moved : (x : List ℕ) (rest : List Symbol) (q : Read Statements) → IsReadFrom n rest (At First (InHandler scope d) (scope ++ x ∷ []) d ∷ τ) q (IsClosed (InHandler scope d)) (λ y. At Later (InHandler scope d) (scope ++ x ∷ []) d ∷ τ)
        → IsReadFrom n rest (At First (InHandler scope d) (scope ++ x ∷ []) d ∷ τ) q HandlerEnds (λ y. At Later (InHandler scope d) scope d ∷ τ)
    moved x rest (Ok y) a = record { reads = a.reads ∙ handler_same scope (scope ++ x ∷ []) scope d y.1 τ a.good.1; good = a.good }
    moved x rest (Err g) a = record { reads = a.reads; good = tt }

handler_ends : (d : ℕ) (r : Reads d) (scope : Scope) (left : ℕ) (q o : Statements) (n : ℕ) (symbols : List Symbol) (τ : List Point) → is_end_of closer.OfHandler symbols ≡ true → length symbols ≤ n
    → IsReadFrom n symbols (At Later (InHandler scope d) scope d ∷ τ) (handler_end_at (statement_with d) scope left q o symbols) any (λ s. τ)
handler_ends d r scope left q o n [] τ e le = absurd cc
handler_ends d r scope left q o n (t.Finally ∷ rest) τ e le =
    let l = bind n rest (At First Ends scope d ∷ τ) (body_at (statement_with d) scope rest) any (λ u. τ) (λ u. Ok (sugar.Finally left (statement_and (sugar.Try left q o) no_statements) u.0, u.1)) any (λ s. τ) (body_read d r scope n rest τ (omega (arith, le)))
    (λ u k g. done n (sugar.Finally left (statement_and (sugar.Try left q o) no_statements) u.0) u.1 any (λ s. τ) k tt) in
    record { reads = l.reads; good = l.good }
handler_ends d r scope left q o n (t.End ∷ rest) τ e le = record { reads = refl; good = (omega (arith, le), tt) }
handler_ends d r scope left q o n (s ∷ rest) τ e le = absurd cc

try_ends : (d : ℕ) (r : Reads d) (scope : Scope) (left : ℕ) (q : Statements) (n : ℕ) (symbols : List Symbol) (τ : List Point) → is_end_of closer.OfTry symbols ≡ true → length symbols ≤ n
    → IsReadFrom n symbols (At Later (InTry scope d) scope d ∷ τ) (try_end_at (statement_with d) scope left q symbols) any (λ s. τ)
try_ends d r scope left q n [] τ e le = absurd cc
try_ends d r scope left q n (t.Catch ∷ rest) τ e le =
    let l = bind n rest (CatchName scope d ∷ τ) (handler_at (statement_with d) scope rest) HandlerEnds (λ o. At Later (InHandler scope d) scope d ∷ τ) (λ o. handler_end_at (statement_with d) scope left q o.0 o.1) any (λ s. τ) (handler_read d r scope n rest τ (omega (arith, le)))
    (λ o k g. handler_ends d r scope left q o.0 n o.1 τ g k) in
    record { reads = l.reads; good = l.good }
try_ends d r scope left q n (t.Finally ∷ rest) τ e le =
    let l = bind n rest (At First Ends scope d ∷ τ) (body_at (statement_with d) scope rest) any (λ u. τ) (λ u. Ok (sugar.Finally left q u.0, u.1)) any (λ s. τ) (body_read d r scope n rest τ (omega (arith, le))) (λ u k g. done n (sugar.Finally left q u.0) u.1 any (λ s. τ) k tt) in
    record { reads = l.reads; good = l.good }
try_ends d r scope left q n (s ∷ rest) τ e le = absurd cc

try_read : (d : ℕ) (r : Reads d) (scope : Scope) (left n : ℕ) (symbols : List Symbol) (τ : List Point) → length symbols ≤ n + 1 → IsReadFrom n symbols (At First (InTry scope d) scope d ∷ τ) (try_at (statement_with d) scope left symbols) any (λ s. τ)
try_read d r scope left n symbols τ le =
    bind n symbols (At First (InTry scope d) scope d ∷ τ) (sequence_at (statement_with d) closer.OfTry scope what.Statement symbols) (IsClosed (InTry scope d)) (λ q. At Later (InTry scope d) scope d ∷ τ) (λ q. try_end_at (statement_with d) scope left q.0 q.1) any (λ s. τ)
    (sequence_read d r First (InTry scope d) scope what.Statement n symbols τ refl (first_beside (InTry scope d) scope d symbols) le) (λ q l g. try_ends d r scope left q.0 n q.1 τ g l)

-- ---- statements

kind_read : (d : ℕ) (v : ReadsValues (suc d)) (r : Reads d) (stage : Stage) (c : Closing) (scope : Scope) (n : ℕ) (symbols : List Symbol) (σ : List Point) → is_at_statement symbols ≡ true → length symbols ≤ n + 1
    → IsReadFrom n symbols (At stage c scope (suc d) ∷ σ) (kind_at (value_with (suc d)) (readers_over (below d) d) scope symbols) any (λ s. At Later c scope (suc d) ∷ σ)
kind_read d v r stage c scope n [] σ e le = absurd cc
kind_read d v r stage c scope n (t.Skip ∷ rest) σ e le = record { reads = refl; good = (omega (arith, le), tt) }
kind_read d v r stage c scope n (t.Variable x ∷ rest) σ e le = tell_read (suc d) v scope (length (t.Variable x ∷ rest)) n x rest (At stage c scope (suc d) ∷ σ) (At Later c scope (suc d) ∷ σ) refl refl (omega (arith, le))
kind_read d v r stage c scope n (t.OpenCurly ∷ rest) σ e le = let l = call_statement_read (suc d) v scope (length (t.OpenCurly ∷ rest)) n rest (At Later c scope (suc d) ∷ σ) (omega (arith, le)) in record { reads = l.reads; good = l.good }
kind_read d v r stage c scope n (t.Raise ∷ rest) σ e le = let l = raise_read (suc d) v scope (length (t.Raise ∷ rest)) n rest (At Later c scope (suc d) ∷ σ) (omega (arith, le)) in record { reads = l.reads; good = l.good }
kind_read d v r stage c scope n (t.Local ∷ rest) σ e le = let l = local_read d r scope (length (t.Local ∷ rest)) n rest (At Later c scope (suc d) ∷ σ) (omega (arith, le)) in record { reads = l.reads; good = l.good }
kind_read d v r stage c scope n (t.Proc ∷ rest) σ e le = let l = callable_statement_read d r OfProc scope (length (t.Proc ∷ rest)) n rest (At Later c scope (suc d) ∷ σ) (omega (arith, le)) in record { reads = l.reads; good = l.good }
kind_read d v r stage c scope n (t.Fun ∷ rest) σ e le = let l = callable_statement_read d r OfFun scope (length (t.Fun ∷ rest)) n rest (At Later c scope (suc d) ∷ σ) (omega (arith, le)) in record { reads = l.reads; good = l.good }
kind_read d v r stage c scope n (t.Thread ∷ rest) σ e le = let l = thread_read d r scope (length (t.Thread ∷ rest)) n rest (At Later c scope (suc d) ∷ σ) (omega (arith, le)) in record { reads = l.reads; good = l.good }
kind_read d v r stage c scope n (t.If ∷ rest) σ e le = let l = if_read d (suc d) v r scope (length (t.If ∷ rest)) n rest (At Later c scope (suc d) ∷ σ) (omega (arith, le)) in record { reads = l.reads; good = l.good }
kind_read d v r stage c scope n (t.Case ∷ rest) σ e le = let l = case_read d (suc d) v r scope (length (t.Case ∷ rest)) n rest (At Later c scope (suc d) ∷ σ) (omega (arith, le)) in record { reads = l.reads; good = l.good }
kind_read d v r stage c scope n (t.Try ∷ rest) σ e le = let l = try_read d r scope (length (t.Try ∷ rest)) n rest (At Later c scope (suc d) ∷ σ) (omega (arith, le)) in record { reads = l.reads; good = l.good }
kind_read d v r stage c scope n (s ∷ rest) σ e le = absurd cc

deep_read : (stage : Stage) (c : Closing) (scope : Scope) (symbols : List Symbol) (σ : List Point) → is_at_statement symbols ≡ true → run symbols (At stage c scope zero ∷ σ) ≡ Some (fault_here Deep symbols)
deep_read stage c scope [] σ e = absurd cc
deep_read stage c scope (t.Skip ∷ rest) σ e = refl
deep_read stage c scope (t.Variable x ∷ rest) σ e = refl
deep_read stage c scope (t.OpenCurly ∷ rest) σ e = refl
deep_read stage c scope (t.Raise ∷ rest) σ e = refl
deep_read stage c scope (t.Local ∷ rest) σ e = refl
deep_read stage c scope (t.Proc ∷ rest) σ e = refl
deep_read stage c scope (t.Fun ∷ rest) σ e = refl
deep_read stage c scope (t.Thread ∷ rest) σ e = refl
deep_read stage c scope (t.If ∷ rest) σ e = refl
deep_read stage c scope (t.Case ∷ rest) σ e = refl
deep_read stage c scope (t.Try ∷ rest) σ e = refl
deep_read stage c scope (s ∷ rest) σ e = absurd cc

-- no statement begins here
no_first : (c : Closing) (scope : Scope) (d : ℕ) (s : Symbol) (rest : List Symbol) → is_at_statement (s ∷ rest) ≡ false → next_first c scope d s ≡ None
no_first c scope d t.Skip rest e = absurd cc
no_first c scope d (t.Variable x) rest e = absurd cc
no_first c scope d t.OpenCurly rest e = absurd cc
no_first c scope d t.Raise rest e = absurd cc
no_first c scope d t.Local rest e = absurd cc
no_first c scope d t.Proc rest e = absurd cc
no_first c scope d t.Fun rest e = absurd cc
no_first c scope d t.Thread rest e = absurd cc
no_first c scope d t.If rest e = absurd cc
no_first c scope d t.Case rest e = absurd cc
no_first c scope d t.Try rest e = absurd cc
no_first c scope d s rest e = refl

no_statement : (stage : Stage) (c : Closing) (scope : Scope) (d : ℕ) (w : What) (symbols : List Symbol) (σ : List Point) → is_at_statement symbols ≡ false → w ≡ expected_statement stage c → NothingBeside stage c scope d symbols
    → run symbols (At stage c scope d ∷ σ) ≡ Some (fault_here (mismatch w symbols) symbols)
no_statement stage c scope d w [] σ b e none = ap (λ (v : What). Some (fault_here (mismatch v []) [])) (sym e)
no_statement stage c scope d w (s ∷ rest) σ b e none =
    let nowhere : next (At stage c scope d ∷ σ) s ≡ None = rw (no_first c scope d s rest b, none) refl in
    ap (λ (o : Option (List Point)). read_step points_automaton (Expected (expected_statement stage c)) (statement_fault scope d s) (s ∷ rest) (λ (k : List Point). run rest k) o) nowhere ∙ ap (λ (v : What). Some (fault_here (mismatch v (s ∷ rest)) (s ∷ rest))) (sym e)

statement_read : (d : ℕ) (v : ReadsValues d) (under : ReadsBelow d) (stage : Stage) (c : Closing) (scope : Scope) (w : What) (n : ℕ) (symbols : List Symbol) (σ : List Point) → w ≡ expected_statement stage c → NothingBeside stage c scope d symbols → length symbols ≤ n + 1
    → IsReadFrom n symbols (At stage c scope d ∷ σ) (statement_with d scope w symbols) any (λ s. At Later c scope d ∷ σ)
unfolding below
statement_read zero v under stage c scope w n symbols σ e none le =
    let chosen : (b : Bool) → is_at_statement symbols ≡ b → IsReadFrom n symbols (At stage c scope zero ∷ σ) (cond b (on_level zero None symbols (kind_at (value_with zero) no_readers scope symbols)) (fault_expected w symbols)) any (λ s. At Later c scope zero ∷ σ) = elim [
      | true ↦ λ b. record { reads = deep_read stage c scope symbols σ b; good = tt }
      | false ↦ λ b. record { reads = no_statement stage c scope zero w symbols σ b e none; good = tt }
    ] in chosen (is_at_statement symbols) refl
statement_read (suc d) v under stage c scope w n symbols σ e none le =
    let chosen : (b : Bool) → is_at_statement symbols ≡ b → IsReadFrom n symbols (At stage c scope (suc d) ∷ σ) (cond b (on_level (suc d) None symbols (kind_at (value_with (suc d)) (readers_over (below d) d) scope symbols)) (fault_expected w symbols)) any (λ s. At Later c scope (suc d) ∷ σ) = elim [
      | true ↦ λ b. kind_read d v (under d refl) stage c scope n symbols σ b le
      | false ↦ λ b. record { reads = no_statement stage c scope (suc d) w symbols σ b e none; good = tt }
    ] in chosen (is_at_statement symbols) refl

-- ---- all levels

values_of : (d : ℕ) → ReadsBelow d → ReadsValues d
values_of d under = record { value = value_read d (λ e same. compounds_read e (under e same)) (λ e same. choices_read e (under e same).values) under }

reads_of : (d : ℕ) → ReadsBelow d → Reads d
reads_of d under = record {
  values = values_of d under;
  operand = operand_read d (λ e same. compounds_read e (under e same));
  tail = tail_read d (λ e same. compounds_read e (under e same)) under;
  statement = statement_read d (values_of d under) under;
}

none_below : ReadsBelow zero
none_below e same = absurd cc

next_below : (d : ℕ) → Reads d → ReadsBelow (suc d)
next_below d r e same = let eq : d ≡ e = cc in subst Reads eq r

pub all_reads : (d : ℕ) → Reads d
all_reads zero = reads_of zero none_below
all_reads (suc d) = reads_of (suc d) (next_below d (all_reads d))

-- ---- programs

-- the fault that reading gives
abbrev pub fault_in : {X : Type 0} → Result X Fault → Option Fault
fault_in (Ok x) = None
fault_in (Err f) = Some f

text_ends : (symbols : List Symbol) → is_end_of closer.EndOfText symbols ≡ true → run symbols (At Later WithText [] 200 ∷ []) ≡ None
text_ends [] e = absurd cc
text_ends (t.EndOfText ∷ rest) e = nothing_left rest
  where
    nothing_left : (rest : List Symbol) → run rest [] ≡ None
    nothing_left [] = refl
    nothing_left (s ∷ rest) = refl
text_ends (s ∷ rest) e = absurd cc

whole_read : (n : ℕ) (symbols : List Symbol) (r : Read Statements) → IsReadFrom n symbols start r (IsClosed WithText) (λ q. At Later WithText [] 200 ∷ []) → run symbols start ≡ fault_in (r >>= λ q. Ok q.0)
whole_read n symbols (Ok q) a = a.reads ∙ text_ends q.1 a.good.1
whole_read n symbols (Err f) a = a.reads

-- the symbols of a program have the fault that reading gives
pub program_read : (symbols : List Symbol) → run symbols start ≡ fault_in (program_at symbols)
unfolding program_at
program_read symbols =
    whole_read (length symbols) symbols (sequence_at (statement_with 200) closer.EndOfText [] what.Statement symbols)
    (sequence_read 200 (all_reads 200) First WithText [] what.Statement (length symbols) symbols [] refl (first_beside WithText [] 200 symbols) (omega arith))
