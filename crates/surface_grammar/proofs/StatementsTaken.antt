-- What the points take is derived: statements and programs; and some program goes on through each symbol that the points take.
use Rattle.std.proofs.Common.{◌≡◌, ◌∙◌, ℕ, zero, suc, ◌<◌, ◌≤◌, List, [], ◌∷◌, ◌++◌, ◌⊎◌, inl, inr, length, Bool, true, false, Option, Some, None, refl, sym, ap, subst, arith}
use Rattle.kernel_syntax.specs.declared.built_in.BuiltIn.{BuiltIn}
use Rattle.kernel_syntax.specs.BuiltIns.{arity_of}
use Rattle.oz_grammar.specs.declared.symbol.Symbol.{Symbol}
use Rattle.oz_grammar.specs.declared.symbol.Symbol.TheVariants as t
use Rattle.oz_grammar.specs.declared.symbol.Sign.TheVariants as sign
use Rattle.oz_grammar.specs.Grammar.{Identifier}
use Rattle.oz_grammar.specs.Scoping.{Scope, built_in_at, pattern_names}
use Rattle.oz_grammar.specs.Faults.{fewer, is_colon}
use Rattle.oz_grammar.specs.Points.{First, AfterThread, Later}
use Rattle.oz_grammar.specs.Automata.{state_behind, Look, Alone, ByColon, has_colon, IsCompletedBy, IsViable, then_points, or_points}
use Rattle.oz_grammar.proofs.Parts.{never, in_text, curly_text, then_text}
use Rattle.surface_grammar.specs.Derivations.{Statement, Skips, Tells, CallsStatement, Raises, Locals, ProcNamed, FunNamed, Threads, ThreadsAt, Ifs, Cases, Tries, TriesFinally, Finally, Clauses, no_cases, case_and, Sequence, One, Then, value_text, statement_text, clauses_text, sequence_text, HasAllArguments, StatementDerives, ClausesDerive, SequenceDerives}
use Rattle.surface_grammar.specs.declared.parts.CallUse.TheVariants.{AsStatement}
use Rattle.surface_grammar.specs.declared.parts.Callable.TheVariants.{OfProc, OfFun}
use Rattle.surface_grammar.specs.Points.{OfStatements, Closing, Ends, BeforeElse, InClause, InTry, InHandler, WithText, Point, At, Here, LocalName, CallableName, ValueOf, CallName, PatternOf, CatchName, next_call, next_first, next_closing, next, points_automaton, start}
use Rattle.surface_grammar.specs.Faults.{surface}
use Rattle.surface_grammar.proofs.Leaves.{leads, leaves, leaves_behind, completion, IsStack, all_completes, OnStack, next_stack, stack_behind}
use Rattle.surface_grammar.proofs.Roles.{look, Begun, role_begun}
use Rattle.surface_grammar.proofs.Taken.{locals_taken, formals_taken, pattern_taken}
use Rattle.surface_grammar.proofs.ValuesTaken.{ArgumentsTaken, ClausesTaken, SequenceTaken, Laws, value_then, end_taken, leads_to}
use Rattle.surface_grammar.proofs.HeldTaken.{value_step, operand_step, tail_step, arguments_step, wanted_step, fields_step, value_clauses_step}

pub record StatementTaken (c : Closing) (scope : Scope) (d : ℕ) (σ : List Point) (symbols out : List Symbol) : Type 0 where
  pub statement : Statement
  pub rest : List Symbol
  pub is : symbols ≡ statement_text statement rest
  pub derives : StatementDerives statement scope
  pub on : leaves rest (At Later c scope d ∷ σ) ≡ Some out
  pub shorter : length rest < length symbols

-- ---- statements without bodies

tell_taken : (n : ℕ) → Laws n → (x : Identifier) (xs : List Symbol) (c : Closing) (scope : Scope) (d : ℕ) (σ : List Point) (out : List Symbol) → length xs < n → leaves xs (Here sign.Equals ∷ ValueOf scope d ∷ At Later c scope d ∷ σ) ≡ Some out
    → StatementTaken c scope d σ (t.Variable x ∷ xs) out
tell_taken n law x (t.Equals ∷ xs) c scope d σ out lt h =
    let v = law.value xs scope d (At Later c scope d ∷ σ) out (omega arith) h in
    let l = v.shorter in
    record { statement = Tells x v.value; rest = v.rest; is = ap (λ (r : List Symbol). t.Variable x ∷ t.Equals ∷ r) v.is; derives = v.derives; on = v.on; shorter = omega (arith, l) }
tell_taken n law x xs c scope d σ out lt h = absurd (never out h)

record CallTaken (o : Option BuiltIn) (scope : Scope) (σ : List Point) (symbols out : List Symbol) : Type 0 where
  taken : ArgumentsTaken scope σ symbols out
  all : HasAllArguments o taken.arguments

call_taken : (n : ℕ) → Laws n → (o : Option BuiltIn) (xs : List Symbol) (scope : Scope) (d : ℕ) (σ : List Point) (out : List Symbol) → length xs < n → leaves xs (next_call AsStatement scope d o ++ σ) ≡ Some out → CallTaken o scope σ xs out
call_taken n law None xs scope d σ out lt h = record { taken = law.arguments xs scope d 0 64 σ out lt h; all = tt }
call_taken n law (Some b) xs scope d σ out lt h = let k = law.wanted xs scope d (arity_of b) σ out lt h in record { taken = k.taken; all = k.all }

curly_taken : (n : ℕ) → Laws n → (xs : List Symbol) (c : Closing) (scope : Scope) (d : ℕ) (σ : List Point) (out : List Symbol) → length xs < n → leaves xs (CallName AsStatement scope d ∷ At Later c scope d ∷ σ) ≡ Some out → StatementTaken c scope d σ (t.OpenCurly ∷ xs) out
curly_taken n law (t.Variable p ∷ xs) c scope d σ out lt h =
    let k = call_taken n law (built_in_at scope p) xs scope d (At Later c scope d ∷ σ) out (omega arith) h in
    let l = k.taken.shorter in
    record {
      statement = CallsStatement p k.taken.arguments;
      rest = k.taken.rest;
      is = ap (λ (r : List Symbol). t.OpenCurly ∷ t.Variable p ∷ r) k.taken.is;
      derives = (k.all, k.taken.derives);
      on = k.taken.on;
      shorter = omega (arith, l);
    }
curly_taken n law xs c scope d σ out lt h = absurd (never out h)

raise_taken : (n : ℕ) → Laws n → (xs : List Symbol) (c : Closing) (scope : Scope) (d : ℕ) (σ : List Point) (out : List Symbol) → length xs < n → leaves xs (ValueOf scope d ∷ Here sign.End ∷ At Later c scope d ∷ σ) ≡ Some out → StatementTaken c scope d σ (t.Raise ∷ xs) out
raise_taken n law xs c scope d σ out lt h =
    let v = value_then n law sign.End xs scope d (At Later c scope d ∷ σ) out lt h in
    let l = v.shorter in record { statement = Raises v.value; rest = v.rest; is = ap (λ (r : List Symbol). t.Raise ∷ r) v.is; derives = v.derives; on = v.on; shorter = omega (arith, l) }

-- ---- statements with one body

local_taken : (n : ℕ) → Laws n → (xs : List Symbol) (c : Closing) (scope : Scope) (d : ℕ) (σ : List Point) (out : List Symbol) → length xs < n → leaves xs (LocalName scope (fewer d) ∷ At Later c scope d ∷ σ) ≡ Some out → StatementTaken c scope d σ (t.Local ∷ xs) out
local_taken n law (t.Variable x ∷ xs) c scope d σ out lt h =
    let f = locals_taken xs scope (x ∷ []) (fewer d) (At Later c scope d ∷ σ) out h in
    let l = f.shorter in
    let k = end_taken n law f.rest (scope ++ (x ∷ f.part)) (fewer d) (At Later c scope d ∷ σ) out (omega (arith, l)) f.on in
    let m = k.shorter in
    record {
      statement = Locals x f.part k.sequence;
      rest = k.rest;
      is = ap (λ (r : List Symbol). t.Local ∷ t.Variable x ∷ r) (f.is ∙ ap (in_text f.part) k.is);
      derives = k.derives;
      on = k.on;
      shorter = omega (arith, l, m);
    }
local_taken n law xs c scope d σ out lt h = absurd (never out h)

proc_taken : (n : ℕ) → Laws n → (xs : List Symbol) (c : Closing) (scope : Scope) (d : ℕ) (σ : List Point) (out : List Symbol) → length xs < n → leaves xs (Here sign.OpenCurly ∷ CallableName OfProc scope (fewer d) ∷ At Later c scope d ∷ σ) ≡ Some out
    → StatementTaken c scope d σ (t.Proc ∷ xs) out
proc_taken n law (t.OpenCurly ∷ t.Variable x ∷ xs) c scope d σ out lt h =
    let f = formals_taken xs OfProc scope [] (fewer d) (At Later c scope d ∷ σ) out h in
    let l = f.shorter in
    let k = end_taken n law f.rest (scope ++ f.part) (fewer d) (At Later c scope d ∷ σ) out (omega (arith, l)) f.on in
    let m = k.shorter in
    record {
      statement = ProcNamed x f.part k.sequence;
      rest = k.rest;
      is = ap (λ (r : List Symbol). t.Proc ∷ t.OpenCurly ∷ t.Variable x ∷ r) (f.is ∙ ap (curly_text f.part) k.is);
      derives = k.derives;
      on = k.on;
      shorter = omega (arith, l, m);
    }
proc_taken n law xs c scope d σ out lt h = absurd (never out h)

fun_taken : (n : ℕ) → Laws n → (xs : List Symbol) (c : Closing) (scope : Scope) (d : ℕ) (σ : List Point) (out : List Symbol) → length xs < n → leaves xs (Here sign.OpenCurly ∷ CallableName OfFun scope (fewer d) ∷ At Later c scope d ∷ σ) ≡ Some out
    → StatementTaken c scope d σ (t.Fun ∷ xs) out
fun_taken n law (t.OpenCurly ∷ t.Variable x ∷ xs) c scope d σ out lt h =
    let f = formals_taken xs OfFun scope [] (fewer d) (At Later c scope d ∷ σ) out h in
    let l = f.shorter in
    let k = value_then n law sign.End f.rest (scope ++ f.part) (fewer d) (At Later c scope d ∷ σ) out (omega (arith, l)) f.on in
    let m = k.shorter in
    record {
      statement = FunNamed x f.part k.value;
      rest = k.rest;
      is = ap (λ (r : List Symbol). t.Fun ∷ t.OpenCurly ∷ t.Variable x ∷ r) (f.is ∙ ap (curly_text f.part) k.is);
      derives = k.derives;
      on = k.on;
      shorter = omega (arith, l, m);
    }
fun_taken n law xs c scope d σ out lt h = absurd (never out h)

thread_by : (n : ℕ) → Laws n → (xs : List Symbol) (c : Closing) (scope : Scope) (d : ℕ) (σ : List Point) (out : List Symbol) → length xs < n → leaves xs (At First Ends scope (fewer d) ∷ At Later c scope d ∷ σ) ≡ Some out → StatementTaken c scope d σ (t.Thread ∷ xs) out
thread_by n law xs c scope d σ out lt h =
    let k = end_taken n law xs scope (fewer d) (At Later c scope d ∷ σ) out lt h in
    let m = k.shorter in record { statement = Threads k.sequence; rest = k.rest; is = ap (λ (r : List Symbol). t.Thread ∷ r) k.is; derives = k.derives; on = k.on; shorter = omega (arith, m) }

thread_taken : (n : ℕ) → Laws n → (xs : List Symbol) (c : Closing) (scope : Scope) (d : ℕ) (σ : List Point) (out : List Symbol) → length xs < n → leaves xs (At AfterThread Ends scope (fewer d) ∷ At Later c scope d ∷ σ) ≡ Some out
    → StatementTaken c scope d σ (t.Thread ∷ xs) out
thread_taken n law (t.At ∷ t.Integer i ∷ xs) c scope d σ out lt h =
    let k = end_taken n law xs scope (fewer d) (At Later c scope d ∷ σ) out (omega arith) h in
    let m = k.shorter in
    record { statement = ThreadsAt i k.sequence; rest = k.rest; is = ap (λ (r : List Symbol). t.Thread ∷ t.At ∷ t.Integer i ∷ r) k.is; derives = k.derives; on = k.on; shorter = omega (arith, m) }
thread_taken n law (t.At ∷ xs) c scope d σ out lt h = absurd (never out h)
thread_taken n law [] c scope d σ out lt h = absurd (never out h)
thread_taken n law (x ∷ xs) c scope d σ out lt h = thread_by n law (x ∷ xs) c scope d σ out lt h

-- ---- branches

else_by : (y : Symbol) (follow : List Point) → next_closing BeforeElse y ≡ Some follow → (y ≡ t.Else) × (follow ≡ [])
else_by t.Else follow e = let same : [] ≡ follow = cc in (refl, sym same)
else_by y follow e = absurd cc

if_taken : (n : ℕ) → Laws n → (xs : List Symbol) (c : Closing) (scope : Scope) (d : ℕ) (σ : List Point) (out : List Symbol) → length xs < n
    → leaves xs (ValueOf scope d ∷ Here sign.Then ∷ At First BeforeElse scope (fewer d) ∷ At First Ends scope (fewer d) ∷ At Later c scope d ∷ σ) ≡ Some out → StatementTaken c scope d σ (t.If ∷ xs) out
if_taken n law xs c scope d σ out lt h =
    let v = value_then n law sign.Then xs scope d (At First BeforeElse scope (fewer d) ∷ At First Ends scope (fewer d) ∷ At Later c scope d ∷ σ) out lt h in
    let l = v.shorter in
    let q = law.sequence v.rest BeforeElse scope (fewer d) (At First Ends scope (fewer d) ∷ At Later c scope d ∷ σ) out (omega (arith, l)) v.on in
    let e = else_by q.closer q.follow q.closes in
    let m = q.shorter in
    let on : leaves q.rest (At First Ends scope (fewer d) ∷ At Later c scope d ∷ σ) ≡ Some out = subst (λ (f : List Point). leaves q.rest (f ++ (At First Ends scope (fewer d) ∷ At Later c scope d ∷ σ)) ≡ Some out) e.1 q.on in
    let r = end_taken n law q.rest scope (fewer d) (At Later c scope d ∷ σ) out (omega (arith, l, m)) on in
    let j = r.shorter in
    record {
      statement = Ifs v.value q.sequence r.sequence;
      rest = r.rest;
      is = ap (λ (a : List Symbol). t.If ∷ a) (v.is ∙ ap (λ (a : List Symbol). value_text v.value (t.Then ∷ a)) (q.is ∙ ap (λ (y : Symbol). sequence_text q.sequence (y ∷ q.rest)) e.0 ∙ ap (λ (a : List Symbol). sequence_text q.sequence (t.Else ∷ a)) r.is));
      derives = (v.derives, q.derives, r.derives);
      on = r.on;
      shorter = omega (arith, l, m, j);
    }

case_taken : (n : ℕ) → Laws n → (xs : List Symbol) (c : Closing) (scope : Scope) (d : ℕ) (σ : List Point) (out : List Symbol) → length xs < n
    → leaves xs (ValueOf scope d ∷ Here sign.Of ∷ PatternOf OfStatements scope (fewer d) ∷ At Later c scope d ∷ σ) ≡ Some out → StatementTaken c scope d σ (t.Case ∷ xs) out
case_taken n law xs c scope d σ out lt h =
    let v = value_then n law sign.Of xs scope d (PatternOf OfStatements scope (fewer d) ∷ At Later c scope d ∷ σ) out lt h in
    let l = v.shorter in
    let k = law.clauses v.rest scope (fewer d) (At Later c scope d ∷ σ) out (omega (arith, l)) v.on in
    let m = k.shorter in
    let r = end_taken n law k.rest scope (fewer d) (At Later c scope d ∷ σ) out (omega (arith, l, m)) k.on in
    let j = r.shorter in
    record {
      statement = Cases v.value k.pattern k.sequence k.others r.sequence;
      rest = r.rest;
      is = ap (λ (a : List Symbol). t.Case ∷ a) (v.is ∙ ap (λ (a : List Symbol). value_text v.value (t.Of ∷ a)) (k.is ∙ ap (λ (a : List Symbol). then_text k.pattern (sequence_text k.sequence (clauses_text k.others (t.Else ∷ a)))) r.is));
      derives = (v.derives, k.derives, k.others_derive, r.derives);
      on = r.on;
      shorter = omega (arith, l, m, j);
    }

-- what closes the statements of a clause: `else`, or another clause
clause_by : (scope : Scope) (d : ℕ) (y : Symbol) (follow : List Point) → next_closing (InClause scope d) y ≡ Some follow → ((y ≡ t.Else) × (follow ≡ At First Ends scope d ∷ [])) ⊎ ((y ≡ t.Clause) × (follow ≡ PatternOf OfStatements scope d ∷ []))
clause_by scope d t.Else follow e = let same : At First Ends scope d ∷ [] ≡ follow = cc in inl (refl, sym same)
clause_by scope d t.Clause follow e = let same : PatternOf OfStatements scope d ∷ [] ≡ follow = cc in inr (refl, sym same)
clause_by scope d y follow e = absurd cc

-- the clauses behind the statements of one
record OthersTaken (scope : Scope) (d : ℕ) (σ : List Point) (symbols out : List Symbol) : Type 0 where
  others : Clauses
  rest : List Symbol
  is : symbols ≡ clauses_text others (t.Else ∷ rest)
  derives : ClausesDerive others scope
  on : leaves rest (At First Ends scope d ∷ σ) ≡ Some out
  few : length rest < length symbols

others_taken : (n : ℕ) → Laws n → (y : Symbol) (rest : List Symbol) (follow : List Point) (scope : Scope) (d : ℕ) (σ : List Point) (out : List Symbol) → length rest < n → leaves rest (follow ++ σ) ≡ Some out
    → ((y ≡ t.Else) × (follow ≡ At First Ends scope d ∷ [])) ⊎ ((y ≡ t.Clause) × (follow ≡ PatternOf OfStatements scope d ∷ [])) → OthersTaken scope d σ (y ∷ rest) out
others_taken n law y rest follow scope d σ out lt h (inl e) =
    record { others = no_cases; rest = rest; is = ap (λ (x : Symbol). x ∷ rest) e.0; derives = tt; on = subst (λ (f : List Point). leaves rest (f ++ σ) ≡ Some out) e.1 h; few = omega arith }
others_taken n law y rest follow scope d σ out lt h (inr e) =
    let k = law.clauses rest scope d σ out lt (subst (λ (f : List Point). leaves rest (f ++ σ) ≡ Some out) e.1 h) in
    let l = k.shorter in
    record {
      others = case_and k.pattern k.sequence k.others;
      rest = k.rest;
      is = ap (λ (x : Symbol). x ∷ rest) e.0 ∙ ap (λ (a : List Symbol). t.Clause ∷ a) k.is;
      derives = (k.derives, k.others_derive);
      on = k.on;
      few = omega (arith, l);
    }

clauses_step : (n : ℕ) → Laws n → (symbols : List Symbol) (scope : Scope) (d : ℕ) (σ : List Point) (out : List Symbol) → length symbols < suc n → leaves symbols (PatternOf OfStatements scope d ∷ σ) ≡ Some out → ClausesTaken scope d σ symbols out
clauses_step n law symbols scope d σ out lt h =
    let p = pattern_taken symbols OfStatements scope d σ out h in
    let l = p.shorter in
    let q = law.sequence p.rest (InClause scope d) (scope ++ pattern_names p.part) d σ out (omega (arith, l, lt)) p.on in
    let m = q.shorter in
    let k = others_taken n law q.closer q.rest q.follow scope d σ out (omega (arith, l, m, lt)) q.on (clause_by scope d q.closer q.follow q.closes) in
    let j = k.few in
    let again : length (q.closer ∷ q.rest) ≤ length p.rest = omega (arith, m) in
    record {
      pattern = p.part;
      sequence = q.sequence;
      others = k.others;
      rest = k.rest;
      is = p.is ∙ ap (then_text p.part) (q.is ∙ ap (sequence_text q.sequence) k.is);
      derives = q.derives;
      others_derive = k.derives;
      on = k.on;
      shorter = omega (arith, l, m, j, again);
    }

-- ---- handlers

try_by : (scope : Scope) (d : ℕ) (y : Symbol) (follow : List Point) → next_closing (InTry scope d) y ≡ Some follow → ((y ≡ t.Catch) × (follow ≡ CatchName scope d ∷ [])) ⊎ ((y ≡ t.Finally) × (follow ≡ At First Ends scope d ∷ []))
try_by scope d t.Catch follow e = let same : CatchName scope d ∷ [] ≡ follow = cc in inl (refl, sym same)
try_by scope d t.Finally follow e = let same : At First Ends scope d ∷ [] ≡ follow = cc in inr (refl, sym same)
try_by scope d y follow e = absurd cc

handler_by : (scope : Scope) (d : ℕ) (y : Symbol) (follow : List Point) → next_closing (InHandler scope d) y ≡ Some follow → ((y ≡ t.End) × (follow ≡ [])) ⊎ ((y ≡ t.Finally) × (follow ≡ At First Ends scope d ∷ []))
handler_by scope d t.End follow e = let same : [] ≡ follow = cc in inl (refl, sym same)
handler_by scope d t.Finally follow e = let same : At First Ends scope d ∷ [] ≡ follow = cc in inr (refl, sym same)
handler_by scope d y follow e = absurd cc

-- a `try` up to its `catch` or `finally`
abbrev Tried : Closing → Scope → ℕ → List Point → List Symbol → List Symbol → Type 0
Tried c scope d σ xs out = SequenceTaken (InTry scope (fewer d)) scope (At Later c scope d ∷ σ) xs out

-- the handler, behind its name
handled : (n : ℕ) → Laws n → (c : Closing) (scope : Scope) (d : ℕ) (σ : List Point) (xs out : List Symbol) (q : Tried c scope d σ xs out) (x : Identifier) (ys : List Symbol) → length xs < n → q.closer ≡ t.Catch → q.rest ≡ t.Variable x ∷ t.Then ∷ ys
    → (r : SequenceTaken (InHandler scope (fewer d)) (scope ++ x ∷ []) (At Later c scope d ∷ σ) ys out) → ((r.closer ≡ t.End) × (r.follow ≡ [])) ⊎ ((r.closer ≡ t.Finally) × (r.follow ≡ At First Ends scope (fewer d) ∷ []))
    → StatementTaken c scope d σ (t.Try ∷ xs) out
handled n law c scope d σ xs out q x ys lt e is r (inl f) =
    let l = q.shorter in
    let m = r.shorter in
    let s : length q.rest ≡ suc (suc (length ys)) = ap length is in
    record {
      statement = Tries q.sequence x r.sequence;
      rest = r.rest;
      is = ap (λ (a : List Symbol). t.Try ∷ a)
          (q.is ∙ ap (λ (y : Symbol). sequence_text q.sequence (y ∷ q.rest)) e
          ∙ ap (λ (a : List Symbol). sequence_text q.sequence (t.Catch ∷ a)) (is ∙ ap (λ (a : List Symbol). t.Variable x ∷ t.Then ∷ a) (r.is ∙ ap (λ (y : Symbol). sequence_text r.sequence (y ∷ r.rest)) f.0)));
      derives = (q.derives, r.derives);
      on = subst (λ (k : List Point). leaves r.rest (k ++ (At Later c scope d ∷ σ)) ≡ Some out) f.1 r.on;
      shorter = omega (arith, l, m, s);
    }
handled n law c scope d σ xs out q x ys lt e is r (inr f) =
    let l = q.shorter in
    let m = r.shorter in
    let s : length q.rest ≡ suc (suc (length ys)) = ap length is in
    let on : leaves r.rest (At First Ends scope (fewer d) ∷ At Later c scope d ∷ σ) ≡ Some out = subst (λ (k : List Point). leaves r.rest (k ++ (At Later c scope d ∷ σ)) ≡ Some out) f.1 r.on in
    let u = end_taken n law r.rest scope (fewer d) (At Later c scope d ∷ σ) out (omega (arith, l, m, s, lt)) on in
    let j = u.shorter in
    record {
      statement = TriesFinally q.sequence x r.sequence u.sequence;
      rest = u.rest;
      is = ap (λ (a : List Symbol). t.Try ∷ a)
          (q.is ∙ ap (λ (y : Symbol). sequence_text q.sequence (y ∷ q.rest)) e
          ∙ ap (λ (a : List Symbol). sequence_text q.sequence (t.Catch ∷ a))
          (is ∙ ap (λ (a : List Symbol). t.Variable x ∷ t.Then ∷ a) (r.is ∙ ap (λ (y : Symbol). sequence_text r.sequence (y ∷ r.rest)) f.0 ∙ ap (λ (a : List Symbol). sequence_text r.sequence (t.Finally ∷ a)) u.is)));
      derives = (q.derives, r.derives, u.derives);
      on = u.on;
      shorter = omega (arith, l, m, s, j);
    }

-- the name in `catch`, and `then`
record CatchTaken (scope : Scope) (d : ℕ) (σ : List Point) (symbols out : List Symbol) : Type 0 where
  name : Identifier
  rest : List Symbol
  is : symbols ≡ t.Variable name ∷ t.Then ∷ rest
  on : leaves rest (At First (InHandler scope d) (scope ++ name ∷ []) d ∷ σ) ≡ Some out

catch_taken : (symbols : List Symbol) (scope : Scope) (d : ℕ) (σ : List Point) (out : List Symbol) → leaves symbols (CatchName scope d ∷ σ) ≡ Some out → CatchTaken scope d σ symbols out
catch_taken (t.Variable x ∷ t.Then ∷ xs) scope d σ out h = record { name = x; rest = xs; is = refl; on = h }
catch_taken symbols scope d σ out h = absurd (never out h)

tried : (n : ℕ) → Laws n → (c : Closing) (scope : Scope) (d : ℕ) (σ : List Point) (xs out : List Symbol) (q : Tried c scope d σ xs out) → length xs < n
    → ((q.closer ≡ t.Catch) × (q.follow ≡ CatchName scope (fewer d) ∷ [])) ⊎ ((q.closer ≡ t.Finally) × (q.follow ≡ At First Ends scope (fewer d) ∷ [])) → StatementTaken c scope d σ (t.Try ∷ xs) out
tried n law c scope d σ xs out q lt (inl e) =
    let l = q.shorter in
    let k = catch_taken q.rest scope (fewer d) (At Later c scope d ∷ σ) out (subst (λ (f : List Point). leaves q.rest (f ++ (At Later c scope d ∷ σ)) ≡ Some out) e.1 q.on) in
    let s : length q.rest ≡ suc (suc (length k.rest)) = ap length k.is in
    let r = law.sequence k.rest (InHandler scope (fewer d)) (scope ++ k.name ∷ []) (fewer d) (At Later c scope d ∷ σ) out (omega (arith, l, s, lt)) k.on in
    handled n law c scope d σ xs out q k.name k.rest lt e.0 k.is r (handler_by scope (fewer d) r.closer r.follow r.closes)
tried n law c scope d σ xs out q lt (inr e) =
    let l = q.shorter in
    let on : leaves q.rest (At First Ends scope (fewer d) ∷ At Later c scope d ∷ σ) ≡ Some out = subst (λ (f : List Point). leaves q.rest (f ++ (At Later c scope d ∷ σ)) ≡ Some out) e.1 q.on in
    let u = end_taken n law q.rest scope (fewer d) (At Later c scope d ∷ σ) out (omega (arith, l, lt)) on in
    let j = u.shorter in
    record {
      statement = Finally q.sequence u.sequence;
      rest = u.rest;
      is = ap (λ (a : List Symbol). t.Try ∷ a) (q.is ∙ ap (λ (y : Symbol). sequence_text q.sequence (y ∷ q.rest)) e.0 ∙ ap (λ (a : List Symbol). sequence_text q.sequence (t.Finally ∷ a)) u.is);
      derives = (q.derives, u.derives);
      on = u.on;
      shorter = omega (arith, l, j);
    }

try_taken : (n : ℕ) → Laws n → (xs : List Symbol) (c : Closing) (scope : Scope) (d : ℕ) (σ : List Point) (out : List Symbol) → length xs < n → leaves xs (At First (InTry scope (fewer d)) scope (fewer d) ∷ At Later c scope d ∷ σ) ≡ Some out
    → StatementTaken c scope d σ (t.Try ∷ xs) out
try_taken n law xs c scope d σ out lt h =
    let q = law.sequence xs (InTry scope (fewer d)) scope (fewer d) (At Later c scope d ∷ σ) out lt h in tried n law c scope d σ xs out q lt (try_by scope (fewer d) q.closer q.follow q.closes)

-- ---- statements behind one another

begun_taken : (n : ℕ) → Laws n → (s : Symbol) (xs : List Symbol) (c : Closing) (scope : Scope) (d : ℕ) (σ : List Point) (out : List Symbol) → length xs < n → leads_to xs σ (next_first c scope d s) ≡ Some out → StatementTaken c scope d σ (s ∷ xs) out
begun_taken n law t.Skip xs c scope d σ out lt h = record { statement = Skips; rest = xs; is = refl; derives = tt; on = h; shorter = omega arith }
begun_taken n law (t.Variable x) xs c scope d σ out lt h = tell_taken n law x xs c scope d σ out lt h
begun_taken n law t.OpenCurly xs c scope d σ out lt h = curly_taken n law xs c scope d σ out lt h
begun_taken n law t.Raise xs c scope d σ out lt h = raise_taken n law xs c scope d σ out lt h
begun_taken n law t.Local xs c scope d σ out lt h = local_taken n law xs c scope d σ out lt h
begun_taken n law t.Proc xs c scope d σ out lt h = proc_taken n law xs c scope d σ out lt h
begun_taken n law t.Fun xs c scope d σ out lt h = fun_taken n law xs c scope d σ out lt h
begun_taken n law t.Thread xs c scope d σ out lt h = thread_taken n law xs c scope d σ out lt h
begun_taken n law t.If xs c scope d σ out lt h = if_taken n law xs c scope d σ out lt h
begun_taken n law t.Case xs c scope d σ out lt h = case_taken n law xs c scope d σ out lt h
begun_taken n law t.Try xs c scope d σ out lt h = try_taken n law xs c scope d σ out lt h
begun_taken n law s xs c scope d σ out lt h = absurd (never out h)

-- behind a statement
abbrev pub LaterTaken : Closing → Scope → List Point → List Symbol → List Symbol → Type 0
LaterTaken c scope σ symbols out =
    ((closer : Symbol) × (rest : List Symbol) × (follow : List Point) × (next_closing c closer ≡ Some follow) × (symbols ≡ closer ∷ rest) × (leaves rest (follow ++ σ) ≡ Some out)) ⊎ SequenceTaken c scope σ symbols out

statement_and : (c : Closing) (scope : Scope) (d : ℕ) (σ : List Point) (symbols out : List Symbol) → (s : StatementTaken c scope d σ symbols out) → LaterTaken c scope σ s.rest out → SequenceTaken c scope σ symbols out
statement_and c scope d σ symbols out s (inl k) =
    let e : length s.rest ≡ suc (length k.1) = ap length k.4 in
    record {
      sequence = One s.statement;
      closer = k.0;
      rest = k.1;
      follow = k.2;
      closes = k.3;
      is = s.is ∙ ap (statement_text s.statement) k.4;
      derives = s.derives;
      on = k.5;
      shorter = (let l = s.shorter in omega (arith, l, e));
    }
statement_and c scope d σ symbols out s (inr k) = record {
  sequence = Then s.statement k.sequence;
  closer = k.closer;
  rest = k.rest;
  follow = k.follow;
  closes = k.closes;
  is = s.is ∙ ap (statement_text s.statement) k.is;
  derives = (s.derives, k.derives);
  on = k.on;
  shorter = (let l = s.shorter in let m = k.shorter in omega (arith, l, m));
}

sequence_begun : (n : ℕ) → Laws n → (symbols : List Symbol) (c : Closing) (scope : Scope) (d : ℕ) (σ : List Point) (out : List Symbol) → length symbols < suc n → StatementTaken c scope d σ symbols out → SequenceTaken c scope σ symbols out
sequence_begun n law symbols c scope d σ out lt s = let l = s.shorter in statement_and c scope d σ symbols out s (law.later s.rest c scope d σ out (omega (arith, l, lt)) s.on)

first_leads : (xs : List Symbol) (σ : List Point) (o : Option (List Point)) → leads (leaves xs) (then_points (or_points o None) σ) ≡ leads_to xs σ o
first_leads xs σ None = refl
first_leads xs σ (Some ps) = refl

sequence_step : (n : ℕ) → Laws n → (symbols : List Symbol) (c : Closing) (scope : Scope) (d : ℕ) (σ : List Point) (out : List Symbol) → length symbols < suc n → leaves symbols (At First c scope d ∷ σ) ≡ Some out → SequenceTaken c scope σ symbols out
sequence_step n law [] c scope d σ out lt h = absurd (never out h)
sequence_step n law (x ∷ xs) c scope d σ out lt h =
    sequence_begun n law (x ∷ xs) c scope d σ out lt (begun_taken n law x xs c scope d σ out (omega arith) (sym (first_leads xs σ (next_first c scope d x)) ∙ h))

later_by : (n : ℕ) → Laws n → (x : Symbol) (xs : List Symbol) (c : Closing) (scope : Scope) (d : ℕ) (σ : List Point) (out : List Symbol) (o p : Option (List Point)) → length (x ∷ xs) < suc n → next_first c scope d x ≡ o → next_closing c x ≡ p
    → leads (leaves xs) (then_points (or_points o p) σ) ≡ Some out → LaterTaken c scope σ (x ∷ xs) out
later_by n law x xs c scope d σ out (Some ps) p lt e f h =
    inr (sequence_begun n law (x ∷ xs) c scope d σ out lt (begun_taken n law x xs c scope d σ out (omega arith) (ap (leads_to xs σ) e ∙ h)))
later_by n law x xs c scope d σ out None (Some ps) lt e f h = inl (x, xs, ps, f, refl, h)
later_by n law x xs c scope d σ out None None lt e f h = absurd (never out h)

later_step : (n : ℕ) → Laws n → (symbols : List Symbol) (c : Closing) (scope : Scope) (d : ℕ) (σ : List Point) (out : List Symbol) → length symbols < suc n → leaves symbols (At Later c scope d ∷ σ) ≡ Some out → LaterTaken c scope σ symbols out
later_step n law [] c scope d σ out lt h = absurd (never out h)
later_step n law (x ∷ xs) c scope d σ out lt h = later_by n law x xs c scope d σ out (next_first c scope d x) (next_closing c x) lt refl refl h

-- ---- all of it, by the number of symbols

laws : (n : ℕ) → Laws n
laws zero = record {
  value = λ symbols scope d σ out lt h. absurd (omega arith);
  operand = λ symbols scope d σ out lt h. absurd (omega arith);
  tail = λ symbols scope d σ out lt h. absurd (omega arith);
  arguments = λ symbols scope d k most σ out lt h. absurd (omega arith);
  wanted = λ symbols scope d k σ out lt h. absurd (omega arith);
  fields = λ symbols scope d room before nth σ out lt h. absurd (omega arith);
  value_clauses = λ symbols scope d σ out lt h. absurd (omega arith);
  clauses = λ symbols scope d σ out lt h. absurd (omega arith);
  sequence = λ symbols c scope d σ out lt h. absurd (omega arith);
  later = λ symbols c scope d σ out lt h. absurd (omega arith);
}
laws (suc n) =
    let b = laws n in
    record {
      value = value_step n b;
      operand = operand_step n b;
      tail = tail_step n b;
      arguments = arguments_step n b;
      wanted = wanted_step n b;
      fields = fields_step n b;
      value_clauses = value_clauses_step n b;
      clauses = clauses_step n b;
      sequence = sequence_step n b;
      later = later_step n b;
    }

-- ---- programs

text_by : (y : Symbol) (follow : List Point) → next_closing WithText y ≡ Some follow → (y ≡ t.EndOfText) × (follow ≡ [])
text_by t.EndOfText follow e = let same : [] ≡ follow = cc in (refl, sym same)
text_by y follow e = absurd cc

-- what the points take is a program
pub program_taken : (symbols out : List Symbol) → leaves symbols start ≡ Some out → (q : Sequence) × SequenceDerives q [] × (symbols ≡ sequence_text q (t.EndOfText ∷ out))
program_taken symbols out h =
    let k = (laws (suc (length symbols))).sequence symbols WithText [] 200 [] out (omega arith) h in
    let e = text_by k.closer k.follow k.closes in
    let on : leaves k.rest [] ≡ Some out = subst (λ (f : List Point). leaves k.rest (f ++ []) ≡ Some out) e.1 k.on in
    let same : k.rest ≡ out = cc in
    (k.sequence, k.derives, k.is ∙ ap (λ (y : Symbol). sequence_text k.sequence (y ∷ k.rest)) e.0 ∙ ap (λ (r : List Symbol). sequence_text k.sequence (t.EndOfText ∷ r)) same)

goes_on_with : (front more : List Symbol) (σ : List Point) → state_behind points_automaton front start ≡ Some σ → leaves more σ ≡ Some [] → IsCompletedBy surface front more
goes_on_with front more σ e h = let k = program_taken (front ++ more) [] (leaves_behind front more start σ e ∙ h) in record { program = k.0; derives = k.1; derived = k.2 }

start_stack : IsStack start
start_stack = (tt, tt)

led : (x : Symbol) (more : List Symbol) (σ τ : List Point) → next σ x ≡ Some τ → leaves more τ ≡ Some [] → leaves (x ∷ more) σ ≡ Some []
led x more [] τ n h = absurd cc
led x more (p ∷ σ) τ n h = ap (leads (leaves more)) n ∙ h

on_stack : (σ τ : List Point) (x : Symbol) → IsStack σ → next σ x ≡ Some τ → IsStack τ
on_stack σ τ x h n = subst OnStack n (next_stack σ x h)

-- .. with a colon behind the symbol, or without
colon_through : (front : List Symbol) (σ τ : List Point) (x : Symbol) (xs : List Symbol) (c : Bool) → state_behind points_automaton front start ≡ Some σ → next σ x ≡ Some τ → IsStack τ → Begun τ → has_colon is_colon (x ∷ xs) ≡ c → IsViable surface ByColon front (x ∷ xs)
colon_through front σ τ x xs false e n h b c =
    let closed : has_colon is_colon (x ∷ completion τ) ≡ false = ap (λ (ρ : List Point). has_colon is_colon (x ∷ completion ρ)) b.is in
    record { more = x ∷ completion τ; same = ((completion τ, refl), c ∙ sym closed); goes_on = goes_on_with front (x ∷ completion τ) σ e (led x (completion τ) σ τ n (all_completes τ h)) }
colon_through front σ τ x xs true e n h b c =
    let behind : List Symbol = t.Colon ∷ t.Integer None ∷ t.CloseRound ∷ completion b.behind in
    let inner : IsStack b.behind = (subst IsStack b.is h).1 in
    let taken : leaves behind τ ≡ Some [] = subst (λ (ρ : List Point). leaves behind ρ ≡ Some []) (sym b.is) (all_completes b.behind inner) in
    record { more = x ∷ behind; same = ((behind, refl), c); goes_on = goes_on_with front (x ∷ behind) σ e (led x behind σ τ n taken) }

through_by : (l : Look) (front : List Symbol) (σ τ : List Point) (x : Symbol) (xs : List Symbol) → look σ x ≡ l → state_behind points_automaton front start ≡ Some σ → next σ x ≡ Some τ → IsStack τ → IsViable surface l front (x ∷ xs)
through_by Alone front σ τ x xs k e n h = record { more = x ∷ completion τ; same = (completion τ, refl); goes_on = goes_on_with front (x ∷ completion τ) σ e (led x (completion τ) σ τ n (all_completes τ h)) }
through_by ByColon front σ τ x xs k e n h = colon_through front σ τ x xs (has_colon is_colon (x ∷ xs)) e n h (role_begun σ τ x k n) refl

-- some program goes on through each symbol that is taken, in its role
pub through : (front : List Symbol) (σ τ : List Point) (x : Symbol) (xs : List Symbol) → state_behind points_automaton front start ≡ Some σ → next σ x ≡ Some τ → IsViable surface (look σ x) front (x ∷ xs)
through front σ τ x xs e n = through_by (look σ x) front σ τ x xs refl e n (on_stack σ τ x (stack_behind front start σ start_stack e) n)
