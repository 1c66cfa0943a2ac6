-- What the points take is derived: statements and programs.
use Rattle.std.proofs.Common.{◌≡◌, ℕ, zero, suc, ◌<◌, ◌≤◌, List, [], ◌∷◌, ◌++◌, ◌⊎◌, inl, inr, length, Bool, true, false, cond, Option, Some, None, refl, sym, ap, subst, ◌∙◌, arith}
use Rattle.oz_grammar.specs.declared.symbol.Symbol.{Symbol}
use Rattle.oz_grammar.specs.declared.symbol.Symbol.TheVariants as t
use Rattle.oz_grammar.specs.declared.symbol.Sign.TheVariants as sign
use Rattle.oz_grammar.specs.declared.symbol.Closer.{Closer}
use Rattle.oz_grammar.specs.declared.symbol.Closer.TheVariants as closer
use Rattle.oz_grammar.specs.Grammar.{Identifier, ToInt, Skips, Tells, Calls, Raises, Opening, Locals, ProcValue, ProcNamed, Threads, ThreadsAt, Choice, Ifs, Cases, Statement, Simple, Block, Chooses, Tries, Sequence, One, Then, pattern_text, opening_text, choice_text, stmt_text, seq_text, closer_symbol}
use Rattle.oz_grammar.specs.Scoping.{Scope, built_in_at, opening_scope, choice_scope, StmtDerives, SeqDerives}
use Rattle.oz_grammar.specs.Faults.{fewer}
use Rattle.oz_grammar.specs.Points.{First, AfterThread, Later, Point, At, Here, LocalName, ValueOf, CallName, ProcName, CatchName, points_behind_first, is_closer, next_of, next, points_automaton, start}
use Rattle.oz_grammar.specs.Automata.{then_points, state_behind, Alone, IsCompletedBy, IsViable, or_points}
use Rattle.oz_grammar.specs.Reads.{kernel}
use Rattle.oz_grammar.proofs.Longer.{names_longer, pattern_longer, stmt_longer, seq_longer}
use Rattle.oz_grammar.proofs.Leaves.{leads, leaves, leaves_behind, completion, all_completes}
use Rattle.oz_grammar.proofs.Parts.{never, ValueTaken, variable_taken, atom_taken, pattern_taken, BodyTaken, in_text, curly_text, locals_taken, formals_taken, CallTaken, call_taken}

pub record StmtTaken (c : Closer) (scope : Scope) (d : ℕ) (σ : List Point) (symbols out : List Symbol) : Type 0 where
  pub stmt : Statement
  pub rest : List Symbol
  pub is : symbols ≡ stmt_text stmt rest
  pub derives : StmtDerives stmt scope
  pub on : leaves rest (At Later c scope d ∷ σ) ≡ Some out

pub record SeqTaken (c : Closer) (scope : Scope) (σ : List Point) (symbols out : List Symbol) : Type 0 where
  pub seq : Sequence
  pub rest : List Symbol
  pub is : symbols ≡ seq_text seq (closer_symbol c ∷ rest)
  pub derives : SeqDerives seq scope
  pub on : leaves rest σ ≡ Some out

pub no_truth : false ≡ true → ⊥
no_truth e = cc

-- sequences of fewer than n symbols are derived
abbrev pub SeqLaw : ℕ → Type 0
SeqLaw n = (symbols : List Symbol) (c : Closer) (scope : Scope) (d : ℕ) (σ : List Point) (out : List Symbol) → length symbols < n → leaves symbols (At First c scope d ∷ σ) ≡ Some out → SeqTaken c scope σ symbols out

-- ---- statements without bodies

told : (c : Closer) (scope : Scope) (d : ℕ) (σ : List Point) (x : Identifier) (symbols out : List Symbol) → ValueTaken c scope d σ symbols out → StmtTaken c scope d σ (t.Variable x ∷ t.Equals ∷ symbols) out
told c scope d σ x symbols out v = record { stmt = Simple (Tells x v.part); rest = v.rest; is = ap (λ (a : List Symbol). t.Variable x ∷ t.Equals ∷ a) v.is; derives = tt; on = v.on }

called : (c : Closer) (scope : Scope) (d : ℕ) (σ : List Point) (p : Identifier) (symbols out : List Symbol) → CallTaken (built_in_at scope p) (At Later c scope d ∷ σ) symbols out → StmtTaken c scope d σ (t.OpenCurly ∷ t.Variable p ∷ symbols) out
called c scope d σ p symbols out k = record { stmt = Simple (Calls p k.names); rest = k.rest; is = ap (λ (a : List Symbol). t.OpenCurly ∷ t.Variable p ∷ a) k.is; derives = k.has; on = k.on }

-- ---- statements with bodies

block : (c : Closer) (scope : Scope) (d : ℕ) (σ : List Point) (o : Opening) (symbols out : List Symbol) → SeqTaken closer.End (opening_scope o scope) (At Later c scope d ∷ σ) symbols out → StmtTaken c scope d σ (opening_text o symbols) out
block c scope d σ o symbols out k = record { stmt = Block o k.seq; rest = k.rest; is = ap (opening_text o) k.is; derives = k.derives; on = k.on }

block_at : (c : Closer) (scope : Scope) (d : ℕ) (σ : List Point) (o : Opening) (whole symbols out : List Symbol) → whole ≡ opening_text o symbols → SeqTaken closer.End (opening_scope o scope) (At Later c scope d ∷ σ) symbols out → StmtTaken c scope d σ whole out
block_at c scope d σ o whole symbols out is k = subst (λ (a : List Symbol). StmtTaken c scope d σ a out) (sym is) (block c scope d σ o symbols out k)

-- a list of names, and then a body
body_of : (text : List Identifier → List Symbol → List Symbol) (n : ℕ) (law : SeqLaw n) (scope : Scope) (before : List Identifier) (d : ℕ) (σ : List Point) (symbols out : List Symbol) → ((xs : List Identifier) (rest : List Symbol) → length rest ≤ length (text xs rest)) → length symbols < n → (k : BodyTaken text scope before d σ symbols out) → SeqTaken closer.End (scope ++ (before ++ k.part)) σ k.rest out
body_of text n law scope before d σ symbols out longer lt k =
    let l = longer k.part k.rest in
    let e : length symbols ≡ length (text k.part k.rest) = ap length k.is in
    law k.rest closer.End (scope ++ (before ++ k.part)) d σ out (omega arith) k.on

in_longer : (xs : List Identifier) (rest : List Symbol) → length rest ≤ length (in_text xs rest)
in_longer xs rest = let i = names_longer xs (t.In ∷ rest) in omega arith

curly_longer : (xs : List Identifier) (rest : List Symbol) → length rest ≤ length (curly_text xs rest)
curly_longer xs rest = let i = names_longer xs (t.CloseCurly ∷ rest) in omega arith

local_taken : (n : ℕ) (law : SeqLaw n) (symbols : List Symbol) (c : Closer) (scope : Scope) (d : ℕ) (σ : List Point) (out : List Symbol) → length symbols < n → leaves symbols (LocalName scope (fewer d) ∷ At Later c scope d ∷ σ) ≡ Some out → StmtTaken c scope d σ (t.Local ∷ symbols) out
local_taken n law (t.Variable x ∷ xs) c scope d σ out lt h =
    let k = locals_taken xs scope (x ∷ []) (fewer d) (At Later c scope d ∷ σ) out h in
    block_at c scope d σ (Locals x k.part) (t.Local ∷ t.Variable x ∷ xs) k.rest out (ap (λ (a : List Symbol). t.Local ∷ t.Variable x ∷ a) k.is)
    (body_of in_text n law scope (x ∷ []) (fewer d) (At Later c scope d ∷ σ) xs out in_longer (omega arith) k)
local_taken n law symbols c scope d σ out lt h = absurd (never out h)

proc_taken : (n : ℕ) (law : SeqLaw n) (symbols : List Symbol) (c : Closer) (scope : Scope) (d : ℕ) (σ : List Point) (out : List Symbol) → length symbols < n → leaves symbols (Here sign.OpenCurly ∷ ProcName scope (fewer d) ∷ At Later c scope d ∷ σ) ≡ Some out → StmtTaken c scope d σ (t.Proc ∷ symbols) out
proc_taken n law (t.OpenCurly ∷ t.Variable x ∷ xs) c scope d σ out lt h =
    let k = formals_taken xs scope [] (fewer d) (At Later c scope d ∷ σ) out h in
    block_at c scope d σ (ProcNamed x k.part) (t.Proc ∷ t.OpenCurly ∷ t.Variable x ∷ xs) k.rest out (ap (λ (a : List Symbol). t.Proc ∷ t.OpenCurly ∷ t.Variable x ∷ a) k.is)
    (body_of curly_text n law scope [] (fewer d) (At Later c scope d ∷ σ) xs out curly_longer (omega arith) k)
proc_taken n law symbols c scope d σ out lt h = absurd (never out h)

right_taken : (n : ℕ) (law : SeqLaw n) (x : Identifier) (symbols : List Symbol) (c : Closer) (scope : Scope) (d : ℕ) (σ : List Point) (out : List Symbol) → length symbols < n → leaves symbols (ValueOf c scope d ∷ σ) ≡ Some out → StmtTaken c scope d σ (t.Variable x ∷ t.Equals ∷ symbols) out
right_taken n law x (t.Variable y ∷ xs) c scope d σ out lt h = told c scope d σ x (t.Variable y ∷ xs) out (variable_taken y xs c scope d σ out h)
right_taken n law x (t.Integer i ∷ xs) c scope d σ out lt h = record { stmt = Simple (Tells x (ToInt i)); rest = xs; is = refl; derives = tt; on = h }
right_taken n law x (t.Atom a ∷ xs) c scope d σ out lt h = told c scope d σ x (t.Atom a ∷ xs) out (atom_taken a xs c scope d σ out h)
right_taken n law x (t.Proc ∷ t.OpenCurly ∷ t.Dollar ∷ xs) c scope d σ out lt h =
    let k = formals_taken xs scope [] (fewer d) (At Later c scope d ∷ σ) out h in
    block_at c scope d σ (ProcValue x k.part) (t.Variable x ∷ t.Equals ∷ t.Proc ∷ t.OpenCurly ∷ t.Dollar ∷ xs) k.rest out (ap (λ (a : List Symbol). t.Variable x ∷ t.Equals ∷ t.Proc ∷ t.OpenCurly ∷ t.Dollar ∷ a) k.is)
    (body_of curly_text n law scope [] (fewer d) (At Later c scope d ∷ σ) xs out curly_longer (omega arith) k)
right_taken n law x symbols c scope d σ out lt h = absurd (never out h)

tell_taken : (n : ℕ) (law : SeqLaw n) (x : Identifier) (symbols : List Symbol) (c : Closer) (scope : Scope) (d : ℕ) (σ : List Point) (out : List Symbol) → length symbols < n → leaves symbols (Here sign.Equals ∷ ValueOf c scope d ∷ σ) ≡ Some out → StmtTaken c scope d σ (t.Variable x ∷ symbols) out
tell_taken n law x (t.Equals ∷ xs) c scope d σ out lt h = right_taken n law x xs c scope d σ out (omega arith) h
tell_taken n law x symbols c scope d σ out lt h = absurd (never out h)

thread_taken : (n : ℕ) (law : SeqLaw n) (symbols : List Symbol) (c : Closer) (scope : Scope) (d : ℕ) (σ : List Point) (out : List Symbol) → length symbols < n → leaves symbols (At AfterThread closer.End scope (fewer d) ∷ At Later c scope d ∷ σ) ≡ Some out → StmtTaken c scope d σ (t.Thread ∷ symbols) out
thread_taken n law (t.At ∷ t.Integer i ∷ xs) c scope d σ out lt h = block c scope d σ (ThreadsAt i) xs out (law xs closer.End scope (fewer d) (At Later c scope d ∷ σ) out (omega arith) h)
thread_taken n law (t.At ∷ xs) c scope d σ out lt h = absurd (never out h)
thread_taken n law [] c scope d σ out lt h = absurd (never out h)
thread_taken n law (x ∷ xs) c scope d σ out lt h = block c scope d σ Threads (x ∷ xs) out (law (x ∷ xs) closer.End scope (fewer d) (At Later c scope d ∷ σ) out lt h)

branches : (c : Closer) (scope : Scope) (d : ℕ) (σ : List Point) (h : Choice) (symbols out : List Symbol) → (k : SeqTaken closer.Else (choice_scope h scope) (At First closer.End scope (fewer d) ∷ At Later c scope d ∷ σ) symbols out) → SeqTaken closer.End scope (At Later c scope d ∷ σ) k.rest out → StmtTaken c scope d σ (choice_text h symbols) out
branches c scope d σ h symbols out k m = record {
  stmt = Chooses h k.seq m.seq;
  rest = m.rest;
  is = ap (choice_text h) (k.is ∙ ap (λ (a : List Symbol). seq_text k.seq (t.Else ∷ a)) m.is);
  derives = (k.derives, m.derives);
  on = m.on;
}

branches_taken : (n : ℕ) (law : SeqLaw n) (h : Choice) (symbols : List Symbol) (c : Closer) (scope : Scope) (d : ℕ) (σ : List Point) (out : List Symbol) → length symbols < n → leaves symbols (At First closer.Else (choice_scope h scope) (fewer d) ∷ At First closer.End scope (fewer d) ∷ At Later c scope d ∷ σ) ≡ Some out → StmtTaken c scope d σ (choice_text h symbols) out
branches_taken n law h symbols c scope d σ out lt e =
    let k = law symbols closer.Else (choice_scope h scope) (fewer d) (At First closer.End scope (fewer d) ∷ At Later c scope d ∷ σ) out lt e in
    let long = seq_longer k.seq (t.Else ∷ k.rest) in
    let same : length symbols ≡ length (seq_text k.seq (t.Else ∷ k.rest)) = ap length k.is in
    branches c scope d σ h symbols out k (law k.rest closer.End scope (fewer d) (At Later c scope d ∷ σ) out (omega arith) k.on)

if_taken : (n : ℕ) (law : SeqLaw n) (symbols : List Symbol) (c : Closer) (scope : Scope) (d : ℕ) (σ : List Point) (out : List Symbol) → length symbols < n → leads (points_behind_first c scope d t.If) (leaves symbols) σ ≡ Some out → StmtTaken c scope d σ (t.If ∷ symbols) out
if_taken n law (t.Variable x ∷ t.Then ∷ xs) c scope d σ out lt h = branches_taken n law (Ifs x) xs c scope d σ out (omega arith) h
if_taken n law symbols c scope d σ out lt h = absurd (never out h)

case_taken : (n : ℕ) (law : SeqLaw n) (symbols : List Symbol) (c : Closer) (scope : Scope) (d : ℕ) (σ : List Point) (out : List Symbol) → length symbols < n → leads (points_behind_first c scope d t.Case) (leaves symbols) σ ≡ Some out → StmtTaken c scope d σ (t.Case ∷ symbols) out
case_taken n law (t.Variable x ∷ t.Of ∷ xs) c scope d σ out lt h =
    let k = pattern_taken xs scope (fewer d) (At First closer.End scope (fewer d) ∷ At Later c scope d ∷ σ) out h in
    let long = pattern_longer k.part (t.Then ∷ k.rest) in
    let same : length xs ≡ length (pattern_text k.part (t.Then ∷ k.rest)) = ap length k.is in
    subst (λ (a : List Symbol). StmtTaken c scope d σ (t.Case ∷ t.Variable x ∷ t.Of ∷ a) out) (sym k.is) (branches_taken n law (Cases x k.part) k.rest c scope d σ out (omega arith) k.on)
case_taken n law symbols c scope d σ out lt h = absurd (never out h)

-- behind the body of a `try`: the name, and then the handler
pub record HandlerTaken (scope : Scope) (σ : List Point) (symbols out : List Symbol) : Type 0 where
  pub name : Identifier
  pub middle : List Symbol
  pub is : symbols ≡ t.Variable name ∷ t.Then ∷ middle
  pub handler : SeqTaken closer.End (scope ++ name ∷ []) σ middle out

handler_taken : (n : ℕ) (law : SeqLaw n) (symbols : List Symbol) (scope : Scope) (d : ℕ) (σ : List Point) (out : List Symbol) → length symbols < n → leaves symbols (CatchName scope d ∷ σ) ≡ Some out → HandlerTaken scope σ symbols out
handler_taken n law (t.Variable x ∷ t.Then ∷ xs) scope d σ out lt h = record { name = x; middle = xs; is = refl; handler = law xs closer.End (scope ++ x ∷ []) d σ out (omega arith) h }
handler_taken n law symbols scope d σ out lt h = absurd (never out h)

tried : (c : Closer) (scope : Scope) (d : ℕ) (σ : List Point) (symbols out : List Symbol) → (k : SeqTaken closer.Catch scope (CatchName scope (fewer d) ∷ At Later c scope d ∷ σ) symbols out) → HandlerTaken scope (At Later c scope d ∷ σ) k.rest out → StmtTaken c scope d σ (t.Try ∷ symbols) out
tried c scope d σ symbols out k m = record {
  stmt = Tries k.seq m.name m.handler.seq;
  rest = m.handler.rest;
  is = ap (λ (a : List Symbol). t.Try ∷ a) (k.is ∙ ap (λ (a : List Symbol). seq_text k.seq (t.Catch ∷ a)) (m.is ∙ ap (λ (a : List Symbol). t.Variable m.name ∷ t.Then ∷ a) m.handler.is));
  derives = (k.derives, m.handler.derives);
  on = m.handler.on;
}

try_taken : (n : ℕ) (law : SeqLaw n) (symbols : List Symbol) (c : Closer) (scope : Scope) (d : ℕ) (σ : List Point) (out : List Symbol) → length symbols < n → leads (points_behind_first c scope d t.Try) (leaves symbols) σ ≡ Some out → StmtTaken c scope d σ (t.Try ∷ symbols) out
try_taken n law symbols c scope d σ out lt h =
    let k = law symbols closer.Catch scope (fewer d) (CatchName scope (fewer d) ∷ At Later c scope d ∷ σ) out lt h in
    let long = seq_longer k.seq (t.Catch ∷ k.rest) in
    let same : length symbols ≡ length (seq_text k.seq (t.Catch ∷ k.rest)) = ap length k.is in
    tried c scope d σ symbols out k (handler_taken n law k.rest scope (fewer d) (At Later c scope d ∷ σ) out (omega arith) k.on)

raise_taken : (symbols : List Symbol) (c : Closer) (scope : Scope) (d : ℕ) (σ : List Point) (out : List Symbol) → leads (points_behind_first c scope d t.Raise) (leaves symbols) σ ≡ Some out → StmtTaken c scope d σ (t.Raise ∷ symbols) out
raise_taken (t.Variable x ∷ t.End ∷ xs) c scope d σ out h = record { stmt = Simple (Raises x); rest = xs; is = refl; derives = tt; on = h }
raise_taken symbols c scope d σ out h = absurd (never out h)

curly_taken : (symbols : List Symbol) (c : Closer) (scope : Scope) (d : ℕ) (σ : List Point) (out : List Symbol) → leaves symbols (CallName scope ∷ At Later c scope d ∷ σ) ≡ Some out → StmtTaken c scope d σ (t.OpenCurly ∷ symbols) out
curly_taken (t.Variable p ∷ xs) c scope d σ out h = called c scope d σ p xs out (call_taken (built_in_at scope p) xs scope (At Later c scope d ∷ σ) out h)
curly_taken symbols c scope d σ out h = absurd (never out h)

-- ---- sequences

begun_taken : (n : ℕ) (law : SeqLaw n) (x : Symbol) (xs : List Symbol) (c : Closer) (scope : Scope) (d : ℕ) (σ : List Point) (out : List Symbol) → length xs < n → leads (points_behind_first c scope d x) (leaves xs) σ ≡ Some out → StmtTaken c scope d σ (x ∷ xs) out
begun_taken n law t.Skip xs c scope d σ out lt h = record { stmt = Simple Skips; rest = xs; is = refl; derives = tt; on = h }
begun_taken n law (t.Variable x) xs c scope d σ out lt h = tell_taken n law x xs c scope d σ out lt h
begun_taken n law t.OpenCurly xs c scope d σ out lt h = curly_taken xs c scope d σ out h
begun_taken n law t.Raise xs c scope d σ out lt h = raise_taken xs c scope d σ out h
begun_taken n law t.Local xs c scope d σ out lt h = local_taken n law xs c scope d σ out lt h
begun_taken n law t.Proc xs c scope d σ out lt h = proc_taken n law xs c scope d σ out lt h
begun_taken n law t.Thread xs c scope d σ out lt h = thread_taken n law xs c scope d σ out lt h
begun_taken n law t.If xs c scope d σ out lt h = if_taken n law xs c scope d σ out lt h
begun_taken n law t.Case xs c scope d σ out lt h = case_taken n law xs c scope d σ out lt h
begun_taken n law t.Try xs c scope d σ out lt h = try_taken n law xs c scope d σ out lt h
begun_taken n law x xs c scope d σ out lt h = absurd (never out h)

first_step : (o : Option (List Point)) (on : List Point → Option (List Symbol)) (σ : List Point) → leads (or_points o None) on σ ≡ leads o on σ
first_step (Some points) on σ = refl
first_step None on σ = refl

first_taken : (n : ℕ) (law : SeqLaw n) (symbols : List Symbol) (c : Closer) (scope : Scope) (d : ℕ) (σ : List Point) (out : List Symbol) → length symbols < suc n → leaves symbols (At First c scope d ∷ σ) ≡ Some out → StmtTaken c scope d σ symbols out
first_taken n law [] c scope d σ out lt h = absurd (never out h)
first_taken n law (x ∷ xs) c scope d σ out lt h = begun_taken n law x xs c scope d σ out (omega arith) (sym (first_step (points_behind_first c scope d x) (leaves xs) σ) ∙ h)

-- the end of a sequence, or more of it
abbrev pub TailTaken : Closer → Scope → List Point → List Symbol → List Symbol → Type 0
TailTaken c scope σ symbols out = ((rest : List Symbol) × (symbols ≡ closer_symbol c ∷ rest) × (leaves rest σ ≡ Some out)) ⊎ SeqTaken c scope σ symbols out

then_tail : (c : Closer) (scope : Scope) (d : ℕ) (σ : List Point) (symbols out : List Symbol) → (s : StmtTaken c scope d σ symbols out) → TailTaken c scope σ s.rest out → SeqTaken c scope σ symbols out
then_tail c scope d σ symbols out s (inl k) = record { seq = One s.stmt; rest = k.0; is = s.is ∙ ap (stmt_text s.stmt) k.1; derives = s.derives; on = k.2 }
then_tail c scope d σ symbols out s (inr k) = record { seq = Then s.stmt k.seq; rest = k.rest; is = s.is ∙ ap (stmt_text s.stmt) k.is; derives = (s.derives, k.derives); on = k.on }

later_split : (o : Option (List Point)) (b : Bool) (on : List Point → Option (List Symbol)) (σ : List Point) (out : List Symbol) → leads (or_points o (cond b (Some []) None)) on σ ≡ Some out → (leads o on σ ≡ Some out) ⊎ ((b ≡ true) × (on σ ≡ Some out))
later_split (Some points) b on σ out h = inl h
later_split None true on σ out h = inr (refl, h)
later_split None false on σ out h = absurd (never out h)

pub closer_is : (c : Closer) (x : Symbol) → is_closer c x ≡ true → x ≡ closer_symbol c
closer_is closer.End t.End e = refl
closer_is closer.Else t.Else e = refl
closer_is closer.Catch t.Catch e = refl
closer_is closer.EndOfText t.EndOfText e = refl
closer_is c x e = absurd (no_truth e)

abbrev pub TailLaw : ℕ → Type 0
TailLaw n = (symbols : List Symbol) (c : Closer) (scope : Scope) (d : ℕ) (σ : List Point) (out : List Symbol) → length symbols < n → leaves symbols (At Later c scope d ∷ σ) ≡ Some out → TailTaken c scope σ symbols out

then_law : (n : ℕ) (tail : TailLaw n) (symbols : List Symbol) (c : Closer) (scope : Scope) (d : ℕ) (σ : List Point) (out : List Symbol) → length symbols < suc n → StmtTaken c scope d σ symbols out → SeqTaken c scope σ symbols out
then_law n tail symbols c scope d σ out lt s =
    let long = stmt_longer s.stmt s.rest in
    let same : length symbols ≡ length (stmt_text s.stmt s.rest) = ap length s.is in
    then_tail c scope d σ symbols out s (tail s.rest c scope d σ out (omega arith) s.on)

tail_by : (n : ℕ) (law : SeqLaw n) (tail : TailLaw n) (x : Symbol) (xs : List Symbol) (c : Closer) (scope : Scope) (d : ℕ) (σ : List Point) (out : List Symbol) → length (x ∷ xs) < suc n → (leads (points_behind_first c scope d x) (leaves xs) σ ≡ Some out) ⊎ ((is_closer c x ≡ true) × (leaves xs σ ≡ Some out)) → TailTaken c scope σ (x ∷ xs) out
tail_by n law tail x xs c scope d σ out lt (inl h) = inr (then_law n tail (x ∷ xs) c scope d σ out lt (begun_taken n law x xs c scope d σ out (omega arith) h))
tail_by n law tail x xs c scope d σ out lt (inr h) = inl (xs, ap (λ (y : Symbol). y ∷ xs) (closer_is c x h.0), h.1)

tail_step : (n : ℕ) (law : SeqLaw n) (tail : TailLaw n) (symbols : List Symbol) (c : Closer) (scope : Scope) (d : ℕ) (σ : List Point) (out : List Symbol) → length symbols < suc n → leaves symbols (At Later c scope d ∷ σ) ≡ Some out → TailTaken c scope σ symbols out
tail_step n law tail [] c scope d σ out lt h = absurd (never out h)
tail_step n law tail (x ∷ xs) c scope d σ out lt h = tail_by n law tail x xs c scope d σ out lt (later_split (points_behind_first c scope d x) (is_closer c x) (leaves xs) σ out h)

both_laws : (n : ℕ) → SeqLaw n × TailLaw n
both_laws zero = (λ symbols c scope d σ out lt h. absurd (omega arith), λ symbols c scope d σ out lt h. absurd (omega arith))
both_laws (suc n) =
    let b = both_laws n in (
      λ symbols c scope d σ out lt h. then_law n b.1 symbols c scope d σ out lt (first_taken n b.0 symbols c scope d σ out lt h),
      λ symbols c scope d σ out lt h. tail_step n b.0 b.1 symbols c scope d σ out lt h,
    )

-- ---- programs

pub program_taken : (symbols out : List Symbol) → leaves symbols start ≡ Some out → SeqTaken closer.EndOfText [] [] symbols out
program_taken symbols out h = (both_laws (suc (length symbols))).0 symbols closer.EndOfText [] 200 [] out (omega arith) h

pub goes_on_with : (front more : List Symbol) → leaves (front ++ more) start ≡ Some [] → IsCompletedBy kernel front more
goes_on_with front more h =
    let k = program_taken (front ++ more) [] h in
    let none : k.rest ≡ [] = let e : Some k.rest ≡ Some [] = k.on in cc in
    record { program = k.seq; derives = k.derives; derived = k.is ∙ ap (λ (rest : List Symbol). seq_text k.seq (t.EndOfText ∷ rest)) none }

-- points that are led to are completed behind the symbol
led : (o : Option (List Point)) (σ τ : List Point) → then_points o σ ≡ Some τ → leads o (leaves (completion τ)) σ ≡ Some []
led None σ τ e = absurd cc
led (Some points) σ τ e = let same : points ++ σ ≡ τ = cc in ap (leaves (completion τ)) same ∙ all_completes τ

-- some program goes on through each symbol that is taken
pub through : (front : List Symbol) (σ τ : List Point) (x : Symbol) (xs : List Symbol) → state_behind points_automaton front start ≡ Some σ → next σ x ≡ Some τ → IsViable kernel Alone front (x ∷ xs)
through front [] τ x xs e n = absurd cc
through front (p ∷ σ) τ x xs e n = record {
  more = x ∷ completion τ;
  same = (completion τ, refl);
  goes_on = goes_on_with front (x ∷ completion τ) (leaves_behind front (x ∷ completion τ) start (p ∷ σ) e ∙ led (next_of p x) σ τ n);
}
