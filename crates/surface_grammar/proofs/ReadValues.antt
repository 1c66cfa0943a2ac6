-- The reading functions read as the points do: values, over readers of what they hold.
use Rattle.std.proofs.Common.{◌≡◌, ◌∙◌, ℕ, zero, suc, ◌+◌, ◌≤◌, List, [], ◌∷◌, ◌++◌, length, Bool, true, false, Option, Some, None, Ok, ℤ, refl, ap, arith}
use Rattle.kernel_syntax.specs.declared.sugar.Operation.{Operation}
use Rattle.kernel_syntax.specs.declared.sugar.Operation.TheVariants as operation
use Rattle.kernel_syntax.specs.Sugar as sugar
use Rattle.kernel_syntax.specs.Sugar.{Value, no_values, value_and}
use Rattle.oz_grammar.specs.declared.symbol.Symbol.{Symbol}
use Rattle.oz_grammar.specs.declared.symbol.Symbol.TheVariants as t
use Rattle.oz_grammar.specs.declared.symbol.Sign.TheVariants as sign
use Rattle.oz_grammar.specs.declared.fault.FaultKind.{FaultKind}
use Rattle.oz_grammar.specs.declared.fault.What.{What}
use Rattle.oz_grammar.specs.declared.fault.What.TheVariants as what
use Rattle.oz_grammar.specs.Scoping.{Scope}
use Rattle.oz_grammar.specs.Faults.{or_else, use_fault, number_fault, deep_fault, fewer, fault_here, mismatch}
use Rattle.oz_grammar.specs.Check.{first_fault}
use Rattle.oz_grammar.specs.Points.{Stage, Later}
use Rattle.oz_grammar.specs.Reading.{◌>>=◌, fault_expected, selection_at}
use Rattle.oz_grammar.specs.Automata.{then_points, is_done}
use Rattle.surface_grammar.specs.declared.parts.CallUse.TheVariants.{AsValue}
use Rattle.surface_grammar.specs.declared.parts.Callable.TheVariants.{OfProc, OfFun}
use Rattle.surface_grammar.specs.Points.{Extent, Whole, Part, Rest, Closing, Point, At, Here, ValueOf, OperandOf, TailOf, Behind, BehindAtom, CallName, Formals, SelectionOf, PatternOf, OfValue, next_primary, beside, expected_statement, value_fault, run}
use Rattle.surface_grammar.specs.Reading.{Read, on_level, begins_compound, variable_at, integer_at, primary_at, selections_at, part_at, behind_head_at, second_at, behind_part_at, operand_at, tail_at, compound_at, if_value_at, case_value_at, readers_over, below, value_with, statement_with}
use Rattle.surface_grammar.specs.Trees.{pair_value}
use Rattle.surface_grammar.proofs.Starts.{is_first, if_points, case_points, begins_by, first_whole}
use Rattle.surface_grammar.proofs.ReadSteps.{IsReadFrom, any, bind, done, begin, refused, selection_read}

-- ---- where values begin

abbrev pub begins_part : List Symbol → Bool
begins_part [] = false
begins_part (s ∷ rest) = is_first s

abbrev pub begins_choice : List Symbol → Bool
begins_choice (t.If ∷ rest) = true
begins_choice (t.Case ∷ rest) = true
begins_choice symbols = false

-- A primary begins here, with d levels, and these points are behind it; or it is refused.
pub record PartBegins (symbols : List Symbol) (points : List Point) (extent : Extent) (scope : Scope) (d : ℕ) (holder : Option FaultKind) (w : What) (behind : List Point) : Type 0 where
  pub begins : (s : Symbol) (rest : List Symbol) (inside : List Point) → symbols ≡ s ∷ rest → is_first s ≡ true → next_primary extent scope d s ≡ Some inside → run (s ∷ rest) points ≡ first_fault (value_fault scope d holder s) (s ∷ rest) (run rest (inside ++ behind))
  pub refuses : begins_part symbols ≡ false → run symbols points ≡ Some (fault_here (mismatch w symbols) symbols)

-- a whole value begins here likewise
pub record ValueBegins (symbols : List Symbol) (points : List Point) (scope : Scope) (d : ℕ) (holder : Option FaultKind) (w : What) (behind : List Point) : Type 0 where
  pub ifs : (rest : List Symbol) → symbols ≡ t.If ∷ rest → run (t.If ∷ rest) points ≡ first_fault (value_fault scope d holder t.If) (t.If ∷ rest) (run rest (if_points scope d behind))
  pub cases : (rest : List Symbol) → symbols ≡ t.Case ∷ rest → run (t.Case ∷ rest) points ≡ first_fault (value_fault scope d holder t.Case) (t.Case ∷ rest) (run rest (case_points scope d behind))
  pub part : begins_choice symbols ≡ false → PartBegins symbols points Whole scope d holder w behind

-- ---- readers that read as the points do, with d levels

-- only a statement may stand at the front
abbrev pub NothingBeside : Stage → Closing → Scope → ℕ → List Symbol → Type 0
NothingBeside stage c scope d [] = Unit {0}
NothingBeside stage c scope d (x ∷ xs) = beside stage c scope d x ≡ None

pub record ReadsValues (d : ℕ) : Type 0 where
  pub value : (scope : Scope) (holder : Option FaultKind) (w : What) (n : ℕ) (symbols : List Symbol) (points behind : List Point) → ValueBegins symbols points scope d holder w behind → is_done behind ≡ false → length symbols ≤ n + 1 → IsReadFrom n symbols points (value_with d scope holder w symbols) any (λ x. behind)

pub record Reads (d : ℕ) : Type 0 where
  pub values : ReadsValues d
  pub operand : (scope : Scope) (n : ℕ) (symbols : List Symbol) (σ : List Point) → is_done σ ≡ false → length symbols ≤ n + 1 → IsReadFrom n symbols (OperandOf scope d ∷ σ) (operand_at (below d) d scope symbols) any (λ x. σ)
  pub tail : (scope : Scope) (n : ℕ) (symbols : List Symbol) (σ : List Point) → is_done σ ≡ false → length symbols ≤ n + 1 → IsReadFrom n symbols (TailOf scope d ∷ σ) (tail_at (below d) d scope symbols) any (λ x. σ)
  pub statement : (stage : Stage) (c : Closing) (scope : Scope) (w : What) (n : ℕ) (symbols : List Symbol) (σ : List Point) → w ≡ expected_statement stage c → NothingBeside stage c scope d symbols → length symbols ≤ n + 1
      → IsReadFrom n symbols (At stage c scope d ∷ σ) (statement_with d scope w symbols) any (λ x. At Later c scope d ∷ σ)

-- those inside what has d levels
abbrev pub ReadsBelow : ℕ → Type 0
ReadsBelow d = (e : ℕ) → d ≡ suc e → Reads e

here_begins : (scope : Scope) (d : ℕ) (symbols : List Symbol) (σ : List Point) (s : Symbol) (rest : List Symbol) (inside : List Point) → symbols ≡ s ∷ rest → is_first s ≡ true → next_primary Whole scope d s ≡ Some inside
    → run (s ∷ rest) (ValueOf scope d ∷ σ) ≡ first_fault (value_fault scope d None s) (s ∷ rest) (run rest (inside ++ σ))
here_begins scope d symbols σ s rest inside e first n =
    begins_by (ValueOf scope d) σ s rest (value_fault scope d None s) (inside ++ σ) (ap (λ (o : Option (List Point)). then_points o σ) (first_whole scope d s first ∙ n)) refl

here_refuses : (scope : Scope) (d : ℕ) (symbols : List Symbol) (σ : List Point) → begins_choice symbols ≡ false → begins_part symbols ≡ false → run symbols (ValueOf scope d ∷ σ) ≡ Some (fault_here (mismatch what.Value symbols) symbols)
here_refuses scope d [] σ c e = refl
here_refuses scope d (t.Variable x ∷ rest) σ c e = absurd cc
here_refuses scope d (t.Integer i ∷ rest) σ c e = absurd cc
here_refuses scope d (t.Atom a ∷ rest) σ c e = absurd cc
here_refuses scope d (t.OpenCurly ∷ rest) σ c e = absurd cc
here_refuses scope d (t.Proc ∷ rest) σ c e = absurd cc
here_refuses scope d (t.Fun ∷ rest) σ c e = absurd cc
here_refuses scope d (t.OpenRound ∷ rest) σ c e = absurd cc
here_refuses scope d (t.If ∷ rest) σ c e = absurd cc
here_refuses scope d (t.Case ∷ rest) σ c e = absurd cc
here_refuses scope d (s ∷ rest) σ c e = refl

pub value_begins : (scope : Scope) (d : ℕ) (symbols : List Symbol) (σ : List Point) → ValueBegins symbols (ValueOf scope d ∷ σ) scope d None what.Value σ
value_begins scope d symbols σ = record {
  ifs = λ rest e. refl;
  cases = λ rest e. refl;
  part = λ c. record { begins = here_begins scope d symbols σ; refuses = here_refuses scope d symbols σ c };
}

-- a value at its point
pub value_here : (d : ℕ) (r : ReadsValues d) (scope : Scope) (n : ℕ) (symbols : List Symbol) (σ : List Point) → is_done σ ≡ false → length symbols ≤ n + 1 → IsReadFrom n symbols (ValueOf scope d ∷ σ) (value_with d scope None what.Value symbols) any (λ x. σ)
value_here d r scope n symbols σ goes le = r.value scope None what.Value n symbols (ValueOf scope d ∷ σ) σ (value_begins scope d symbols σ) goes le

operand_begins : (scope : Scope) (d : ℕ) (symbols : List Symbol) (σ : List Point) → PartBegins symbols (OperandOf scope d ∷ σ) Part scope d None what.Value σ
operand_begins scope d symbols σ = record {
  begins = λ s rest inside e first n. begins_by (OperandOf scope d) σ s rest (value_fault scope d None s) (inside ++ σ) (ap (λ (o : Option (List Point)). then_points o σ) n) refl;
  refuses = operand_refuses symbols;
}
  where
    operand_refuses : (symbols : List Symbol) → begins_part symbols ≡ false → run symbols (OperandOf scope d ∷ σ) ≡ Some (fault_here (mismatch what.Value symbols) symbols)
    operand_refuses [] e = refl
    operand_refuses (t.Variable x ∷ rest) e = absurd cc
    operand_refuses (t.Integer i ∷ rest) e = absurd cc
    operand_refuses (t.Atom a ∷ rest) e = absurd cc
    operand_refuses (t.OpenCurly ∷ rest) e = absurd cc
    operand_refuses (t.Proc ∷ rest) e = absurd cc
    operand_refuses (t.Fun ∷ rest) e = absurd cc
    operand_refuses (t.OpenRound ∷ rest) e = absurd cc
    operand_refuses (s ∷ rest) e = refl

tail_begins : (scope : Scope) (d : ℕ) (symbols : List Symbol) (σ : List Point) → PartBegins symbols (TailOf scope d ∷ σ) Rest scope d None what.Value σ
tail_begins scope d symbols σ = record {
  begins = λ s rest inside e first n. begins_by (TailOf scope d) σ s rest (value_fault scope d None s) (inside ++ σ) (ap (λ (o : Option (List Point)). then_points o σ) n) refl;
  refuses = tail_refuses symbols;
}
  where
    tail_refuses : (symbols : List Symbol) → begins_part symbols ≡ false → run symbols (TailOf scope d ∷ σ) ≡ Some (fault_here (mismatch what.Value symbols) symbols)
    tail_refuses [] e = refl
    tail_refuses (t.Variable x ∷ rest) e = absurd cc
    tail_refuses (t.Integer i ∷ rest) e = absurd cc
    tail_refuses (t.Atom a ∷ rest) e = absurd cc
    tail_refuses (t.OpenCurly ∷ rest) e = absurd cc
    tail_refuses (t.Proc ∷ rest) e = absurd cc
    tail_refuses (t.Fun ∷ rest) e = absurd cc
    tail_refuses (t.OpenRound ∷ rest) e = absurd cc
    tail_refuses (s ∷ rest) e = refl

-- ---- what is selected

-- a part has so many levels, and no dot stands behind it
abbrev is_dot : List Symbol → Bool
is_dot (t.Dot ∷ rest) = true
is_dot symbols = false

abbrev IsPart : ℕ → (Value × ℕ) × List Symbol → Type 0
IsPart d x = (x.0.1 ≤ d) × (is_dot x.1 ≡ false)

selections_read : (r d : ℕ) (extent : Extent) (scope : Scope) (e left : ℕ) (v : Value) (n : ℕ) (symbols : List Symbol) (behind : List Point) → r ≤ d → length symbols ≤ n
    → IsReadFrom n symbols (Behind extent scope e r ∷ behind) (selections_at r scope left v symbols) (IsPart d) (λ x. Behind extent scope e x.1 ∷ behind)
selections_read zero d extent scope e left v n (t.Dot ∷ rest) behind fits le = record { reads = refl; good = tt }
selections_read (suc r) d extent scope e left v n (t.Dot ∷ rest) behind fits le =
    let on = bind n rest (SelectionOf scope ∷ Behind extent scope e r ∷ behind) (selection_at scope rest) any (λ s. Behind extent scope e r ∷ behind) (λ s. selections_at r scope left (sugar.Apply left (operation.Select s.0) (value_and v no_values)) s.1) (IsPart d) (λ x. Behind extent scope e x.1 ∷ behind)
    (selection_read n scope rest (Behind extent scope e r ∷ behind) (omega arith)) (λ s l p. selections_read r d extent scope e left (sugar.Apply left (operation.Select s.0) (value_and v no_values)) n s.1 behind (omega arith) l) in
    record { reads = on.reads; good = on.good }
selections_read zero d extent scope e left v n [] behind fits le = record { reads = refl; good = (le, (fits, refl)) }
selections_read zero d extent scope e left v n (s ∷ rest) behind fits le = record { reads = refl; good = (le, (fits, refl)) }
selections_read (suc r) d extent scope e left v n [] behind fits le = record { reads = refl; good = (le, (fits, refl)) }
selections_read (suc r) d extent scope e left v n (s ∷ rest) behind fits le = record { reads = refl; good = (le, (fits, refl)) }

-- ---- primaries

fewer_le : (d : ℕ) → fewer d ≤ d
fewer_le zero = omega arith
fewer_le (suc d) = omega arith

-- a primary of several symbols, or a bare atom, behind which it is read so
abbrev pub CompoundRead : ℕ → Type 0
CompoundRead e =
    (extent : Extent) (scope : Scope) (n : ℕ) (s : Symbol) (rest : List Symbol) (inside behind : List Point) → begins_compound s ≡ true → next_primary extent scope (suc e) s ≡ Some inside → length rest ≤ n
    → IsReadFrom n rest (inside ++ behind) (compound_at (readers_over (below e) e) scope (s ∷ rest)) any (λ v. Behind extent scope (suc e) e ∷ behind)

abbrev AsPart : ℕ → Value × List Symbol → Read (Value × ℕ)
AsPart e v = Ok ((v.0, e), v.1)

abbrev IsPrimary : ℕ → (Value × ℕ) × List Symbol → Type 0
IsPrimary d x = x.0.1 ≤ d

variable_read : (extent : Extent) (scope : Scope) (d : ℕ) (holder : Option FaultKind) (w : What) (n : ℕ) (x : List ℕ) (rest : List Symbol) (points behind : List Point) → PartBegins (t.Variable x ∷ rest) points extent scope d holder w behind → length rest ≤ n
    → IsReadFrom n (t.Variable x ∷ rest) points (variable_at scope holder (t.Variable x ∷ rest)) any (λ v. Behind extent scope d d ∷ behind)
variable_read extent scope d holder w n x rest points behind p le =
    begin n (or_else holder (use_fault scope x)) (t.Variable x) rest points (Behind extent scope d d ∷ behind) _ any (λ v. Behind extent scope d d ∷ behind) (p.begins (t.Variable x) rest (Behind extent scope d d ∷ []) refl refl refl)
    (done n _ rest any (λ v. Behind extent scope d d ∷ behind) le tt)

integer_read : (extent : Extent) (scope : Scope) (d : ℕ) (holder : Option FaultKind) (w : What) (n : ℕ) (i : Option ℤ) (rest : List Symbol) (points behind : List Point) → PartBegins (t.Integer i ∷ rest) points extent scope d holder w behind → length rest ≤ n
    → IsReadFrom n (t.Integer i ∷ rest) points (integer_at d holder (t.Integer i ∷ rest)) (IsPrimary d) (λ x. Behind extent scope d x.1 ∷ behind)
integer_read extent scope d holder w n i rest points behind p le =
    begin n (or_else (number_fault i) (or_else (deep_fault d) holder)) (t.Integer i) rest points (Behind extent scope d (fewer d) ∷ behind) _ (IsPrimary d) (λ x. Behind extent scope d x.1 ∷ behind) (p.begins (t.Integer i) rest (Behind extent scope d (fewer d) ∷ []) refl refl refl)
    (done n _ rest (IsPrimary d) (λ x. Behind extent scope d x.1 ∷ behind) le (fewer_le d))

-- the points inside a primary of several symbols
inside_of : Extent → Scope → ℕ → Symbol → List Point
inside_of extent scope d (t.Atom a) = BehindAtom extent scope d ∷ []
inside_of extent scope d t.OpenCurly = CallName AsValue scope (fewer d) ∷ Behind extent scope d (fewer d) ∷ []
inside_of extent scope d t.Proc = Here sign.OpenCurly ∷ Here sign.Dollar ∷ Formals OfProc scope [] (fewer d) ∷ Behind extent scope d (fewer d) ∷ []
inside_of extent scope d t.Fun = Here sign.OpenCurly ∷ Here sign.Dollar ∷ Formals OfFun scope [] (fewer d) ∷ Behind extent scope d (fewer d) ∷ []
inside_of extent scope d t.OpenRound = ValueOf scope (fewer d) ∷ Here sign.CloseRound ∷ Behind extent scope d (fewer d) ∷ []
inside_of extent scope d s = []

inside_is : (extent : Extent) (scope : Scope) (d : ℕ) (s : Symbol) → begins_compound s ≡ true → next_primary extent scope d s ≡ Some (inside_of extent scope d s)
unfolding inside_of
inside_is extent scope d (t.Atom a) e = refl
inside_is extent scope d t.OpenCurly e = refl
inside_is extent scope d t.Proc e = refl
inside_is extent scope d t.Fun e = refl
inside_is extent scope d t.OpenRound e = refl
inside_is extent scope d s e = absurd cc

compound_first : (s : Symbol) → begins_compound s ≡ true → is_first s ≡ true
compound_first (t.Atom a) e = refl
compound_first t.OpenCurly e = refl
compound_first t.Proc e = refl
compound_first t.Fun e = refl
compound_first t.OpenRound e = refl
compound_first s e = absurd cc

compound_fault : (scope : Scope) (d : ℕ) (holder : Option FaultKind) (s : Symbol) → begins_compound s ≡ true → value_fault scope d holder s ≡ or_else (deep_fault d) holder
compound_fault scope d holder (t.Atom a) e = refl
compound_fault scope d holder t.OpenCurly e = refl
compound_fault scope d holder t.Proc e = refl
compound_fault scope d holder t.Fun e = refl
compound_fault scope d holder t.OpenRound e = refl
compound_fault scope d holder s e = absurd cc

-- at a primary of several symbols: it has no level left, or its holder has something wrong, or it is read inside
compound_reads : (extent : Extent) (scope : Scope) (d : ℕ) (holder : Option FaultKind) (w : What) (s : Symbol) (rest : List Symbol) (points behind : List Point) → begins_compound s ≡ true → PartBegins (s ∷ rest) points extent scope d holder w behind
    → run (s ∷ rest) points ≡ first_fault (or_else (deep_fault d) holder) (s ∷ rest) (run rest (inside_of extent scope d s ++ behind))
compound_reads extent scope d holder w s rest points behind b p =
    p.begins s rest (inside_of extent scope d s) refl (compound_first s b) (inside_is extent scope d s b) ∙ ap (λ (f : Option FaultKind). first_fault f (s ∷ rest) (run rest (inside_of extent scope d s ++ behind))) (compound_fault scope d holder s b)

compound_read : (d : ℕ) (inner : (e : ℕ) → d ≡ suc e → CompoundRead e) (extent : Extent) (scope : Scope) (holder : Option FaultKind) (w : What) (n : ℕ) (s : Symbol) (rest : List Symbol) (points behind : List Point) → begins_compound s ≡ true
    → PartBegins (s ∷ rest) points extent scope d holder w behind → length rest ≤ n
    → IsReadFrom n (s ∷ rest) points (on_level d holder (s ∷ rest) (compound_at (below d) scope (s ∷ rest) >>= AsPart (fewer d))) (IsPrimary d) (λ x. Behind extent scope d x.1 ∷ behind)
unfolding below
compound_read zero inner extent scope holder w n s rest points behind b p le = record { reads = compound_reads extent scope zero holder w s rest points behind b p; good = tt }
compound_read (suc e) inner extent scope holder w n s rest points behind b p le =
    begin n (or_else None holder) s rest points (inside_of extent scope (suc e) s ++ behind) (compound_at (readers_over (below e) e) scope (s ∷ rest) >>= AsPart e) (IsPrimary (suc e)) (λ x. Behind extent scope (suc e) x.1 ∷ behind) (compound_reads extent scope (suc e) holder w s rest points behind b p)
    (bind n rest (inside_of extent scope (suc e) s ++ behind) (compound_at (readers_over (below e) e) scope (s ∷ rest)) any (λ v. Behind extent scope (suc e) e ∷ behind) (AsPart e) (IsPrimary (suc e)) (λ x. Behind extent scope (suc e) x.1 ∷ behind)
    (inner e refl extent scope n s rest (inside_of extent scope (suc e) s) behind b (inside_is extent scope (suc e) s b) le) (λ v l g. done n (v.0, e) v.1 (IsPrimary (suc e)) (λ x. Behind extent scope (suc e) x.1 ∷ behind) l (omega arith)))

-- no primary begins here
primary_refused : (d : ℕ) (extent : Extent) (scope : Scope) (holder : Option FaultKind) (w : What) (n : ℕ) (symbols : List Symbol) (points behind : List Point) → begins_part symbols ≡ false → PartBegins symbols points extent scope d holder w behind
    → IsReadFrom n symbols points (fault_expected w symbols) (IsPrimary d) (λ x. Behind extent scope d x.1 ∷ behind)
primary_refused d extent scope holder w n symbols points behind e p = refused n w symbols points (IsPrimary d) (λ x. Behind extent scope d x.1 ∷ behind) (p.refuses e)

pub primary_read : (d : ℕ) (inner : (e : ℕ) → d ≡ suc e → CompoundRead e) (extent : Extent) (scope : Scope) (holder : Option FaultKind) (w : What) (n : ℕ) (symbols : List Symbol) (points behind : List Point) → PartBegins symbols points extent scope d holder w behind
    → length symbols ≤ n + 1 → IsReadFrom n symbols points (primary_at (below d) d scope holder w symbols) (IsPrimary d) (λ x. Behind extent scope d x.1 ∷ behind)
primary_read d inner extent scope holder w n [] points behind p le = primary_refused d extent scope holder w n [] points behind refl p
primary_read d inner extent scope holder w n (t.Variable x ∷ rest) points behind p le =
    bind n (t.Variable x ∷ rest) points (variable_at scope holder (t.Variable x ∷ rest)) any (λ v. Behind extent scope d d ∷ behind) (AsPart d) (IsPrimary d) (λ y. Behind extent scope d y.1 ∷ behind)
    (variable_read extent scope d holder w n x rest points behind p (omega arith)) (λ v l g. done n (v.0, d) v.1 (IsPrimary d) (λ y. Behind extent scope d y.1 ∷ behind) l (omega arith))
primary_read d inner extent scope holder w n (t.Integer i ∷ rest) points behind p le = integer_read extent scope d holder w n i rest points behind p (omega arith)
primary_read d inner extent scope holder w n (t.Atom a ∷ rest) points behind p le = compound_read d inner extent scope holder w n (t.Atom a) rest points behind refl p (omega arith)
primary_read d inner extent scope holder w n (t.OpenCurly ∷ rest) points behind p le = compound_read d inner extent scope holder w n t.OpenCurly rest points behind refl p (omega arith)
primary_read d inner extent scope holder w n (t.Proc ∷ rest) points behind p le = compound_read d inner extent scope holder w n t.Proc rest points behind refl p (omega arith)
primary_read d inner extent scope holder w n (t.Fun ∷ rest) points behind p le = compound_read d inner extent scope holder w n t.Fun rest points behind refl p (omega arith)
primary_read d inner extent scope holder w n (t.OpenRound ∷ rest) points behind p le = compound_read d inner extent scope holder w n t.OpenRound rest points behind refl p (omega arith)
primary_read d inner extent scope holder w n (s ∷ rest) points behind p le = primary_refused d extent scope holder w n (s ∷ rest) points behind refl p

pub part_read : (d : ℕ) (inner : (e : ℕ) → d ≡ suc e → CompoundRead e) (extent : Extent) (scope : Scope) (holder : Option FaultKind) (w : What) (n : ℕ) (symbols : List Symbol) (points behind : List Point) → PartBegins symbols points extent scope d holder w behind
    → length symbols ≤ n + 1 → IsReadFrom n symbols points (part_at (below d) d scope holder w symbols) (IsPart d) (λ x. Behind extent scope d x.1 ∷ behind)
part_read d inner extent scope holder w n symbols points behind p le =
    bind n symbols points (primary_at (below d) d scope holder w symbols) (IsPrimary d) (λ x. Behind extent scope d x.1 ∷ behind) (λ q. selections_at q.0.1 scope (length symbols) q.0.0 q.1) (IsPart d) (λ x. Behind extent scope d x.1 ∷ behind)
    (primary_read d inner extent scope holder w n symbols points behind p le) (λ q l g. selections_read q.0.1 d extent scope d (length symbols) q.0.0 n q.1 behind g l)

-- ---- what stands behind a part

-- a value ends here, where the symbol does not go on with it
abbrev goes_on : Extent → List Symbol → Bool
goes_on extent (t.Dot ∷ rest) = true
goes_on Whole (t.Operator o ∷ rest) = true
goes_on Whole (t.Test o ∷ rest) = true
goes_on Whole (t.Bar ∷ rest) = true
goes_on Rest (t.Bar ∷ rest) = true
goes_on extent symbols = false

ends_here : (extent : Extent) (scope : Scope) (d r : ℕ) (symbols : List Symbol) (σ : List Point) → is_done σ ≡ false → goes_on extent symbols ≡ false → run symbols (Behind extent scope d r ∷ σ) ≡ run symbols σ
ends_here extent scope d r symbols [] o e = absurd cc
ends_here extent scope d r [] (p ∷ σ) o e = refl
ends_here extent scope d r (t.Dot ∷ rest) (p ∷ σ) o e = absurd cc
ends_here Whole scope d r (t.Operator x ∷ rest) (p ∷ σ) o e = absurd cc
ends_here Whole scope d r (t.Test x ∷ rest) (p ∷ σ) o e = absurd cc
ends_here Whole scope d r (t.Bar ∷ rest) (p ∷ σ) o e = absurd cc
ends_here Rest scope d r (t.Bar ∷ rest) (p ∷ σ) o e = absurd cc
ends_here Whole scope d r (s ∷ rest) (p ∷ σ) o e = refl
ends_here Part scope d r (s ∷ rest) (p ∷ σ) o e = refl
ends_here Rest scope d r (s ∷ rest) (p ∷ σ) o e = refl

ended : (extent : Extent) (scope : Scope) (d r : ℕ) (v : Value) (n : ℕ) (symbols : List Symbol) (σ : List Point) → is_done σ ≡ false → goes_on extent symbols ≡ false → length symbols ≤ n → IsReadFrom n symbols (Behind extent scope d r ∷ σ) (Ok (v, symbols)) any (λ x. σ)
ended extent scope d r v n symbols σ o e le = record { reads = ends_here extent scope d r symbols σ o e; good = (le, tt) }

-- the bar behind the first part of a list, and the tail
bar_read : (d : ℕ) (inner : ReadsBelow d) (extent : Extent) (scope : Scope) (left : ℕ) (v : Value) (r n : ℕ) (rest : List Symbol) (σ : List Point) → r ≤ d → is_done σ ≡ false → length rest ≤ n
    → run (t.Bar ∷ rest) (Behind extent scope d r ∷ σ) ≡ first_fault (deep_fault r) (t.Bar ∷ rest) (run rest (TailOf scope (fewer d) ∷ σ)) → IsReadFrom n (t.Bar ∷ rest) (Behind extent scope d r ∷ σ) (behind_head_at (below d) scope left (v, r) (t.Bar ∷ rest)) any (λ x. σ)
unfolding below
bar_read d inner extent scope left v zero n rest σ fits o le e = record { reads = e; good = tt }
bar_read zero inner extent scope left v (suc r) n rest σ fits o le e = absurd (omega (arith, fits))
bar_read (suc d) inner extent scope left v (suc r) n rest σ fits o le e =
    begin n None t.Bar rest (Behind extent scope (suc d) (suc r) ∷ σ) (TailOf scope d ∷ σ) (tail_at (below d) d scope rest >>= λ u. Ok (pair_value left v u.0, u.1)) any (λ x. σ) e
    (bind n rest (TailOf scope d ∷ σ) (tail_at (below d) d scope rest) any (λ x. σ) (λ u. Ok (pair_value left v u.0, u.1)) any (λ x. σ) ((inner d refl).tail scope n rest σ o (omega (arith, le))) (λ u l g. done n (pair_value left v u.0) u.1 any (λ x. σ) l tt))

-- the sign of an operator or a test, and the second part
sign_read : (d : ℕ) (inner : ReadsBelow d) (scope : Scope) (left : ℕ) (f : Operation) (v : Value) (r n : ℕ) (s : Symbol) (rest : List Symbol) (σ : List Point) → r ≤ d → is_done σ ≡ false → length rest ≤ n
    → run (s ∷ rest) (Behind Whole scope d r ∷ σ) ≡ first_fault (deep_fault r) (s ∷ rest) (run rest (OperandOf scope (fewer d) ∷ σ)) → IsReadFrom n (s ∷ rest) (Behind Whole scope d r ∷ σ) (second_at (below d) scope left f (v, r) (s ∷ rest)) any (λ x. σ)
unfolding below
sign_read d inner scope left f v zero n s rest σ fits o le e = record { reads = e; good = tt }
sign_read zero inner scope left f v (suc r) n s rest σ fits o le e = absurd (omega (arith, fits))
sign_read (suc d) inner scope left f v (suc r) n s rest σ fits o le e =
    begin n None s rest (Behind Whole scope (suc d) (suc r) ∷ σ) (OperandOf scope d ∷ σ) (operand_at (below d) d scope rest >>= λ u. Ok (sugar.Apply left f (value_and v (value_and u.0 no_values)), u.1)) any (λ x. σ) e
    (bind n rest (OperandOf scope d ∷ σ) (operand_at (below d) d scope rest) any (λ x. σ) (λ u. Ok (sugar.Apply left f (value_and v (value_and u.0 no_values)), u.1)) any (λ x. σ) ((inner d refl).operand scope n rest σ o (omega (arith, le)))
    (λ u l g. done n (sugar.Apply left f (value_and v (value_and u.0 no_values))) u.1 any (λ x. σ) l tt))

behind_tail_read : (d : ℕ) (inner : ReadsBelow d) (scope : Scope) (left : ℕ) (v : Value) (r n : ℕ) (symbols : List Symbol) (σ : List Point) → r ≤ d → is_dot symbols ≡ false → is_done σ ≡ false → length symbols ≤ n
    → IsReadFrom n symbols (Behind Rest scope d r ∷ σ) (behind_head_at (below d) scope left (v, r) symbols) any (λ x. σ)
behind_tail_read d inner scope left v r n [] σ fits dot o le = ended Rest scope d r v n [] σ o refl le
behind_tail_read d inner scope left v r n (t.Dot ∷ rest) σ fits dot o le = absurd cc
behind_tail_read d inner scope left v r n (t.Bar ∷ rest) (p ∷ σ) fits dot o le = bar_read d inner Rest scope left v r n rest (p ∷ σ) fits o (omega (arith, le)) refl
behind_tail_read d inner scope left v r n (t.Bar ∷ rest) [] fits dot o le = absurd cc
behind_tail_read d inner scope left v r n (s ∷ rest) σ fits dot o le = ended Rest scope d r v n (s ∷ rest) σ o refl le

behind_part_read : (d : ℕ) (inner : ReadsBelow d) (scope : Scope) (left : ℕ) (v : Value) (r n : ℕ) (symbols : List Symbol) (σ : List Point) → r ≤ d → is_dot symbols ≡ false → is_done σ ≡ false → length symbols ≤ n
    → IsReadFrom n symbols (Behind Whole scope d r ∷ σ) (behind_part_at (below d) scope left (v, r) symbols) any (λ x. σ)
behind_part_read d inner scope left v r n [] σ fits dot o le = ended Whole scope d r v n [] σ o refl le
behind_part_read d inner scope left v r n (t.Dot ∷ rest) σ fits dot o le = absurd cc
behind_part_read d inner scope left v r n (t.Operator f ∷ rest) σ fits dot o le = sign_read d inner scope left (operation.Calc f) v r n (t.Operator f) rest σ fits o (omega (arith, le)) refl
behind_part_read d inner scope left v r n (t.Test f ∷ rest) σ fits dot o le = sign_read d inner scope left (operation.Test f) v r n (t.Test f) rest σ fits o (omega (arith, le)) refl
behind_part_read d inner scope left v r n (t.Bar ∷ rest) σ fits dot o le = bar_read d inner Whole scope left v r n rest σ fits o (omega (arith, le)) refl
behind_part_read d inner scope left v r n (s ∷ rest) σ fits dot o le = ended Whole scope d r v n (s ∷ rest) σ o refl le

part_ends : (symbols : List Symbol) → is_dot symbols ≡ false → goes_on Part symbols ≡ false
part_ends [] e = refl
part_ends (t.Dot ∷ rest) e = absurd cc
part_ends (s ∷ rest) e = refl

-- ---- parts and values with d levels

-- what is read inside primaries
abbrev pub Compounds : ℕ → Type 0
Compounds d = (e : ℕ) → d ≡ suc e → CompoundRead e

pub operand_read : (d : ℕ) (inner : Compounds d) (scope : Scope) (n : ℕ) (symbols : List Symbol) (σ : List Point) → is_done σ ≡ false → length symbols ≤ n + 1 → IsReadFrom n symbols (OperandOf scope d ∷ σ) (operand_at (below d) d scope symbols) any (λ x. σ)
operand_read d inner scope n symbols σ o le =
    bind n symbols (OperandOf scope d ∷ σ) (part_at (below d) d scope None what.Value symbols) (IsPart d) (λ x. Behind Part scope d x.1 ∷ σ) (λ p. Ok (p.0.0, p.1)) any (λ x. σ) (part_read d inner Part scope None what.Value n symbols (OperandOf scope d ∷ σ) σ (operand_begins scope d symbols σ) le)
    (λ p l g. ended Part scope d p.0.1 p.0.0 n p.1 σ o (part_ends p.1 g.1) l)

pub tail_read : (d : ℕ) (inner : Compounds d) (under : ReadsBelow d) (scope : Scope) (n : ℕ) (symbols : List Symbol) (σ : List Point) → is_done σ ≡ false → length symbols ≤ n + 1 → IsReadFrom n symbols (TailOf scope d ∷ σ) (tail_at (below d) d scope symbols) any (λ x. σ)
tail_read d inner under scope n symbols σ o le =
    bind n symbols (TailOf scope d ∷ σ) (part_at (below d) d scope None what.Value symbols) (IsPart d) (λ x. Behind Rest scope d x.1 ∷ σ) (λ p. behind_head_at (below d) scope (length symbols) p.0 p.1) any (λ x. σ) (part_read d inner Rest scope None what.Value n symbols (TailOf scope d ∷ σ) σ (tail_begins scope d symbols σ) le)
    (λ p l g. behind_tail_read d under scope (length symbols) p.0.0 p.0.1 n p.1 σ g.0 g.1 o l)

-- a value that is no `if` and no `case`
whole_read : (d : ℕ) (inner : Compounds d) (under : ReadsBelow d) (scope : Scope) (holder : Option FaultKind) (w : What) (n : ℕ) (symbols : List Symbol) (points behind : List Point) → PartBegins symbols points Whole scope d holder w behind → is_done behind ≡ false → length symbols ≤ n + 1
    → IsReadFrom n symbols points (part_at (below d) d scope holder w symbols >>= λ p. behind_part_at (below d) scope (length symbols) p.0 p.1) any (λ x. behind)
whole_read d inner under scope holder w n symbols points behind p o le =
    bind n symbols points (part_at (below d) d scope holder w symbols) (IsPart d) (λ x. Behind Whole scope d x.1 ∷ behind) (λ q. behind_part_at (below d) scope (length symbols) q.0 q.1) any (λ x. behind) (part_read d inner Whole scope holder w n symbols points behind p le)
    (λ q l g. behind_part_read d under scope (length symbols) q.0.0 q.0.1 n q.1 behind g.0 g.1 o l)

-- what is read inside `if` and `case` values, behind those words
pub record Choices (e : ℕ) : Type 0 where
  pub ifs : (scope : Scope) (left n : ℕ) (symbols : List Symbol) (σ : List Point) → length symbols ≤ n + 1 → IsReadFrom n symbols (ValueOf scope e ∷ Here sign.Then ∷ ValueOf scope e ∷ Here sign.Else ∷ ValueOf scope e ∷ Here sign.End ∷ σ) (if_value_at (value_with e) scope left symbols) any (λ x. σ)
  pub cases : (scope : Scope) (left n : ℕ) (symbols : List Symbol) (σ : List Point) → length symbols ≤ n + 1 → IsReadFrom n symbols (ValueOf scope e ∷ Here sign.Of ∷ PatternOf OfValue scope e ∷ σ) (case_value_at (value_with e) scope left symbols) any (λ x. σ)

pub value_read : (d : ℕ) (inner : Compounds d) (choices : (e : ℕ) → d ≡ suc e → Choices e) (under : ReadsBelow d) (scope : Scope) (holder : Option FaultKind) (w : What) (n : ℕ) (symbols : List Symbol) (points behind : List Point) → ValueBegins symbols points scope d holder w behind
    → is_done behind ≡ false → length symbols ≤ n + 1 → IsReadFrom n symbols points (value_with d scope holder w symbols) any (λ x. behind)
unfolding below
value_read zero inner choices under scope holder w n (t.If ∷ rest) points behind v o le = record { reads = v.ifs rest refl; good = tt }
value_read (suc e) inner choices under scope holder w n (t.If ∷ rest) points behind v o le =
    begin n (or_else (deep_fault (suc e)) holder) t.If rest points (if_points scope (suc e) behind) (if_value_at (value_with e) scope (length (t.If ∷ rest)) rest) any (λ x. behind) (v.ifs rest refl) ((choices e refl).ifs scope (length (t.If ∷ rest)) n rest behind (omega (arith, le)))
value_read zero inner choices under scope holder w n (t.Case ∷ rest) points behind v o le = record { reads = v.cases rest refl; good = tt }
value_read (suc e) inner choices under scope holder w n (t.Case ∷ rest) points behind v o le =
    begin n (or_else (deep_fault (suc e)) holder) t.Case rest points (case_points scope (suc e) behind) (case_value_at (value_with e) scope (length (t.Case ∷ rest)) rest) any (λ x. behind) (v.cases rest refl) ((choices e refl).cases scope (length (t.Case ∷ rest)) n rest behind (omega (arith, le)))
value_read zero inner choices under scope holder w n [] points behind v o le = whole_read zero inner under scope holder w n [] points behind (v.part refl) o le
value_read (suc e) inner choices under scope holder w n [] points behind v o le = whole_read (suc e) inner under scope holder w n [] points behind (v.part refl) o le
value_read zero inner choices under scope holder w n (s ∷ rest) points behind v o le = whole_read zero inner under scope holder w n (s ∷ rest) points behind (v.part refl) o le
value_read (suc e) inner choices under scope holder w n (s ∷ rest) points behind v o le = whole_read (suc e) inner under scope holder w n (s ∷ rest) points behind (v.part refl) o le
