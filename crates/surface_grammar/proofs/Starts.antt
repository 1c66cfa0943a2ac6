-- Where values begin and end: what is read from their points at their first symbol and behind their primaries.
use Rattle.std.proofs.Common.{◌≡◌, ◌∙◌, ℕ, suc, ◌+◌, List, [], ◌∷◌, ◌++◌, Bool, true, false, Option, Some, None, refl, ap, append_assoc}
use Rattle.tree_node.specs.declared.node.Feature.{Feature}
use Rattle.oz_grammar.specs.declared.symbol.Symbol.{Symbol}
use Rattle.oz_grammar.specs.declared.symbol.Symbol.TheVariants as t
use Rattle.oz_grammar.specs.declared.symbol.Sign.TheVariants as sign
use Rattle.oz_grammar.specs.declared.fault.FaultKind.{FaultKind}
use Rattle.oz_grammar.specs.Grammar.{AtomFeature, IntFeature}
use Rattle.oz_grammar.specs.Scoping.{Scope, place_feature}
use Rattle.oz_grammar.specs.Faults.{fewer}
use Rattle.oz_grammar.specs.Check.{first_fault}
use Rattle.surface_grammar.specs.Derivations.{begins_round}
use Rattle.oz_grammar.specs.Automata.{then_points, is_done}
use Rattle.surface_grammar.specs.Points.{Extent, Whole, Part, Rest, OfValue, Point, Here, ValueOf, OperandOf, TailOf, Behind, BehindAtom, FieldOf, FieldBegun, Arguments, Wanted, PatternOf, next_primary, next_value, behind_placed, value_fault, given_fault, argument_fault, field_fault, next, wrong, run}

-- ---- what follows a value

-- a symbol that begins a primary
abbrev pub is_first : Symbol → Bool
is_first (t.Variable x) = true
is_first (t.Integer n) = true
is_first (t.Atom a) = true
is_first t.OpenCurly = true
is_first t.Proc = true
is_first t.Fun = true
is_first t.OpenRound = true
is_first symbol = false

-- the first symbol goes on with no value before it
abbrev pub stops : List Symbol → Bool
stops [] = false
stops (t.Dot ∷ rest) = false
stops (t.Operator o ∷ rest) = false
stops (t.Test o ∷ rest) = false
stops (t.Bar ∷ rest) = false
stops (t.Colon ∷ rest) = false
stops (symbol ∷ rest) = true

-- no colon stands first
abbrev pub is_no_colon : List Symbol → Bool
is_no_colon (t.Colon ∷ rest) = false
is_no_colon symbols = true

-- .. and no dot
abbrev pub is_no_dot : List Symbol → Bool
is_no_dot (t.Dot ∷ rest) = false
is_no_dot symbols = true

pub stops_no_colon : (rest : List Symbol) → stops rest ≡ true → is_no_colon rest ≡ true
stops_no_colon [] e = absurd cc
stops_no_colon (t.Colon ∷ rest) e = absurd cc
stops_no_colon (s ∷ rest) e = refl

-- behind a primary, where the symbol does not go on with it
pub primary_behind : (extent : Extent) (scope : Scope) (d r : ℕ) (rest : List Symbol) (σ : List Point) → is_done σ ≡ false → stops rest ≡ true → run rest (Behind extent scope d r ∷ σ) ≡ run rest σ
primary_behind extent scope d r rest [] o e = absurd cc
primary_behind extent scope d r [] (p ∷ σ) o e = absurd cc
primary_behind extent scope d r (t.Dot ∷ rest) (p ∷ σ) o e = absurd cc
primary_behind extent scope d r (t.Operator x ∷ rest) (p ∷ σ) o e = absurd cc
primary_behind extent scope d r (t.Test x ∷ rest) (p ∷ σ) o e = absurd cc
primary_behind extent scope d r (t.Bar ∷ rest) (p ∷ σ) o e = absurd cc
primary_behind extent scope d r (t.Colon ∷ rest) (p ∷ σ) o e = absurd cc
primary_behind Whole scope d r (s ∷ rest) (p ∷ σ) o e = refl
primary_behind Part scope d r (s ∷ rest) (p ∷ σ) o e = refl
primary_behind Rest scope d r (s ∷ rest) (p ∷ σ) o e = refl

-- behind an atom that is no label, as behind another primary
pub atom_behind : (extent : Extent) (scope : Scope) (d : ℕ) (rest : List Symbol) (σ : List Point) → begins_round rest ≡ false → run rest (BehindAtom extent scope d ∷ σ) ≡ run rest (Behind extent scope d (fewer d) ∷ σ)
atom_behind extent scope d [] σ e = refl
atom_behind extent scope d (t.OpenRound ∷ rest) σ e = absurd cc
atom_behind Whole scope d (s ∷ rest) σ e = refl
atom_behind Part scope d (s ∷ rest) σ e = refl
atom_behind Rest scope d (s ∷ rest) σ e = refl

-- ---- where values begin

-- A primary begins at this point, which has something wrong at its first symbol, or nothing; others follow it.
pub record IsStart (q : Point) (extent : Extent) (scope : Scope) (d : ℕ) (holder : Option FaultKind) (others : List Point) : Type 0 where
  pub begins : (s : Symbol) (symbols : List Symbol) (σ inside : List Point) → is_first s ≡ true → is_no_colon symbols ≡ true → next_primary extent scope d s ≡ Some inside
      → run (s ∷ symbols) (q ∷ σ) ≡ first_fault (value_fault scope d holder s) (s ∷ symbols) (run symbols (inside ++ (others ++ σ)))

-- the points behind `if` and `case`
abbrev pub if_points : Scope → ℕ → List Point → List Point
if_points scope d σ = ValueOf scope (fewer d) ∷ Here sign.Then ∷ ValueOf scope (fewer d) ∷ Here sign.Else ∷ ValueOf scope (fewer d) ∷ Here sign.End ∷ σ

abbrev pub case_points : Scope → ℕ → List Point → List Point
case_points scope d σ = ValueOf scope (fewer d) ∷ Here sign.Of ∷ PatternOf OfValue scope (fewer d) ∷ σ

-- a whole value begins at this point
pub record IsValueStart (q : Point) (scope : Scope) (d : ℕ) (holder : Option FaultKind) (others : List Point) : Type 0 where
  pub start : IsStart q Whole scope d holder others
  pub ifs : (symbols : List Symbol) (σ : List Point) → run (t.If ∷ symbols) (q ∷ σ) ≡ first_fault (value_fault scope d holder t.If) (t.If ∷ symbols) (run symbols (if_points scope d (others ++ σ)))
  pub cases : (symbols : List Symbol) (σ : List Point) → run (t.Case ∷ symbols) (q ∷ σ) ≡ first_fault (value_fault scope d holder t.Case) (t.Case ∷ symbols) (run symbols (case_points scope d (others ++ σ)))

-- what the point takes, and what is wrong there, decide what is read
pub begins_by : (q : Point) (σ : List Point) (s : Symbol) (symbols : List Symbol) (w : Option FaultKind) (on : List Point) → next (q ∷ σ) s ≡ Some on → wrong (q ∷ σ) (s ∷ symbols) ≡ w → run (s ∷ symbols) (q ∷ σ) ≡ first_fault w (s ∷ symbols) (run symbols on)
begins_by q σ s symbols w on n e = rw (n, e) refl

pub first_whole : (scope : Scope) (d : ℕ) (s : Symbol) → is_first s ≡ true → next_value scope d s ≡ next_primary Whole scope d s
first_whole scope d (t.Variable x) e = refl
first_whole scope d (t.Integer n) e = refl
first_whole scope d (t.Atom a) e = refl
first_whole scope d t.OpenCurly e = refl
first_whole scope d t.Proc e = refl
first_whole scope d t.Fun e = refl
first_whole scope d t.OpenRound e = refl
first_whole scope d s e = absurd cc

-- a value's points, others and those behind
pub then_both : (o : Option (List Point)) (others σ inside : List Point) → o ≡ Some inside → then_points (then_points o others) σ ≡ Some (inside ++ (others ++ σ))
then_both o others σ inside e = ap (λ (k : Option (List Point)). then_points (then_points k others) σ) e ∙ ap Some (append_assoc inside others σ)

value_begins : (scope : Scope) (d : ℕ) (s : Symbol) (symbols : List Symbol) (σ inside : List Point) → is_first s ≡ true → is_no_colon symbols ≡ true → next_primary Whole scope d s ≡ Some inside
    → run (s ∷ symbols) (ValueOf scope d ∷ σ) ≡ first_fault (value_fault scope d None s) (s ∷ symbols) (run symbols (inside ++ σ))
value_begins scope d s symbols σ inside e c n =
    begins_by (ValueOf scope d) σ s symbols (value_fault scope d None s) (inside ++ σ) (ap (λ (o : Option (List Point)). then_points o σ) (first_whole scope d s e ∙ n)) refl

pub value_start : (scope : Scope) (d : ℕ) → IsValueStart (ValueOf scope d) scope d None []
value_start scope d = record { start = record { begins = value_begins scope d }; ifs = λ symbols σ. refl; cases = λ symbols σ. refl }

operand_begins : (scope : Scope) (d : ℕ) (s : Symbol) (symbols : List Symbol) (σ inside : List Point) → is_first s ≡ true → is_no_colon symbols ≡ true → next_primary Part scope d s ≡ Some inside
    → run (s ∷ symbols) (OperandOf scope d ∷ σ) ≡ first_fault (value_fault scope d None s) (s ∷ symbols) (run symbols (inside ++ σ))
operand_begins scope d s symbols σ inside e c n = begins_by (OperandOf scope d) σ s symbols (value_fault scope d None s) (inside ++ σ) (ap (λ (o : Option (List Point)). then_points o σ) n) refl

pub operand_start : (scope : Scope) (d : ℕ) → IsStart (OperandOf scope d) Part scope d None []
operand_start scope d = record { begins = operand_begins scope d }

tail_begins : (scope : Scope) (d : ℕ) (s : Symbol) (symbols : List Symbol) (σ inside : List Point) → is_first s ≡ true → is_no_colon symbols ≡ true → next_primary Rest scope d s ≡ Some inside
    → run (s ∷ symbols) (TailOf scope d ∷ σ) ≡ first_fault (value_fault scope d None s) (s ∷ symbols) (run symbols (inside ++ σ))
tail_begins scope d s symbols σ inside e c n = begins_by (TailOf scope d) σ s symbols (value_fault scope d None s) (inside ++ σ) (ap (λ (o : Option (List Point)). then_points o σ) n) refl

pub tail_start : (scope : Scope) (d : ℕ) → IsStart (TailOf scope d) Rest scope d None []
tail_start scope d = record { begins = tail_begins scope d }

-- ---- arguments

pub argument_next : (scope : Scope) (d n most : ℕ) (s : Symbol) (σ : List Point) → is_first s ≡ true → next (Arguments scope d n most ∷ σ) s ≡ then_points (then_points (next_primary Whole scope d s) (Arguments scope d (n + 1) most ∷ [])) σ
argument_next scope d n most (t.Variable x) σ e = refl
argument_next scope d n most (t.Integer i) σ e = refl
argument_next scope d n most (t.Atom a) σ e = refl
argument_next scope d n most t.OpenCurly σ e = refl
argument_next scope d n most t.Proc σ e = refl
argument_next scope d n most t.Fun σ e = refl
argument_next scope d n most t.OpenRound σ e = refl
argument_next scope d n most s σ e = absurd cc

pub argument_wrong_is : (scope : Scope) (d n most : ℕ) (s : Symbol) (symbols : List Symbol) (σ : List Point) → is_first s ≡ true → wrong (Arguments scope d n most ∷ σ) (s ∷ symbols) ≡ value_fault scope d (argument_fault n most) s
argument_wrong_is scope d n most (t.Variable x) symbols σ e = refl
argument_wrong_is scope d n most (t.Integer i) symbols σ e = refl
argument_wrong_is scope d n most (t.Atom a) symbols σ e = refl
argument_wrong_is scope d n most t.OpenCurly symbols σ e = refl
argument_wrong_is scope d n most t.Proc symbols σ e = refl
argument_wrong_is scope d n most t.Fun symbols σ e = refl
argument_wrong_is scope d n most t.OpenRound symbols σ e = refl
argument_wrong_is scope d n most s symbols σ e = absurd cc

argument_begins : (scope : Scope) (d n most : ℕ) (s : Symbol) (symbols : List Symbol) (σ inside : List Point) → is_first s ≡ true → is_no_colon symbols ≡ true → next_primary Whole scope d s ≡ Some inside
    → run (s ∷ symbols) (Arguments scope d n most ∷ σ) ≡ first_fault (value_fault scope d (argument_fault n most) s) (s ∷ symbols) (run symbols (inside ++ ((Arguments scope d (n + 1) most ∷ []) ++ σ)))
argument_begins scope d n most s symbols σ inside e c k =
    begins_by (Arguments scope d n most) σ s symbols (value_fault scope d (argument_fault n most) s) (inside ++ ((Arguments scope d (n + 1) most ∷ []) ++ σ))
    (argument_next scope d n most s σ e ∙ then_both (next_primary Whole scope d s) (Arguments scope d (n + 1) most ∷ []) σ inside k) (argument_wrong_is scope d n most s symbols σ e)

pub argument_start : (scope : Scope) (d n most : ℕ) → IsValueStart (Arguments scope d n most) scope d (argument_fault n most) (Arguments scope d (n + 1) most ∷ [])
argument_start scope d n most = record { start = record { begins = argument_begins scope d n most }; ifs = λ symbols σ. refl; cases = λ symbols σ. refl }

wanted_begins : (scope : Scope) (d k : ℕ) (s : Symbol) (symbols : List Symbol) (σ inside : List Point) → is_first s ≡ true → is_no_colon symbols ≡ true → next_primary Whole scope d s ≡ Some inside
    → run (s ∷ symbols) (Wanted scope d (suc k) ∷ σ) ≡ first_fault (value_fault scope d None s) (s ∷ symbols) (run symbols (inside ++ ((Wanted scope d k ∷ []) ++ σ)))
wanted_begins scope d k s symbols σ inside e c n =
    begins_by (Wanted scope d (suc k)) σ s symbols (value_fault scope d None s) (inside ++ ((Wanted scope d k ∷ []) ++ σ))
    (then_both (next_value scope d s) (Wanted scope d k ∷ []) σ inside (first_whole scope d s e ∙ n)) refl

pub wanted_start : (scope : Scope) (d k : ℕ) → IsValueStart (Wanted scope d (suc k)) scope d None (Wanted scope d k ∷ [])
wanted_start scope d k = record { start = record { begins = wanted_begins scope d k }; ifs = λ symbols σ. refl; cases = λ symbols σ. refl }

-- ---- fields

-- an atom that begins a field, where no colon makes it a feature
atom_begun : (scope : Scope) (d room : ℕ) (before : List Feature) (nth : ℕ) (a : List ℕ) (symbols : List Symbol) (σ : List Point) → is_no_colon symbols ≡ true
    → run symbols (FieldBegun scope d room before nth (AtomFeature a) ∷ σ) ≡ run symbols (BehindAtom Whole scope d ∷ (behind_placed scope d room before nth ++ σ))
atom_begun scope d room before nth a [] σ e = refl
atom_begun scope d room before nth a (t.Colon ∷ symbols) σ e = absurd cc
atom_begun scope d room before nth a (s ∷ symbols) σ e = refl

-- .. or an integer
integer_begun : (scope : Scope) (d room : ℕ) (before : List Feature) (nth : ℕ) (n : _) (symbols : List Symbol) (σ : List Point) → is_no_colon symbols ≡ true
    → run symbols (FieldBegun scope d room before nth (IntFeature n) ∷ σ) ≡ run symbols (Behind Whole scope d (fewer d) ∷ (behind_placed scope d room before nth ++ σ))
integer_begun scope d room before nth n [] σ e = refl
integer_begun scope d room before nth n (t.Colon ∷ symbols) σ e = absurd cc
integer_begun scope d room before nth n (s ∷ symbols) σ e = refl

atom_field_fault : (scope : Scope) (d room : ℕ) (before : List Feature) (nth : ℕ) (a : List ℕ) (symbols : List Symbol) → is_no_colon symbols ≡ true
    → field_fault scope d room before nth (t.Atom a ∷ symbols) ≡ value_fault scope d (given_fault room before (place_feature nth)) (t.Atom a)
atom_field_fault scope d room before nth a [] e = refl
atom_field_fault scope d room before nth a (t.Colon ∷ symbols) e = absurd cc
atom_field_fault scope d room before nth a (s ∷ symbols) e = refl

integer_field_fault : (scope : Scope) (d room : ℕ) (before : List Feature) (nth : ℕ) (n : _) (symbols : List Symbol) → is_no_colon symbols ≡ true
    → field_fault scope d room before nth (t.Integer n ∷ symbols) ≡ value_fault scope d (given_fault room before (place_feature nth)) (t.Integer n)
integer_field_fault scope d room before nth n [] e = refl
integer_field_fault scope d room before nth n (t.Colon ∷ symbols) e = absurd cc
integer_field_fault scope d room before nth n (s ∷ symbols) e = refl

-- a list of points that is given twice
pub same_inside : (a b : List Point) → Some a ≡ Some b → a ≡ b
same_inside a b e = cc

pub field_begins : (scope : Scope) (d room : ℕ) (before : List Feature) (nth : ℕ) (s : Symbol) (symbols : List Symbol) (σ inside : List Point) → is_first s ≡ true → is_no_colon symbols ≡ true → next_primary Whole scope d s ≡ Some inside
    → run (s ∷ symbols) (FieldOf scope d room before nth ∷ σ)
    ≡ first_fault (value_fault scope d (given_fault room before (place_feature nth)) s) (s ∷ symbols) (run symbols (inside ++ (behind_placed scope d room before nth ++ σ)))
field_begins scope d room before nth (t.Atom a) symbols σ inside e c n =
    begins_by (FieldOf scope d room before nth) σ (t.Atom a) symbols (value_fault scope d (given_fault room before (place_feature nth)) (t.Atom a)) (FieldBegun scope d room before nth (AtomFeature a) ∷ σ) refl
    (atom_field_fault scope d room before nth a symbols c)
    ∙ ap (first_fault (value_fault scope d (given_fault room before (place_feature nth)) (t.Atom a)) (t.Atom a ∷ symbols))
    (atom_begun scope d room before nth a symbols σ c ∙ ap (λ (i : List Point). run symbols (i ++ (behind_placed scope d room before nth ++ σ))) (same_inside _ inside n))
field_begins scope d room before nth (t.Integer i) symbols σ inside e c n =
    begins_by (FieldOf scope d room before nth) σ (t.Integer i) symbols (value_fault scope d (given_fault room before (place_feature nth)) (t.Integer i)) (FieldBegun scope d room before nth (IntFeature i) ∷ σ) refl
    (integer_field_fault scope d room before nth i symbols c)
    ∙ ap (first_fault (value_fault scope d (given_fault room before (place_feature nth)) (t.Integer i)) (t.Integer i ∷ symbols))
    (integer_begun scope d room before nth i symbols σ c ∙ ap (λ (i : List Point). run symbols (i ++ (behind_placed scope d room before nth ++ σ))) (same_inside _ inside n))
field_begins scope d room before nth (t.Variable x) symbols σ inside e c n =
    begins_by (FieldOf scope d room before nth) σ (t.Variable x) symbols (value_fault scope d (given_fault room before (place_feature nth)) (t.Variable x)) (inside ++ (behind_placed scope d room before nth ++ σ))
    (then_both (next_primary Whole scope d (t.Variable x)) (behind_placed scope d room before nth) σ inside n) refl
field_begins scope d room before nth t.OpenCurly symbols σ inside e c n =
    begins_by (FieldOf scope d room before nth) σ t.OpenCurly symbols (value_fault scope d (given_fault room before (place_feature nth)) t.OpenCurly) (inside ++ (behind_placed scope d room before nth ++ σ))
    (then_both (next_primary Whole scope d t.OpenCurly) (behind_placed scope d room before nth) σ inside n) refl
field_begins scope d room before nth t.Proc symbols σ inside e c n =
    begins_by (FieldOf scope d room before nth) σ t.Proc symbols (value_fault scope d (given_fault room before (place_feature nth)) t.Proc) (inside ++ (behind_placed scope d room before nth ++ σ))
    (then_both (next_primary Whole scope d t.Proc) (behind_placed scope d room before nth) σ inside n) refl
field_begins scope d room before nth t.Fun symbols σ inside e c n =
    begins_by (FieldOf scope d room before nth) σ t.Fun symbols (value_fault scope d (given_fault room before (place_feature nth)) t.Fun) (inside ++ (behind_placed scope d room before nth ++ σ))
    (then_both (next_primary Whole scope d t.Fun) (behind_placed scope d room before nth) σ inside n) refl
field_begins scope d room before nth t.OpenRound symbols σ inside e c n =
    begins_by (FieldOf scope d room before nth) σ t.OpenRound symbols (value_fault scope d (given_fault room before (place_feature nth)) t.OpenRound) (inside ++ (behind_placed scope d room before nth ++ σ))
    (then_both (next_primary Whole scope d t.OpenRound) (behind_placed scope d room before nth) σ inside n) refl
field_begins scope d room before nth s symbols σ inside e c n = absurd cc

pub field_start : (scope : Scope) (d room : ℕ) (before : List Feature) (nth : ℕ) → IsValueStart (FieldOf scope d room before nth) scope d (given_fault room before (place_feature nth)) (behind_placed scope d room before nth)
field_start scope d room before nth = record { start = record { begins = field_begins scope d room before nth }; ifs = λ symbols σ. refl; cases = λ symbols σ. refl }
