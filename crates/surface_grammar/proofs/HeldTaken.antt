-- What the points take is derived: whole values, and the lists and clauses that hold them.
use Rattle.std.proofs.Common.{◌≡◌, ◌∙◌, ℕ, zero, suc, ◌+◌, ◌<◌, ◌≤◌, List, [], ◌∷◌, ◌++◌, length, true, false, Option, Some, None, refl, sym, ap, arith}
use Rattle.std.specs.Prelude.{◌&&◌}
use Rattle.tree_node.specs.declared.node.Feature.{Feature}
use Rattle.oz_grammar.specs.declared.symbol.Symbol.{Symbol}
use Rattle.oz_grammar.specs.declared.symbol.Symbol.TheVariants as t
use Rattle.oz_grammar.specs.declared.symbol.Sign.TheVariants as sign
use Rattle.oz_grammar.specs.Grammar.{FeatureToken, AtomFeature, IntFeature, feature_symbol}
use Rattle.oz_grammar.specs.Scoping.{Scope, feature_of, place_feature, pattern_names}
use Rattle.oz_grammar.specs.Faults.{fewer}
use Rattle.oz_grammar.proofs.Parts.{never, then_text}
use Rattle.surface_grammar.specs.Derivations.{Primary, Tail, Last, More, Value, ValueClauses, Alone, Calculates, Tests, Pairs, IfValue, CaseValue, no_arguments, argument_and, no_fields, placed_and, named_and, no_clauses, clause_and, primary_text, tail_text, value_text, arguments_text, fields_text, value_clauses_text, is_atom, tail_ends_in_atom, begins_round, StaysBare, PrimaryDerives, TailDerives, ValueDerives, ValueClausesDerive}
use Rattle.oz_grammar.specs.Automata.{then_points, or_points}
use Rattle.surface_grammar.specs.Points.{Whole, Part, Rest, OfValue, Point, Here, ValueOf, OperandOf, TailOf, Behind, BehindAtom, FieldOf, FieldBegun, Wanted, PatternOf, ClauseEnd, next_primary, next_value, behind_placed, next}
use Rattle.surface_grammar.specs.Points as points
use Rattle.surface_grammar.proofs.Starts.{is_no_colon, is_no_dot}
use Rattle.surface_grammar.proofs.Runs.{moved_bare, arguments_round, fields_round}
use Rattle.surface_grammar.proofs.Leaves.{leads, leaves}
use Rattle.surface_grammar.proofs.Taken.{pattern_taken}
use Rattle.surface_grammar.proofs.ValuesTaken.{ValueTaken, PrimaryTaken, TailTaken, ArgumentsTaken, WantedTaken, FieldsTaken, ValueClausesTaken, Laws, value_then, leads_to, leads_then, leads_then_others, whole_primary}

-- ---- where a value ends

-- a symbol that does not go on with a value is left to the points behind
whole_off : (x : Symbol) (xs : List Symbol) (scope : Scope) (d r : ℕ) (σ : List Point) (out : List Symbol) → points.next_behind Whole scope d r x ≡ None → leaves (x ∷ xs) (Behind Whole scope d r ∷ σ) ≡ Some out → leaves (x ∷ xs) σ ≡ Some out
whole_off x xs scope d r [] out n h = absurd (never out (sym (ap (λ (o : Option (List Point)). leads (leaves xs) (or_points (then_points o []) None)) n) ∙ h))
whole_off x xs scope d r (p ∷ σ) out n h = sym (ap (λ (o : Option (List Point)). leads (leaves xs) (or_points (then_points o (p ∷ σ)) (next (p ∷ σ) x))) n) ∙ h

part_off : (x : Symbol) (xs : List Symbol) (scope : Scope) (d r : ℕ) (σ : List Point) (out : List Symbol) → points.next_behind Part scope d r x ≡ None → leaves (x ∷ xs) (Behind Part scope d r ∷ σ) ≡ Some out → leaves (x ∷ xs) σ ≡ Some out
part_off x xs scope d r [] out n h = absurd (never out (sym (ap (λ (o : Option (List Point)). leads (leaves xs) (or_points (then_points o []) None)) n) ∙ h))
part_off x xs scope d r (p ∷ σ) out n h = sym (ap (λ (o : Option (List Point)). leads (leaves xs) (or_points (then_points o (p ∷ σ)) (next (p ∷ σ) x))) n) ∙ h

rest_off : (x : Symbol) (xs : List Symbol) (scope : Scope) (d r : ℕ) (σ : List Point) (out : List Symbol) → points.next_behind Rest scope d r x ≡ None → leaves (x ∷ xs) (Behind Rest scope d r ∷ σ) ≡ Some out → leaves (x ∷ xs) σ ≡ Some out
rest_off x xs scope d r [] out n h = absurd (never out (sym (ap (λ (o : Option (List Point)). leads (leaves xs) (or_points (then_points o []) None)) n) ∙ h))
rest_off x xs scope d r (p ∷ σ) out n h = sym (ap (λ (o : Option (List Point)). leads (leaves xs) (or_points (then_points o (p ∷ σ)) (next (p ∷ σ) x))) n) ∙ h

-- a value, without the count of its symbols
record Ended (scope : Scope) (σ : List Point) (symbols out : List Symbol) (m : ℕ) : Type 0 where
  value : Value
  rest : List Symbol
  is : symbols ≡ value_text value rest
  derives : ValueDerives value scope
  bare : StaysBare value rest
  on : leaves rest σ ≡ Some out
  few : length rest ≤ m

-- what is taken from the end of a first primary on
value_ends : (n : ℕ) → Laws n → (p : Primary) (rest : List Symbol) (scope : Scope) (d r : ℕ) (σ : List Point) (out : List Symbol) → PrimaryDerives p scope → (is_atom p && begins_round rest) ≡ false → length rest < n
    → leaves rest (Behind Whole scope d r ∷ σ) ≡ Some out → is_no_dot rest ≡ true → Ended scope σ (primary_text p rest) out (length rest)
value_ends n law p [] scope d r σ out good bare lt h e = absurd (never out h)
value_ends n law p (t.Dot ∷ xs) scope d r σ out good bare lt h e = absurd cc
value_ends n law p (t.Operator o ∷ xs) scope d r σ out good bare lt h e =
    let k = law.operand xs scope (fewer d) σ out (omega arith) h in
    record {
      value = Calculates p o k.primary;
      rest = k.rest;
      is = ap (λ (a : List Symbol). primary_text p (t.Operator o ∷ a)) k.is;
      derives = (good, k.derives);
      bare = k.bare;
      on = k.on;
      few = (let l = k.shorter in omega (arith, l));
    }
value_ends n law p (t.Test o ∷ xs) scope d r σ out good bare lt h e =
    let k = law.operand xs scope (fewer d) σ out (omega arith) h in
    record {
      value = Tests p o k.primary;
      rest = k.rest;
      is = ap (λ (a : List Symbol). primary_text p (t.Test o ∷ a)) k.is;
      derives = (good, k.derives);
      bare = k.bare;
      on = k.on;
      few = (let l = k.shorter in omega (arith, l));
    }
value_ends n law p (t.Bar ∷ xs) scope d r σ out good bare lt h e =
    let k = law.tail xs scope (fewer d) σ out (omega arith) h in
    record {
      value = Pairs p k.tail;
      rest = k.rest;
      is = ap (λ (a : List Symbol). primary_text p (t.Bar ∷ a)) k.is;
      derives = (good, k.derives);
      bare = k.bare;
      on = k.on;
      few = (let l = k.shorter in omega (arith, l));
    }
value_ends n law p (x ∷ xs) scope d r σ out good bare lt h e =
    record { value = Alone p; rest = x ∷ xs; is = refl; derives = good; bare = bare; on = whole_off x xs scope d r σ out refl h; few = omega arith }

-- ---- whole values

-- behind `if`
if_taken : (n : ℕ) → Laws n → (xs : List Symbol) (scope : Scope) (d : ℕ) (σ : List Point) (out : List Symbol) → length xs < n
    → leaves xs (ValueOf scope d ∷ Here sign.Then ∷ ValueOf scope d ∷ Here sign.Else ∷ ValueOf scope d ∷ Here sign.End ∷ σ) ≡ Some out → ValueTaken scope σ (t.If ∷ xs) out
if_taken n law xs scope d σ out lt h =
    let e = value_then n law sign.Then xs scope d (ValueOf scope d ∷ Here sign.Else ∷ ValueOf scope d ∷ Here sign.End ∷ σ) out lt h in
    let l = e.shorter in
    let a = value_then n law sign.Else e.rest scope d (ValueOf scope d ∷ Here sign.End ∷ σ) out (omega (arith, l)) e.on in
    let m = a.shorter in
    let b = value_then n law sign.End a.rest scope d σ out (omega (arith, l, m)) a.on in
    record {
      value = IfValue e.value a.value b.value;
      rest = b.rest;
      is = ap (λ (r : List Symbol). t.If ∷ r) (e.is ∙ ap (λ (r : List Symbol). value_text e.value (t.Then ∷ r)) (a.is ∙ ap (λ (r : List Symbol). value_text a.value (t.Else ∷ r)) b.is));
      derives = (e.derives, a.derives, b.derives);
      bare = refl;
      on = b.on;
      shorter = (let k = b.shorter in omega (arith, l, m, k));
    }

-- behind `case`
case_taken : (n : ℕ) → Laws n → (xs : List Symbol) (scope : Scope) (d : ℕ) (σ : List Point) (out : List Symbol) → length xs < n → leaves xs (ValueOf scope d ∷ Here sign.Of ∷ PatternOf OfValue scope d ∷ σ) ≡ Some out → ValueTaken scope σ (t.Case ∷ xs) out
case_taken n law xs scope d σ out lt h =
    let e = value_then n law sign.Of xs scope d (PatternOf OfValue scope d ∷ σ) out lt h in
    let l = e.shorter in
    let c = law.value_clauses e.rest scope d σ out (omega (arith, l)) e.on in
    let m = c.shorter in
    let b = value_then n law sign.End c.rest scope d σ out (omega (arith, l, m)) c.on in
    record {
      value = CaseValue e.value c.pattern c.value c.others b.value;
      rest = b.rest;
      is = ap (λ (r : List Symbol). t.Case ∷ r) (e.is ∙ ap (λ (r : List Symbol). value_text e.value (t.Of ∷ r)) (c.is ∙ ap (λ (r : List Symbol). then_text c.pattern (value_text c.value (value_clauses_text c.others (t.Else ∷ r)))) b.is));
      derives = (e.derives, c.derives, c.others_derive, b.derives);
      bare = refl;
      on = b.on;
      shorter = (let k = b.shorter in omega (arith, l, m, k));
    }

primary_value : (n : ℕ) → Laws n → (s : Symbol) (xs : List Symbol) (scope : Scope) (d : ℕ) (σ : List Point) (out : List Symbol) → length xs < n → leads_to xs σ (next_primary Whole scope d s) ≡ Some out → ValueTaken scope σ (s ∷ xs) out
primary_value n law s xs scope d σ out lt h =
    let w = whole_primary n law s xs Whole scope d σ out lt h in
    let p = w.taken in
    let l = w.shorter in
    let k = value_ends n law p.primary p.rest scope d p.levels σ out p.derives p.bare (omega (arith, l, lt)) p.on p.no_dot in
    record {
      value = k.value;
      rest = k.rest;
      is = p.is ∙ k.is;
      derives = k.derives;
      bare = k.bare;
      on = k.on;
      shorter = (let m = k.few in omega (arith, l, m));
    }

-- a value from its first symbol on
value_begun : (n : ℕ) → Laws n → (s : Symbol) (xs : List Symbol) (scope : Scope) (d : ℕ) (σ : List Point) (out : List Symbol) → length xs < n → leads_to xs σ (next_value scope d s) ≡ Some out → ValueTaken scope σ (s ∷ xs) out
value_begun n law t.If xs scope d σ out lt h = if_taken n law xs scope (fewer d) σ out lt h
value_begun n law t.Case xs scope d σ out lt h = case_taken n law xs scope (fewer d) σ out lt h
value_begun n law s xs scope d σ out lt h = primary_value n law s xs scope d σ out lt h

pub value_step : (n : ℕ) → Laws n → (symbols : List Symbol) (scope : Scope) (d : ℕ) (σ : List Point) (out : List Symbol) → length symbols < suc n → leaves symbols (ValueOf scope d ∷ σ) ≡ Some out → ValueTaken scope σ symbols out
value_step n law [] scope d σ out lt h = absurd (never out h)
value_step n law (s ∷ xs) scope d σ out lt h = value_begun n law s xs scope d σ out (omega arith) (sym (leads_then xs σ (next_value scope d s)) ∙ h)

-- ---- parts of operators, and tails of lists

operand_ends : (p : Primary) (rest : List Symbol) (scope : Scope) (d r : ℕ) (σ : List Point) (out : List Symbol) → is_no_dot rest ≡ true → leaves rest (Behind Part scope d r ∷ σ) ≡ Some out → leaves rest σ ≡ Some out
operand_ends p [] scope d r σ out e h = absurd (never out h)
operand_ends p (t.Dot ∷ xs) scope d r σ out e h = absurd cc
operand_ends p (x ∷ xs) scope d r σ out e h = part_off x xs scope d r σ out refl h

operand_begun : (n : ℕ) → Laws n → (s : Symbol) (xs : List Symbol) (scope : Scope) (d : ℕ) (σ : List Point) (out : List Symbol) → length xs < n → leads_to xs σ (next_primary Part scope d s) ≡ Some out → PrimaryTaken scope σ (s ∷ xs) out
operand_begun n law s xs scope d σ out lt h =
    let w = whole_primary n law s xs Part scope d σ out lt h in
    let p = w.taken in
    record { primary = p.primary; rest = p.rest; is = p.is; derives = p.derives; bare = p.bare; on = operand_ends p.primary p.rest scope d p.levels σ out p.no_dot p.on; shorter = w.shorter }

pub operand_step : (n : ℕ) → Laws n → (symbols : List Symbol) (scope : Scope) (d : ℕ) (σ : List Point) (out : List Symbol) → length symbols < suc n → leaves symbols (OperandOf scope d ∷ σ) ≡ Some out → PrimaryTaken scope σ symbols out
operand_step n law [] scope d σ out lt h = absurd (never out h)
operand_step n law (s ∷ xs) scope d σ out lt h = operand_begun n law s xs scope d σ out (omega arith) (sym (leads_then xs σ (next_primary Part scope d s)) ∙ h)

-- what is taken from the end of a primary of a tail on
record TailEnded (scope : Scope) (σ : List Point) (symbols out : List Symbol) (m : ℕ) : Type 0 where
  tail : Tail
  rest : List Symbol
  is : symbols ≡ tail_text tail rest
  derives : TailDerives tail scope
  bare : (tail_ends_in_atom tail && begins_round rest) ≡ false
  on : leaves rest σ ≡ Some out
  few : length rest ≤ m

tail_ends : (n : ℕ) → Laws n → (p : Primary) (rest : List Symbol) (scope : Scope) (d r : ℕ) (σ : List Point) (out : List Symbol) → PrimaryDerives p scope → (is_atom p && begins_round rest) ≡ false → length rest < n
    → leaves rest (Behind Rest scope d r ∷ σ) ≡ Some out → is_no_dot rest ≡ true → TailEnded scope σ (primary_text p rest) out (length rest)
tail_ends n law p [] scope d r σ out good bare lt h e = absurd (never out h)
tail_ends n law p (t.Dot ∷ xs) scope d r σ out good bare lt h e = absurd cc
tail_ends n law p (t.Bar ∷ xs) scope d r σ out good bare lt h e =
    let k = law.tail xs scope (fewer d) σ out (omega arith) h in
    record {
      tail = More p k.tail;
      rest = k.rest;
      is = ap (λ (a : List Symbol). primary_text p (t.Bar ∷ a)) k.is;
      derives = (good, k.derives);
      bare = k.bare;
      on = k.on;
      few = (let l = k.shorter in omega (arith, l));
    }
tail_ends n law p (x ∷ xs) scope d r σ out good bare lt h e =
    record { tail = Last p; rest = x ∷ xs; is = refl; derives = good; bare = bare; on = rest_off x xs scope d r σ out refl h; few = omega arith }

tail_begun : (n : ℕ) → Laws n → (s : Symbol) (xs : List Symbol) (scope : Scope) (d : ℕ) (σ : List Point) (out : List Symbol) → length xs < n → leads_to xs σ (next_primary Rest scope d s) ≡ Some out → TailTaken scope σ (s ∷ xs) out
tail_begun n law s xs scope d σ out lt h =
    let w = whole_primary n law s xs Rest scope d σ out lt h in
    let p = w.taken in
    let l = w.shorter in
    let k = tail_ends n law p.primary p.rest scope d p.levels σ out p.derives p.bare (omega (arith, l, lt)) p.on p.no_dot in
    record { tail = k.tail; rest = k.rest; is = p.is ∙ k.is; derives = k.derives; bare = k.bare; on = k.on; shorter = (let m = k.few in omega (arith, l, m)) }

pub tail_step : (n : ℕ) → Laws n → (symbols : List Symbol) (scope : Scope) (d : ℕ) (σ : List Point) (out : List Symbol) → length symbols < suc n → leaves symbols (TailOf scope d ∷ σ) ≡ Some out → TailTaken scope σ symbols out
tail_step n law [] scope d σ out lt h = absurd (never out h)
tail_step n law (s ∷ xs) scope d σ out lt h = tail_begun n law s xs scope d σ out (omega arith) (sym (leads_then xs σ (next_primary Rest scope d s)) ∙ h)

-- ---- arguments

abbrev no_more_arguments : (xs : List Symbol) (scope : Scope) (σ : List Point) (out : List Symbol) → leaves xs σ ≡ Some out → ArgumentsTaken scope σ (t.CloseCurly ∷ xs) out
no_more_arguments xs scope σ out h = record { arguments = no_arguments; rest = xs; is = refl; derives = tt; on = h; shorter = omega arith }

abbrev one_argument : (scope : Scope) (others σ : List Point) (symbols out : List Symbol) → (v : ValueTaken scope others symbols out) → ArgumentsTaken scope σ v.rest out → ArgumentsTaken scope σ symbols out
one_argument scope others σ symbols out v k = record {
  arguments = argument_and v.value k.arguments;
  rest = k.rest;
  is = v.is ∙ ap (value_text v.value) k.is;
  derives = (v.derives, moved_bare v.value (arguments_text k.arguments []) v.rest (sym (arguments_round k.arguments k.rest) ∙ ap begins_round (sym k.is)) v.bare, k.derives);
  on = k.on;
  shorter = (let l = v.shorter in let m = k.shorter in omega (arith, l, m));
}

argument_begun : (n : ℕ) → Laws n → (s : Symbol) (xs : List Symbol) (scope : Scope) (d k most : ℕ) (σ : List Point) (out : List Symbol) → length xs < n → leads_to xs (points.Arguments scope d (k + 1) most ∷ σ) (next_value scope d s) ≡ Some out
    → ArgumentsTaken scope σ (s ∷ xs) out
argument_begun n law s xs scope d k most σ out lt h =
    let v = value_begun n law s xs scope d (points.Arguments scope d (k + 1) most ∷ σ) out lt h in
    let l = v.shorter in one_argument scope (points.Arguments scope d (k + 1) most ∷ σ) σ (s ∷ xs) out v (law.arguments v.rest scope d (k + 1) most σ out (omega (arith, l, lt)) v.on)

pub arguments_step : (n : ℕ) → Laws n → (symbols : List Symbol) (scope : Scope) (d k most : ℕ) (σ : List Point) (out : List Symbol) → length symbols < suc n → leaves symbols (points.Arguments scope d k most ∷ σ) ≡ Some out → ArgumentsTaken scope σ symbols out
arguments_step n law [] scope d k most σ out lt h = absurd (never out h)
arguments_step n law (t.CloseCurly ∷ xs) scope d k most σ out lt h = no_more_arguments xs scope σ out h
arguments_step n law (s ∷ xs) scope d k most σ out lt h = argument_begun n law s xs scope d k most σ out (omega arith) (sym (leads_then_others xs (points.Arguments scope d (k + 1) most ∷ []) σ (next_value scope d s)) ∙ h)

wanted_begun : (n : ℕ) → Laws n → (s : Symbol) (xs : List Symbol) (scope : Scope) (d k : ℕ) (σ : List Point) (out : List Symbol) → length xs < n → leads_to xs (Wanted scope d k ∷ σ) (next_value scope d s) ≡ Some out → WantedTaken (suc k) scope σ (s ∷ xs) out
wanted_begun n law s xs scope d k σ out lt h =
    let v = value_begun n law s xs scope d (Wanted scope d k ∷ σ) out lt h in
    let l = v.shorter in
    let w = law.wanted v.rest scope d k σ out (omega (arith, l, lt)) v.on in
    record { taken = one_argument scope (Wanted scope d k ∷ σ) σ (s ∷ xs) out v w.taken; all = ap suc w.all }

pub wanted_step : (n : ℕ) → Laws n → (symbols : List Symbol) (scope : Scope) (d k : ℕ) (σ : List Point) (out : List Symbol) → length symbols < suc n → leaves symbols (Wanted scope d k ∷ σ) ≡ Some out → WantedTaken k scope σ symbols out
wanted_step n law [] scope d k σ out lt h = absurd (never out h)
wanted_step n law (t.CloseCurly ∷ xs) scope d zero σ out lt h = record { taken = no_more_arguments xs scope σ out h; all = refl }
wanted_step n law (s ∷ xs) scope d zero σ out lt h = absurd (never out h)
wanted_step n law (s ∷ xs) scope d (suc k) σ out lt h = wanted_begun n law s xs scope d k σ out (omega arith) (sym (leads_then_others xs (Wanted scope d k ∷ []) σ (next_value scope d s)) ∙ h)

-- ---- fields

one_placed : (scope : Scope) (others σ : List Point) (symbols out : List Symbol) → (v : ValueTaken scope others symbols out) → FieldsTaken scope σ v.rest out → FieldsTaken scope σ symbols out
one_placed scope others σ symbols out v k = record {
  fields = placed_and v.value k.fields;
  rest = k.rest;
  is = v.is ∙ ap (value_text v.value) k.is;
  derives = (v.derives, moved_bare v.value (fields_text k.fields []) v.rest (sym (fields_round k.fields k.rest) ∙ ap begins_round (sym k.is)) v.bare, k.derives);
  on = k.on;
  shorter = (let l = v.shorter in let m = k.shorter in omega (arith, l, m));
}

placed_begun : (n : ℕ) → Laws n → (s : Symbol) (xs : List Symbol) (scope : Scope) (d room : ℕ) (before : List Feature) (nth : ℕ) (σ : List Point) (out : List Symbol) → length xs < n
    → leads_to xs (behind_placed scope d room before nth ++ σ) (next_value scope d s) ≡ Some out → FieldsTaken scope σ (s ∷ xs) out
placed_begun n law s xs scope d room before nth σ out lt h =
    let v = value_begun n law s xs scope d (behind_placed scope d room before nth ++ σ) out lt h in
    let l = v.shorter in
    one_placed scope (behind_placed scope d room before nth ++ σ) σ (s ∷ xs) out v (law.fields v.rest scope d (fewer room) (place_feature nth ∷ before) (nth + 1) σ out (omega (arith, l, lt)) v.on)

named_taken : (n : ℕ) → Laws n → (m : FeatureToken) (xs : List Symbol) (scope : Scope) (d room : ℕ) (before : List Feature) (nth : ℕ) (σ : List Point) (out : List Symbol) → length xs < n
    → leaves xs (ValueOf scope d ∷ FieldOf scope d (fewer room) (feature_of m ∷ before) nth ∷ σ) ≡ Some out → FieldsTaken scope σ (feature_symbol m ∷ t.Colon ∷ xs) out
named_taken n law m xs scope d room before nth σ out lt h =
    let v = law.value xs scope d (FieldOf scope d (fewer room) (feature_of m ∷ before) nth ∷ σ) out lt h in
    let l = v.shorter in
    let k = law.fields v.rest scope d (fewer room) (feature_of m ∷ before) nth σ out (omega (arith, l, lt)) v.on in
    record {
      fields = named_and m v.value k.fields;
      rest = k.rest;
      is = ap (λ (r : List Symbol). feature_symbol m ∷ t.Colon ∷ r) (v.is ∙ ap (value_text v.value) k.is);
      derives = (v.derives, moved_bare v.value (fields_text k.fields []) v.rest (sym (fields_round k.fields k.rest) ∙ ap begins_round (sym k.is)) v.bare, k.derives);
      on = k.on;
      shorter = (let j = k.shorter in omega (arith, l, j));
    }

-- an atom that no colon follows, as at the front of a value
atom_placed : (scope : Scope) (d room : ℕ) (before : List Feature) (nth : ℕ) (a : List ℕ) (xs : List Symbol) (σ : List Point) → is_no_colon xs ≡ true
    → leaves xs (FieldBegun scope d room before nth (AtomFeature a) ∷ σ) ≡ leaves xs (BehindAtom Whole scope d ∷ (behind_placed scope d room before nth ++ σ))
atom_placed scope d room before nth a [] σ e = refl
atom_placed scope d room before nth a (t.Colon ∷ xs) σ e = absurd cc
atom_placed scope d room before nth a (x ∷ xs) σ e = refl

integer_placed : (scope : Scope) (d room : ℕ) (before : List Feature) (nth : ℕ) (i : _) (xs : List Symbol) (σ : List Point) → is_no_colon xs ≡ true
    → leaves xs (FieldBegun scope d room before nth (IntFeature i) ∷ σ) ≡ leaves xs (Behind Whole scope d (fewer d) ∷ (behind_placed scope d room before nth ++ σ))
integer_placed scope d room before nth i [] σ e = refl
integer_placed scope d room before nth i (t.Colon ∷ xs) σ e = absurd cc
integer_placed scope d room before nth i (x ∷ xs) σ e = refl

pub fields_step : (n : ℕ) → Laws n → (symbols : List Symbol) (scope : Scope) (d room : ℕ) (before : List Feature) (nth : ℕ) (σ : List Point) (out : List Symbol) → length symbols < suc n → leaves symbols (FieldOf scope d room before nth ∷ σ) ≡ Some out
    → FieldsTaken scope σ symbols out
fields_step n law [] scope d room before nth σ out lt h = absurd (never out h)
fields_step n law (t.CloseRound ∷ xs) scope d room before nth σ out lt h = record { fields = no_fields; rest = xs; is = refl; derives = tt; on = h; shorter = omega arith }
fields_step n law (t.Atom a ∷ t.Colon ∷ xs) scope d room before nth σ out lt h = named_taken n law (AtomFeature a) xs scope d room before nth σ out (omega arith) h
fields_step n law (t.Integer i ∷ t.Colon ∷ xs) scope d room before nth σ out lt h = named_taken n law (IntFeature i) xs scope d room before nth σ out (omega arith) h
fields_step n law (t.Atom a ∷ xs) scope d room before nth σ out lt h =
    placed_begun n law (t.Atom a) xs scope d room before nth σ out (omega arith) (sym (atom_placed scope d room before nth a xs σ refl) ∙ h)
fields_step n law (t.Integer i ∷ xs) scope d room before nth σ out lt h =
    placed_begun n law (t.Integer i) xs scope d room before nth σ out (omega arith) (sym (integer_placed scope d room before nth i xs σ refl) ∙ h)
fields_step n law (s ∷ xs) scope d room before nth σ out lt h =
    placed_begun n law s xs scope d room before nth σ out (omega arith) (sym (leads_then_others xs (behind_placed scope d room before nth) σ (next_value scope d s)) ∙ h)

-- ---- clauses of values

value_clauses_end : (n : ℕ) → Laws n → (xs : List Symbol) (scope : Scope) (d : ℕ) (σ : List Point) (out : List Symbol) → length xs < n → leaves xs (ClauseEnd scope d ∷ σ) ≡ Some out
    → (cs : ValueClauses) × (rest : List Symbol) × (xs ≡ value_clauses_text cs (t.Else ∷ rest)) × ValueClausesDerive cs scope × (leaves rest (ValueOf scope d ∷ Here sign.End ∷ σ) ≡ Some out) × (length rest < length xs)
value_clauses_end n law (t.Else ∷ xs) scope d σ out lt h = (no_clauses, xs, refl, tt, h, omega arith)
value_clauses_end n law (t.Clause ∷ xs) scope d σ out lt h =
    let k = law.value_clauses xs scope d σ out (omega arith) h in
    let l = k.shorter in (clause_and k.pattern k.value k.others, k.rest, ap (λ (r : List Symbol). t.Clause ∷ r) k.is, (k.derives, k.others_derive), k.on, omega (arith, l))
value_clauses_end n law xs scope d σ out lt h = absurd (never out h)

pub value_clauses_step : (n : ℕ) → Laws n → (symbols : List Symbol) (scope : Scope) (d : ℕ) (σ : List Point) (out : List Symbol) → length symbols < suc n → leaves symbols (PatternOf OfValue scope d ∷ σ) ≡ Some out → ValueClausesTaken scope d σ symbols out
value_clauses_step n law symbols scope d σ out lt h =
    let p = pattern_taken symbols OfValue scope d σ out h in
    let l = p.shorter in
    let v = law.value p.rest (scope ++ pattern_names p.part) d (ClauseEnd scope d ∷ σ) out (omega (arith, l, lt)) p.on in
    let m = v.shorter in
    let k = value_clauses_end n law v.rest scope d σ out (omega (arith, l, m, lt)) v.on in
    record {
      pattern = p.part;
      value = v.value;
      others = k.0;
      rest = k.1;
      is = p.is ∙ ap (then_text p.part) (v.is ∙ ap (value_text v.value) k.2);
      derives = v.derives;
      others_derive = k.3;
      on = k.4;
      shorter = (let j = k.5 in omega (arith, l, m, j));
    }
