-- What is derived and passes is read as its tree: values.
use Rattle.std.proofs.Common.{◌≡◌, ◌∙◌, ℕ, zero, suc, ◌+◌, List, [], ◌∷◌, ◌++◌, length, true, false, Option, None, Ok, refl, sym, ap, arith, append_assoc}
use Rattle.std.proofs.lemmas.List.{append-nil}
use Rattle.tree_node.specs.declared.node.Feature.{Feature}
use Rattle.kernel_syntax.specs.declared.sugar.Operation.TheVariants as operation
use Rattle.kernel_syntax.specs.Sugar as sugar
use Rattle.kernel_syntax.specs.Sugar.{Values, no_values, value_and, count_values, new_of}
use Rattle.oz_grammar.specs.declared.symbol.Symbol.{Symbol}
use Rattle.oz_grammar.specs.declared.symbol.Symbol.TheVariants as t
use Rattle.oz_grammar.specs.declared.fault.Fault.{Fault}
use Rattle.oz_grammar.specs.declared.fault.FaultKind.{FaultKind}
use Rattle.oz_grammar.specs.declared.fault.What.{What}
use Rattle.oz_grammar.specs.declared.fault.What.TheVariants as what
use Rattle.oz_grammar.specs.Grammar.{Identifier, FeatureToken, AtomFeature, IntFeature, Selection, ByVariable, ByFeature, feature_symbol, selection_symbol, names_text}
use Rattle.oz_grammar.specs.Scoping.{Scope, feature_of}
use Rattle.oz_grammar.specs.Faults.{or_else, room_fault, deep_fault, use_fault, number_fault, fewer}
use Rattle.oz_grammar.specs.Check.{check_selection}
use Rattle.oz_grammar.specs.Table.{selector_of, features_in}
use Rattle.oz_grammar.specs.Reading.{◌>>=◌, selection_at, is_close_round}
use Rattle.oz_grammar.proofs.FieldOrder.{stopped, or_neither}
use Rattle.oz_grammar.proofs.PartsChecked.{passes}
use Rattle.surface_grammar.specs.declared.parts.Callable.{Callable}
use Rattle.surface_grammar.specs.Derivations.{Primary, Variable, Integer, Atom, Record, Calls, Procedure, Function, Brackets, Selects, Alone, Calculates, Tests, Pairs, IfValue, CaseValue, primary_text, value_text, begins_round}
use Rattle.surface_grammar.specs.Derivations as tree
use Rattle.surface_grammar.specs.Points.{formal_wrong, argument_fault, given_fault, named_fault}
use Rattle.surface_grammar.specs.Check.{check_formals, check_primary, check_value}
use Rattle.surface_grammar.specs.Trees.{with_last, with_value}
use Rattle.surface_grammar.specs.Reading.{Read, ValueReader, Readers, on_level, is_close, arguments_at, FieldsSoFar, with_one, placed_at, field_at, fields_at, atom_at, formals_at, selections_at, part_at, behind_head_at, behind_part_at, value_at}
use Rattle.surface_grammar.proofs.Starts.{stops, is_no_colon, is_no_dot}
use Rattle.surface_grammar.proofs.ReadFields.{Same, same_fault, argument_room}

pub selection_checked : (s : Selection) (scope : Scope) (rest : List Symbol) (behind : Option Fault) → check_selection s scope rest behind ≡ None → selection_at scope (selection_symbol s ∷ rest) ≡ Ok (selector_of s scope, rest)
selection_checked (ByVariable x) scope rest behind e = let s = stopped (use_fault scope x) _ behind e in rw s.0 refl
selection_checked (ByFeature (AtomFeature a)) scope rest behind e = refl
selection_checked (ByFeature (IntFeature n)) scope rest behind e = let s = stopped (number_fault n) _ behind e in rw s.0 refl

-- a selection from what has levels left
pub one_selection : (r : ℕ) (s : Selection) (scope : Scope) (left : ℕ) (v : sugar.Value) (rest : List Symbol) (behind : Option Fault) → deep_fault r ≡ None → check_selection s scope rest behind ≡ None
    → selections_at r scope left v (t.Dot ∷ selection_symbol s ∷ rest) ≡ selections_at (fewer r) scope left (sugar.Apply left (operation.Select (selector_of s scope)) (value_and v no_values)) rest
one_selection zero s scope left v rest behind d e = cc
one_selection (suc r) s scope left v rest behind d e = rw (selection_checked s scope rest behind e) refl

pub formals_checked : (xs before : List Identifier) (c : Callable) (rest : List Symbol) (behind : Option Fault) → check_formals c before xs (t.CloseCurly ∷ rest) behind ≡ None → formals_at c before (names_text xs (t.CloseCurly ∷ rest)) ≡ Ok (before ++ xs, rest)
formals_checked [] before c rest behind e = rw (append-nil before) refl
formals_checked (x ∷ xs) before c rest behind e =
    let s = stopped (formal_wrong c before x) _ _ e in
    passes (formal_wrong c before x) _ _ s.0 ∙ formals_checked xs (before ++ x ∷ []) c rest behind s.1 ∙ rw (append_assoc before (x ∷ []) xs) refl

-- ---- values and arguments

-- values behind others
abbrev pub behind_values : Values → Values → Values
behind_values no_values vs = vs
behind_values (value_and u us) vs = value_and u (behind_values us vs)

pub one_behind : (us : Values) (v : sugar.Value) (vs : Values) → behind_values (with_last us v) vs ≡ behind_values us (value_and v vs)
one_behind no_values v vs = refl
one_behind (value_and u us) v vs = ap (value_and u) (one_behind us v vs)

pub none_behind : (us : Values) → behind_values us no_values ≡ us
none_behind no_values = refl
none_behind (value_and u us) = ap (value_and u) (none_behind us)

-- a value whose holder has something wrong does not pass
pub primary_holder : (p : Primary) (scope : Scope) (d : ℕ) (holder : Option FaultKind) (rest : List Symbol) (behind : Option Fault) → check_primary p scope d holder rest behind ≡ None → holder ≡ None
primary_holder (Variable x) scope d holder rest behind e = (or_neither holder _ (stopped _ _ behind e).0).0
primary_holder (Integer n) scope d holder rest behind e = (or_neither (deep_fault d) holder (or_neither (number_fault n) _ (stopped _ _ behind e).0).1).1
primary_holder (Atom a) scope d holder rest behind e = (or_neither (deep_fault d) holder (stopped _ _ behind e).0).1
primary_holder (Record a fs) scope d holder rest behind e = (or_neither (deep_fault d) holder (stopped _ _ _ e).0).1
primary_holder (Calls p vs) scope d holder rest behind e = (or_neither (deep_fault d) holder (stopped _ _ _ e).0).1
primary_holder (Procedure xs q) scope d holder rest behind e = (or_neither (deep_fault d) holder (stopped _ _ _ e).0).1
primary_holder (Function xs v) scope d holder rest behind e = (or_neither (deep_fault d) holder (stopped _ _ _ e).0).1
primary_holder (Brackets v) scope d holder rest behind e = (or_neither (deep_fault d) holder (stopped _ _ _ e).0).1
primary_holder (Selects p s) scope d holder rest behind e = primary_holder p scope d holder _ _ e

pub value_holder : (v : tree.Value) (scope : Scope) (d : ℕ) (holder : Option FaultKind) (rest : List Symbol) (behind : Option Fault) → check_value v scope d holder rest behind ≡ None → holder ≡ None
value_holder (Alone p) scope d holder rest behind e = primary_holder p scope d holder rest behind e
value_holder (Calculates p o q) scope d holder rest behind e = primary_holder p scope d holder _ _ e
value_holder (Tests p o q) scope d holder rest behind e = primary_holder p scope d holder _ _ e
value_holder (Pairs p l) scope d holder rest behind e = primary_holder p scope d holder _ _ e
value_holder (IfValue c a b) scope d holder rest behind e = (or_neither (deep_fault d) holder (stopped _ _ _ e).0).1
value_holder (CaseValue c p v cs b) scope d holder rest behind e = (or_neither (deep_fault d) holder (stopped _ _ _ e).0).1

-- a value stands before the bracket of a call
primary_open : (p : Primary) (rest : List Symbol) → is_close (primary_text p rest) ≡ false
primary_open (Variable x) rest = refl
primary_open (Integer n) rest = refl
primary_open (Atom a) rest = refl
primary_open (Record a fs) rest = refl
primary_open (Calls p vs) rest = refl
primary_open (Procedure xs q) rest = refl
primary_open (Function xs v) rest = refl
primary_open (Brackets v) rest = refl
primary_open (Selects p s) rest = primary_open p _

pub value_open : (v : tree.Value) (rest : List Symbol) → is_close (value_text v rest) ≡ false
value_open (Alone p) rest = primary_open p rest
value_open (Calculates p o q) rest = primary_open p _
value_open (Tests p o q) rest = primary_open p _
value_open (Pairs p l) rest = primary_open p _
value_open (IfValue c a b) rest = refl
value_open (CaseValue c p v cs b) rest = refl

-- .. and of fields
primary_round : (p : Primary) (rest : List Symbol) → is_close_round (primary_text p rest) ≡ false
primary_round (Variable x) rest = refl
primary_round (Integer n) rest = refl
primary_round (Atom a) rest = refl
primary_round (Record a fs) rest = refl
primary_round (Calls p vs) rest = refl
primary_round (Procedure xs q) rest = refl
primary_round (Function xs v) rest = refl
primary_round (Brackets v) rest = refl
primary_round (Selects p s) rest = primary_round p _

pub value_round : (v : tree.Value) (rest : List Symbol) → is_close_round (value_text v rest) ≡ false
value_round (Alone p) rest = primary_round p rest
value_round (Calculates p o q) rest = primary_round p _
value_round (Tests p o q) rest = primary_round p _
value_round (Pairs p l) rest = primary_round p _
value_round (IfValue c a b) rest = refl
value_round (CaseValue c p v cs b) rest = refl

pub arguments_close : (value : ValueReader) (scope : Scope) (room : ℕ) (before : Values) (rest : List Symbol) → arguments_at value scope room before (t.CloseCurly ∷ rest) ≡ Ok (before, rest)
unfolding arguments_at
arguments_close value scope zero before rest = refl
arguments_close value scope (suc room) before rest = refl

pub arguments_more : (value : ValueReader) (scope : Scope) (room : ℕ) (before : Values) (symbols : List Symbol) (v : sugar.Value) (rest : List Symbol) → is_close symbols ≡ false → value scope None what.ValueOrClose symbols ≡ Ok (v, rest)
    → arguments_at value scope (suc room) before symbols ≡ arguments_at value scope room (with_last before v) rest
unfolding arguments_at
arguments_more value scope room before symbols v rest o e = rw (o, e) refl

pub room_left : (n room most : ℕ) → n + room ≡ most → argument_fault n most ≡ None → (k : ℕ) × (room ≡ suc k)
room_left n zero most e f = let same = argument_room n zero most e in absurd (some_none (sym same ∙ f))
  where
    some_none : room_fault zero ≡ None → ⊥
    some_none e = cc
room_left n (suc room) most e f = (room, refl)

-- ---- what begins with one symbol

pub atom_plain : (value : ValueReader) (scope : Scope) (left : ℕ) (a : List ℕ) (rest : List Symbol) → begins_round rest ≡ false → atom_at value scope left a rest ≡ Ok (sugar.Atom left a, rest)
atom_plain value scope left a [] e = refl
atom_plain value scope left a (t.OpenRound ∷ rest) e = absurd cc
atom_plain value scope left a (s ∷ rest) e = refl

-- a value with so many levels left as a part
abbrev pub AsPart : ℕ → sugar.Value × List Symbol → Read (sugar.Value × ℕ)
AsPart d v = Ok ((v.0, d), v.1)

-- a primary of several symbols, and what is selected in it
pub compound_then : (d : ℕ) (holder : Option FaultKind) (symbols : List Symbol) (scope : Scope) (left : ℕ) (read : Read sugar.Value) (v : sugar.Value) (rest : List Symbol) → or_else (deep_fault d) holder ≡ None → read ≡ Ok (v, rest)
    → (on_level d holder symbols (read >>= AsPart (fewer d)) >>= λ q. selections_at q.0.1 scope left q.0.0 q.1) ≡ selections_at (fewer d) scope left v rest
compound_then d holder symbols scope left read v rest ok e = rw (ok, e) refl

-- a value that begins with a primary is read as a part, and what stands behind that
abbrev pub AsWhole : Readers → ℕ → Scope → Option FaultKind → What → List Symbol → Read sugar.Value
AsWhole inner d scope holder w symbols = part_at inner d scope holder w symbols >>= λ q. behind_part_at inner scope (length symbols) q.0 q.1

pub whole_at : (p : Primary) (inner : Readers) (d : ℕ) (scope : Scope) (holder : Option FaultKind) (w : What) (rest : List Symbol) → value_at inner d scope holder w (primary_text p rest) ≡ AsWhole inner d scope holder w (primary_text p rest)
whole_at (Variable x) inner d scope holder w rest = refl
whole_at (Integer n) inner d scope holder w rest = refl
whole_at (Atom a) inner d scope holder w rest = refl
whole_at (Record a fs) inner d scope holder w rest = refl
whole_at (Calls p vs) inner d scope holder w rest = refl
whole_at (Procedure xs q) inner d scope holder w rest = refl
whole_at (Function xs v) inner d scope holder w rest = refl
whole_at (Brackets v) inner d scope holder w rest = refl
whole_at (Selects p s) inner d scope holder w rest = whole_at p inner d scope holder w _

pub last_selection : (r : ℕ) (scope : Scope) (left : ℕ) (v : sugar.Value) (rest : List Symbol) → is_no_dot rest ≡ true → selections_at r scope left v rest ≡ Ok ((v, r), rest)
last_selection zero scope left v [] e = refl
last_selection zero scope left v (t.Dot ∷ rest) e = absurd cc
last_selection zero scope left v (s ∷ rest) e = refl
last_selection (suc r) scope left v [] e = refl
last_selection (suc r) scope left v (t.Dot ∷ rest) e = absurd cc
last_selection (suc r) scope left v (s ∷ rest) e = refl

pub stops_no_dot : (rest : List Symbol) → stops rest ≡ true → is_no_dot rest ≡ true
stops_no_dot [] e = absurd cc
stops_no_dot (t.Dot ∷ rest) e = absurd cc
stops_no_dot (s ∷ rest) e = refl

pub behind_nothing : (inner : Readers) (scope : Scope) (left : ℕ) (p : sugar.Value × ℕ) (rest : List Symbol) → stops rest ≡ true → behind_part_at inner scope left p rest ≡ Ok (p.0, rest)
behind_nothing inner scope left p [] e = absurd cc
behind_nothing inner scope left p (t.Operator o ∷ rest) e = absurd cc
behind_nothing inner scope left p (t.Test o ∷ rest) e = absurd cc
behind_nothing inner scope left p (t.Bar ∷ rest) e = absurd cc
behind_nothing inner scope left p (s ∷ rest) e = refl

pub head_alone : (inner : Readers) (scope : Scope) (left : ℕ) (p : sugar.Value × ℕ) (rest : List Symbol) → stops rest ≡ true → behind_head_at inner scope left p rest ≡ Ok (p.0, rest)
head_alone inner scope left p [] e = absurd cc
head_alone inner scope left p (t.Bar ∷ rest) e = absurd cc
head_alone inner scope left p (s ∷ rest) e = refl

-- ---- fields

counted_last : (vs : Values) (v : sugar.Value) → count_values (with_last vs v) ≡ count_values vs + 1
counted_last no_values v = refl
counted_last (value_and u us) v = omega (arith, counted_last us v)

pub counted : (vs : Values) (v : sugar.Value) → count_values (with_value vs v) ≡ count_values vs + new_of v
counted vs (sugar.Variable left k) = omega arith
counted vs (sugar.Integer left i) = counted_last vs _
counted vs (sugar.Atom left a) = counted_last vs _
counted vs (sugar.Record left a slots us) = counted_last vs _
counted vs (sugar.Apply left f us) = counted_last vs _
counted vs (sugar.Proc left k q) = counted_last vs _
counted vs (sugar.Fun left k u) = counted_last vs _
counted vs (sugar.If left a b c) = counted_last vs _
counted vs (sugar.Case left a cs b) = counted_last vs _
counted vs (sugar.Brackets left u) = counted_last vs _

-- a field without a feature is no other
primary_placed : (p : Primary) (value : ValueReader) (scope : Scope) (room : ℕ) (m : FieldsSoFar) (rest : List Symbol) → is_no_colon rest ≡ true → field_at value scope room m (primary_text p rest) ≡ placed_at value scope room m (primary_text p rest)
primary_placed (Variable x) value scope room m rest e = refl
primary_placed (Integer n) value scope room m [] e = refl
primary_placed (Integer n) value scope room m (t.Colon ∷ rest) e = absurd cc
primary_placed (Integer n) value scope room m (s ∷ rest) e = refl
primary_placed (Atom a) value scope room m [] e = refl
primary_placed (Atom a) value scope room m (t.Colon ∷ rest) e = absurd cc
primary_placed (Atom a) value scope room m (s ∷ rest) e = refl
primary_placed (Record a fs) value scope room m rest e = refl
primary_placed (Calls p vs) value scope room m rest e = refl
primary_placed (Procedure xs q) value scope room m rest e = refl
primary_placed (Function xs v) value scope room m rest e = refl
primary_placed (Brackets v) value scope room m rest e = refl
primary_placed (Selects p s) value scope room m rest e = primary_placed p value scope room m _ refl

pub value_placed : (v : tree.Value) (value : ValueReader) (scope : Scope) (room : ℕ) (m : FieldsSoFar) (rest : List Symbol) → is_no_colon rest ≡ true → field_at value scope room m (value_text v rest) ≡ placed_at value scope room m (value_text v rest)
value_placed (Alone p) value scope room m rest e = primary_placed p value scope room m rest e
value_placed (Calculates p o q) value scope room m rest e = primary_placed p value scope room m _ refl
value_placed (Tests p o q) value scope room m rest e = primary_placed p value scope room m _ refl
value_placed (Pairs p l) value scope room m rest e = primary_placed p value scope room m _ refl
value_placed (IfValue c a b) value scope room m rest e = refl
value_placed (CaseValue c p v cs b) value scope room m rest e = refl

pub fields_close : (value : ValueReader) (scope : Scope) (room : ℕ) (m : FieldsSoFar) (rest : List Symbol) → fields_at value scope room m (t.CloseRound ∷ rest) ≡ Ok (m, rest)
unfolding fields_at
fields_close value scope zero m rest = refl
fields_close value scope (suc room) m rest = refl

pub fields_more : (value : ValueReader) (scope : Scope) (room : ℕ) (m : FieldsSoFar) (symbols : List Symbol) (next : FieldsSoFar) (rest : List Symbol) → is_close_round symbols ≡ false → field_at value scope (suc room) m symbols ≡ Ok (next, rest)
    → fields_at value scope (suc room) m symbols ≡ fields_at value scope room next rest
unfolding fields_at
fields_more value scope room m symbols next rest o e = rw (o, e) refl

pub named_more : (value : ValueReader) (scope : Scope) (room : ℕ) (before : List Feature) (m : FieldsSoFar) (f : FeatureToken) (v : sugar.Value) (text rest : List Symbol) → Same before m → named_fault (suc room) before f ≡ None → value scope None what.Value text ≡ Ok (v, rest)
    → fields_at value scope (suc room) m (feature_symbol f ∷ t.Colon ∷ text) ≡ fields_at value scope room (with_one (feature_of f) v m.2 m) rest
named_more value scope room before m (AtomFeature a) v text rest same ok e =
    let given : given_fault (suc room) (features_in m.0) (feature_of (AtomFeature a)) ≡ None = sym (same_fault (suc room) before m (feature_of (AtomFeature a)) same) ∙ ok in
    fields_more value scope room m (t.Atom a ∷ t.Colon ∷ text) (with_one (feature_of (AtomFeature a)) v m.2 m) rest refl (rw (given, e) refl)
named_more value scope room before m (IntFeature n) v text rest same ok e =
    let both = or_neither (number_fault n) _ ok in
    let given : given_fault (suc room) (features_in m.0) (feature_of (IntFeature n)) ≡ None = sym (same_fault (suc room) before m (feature_of (IntFeature n)) same) ∙ both.1 in
    fields_more value scope room m (t.Integer n ∷ t.Colon ∷ text) (with_one (feature_of (IntFeature n)) v m.2 m) rest refl (rw (both.0, given, e) refl)

pub given_room : (room : ℕ) (before : List Feature) (f : Feature) → given_fault room before f ≡ None → room ≡ suc (fewer room)
given_room zero before f e = cc
given_room (suc room) before f e = refl

pub named_room : (room : ℕ) (before : List Feature) (m : FeatureToken) → named_fault room before m ≡ None → room ≡ suc (fewer room)
named_room room before (AtomFeature a) e = given_room room before _ e
named_room room before (IntFeature n) e = given_room room before _ (or_neither (number_fault n) _ e).1
