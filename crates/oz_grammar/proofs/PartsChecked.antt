-- What is derived and passes is read as it stands in the table: parts of statements, and statements without bodies.
use Rattle.std.proofs.Common.{◌≡◌, ◌∙◌, ℕ, zero, suc, ◌+◌, List, [], ◌∷◌, ◌++◌, length, Option, Some, None, Result, Ok, Err, refl, sym, ap, subst, append_assoc}
use Rattle.std.proofs.lemmas.List.{append-nil}
use Rattle.oz_grammar.specs.declared.symbol.Symbol.{Symbol}
use Rattle.oz_grammar.specs.declared.symbol.Symbol.TheVariants as t
use Rattle.oz_grammar.specs.declared.symbol.Purpose.{Purpose}
use Rattle.oz_grammar.specs.declared.symbol.Purpose.TheVariants as purpose
use Rattle.oz_grammar.specs.declared.fault.Fault.{Fault}
use Rattle.oz_grammar.specs.declared.fault.FaultKind.{FaultKind}
use Rattle.oz_grammar.specs.declared.fault.What.{What}
use Rattle.oz_grammar.specs.Grammar.{Identifier, FeatureToken, AtomFeature, IntFeature, Field, Placed, WithFeature, Pattern, IntPattern, AtomPattern, RecordPattern, PairPattern, names_text, field_text, fields_text, pattern_text}
use Rattle.oz_grammar.specs.Scoping.{Scope, Fields, declaration_of, has_name, with_field, feature_of, place_feature, fields_behind, pattern_names}
use Rattle.oz_grammar.specs.Table.{pattern_of}
use Rattle.oz_grammar.specs.Faults.{where_so, number_fault, use_fault, count_fault, room_fault, feature_token_fault, name_fault, placed_fault, fewer, feature_fault}
use Rattle.oz_grammar.specs.Check.{check_fields, check_pattern, check_locals}
use Rattle.oz_grammar.specs.Reading.{◌>>=◌, fault_or, used_variable_at, field_at, fields_at, locals_at, pattern_at}
use Rattle.oz_grammar.proofs.FieldOrder.{stopped, or_neither}

-- nothing is wrong there, so that it is read
pub passes : {A : Type 0} (wrong : Option FaultKind) (symbols : List Symbol) (read : Result A Fault) → wrong ≡ None → fault_or wrong symbols read ≡ read
passes None symbols read e = refl
passes (Some kind) symbols read e = cc

-- one thing is read after another
pub then_read : {A B : Type 0} (r : Result A Fault) (f : A → Result B Fault) (x : A) (y : Result B Fault) → r ≡ Ok x → f x ≡ y → (r >>= f) ≡ y
then_read (Ok z) f x y e next = let same : z ≡ x = cc in ap f same ∙ next
then_read (Err fault) f x y e next = cc

-- ---- values

pub used_read : (w : What) (scope : Scope) (x : Identifier) (rest : List Symbol) → use_fault scope x ≡ None → used_variable_at w scope (t.Variable x ∷ rest) ≡ Ok (declaration_of scope x, rest)
used_read w scope x rest e = passes (use_fault scope x) (t.Variable x ∷ rest) (Ok (declaration_of scope x, rest)) e

fields_end : (p : Purpose) (scope : Scope) (room : ℕ) (before : Fields) (next : ℕ) (rest : List Symbol) → fields_at p scope room before next (t.CloseRound ∷ rest) ≡ Ok (before, rest)
unfolding fields_at
fields_end p scope zero before next rest = refl
fields_end p scope (suc room) before next rest = refl

-- a field that is read, and those behind it
fields_more : (p : Purpose) (scope : Scope) (room : ℕ) (before : Fields) (next : ℕ) (f : Field) (rest : List Symbol) (fields : Fields) (after : ℕ) → field_at p scope (suc room) before next (field_text f rest) ≡ Ok (fields, after, rest)
    → fields_at p scope (suc room) before next (field_text f rest) ≡ fields_at p scope room fields after rest
unfolding fields_at
fields_more p scope room before next (Placed x) rest fields after e = rw e refl
fields_more p scope room before next (WithFeature (AtomFeature a) x) rest fields after e = rw e refl
fields_more p scope room before next (WithFeature (IntFeature n) x) rest fields after e = rw e refl

pub room_of : (room : ℕ) → room_fault room ≡ None → room ≡ suc (fewer room)
room_of zero e = cc
room_of (suc room) e = refl

placed_room : (p : Purpose) (scope : Scope) (room : ℕ) (before : Fields) (next : ℕ) (x : Identifier) → placed_fault p scope room before next x ≡ None → room ≡ suc (fewer room)
placed_room p scope room before next x e = room_of room (or_neither (room_fault room) _ (or_neither (feature_fault room before (place_feature next)) (name_fault p scope before x) e).0).0

pub mark_room : (room : ℕ) (before : Fields) (m : FeatureToken) → feature_token_fault room before m ≡ None → room ≡ suc (fewer room)
mark_room room before (AtomFeature a) e = room_of room (or_neither (room_fault room) _ e).0
mark_room room before (IntFeature n) e = room_of room (or_neither (room_fault room) _ (or_neither (number_fault n) (feature_fault room before (feature_of (IntFeature n))) e).1).0

marked_read : (p : Purpose) (scope : Scope) (room : ℕ) (before : Fields) (next : ℕ) (m : FeatureToken) (x : Identifier) (rest : List Symbol) → feature_token_fault room before m ≡ None → name_fault p scope before x ≡ None
    → field_at p scope room before next (field_text (WithFeature m x) rest) ≡ Ok (with_field (feature_of m) x before, next, rest)
marked_read p scope room before next (AtomFeature a) x rest e f = passes (feature_token_fault room before (AtomFeature a)) _ _ e ∙ passes (name_fault p scope before x) (t.Variable x ∷ rest) _ f
marked_read p scope room before next (IntFeature n) x rest e f = passes (feature_token_fault room before (IntFeature n)) _ _ e ∙ passes (name_fault p scope before x) (t.Variable x ∷ rest) _ f

pub fields_read : (fs : List Field) (p : Purpose) (scope : Scope) (room : ℕ) (before : Fields) (next : ℕ) (rest : List Symbol) (behind : Option Fault) → check_fields p scope room before next fs (t.CloseRound ∷ rest) behind ≡ None
    → fields_at p scope room before next (fields_text fs (t.CloseRound ∷ rest)) ≡ Ok (fields_behind before next fs, rest)
fields_read [] p scope room before next rest behind e = fields_end p scope room before next rest
fields_read (Placed x ∷ fs) p scope room before next rest behind e =
    let s = stopped (placed_fault p scope room before next x) _ _ e in
    let r = placed_room p scope room before next x s.0 in
    let one = passes (placed_fault p scope room before next x) (t.Variable x ∷ fields_text fs (t.CloseRound ∷ rest)) (Ok (with_field (place_feature next) x before, next + 1, fields_text fs (t.CloseRound ∷ rest))) s.0 in
    subst (λ (n : ℕ). fields_at p scope n before next (fields_text (Placed x ∷ fs) (t.CloseRound ∷ rest)) ≡ Ok (fields_behind before next (Placed x ∷ fs), rest)) (sym r)
    (fields_more p scope (fewer room) before next (Placed x) (fields_text fs (t.CloseRound ∷ rest)) (with_field (place_feature next) x before) (next + 1)
    (subst (λ (n : ℕ). field_at p scope n before next (t.Variable x ∷ fields_text fs (t.CloseRound ∷ rest)) ≡ Ok (with_field (place_feature next) x before, next + 1, fields_text fs (t.CloseRound ∷ rest))) r one)
    ∙ fields_read fs p scope (fewer room) (with_field (place_feature next) x before) (next + 1) rest behind s.1)
fields_read (WithFeature m x ∷ fs) p scope room before next rest behind e =
    let s = stopped (feature_token_fault room before m) _ _ e in
    let u = stopped (name_fault p scope before x) _ _ s.1 in
    let r = mark_room room before m s.0 in
    let one = marked_read p scope room before next m x (fields_text fs (t.CloseRound ∷ rest)) s.0 u.0 in
    subst (λ (n : ℕ). fields_at p scope n before next (fields_text (WithFeature m x ∷ fs) (t.CloseRound ∷ rest)) ≡ Ok (fields_behind before next (WithFeature m x ∷ fs), rest)) (sym r)
    (fields_more p scope (fewer room) before next (WithFeature m x) (fields_text fs (t.CloseRound ∷ rest)) (with_field (feature_of m) x before) next
    (subst (λ (n : ℕ). field_at p scope n before next (field_text (WithFeature m x) (fields_text fs (t.CloseRound ∷ rest))) ≡ Ok (with_field (feature_of m) x before, next, fields_text fs (t.CloseRound ∷ rest))) r one)
    ∙ fields_read fs p scope (fewer room) (with_field (feature_of m) x before) next rest behind u.1)

-- ---- lists of names

pub locals_read : (xs before : List Identifier) (rest : List Symbol) (behind : Option Fault) → check_locals before xs (t.In ∷ rest) behind ≡ None → locals_at before (names_text xs (t.In ∷ rest)) ≡ Ok (before ++ xs, rest)
locals_read [] before rest behind e = rw (append-nil before) refl
locals_read (x ∷ xs) before rest behind e =
    let s = stopped (count_fault (length before)) _ _ e in
    passes (count_fault (length before)) _ _ s.0 ∙ locals_read xs (before ++ x ∷ []) rest behind s.1 ∙ rw (append_assoc before (x ∷ []) xs) refl

-- ---- statements without bodies

-- ---- patterns

pub pattern_read : (p : Pattern) (scope : Scope) (rest : List Symbol) (behind : Option Fault) → check_pattern p scope (t.Then ∷ rest) behind ≡ None
    → pattern_at scope (pattern_text p (t.Then ∷ rest)) ≡ Ok (pattern_of p, pattern_names p, t.Then ∷ rest)
pattern_read (IntPattern n) scope rest behind e = let s = stopped (number_fault n) _ behind e in rw s.0 refl
pattern_read (AtomPattern a) scope rest behind e = refl
pattern_read (RecordPattern a fs) scope rest behind e = rw (fields_read fs purpose.Declare scope 64 [] 1 (t.Then ∷ rest) behind e) refl
pattern_read (PairPattern h u) scope rest behind e = let s = stopped (where_so (has_name (h ∷ []) u) _) _ behind e in passes (where_so (has_name (h ∷ []) u) _) _ _ s.0
