-- The rows of a derivation that passes name what its symbols spell.
use Rattle.std.proofs.Common.{◌≡◌, ℕ, ◌+◌, ◌*◌, ◌<◌, ◌≤◌, ◌^◌, List, [], ◌∷◌, ◌++◌, length, map, Option, Some, None, IsTrue, refl, arith}
use Rattle.std.specs.Prelude.{ℤ, pos}
use Rattle.std.specs.Str.{IsUtf8}
use Rattle.tree_node.specs.declared.node.Feature.{Feature}
use Rattle.tree_node.specs.Each.{Each}
use Rattle.kernel_syntax.specs.Arithmetic.{is_integer}
use Rattle.kernel_syntax.specs.Texts.{IsText, IsFeature, IsSpelledPattern, IsIntegerIfSome, HasTexts}
use Rattle.oz_grammar.specs.declared.symbol.Symbol.{Symbol}
use Rattle.oz_grammar.specs.declared.symbol.Symbol.TheVariants as t
use Rattle.kernel_syntax.specs.declared.built_in.BuiltIn.{BuiltIn}
use Rattle.kernel_syntax.specs.declared.built_in.BuiltIn.TheVariants as built
use Rattle.oz_grammar.specs.declared.symbol.Purpose.{Purpose}
use Rattle.oz_grammar.specs.declared.symbol.Purpose.TheVariants as purpose
use Rattle.oz_grammar.specs.declared.fault.Fault.{Fault}
use Rattle.oz_grammar.specs.Grammar.{Identifier, FeatureToken, AtomFeature, IntFeature, ByVariable, ByFeature, Field, Placed, WithFeature, Value, ToVar, Calculates, Tests, Selects, Pairs, ToInt, ToAtom, ToRecord, IntPattern, AtomPattern, RecordPattern, PairPattern, Plain, Skips, Tells, Calls, Raises, Opening, Locals, ProcValue, ProcNamed, Threads, ThreadsAt, Choice, Ifs, Cases, Statement, Simple, Block, Chooses, Tries, Sequence, One, Then, feature_symbol, names_text, fields_text, value_text, pattern_text, plain_text, opening_text, choice_text, stmt_text, seq_text, program_text}
use Rattle.oz_grammar.specs.Grammar as tree
use Rattle.oz_grammar.specs.Symbols.{IsSpelled}
use Rattle.oz_grammar.specs.Scoping.{Scope, Fields, declaration_of, built_in_at, feature_of, place_feature, with_field, fields_behind, fields_of, opening_scope, choice_scope}
use Rattle.oz_grammar.specs.Table.{code_at, value_of, bar_label, slots_of, features_in, record_row, record_pattern, value_row, pattern_of, call_row, plain_row, opening_row, choice_row, stmt_rows, seq_rows, many_rows, program_table}
use Rattle.oz_grammar.specs.Faults.{number_fault, site_fault, use_fault, deep_fault, room_fault, feature_fault, feature_token_fault, name_fault, placed_fault, selected_fault, fewer}
use Rattle.oz_grammar.specs.Check.{check_fields, check_value, check_pattern, check_plain, check_opening, check_choice, check_stmt, check_seq, check}
use Rattle.oz_grammar.proofs.FieldOrder.{stopped, or_neither, Each-with_field}
use Rattle.oz_grammar.proofs.TableLimits.{opening_limits, choice_limits, deep_enough, stmt_limits, seq_limits}
use Rattle.oz_grammar.proofs.PartsChecked.{room_of, mark_room}
use Rattle.tree_node.proofs.EachLemmas.{each_append}

pub is_small : (n : ℕ) → n < 2 ^ 63 → IsTrue (is_integer (pos n))
is_small n lt = grind arith

bar_utf8 : IsUtf8 bar_label
unfolding lib.Utf8.encode
bar_utf8 = (124 ∷ [], (refl, refl))

pub bar_text : IsText bar_label
bar_text = (bar_utf8, refl, omega arith)

-- ---- rows without bodies

pub number_good : (n : Option ℤ) → number_fault n ≡ None → IsIntegerIfSome n → IsTrue (is_integer (value_of n))
number_good (Some z) e g = g
number_good None e g = cc

mark_good : (m : FeatureToken) (room : ℕ) (before : Fields) → feature_token_fault room before m ≡ None → IsSpelled (feature_symbol m) → IsFeature (feature_of m)
mark_good (AtomFeature a) room before e g = g
mark_good (IntFeature (Some z)) room before e g = g
mark_good (IntFeature None) room before e g = cc

pub selected_good : (m : FeatureToken) → selected_fault m ≡ None → IsSpelled (feature_symbol m) → IsFeature (feature_of m)
selected_good (AtomFeature a) e g = g
selected_good (IntFeature (Some z)) e g = g
selected_good (IntFeature None) e g = cc

fields_good : (fs : List Field) (p : Purpose) (scope : Scope) (room : ℕ) (before : Fields) (next : ℕ) (rest rest' : List Symbol) (behind : Option Fault) → check_fields p scope room before next fs rest behind ≡ None
    → next + length fs < 2 ^ 63 → Each IsSpelled (fields_text fs rest') → Each (λ (f : Feature × Identifier). IsFeature f.0) before → Each (λ (f : Feature × Identifier). IsFeature f.0) (fields_behind before next fs) × Each IsSpelled rest'
fields_good [] p scope room before next rest rest' behind e le g good = (good, g)
fields_good (Placed x ∷ fs) p scope room before next rest rest' behind e le g good =
    let s = stopped (placed_fault p scope room before next x) _ _ e in
    fields_good fs p scope (fewer room) (with_field (place_feature next) x before) (next + 1) rest rest' behind s.1 (omega (arith, le)) g.1
    (Each-with_field (λ (f : Feature × Identifier). IsFeature f.0) (place_feature next) x before (is_small next (omega (arith, le))) good)
fields_good (WithFeature m x ∷ fs) p scope room before next rest rest' behind e le g good =
    let s = stopped (feature_token_fault room before m) _ _ e in
    let u = stopped (name_fault p scope before x) _ _ s.1 in
    fields_good fs p scope (fewer room) (with_field (feature_of m) x before) next rest rest' behind u.1 (omega (arith, le)) g.1.1.1
    (Each-with_field (λ (f : Feature × Identifier). IsFeature f.0) (feature_of m) x before (mark_good m room before s.0 g.0) good)

fields_few : (fs : List Field) (p : Purpose) (scope : Scope) (room : ℕ) (before : Fields) (next : ℕ) (rest : List Symbol) (behind : Option Fault) → check_fields p scope room before next fs rest behind ≡ None → length fs ≤ room
fields_few [] p scope room before next rest behind e = omega arith
fields_few (Placed x ∷ fs) p scope room before next rest behind e =
    let s = stopped (placed_fault p scope room before next x) _ _ e in
    let r = room_of room (or_neither (room_fault room) _ (or_neither (feature_fault room before (place_feature next)) (name_fault p scope before x) s.0).0).0 in
    let h = fields_few fs p scope (fewer room) (with_field (place_feature next) x before) (next + 1) rest behind s.1 in
    omega (arith, r, h)
fields_few (WithFeature m x ∷ fs) p scope room before next rest behind e =
    let s = stopped (feature_token_fault room before m) _ _ e in
    let u = stopped (name_fault p scope before x) _ _ s.1 in
    let r = mark_room room before m s.0 in
    let h = fields_few fs p scope (fewer room) (with_field (feature_of m) x before) next rest behind u.1 in
    omega (arith, r, h)

-- the fields of a record or a pattern that passes
whole_good : (fs : List Field) (p : Purpose) (scope : Scope) (rest rest' : List Symbol) (behind : Option Fault) → check_fields p scope 64 [] 1 fs rest behind ≡ None → Each IsSpelled (fields_text fs rest')
    → Each (λ (f : Feature × Identifier). IsFeature f.0) (fields_of fs) × Each IsSpelled rest'
whole_good fs p scope rest rest' behind e g =
    let few = fields_few fs p scope 64 [] 1 rest behind e in
    fields_good fs p scope 64 [] 1 rest rest' behind e (omega (arith, few)) g tt

record_good : (left : ℕ) (label : List ℕ) (scope : Scope) (fields : Fields) → IsText label → Each (λ (f : Feature × Identifier). IsFeature f.0) fields → HasTexts (record_row left label (slots_of scope fields))
record_good left label scope [] is good = is
record_good left label scope (f ∷ fields) is good = (is, slots scope (f ∷ fields) good)
  where
    slots : (s : Scope) (gs : Fields) → Each (λ (g : Feature × Identifier). IsFeature g.0) gs → Each IsFeature (map (λ (g : Feature × ℕ). g.0) (slots_of s gs))
    slots s [] h = tt
    slots s (g ∷ gs) h = (h.0, slots s gs h.1)

pub names_rest : (xs : List Identifier) (rest : List Symbol) → Each IsSpelled (names_text xs rest) → Each IsSpelled rest
names_rest [] rest g = g
names_rest (x ∷ xs) rest g = names_rest xs rest g.1

value_good : (left : ℕ) (v : Value) (scope : Scope) (rest : List Symbol) (behind : Option Fault) → check_value v scope rest behind ≡ None → Each IsSpelled (value_text v rest) → HasTexts (value_row left v scope) × Each IsSpelled rest
value_good left (ToVar y) scope rest behind e g = (tt, g.1)
value_good left (Calculates y o z) scope rest behind e g = (tt, g.1.1.1)
value_good left (Tests y o z) scope rest behind e g = (tt, g.1.1.1)
value_good left (Selects y (ByVariable x)) scope rest behind e g = (tt, g.1.1.1)
value_good left (Selects y (ByFeature m)) scope rest behind e g =
    let s = stopped (use_fault scope y) _ _ e in
    (selected_good m (stopped (selected_fault m) _ behind s.1).0 g.1.1.0, g.1.1.1)
value_good left (Pairs h u) scope rest behind e g = ((bar_text, (refl, (refl, tt))), g.1.1.1)
value_good left (ToInt n) scope rest behind e g = (number_good n (stopped (number_fault n) _ behind e).0 g.0, g.1)
value_good left (ToAtom a) scope rest behind e g = (g.0, g.1)
value_good left (ToRecord a fs) scope rest behind e g =
    let w = whole_good fs purpose.Use scope (t.CloseRound ∷ rest) (t.CloseRound ∷ rest) behind e g.1.1 in
    (record_good left a scope (fields_of fs) g.0 w.0, w.1.1)

call_good : (b : Option BuiltIn) (callee : ℕ) (xs : List ℕ) → HasTexts (call_row b callee xs)
call_good (Some built.Browse) callee xs = tt
call_good (Some built.Wait) callee xs = tt
call_good (Some built.NewCell) callee xs = tt
call_good (Some built.Exchange) callee xs = tt
call_good (Some built.NewPort) callee xs = tt
call_good (Some built.Send) callee xs = tt
call_good (Some built.NewCellAt) callee xs = tt
call_good None callee xs = tt

plain_good : (s : Plain) (scope : Scope) (rest : List Symbol) (behind : Option Fault) → check_plain s scope rest behind ≡ None → Each IsSpelled (plain_text s rest) → HasTexts (plain_row s scope) × Each IsSpelled rest
plain_good Skips scope rest behind e g = (tt, g.1)
plain_good (Tells x v) scope rest behind e g = value_good (declaration_of scope x) v scope rest behind (stopped (use_fault scope x) _ _ e).1 g.1.1
plain_good (Calls p xs) scope rest behind e g =
    (call_good (built_in_at scope p) (declaration_of scope p) (map (declaration_of scope) xs), (names_rest xs (t.CloseCurly ∷ rest) g.1.1).1)
plain_good (Raises x) scope rest behind e g = (tt, g.1.1.1)

features_good : (fields : Fields) → Each (λ (f : Feature × Identifier). IsFeature f.0) fields → Each IsFeature (features_in fields)
features_good [] good = tt
features_good (f ∷ fields) good = (good.0, features_good fields good.1)

record_pattern_good : (label : List ℕ) (features : List Feature) → IsText label → Each IsFeature features → IsSpelledPattern (record_pattern label features)
record_pattern_good label [] is good = is
record_pattern_good label (f ∷ fs) is good = (is, good)

pub pattern_good : (p : tree.Pattern) (scope : Scope) (rest rest' : List Symbol) (behind : Option Fault) → check_pattern p scope rest behind ≡ None → Each IsSpelled (pattern_text p rest') → IsSpelledPattern (pattern_of p) × Each IsSpelled rest'
pattern_good (IntPattern n) scope rest rest' behind e g = (number_good n (stopped (number_fault n) _ behind e).0 g.0, g.1)
pattern_good (AtomPattern a) scope rest rest' behind e g = (g.0, g.1)
pattern_good (RecordPattern a fs) scope rest rest' behind e g =
    let w = whole_good fs purpose.Declare scope (t.CloseRound ∷ rest) (t.CloseRound ∷ rest') behind e g.1.1 in
    (record_pattern_good a (features_in (fields_of fs)) g.0 (features_good (fields_of fs) w.0), w.1.1)
pattern_good (PairPattern h u) scope rest rest' behind e g = ((bar_text, (refl, (refl, tt))), g.1.1.1)

-- ---- rows with bodies

pub site_good : (n : Option ℤ) → site_fault n ≡ None → IsIntegerIfSome n → IsIntegerIfSome (Some (value_of n))
site_good (Some z) e g = g
site_good None e g = cc

opening_good : (o : Opening) (scope : Scope) (c : Rattle.tree_node.specs.declared.names.CodeId.CodeId) (mid : List Symbol) (behind : Option Fault) → check_opening o scope mid behind ≡ None → Each IsSpelled (opening_text o mid)
    → HasTexts (opening_row o scope c) × Each IsSpelled mid
opening_good (Locals x xs) scope c mid behind e g = (tt, (names_rest xs (t.In ∷ mid) g.1.1).1)
opening_good (ProcValue x xs) scope c mid behind e g = (tt, (names_rest xs (t.CloseCurly ∷ mid) g.1.1.1.1.1).1)
opening_good (ProcNamed x xs) scope c mid behind e g = (tt, (names_rest xs (t.CloseCurly ∷ mid) g.1.1.1).1)
opening_good Threads scope c mid behind e g = (tt, g.1)
opening_good (ThreadsAt n) scope c mid behind e g = (site_good n (stopped (site_fault n) _ behind e).0 g.1.1.0, g.1.1.1)

choice_good : (h : Choice) (scope : Scope) (b c : Rattle.tree_node.specs.declared.names.CodeId.CodeId) (mid : List Symbol) (behind : Option Fault) → check_choice h scope mid behind ≡ None → Each IsSpelled (choice_text h mid)
    → HasTexts (choice_row h scope b c) × Each IsSpelled mid
choice_good (Ifs x) scope b c mid behind e g = (tt, g.1.1.1)
choice_good (Cases x p) scope b c mid behind e g =
    let good = pattern_good p scope (t.Then ∷ mid) (t.Then ∷ mid) behind (stopped (use_fault scope x) _ _ e).1 g.1.1.1 in (good.0, good.1.1)

-- ---- rows of a derivation

mutual
  stmt_texts : (s : Statement) (d : ℕ) (scope : Scope) (k : ℕ) (rest : List Symbol) (behind : Option Fault) → check_stmt s d scope rest behind ≡ None → length scope + 64 * d ≤ 12800 → Each IsSpelled (stmt_text s rest)
      → Each HasTexts (stmt_rows s scope k) × Each IsSpelled rest
  stmt_texts (Simple s) d scope k rest behind e le g =
      let good = plain_good s scope rest behind (stopped (deep_fault d) _ _ e).1 g in ((good.0, tt), good.1)
  stmt_texts (Block o q) d scope k rest behind e le g =
      let u = stopped (deep_fault d) _ _ e in
      let enough = deep_enough d u.0 in
      let opens = opening_limits o scope _ _ (omega (arith, le)) u.1 in
      let first = opening_good o scope (code_at (k + 1)) _ _ u.1 g in
      let body = seq_texts q (fewer d) (opening_scope o scope) (k + 1) (t.End ∷ rest) behind opens.reached (omega (arith, le, enough, opens.few)) first.1 in
      ((first.0, body.0), body.1.1)
  stmt_texts (Chooses h q r) d scope k rest behind e le g =
      let u = stopped (deep_fault d) _ _ e in
      let enough = deep_enough d u.0 in
      let branches = choice_limits h scope _ _ (omega (arith, le)) u.1 in
      let after = seq_limits q (fewer d) (choice_scope h scope) 0 _ _ branches.reached (omega (arith, le, enough, branches.few)) in
      let first = choice_good h scope (code_at (k + 1)) (code_at (k + 1 + length (seq_rows q (choice_scope h scope) (k + 1)))) _ _ u.1 g in
      let chosen = seq_texts q (fewer d) (choice_scope h scope) (k + 1) (t.Else ∷ seq_text r (t.End ∷ rest)) _ branches.reached (omega (arith, le, enough, branches.few)) first.1 in
      let other = seq_texts r (fewer d) scope (k + 1 + length (seq_rows q (choice_scope h scope) (k + 1))) (t.End ∷ rest) behind after.0 (omega (arith, le, enough)) chosen.1.1 in
      ((first.0, each_append HasTexts (seq_rows q (choice_scope h scope) (k + 1)) _ chosen.0 other.0), other.1.1)
  stmt_texts (Tries q x r) d scope k rest behind e le g =
      let u = stopped (deep_fault d) _ _ e in
      let enough = deep_enough d u.0 in
      let l = Rattle.std.proofs.Common.length-append scope (x ∷ []) in
      let after = seq_limits q (fewer d) scope 0 _ _ u.1 (omega (arith, le, enough)) in
      let body = seq_texts q (fewer d) scope (k + 1) (t.Catch ∷ t.Variable x ∷ t.Then ∷ seq_text r (t.End ∷ rest)) _ u.1 (omega (arith, le, enough)) g.1 in
      let handler = seq_texts r (fewer d) (scope ++ x ∷ []) (k + 1 + length (seq_rows q scope (k + 1))) (t.End ∷ rest) behind after.0 (omega (arith, le, enough, l)) body.1.1.1.1 in
      ((tt, each_append HasTexts (seq_rows q scope (k + 1)) _ body.0 handler.0), handler.1.1)

  seq_texts : (q : Sequence) (d : ℕ) (scope : Scope) (k : ℕ) (rest : List Symbol) (behind : Option Fault) → check_seq q d scope rest behind ≡ None → length scope + 64 * d ≤ 12800 → Each IsSpelled (seq_text q rest)
      → Each HasTexts (seq_rows q scope k) × Each IsSpelled rest
  seq_texts (One s) d scope k rest behind e le g = stmt_texts s d scope k rest behind e le g
  seq_texts (Then s q) d scope k rest behind e le g =
      let after = stmt_limits s d scope 0 (seq_text q rest) (check_seq q d scope rest behind) e le in
      let first = stmt_texts s d scope (k + 1) (seq_text q rest) (check_seq q d scope rest behind) e le g in
      let others = many_texts q d scope (k + 1 + length (stmt_rows s scope (k + 1))) rest behind after.0 le first.1 in
      ((tt, each_append HasTexts (stmt_rows s scope (k + 1)) _ first.0 others.0), others.1)

  many_texts : (q : Sequence) (d : ℕ) (scope : Scope) (k : ℕ) (rest : List Symbol) (behind : Option Fault) → check_seq q d scope rest behind ≡ None → length scope + 64 * d ≤ 12800 → Each IsSpelled (seq_text q rest)
      → Each HasTexts (many_rows q scope k) × Each IsSpelled rest
  many_texts (One s) d scope k rest behind e le g = stmt_texts s d scope k rest behind e le g
  many_texts (Then s q) d scope k rest behind e le g =
      let after = stmt_limits s d scope 0 (seq_text q rest) (check_seq q d scope rest behind) e le in
      let first = stmt_texts s d scope k (seq_text q rest) (check_seq q d scope rest behind) e le g in
      let others = many_texts q d scope (k + length (stmt_rows s scope k)) rest behind after.0 le first.1 in
      (each_append HasTexts (stmt_rows s scope k) _ first.0 others.0, others.1)

pub program_texts : (q : Sequence) → check q ≡ None → Each IsSpelled (program_text q) → Each HasTexts (program_table q)
program_texts q e g = (seq_texts q 200 [] 0 (t.EndOfText ∷ []) None e (omega arith) g).0
