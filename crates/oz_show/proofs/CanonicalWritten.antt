-- The canonical symbols of a program can be written.
use Rattle.std.proofs.Common.{◌≡◌, ◌∙◌, ℕ, zero, suc, ◌+◌, ◌-◌, ◌<◌, ◌≤◌, ◌^◌, List, [], ◌∷◌, length, map, Bool, true, Option, Some, None, IsTrue, refl, ap, arith}
use Rattle.std.specs.Prelude.{◌&&◌, ℤ, pos, negsuc, slice_get, unwrap_or}
use Rattle.std.specs.List.{list_all}
use Rattle.tree_node.specs.declared.names.CodeId.{CodeId}
use Rattle.tree_node.specs.declared.node.Feature.{Feature}
use Rattle.tree_node.specs.declared.node.Feature.TheVariants as feature
use Rattle.tree_node.specs.Each.{Each}
use Rattle.kernel_syntax.specs.declared.stmt.Stmt.{Stmt}
use Rattle.kernel_syntax.specs.declared.stmt.Stmt.TheVariants as stmt
use Rattle.kernel_syntax.specs.declared.stmt.Selector.TheVariants as selector
use Rattle.kernel_syntax.specs.declared.stmt.Pattern.{Pattern}
use Rattle.kernel_syntax.specs.declared.stmt.Pattern.TheVariants as pattern
use Rattle.kernel_syntax.specs.Arithmetic.{is_integer}
use Rattle.kernel_syntax.specs.Scopes.{stmt_at, named_positions, features_in}
use Rattle.kernel_syntax.specs.Texts.{is_text_byte, IsText, IsFeature, IsSpelledPattern, HasTexts}
use Rattle.kernel_syntax.specs.Preorder.{whole_program}
use Rattle.kernel_syntax.specs.Program.{IsStmt, IsProgram}
use Rattle.kernel_syntax.proofs.Below.{Below}
use Rattle.kernel_syntax.proofs.PreorderLemmas.{NamesFew, names_few}
use Rattle.oz_grammar.specs.declared.symbol.Symbol.{Symbol}
use Rattle.oz_grammar.specs.declared.symbol.Symbol.TheVariants as t
use Rattle.kernel_syntax.specs.declared.built_in.BuiltIn.{BuiltIn}
use Rattle.kernel_syntax.specs.declared.built_in.BuiltIn.TheVariants as built
use Rattle.oz_grammar.specs.Grammar.{ByVariable, ByFeature, Value, ToVar, Calculates, Tests, Selects, ToInt, ToAtom, ToRecord, Tells, feature_symbol, names_text, field_text, fields_text, value_text, pattern_text, plain_text}
use Rattle.oz_grammar.specs.Canonical.{name_at, names_from, built_in_name, feature_token, field_with_feature, slot_field, declared_fields, pattern_tree, calls_built_in, bodies_symbols, row_symbols, symbols_within, canonical_symbols}
use Rattle.oz_grammar.specs.Table.{code_at}
use Rattle.oz_grammar.proofs.CanonicalRows.{plain_tree, IsPlainRow}
use Rattle.oz_grammar.proofs.Atoms.{is_atom_byte}
use Rattle.oz_grammar.proofs.Digits.{FitsInteger}
use Rattle.oz_show.proofs.SymbolSpelling.{IsAtom, IsWritten, name_written}
use Rattle.oz_show.proofs.SpelledTokens.{Written, ends, more}
use Rattle.std.proofs.lemmas.Bool.{and_parts}
use Rattle.tree_node.proofs.EnvLemmas.{each_more}

-- ---- atoms and integers

atom_byte : (b : ℕ) → is_text_byte b ≡ true → is_atom_byte b ≡ true
atom_byte b e = grind arith

atom_bytes : (a : List ℕ) → list_all is_text_byte a ≡ true → list_all is_atom_byte a ≡ true
atom_bytes [] all = refl
atom_bytes (b ∷ bs) all =
    let two = and_parts (is_text_byte b) (list_all is_text_byte bs) all in
    ap (λ (x : Bool). x && list_all is_atom_byte bs) (atom_byte b two.0) ∙ atom_bytes bs two.1

is_atom : (a : List ℕ) → IsText a → IsAtom a
is_atom a is = (atom_bytes a is.1, is.2, is.0)

fits_integer : (z : ℤ) → IsTrue (is_integer z) → FitsInteger z
fits_integer (pos n) e = grind arith
fits_integer (negsuc n) e = grind arith

-- ---- identifiers

names_write : (ks : List ℕ) (rest : List Symbol) → Below (2 ^ 32) ks → Written rest → Written (names_text (map name_at ks) rest)
names_write [] rest below w = w
names_write (k ∷ ks) rest below w = more (name_written k below.0) (names_write ks rest below.1 w)

from_write : (count first : ℕ) (rest : List Symbol) → first + count < 2 ^ 32 → Written rest → Written (names_text (names_from first count) rest)
from_write zero first rest le w = w
from_write (suc count) first rest le w = more (name_written first (omega (arith, le))) (from_write count (first + 1) rest (omega (arith, le)) w)

mark_written : (f : Feature) → IsFeature f → IsWritten (feature_symbol (feature_token f))
mark_written (feature.Int z) good = fits_integer z good
mark_written (feature.Atom a) good = is_atom a good

field_write : (f : Feature) (k : ℕ) (rest : List Symbol) → IsFeature f → k < 2 ^ 32 → Written rest → Written (field_text (field_with_feature (f, name_at k)) rest)
field_write f k rest good small w =
    more (mark_written f good) (more tt (more (name_written k small) w))

slots_write : (slots : List (Feature × ℕ)) (rest : List Symbol) → Each IsFeature (map (λ (s : Feature × ℕ). s.0) slots) → Below (2 ^ 32) (map (λ (s : Feature × ℕ). s.1) slots) → Written rest → Written (fields_text (map slot_field slots) rest)
slots_write [] rest good below w = w
slots_write (s ∷ slots) rest good below w = field_write s.0 s.1 _ good.0 below.0 (slots_write slots rest good.1 below.1 w)

declared_write : (features : List Feature) (first : ℕ) (rest : List Symbol) → Each IsFeature features → first + length features < 2 ^ 32 → Written rest → Written (fields_text (declared_fields first features) rest)
declared_write [] first rest good le w = w
declared_write (f ∷ fs) first rest good le w = field_write f first _ good.0 (omega (arith, le)) (declared_write fs (first + 1) rest good.1 (omega (arith, le)) w)

-- ---- rows without bodies

built_in_write : (b : BuiltIn) (ks : List ℕ) (rest : List Symbol) → Below (2 ^ 32) ks → Written rest → Written (plain_text (calls_built_in b ks) rest)
built_in_write b ks rest below w = more tt (more (built_in_written b) (names_write ks (t.CloseCurly ∷ rest) below (more tt w)))
  where
    built_in_written : (c : BuiltIn) → IsWritten (t.Variable (built_in_name c))
    built_in_written built.Browse = (refl, omega arith)
    built_in_written built.Wait = (refl, omega arith)
    built_in_written built.NewCell = (refl, omega arith)
    built_in_written built.Exchange = (refl, omega arith)
    built_in_written built.NewPort = (refl, omega arith)
    built_in_written built.Send = (refl, omega arith)
    built_in_written built.NewCellAt = (refl, omega arith)

value_write : (left : ℕ) (v : Value) (rest : List Symbol) → left < 2 ^ 32 → Written (value_text v rest) → Written (plain_text (Tells (name_at left) v) rest)
value_write left v rest small w = more (name_written left small) (more tt w)

row_writes : (row : Stmt) (rest : List Symbol) → IsPlainRow row → Below (2 ^ 32) (named_positions row) → HasTexts row → Written rest → Written (plain_text (plain_tree row) rest)
row_writes (stmt.Seq bodies) rest p below good w = absurd p
row_writes (stmt.Local first count c) rest p below good w = absurd p
row_writes (stmt.TellProc left first count c) rest p below good w = absurd p
row_writes (stmt.If subject chosen other) rest p below good w = absurd p
row_writes (stmt.Case subject pattern first chosen other) rest p below good w = absurd p
row_writes (stmt.Thread at c) rest p below good w = absurd p
row_writes (stmt.Try c first handler) rest p below good w = absurd p
row_writes stmt.Skip rest p below good w = more tt w
row_writes (stmt.TellVar left right) rest p below good w = value_write left (ToVar (name_at right)) rest below.0 (more (name_written right below.1.0) w)
row_writes (stmt.TellInt left z) rest p below good w = value_write left (ToInt (Some z)) rest below.0 (more (fits_integer z good) w)
row_writes (stmt.TellAtom left a) rest p below good w = value_write left (ToAtom a) rest below.0 (more (is_atom a good) w)
row_writes (stmt.TellRec left label slots) rest p below good w =
    value_write left (ToRecord label (map slot_field slots)) rest below.0 (more (is_atom label good.0) (more tt (slots_write slots (t.CloseRound ∷ rest) good.1 below.1 (more tt w))))
row_writes (stmt.Calc left op a b) rest p below good w =
    value_write left (Calculates (name_at a) op (name_at b)) rest below.0 (more (name_written a below.1.0) (more tt (more (name_written b below.1.1.0) w)))
row_writes (stmt.Test left op a b) rest p below good w =
    value_write left (Tests (name_at a) op (name_at b)) rest below.0 (more (name_written a below.1.0) (more tt (more (name_written b below.1.1.0) w)))
row_writes (stmt.Select left source (selector.Var x)) rest p below good w =
    value_write left (Selects (name_at source) (ByVariable (name_at x))) rest below.0 (more (name_written source below.1.0) (more tt (more (name_written x below.1.1.0) w)))
row_writes (stmt.Select left source (selector.Feature f)) rest p below good w =
    value_write left (Selects (name_at source) (ByFeature (feature_token f))) rest below.0 (more (name_written source below.1.0) (more tt (more (mark_written f good) w)))
row_writes (stmt.Call callee args) rest p below good w = more tt (more (name_written callee below.0) (names_write args (t.CloseCurly ∷ rest) below.1 (more tt w)))
row_writes (stmt.Browse x) rest p below good w = built_in_write built.Browse (x ∷ []) rest below w
row_writes (stmt.Wait x) rest p below good w = built_in_write built.Wait (x ∷ []) rest below w
row_writes (stmt.NewCell content cell) rest p below good w = built_in_write built.NewCell (content ∷ cell ∷ []) rest below w
row_writes (stmt.Exchange cell old new) rest p below good w = built_in_write built.Exchange (cell ∷ old ∷ new ∷ []) rest below w
row_writes (stmt.NewPort stream port) rest p below good w = built_in_write built.NewPort (stream ∷ port ∷ []) rest below w
row_writes (stmt.Send port value) rest p below good w = built_in_write built.Send (port ∷ value ∷ []) rest below w
row_writes (stmt.NewCellAt content cell place) rest p below good w = built_in_write built.NewCellAt (content ∷ cell ∷ place ∷ []) rest below w
row_writes (stmt.Raise x) rest p below good w = more tt (more (name_written x below.0) (more tt w))

-- ---- rows with bodies

pattern_writes : (p : Pattern) (first : ℕ) (rest : List Symbol) → IsSpelledPattern p → first + length (features_in p) < 2 ^ 32 → Written rest → Written (pattern_text (pattern_tree first p) rest)
pattern_writes (pattern.Int z) first rest good le w = more (fits_integer z good) w
pattern_writes (pattern.Atom a) first rest good le w = more (is_atom a good) w
pattern_writes (pattern.Rec label features) first rest good le w = more (is_atom label good.0) (more tt (declared_write features first (t.CloseRound ∷ rest) good.1 le (more tt w)))

-- what a row names can be written
record IsFit (row : Stmt) : Type 0 where
  limits : IsStmt row
  texts : HasTexts row
  names : Below (2 ^ 32) (named_positions row)

site_writes : (at : Option ℤ) (rest : List Symbol) → HasTexts (stmt.Thread at (code_at 0)) → Written rest → Written (Rattle.oz_grammar.specs.Grammar.opening_text (Rattle.oz_grammar.specs.Canonical.thread_opening at) rest)
site_writes None rest good w = more tt w
site_writes (Some z) rest good w = more tt (more tt (more (fits_integer z good) w))

-- where bodies can be written before what can be written
module _ (body : CodeId → List Symbol → List Symbol) (writes : (c : CodeId) (rest : List Symbol) → Written rest → Written (body c rest)) where
  sequence_writes : (cs : List CodeId) (rest : List Symbol) → Written rest → Written (bodies_symbols body cs rest)
  sequence_writes [] rest w = w
  sequence_writes (c ∷ cs) rest w = writes c _ (sequence_writes cs rest w)

  fit_writes : (row : Stmt) (rest : List Symbol) → IsFit row → Written rest → Written (row_symbols body row rest)
  fit_writes (stmt.Seq bodies) rest fit w = sequence_writes bodies rest w
  fit_writes stmt.Skip rest fit w = row_writes stmt.Skip rest tt fit.names fit.texts w
  fit_writes (stmt.Local first count c) rest fit w =
      more tt (more (name_written first (omega (arith, fit.limits.2))) (from_write (count - 1) (first + 1) (t.In ∷ body c (t.End ∷ rest)) (omega (arith, fit.limits.0, fit.limits.2)) (more tt (writes c (t.End ∷ rest) (more tt w)))))
  fit_writes (stmt.TellVar left right) rest fit w = row_writes (stmt.TellVar left right) rest tt fit.names fit.texts w
  fit_writes (stmt.TellInt left z) rest fit w = row_writes (stmt.TellInt left z) rest tt fit.names fit.texts w
  fit_writes (stmt.TellAtom left a) rest fit w = row_writes (stmt.TellAtom left a) rest tt fit.names fit.texts w
  fit_writes (stmt.TellRec left label slots) rest fit w = row_writes (stmt.TellRec left label slots) rest tt fit.names fit.texts w
  fit_writes (stmt.TellProc left first count c) rest fit w =
      more (name_written left fit.names.0) (more tt (more tt (more tt (more tt (from_write count first (t.CloseCurly ∷ body c (t.End ∷ rest)) fit.limits.1 (more tt (writes c (t.End ∷ rest) (more tt w))))))))
  fit_writes (stmt.Calc left op a b) rest fit w = row_writes (stmt.Calc left op a b) rest tt fit.names fit.texts w
  fit_writes (stmt.Test left op a b) rest fit w = row_writes (stmt.Test left op a b) rest tt fit.names fit.texts w
  fit_writes (stmt.Select left source by) rest fit w = row_writes (stmt.Select left source by) rest tt fit.names fit.texts w
  fit_writes (stmt.If subject chosen other) rest fit w =
      more tt (more (name_written subject fit.names.0) (more tt (writes chosen _ (more tt (writes other _ (more tt w))))))
  fit_writes (stmt.Case subject p first chosen other) rest fit w =
      more tt (more (name_written subject fit.names.0) (more tt (pattern_writes p first _ fit.texts fit.limits.1 (more tt (writes chosen _ (more tt (writes other _ (more tt w))))))))
  fit_writes (stmt.Call callee args) rest fit w = row_writes (stmt.Call callee args) rest tt fit.names fit.texts w
  fit_writes (stmt.Browse x) rest fit w = row_writes (stmt.Browse x) rest tt fit.names fit.texts w
  fit_writes (stmt.Wait x) rest fit w = row_writes (stmt.Wait x) rest tt fit.names fit.texts w
  fit_writes (stmt.NewCell content cell) rest fit w = row_writes (stmt.NewCell content cell) rest tt fit.names fit.texts w
  fit_writes (stmt.Exchange cell old new) rest fit w = row_writes (stmt.Exchange cell old new) rest tt fit.names fit.texts w
  fit_writes (stmt.NewPort stream port) rest fit w = row_writes (stmt.NewPort stream port) rest tt fit.names fit.texts w
  fit_writes (stmt.Send port value) rest fit w = row_writes (stmt.Send port value) rest tt fit.names fit.texts w
  fit_writes (stmt.NewCellAt content cell place) rest fit w = row_writes (stmt.NewCellAt content cell place) rest tt fit.names fit.texts w
  fit_writes (stmt.Thread at c) rest fit w = site_writes at _ fit.texts (writes c _ (more tt w))
  fit_writes (stmt.Try c first handler) rest fit w =
      more tt (writes c _ (more tt (more (name_written first (omega (arith, fit.limits))) (more tt (writes handler _ (more tt w))))))
  fit_writes (stmt.Raise x) rest fit w = row_writes (stmt.Raise x) rest tt fit.names fit.texts w

-- ---- programs

fit_each : (p : List Stmt) → Each IsStmt p → Each HasTexts p → Each NamesFew p → Each IsFit p
fit_each [] limits texts few = tt
fit_each (st ∷ sts) limits texts few = (
  record { limits = limits.0; texts = texts.0; names = each_more _ (λ (j : ℕ). j < 2 ^ 32) (named_positions st) (λ j low. omega (arith, low)) few.0 },
  fit_each sts limits.1 texts.1 few.1,
)

fit_at : (p : List Stmt) (i : ℕ) → Each IsFit p → IsFit (unwrap_or (slice_get p i) stmt.Skip)
fit_at [] i fit = record { limits = tt; texts = tt; names = tt }
fit_at (st ∷ sts) zero fit = fit.0
fit_at (st ∷ sts) (suc i) fit = fit_at sts i fit.1

within_writes : (p : List Stmt) → Each IsFit p → (d : ℕ) (c : CodeId) (rest : List Symbol) → Written rest → Written (symbols_within d p c rest)
within_writes p fit zero c rest w = w
within_writes p fit (suc d) c rest w = fit_writes (symbols_within d p) (within_writes p fit d) (stmt_at p c) rest (fit_at p c.0 fit) w

pub program_writes : (p : List Stmt) → IsProgram p → Written (canonical_symbols p)
unfolding canonical_symbols
program_writes p is =
    within_writes p (fit_each p is.stmts is.texts (names_few 0 (whole_program ∷ []) p is.stmts (omega arith, tt) is.order)) (length p) (code_at 0) (t.EndOfText ∷ []) ends
