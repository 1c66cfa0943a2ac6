-- Rows without bodies in their canonical form: they derive, pass, and are the same rows.
use Rattle.std.proofs.Common.{◌≡◌, ℕ, suc, ◌+◌, ◌<◌, ◌≤◌, ◌^◌, List, [], ◌∷◌, length, map, Bool, true, Option, Some, None, refl, sym, ap, subst, arith}
use Rattle.std.specs.Prelude.{nat_lt}
use Rattle.tree_node.specs.declared.names.CodeId.{CodeId}
use Rattle.tree_node.specs.declared.node.Feature.{Feature}
use Rattle.tree_node.specs.declared.node.Feature.TheVariants as feature
use Rattle.tree_node.specs.Each.{Each}
use Rattle.tree_node.specs.Node.{AreAscending}
use Rattle.kernel_syntax.specs.declared.stmt.Stmt.{Stmt}
use Rattle.kernel_syntax.specs.declared.stmt.Stmt.TheVariants as stmt
use Rattle.kernel_syntax.specs.declared.stmt.Selector.TheVariants as selector
use Rattle.kernel_syntax.specs.Scopes.{named_positions}
use Rattle.kernel_syntax.specs.Program.{IsStmt}
use Rattle.oz_grammar.specs.declared.symbol.Symbol.{Symbol}
use Rattle.oz_grammar.specs.declared.symbol.Symbol.TheVariants as t
use Rattle.kernel_syntax.specs.declared.built_in.BuiltIn.{BuiltIn}
use Rattle.kernel_syntax.specs.declared.built_in.BuiltIn.TheVariants as built
use Rattle.oz_grammar.specs.declared.symbol.Purpose.TheVariants as purpose
use Rattle.oz_grammar.specs.declared.fault.Fault.{Fault}
use Rattle.oz_grammar.specs.declared.fault.FaultKind.TheVariants.{Unbound, Wide}
use Rattle.oz_grammar.specs.Grammar.{Identifier, Field, Value, ToVar, Calculates, Tests, Selects, Pairs, ToInt, ToAtom, ToRecord, Plain, Skips, Tells, Calls, Raises, plain_text}
use Rattle.oz_grammar.specs.Scoping.{Scope, is_declared, declaration_of, built_in_at, fields_of, HasArguments, PlainDerives}
use Rattle.oz_grammar.specs.Table.{slots_of, features_in, record_row, value_row, built_in_row, call_row, plain_row}
use Rattle.oz_grammar.specs.Faults.{where_not, use_fault, count_fault}
use Rattle.oz_grammar.specs.Check.{check_uses, check_arguments, check_plain}
use Rattle.oz_grammar.specs.Canonical.{name_at, names_from, field_with_feature, slot_field, selection_of, tell_statement, calls_built_in, row_symbols}
use Rattle.kernel_syntax.proofs.Below.{Below}
use Rattle.oz_grammar.proofs.CanonicalNames.{declared_at, place_at, built_in_here, no_built_in}
use Rattle.oz_grammar.proofs.CanonicalFields.{marked_fields, marked_check, used_pass}

-- the statement of a row without bodies
abbrev pub plain_tree : Stmt → Plain
plain_tree (stmt.TellVar left right) = tell_statement left (ToVar (name_at right))
plain_tree (stmt.TellInt left value) = tell_statement left (ToInt (Some value))
plain_tree (stmt.TellAtom left a) = tell_statement left (ToAtom a)
plain_tree (stmt.TellRec left label slots) = tell_statement left (ToRecord label (map slot_field slots))
plain_tree (stmt.Calc left op a b) = tell_statement left (Calculates (name_at a) op (name_at b))
plain_tree (stmt.Test left op a b) = tell_statement left (Tests (name_at a) op (name_at b))
plain_tree (stmt.Select left source by) = tell_statement left (Selects (name_at source) (selection_of by))
plain_tree (stmt.Call callee args) = Calls (name_at callee) (map name_at args)
plain_tree (stmt.Browse x) = calls_built_in built.Browse (x ∷ [])
plain_tree (stmt.Wait x) = calls_built_in built.Wait (x ∷ [])
plain_tree (stmt.NewCell content cell) = calls_built_in built.NewCell (content ∷ cell ∷ [])
plain_tree (stmt.Exchange cell old new) = calls_built_in built.Exchange (cell ∷ old ∷ new ∷ [])
plain_tree (stmt.NewPort stream port) = calls_built_in built.NewPort (stream ∷ port ∷ [])
plain_tree (stmt.Send port value) = calls_built_in built.Send (port ∷ value ∷ [])
plain_tree (stmt.NewCellAt content cell place) = calls_built_in built.NewCellAt (content ∷ cell ∷ place ∷ [])
plain_tree (stmt.Raise x) = Raises (name_at x)
plain_tree row = Skips

-- a row without bodies
abbrev pub IsPlainRow : Stmt → Type 0
IsPlainRow (stmt.Seq bodies) = ⊥
IsPlainRow (stmt.Local first count body) = ⊥
IsPlainRow (stmt.TellProc left first count body) = ⊥
IsPlainRow (stmt.If subject chosen other) = ⊥
IsPlainRow (stmt.Case subject pattern first chosen other) = ⊥
IsPlainRow (stmt.Thread at body) = ⊥
IsPlainRow (stmt.Try body first handler) = ⊥
IsPlainRow row = Unit {0}

record_plain : (left : ℕ) (label : List ℕ) (slots : List (Feature × ℕ)) → IsPlainRow (record_row left label slots)
record_plain left label [] = tt
record_plain left label (slot ∷ slots) = tt

value_plain : (left : ℕ) (v : Value) (scope : Scope) → IsPlainRow (value_row left v scope)
value_plain left (ToVar y) scope = tt
value_plain left (Calculates y o z) scope = tt
value_plain left (Tests y o z) scope = tt
value_plain left (Selects y s) scope = tt
value_plain left (Pairs h u) scope = tt
value_plain left (ToInt n) scope = tt
value_plain left (ToAtom a) scope = tt
value_plain left (ToRecord a fs) scope = record_plain left a (slots_of scope (fields_of fs))

call_plain : (b : Option BuiltIn) (callee : ℕ) (xs : List ℕ) → IsPlainRow (call_row b callee xs)
call_plain (Some built.Browse) callee xs = tt
call_plain (Some built.Wait) callee xs = tt
call_plain (Some built.NewCell) callee xs = tt
call_plain (Some built.Exchange) callee xs = tt
call_plain (Some built.NewPort) callee xs = tt
call_plain (Some built.Send) callee xs = tt
call_plain (Some built.NewCellAt) callee xs = tt
call_plain None callee xs = tt

pub row_is_plain : (s : Plain) (scope : Scope) → IsPlainRow (plain_row s scope)
row_is_plain Skips scope = tt
row_is_plain (Tells x v) scope = value_plain (declaration_of scope x) v scope
row_is_plain (Calls p xs) scope = call_plain (built_in_at scope p) (declaration_of scope p) (map (declaration_of scope) xs)
row_is_plain (Raises x) scope = tt

pub plain_symbols : (row : Stmt) (body : CodeId → List Symbol → List Symbol) (rest : List Symbol) → IsPlainRow row → row_symbols body row rest ≡ plain_text (plain_tree row) rest
plain_symbols (stmt.Seq bodies) body rest p = absurd p
plain_symbols (stmt.Local first count c) body rest p = absurd p
plain_symbols (stmt.TellProc left first count c) body rest p = absurd p
plain_symbols (stmt.If subject chosen other) body rest p = absurd p
plain_symbols (stmt.Case subject pattern first chosen other) body rest p = absurd p
plain_symbols (stmt.Thread at c) body rest p = absurd p
plain_symbols (stmt.Try c first handler) body rest p = absurd p
plain_symbols stmt.Skip body rest p = refl
plain_symbols (stmt.TellVar left right) body rest p = refl
plain_symbols (stmt.TellInt left value) body rest p = refl
plain_symbols (stmt.TellAtom left a) body rest p = refl
plain_symbols (stmt.TellRec left label slots) body rest p = refl
plain_symbols (stmt.Calc left op a b) body rest p = refl
plain_symbols (stmt.Test left op a b) body rest p = refl
plain_symbols (stmt.Select left source by) body rest p = refl
plain_symbols (stmt.Call callee args) body rest p = refl
plain_symbols (stmt.Browse x) body rest p = refl
plain_symbols (stmt.Wait x) body rest p = refl
plain_symbols (stmt.NewCell content cell) body rest p = refl
plain_symbols (stmt.Exchange cell old new) body rest p = refl
plain_symbols (stmt.NewPort stream port) body rest p = refl
plain_symbols (stmt.Send port value) body rest p = refl
plain_symbols (stmt.NewCellAt content cell place) body rest p = refl
plain_symbols (stmt.Raise x) body rest p = refl

-- a field with the identifier of its position
abbrev pub named_slot : Feature × ℕ → Feature × Identifier
named_slot s = (s.0, name_at s.1)

-- ---- under the identifiers V0 to V(n - 1)

module _ (n : ℕ) (small : n ≤ 2 ^ 64) where
  pub used : (k : ℕ) → k < n → use_fault (names_from 0 n) (name_at k) ≡ None
  used k lt = ap (λ (b : Bool). where_not b Unbound) (declared_at n k lt small)

  pub place : (k : ℕ) → k < n → declaration_of (names_from 0 n) (name_at k) ≡ k
  place k lt = place_at n k lt small

  fields_marked : (slots : List (Feature × ℕ)) → map slot_field slots ≡ map field_with_feature (map named_slot slots)
  fields_marked [] = refl
  fields_marked (s ∷ slots) = ap (λ (fs : List Field). slot_field s ∷ fs) (fields_marked slots)

  fields_features : (slots : List (Feature × ℕ)) → features_in (map named_slot slots) ≡ map (λ (s : Feature × ℕ). s.0) slots
  fields_features [] = refl
  fields_features (s ∷ slots) = ap (λ (fs : List Feature). s.0 ∷ fs) (fields_features slots)

  fields_length : (slots : List (Feature × ℕ)) → length (map named_slot slots) ≡ length (map (λ (s : Feature × ℕ). s.0) slots)
  fields_length [] = refl
  fields_length (s ∷ slots) = ap suc (fields_length slots)

  fields_slots : (slots : List (Feature × ℕ)) → Below n (map (λ (s : Feature × ℕ). s.1) slots) → slots_of (names_from 0 n) (map named_slot slots) ≡ slots
  fields_slots [] below = refl
  fields_slots (s ∷ slots) below =
      let at = place s.1 below.0 in
      let more = fields_slots slots below.1 in
      rw (at, more) refl

  fields_declared : (slots : List (Feature × ℕ)) → Below n (map (λ (s : Feature × ℕ). s.1) slots) → Each (λ (f : Feature × Identifier). is_declared (names_from 0 n) f.1 ≡ true) (map named_slot slots)
  fields_declared [] below = tt
  fields_declared (s ∷ slots) below = (declared_at n s.1 below.0 small, fields_declared slots below.1)

  record_again : (left : ℕ) (label : List ℕ) (slots : List (Feature × ℕ)) → 1 ≤ length (map (λ (s : Feature × ℕ). s.0) slots) → record_row left label slots ≡ stmt.TellRec left label slots
  record_again left label [] le = absurd (omega (arith, le))
  record_again left label (s ∷ slots) le = refl

  -- the places of identifiers
  places : (ks : List ℕ) → Below n ks → map (declaration_of (names_from 0 n)) (map name_at ks) ≡ ks
  places [] below = refl
  places (k ∷ ks) below =
      let at = place k below.0 in
      let more = places ks below.1 in
      rw (at, more) refl

  few : (k : ℕ) → k < 64 → count_fault k ≡ None
  few k lt = let yes : nat_lt k 64 ≡ true = grind arith in ap (λ (b : Bool). where_not b Wide) yes

  arguments_pass : (ks : List ℕ) (k : ℕ) (rest : List Symbol) (behind : Option Fault) → Below n ks → k + length ks ≤ 64 → check_arguments (names_from 0 n) k (map name_at ks) rest behind ≡ behind
  arguments_pass [] k rest behind below le = refl
  arguments_pass (j ∷ ks) k rest behind below le =
      let more = arguments_pass ks (k + 1) rest behind below.1 (omega (arith, le)) in
      rw (few k (omega (arith, le)), used j below.0) more

  uses_pass : (ks : List ℕ) (rest : List Symbol) (behind : Option Fault) → Below n ks → check_uses (names_from 0 n) (map name_at ks) rest behind ≡ behind
  uses_pass [] rest behind below = refl
  uses_pass (j ∷ ks) rest behind below =
      let more = uses_pass ks rest behind below.1 in
      rw (used j below.0) more

  built_in_pass : (b : BuiltIn) (ks : List ℕ) (rest : List Symbol) (behind : Option Fault) → Below n ks → check_plain (calls_built_in b ks) (names_from 0 n) rest behind ≡ behind
  built_in_pass b ks rest behind below = rw (built_in_here b n) (uses_pass ks (t.CloseCurly ∷ rest) behind below)

  -- ---- they pass

  pub row_passes : (row : Stmt) (rest : List Symbol) (behind : Option Fault) → IsPlainRow row → IsStmt row → Below n (named_positions row) → check_plain (plain_tree row) (names_from 0 n) rest behind ≡ behind
  row_passes (stmt.Seq bodies) rest behind p limits below = absurd p
  row_passes (stmt.Local first count c) rest behind p limits below = absurd p
  row_passes (stmt.TellProc left first count c) rest behind p limits below = absurd p
  row_passes (stmt.If subject chosen other) rest behind p limits below = absurd p
  row_passes (stmt.Case subject pattern first chosen other) rest behind p limits below = absurd p
  row_passes (stmt.Thread at c) rest behind p limits below = absurd p
  row_passes (stmt.Try c first handler) rest behind p limits below = absurd p
  row_passes stmt.Skip rest behind p limits below = refl
  row_passes (stmt.TellVar left right) rest behind p limits below = rw (used left below.0, used right below.1.0) refl
  row_passes (stmt.TellInt left value) rest behind p limits below = rw (used left below.0) refl
  row_passes (stmt.TellAtom left a) rest behind p limits below = rw (used left below.0) refl
  row_passes (stmt.TellRec left label slots) rest behind p limits below =
      let same = fields_marked slots in
      let up : AreAscending (features_in (map named_slot slots)) = subst AreAscending (sym (fields_features slots)) limits.2 in
      let pass = marked_check (map named_slot slots) purpose.Use (names_from 0 n) (t.CloseRound ∷ rest) behind up (omega (arith, fields_length slots, limits.1))
      (used_pass (map named_slot slots) (names_from 0 n) [] (fields_declared slots below.1)) in
      rw (used left below.0, same) pass
  row_passes (stmt.Calc left op a b) rest behind p limits below = rw (used left below.0, used a below.1.0, used b below.1.1.0) refl
  row_passes (stmt.Test left op a b) rest behind p limits below = rw (used left below.0, used a below.1.0, used b below.1.1.0) refl
  row_passes (stmt.Select left source (selector.Var x)) rest behind p limits below = rw (used left below.0, used source below.1.0, used x below.1.1.0) refl
  row_passes (stmt.Select left source (selector.Feature (feature.Int z))) rest behind p limits below = rw (used left below.0, used source below.1.0) refl
  row_passes (stmt.Select left source (selector.Feature (feature.Atom a))) rest behind p limits below = rw (used left below.0, used source below.1.0) refl
  row_passes (stmt.Call callee args) rest behind p limits below =
      let pass = arguments_pass args 0 (t.CloseCurly ∷ rest) behind below.1 (omega (arith, limits)) in
      rw (no_built_in n callee below.0 small, used callee below.0) pass
  row_passes (stmt.Browse x) rest behind p limits below = built_in_pass built.Browse (x ∷ []) rest behind below
  row_passes (stmt.Wait x) rest behind p limits below = built_in_pass built.Wait (x ∷ []) rest behind below
  row_passes (stmt.NewCell content cell) rest behind p limits below = built_in_pass built.NewCell (content ∷ cell ∷ []) rest behind below
  row_passes (stmt.Exchange cell old new) rest behind p limits below = built_in_pass built.Exchange (cell ∷ old ∷ new ∷ []) rest behind below
  row_passes (stmt.NewPort stream port) rest behind p limits below = built_in_pass built.NewPort (stream ∷ port ∷ []) rest behind below
  row_passes (stmt.Send port value) rest behind p limits below = built_in_pass built.Send (port ∷ value ∷ []) rest behind below
  row_passes (stmt.NewCellAt content cell place) rest behind p limits below = built_in_pass built.NewCellAt (content ∷ cell ∷ place ∷ []) rest behind below
  row_passes (stmt.Raise x) rest behind p limits below = rw (used x below.0) refl

  -- ---- they are the same rows

  built_in_again : (b : BuiltIn) (ks : List ℕ) → Below n ks → plain_row (calls_built_in b ks) (names_from 0 n) ≡ built_in_row b ks
  built_in_again b ks below = rw (built_in_here b n, places ks below) refl

  pub row_again : (row : Stmt) → IsPlainRow row → IsStmt row → Below n (named_positions row) → plain_row (plain_tree row) (names_from 0 n) ≡ row
  row_again (stmt.Seq bodies) p limits below = absurd p
  row_again (stmt.Local first count c) p limits below = absurd p
  row_again (stmt.TellProc left first count c) p limits below = absurd p
  row_again (stmt.If subject chosen other) p limits below = absurd p
  row_again (stmt.Case subject pattern first chosen other) p limits below = absurd p
  row_again (stmt.Thread at c) p limits below = absurd p
  row_again (stmt.Try c first handler) p limits below = absurd p
  row_again stmt.Skip p limits below = refl
  row_again (stmt.TellVar left right) p limits below = rw (place left below.0, place right below.1.0) refl
  row_again (stmt.TellInt left value) p limits below = rw (place left below.0) refl
  row_again (stmt.TellAtom left a) p limits below = rw (place left below.0) refl
  row_again (stmt.TellRec left label slots) p limits below =
      let same = fields_marked slots in
      let up : AreAscending (features_in (map named_slot slots)) = subst AreAscending (sym (fields_features slots)) limits.2 in
      let again = marked_fields (map named_slot slots) up in
      rw (place left below.0, same, again, fields_slots slots below.1) (record_again left label slots limits.0)
  row_again (stmt.Calc left op a b) p limits below = rw (place left below.0, place a below.1.0, place b below.1.1.0) refl
  row_again (stmt.Test left op a b) p limits below = rw (place left below.0, place a below.1.0, place b below.1.1.0) refl
  row_again (stmt.Select left source (selector.Var x)) p limits below = rw (place left below.0, place source below.1.0, place x below.1.1.0) refl
  row_again (stmt.Select left source (selector.Feature (feature.Int z))) p limits below = rw (place left below.0, place source below.1.0) refl
  row_again (stmt.Select left source (selector.Feature (feature.Atom a))) p limits below = rw (place left below.0, place source below.1.0) refl
  row_again (stmt.Call callee args) p limits below = rw (no_built_in n callee below.0 small, place callee below.0, places args below.1) refl
  row_again (stmt.Browse x) p limits below = built_in_again built.Browse (x ∷ []) below
  row_again (stmt.Wait x) p limits below = built_in_again built.Wait (x ∷ []) below
  row_again (stmt.NewCell content cell) p limits below = built_in_again built.NewCell (content ∷ cell ∷ []) below
  row_again (stmt.Exchange cell old new) p limits below = built_in_again built.Exchange (cell ∷ old ∷ new ∷ []) below
  row_again (stmt.NewPort stream port) p limits below = built_in_again built.NewPort (stream ∷ port ∷ []) below
  row_again (stmt.Send port value) p limits below = built_in_again built.Send (port ∷ value ∷ []) below
  row_again (stmt.NewCellAt content cell place) p limits below = built_in_again built.NewCellAt (content ∷ cell ∷ place ∷ []) below
  row_again (stmt.Raise x) p limits below = rw (place x below.0) refl

  -- ---- they derive

  pub row_derives : (row : Stmt) → IsPlainRow row → Below n (named_positions row) → PlainDerives (plain_tree row) (names_from 0 n)
  row_derives (stmt.Seq bodies) p below = absurd p
  row_derives (stmt.Local first count c) p below = absurd p
  row_derives (stmt.TellProc left first count c) p below = absurd p
  row_derives (stmt.If subject chosen other) p below = absurd p
  row_derives (stmt.Case subject pattern first chosen other) p below = absurd p
  row_derives (stmt.Thread at c) p below = absurd p
  row_derives (stmt.Try c first handler) p below = absurd p
  row_derives stmt.Skip p below = tt
  row_derives (stmt.TellVar left right) p below = tt
  row_derives (stmt.TellInt left value) p below = tt
  row_derives (stmt.TellAtom left a) p below = tt
  row_derives (stmt.TellRec left label slots) p below = tt
  row_derives (stmt.Calc left op a b) p below = tt
  row_derives (stmt.Test left op a b) p below = tt
  row_derives (stmt.Select left source by) p below = tt
  row_derives (stmt.Call callee args) p below = subst (λ (b : Option BuiltIn). HasArguments b (map name_at args)) (sym (no_built_in n callee below.0 small)) tt
  row_derives (stmt.Browse x) p below = subst (λ (b : Option BuiltIn). HasArguments b (name_at x ∷ [])) (sym (built_in_here built.Browse n)) refl
  row_derives (stmt.Wait x) p below = subst (λ (b : Option BuiltIn). HasArguments b (name_at x ∷ [])) (sym (built_in_here built.Wait n)) refl
  row_derives (stmt.NewCell content cell) p below = subst (λ (b : Option BuiltIn). HasArguments b (name_at content ∷ name_at cell ∷ [])) (sym (built_in_here built.NewCell n)) refl
  row_derives (stmt.Exchange cell old new) p below = subst (λ (b : Option BuiltIn). HasArguments b (name_at cell ∷ name_at old ∷ name_at new ∷ [])) (sym (built_in_here built.Exchange n)) refl
  row_derives (stmt.NewPort stream port) p below = subst (λ (b : Option BuiltIn). HasArguments b (name_at stream ∷ name_at port ∷ [])) (sym (built_in_here built.NewPort n)) refl
  row_derives (stmt.Send port value) p below = subst (λ (b : Option BuiltIn). HasArguments b (name_at port ∷ name_at value ∷ [])) (sym (built_in_here built.Send n)) refl
  row_derives (stmt.NewCellAt content cell place) p below = subst (λ (b : Option BuiltIn). HasArguments b (name_at content ∷ name_at cell ∷ name_at place ∷ [])) (sym (built_in_here built.NewCellAt n)) refl
  row_derives (stmt.Raise x) p below = tt
