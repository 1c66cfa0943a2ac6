-- A program of the kernel stands for itself.
use Rattle.std.proofs.Common.{◌≡◌, ◌∙◌, ℕ, zero, suc, ◌+◌, ◌<◌, List, [], ◌∷◌, ◌++◌, length, map, Bool, true, false, cond, Option, Some, None, refl, sym, ap, arith, append_assoc, length-append}
use Rattle.std.specs.Prelude.{slice_index}
use Rattle.std.proofs.lemmas.List.{append-nil}
use Rattle.std.specs.Ordering.{is_lt}
use Rattle.tree_node.specs.declared.node.Feature.{Feature}
use Rattle.tree_node.specs.Each.{Each}
use Rattle.tree_node.specs.Node.{feature_cmp}
use Rattle.kernel_syntax.specs.declared.built_in.BuiltIn.{BuiltIn}
use Rattle.kernel_syntax.specs.declared.stmt.Stmt.TheVariants as stmt
use Rattle.kernel_syntax.specs.declared.stmt.Selector.TheVariants as selector
use Rattle.kernel_syntax.specs.declared.sugar.Field.{Field}
use Rattle.kernel_syntax.specs.declared.sugar.Field.TheVariants as field
use Rattle.kernel_syntax.specs.declared.sugar.Action.TheVariants as action
use Rattle.kernel_syntax.specs.Scopes.{features_in}
use Rattle.kernel_syntax.specs.Sugar.{Value, no_values}
use Rattle.oz_grammar.specs.declared.symbol.Symbol.{Symbol}
use Rattle.oz_grammar.specs.declared.symbol.Symbol.TheVariants as t
use Rattle.oz_grammar.specs.declared.symbol.Purpose.TheVariants as purpose
use Rattle.oz_grammar.specs.declared.fault.Fault.{Fault}
use Rattle.oz_grammar.specs.declared.fault.FaultKind.TheVariants.{Unbound}
use Rattle.oz_grammar.specs.Grammar.{Identifier, ByVariable, ByFeature, Placed, WithFeature, seq_text}
use Rattle.oz_grammar.specs.Grammar as kernel
use Rattle.oz_grammar.specs.Scoping.{Scope, Fields, is_declared, declaration_of, built_in_at, with_field, feature_of, place_feature, fields_behind, fields_of, pattern_names, opening_scope, choice_scope}
use Rattle.oz_grammar.specs.Faults.{where_not, use_fault, site_fault, count_fault, called_fault, argument_fault, deep_fault, fewer}
use Rattle.oz_grammar.specs.Check as checks
use Rattle.oz_grammar.specs.Table.{slots_of, record_row, pair_row, value_row, pattern_of, call_row, plain_row, built_in_row, program_table}
use Rattle.oz_grammar.proofs.FieldOrder.{stopped, or_neither, good_fields}
use Rattle.oz_grammar.proofs.TableLimits.{locals_few, formals_few, pattern_limits, plain_limits}
use Rattle.oz_grammar.proofs.TableScopes.{used_within}
use Rattle.surface_grammar.specs.Trees.{record_value, call_statement, value_in, arguments_of, fields_in, statement_of, sequence_of, program_of}
use Rattle.surface_grammar.proofs.Lifting.{lift_arguments, lift_fields, lift_value, lift_plain, lift_block, lift_choice, lift_statement, lift}
use Rattle.surface_grammar.specs.Derivations.{Sequence, sequence_text}
use Rattle.sugar_rows.specs.Codes.{Code, Leaf, Proc, If, Case, Try, Codes, One, Then, follow, codes_rows}
use Rattle.sugar_rows.specs.Put.{Places, place, positions_from, declare, slot_places, put, put_all, put_statement, put_statements, put_others, expanded_rows, action_row}
use Rattle.sugar_rows.proofs.KernelCodes.{block_code, choice_code, code_of, codes_of, pattern_each, sequence_rows}

-- ---- positions

position_at : (m n k : ℕ) → k < n → slice_index (positions_from m n) k ≡ m + k
position_at m zero k lt = absurd (omega (arith, lt))
position_at m (suc n) zero lt = omega arith
position_at m (suc n) (suc k) lt = let h = position_at (m + 1) n k (omega (arith, lt)) in omega (arith, h)

-- the places of the text's own identifiers, where there are no others
abbrev places : Scope → Places
places scope = positions_from 0 (length scope)

place_is : (scope : Scope) (x : Identifier) → use_fault scope x ≡ None → place (places scope) (declaration_of scope x) ≡ declaration_of scope x
place_is scope x e = let h = position_at 0 (length scope) (declaration_of scope x) (used_within scope x e) in omega (arith, h)

positions_append : (m n k : ℕ) → positions_from m n ++ positions_from (m + n) k ≡ positions_from m (n + k)
positions_append m zero k = let a : m + 0 ≡ m = omega arith in let b : k ≡ 0 + k = omega arith in ap (λ (j : ℕ). positions_from j k) a ∙ ap (positions_from m) b
positions_append m (suc n) k =
    let a : m + suc n ≡ m + 1 + n = omega arith in
    let b : suc (n + k) ≡ suc n + k = omega arith in
    ap (λ (j : ℕ). m ∷ (positions_from (m + 1) n ++ positions_from j k)) a ∙ ap (λ (ps : List ℕ). m ∷ ps) (positions_append (m + 1) n k) ∙ ap (positions_from m) b

declared : (scope xs : Scope) → declare (places scope) (length scope) (length xs) ≡ places (scope ++ xs)
declared scope xs =
    let a : length scope ≡ 0 + length scope = omega arith in
    ap (λ (j : ℕ). places scope ++ positions_from j (length xs)) a ∙ positions_append 0 (length scope) (length xs) ∙ ap (positions_from 0) (sym (length-append scope xs))

-- what is put under more declarations
under_names : (f : Places → ℕ → Codes) (scope xs : Scope) → f (declare (places scope) (length scope) (length xs)) (length scope + length xs) ≡ f (places (scope ++ xs)) (length (scope ++ xs))
under_names f scope xs = ap (λ (ps : Places). f ps (length scope + length xs)) (declared scope xs) ∙ ap (f (places (scope ++ xs))) (sym (length-append scope xs))

-- ---- values

-- fields of identifiers
abbrev pub slot_of : Scope → Feature × Identifier → Feature × Field
slot_of scope f = (f.0, field.Variable (declaration_of scope f.1))

map_with_field : {A B : Type 0} (g : A → B) (f : Feature) (x : A) (fields : List (Feature × A)) → with_field f (g x) (map (λ (s : Feature × A). (s.0, g s.1)) fields) ≡ map (λ (s : Feature × A). (s.0, g s.1)) (with_field f x fields)
map_with_field g f x [] = refl
map_with_field {A = A} {B = B} g f x ((h, y) ∷ fields) =
    let chosen : (b : Bool) → cond b ((f, g x) ∷ (h, g y) ∷ map (λ (s : Feature × A). (s.0, g s.1)) fields) ((h, g y) ∷ with_field f (g x) (map (λ (s : Feature × A). (s.0, g s.1)) fields)) ≡ map (λ (s : Feature × A). (s.0, g s.1)) (cond b ((f, x) ∷ (h, y) ∷ fields) ((h, y) ∷ with_field f x fields)) = elim [
      | true ↦ refl
      | false ↦ ap (λ (ss : List (Feature × B)). (h, g y) ∷ ss) (map_with_field g f x fields)
    ] in chosen (is_lt (feature_cmp f h))

pub fields_are : (fs : List kernel.Field) (scope : Scope) (nth i : ℕ) (before : Fields) (rest : List Symbol) (left : ℕ) (a : List ℕ)
    → fields_in (lift_fields fs) scope nth i (map (slot_of scope) before) no_values rest left a ≡ record_value left a (map (slot_of scope) (fields_behind before nth fs)) no_values
fields_are [] scope nth i before rest left a = refl
fields_are (Placed x ∷ fs) scope nth i before rest left a =
    ap (λ (slots : List (Feature × Field)). fields_in (lift_fields fs) scope (nth + 1) (i + 0) slots no_values rest left a) (map_with_field (λ (y : Identifier). field.Variable (declaration_of scope y)) (place_feature nth) x before)
    ∙ fields_are fs scope (nth + 1) (i + 0) (with_field (place_feature nth) x before) rest left a
fields_are (WithFeature m x ∷ fs) scope nth i before rest left a =
    ap (λ (slots : List (Feature × Field)). fields_in (lift_fields fs) scope nth (i + 0) slots no_values rest left a) (map_with_field (λ (y : Identifier). field.Variable (declaration_of scope y)) (feature_of m) x before)
    ∙ fields_are fs scope nth (i + 0) (with_field (feature_of m) x before) rest left a

slots_are : (scope : Scope) (fields : Fields) (n : ℕ) → Each (λ (f : Feature × Identifier). is_declared scope f.1 ≡ true) fields → slot_places (places scope) n (map (slot_of scope) fields) ≡ slots_of scope fields
slots_are scope [] n all = refl
slots_are scope (f ∷ fields) n all =
    let here = place_is scope f.1 (ap (λ (b : Bool). where_not b Unbound) all.0) in
    ap (λ (k : ℕ). (f.0, k) ∷ slot_places (places scope) n (map (slot_of scope) fields)) here ∙ ap (λ (ss : List (Feature × ℕ)). (f.0, declaration_of scope f.1) ∷ ss) (slots_are scope fields n all.1)

record_code : (scope : Scope) (fields : Fields) (left x : ℕ) (a : List ℕ) → Each (λ (f : Feature × Identifier). is_declared scope f.1 ≡ true) fields → put (record_value left a (map (slot_of scope) fields) no_values) (places scope) (length scope) x ≡ Leaf (record_row x a (slots_of scope fields))
record_code scope [] left x a all = refl
record_code scope (f ∷ fields) left x a all = ap (λ (ss : List (Feature × ℕ)). Leaf (stmt.TellRec x a ss)) (slots_are scope (f ∷ fields) (length scope) all)

value_code : (v : kernel.Value) (scope : Scope) (rest symbols : List Symbol) (behind : Option Fault) (x : ℕ) → checks.check_value v scope rest behind ≡ None → put (value_in (lift_value v) scope symbols) (places scope) (length scope) x ≡ Leaf (value_row x v scope)
value_code (kernel.ToVar y) scope rest symbols behind x e = ap (λ (k : ℕ). Leaf (stmt.TellVar x k)) (place_is scope y (stopped (use_fault scope y) _ _ e).0)
value_code (kernel.Calculates y o z) scope rest symbols behind x e =
    let s = stopped (use_fault scope y) _ _ e in
    ap (λ (k : ℕ). Leaf (stmt.Calc x o k (place (places scope) (declaration_of scope z)))) (place_is scope y s.0) ∙ ap (λ (k : ℕ). Leaf (stmt.Calc x o (declaration_of scope y) k)) (place_is scope z (stopped (use_fault scope z) _ _ s.1).0)
value_code (kernel.Tests y o z) scope rest symbols behind x e =
    let s = stopped (use_fault scope y) _ _ e in
    ap (λ (k : ℕ). Leaf (stmt.Test x o k (place (places scope) (declaration_of scope z)))) (place_is scope y s.0) ∙ ap (λ (k : ℕ). Leaf (stmt.Test x o (declaration_of scope y) k)) (place_is scope z (stopped (use_fault scope z) _ _ s.1).0)
value_code (kernel.Selects y (ByVariable z)) scope rest symbols behind x e =
    let s = stopped (use_fault scope y) _ _ e in
    ap (λ (k : ℕ). Leaf (stmt.Select x k (selector.Var (place (places scope) (declaration_of scope z))))) (place_is scope y s.0) ∙ ap (λ (k : ℕ). Leaf (stmt.Select x (declaration_of scope y) (selector.Var k))) (place_is scope z (stopped (use_fault scope z) _ _ s.1).0)
value_code (kernel.Selects y (ByFeature m)) scope rest symbols behind x e = ap (λ (k : ℕ). Leaf (stmt.Select x k (selector.Feature (feature_of m)))) (place_is scope y (stopped (use_fault scope y) _ _ e).0)
value_code (kernel.Pairs h u) scope rest symbols behind x e =
    let s = stopped (use_fault scope h) _ _ e in
    ap (λ (k : ℕ). Leaf (pair_row x k (place (places scope) (declaration_of scope u)))) (place_is scope h s.0) ∙ ap (λ (k : ℕ). Leaf (pair_row x (declaration_of scope h) k)) (place_is scope u (stopped (use_fault scope u) _ _ s.1).0)
value_code (kernel.ToInt n) scope rest symbols behind x e = refl
value_code (kernel.ToAtom a) scope rest symbols behind x e = refl
value_code (kernel.ToRecord a fs) scope rest symbols behind x e =
    let g = good_fields purpose.Use scope fs (t.CloseRound ∷ rest) behind e in
    ap (λ (v : Value). put v (places scope) (length scope) x) (fields_are fs scope 1 0 [] (t.CloseRound ∷ symbols) _ a) ∙ record_code scope (fields_of fs) _ x a g.1.declared

-- ---- calls

all_put : (xs : List Identifier) (scope : Scope) (symbols : List Symbol) (n : ℕ) (ys : List ℕ) (go_on : ℕ → List ℕ → Code)
    → put_all (arguments_of (lift_arguments xs) scope symbols) (places scope) n ys go_on ≡ go_on n (ys ++ map (λ (x : Identifier). place (places scope) (declaration_of scope x)) xs)
all_put [] scope symbols n ys go_on = ap (go_on n) (sym (append-nil ys))
all_put (x ∷ xs) scope symbols n ys go_on =
    all_put xs scope symbols n (ys ++ place (places scope) (declaration_of scope x) ∷ []) go_on ∙ ap (go_on n) (append_assoc ys (place (places scope) (declaration_of scope x) ∷ []) (map (λ (y : Identifier). place (places scope) (declaration_of scope y)) xs))

abbrev AreAll : Scope → List Identifier → Type 0
AreAll scope xs = map (λ (x : Identifier). place (places scope) (declaration_of scope x)) xs ≡ map (declaration_of scope) xs

one_place : (scope : Scope) (x : Identifier) (xs : List Identifier) → use_fault scope x ≡ None → AreAll scope xs → AreAll scope (x ∷ xs)
one_place scope x xs e h = ap (λ (k : ℕ). k ∷ map (λ (y : Identifier). place (places scope) (declaration_of scope y)) xs) (place_is scope x e) ∙ ap (λ (ks : List ℕ). declaration_of scope x ∷ ks) h

uses_places : (scope : Scope) (xs : List Identifier) (rest : List Symbol) (behind : Option Fault) → checks.check_uses scope xs rest behind ≡ None → AreAll scope xs
uses_places scope [] rest behind e = refl
uses_places scope (x ∷ xs) rest behind e = let s = stopped (use_fault scope x) _ _ e in one_place scope x xs s.0 (uses_places scope xs rest behind s.1)

arguments_places : (scope : Scope) (n : ℕ) (xs : List Identifier) (rest : List Symbol) (behind : Option Fault) → checks.check_arguments scope n xs rest behind ≡ None → AreAll scope xs
arguments_places scope n [] rest behind e = refl
arguments_places scope n (x ∷ xs) rest behind e =
    let s = stopped (argument_fault scope n x) _ _ e in one_place scope x xs (or_neither (count_fault n) (use_fault scope x) s.0).1 (arguments_places scope (n + 1) xs rest behind s.1)

call_code : (o : Option BuiltIn) (p : Identifier) (xs : List Identifier) (scope : Scope) (left : ℕ) (rest symbols : List Symbol) (behind : Option Fault) → called_fault o scope p ≡ None → checks.check_call o scope xs rest behind ≡ None
    → put_statement (call_statement o left (declaration_of scope p) (arguments_of (lift_arguments xs) scope symbols)) (places scope) (length scope) ≡ Leaf (call_row o (declaration_of scope p) (map (declaration_of scope) xs))
call_code (Some b) p xs scope left rest symbols behind c e =
    all_put xs scope symbols (length scope) [] (λ m ys. Leaf (action_row (places scope) (action.BuiltIn b) ys)) ∙ ap (λ (ys : List ℕ). Leaf (built_in_row b ys)) (uses_places scope xs rest behind e)
call_code None p xs scope left rest symbols behind c e =
    all_put xs scope symbols (length scope) [] (λ m ys. Leaf (action_row (places scope) (action.Call (declaration_of scope p)) ys))
    ∙ ap (λ (ys : List ℕ). Leaf (stmt.Call (place (places scope) (declaration_of scope p)) ys)) (arguments_places scope 0 xs rest behind e) ∙ ap (λ (k : ℕ). Leaf (stmt.Call k (map (declaration_of scope) xs))) (place_is scope p c)

-- ---- statements

plain_code : (s : kernel.Plain) (scope : Scope) (rest symbols : List Symbol) (behind : Option Fault) → checks.check_plain s scope rest behind ≡ None → put_statement (statement_of (lift_plain s) scope symbols) (places scope) (length scope) ≡ Leaf (plain_row s scope)
plain_code kernel.Skips scope rest symbols behind e = refl
plain_code (kernel.Tells x v) scope rest symbols behind e =
    let s = stopped (use_fault scope x) _ _ e in
    ap (put (value_in (lift_value v) scope symbols) (places scope) (length scope)) (place_is scope x s.0) ∙ value_code v scope rest symbols behind (declaration_of scope x) s.1
plain_code (kernel.Calls p xs) scope rest symbols behind e =
    let s = stopped (called_fault (built_in_at scope p) scope p) _ _ e in call_code (built_in_at scope p) p xs scope _ (t.CloseCurly ∷ rest) (t.CloseCurly ∷ symbols) behind s.0 s.1
plain_code (kernel.Raises x) scope rest symbols behind e = ap (λ (k : ℕ). Leaf (stmt.Raise k)) (place_is scope x (stopped (use_fault scope x) _ _ e).0)

pub opening_behind : (o : kernel.Opening) (scope : Scope) (rest : List Symbol) (behind : Option Fault) → checks.check_opening o scope rest behind ≡ None → behind ≡ None
opening_behind (kernel.Locals x xs) scope rest behind e = (locals_few (x ∷ []) xs (t.In ∷ rest) behind e (omega arith)).0
opening_behind (kernel.ProcValue x xs) scope rest behind e = (formals_few [] xs (t.CloseCurly ∷ rest) behind (stopped (use_fault scope x) _ _ e).1 (omega arith)).0
opening_behind (kernel.ProcNamed x xs) scope rest behind e = (formals_few [] xs (t.CloseCurly ∷ rest) behind (stopped (use_fault scope x) _ _ e).1 (omega arith)).0
opening_behind kernel.Threads scope rest behind e = e
opening_behind (kernel.ThreadsAt n) scope rest behind e = (stopped (site_fault n) _ _ e).1

pub choice_behind : (h : kernel.Choice) (scope : Scope) (rest : List Symbol) (behind : Option Fault) → checks.check_choice h scope rest behind ≡ None → behind ≡ None
choice_behind (kernel.Ifs x) scope rest behind e = (stopped (use_fault scope x) _ _ e).1
choice_behind (kernel.Cases x p) scope rest behind e = (pattern_limits p scope (t.Then ∷ rest) behind (stopped (use_fault scope x) _ _ e).1).reached

block_put : (o : kernel.Opening) (q : Sequence) (scope : Scope) (rest symbols : List Symbol) (behind : Option Fault) → checks.check_opening o scope rest behind ≡ None
    → put_statement (statement_of (lift_block o q) scope symbols) (places scope) (length scope) ≡ block_code o scope (put_statements (sequence_of q (opening_scope o scope) (t.End ∷ symbols)) (places (opening_scope o scope)) (length (opening_scope o scope)))
block_put (kernel.Locals x xs) q scope rest symbols behind e =
    ap (block_code (kernel.Locals x xs) scope) (under_names (put_statements (sequence_of q (scope ++ x ∷ xs) (t.End ∷ symbols))) scope (x ∷ xs))
block_put (kernel.ProcValue x xs) q scope rest symbols behind e =
    ap (λ (k : ℕ). Proc k (length xs) (put_statements (sequence_of q (scope ++ xs) (t.End ∷ symbols)) (declare (places scope) (length scope) (length xs)) (length scope + length xs))) (place_is scope x (stopped (use_fault scope x) _ _ e).0)
    ∙ ap (block_code (kernel.ProcValue x xs) scope) (under_names (put_statements (sequence_of q (scope ++ xs) (t.End ∷ symbols))) scope xs)
block_put (kernel.ProcNamed x xs) q scope rest symbols behind e =
    ap (λ (k : ℕ). Proc k (length xs) (put_statements (sequence_of q (scope ++ xs) (t.End ∷ symbols)) (declare (places scope) (length scope) (length xs)) (length scope + length xs))) (place_is scope x (stopped (use_fault scope x) _ _ e).0)
    ∙ ap (block_code (kernel.ProcNamed x xs) scope) (under_names (put_statements (sequence_of q (scope ++ xs) (t.End ∷ symbols))) scope xs)
block_put kernel.Threads q scope rest symbols behind e = refl
block_put (kernel.ThreadsAt n) q scope rest symbols behind e = refl

choice_put : (h : kernel.Choice) (q r : Sequence) (scope : Scope) (rest symbols : List Symbol) (behind : Option Fault) → checks.check_choice h scope rest behind ≡ None
    → put_statement (statement_of (lift_choice h q r) scope symbols) (places scope) (length scope)
    ≡ choice_code h scope (put_statements (sequence_of q (choice_scope h scope) (t.Else ∷ sequence_text r (t.End ∷ symbols))) (places (choice_scope h scope)) (length (choice_scope h scope))) (put_statements (sequence_of r scope (t.End ∷ symbols)) (places scope) (length scope))
choice_put (kernel.Ifs x) q r scope rest symbols behind e =
    ap (λ (k : ℕ). If k (put_statements (sequence_of q scope (t.Else ∷ sequence_text r (t.End ∷ symbols))) (places scope) (length scope)) (put_statements (sequence_of r scope (t.End ∷ symbols)) (places scope) (length scope)))
    (place_is scope x (stopped (use_fault scope x) _ _ e).0)
choice_put (kernel.Cases x p) q r scope rest symbols behind e =
    let first : Places → ℕ → Codes = put_statements (sequence_of q (scope ++ pattern_names p) (t.Else ∷ sequence_text r (t.End ∷ symbols))) in
    let other : Codes = put_statements (sequence_of r scope (t.End ∷ symbols)) (places scope) (length scope) in
    ap (λ (k : ℕ). Case k (pattern_of p) (first (declare (places scope) (length scope) (length (features_in (pattern_of p)))) (length scope + length (features_in (pattern_of p)))) other) (place_is scope x (stopped (use_fault scope x) _ _ e).0)
    ∙ ap (λ (m : ℕ). choice_code (kernel.Cases x p) scope (first (declare (places scope) (length scope) m) (length scope + m)) other) (sym (pattern_each p))
    ∙ ap (λ (c : Codes). choice_code (kernel.Cases x p) scope c other) (under_names first scope (pattern_names p))

-- a statement before others
follow_is : (c : Code) (q : kernel.Sequence) (scope : Scope) (symbols : List Symbol) (ps : Places) (n : ℕ) → follow c (put_others (sequence_of (lift q) scope symbols) ps n) ≡ Then c (put_statements (sequence_of (lift q) scope symbols) ps n)
follow_is c (kernel.One s) scope symbols ps n = refl
follow_is c (kernel.Then s q) scope symbols ps n = refl

mutual
  statement_code : (s : kernel.Statement) (d : ℕ) (scope : Scope) (rest symbols : List Symbol) (behind : Option Fault) → checks.check_stmt s d scope rest behind ≡ None
      → (behind ≡ None) × (put_statement (statement_of (lift_statement s) scope symbols) (places scope) (length scope) ≡ code_of s scope)
  statement_code (kernel.Simple s) d scope rest symbols behind e =
      let u = stopped (deep_fault d) _ _ e in ((plain_limits s scope rest behind u.1).0, plain_code s scope rest symbols behind u.1)
  statement_code (kernel.Block o q) d scope rest symbols behind e =
      let u = stopped (deep_fault d) _ _ e in
      let k = sequence_code q (fewer d) (opening_scope o scope) (t.End ∷ rest) (t.End ∷ symbols) behind (opening_behind o scope _ _ u.1) in
      (k.0, block_put o (lift q) scope _ symbols _ u.1 ∙ ap (block_code o scope) k.1)
  statement_code (kernel.Chooses h q r) d scope rest symbols behind e =
      let u = stopped (deep_fault d) _ _ e in
      let k = sequence_code q (fewer d) (choice_scope h scope) _ (t.Else ∷ sequence_text (lift r) (t.End ∷ symbols)) _ (choice_behind h scope _ _ u.1) in
      let m = sequence_code r (fewer d) scope (t.End ∷ rest) (t.End ∷ symbols) behind k.0 in
      (m.0, choice_put h (lift q) (lift r) scope _ symbols _ u.1 ∙ ap (λ (c : Codes). choice_code h scope c (put_statements (sequence_of (lift r) scope (t.End ∷ symbols)) (places scope) (length scope))) k.1 ∙ ap (choice_code h scope (codes_of q (choice_scope h scope))) m.1)
  statement_code (kernel.Tries q x r) d scope rest symbols behind e =
      let u = stopped (deep_fault d) _ _ e in
      let inner : List Symbol = t.Catch ∷ t.Variable x ∷ t.Then ∷ sequence_text (lift r) (t.End ∷ symbols) in
      let k = sequence_code q (fewer d) scope _ inner _ u.1 in
      let m = sequence_code r (fewer d) (scope ++ x ∷ []) (t.End ∷ rest) (t.End ∷ symbols) behind k.0 in (
        m.0,
        ap (λ (c : Codes). Try c (put_statements (sequence_of (lift r) (scope ++ x ∷ []) (t.End ∷ symbols)) (declare (places scope) (length scope) 1) (length scope + 1))) k.1
            ∙ ap (Try (codes_of q scope)) (under_names (put_statements (sequence_of (lift r) (scope ++ x ∷ []) (t.End ∷ symbols))) scope (x ∷ []) ∙ m.1),
      )

  sequence_code : (q : kernel.Sequence) (d : ℕ) (scope : Scope) (rest symbols : List Symbol) (behind : Option Fault) → checks.check_seq q d scope rest behind ≡ None
      → (behind ≡ None) × (put_statements (sequence_of (lift q) scope symbols) (places scope) (length scope) ≡ codes_of q scope)
  sequence_code (kernel.One s) d scope rest symbols behind e = let k = statement_code s d scope rest symbols behind e in (k.0, ap One k.1)
  sequence_code (kernel.Then s q) d scope rest symbols behind e =
      let k = statement_code s d scope (seq_text q rest) (sequence_text (lift q) symbols) _ e in
      let m = sequence_code q d scope rest symbols behind k.0 in (
        m.0,
        ap (λ (c : Code). follow c (put_others (sequence_of (lift q) scope symbols) (places scope) (length scope))) k.1 ∙ follow_is (code_of s scope) q scope symbols (places scope) (length scope) ∙ ap (Then (code_of s scope)) m.1,
      )

-- the table of a program is that of what it is with sugar
pub table_is : (q : kernel.Sequence) → checks.check q ≡ None → program_table q ≡ expanded_rows (program_of (lift q))
table_is q e = sym (ap (λ (c : Codes). codes_rows c 0 0) (sequence_code q 200 [] (t.EndOfText ∷ []) (t.EndOfText ∷ []) None e).1 ∙ sequence_rows q [] 0)
