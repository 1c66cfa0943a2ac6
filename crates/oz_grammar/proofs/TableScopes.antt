-- In the table of a derivation that passes, each identifier that a statement names is declared around it.
use Rattle.std.proofs.Common.{◌≡◌, ◌∙◌, ℕ, ◌+◌, ◌<◌, List, [], ◌∷◌, ◌++◌, length, map, Bool, true, false, Option, Some, None, refl, sym, ap, arith, append_assoc, length-append}
use Rattle.std.specs.Prelude.{is_some, unwrap_or, slice_index, IfSome}
use Rattle.std.specs.Str.{bytes_eq}
use Rattle.tree_node.specs.declared.node.Feature.{Feature}
use Rattle.tree_node.specs.Each.{Each}
use Rattle.kernel_syntax.specs.declared.stmt.Stmt.{Stmt}
use Rattle.kernel_syntax.specs.Scopes.{stmt_at, named_positions}
use Rattle.kernel_syntax.proofs.Below.{Below}
use Rattle.oz_grammar.specs.declared.symbol.Symbol.{Symbol}
use Rattle.oz_grammar.specs.declared.symbol.Symbol.TheVariants as t
use Rattle.kernel_syntax.specs.declared.built_in.BuiltIn.{BuiltIn}
use Rattle.kernel_syntax.specs.declared.built_in.BuiltIn.TheVariants as built
use Rattle.oz_grammar.specs.declared.symbol.Purpose.TheVariants as purpose
use Rattle.oz_grammar.specs.declared.fault.Fault.{Fault}
use Rattle.oz_grammar.specs.declared.fault.FaultKind.TheVariants.{Unbound}
use Rattle.oz_grammar.specs.Grammar.{Identifier, ByVariable, ByFeature, Value, ToVar, Calculates, Tests, Selects, Pairs, ToInt, ToAtom, ToRecord, Plain, Skips, Tells, Calls, Raises}
use Rattle.kernel_syntax.specs.BuiltIns.{arity_of}
use Rattle.oz_grammar.specs.Scoping.{Scope, Fields, declared_behind, position_of, is_declared, declaration_of, built_in_at, fields_of, HasArguments, PlainDerives}
use Rattle.oz_grammar.specs.Table.{code_at, slots_of, record_row, value_row, built_in_row, call_row, plain_row}
use Rattle.oz_grammar.specs.Faults.{use_fault, count_fault, called_fault, argument_fault}
use Rattle.oz_grammar.specs.Check.{check_value, check_arguments, check_uses, check_call, check_plain}
use Rattle.oz_grammar.proofs.FieldOrder.{stopped, or_neither, is_so, good_fields}
use Rattle.kernel_syntax.proofs.PreorderLemmas.{stmt_here}

-- ---- used names

position_within : (scope : Scope) (x : Identifier) → IfSome (position_of scope x) (λ p. p < length scope)
position_within [] x = tt
position_within (y ∷ ys) x =
    let chosen : (b : Bool) (o : Option ℕ) → IfSome o (λ p. p < length ys) → IfSome (declared_behind b o) (λ p. p < length (y ∷ ys)) = elim [
      | true ↦ elim [ None ↦ λ h. omega arith | Some p ↦ λ h. omega (arith, h) ]
      | false ↦ elim [ None ↦ λ h. tt | Some p ↦ λ h. omega (arith, h) ]
    ] in chosen (bytes_eq y x) (position_of ys x) (position_within ys x)

placed : (o : Option ℕ) (n : ℕ) → IfSome o (λ p. p < n) → is_some o ≡ true → unwrap_or o 0 < n
placed None n h e = absurd cc
placed (Some p) n h e = h

place_within : (scope : Scope) (x : Identifier) → is_declared scope x ≡ true → declaration_of scope x < length scope
place_within scope x e = placed (position_of scope x) (length scope) (position_within scope x) e

pub used_within : (scope : Scope) (x : Identifier) → use_fault scope x ≡ None → declaration_of scope x < length scope
used_within scope x e = place_within scope x (is_so (is_declared scope x) Unbound e)

fields_within : (scope : Scope) (fields : Fields) → Each (λ (f : Feature × Identifier). is_declared scope f.1 ≡ true) fields → Below (length scope) (map (λ (f : Feature × ℕ). f.1) (slots_of scope fields))
fields_within scope [] all = tt
fields_within scope (f ∷ fields) all = (place_within scope f.1 all.0, fields_within scope fields all.1)

uses_within : (scope : Scope) (xs : List Identifier) (rest : List Symbol) (behind : Option Fault) → check_uses scope xs rest behind ≡ None → Below (length scope) (map (declaration_of scope) xs)
uses_within scope [] rest behind e = tt
uses_within scope (x ∷ xs) rest behind e =
    let s = stopped (use_fault scope x) _ _ e in (used_within scope x s.0, uses_within scope xs rest behind s.1)

arguments_within : (scope : Scope) (n : ℕ) (xs : List Identifier) (rest : List Symbol) (behind : Option Fault) → check_arguments scope n xs rest behind ≡ None → Below (length scope) (map (declaration_of scope) xs)
arguments_within scope n [] rest behind e = tt
arguments_within scope n (x ∷ xs) rest behind e =
    let s = stopped (argument_fault scope n x) _ _ e in
    (used_within scope x (or_neither (count_fault n) (use_fault scope x) s.0).1, arguments_within scope (n + 1) xs rest behind s.1)

-- ---- the names of rows

record_names : (left : ℕ) (label : List ℕ) (scope : Scope) (fields : Fields) → left < length scope → Each (λ (f : Feature × Identifier). is_declared scope f.1 ≡ true) fields
    → Below (length scope) (named_positions (record_row left label (slots_of scope fields)))
record_names left label scope [] lt all = (lt, tt)
record_names left label scope (f ∷ fields) lt all = (lt, fields_within scope (f ∷ fields) all)

pub value_names : (left : ℕ) (v : Value) (scope : Scope) (rest : List Symbol) (behind : Option Fault) → left < length scope → check_value v scope rest behind ≡ None → Below (length scope) (named_positions (value_row left v scope))
value_names left (ToVar y) scope rest behind lt e = (lt, (used_within scope y (stopped (use_fault scope y) _ behind e).0, tt))
value_names left (Calculates y o z) scope rest behind lt e =
    let s = stopped (use_fault scope y) _ _ e in
    (lt, (used_within scope y s.0, (used_within scope z (stopped (use_fault scope z) _ behind s.1).0, tt)))
value_names left (Tests y o z) scope rest behind lt e =
    let s = stopped (use_fault scope y) _ _ e in
    (lt, (used_within scope y s.0, (used_within scope z (stopped (use_fault scope z) _ behind s.1).0, tt)))
value_names left (Selects y (ByVariable x)) scope rest behind lt e =
    let s = stopped (use_fault scope y) _ _ e in
    (lt, (used_within scope y s.0, (used_within scope x (stopped (use_fault scope x) _ behind s.1).0, tt)))
value_names left (Selects y (ByFeature m)) scope rest behind lt e = (lt, (used_within scope y (stopped (use_fault scope y) _ _ e).0, tt))
value_names left (Pairs h u) scope rest behind lt e =
    let s = stopped (use_fault scope h) _ _ e in
    (lt, (used_within scope h s.0, (used_within scope u (stopped (use_fault scope u) _ behind s.1).0, tt)))
value_names left (ToInt n) scope rest behind lt e = (lt, tt)
value_names left (ToAtom a) scope rest behind lt e = (lt, tt)
value_names left (ToRecord a fs) scope rest behind lt e =
    let g = good_fields purpose.Use scope fs (t.CloseRound ∷ rest) behind e in record_names left a scope (fields_of fs) lt g.1.declared

first_of : (n : ℕ) (xs : List ℕ) → 0 < length xs → Below n xs → slice_index xs 0 < n
first_of n [] lt p = absurd (omega (arith, lt))
first_of n (x ∷ xs) lt p = p.0

second_of : (n : ℕ) (xs : List ℕ) → 1 < length xs → Below n xs → slice_index xs 1 < n
second_of n [] lt p = absurd (omega (arith, lt))
second_of n (x ∷ []) lt p = absurd (omega (arith, lt))
second_of n (x ∷ y ∷ xs) lt p = p.1.0

third_of : (n : ℕ) (xs : List ℕ) → 2 < length xs → Below n xs → slice_index xs 2 < n
third_of n [] lt p = absurd (omega (arith, lt))
third_of n (x ∷ []) lt p = absurd (omega (arith, lt))
third_of n (x ∷ y ∷ []) lt p = absurd (omega (arith, lt))
third_of n (x ∷ y ∷ z ∷ xs) lt p = p.1.1.0

built_in_names : (b : BuiltIn) (n : ℕ) (xs : List ℕ) → length xs ≡ arity_of b → Below n xs → Below n (named_positions (built_in_row b xs))
built_in_names built.Browse n xs has p = (first_of n xs (omega (arith, has)) p, tt)
built_in_names built.Wait n xs has p = (first_of n xs (omega (arith, has)) p, tt)
built_in_names built.NewCell n xs has p = (first_of n xs (omega (arith, has)) p, (second_of n xs (omega (arith, has)) p, tt))
built_in_names built.Exchange n xs has p = (first_of n xs (omega (arith, has)) p, (second_of n xs (omega (arith, has)) p, (third_of n xs (omega (arith, has)) p, tt)))
built_in_names built.NewPort n xs has p = (first_of n xs (omega (arith, has)) p, (second_of n xs (omega (arith, has)) p, tt))
built_in_names built.Send n xs has p = (first_of n xs (omega (arith, has)) p, (second_of n xs (omega (arith, has)) p, tt))
built_in_names built.NewCellAt n xs has p = (first_of n xs (omega (arith, has)) p, (second_of n xs (omega (arith, has)) p, (third_of n xs (omega (arith, has)) p, tt)))

call_names : (b : Option BuiltIn) (p : Identifier) (scope : Scope) (xs : List Identifier) (rest : List Symbol) (behind : Option Fault) → HasArguments b xs → called_fault b scope p ≡ None → check_call b scope xs rest behind ≡ None
    → Below (length scope) (named_positions (call_row b (declaration_of scope p) (map (declaration_of scope) xs)))
call_names (Some b) p scope xs rest behind has callee e =
    built_in_names b (length scope) (map (declaration_of scope) xs) (Rattle.std.proofs.lemmas.List.length-map xs (declaration_of scope) ∙ has) (uses_within scope xs rest behind e)
call_names None p scope xs rest behind has callee e = (used_within scope p callee, arguments_within scope 0 xs rest behind e)

pub plain_names : (s : Plain) (scope : Scope) (rest : List Symbol) (behind : Option Fault) → PlainDerives s scope → check_plain s scope rest behind ≡ None → Below (length scope) (named_positions (plain_row s scope))
plain_names Skips scope rest behind derives e = tt
plain_names (Tells x v) scope rest behind derives e =
    let s = stopped (use_fault scope x) _ _ e in value_names (declaration_of scope x) v scope rest behind (used_within scope x s.0) s.1
plain_names (Calls p xs) scope rest behind derives e =
    let s = stopped (called_fault (built_in_at scope p) scope p) _ _ e in call_names (built_in_at scope p) p scope xs (t.CloseCurly ∷ rest) behind derives s.0 s.1
plain_names (Raises x) scope rest behind derives e = (used_within scope x (stopped (use_fault scope x) _ behind e).0, tt)

-- ---- rows in a table

-- the table has these rows from number k on
pub record Has (p rows : List Stmt) (k : ℕ) : Type 0 where
  pub pre : List Stmt
  pub post : List Stmt
  pub is : p ≡ pre ++ (rows ++ post)
  pub at : length pre ≡ k

pub here : (p others : List Stmt) (row : Stmt) (k : ℕ) → Has p (row ∷ others) k → stmt_at p (code_at k) ≡ row
here p others row k h = let r = stmt_here h.pre (others ++ h.post) row in rw (h.is, ← h.at, r) refl

pub behind_row : (p others : List Stmt) (row : Stmt) (k : ℕ) → Has p (row ∷ others) k → Has p others (k + 1)
behind_row p others row k h = record {
  pre = h.pre ++ row ∷ [];
  post = h.post;
  is = h.is ∙ sym (append_assoc h.pre (row ∷ []) (others ++ h.post));
  at = omega (arith, h.at, length-append h.pre (row ∷ []));
}

pub left_of : (p xs ys : List Stmt) (k : ℕ) → Has p (xs ++ ys) k → Has p xs k
left_of p xs ys k h = record { pre = h.pre; post = ys ++ h.post; is = h.is ∙ ap (λ (r : List Stmt). h.pre ++ r) (append_assoc xs ys h.post); at = h.at }

pub right_of : (p xs ys : List Stmt) (k : ℕ) → Has p (xs ++ ys) k → Has p ys (k + length xs)
right_of p xs ys k h = record {
  pre = h.pre ++ xs;
  post = h.post;
  is = h.is ∙ ap (λ (r : List Stmt). h.pre ++ r) (append_assoc xs ys h.post) ∙ sym (append_assoc h.pre xs (ys ++ h.post));
  at = omega (arith, h.at, length-append h.pre xs);
}
