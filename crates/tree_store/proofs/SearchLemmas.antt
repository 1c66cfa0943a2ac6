-- How a comparison goes on: the next pair of the queue, and the parts of a pair.
use Rattle.std.proofs.Common.{arith, ◌≡◌, ◌∙◌, sym, ap, ℕ, suc, ◌+◌, ◌<◌, List, ◌∷◌, length, map, drop, get_or, drop-cons, None, Some}
use Rattle.std.specs.Prelude.{Option, slice_get}
use Rattle.std.proofs.lemmas.Option.{get_or_from_slice_get}
use Rattle.tree_node.specs.declared.names.VarName.{VarName}
use Rattle.tree_node.specs.declared.node.Feature.{Feature}
use Rattle.tree_node.specs.declared.node.Node.{Node}
use Rattle.tree_node.specs.Store.{Store, equal_var, root_of, node_of}
use Rattle.tree_node.specs.Compare.{Pair, paired, with_new, open_name, open_root}
use Rattle.tree_node.specs.ClassPairs.{equal_pair, roots, all_new}

-- the next pair, as the code reads it
pub record IsNextPair (queue : List Pair) (at : ℕ) (c : Pair) : Type 0 where
  pub within : at < length queue
  pub is : c ≡ get_or queue at c

pub next_found : (queue : List Pair) (at n : ℕ) (c : Pair) → n ≡ length queue → at < n → slice_get queue at ≡ Some c → IsNextPair queue at c
next_found queue at n c l h found = record { within = omega (arith, l, h); is = sym (get_or_from_slice_get queue at c c found) }

-- the variables of the next fields
pub next_parts : (s : Store) (keys more : List Pair) (xs ys : List (Feature × VarName)) (at : ℕ) (x y : Feature × VarName) (l r : VarName) → at < length xs → length xs ≡ length ys → x ≡ get_or xs at x → y ≡ get_or ys at y →
    l ≡ root_of s x.1 → r ≡ root_of s y.1 → more ≡ with_new equal_pair keys (l, r) →
    all_new equal_pair keys (map (roots s) (paired (drop at xs) (drop at ys))) ≡ all_new equal_pair more (map (roots s) (paired (drop (at + 1) xs) (drop (at + 1) ys)))
next_parts s keys more xs ys at x y l r h same ex ey el er own =
    let left : drop at xs ≡ x ∷ drop (suc at) xs = drop-cons xs at x h ∙ ap (λ (z : Feature × VarName). z ∷ drop (suc at) xs) (sym ex) in
    let right : drop at ys ≡ y ∷ drop (suc at) ys = drop-cons ys at y (omega (arith, h, same)) ∙ ap (λ (z : Feature × VarName). z ∷ drop (suc at) ys) (sym ey) in
    let one : suc at ≡ at + 1 = omega arith in
    let e : more ≡ with_new equal_pair keys (root_of s x.1, root_of s y.1) = own ∙ (ap (λ (z : VarName). with_new equal_pair keys (z, r)) el ∙ ap (λ (z : VarName). with_new equal_pair keys (root_of s x.1, z)) er) in
    ap (λ (l : List (Feature × VarName)). all_new equal_pair keys (map (roots s) (paired l (drop at ys)))) left
    ∙ (ap (λ (l : List (Feature × VarName)). all_new equal_pair keys (map (roots s) (paired (x ∷ drop (suc at) xs) l))) right
    ∙ (ap (λ (l : List Pair). all_new equal_pair l (map (roots s) (paired (drop (suc at) xs) (drop (suc at) ys)))) (sym e)
    ∙ ap (λ (n : ℕ). all_new equal_pair more (map (roots s) (paired (drop n xs) (drop n ys)))) one))

-- an open variable
pub one_open : (s : Store) (keys more : List VarName) (x : VarName) → root_of s x ≡ x → node_of s x ≡ None → more ≡ with_new equal_var keys x → more ≡ all_new equal_var keys (open_root s x)
one_open s keys more x own none e =
    e ∙ sym (ap (λ (o : Option Node). all_new equal_var keys (open_name (root_of s x) o)) none ∙ ap (λ (r : VarName). with_new equal_var keys r) own)
