-- A look-up among the entries of the map, and a new entry.
use Rattle.std.proofs.Common.{◌≡◌, ◌∙◌, sym, ap, refl, List, [], ◌∷◌, ◌++◌, Bool, true, false, cond, Some, None}
use Rattle.std.specs.Prelude.{◌↔◌, Option, IsTrue, is_some}
use Rattle.std.specs.Map.{lookup}
use Rattle.indexmap.specs.IndexMap.{insert_entry}
use Rattle.tree_node.specs.declared.names.VarName.{VarName}
use Rattle.tree_node.specs.declared.node.Term.{Term}
use Rattle.tree_node.specs.Store.{equal_var}
use Rattle.proxy_table.specs.Proxies.{Proxy, IsMet, entry_of, after_meet}

insert_last : (es : List Proxy) (x : VarName) (v : Option Term) → is_some (entry_of es x) ≡ false → insert_entry equal_var es x v ≡ es ++ (x, v) ∷ []
insert_last [] x v e = refl
insert_last ((y, r) ∷ es) x v e = go (equal_var x y) refl e (λ k. insert_last es x v k)
  where
    go : (b : Bool) → equal_var x y ≡ b → is_some (cond b (Some r) (lookup (equal_var x) es)) ≡ false → (is_some (entry_of es x) ≡ false → insert_entry equal_var es x v ≡ es ++ (x, v) ∷ []) →
        cond b ((y, v) ∷ es) ((y, r) ∷ insert_entry equal_var es x v) ≡ ((y, r) ∷ es) ++ (x, v) ∷ []
    go true p k ih = cc
    go false p k ih = ap (λ (zs : List Proxy). (y, r) ∷ zs) (ih k)

unmet : (s : List Proxy) (x : VarName) (b : Bool) → (IsTrue b ↔ IsMet s x) → b ≡ false → is_some (entry_of s x) ≡ false
unmet s x b same absent = go (is_some (entry_of s x)) refl
  where
    go : (c : Bool) → is_some (entry_of s x) ≡ c → is_some (entry_of s x) ≡ false
    go true e = let yes : b ≡ true = same.1 e in cc
    go false e = e

-- a name that was not met goes last
pub met_new : (s es fs : List Proxy) (x : VarName) (b : Bool) → es ≡ s → (IsTrue b ↔ IsMet s x) → b ≡ false → fs ≡ insert_entry equal_var es x None → fs ≡ after_meet s x
met_new s es fs x b view same absent e =
    let none : is_some (entry_of s x) ≡ false = unmet s x b same absent in
    e ∙ ap (λ (zs : List Proxy). insert_entry equal_var zs x None) view ∙ insert_last s x None none ∙ sym (rw none refl)
