-- A look-up among the entries of the map, and a value written in place.
use Rattle.std.proofs.Common.{◌≡◌, ◌∙◌, sym, ap, refl, List, [], ◌∷◌, Bool, true, false, cond, is_some, Some, None}
use Rattle.std.specs.Prelude.{ℕ, Result, Ok, Err, IfOk}
use Rattle.std.specs.Map.{set_value}
use Rattle.tree_node.specs.declared.names.VarName.{VarName}
use Rattle.tree_node.specs.Store.{equal_var}
use Rattle.tree_node.specs.declared.node.Term.{Term}
use Rattle.variable_owner.specs.declared.owners.Owner.{Owner}
use Rattle.variable_owner.specs.declared.owners.Registered.{Registered}
use Rattle.variable_owner.specs.declared.owners.Registered.TheVariants.{Kept, Answer}
use Rattle.variable_owner.specs.Owners.{Owned, IsMade, OnAnswer, owner_of, with_registered, with_owner, after_register, after_bind, after_ask}

-- a value written in the place of one that is there
pub written : (es : List Owned) (x : VarName) (o p : Owner) → owner_of es x ≡ Some o → set_value (equal_var x) es p ≡ with_owner es x p
written [] x o p e = cc
written ((y, r) ∷ es) x o p e = go (equal_var x y) refl e (λ k. written es x o p k)
  where
    go : (b : Bool) → equal_var x y ≡ b → cond b (Some r) (owner_of es x) ≡ Some o → (owner_of es x ≡ Some o → set_value (equal_var x) es p ≡ with_owner es x p) →
        cond b ((y, p) ∷ es) ((y, r) ∷ set_value (equal_var x) es p) ≡ cond b ((y, p) ∷ es) ((y, r) ∷ with_owner es x p)
    go true q k ih = refl
    go false q k ih = ap (λ (zs : List Owned). (y, r) ∷ zs) (ih k)

-- the value that is there, written again
pub written_back : (es : List Owned) (x : VarName) (o : Owner) → owner_of es x ≡ Some o → with_owner es x o ≡ es
written_back [] x o e = cc
written_back ((y, r) ∷ es) x o e = go (equal_var x y) refl e (λ k. written_back es x o k)
  where
    go : (b : Bool) → equal_var x y ≡ b → cond b (Some r) (owner_of es x) ≡ Some o → (owner_of es x ≡ Some o → with_owner es x o ≡ es) →
        cond b ((y, o) ∷ es) ((y, r) ∷ with_owner es x o) ≡ (y, r) ∷ es
    go true q k ih = let same : r ≡ o = cc in ap (λ (z : Owner). (y, z) ∷ es) (sym same)
    go false q k ih = ap (λ (zs : List Owned). (y, r) ∷ zs) (ih k)

-- a registration writes the owner in its place
pub registered : (s fs : List Owned) (x : VarName) (k : ℕ) (o p : Owner) → owner_of s x ≡ Some o → fs ≡ with_owner s x p → p ≡ with_registered o k → fs ≡ after_register s x k
registered s fs x k o p held e is = e ∙ ap (λ (z : Owner). with_owner s x z) is ∙ sym (rw held refl)

-- so does a request to bind
pub asked : (s fs : List Owned) (x : VarName) (t : Term) (o p : Owner) → owner_of s x ≡ Some o → fs ≡ with_owner s x p → p ≡ after_bind o t → fs ≡ after_ask s x t
asked s fs x t o p held e is = e ∙ ap (λ (z : Owner). with_owner s x z) is ∙ sym (rw held refl)

-- or leaves what was there
pub unregistered : (s fs : List Owned) (x : VarName) (o p : Owner) → owner_of s x ≡ Some o → fs ≡ with_owner s x p → p ≡ o → fs ≡ s
unregistered s fs x o p held e is = e ∙ ap (λ (z : Owner). with_owner s x z) is ∙ written_back s x o held

-- what was made is there
pub unmade : (s : List Owned) (x : VarName) → owner_of s x ≡ None → IsMade s x → ⊥
unmade s x e h = let none : is_some (owner_of s x) ≡ false = ap is_some e in cc

pub on_answer : {E P Q : Type 0} (r : Result Registered E) → (P → Q) → IfOk r (λ a. OnAnswer a P) → IfOk r (λ a. OnAnswer a Q)
on_answer (Ok Kept) f h = tt
on_answer (Ok (Answer t)) f h = f h
on_answer (Err e) f h = tt
