-- The ends of a port are one chain.
use Rattle.std.proofs.Common.{◌≡◌, ◌∙◌, sym, ap, refl, subst, List, [], ◌∷◌, ◌++◌, Bool, true, false, cond, Some}
use Rattle.std.specs.Prelude.{Option, ◌≢◌}
use Rattle.std.specs.Map.{lookup}
use Rattle.tree_node.specs.declared.names.VarName.{VarName}
use Rattle.tree_node.specs.declared.names.PortName.{PortName}
use Rattle.port_owner.specs.Ports.{Owned, end_of, with_end}
use Rattle.tree_node.specs.Goal.{equal_port}
use Rattle.tree_node.proofs.NameLemmas.{same_port_decides}
use Rattle.port_owner.specs.Laws.{ends_from, IsChainFrom}

-- a send leaves the new end
end_here : (es : List Owned) (q : PortName) (x : VarName) → end_of (with_end es q x) q ≡ Some x
end_here [] q x = let same : equal_port q q ≡ true = (same_port_decides q q).1 refl in rw same refl
end_here ((r, z) ∷ es) q x = go (equal_port q r) refl (end_here es q x)
  where
    go : (b : Bool) → equal_port q r ≡ b → end_of (with_end es q x) q ≡ Some x → lookup (equal_port q) (cond b ((r, x) ∷ es) ((r, z) ∷ with_end es q x)) ≡ Some x
    go true e ih = rw e refl
    go false e ih = rw e ih

-- and the ends of other ports
end_other : (es : List Owned) (q r : PortName) (x : VarName) → equal_port q r ≡ false → end_of (with_end es r x) q ≡ end_of es q
end_other [] q r x d = rw d refl
end_other ((p, z) ∷ es) q r x d = go (equal_port r p) refl (end_other es q r x d)
  where
    go : (b : Bool) → equal_port r p ≡ b → end_of (with_end es r x) q ≡ end_of es q → lookup (equal_port q) (cond b ((p, x) ∷ es) ((p, z) ∷ with_end es r x)) ≡ lookup (equal_port q) ((p, z) ∷ es)
    go true e ih = let same : r ≡ p = (same_port_decides r p).0 e in let other : equal_port q p ≡ false = subst (λ (y : PortName). equal_port q y ≡ false) same d in rw other refl
    go false e ih = ap (λ (o : Option VarName). cond (equal_port q p) (Some z) o) ih

pub ends_chain : (sends : List (PortName × VarName)) (es : List Owned) (q : PortName) (x : VarName) → end_of es q ≡ Some x → IsChainFrom x (ends_from q es sends)
ends_chain [] es q x at = tt
ends_chain ((r, y) ∷ sends) es q x at = go (equal_port q r) refl (λ z here. ends_chain sends (with_end es r y) q z here)
  where
    go : (b : Bool) → equal_port q r ≡ b → ((z : VarName) → end_of (with_end es r y) q ≡ Some z → IsChainFrom z (ends_from q (with_end es r y) sends)) →
        IsChainFrom x (cond b ((end_of es r, y) ∷ []) [] ++ ends_from q (with_end es r y) sends)
    go true e ih = let same : q ≡ r = (same_port_decides q r).0 e in
        (subst (λ (p : PortName). end_of es p ≡ Some x) same at, ih y (subst (λ (p : PortName). end_of (with_end es r y) p ≡ Some y) (sym same) (end_here es r y)))
    go false e ih = ih x (end_other es q r y e ∙ at)
