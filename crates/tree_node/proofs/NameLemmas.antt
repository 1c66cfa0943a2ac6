-- The order of names, and what their tests tell.
use Rattle.std.proofs.Common.{rules, arith, ◌≡◌, ◌≢◌, ◌∙◌, refl, inl, inr, Bool, true, false}
use Rattle.std.specs.Bool.{Decides}
use Rattle.tree_node.specs.declared.names.ThreadName.{ThreadName}
use Rattle.tree_node.specs.declared.names.VarName.{VarName}
use Rattle.tree_node.specs.Order.{IsBelow}
use Rattle.tree_node.specs.State.{equal_thread}
use Rattle.tree_node.specs.Store.{equal_var}
use Rattle.tree_node.proofs.ClassLemmas.{same_name_decides}
use Rattle.tree_node.specs.declared.names.PortName.{PortName}
use Rattle.tree_node.specs.Goal.{equal_port}

pub below_trans : (x y z : VarName) → IsBelow x y → IsBelow y z → IsBelow x z
below_trans x y z (inl h) (inl g) = inl (omega arith)
below_trans x y z (inl h) (inr g) = inl (omega (arith, g.0))
below_trans x y z (inr h) (inl g) = inl (omega (arith, h.0))
below_trans x y z (inr h) (inr g) = inr (h.0 ∙ g.0, omega (arith, h.1, g.1))

pub below_not : (x : VarName) → IsBelow x x → ⊥
below_not x (inl h) = omega arith
below_not x (inr h) = omega (arith, h.1)

-- variables that are not the same are told apart
pub differ : (a b : VarName) → a ≢ b → equal_var a b ≡ false
differ a b d = go (equal_var a b) refl
  where
    go : (c : Bool) → equal_var a b ≡ c → equal_var a b ≡ false
    go false e = e
    go true e = absurd (d ((same_name_decides a b).0 e))

pub same_thread_decides : (a b : ThreadName) → Decides (equal_thread a b) (a ≡ b)
same_thread_decides a b = search rules

pub same_port_decides : (a b : PortName) → Decides (equal_port a b) (a ≡ b)
same_port_decides a b = search rules
