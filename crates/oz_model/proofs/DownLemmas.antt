-- Where links go down and each variable has one equation, a variable without an equation is the end of its class: the
-- class has no node, and no lesser variable is in it.
use Rattle.std.proofs.Common.{◌≡◌, sym, refl, subst, ◌⊎◌, inl, inr, Some, None}
use Rattle.std.specs.Prelude.{Contains, Option}
use Rattle.tree_node.specs.declared.names.VarName.{VarName}
use Rattle.tree_node.specs.declared.node.Node.{Node}
use Rattle.tree_node.specs.declared.node.Term.TheVariants as term
use Rattle.tree_node.specs.Classes.{HasOneEach}
use Rattle.tree_node.specs.Order.{IsBelow}
use Rattle.tree_node.specs.Store.{Store, Same, Det, IsFree, node_of}
use Rattle.tree_node.proofs.ClassLemmas.{roots_tell_classes}
use Rattle.tree_node.proofs.DetLemmas.{node_is_det}
use Rattle.oz_model.specs.Answers.{LinksGoDown, LowerBinds}
use Rattle.tree_node.proofs.SoundLemmas.{Down, stop, link, down_of_same}
use Rattle.tree_node.proofs.NameLemmas.{below_not, below_trans}

down_below : {s : Store} {x y : VarName} → LinksGoDown s → Down s x y → (x ≡ y) ⊎ IsBelow y x
down_below f stop = inl refl
down_below {s} f (link {x = a} {y = b} {z = d} h p) = go (down_below f p)
  where
    go : (b ≡ d) ⊎ IsBelow d b → (a ≡ d) ⊎ IsBelow d a
    go (inl e) = inr (subst (λ (w : VarName). IsBelow w a) e (f a (term.Var b) h))
    go (inr g) = inr (below_trans d b a g (f a (term.Var b) h))

-- a variable below a free one is of another class
stays_apart : (c : Store) (u v : VarName) → HasOneEach c → LinksGoDown c → IsFree c u → IsBelow v u → Same c v u → ⊥
stays_apart c u v one down end low same = go (down_below down (down_of_same one end same))
  where
    go : (v ≡ u) ⊎ IsBelow u v → ⊥
    go (inl e) = below_not u (subst (λ (w : VarName). IsBelow w u) e low)
    go (inr g) = below_not u (below_trans u v u g low)

-- what has a node leads no further
ends_at : {c : Store} {y u : VarName} (n : Node) → HasOneEach c → Contains c (y, term.Node n) → Down c y u → y ≡ u
ends_at n one h stop = refl
ends_at n one h (link {x = a} {y = b} {z = d} g p) = let e : term.Node n ≡ term.Var b = one a (term.Node n) (term.Var b) h g in cc

no_node : (c : Store) (u : VarName) (n : Node) → HasOneEach c → IsFree c u → Det c u n → ⊥
no_node c u n one end (y, p, h) =
    let back : Same c y u = (roots_tell_classes c y u).1 (sym ((roots_tell_classes c u y).0 p)) in
    let e : y ≡ u = ends_at n one h (down_of_same one end back) in
    end (term.Node n) (subst (λ (w : VarName). Contains c (w, term.Node n)) e h)

none : (c : Store) (u : VarName) → HasOneEach c → IsFree c u → node_of c u ≡ None
none c u one end = go (node_of c u) refl
  where
    go : (o : Option Node) → node_of c u ≡ o → node_of c u ≡ None
    go None e = e
    go (Some n) e = absurd (no_node c u n one end (node_is_det c u n e))

pub lower_binds : LowerBinds
lower_binds c u (term.Var v) one down end low =
    (none c u one end, (λ e. stays_apart c u v one down end low ((roots_tell_classes c v u).1 (sym e))))
lower_binds c u (term.Node n) one down end low = (none c u one end, tt)
