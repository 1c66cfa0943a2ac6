-- What a shown value needs is a variable that the equations name.
use Rattle.std.proofs.Common.{◌≡◌, refl, subst, ℕ, zero, suc, ◌+◌, ◌-◌, List, [], ◌∷◌, Bool, true, false, cond, Some, None}
use Rattle.std.specs.Prelude.{Option, ◌&&◌, codes}
use Rattle.std.specs.Str.{bytes_eq}
use Rattle.tree_node.specs.declared.names.VarName.{VarName}
use Rattle.tree_node.specs.declared.names.Name.{Name}
use Rattle.tree_node.specs.declared.names.Name.TheVariants as name
use Rattle.tree_node.specs.declared.node.Feature.{Feature}
use Rattle.tree_node.specs.declared.node.Node.{Node}
use Rattle.tree_node.specs.declared.node.Node.TheVariants as node
use Rattle.tree_node.specs.declared.node.Term.TheVariants as term
use Rattle.tree_node.specs.Each.{Each}
use Rattle.tree_node.specs.Names.{EachOfNode, EachOfEquation}
use Rattle.tree_node.specs.Shown.{Show, Text, Needs, Walk, and_then, is_feature, is_cut, head_and_tail, show_fields, show_pair, show_rec, show_option, show_var, shown_within, shown}
use Rattle.tree_node.specs.Store.{Store, Equation, node_of}
use Rattle.tree_node.proofs.DetLemmas.{node_is_det}
use Rattle.oz_model.specs.WellFormed.{IsNodeOf, EquationsHave}
use Rattle.tree_node.proofs.OrderLemmas.{Each-member}

-- the node that is found is one of the equations'
pub node_has : (Q : Node → Type 0) (s : Store) (x : VarName) (n : Node) → EquationsHave Q s → node_of s x ≡ Some n → Q n
node_has Q s x n h e =
    let at = node_is_det s x n e in
    Each-member (λ (q : Equation). IsNodeOf Q q.1) s (at.0, term.Node n) h at.2

module _ (P : Name → Type 0) (s : Store) (eqs : Each (EachOfEquation P) s) where
  abbrev OfShow : Show → Type 0
  OfShow (Text t l) = Unit {0}
  OfShow (Needs x) = P (name.Var x)

  show_go : (a : Show) (f : List ℕ → ℕ → Show) → OfShow a → ((t : List ℕ) (l : ℕ) → OfShow (f t l)) → OfShow (and_then a f)
  show_go (Text t l) f h g = g t l
  show_go (Needs x) f h g = h

  abbrev OfWalk : Walk → Type 0
  OfWalk w = (level left : ℕ) (x : VarName) → P (name.Var x) → OfShow (w level left x)

  fields_named : (w : Walk) → OfWalk w → (level left next : ℕ) (fs : List (Feature × VarName)) → Each (λ (f : Feature × VarName). P (name.Var f.1)) fs → OfShow (show_fields w level left next fs)
  fields_named w h level left next [] g = tt
  fields_named w h level left next ((f, x) ∷ fs) g = go (λ l n. fields_named w h level l n fs g.1)
    where
      go : ((l n : ℕ) → OfShow (show_fields w level l n fs)) → OfShow (show_fields w level left next ((f, x) ∷ fs))
      go rest = show_go _ _ (h (level + 1) left x g.0) (λ t l. show_go _ _ (rest l (cond (is_feature next f) (next + 1) next)) (λ t2 l2. tt))

  pair_named : (w : Walk) → OfWalk w → (level left : ℕ) (x y : VarName) → P (name.Var x) → P (name.Var y) → OfShow (show_pair s w level left x y)
  pair_named w h level left x y a b = show_go _ _ (h (level + 1) left x a) (λ t l. show_go _ _ (h level l y b) (λ t2 l2. tt))

  rec_named : (w : Walk) → OfWalk w → (level left : ℕ) (label : List ℕ) (fs : List (Feature × VarName)) → Each (λ (f : Feature × VarName). P (name.Var f.1)) fs → OfShow (show_rec s w level left label fs (head_and_tail (node.Rec label fs)))
  rec_named w h level left label [] g = tt
  rec_named w h level left label (a ∷ []) g = show_go _ _ (fields_named w h level left 1 (a ∷ []) g) (λ t l. tt)
  rec_named w h level left label (a ∷ b ∷ c ∷ fs) g = show_go _ _ (fields_named w h level left 1 (a ∷ b ∷ c ∷ fs) g) (λ t l. tt)
  rec_named w h level left label ((f, x) ∷ (k, y) ∷ []) g = go (bytes_eq label (124 ∷ []) && (is_feature 1 f && is_feature 2 k))
    where
      go : (b : Bool) → OfShow (show_rec s w level left label ((f, x) ∷ (k, y) ∷ []) (cond b (Some (x, y)) None))
      go true = pair_named w h level left x y g.0 g.1.0
      go false = show_go _ _ (fields_named w h level left 1 ((f, x) ∷ (k, y) ∷ []) g) (λ t l. tt)

  pub named_node : (x : VarName) (n : Node) → node_of s x ≡ Some n → EachOfNode P n
  named_node x n e =
      let at = node_is_det s x n e in
      (Each-member (EachOfEquation P) s (at.0, term.Node n) eqs at.2).1

  found_named : (w : Walk) → OfWalk w → (level left : ℕ) (x : VarName) → P (name.Var x) → (o : Option Node) → node_of s x ≡ o → OfShow (show_option s w level left x o)
  found_named w h level left x a None e = a
  found_named w h level left x a (Some (node.Rec label fs)) e = rec_named w h level left label fs (named_node x (node.Rec label fs) e)
  found_named w h level left x a (Some (node.Int z)) e = tt
  found_named w h level left x a (Some (node.Atom t)) e = tt
  found_named w h level left x a (Some (node.Proc n c q vs)) e = tt
  found_named w h level left x a (Some (node.Cell c)) e = tt
  found_named w h level left x a (Some (node.Port q)) e = tt

  var_named : (depth : ℕ) → OfWalk (show_var depth s)
  var_named zero level left x h = tt
  var_named (suc depth) level left x h = go (is_cut level left) (found_named (show_var depth s) (var_named depth) level (left - 1) x h (node_of s x) refl)
    where
      go : (b : Bool) → OfShow (show_option s (show_var depth s) level (left - 1) x (node_of s x)) → OfShow (cond b (Text (codes ",,,") left) (show_option s (show_var depth s) level (left - 1) x (node_of s x)))
      go true r = tt
      go false r = r

  within_named : (n : ℕ) (x : VarName) → P (name.Var x) → OfShow (shown_within n s x)
  unfolding shown_within
  within_named n x h = var_named n 1 n x h

  -- the variable that the line of x needs first
  pub sought_names : (x y : VarName) → P (name.Var x) → shown s x ≡ Needs y → P (name.Var y)
  sought_names x y h e = subst OfShow e (within_named 1000 x h)
