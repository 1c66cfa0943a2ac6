-- A variable shows alike in a store that says more, or needs the same variable.
use Rattle.std.proofs.Common.{arith, ◌≡◌, ◌∙◌, sym, ap, refl, subst, ℕ, ◌≤◌, ◌+◌, ◌-◌, zero, suc, List, [], ◌∷◌, ◌++◌, Bool, true, false, cond, Some, None}
use Rattle.std.specs.Prelude.{Option, ◌&&◌, nat_lt, codes, if◌then◌else◌}
use Rattle.tree_node.specs.declared.names.VarName.{VarName}
use Rattle.tree_node.specs.declared.node.Node.{Node}
use Rattle.tree_node.specs.declared.node.Node.TheVariants as node
use Rattle.tree_node.specs.declared.node.Feature.{Feature}
use Rattle.tree_node.specs.Store.{Store, IsSound, node_of}
use Rattle.tree_node.specs.Shown.{Show, Text, Needs, Walk, and_then, is_feature, is_cut, is_pair, in_brackets, head_and_tail, show_fields, show_pair, show_rec, show_node, show_option, show_var, shown_within}
use Rattle.tree_node.specs.Compare.{IsWithin}
use Rattle.tree_node.proofs.DetLemmas.{det_is_node, node_is_det}
use Rattle.tree_node.proofs.SoundLemmas.{sound_has_one}
use Rattle.tree_node.specs.ShownStays.{Refines, ShownStays}
use Rattle.std.proofs.Math.Bool.{and-false, or-true}

wider : (c : Store) (l left : ℕ) (a b : Show) → l ≤ left → Refines c l a b → Refines c left a b
wider c l left (Text t k) b le h = (omega (arith, h.0), h.1)
wider c l left (Needs z) b le h = h

refine_go : (c : Store) (left : ℕ) (a b : Show) (f g : List ℕ → ℕ → Show) → Refines c left a b →
    ((t : List ℕ) (l : ℕ) → a ≡ Text t l → l ≤ left → Refines c l (f t l) (g t l)) → Refines c left (and_then a f) (and_then b g)
refine_go c left (Text t l) b f g h k =
    subst (λ (w : Show). Refines c left (f t l) (and_then w g)) (sym h.1) (wider c l left (f t l) (g t l) h.0 (k t l refl h.0))
refine_go c left (Needs z) b f g h k = λ p. ap (λ (w : Show). and_then w g) (h p)

abbrev pub Finds : Store → Walk → Walk → ℕ → Type 0
Finds c w v d = (level left : ℕ) (x : VarName) → left ≤ d → Refines c left (w level left x) (v level left x)

fields_more : (c : Store) (w v : Walk) (d : ℕ) → Finds c w v d → (level left next : ℕ) (fs : List (Feature × VarName)) → left ≤ d →
    Refines c left (show_fields w level left next fs) (show_fields v level left next fs)
fields_more c w v d ih level left next [] le = (omega arith, refl)
fields_more c w v d ih level left next ((f, x) ∷ fs) le =
    go (λ l n k. fields_more c w v d ih level l n fs k)
  where
    go : ((l n : ℕ) → l ≤ d → Refines c l (show_fields w level l n fs) (show_fields v level l n fs)) →
        Refines c left (show_fields w level left next ((f, x) ∷ fs)) (show_fields v level left next ((f, x) ∷ fs))
    go rest = refine_go c left _ _ _ _ (ih (level + 1) left x le) (λ t l e k.
        refine_go c l _ _ _ _ (rest l (if is_feature next f then next + 1 else next) (omega (arith, k, le))) (λ t2 l2 e2 k2. (omega arith, refl)))

cut_at : (level left : ℕ) → left ≡ 0 → is_cut level left ≡ true
cut_at level left e = rw e (or-true (nat_lt 20 level))

-- what has a node in s has it in c
module _ (s c : Store) (stay : (x : VarName) (n : Node) → node_of s x ≡ Some n → node_of c x ≡ Some n) where
  pub brackets_same : (d level left : ℕ) (x : VarName) (t : List ℕ) (l : ℕ) → left ≤ d → show_var d s level left x ≡ Text t l →
      (is_pair (node_of s x) && (if is_cut level left then false else true)) ≡ (is_pair (node_of c x) && (if is_cut level left then false else true))
  brackets_same zero level left x t l le e =
      rw (cut_at level left (omega arith)) (and-false (is_pair (node_of s x)) ∙ sym (and-false (is_pair (node_of c x))))
  brackets_same (suc d) level left x t l le e = go (is_cut level left) (node_of s x) refl e
    where
      go : (b : Bool) (o : Option Node) → node_of s x ≡ o → cond b (Text (codes ",,,") left) (show_option s (show_var d s) level (left - 1) x o) ≡ Text t l →
          (is_pair o && (if b then false else true)) ≡ (is_pair (node_of c x) && (if b then false else true))
      go true o q k = and-false (is_pair o) ∙ sym (and-false (is_pair (node_of c x)))
      go false None q k = cc
      go false (Some n) q k = rw (stay x n q) refl

  pair_more : (d level left : ℕ) (x y : VarName) → Finds c (show_var d s) (show_var d c) d → left ≤ d →
      Refines c left (show_pair s (show_var d s) level left x y) (show_pair c (show_var d c) level left x y)
  pair_more d level left x y ih le =
      refine_go c left _ _ _ _ (ih (level + 1) left x le) (λ t l e k.
      refine_go c l _ _ _ _ (ih level l y (omega (arith, k, le))) (λ t2 l2 e2 k2.
      (omega arith, sym (ap (λ (b : Bool). Text (in_brackets b t ++ 124 ∷ t2) l2) (brackets_same d (level + 1) left x t l le e)))))

  node_shows : (d level left : ℕ) (n : Node) → Finds c (show_var d s) (show_var d c) d → left ≤ d →
      Refines c left (show_node s (show_var d s) level left n) (show_node c (show_var d c) level left n)
  node_shows d level left (node.Int z) ih le = (omega arith, refl)
  node_shows d level left (node.Atom t) ih le = (omega arith, refl)
  node_shows d level left (node.Proc formals code name vars) ih le = (omega arith, refl)
  node_shows d level left (node.Cell name) ih le = (omega arith, refl)
  node_shows d level left (node.Port name) ih le = (omega arith, refl)
  node_shows d level left (node.Rec label fields) ih le = go (head_and_tail (node.Rec label fields))
    where
      go : (o : Option (VarName × VarName)) → Refines c left (show_rec s (show_var d s) level left label fields o) (show_rec c (show_var d c) level left label fields o)
      go (Some (x, y)) = pair_more d level left x y ih le
      go None = refine_go c left _ _ _ _ (fields_more c _ _ d ih level left 1 fields le) (λ t l e k. (omega arith, refl))

  pub var_shows : (d : ℕ) → Finds c (show_var d s) (show_var d c) d
  var_shows zero level left x le = (omega arith, refl)
  var_shows (suc d) level left x le = go (λ a b y k. var_shows d a b y k) (is_cut level left) (node_of s x) refl
    where
      go : Finds c (show_var d s) (show_var d c) d → (b : Bool) (o : Option Node) → node_of s x ≡ o →
          Refines c left (cond b (Text (codes ",,,") left) (show_option s (show_var d s) level (left - 1) x o)) (cond b (Text (codes ",,,") left) (show_option c (show_var d c) level (left - 1) x (node_of c x)))
      go ih true o q = (omega arith, refl)
      go ih false None q = λ p. rw p refl
      go ih false (Some n) q =
          rw (stay x n q) (wider c (left - 1) left _ _ (omega arith) (node_shows d level (left - 1) n ih (omega (arith, le))))

  pub shown_more : (n : ℕ) (x : VarName) → Refines c n (shown_within n s x) (shown_within n c x)
  unfolding shown_within
  shown_more n x = var_shows n 1 n x (omega arith)

-- ---- stores that say more

pub within_on : (s t u : Store) → IsWithin s t → IsWithin t u → IsWithin s u
within_on s t u a b = record { same = λ x y h. b.same x y (a.same x y h); det = λ x n h. b.det x n (a.det x n h) }

pub node_stays : (s t : Store) → IsSound t → IsWithin s t → (x : VarName) (n : Node) → node_of s x ≡ Some n → node_of t x ≡ Some n
node_stays s t sound more x n e =
    det_is_node t (λ y m o p q. sound_has_one t y m o sound p q) x n (more.det x n (node_is_det s x n e))

pub shown_stays : ShownStays
shown_stays s t n x sound more = shown_more s t (node_stays s t sound more) n x
