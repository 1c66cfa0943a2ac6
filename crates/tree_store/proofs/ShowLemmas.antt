-- A walk that goes on from where it waited.
use Rattle.std.proofs.Common.{arith, ◌≡◌, ◌∙◌, sym, ap, refl, subst, ℕ, ◌+◌, ◌<◌, ◌≤◌, List, [], ◌∷◌, ◌++◌, ◌⊎◌, Bool, true, false, cond, Some, None, reverse}
use Rattle.std.specs.Prelude.{codes}
use Rattle.std.specs.Map.{lookup}
use Rattle.std.proofs.lemmas.List.{reverse-append}
use Rattle.tree_node.specs.declared.names.VarName.{VarName}
use Rattle.tree_node.specs.declared.node.Node.{Node}
use Rattle.tree_node.specs.Store.{Equation, Store, IsSound, equal_var, node_of}
use Rattle.tree_node.specs.Compare.{IsWithin}
use Rattle.tree_node.specs.Shown.{Show, Text, Needs, head_and_tail, is_cut, show_var, show_node, shown_within}
use Rattle.tree_node.proofs.ClassLemmas.{Contains-tail, same_name_decides}
use Rattle.tree_node.proofs.CompareLaws.{more_is_within}
use Rattle.tree_node.proofs.LookedLemmas.{within_itself}
use Rattle.tree_node.specs.ShownStays.{Refines}
use Rattle.tree_node.proofs.ShownLemmas.{within_on, node_stays, brackets_same, var_shows}
use Rattle.tree_store.specs.Walk.{text_after, text_end, between, has_brackets, head_front, head_back}
use Rattle.tree_store.specs.Shows.{IsFrontAt, IsShownFront, WaitsAt, IsAdded, AreShownFronts}
use Rattle.tree_store.specs.declared.walk.Bounds.{Bounds}
use Rattle.tree_store.specs.declared.walk.Found.{Found}
use Rattle.tree_store.specs.declared.walk.Found.TheVariants as found
use Rattle.tree_store.specs.declared.shows.ShownFront.{ShownFront}
use Rattle.tree_store.proofs.WalkLemmas.{cut_shown, needs_shown, node_shown, list_on, list_needs, whole_shown}

-- ---- what is closed

-- no more nodes are left than before
left_less : (d level left : ℕ) (s : Store) (x : VarName) (part : List ℕ) (m : ℕ) → left ≤ d → show_var d s level left x ≡ Text part m → m ≤ left
left_less d level left s x part m le e = (subst (λ (w : Show). Refines s left w (show_var d s level left x)) e (var_shows s s (λ y n h. h) d level left x le)).0

-- a text stays in a store that says more
text_stays : (d level left : ℕ) (s t : Store) (x : VarName) (part : List ℕ) (m : ℕ) → IsSound t → IsWithin s t → left ≤ d → show_var d s level left x ≡ Text part m → show_var d t level left x ≡ Text part m
text_stays d level left s t x part m sound more le e =
    (subst (λ (w : Show). Refines t left w (show_var d t level left x)) e (var_shows s t (node_stays s t sound more) d level left x le)).1

-- the text between a front and a back
between_parts : (front back : List ℕ) (w : Show) (part : List ℕ) (m : ℕ) → between front back w ≡ Text part m → (text : List ℕ) × (w ≡ Text text m) × (part ≡ front ++ (text ++ back))
between_parts front back (Text text left) part m e =
    let nodes : left ≡ m = cc in
    let written : part ≡ front ++ (text ++ back) = cc in
    (text, ap (λ (k : ℕ). Text text k) nodes, written)
between_parts front back (Needs x) part m e = absurd (cc)

-- what stands for the head of a list
abbrev pub head_shown : Store → ℕ → ℕ → ℕ → VarName → Show
head_shown s d level left h = between (head_front (has_brackets s level left h)) (head_back (has_brackets s level left h)) (show_var d s (level + 1) left h)

head_stays : (d level left : ℕ) (s t : Store) (h : VarName) (part : List ℕ) (m : ℕ) → IsSound t → IsWithin s t → left ≤ d → head_shown s d level left h ≡ Text part m → head_shown t d level left h ≡ Text part m
head_stays d level left s t h part m sound more le e =
    let parts = between_parts (head_front (has_brackets s level left h)) (head_back (has_brackets s level left h)) (show_var d s (level + 1) left h) part m e in
    let same : has_brackets t level left h ≡ has_brackets s level left h = sym (brackets_same s t (node_stays s t sound more) d (level + 1) left h parts.0 m le parts.1) in
    ap (λ (b : Bool). between (head_front b) (head_back b) (show_var d t (level + 1) left h)) same
    ∙ (ap (between (head_front (has_brackets s level left h)) (head_back (has_brackets s level left h))) (text_stays d (level + 1) left s t h parts.0 m sound more le parts.1)
    ∙ ap (λ (l : List ℕ). Text l m) (sym parts.2))

head_less : (d level left : ℕ) (s : Store) (h : VarName) (part : List ℕ) (m : ℕ) → left ≤ d → head_shown s d level left h ≡ Text part m → m ≤ left
head_less d level left s h part m le e =
    let parts = between_parts (head_front (has_brackets s level left h)) (head_back (has_brackets s level left h)) (show_var d s (level + 1) left h) part m e in
    left_less d (level + 1) left s h parts.0 m le parts.1

-- ---- fronts

pub front_begins : (n : ℕ) (x : VarName) (s : Store) (text : List ℕ) → text ≡ [] → IsFrontAt n x s text (record { depth = n; level = 1; left = n }) x
unfolding shown_within
front_begins n x s text none = record {
  later = λ t sound more. ap (λ (l : List ℕ). text_after l (show_var n t 1 n x)) none ∙ whole_shown (show_var n t 1 n x);
  within = omega arith;
  level = refl;
}

-- a front is one in a store that says more
front_stays : (n : ℕ) (x : VarName) (s t : Store) (text : List ℕ) (b : Bounds) (y : VarName) → IsWithin s t → IsFrontAt n x s text b y → IsFrontAt n x t text b y
front_stays n x s t text b y more h = record { later = λ u sound on. h.later u sound (within_on s t u more on); within = h.within; level = h.level }

-- what the walk has come to: a node on the first level, with bounds for its parts
pub record IsAtNode (s : Store) (b : Bounds) (d left : ℕ) (y : VarName) (n : Node) : Type 0 where
  pub deep : b.depth ≡ d + 1
  pub some : b.left ≡ left + 1
  pub on : is_cut b.level b.left ≡ false
  pub is : node_of s y ≡ Some n

module _ (n : ℕ) (x : VarName) (s : Store) (text : List ℕ) (b : Bounds) (y : VarName) (sound : IsSound s) (h : IsFrontAt n x s text b y) where
  here : text_after text (show_var b.depth s b.level b.left y) ≡ shown_within n s x
  here = h.later s sound (within_itself s)

  -- the walk is cut
  pub front_cut : (b.depth ≡ 0) ⊎ (is_cut b.level b.left ≡ true) → Text (text ++ codes ",,,") b.left ≡ shown_within n s x
  front_cut stops = ap (text_after text) (sym (cut_shown b.depth b.level b.left s y stops)) ∙ here

  -- it needs the variable that comes next
  pub front_needs : 0 < b.depth → is_cut b.level b.left ≡ false → node_of s y ≡ None → Needs y ≡ shown_within n s x
  front_needs deep on none = ap (text_after text) (sym (needs_shown b.depth b.level b.left s y deep on none)) ∙ here

  -- it ends with a node that is no list's
  pub front_ends : (d left : ℕ) (m : Node) (after : List ℕ) (f : Found) → IsAtNode s b d left y m → IsAdded text after (show_node s (show_var d s) b.level left m) f → text_end f after ≡ shown_within n s x
  front_ends d left m after (found.Left rest) at added =
      ap (λ (l : List ℕ). Text l rest) added.2 ∙ (ap (text_after text) (sym added.1 ∙ sym (node_shown b.depth d b.level b.left left s y m at.deep at.some at.on at.is)) ∙ here)
  front_ends d left m after (found.Needs z) at added = ap (text_after text) (sym added.0 ∙ sym (node_shown b.depth d b.level b.left left s y m at.deep at.some at.on at.is)) ∙ here

  pub front_waits : (w : Show) (after : List ℕ) (f : Found) → IsAdded text after w f → WaitsAt n x s after b y f
  front_waits w after (found.Left rest) added = tt
  front_waits w after (found.Needs z) added = subst (λ (l : List ℕ). IsFrontAt n x s l b y) (sym added.1) h

  -- the head of a list needs a variable
  pub head_waits : (d left : ℕ) (m : Node) (head tail z : VarName) → IsAtNode s b d left y m → head_and_tail m ≡ Some (head, tail) → head_shown s d b.level left head ≡ Needs z → Needs z ≡ shown_within n s x
  head_waits d left m head tail z at ends needs =
      list_needs b.depth d b.level b.left left s y head tail z m text at.deep at.some at.on at.is ends (ap (text_after text) (sym needs)) ∙ here

  -- the head of a list is written, and the front goes on to its tail
  pub front_on : (d left rest : ℕ) (m : Node) (head tail : VarName) (part after : List ℕ) → IsAtNode s b d left y m → head_and_tail m ≡ Some (head, tail) → head_shown s d b.level left head ≡ Text part rest → after ≡ text ++ part →
      IsFrontAt n x s after (record { depth = d; level = b.level; left = rest }) tail
  front_on d left rest m head tail part after at ends shown written = record {
    later = λ u fine more.
        list_on b.depth d b.level b.left left rest u y head tail m text after at.deep at.some at.on (node_stays s u fine more y m at.is) ends
        (ap (λ (l : List ℕ). Text l rest) written ∙ ap (text_after text) (sym (head_stays d b.level left s u head part rest fine more fits shown)))
        ∙ h.later u fine more;
    within = let less = head_less d b.level left s head part rest fits shown in omega (arith, less, fits);
    level = h.level;
  }
    where
      fits : left ≤ d
      fits = let most = h.within in let deep = at.deep in let some = at.some in omega (arith, most, deep, some)

-- a walk that wrote a text does not wait
pub cut_waits : (n : ℕ) (x : VarName) (s : Store) (text : List ℕ) (b : Bounds) (y : VarName) (f : Found) (written part : List ℕ) (left : ℕ) → text_end f written ≡ Text part left → WaitsAt n x s text b y f
cut_waits n x s text b y (found.Left rest) written part left e = tt
cut_waits n x s text b y (found.Needs z) written part left e = absurd (cc)

-- ---- what is added behind a text

pub added_needs : (old new before : List ℕ) (w : Show) (z : VarName) → before ≡ [] → Needs z ≡ text_after before w → new ≡ old → IsAdded old new w (found.Needs z)
added_needs old new before w z none e same = (sym (e ∙ (ap (λ (l : List ℕ). text_after l w) none ∙ whole_shown w)), same)

pub added_left : (old new before part : List ℕ) (w : Show) (left : ℕ) → before ≡ [] → Text part left ≡ text_after before w → new ≡ old ++ part → IsAdded old new w (found.Left left)
added_left old new before part w left none e written = (part, sym (e ∙ (ap (λ (l : List ℕ). text_after l w) none ∙ whole_shown w)), written)

-- ---- fronts that are kept

pub shows_none : (s : Store) → AreShownFronts s []
shows_none s x f e = cc

pub shows_less : (s : Store) (fronts rest : List (VarName × ShownFront)) (y : VarName) → AreShownFronts s fronts → ((x : VarName) → lookup (equal_var x) rest ≡ cond (equal_var y x) None (lookup (equal_var x) fronts)) → AreShownFronts s rest
shows_less s fronts rest y h is x f e = go (equal_var y x) (sym (is x) ∙ e)
  where
    go : (b : Bool) → cond b None (lookup (equal_var x) fronts) ≡ Some f → IsShownFront 1000 x s f
    go true k = cc
    go false k = h x f k

-- once a front is kept for one more variable
pub shows_more : (s : Store) (fronts after : List (VarName × ShownFront)) (y : VarName) (g : ShownFront) → AreShownFronts s fronts → IsShownFront 1000 y s g → ((x : VarName) → lookup (equal_var x) after ≡ cond (equal_var y x) (Some g) (lookup (equal_var x) fronts)) → AreShownFronts s after
shows_more s fronts after y g h kept is x f e = go (equal_var y x) refl (sym (is x) ∙ e)
  where
    go : (b : Bool) → equal_var y x ≡ b → cond b (Some g) (lookup (equal_var x) fronts) ≡ Some f → IsShownFront 1000 x s f
    go true here k =
        let same : y ≡ x = (same_name_decides y x).0 here in
        let front : g ≡ f = cc in
        subst (λ (z : VarName). IsShownFront 1000 z s f) same (subst (λ (k : ShownFront). IsShownFront 1000 y s k) front kept)
    go false here k = h x f k

-- one more equation says more
pub shows_grow : (es fs : List Equation) (fronts : List (VarName × ShownFront)) (e : Equation) → fs ≡ es ++ e ∷ [] → AreShownFronts (reverse es) fronts → AreShownFronts (reverse fs) fronts
shows_grow es fs fronts e is h =
    let turned : reverse fs ≡ e ∷ reverse es = ap reverse is ∙ reverse-append es (e ∷ []) in
    subst (λ (s : Store). AreShownFronts s fronts) (sym turned)
    (λ x f at. front_stays 1000 x (reverse es) (e ∷ reverse es) f.text.items f.bounds f.next (more_is_within (reverse es) (e ∷ reverse es) (λ k c. Contains-tail e k (reverse es) c)) (h x f at))
