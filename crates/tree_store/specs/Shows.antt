-- How far a walk has come that waits, and what a store keeps of it.
use Rattle.std.specs.Prelude.{◌≡◌, ℕ, ◌≤◌, List, ◌++◌, Some}
use Rattle.std.specs.Map.{lookup}
use Rattle.tree_node.specs.declared.names.VarName.{VarName}
use Rattle.tree_node.specs.Store.{Store, IsSound, equal_var}
use Rattle.tree_node.specs.Compare.{IsWithin}
use Rattle.tree_node.specs.Shown.{Show, Text, Needs, show_var, shown_within}
use Rattle.tree_store.specs.Walk.{text_after}
use Rattle.tree_store.specs.declared.walk.Bounds.{Bounds}
use Rattle.tree_store.specs.declared.walk.Found.{Found}
use Rattle.tree_store.specs.declared.walk.Found.TheVariants as found
use Rattle.tree_store.specs.declared.shows.ShownFront.{ShownFront}
use Rattle.tree_store.specs.declared.shows.WalkEnd.{WalkEnd}
use Rattle.tree_store.specs.declared.shows.WalkEnd.TheVariants as walk

-- the text, and behind it what the variable y shows as within the bounds, is what x shows as, of at most n nodes, in this store and in
-- each that says more
pub record IsFrontAt (n : ℕ) (x : VarName) (s : Store) (text : List ℕ) (b : Bounds) (y : VarName) : Type 0 where
  pub later : (t : Store) → IsSound t → IsWithin s t → text_after text (show_var b.depth t b.level b.left y) ≡ shown_within n t x
  pub within : b.left ≤ b.depth
  pub level : b.level ≡ 1

-- the same of a front
abbrev pub IsShownFront : ℕ → VarName → Store → ShownFront → Type 0
IsShownFront n x s f = IsFrontAt n x s f.text.items f.bounds f.next

-- where a walk waits it is one of the variable
abbrev pub WaitsAt : ℕ → VarName → Store → List ℕ → Bounds → VarName → Found → Type 0
WaitsAt n x s text b y (found.Left left) = Unit {0}
WaitsAt n x s text b y (found.Needs z) = IsFrontAt n x s text b y

-- what a walk of a part found, whose text is written behind another one; where it waits nothing is written
abbrev pub IsAdded : List ℕ → List ℕ → Show → Found → Type 0
IsAdded old new w (found.Left left) = (part : List ℕ) × (w ≡ Text part left) × (new ≡ old ++ part)
IsAdded old new w (found.Needs y) = (w ≡ Needs y) × (new ≡ old)

-- each front is one of the variable under which it is kept, of at most 1,000 nodes
abbrev pub AreShownFronts : Store → List (VarName × ShownFront) → Type 0
AreShownFronts s fronts = (x : VarName) (f : ShownFront) → lookup (equal_var x) fronts ≡ Some f → IsShownFront 1000 x s f

-- the walk's text is what the variable shows as, of at most 1,000 nodes; or the walk needs this variable, and goes on from this front
abbrev pub IsWalkEnd : Store → VarName → WalkEnd → Type 0
IsWalkEnd s x (walk.Text text) = (left : ℕ) × (shown_within 1000 s x ≡ Text text.items left)
IsWalkEnd s x (walk.Waits front z) = (shown_within 1000 s x ≡ Needs z) × IsShownFront 1000 x s front
