-- What a walk has written so far, and what it is about to write.
use Rattle.std.specs.Prelude.{ℕ, ◌+◌, List, [], ◌∷◌, ◌++◌, Bool, ◌&&◌, true, false, if◌then◌else◌}
use Rattle.tree_node.specs.declared.names.VarName.{VarName}
use Rattle.tree_node.specs.declared.node.Feature.{Feature}
use Rattle.tree_node.specs.Spelling.{feature_text}
use Rattle.tree_node.specs.Store.{Store, node_of}
use Rattle.tree_node.specs.Shown.{Show, Text, Needs, and_then, is_feature, is_pair, is_cut}
use Rattle.tree_store.specs.declared.walk.Found.{Found}
use Rattle.tree_store.specs.declared.walk.Found.TheVariants as found

-- the text behind what is written
abbrev pub text_after : List ℕ → Show → Show
text_after written (Text text left) = Text (written ++ text) left
text_after written (Needs x) = Needs x

-- a walk's answer, with all that is written
abbrev pub text_end : Found → List ℕ → Show
text_end (found.Left left) written = Text written left
text_end (found.Needs x) written = Needs x

-- the text between a front and a back
abbrev pub between : List ℕ → List ℕ → Show → Show
between front back w = and_then w (λ text left. Text (front ++ (text ++ back)) left)

-- the head of a list stands in brackets where it is a list that is shown
abbrev pub has_brackets : Store → ℕ → ℕ → VarName → Bool
has_brackets s level left x = is_pair (node_of s x) && (if is_cut (level + 1) left then false else true)

-- what stands before a list's head
abbrev pub head_front : Bool → List ℕ
head_front brackets = if brackets then 40 ∷ [] else []

-- what stands behind it, the bar before the tail included
abbrev pub head_back : Bool → List ℕ
head_back brackets = if brackets then 41 ∷ 124 ∷ [] else 124 ∷ []

-- a field's name, unless it is the next feature that goes without
abbrev pub field_name : ℕ → Feature → List ℕ
field_name next f = if is_feature next f then [] else feature_text f ++ 58 ∷ []

-- a space before the fields that follow
abbrev pub gap : {X : Type 0} → List X → List ℕ
gap [] = []
gap (x ∷ xs) = 32 ∷ []
