-- The line that a variable shows as: at most 20 levels and 1,000 nodes.
use Rattle.std.specs.Prelude.{◌≡◌, ℕ, zero, suc, ◌+◌, ◌-◌, nat_lt, List, [], ◌∷◌, ◌++◌, Bool, true, false, ◌&&◌, ◌||◌, ◌==◌, pos, Option, Some, None, if◌then◌else◌, codes}
use Rattle.std.specs.Str.{bytes_eq}
use Rattle.std.specs.Ordering.{int_eq}
use Rattle.std.specs.Option.{is_some}
use Rattle.tree_node.specs.declared.names.VarName.{VarName}
use Rattle.tree_node.specs.declared.node.Feature.{Feature}
use Rattle.tree_node.specs.declared.node.Feature.TheVariants as feature
use Rattle.tree_node.specs.declared.node.Node.{Node}
use Rattle.tree_node.specs.declared.node.Node.TheVariants as node
use Rattle.tree_node.specs.Store.{Store, node_of}
use Rattle.tree_node.specs.Spelling.{atom_text, feature_text, head_text}

-- what a walk finds: the text with the nodes that are left, or the variable that it needs first
pub data Show : Type 0 where
  Text : (text : List ℕ) (left : ℕ) → Show
  Needs : (x : VarName) → Show

-- what comes next, from the text and the nodes that are left; where a variable is needed nothing comes next
abbrev pub and_then : Show → (List ℕ → ℕ → Show) → Show
and_then (Text text left) next = next text left
and_then (Needs x) next = Needs x

-- a walk from a variable at a level with so many nodes left
abbrev pub Walk : Type 0
Walk = ℕ → ℕ → VarName → Show

-- the feature is this number
abbrev pub is_feature : ℕ → Feature → Bool
is_feature k (feature.Int z) = int_eq z (pos k)
is_feature k (feature.Atom t) = false

-- the fields of a list's node: the features 1 and 2 alone, under the label |
abbrev pub head_and_tail : Node → Option (VarName × VarName)
head_and_tail (node.Rec label ((f, x) ∷ (g, y) ∷ [])) =
    if bytes_eq label (124 ∷ []) && (is_feature 1 f && is_feature 2 g) then Some (x, y) else None
head_and_tail _ = None

-- there is a node, and it is a list's
abbrev pub is_pair : Option Node → Bool
is_pair (Some n) = is_some (head_and_tail n)
is_pair None = false

-- the text, in brackets where that is wanted
abbrev pub in_brackets : Bool → List ℕ → List ℕ
in_brackets b text = if b then 40 ∷ (text ++ 41 ∷ []) else text

-- here the text is cut: beyond level 20, or where no nodes are left
abbrev pub is_cut : ℕ → ℕ → Bool
is_cut level left = nat_lt 20 level || (left == 0)

-- a list: its head, a level deeper, in brackets where it is a list that is shown; then | and its tail, on the same level
abbrev pub show_pair : Store → Walk → ℕ → ℕ → VarName → VarName → Show
show_pair s walk level left x y =
    and_then (walk (level + 1) left x) (λ head rest. and_then (walk level rest y) (λ tail end.
    Text (in_brackets (is_pair (node_of s x) && (if is_cut (level + 1) left then false else true)) head ++ 124 ∷ tail) end))

-- fields, where next is the feature that goes without its name
abbrev pub field_text : ℕ → Feature → List ℕ → List ℕ
field_text next f value = if is_feature next f then value else feature_text f ++ 58 ∷ value

-- a field's text and that of the others, with a space between where there are others
abbrev pub after_field : List ℕ → List (Feature × VarName) → List ℕ → List ℕ
after_field one [] others = one
after_field one (f ∷ fs) others = one ++ 32 ∷ others

-- the fields, each a level deeper; next is the feature that goes without its name
abbrev pub show_fields : Walk → ℕ → ℕ → ℕ → List (Feature × VarName) → Show
show_fields walk level left next [] = Text [] left
show_fields walk level left next ((f, x) ∷ fields) =
    and_then (walk (level + 1) left x) (λ value rest.
    and_then (show_fields walk level rest (if is_feature next f then next + 1 else next) fields) (λ others end.
    Text (after_field (field_text next f value) fields others) end))

-- a record: its label, and its fields in brackets
abbrev pub show_record : Walk → ℕ → ℕ → List ℕ → List (Feature × VarName) → Show
show_record walk level left label fields =
    and_then (show_fields walk level left 1 fields) (λ text rest. Text (atom_text label ++ 40 ∷ (text ++ 41 ∷ [])) rest)

-- a record as a list, where it is one, and else as a record
abbrev pub show_rec : Store → Walk → ℕ → ℕ → List ℕ → List (Feature × VarName) → Option (VarName × VarName) → Show
show_rec s walk level left label fields (Some (x, y)) = show_pair s walk level left x y
show_rec s walk level left label fields None = show_record walk level left label fields

-- a node: a record with its fields, any other by its head alone
abbrev pub show_node : Store → Walk → ℕ → ℕ → Node → Show
show_node s walk level left (node.Rec label fields) =
    show_rec s walk level left label fields (head_and_tail (node.Rec label fields))
show_node s walk level left n = Text (head_text n) left

-- the node of a variable; where it has none, the variable is needed
abbrev pub show_option : Store → Walk → ℕ → ℕ → VarName → Option Node → Show
show_option s walk level left x (Some n) = show_node s walk level left n
show_option s walk level left x None = Needs x

-- a node goes deeper by one and uses one of those left, so depth never ends first where left ≤ depth
abbrev pub show_var : ℕ → Store → Walk
show_var zero s level left x = Text (codes ",,,") left
show_var (suc depth) s level left x =
    if is_cut level left then Text (codes ",,,") left
    else show_option s (show_var depth s) level (left - 1) x (node_of s x)

-- at most n nodes. No abbrev: a numeral for n would unfold as many times in each goal
unfoldable pub shown_within : ℕ → Store → VarName → Show
shown_within n s x = show_var n s 1 n x

-- what a variable shows as, of at most 1,000 nodes
abbrev pub shown : Store → VarName → Show
shown s x = shown_within 1000 s x

-- the variable's whole line
abbrev pub Shown : Store → VarName → List ℕ → Type 0
Shown s x line = (left : ℕ) × (shown s x ≡ Text line left)

-- the walk needs this variable first, which it met and whose class has no node
abbrev pub IsNeeded : Show → VarName → Type 0
IsNeeded (Needs x) y = x ≡ y
IsNeeded (Text text left) y = ⊥
