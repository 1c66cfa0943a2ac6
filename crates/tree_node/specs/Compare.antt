-- Whether two variables are equal or different for all that a store tells, or which open variables would have to be told first
-- (entailment of equality: CTM section 2.8.2). Each pair of parts is looked at by itself: nothing is concluded from two pairs together.
use Rattle.std.specs.Prelude.{◌≡◌, ◌↔◌, ℕ, zero, suc, ◌*◌, ◌≤◌, List, [], ◌∷◌, ◌++◌, length, fold, Bool, true, false, ◌&&◌, Option, Some, None, Contains, if◌then◌else◌}
use Rattle.std.specs.List.{list_any, flat_map}
use Rattle.std.specs.Str.{bytes_eq}
use Rattle.tree_node.specs.declared.names.VarName.{VarName}
use Rattle.tree_node.specs.declared.node.Feature.{Feature}
use Rattle.tree_node.specs.declared.node.Node.{Node}
use Rattle.tree_node.specs.declared.node.Node.TheVariants as node
use Rattle.tree_node.specs.Store.{Store, Equation, Same, Det, IsFree, IsSound, equal_var, root_of, node_of}
use Rattle.tree_node.specs.Classes.{HasOneEach}
use Rattle.tree_node.specs.Goal.{equal_text, equal_features}

-- two variables that are compared
abbrev pub Pair : Type 0
Pair = VarName × VarName

-- ---- one pair

-- what a pair tells by itself
pub data Relation : Type 0 where
  Alike : Relation  -- they are equal
  Apart : Relation  -- they are different
  Parts : (pairs : List Pair) → Relation  -- they are as these are: records of one label and the same features
  Unknown : Relation  -- one has no node yet

-- the variables of two lists of fields, place by place
abbrev pub paired : List (Feature × VarName) → List (Feature × VarName) → List Pair
paired ((f, x) ∷ xs) ((g, y) ∷ ys) = (x, y) ∷ paired xs ys
paired _ _ = []

-- two nodes that are not of equal text
abbrev pub relation_of_others : Node → Node → Relation
relation_of_others (node.Rec a xs) (node.Rec b ys) = if bytes_eq a b && equal_features xs ys then Parts (paired xs ys) else Apart
relation_of_others _ _ = Apart

-- by the nodes of the two
abbrev pub relation_of_nodes : Option Node → Option Node → Relation
relation_of_nodes (Some m) (Some n) = if equal_text m n then Alike else relation_of_others m n
relation_of_nodes _ _ = Unknown

-- the two are of one class
abbrev pub is_one_class : Store → Pair → Bool
is_one_class s p = equal_var (root_of s p.0) (root_of s p.1)

-- two variables of one class, or with nodes of equal text, are equal; other nodes are of records with the same features, or
-- tell that they differ
abbrev pub relation : Store → Pair → Relation
relation s p = if is_one_class s p then Alike else relation_of_nodes (node_of s p.0) (node_of s p.1)

-- ---- all pairs

-- the pairs that are as the pair is
abbrev pub parts_of : Relation → List Pair
parts_of (Parts pairs) = pairs
parts_of _ = []

-- the pair and its parts to this depth, breadth first: itself, then the parts of those that are there, in their order. A
-- pair may stand there often
abbrev pub pairs_within : Store → Pair → ℕ → List Pair
pairs_within s p zero = p ∷ []
pairs_within s p (suc d) = p ∷ flat_map (λ q. parts_of (relation s q)) (pairs_within s p d)

-- a pair that a comparison comes to
abbrev pub IsReached : Store → Pair → Pair → Type 0
IsReached s p q = (d : ℕ) × Contains (pairs_within s p d) q

-- it tells that nothing is open and nothing differs here
abbrev pub IsMatched : Relation → Type 0
IsMatched Alike = Unit {0}
IsMatched (Parts pairs) = Unit {0}
IsMatched _ = ⊥

-- equal: each pair is of one class, or has nodes of equal text, or records of one label and the same features
abbrev pub AreEqual : Store → Pair → Type 0
AreEqual s p = (q : Pair) → IsReached s p q → IsMatched (relation s q)

-- different: the nodes of some pair are neither
abbrev pub AreDifferent : Store → Pair → Type 0
AreDifferent s p = (q : Pair) × IsReached s p q × (relation s q ≡ Apart)

-- ---- what is open

-- the variable that stands for a class, where the class has no node
abbrev pub open_name : VarName → Option Node → List VarName
open_name r None = r ∷ []
open_name r (Some n) = []

abbrev pub open_root : Store → VarName → List VarName
open_root s x = open_name (root_of s x) (node_of s x)

-- those of a pair, the left one first; where both are of one class there is nothing to ask
abbrev pub open_roots : Store → Pair → List VarName
open_roots s p = if is_one_class s p then [] else open_root s p.0 ++ open_root s p.1

-- a pair that is come to has this open variable
abbrev pub HasOpen : Store → Pair → VarName → Type 0
HasOpen s p x = (q : Pair) × IsReached s p q × Contains (open_roots s q) x

-- one more behind the others, unless it is among them
abbrev pub with_new : {X : Type 0} → (X → X → Bool) → List X → X → List X
with_new eq xs x = if list_any (eq x) xs then xs else xs ++ x ∷ []

-- each once, where it stands first
abbrev pub each_once : {X : Type 0} → (X → X → Bool) → List X → List X
each_once eq xs = fold (with_new eq) [] xs

-- the open variables of the pairs to this depth, in the order of the pairs, each once
abbrev pub open_within : Store → Pair → ℕ → List VarName
open_within s p d = each_once equal_var (flat_map (open_roots s) (pairs_within s p d))

-- ---- the answer

-- what a store tells of two variables
pub data Comparison : Type 0 where
  Equal : Comparison
  Different : Comparison
  Open : (vars : List VarName) → Comparison  -- these are open

-- no pair stands for the first time deeper than there are pairs of equations
abbrev pub depth_of : Store → ℕ
depth_of s = length s * length s

abbrev pub is_apart : Relation → Bool
is_apart Apart = true
is_apart _ = false

-- where nothing differs, they are equal if nothing is open
abbrev pub unless_open : List VarName → Comparison
unless_open [] = Equal
unless_open (x ∷ xs) = Open (x ∷ xs)

abbrev pub compared : Store → Pair → Comparison
compared s p =
    if list_any (λ q. is_apart (relation s q)) (pairs_within s p (depth_of s)) then Different
    else unless_open (open_within s p (depth_of s))

-- ---- laws

-- the three answers say what they mean, and each says when it comes
abbrev pub EqualIsTold : Type 0
EqualIsTold = (s : Store) (p : Pair) → compared s p ≡ Equal → AreEqual s p

abbrev pub EqualIsFound : Type 0
EqualIsFound = (s : Store) (p : Pair) → AreEqual s p → compared s p ≡ Equal

abbrev pub DifferentIsTold : Type 0
DifferentIsTold = (s : Store) (p : Pair) → compared s p ≡ Different → AreDifferent s p

abbrev pub DifferentIsFound : Type 0
DifferentIsFound = (s : Store) (p : Pair) → AreDifferent s p → compared s p ≡ Different

-- neither, and the list has the open variables of each pair
abbrev pub OpenIsTold : Type 0
OpenIsTold =
    (s : Store) (p : Pair) (xs : List VarName) → compared s p ≡ Open xs
    → (AreEqual s p → ⊥) × (AreDifferent s p → ⊥) × ((x : VarName) → Contains xs x ↔ HasOpen s p x)

-- to each depth from some on, what is open is the list that is answered
abbrev pub OpenIsAll : Type 0
OpenIsAll = (s : Store) (p : Pair) (d : ℕ) → depth_of s ≤ d → open_within s p d ≡ open_within s p (depth_of s)

-- never both
abbrev pub NeverBoth : Type 0
NeverBoth = (s : Store) (p : Pair) → AreEqual s p → AreDifferent s p → ⊥

-- what s says of classes and of their nodes, t says too
pub record IsWithin (s t : Store) : Type 0 where
  pub same : (x y : VarName) → Same s x y → Same t x y
  pub det : (x : VarName) (n : Node) → Det s x n → Det t x n

-- more equations say more
abbrev pub MoreIsWithin : Type 0
MoreIsWithin = (s t : Store) → ((e : Equation) → Contains s e → Contains t e) → IsWithin s t

-- a store that says more keeps both
abbrev pub EqualStays : Type 0
EqualStays = (s t : Store) (p : Pair) → IsSound t → IsWithin s t → AreEqual s p → AreEqual t p

abbrev pub DifferentStays : Type 0
DifferentStays = (s t : Store) (p : Pair) → IsSound t → IsWithin s t → AreDifferent s p → AreDifferent t p

-- so what is different is never of one class
abbrev pub DifferentIsNeverSame : Type 0
DifferentIsNeverSame = (s t : Store) (p : Pair) → IsSound t → IsWithin s t → AreDifferent s p → Same t p.0 p.1 → ⊥

-- what is open stays open where none of these variables is bound, each variable has one equation at most, and a variable
-- without one has no node: so a site that knows less waits only where the whole store waits
abbrev pub OpenStays : Type 0
OpenStays =
    (s t : Store) (p : Pair) (xs : List VarName) → IsSound t → IsWithin s t → HasOneEach t → compared s p ≡ Open xs
    → ((x : VarName) → Contains xs x → IsFree t x × (node_of t x ≡ None)) → (AreEqual t p → ⊥) × (AreDifferent t p → ⊥)

-- and the list stays
abbrev pub OpenListStays : Type 0
OpenListStays =
    (s t : Store) (p : Pair) (xs : List VarName) → IsSound t → IsWithin s t → HasOneEach t → compared s p ≡ Open xs
    → ((x : VarName) → Contains xs x → IsFree t x × (node_of t x ≡ None)) → compared t p ≡ Open xs

-- two stores that say the same of classes and nodes answer alike, however they name a class
abbrev pub AgreeingAnswer : Type 0
AgreeingAnswer =
    (s t : Store) (p : Pair) → IsSound s → IsSound t → IsWithin s t → IsWithin t s
    → (AreEqual s p ↔ AreEqual t p) × (AreDifferent s p ↔ AreDifferent t p)
