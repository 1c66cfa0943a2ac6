-- Classes of variables as trees: each variable that was linked has an entry with a parent, and a variable that is its own
-- parent stands for its class. There the size of the class is kept, and the variable at which the links of the class end. By the next
-- variable that each entry names, the variables of a class stand in a ring.
use Rattle.std.specs.Prelude.{◌≡◌, ◌≢◌, ◌↔◌, ℕ, zero, suc, ◌+◌, ◌*◌, ◌<◌, ◌≤◌, List, [], ◌∷◌, ◌⊎◌, Contains, length, unwrap_or, if◌then◌else◌}
use Rattle.std.specs.Map.{lookup}
use Rattle.tree_node.specs.declared.names.VarName.{VarName}
use Rattle.tree_node.specs.declared.node.Term.{Term}
use Rattle.tree_node.specs.declared.node.Term.TheVariants as term
use Rattle.tree_node.specs.Each.{Each}
use Rattle.tree_node.specs.Store.{Store, equal_var, joined_root, root_of}
use Rattle.tree_store.specs.Forest.{IsGrown}
use Rattle.tree_store.specs.declared.links.ClassEntry.{ClassEntry}

-- the variables that were linked, each with its entry
abbrev pub ClassEntries : Type 0
ClassEntries = List (VarName × ClassEntry)

-- a variable without an entry is alone in its class
abbrev pub singleton : VarName → ClassEntry
singleton x = record { parent = x; size = 1; end = x; next = x }

-- the entry of a variable; one that has none is alone in its class
abbrev pub entry_in : ClassEntries → VarName → ClassEntry
entry_in forest x = unwrap_or (lookup (equal_var x) forest) (singleton x)

-- the variable stands for its class
abbrev pub IsRepresentative : (VarName → ClassEntry) → VarName → Type 0
IsRepresentative entry x = (entry x).parent ≡ x

-- the size of the class of x, where x stands for it, and else 0
abbrev pub weight : VarName → ClassEntry → ℕ
weight x p = if equal_var p.parent x then p.size else 0

-- the sizes of the classes, added up
abbrev pub total : ClassEntries → ℕ
total [] = 0
total ((x, p) ∷ forest) = weight x p + total forest

-- on each step to the top the size is twice as large or more, so from a variable of a class of n there are at most log2 n
-- steps; and no size is above the number of entries
pub record IsTree (forest : ClassEntries) : Type 0 where
  pub rises : (x : VarName) → IsRepresentative (entry_in forest) x ⊎ (2 * (entry_in forest x).size ≤ (entry_in forest (entry_in forest x).parent).size)
  pub positive : (x : VarName) → 0 < (entry_in forest x).size
  pub counts : total forest ≡ length forest

-- from x one comes by the next variables through these to z
abbrev pub IsPath : (VarName → ClassEntry) → VarName → List VarName → VarName → Type 0
IsPath entry x [] z = (entry x).next ≡ z
IsPath entry x (y ∷ ys) z = ((entry x).next ≡ y) × IsPath entry y ys z

-- the ring of x, which stands for its class: from x through all others of the class, as many as its size tells, back to x
pub record IsRing (root : VarName → VarName) (entry : VarName → ClassEntry) (x : VarName) (ys : List VarName) : Type 0 where
  pub path : IsPath entry x ys x
  pub first : Each (λ (y : VarName). x ≢ y) ys
  pub all : (y : VarName) → Contains (x ∷ ys) y ↔ (root y ≡ root x)
  pub long : suc (length ys) ≡ (entry x).size

-- the trees are the classes of root, which names each class by the variable at which its links end
pub record AreClasses (root : VarName → VarName) (entry : VarName → ClassEntry) : Type 0 where
  pub parent : (x : VarName) → root (entry x).parent ≡ root x
  pub end : (x : VarName) → IsRepresentative entry x → root x ≡ (entry x).end
  pub one : (x y : VarName) → IsRepresentative entry x → IsRepresentative entry y → root x ≡ root y → x ≡ y
  pub ring : (x : VarName) → IsRepresentative entry x → (ys : List VarName) × IsRing root entry x ys

-- so many variables from x on, by the next ones
abbrev pub visited : (VarName → ClassEntry) → VarName → ℕ → List VarName
visited entry x zero = []
visited entry x (suc n) = x ∷ visited entry (entry x).next n

-- the entries once a tree is put below the top of another, whose class ends at e from now on; the two rings are one
abbrev pub entry_after_union : (VarName → ClassEntry) → VarName → VarName → VarName → VarName → ClassEntry
entry_after_union entry child top e x =
    if equal_var top x then record { parent = top; size = (entry child).size + (entry top).size; end = e; next = (entry child).next }
    else (if equal_var child x then record { parent = top; size = (entry child).size; end = (entry child).end; next = (entry top).next } else entry x)

-- the roots after an equation u = t
abbrev pub root_with : (VarName → VarName) → VarName → Term → VarName → VarName
root_with root u (term.Var v) x = joined_root root u v x
root_with root u (term.Node n) x = root x

-- the equation u = t joins no class to itself
abbrev pub IsApart : (VarName → VarName) → VarName → Term → Type 0
IsApart root u (term.Var v) = root u ≡ root v → ⊥
IsApart root u (term.Node n) = Unit {0}

-- the trees are the classes of a store
pub record IsLinked (s : Store) (forest : ClassEntries) : Type 0 where
  pub grown : IsGrown s
  pub classes : AreClasses (root_of s) (entry_in forest)
