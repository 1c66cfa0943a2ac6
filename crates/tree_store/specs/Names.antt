-- How the names that are known are filed: those of one site in a row by number, and the others in a map.
use Rattle.std.specs.Prelude.{◌≡◌, ℕ, zero, suc, ◌+◌, ◌-◌, ◌≤◌, List, [], ◌∷◌, ◌++◌, length, slice_index, Bool, ◌&&◌, ◌==◌, nat_lt, Option, Some, None, if◌then◌else◌}
use Rattle.std.specs.Map.{lookup, set_value}
use Rattle.tree_node.specs.declared.names.VarName.{VarName}
use Rattle.tree_node.specs.Store.{equal_var}
use Rattle.tree_store.specs.declared.names.Entry.{Entry}

-- the names of one site from a number on, each with the ordinal of its equation, and the others
pub record NameTable : Type 0 where
  pub site : ℕ
  pub first : ℕ
  pub own : List ℕ
  pub others : List (VarName × Entry)

-- so many names of a site in a row
abbrev pub successive_names : ℕ → ℕ → ℕ → List VarName
successive_names site first zero = []
successive_names site first (suc n) = successive_names site first n ++ record { site = site; num = first + n } ∷ []

-- the names in a row from one place to the last, and between them the others, each at its place
abbrev pub interleaving : ℕ → ℕ → ℕ → ℕ → List (VarName × Entry) → List VarName
interleaving site first from last [] = successive_names site (first + from) (last - from)
interleaving site first from last ((x, e) ∷ others) =
    successive_names site (first + from) (e.before - from) ++ x ∷ interleaving site first e.before last others

-- the places rise
abbrev pub IsRising : ℕ → ℕ → List (VarName × Entry) → Type 0
IsRising from last [] = from ≤ last
IsRising from last ((x, e) ∷ others) = (from ≤ e.before) × IsRising e.before last others

-- the names, in the order in which they became known
unfoldable pub names_in : NameTable → List VarName
names_in f = interleaving f.site f.first 0 (length f.own) f.others

-- the name stands in the row
abbrev pub is_own : NameTable → VarName → Bool
is_own f x = (x.site == f.site) && (nat_lt f.first (suc x.num) && nat_lt (x.num - f.first) (length f.own))

-- the ordinal of an entry; 0, where there is none
abbrev pub entry_ordinal : Option Entry → ℕ
entry_ordinal None = 0
entry_ordinal (Some e) = e.ordinal

-- the ordinal of a name's equation; 0, where it has none
unfoldable pub ordinal_of : NameTable → VarName → ℕ
ordinal_of f x =
    if is_own f x then slice_index f.own (x.num - f.first) else entry_ordinal (lookup (equal_var x) f.others)

-- the entries after an ordinal is filed at a name that has an entry
abbrev pub IsPut : List (VarName × Entry) → VarName → ℕ → List (VarName × Entry) → Type 0
IsPut old x ordinal new =
    (e : Entry) × (lookup (equal_var x) old ≡ Some e)
    × (new ≡ set_value (equal_var x) old (record { before = e.before; ordinal = ordinal }))
