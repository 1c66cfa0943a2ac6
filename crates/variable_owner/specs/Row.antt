-- How owned variables are filed: those of one site in a row by number, as long as their numbers come without gaps, and
-- those that were made after them behind it.
use Rattle.std.specs.Prelude.{◌≡◌, ◌≤◌, ℕ, suc, ◌-◌, ◌==◌, ◌&&◌, nat_eq, nat_lt, get_or, Bool, true, false, List, [], ◌∷◌, Option, Some, None}
use Rattle.std.specs.Map.{lookup}
use Rattle.tree_node.specs.declared.names.VarName.{VarName}
use Rattle.tree_node.specs.declared.node.Term.{Term}
use Rattle.variable_owner.specs.declared.owners.Owner.{Owner}
use Rattle.variable_owner.specs.declared.owners.Owner.TheVariants.{Open, Bound}
use Rattle.variable_owner.specs.Owners.{Owned}

-- the variables of a site from a number on, each with what is kept of it
abbrev pub in_row : ℕ → ℕ → List Owner → List Owned
in_row site first [] = []
in_row site first (o ∷ os) = (record { site = site; num = first }, o) ∷ in_row site (suc first) os

-- the variable is one of so many of a site, from a number on
abbrev pub is_in_row : ℕ → ℕ → ℕ → VarName → Bool
is_in_row site first n x = (x.site == site) && (nat_lt first (suc x.num) && nat_lt (x.num - first) n)

-- what is kept of the variable at a place of a row
abbrev pub owner_in : List Owner → ℕ → Owner
owner_in os i = get_or os i (Open [])

-- the sites that are registered at a place, of the table of those that are
abbrev pub sites_at : List (ℕ × List ℕ) → ℕ → List ℕ
sites_at es i = listed (lookup (nat_eq i) es)
  where
    listed : Option (List ℕ) → List ℕ
    listed None = []
    listed (Some ks) = ks

-- sites are registered only at places below the end of the row
abbrev pub AreBelow : List (ℕ × List ℕ) → ℕ → Type 0
AreBelow es n = (i : ℕ) → n ≤ i → sites_at es i ≡ []

-- what is kept of a variable, by whether it is bound: its term, or its registered sites
abbrev pub owner_at : List ℕ → Bool → Term → Owner
owner_at ks true t = Bound t
owner_at ks false t = Open ks

-- the same of all variables of a row from a place on, by the columns of the row
abbrev pub owners_in : List (ℕ × List ℕ) → ℕ → List Bool → List Term → List Owner
owners_in es i (b ∷ bs) (t ∷ ts) = owner_at (sites_at es i) b t ∷ owners_in es (suc i) bs ts
owners_in es i _ _ = []
