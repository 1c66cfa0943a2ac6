-- How the slots of names are filed: names of one site in a row by number, as long as neither their numbers nor their slots have
-- gaps, and the others behind them.
use Rattle.std.specs.Prelude.{ℕ, suc, ◌-◌, ◌==◌, ◌&&◌, nat_lt, Bool, true, false, List, [], ◌∷◌}
use Rattle.tree_node.specs.declared.names.ThreadName.{ThreadName}

-- the names of a site from a number on, each with its slot, which count up from one; but not those that have none any more
abbrev pub in_row : ℕ → ℕ → ℕ → List Bool → List (ThreadName × ℕ)
in_row site first slot [] = []
in_row site first slot (true ∷ bs) = (record { site = site; num = first }, slot) ∷ in_row site (suc first) (suc slot) bs
in_row site first slot (false ∷ bs) = in_row site (suc first) (suc slot) bs

-- the name is one of so many of a site, from a number on
abbrev pub is_in_row : ℕ → ℕ → ℕ → ThreadName → Bool
is_in_row site first n x = (x.site == site) && (nat_lt first (suc x.num) && nat_lt (x.num - first) n)
