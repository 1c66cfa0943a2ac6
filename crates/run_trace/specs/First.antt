-- Which of the exceptions of a run is the first of its variable.
use Rattle.std.specs.Prelude.{ℕ, List, Option, Some, None}
use Rattle.std.specs.List.{position_from}
use Rattle.std.specs.Map.{lookup}
use Rattle.tree_node.specs.declared.names.VarName.{VarName}
use Rattle.tree_node.specs.Store.{equal_var}
use Rattle.run_trace.specs.declared.findings.Raise.{Raise}

-- the place of the first exception of this variable
abbrev pub first_place : List Raise → VarName → Option ℕ
first_place rs x = position_from (λ (r : Raise). equal_var r.raised x) 0 rs

-- the place that is kept of a variable
abbrev pub place_of : List (VarName × ℕ) → VarName → Option ℕ
place_of es x = lookup (equal_var x) es

-- the place that is found, or else this one
abbrev pub or_later : Option ℕ → Option ℕ → Option ℕ
or_later (Some k) later = Some k
or_later None later = later
