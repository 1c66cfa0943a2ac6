-- The threads of units, kept as stints: units of one thread that follow one another.
use Rattle.std.specs.Prelude.{ℕ, zero, suc, List, [], ◌∷◌, flat_map}
use Rattle.tree_node.specs.declared.names.ThreadName.{ThreadName}
use Rattle.site_message.specs.declared.units.SmallStint.{SmallStint}
use Rattle.site_message.specs.declared.units.Stint.{Stint}
use Rattle.site_message.specs.declared.units.Stints.{Stints}
use Rattle.site_message.specs.declared.units.Stints.TheVariants.{One, Small, Large}

-- so many units of this thread
abbrev pub in_a_row : ℕ → ThreadName → List ThreadName
in_a_row zero th = []
in_a_row (suc n) th = th ∷ in_a_row n th

-- the thread of a stint
abbrev pub thread_of : Stint → ThreadName
thread_of s = record { site = s.site; num = s.num }

-- the thread of each unit of a stint
abbrev pub units_of : Stint → List ThreadName
units_of s = in_a_row s.count (thread_of s)

-- the thread of each unit of a stint with small numbers
abbrev pub small_units : SmallStint → List ThreadName
small_units s = in_a_row s.count (record { site = s.site; num = s.num })

-- the threads of all units that are kept as stints, in order
abbrev pub threads_in : Stints → List ThreadName
threads_in (One count site num) = in_a_row count (record { site = site; num = num })
threads_in (Small row) = flat_map small_units row.value.items
threads_in (Large row) = flat_map units_of row.value.items
