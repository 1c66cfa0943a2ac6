-- The last units of a turn so far.
use Rattle.std.specs.Prelude.{ℕ, zero, suc, List, Option, Some, None}
use Rattle.tree_node.specs.declared.names.ThreadName.{ThreadName}
use Rattle.site_message.specs.Units.{in_a_row}
use Rattle.site_units.specs.declared.turn.LastUnits.{LastUnits}

-- the thread of so many units, if there are any
abbrev pub thread_of_some : ℕ → ThreadName → Option ThreadName
thread_of_some zero th = None
thread_of_some (suc n) th = Some th

-- that of the last ones
abbrev pub thread_in : LastUnits → Option ThreadName
thread_in last = thread_of_some last.count last.thread

-- the thread of each of them
abbrev pub threads_of : LastUnits → List ThreadName
threads_of last = in_a_row last.count last.thread
