use Rattle.std.proofs.Common.{◌≡◌, drop}
use Rattle.tree_node.specs.declared.names.VarName.{VarName}
use Rattle.run_trace.specs.First.{first_place, or_later, place_of}
use Rattle.run_trace.proofs.FirstLemmas.{from}
use Rattle.run_trace.proofs.first.FirstRaises.of.Given as goal

abbrev pub invariant-loop-place : goal.invariant-loop-place
invariant-loop-place l = (x : VarName) → or_later (place_of l.places.entries x) (from l.place (drop l.place l.raises) x) ≡ first_place l.raises x
