use Rattle.std.proofs.Common.{◌≡◌, ◌+◌, drop}
use Rattle.oz_phrases.specs.Fields.{insertion_point}
use Rattle.oz_phrases.proofs.fields.insertion_point.Given as goal

abbrev pub invariant-loop-at : goal.invariant-loop-at
invariant-loop-at l = l.at + insertion_point l.feature (drop l.at l.fields) ≡ insertion_point l.feature l.fields
