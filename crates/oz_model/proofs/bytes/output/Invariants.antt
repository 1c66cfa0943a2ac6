use Rattle.std.proofs.Common.{◌≡◌, ◌++◌, drop}
use Rattle.oz_model.specs.Output.{pieces_of}
use Rattle.oz_model.proofs.bytes.output.Given as goal

abbrev pub invariant-loop-line : goal.invariant-loop-line
invariant-loop-line l = l.bytes.items ++ pieces_of (drop l.line-index l.lines) ≡ pieces_of l.lines
