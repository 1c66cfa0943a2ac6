use Rattle.std.proofs.Common.{length}
use Rattle.oz_lexer.specs.Blanks.{IsBehindBlanks}
use Rattle.oz_lexer.proofs.blank.behind_blanks.Given as goal

abbrev pub invariant-loop-behind : goal.invariant-loop-behind
invariant-loop-behind l = IsBehindBlanks l.text l.rest

abbrev pub decreases-loop-behind : goal.decreases-loop-behind
decreases-loop-behind l = length l.rest
