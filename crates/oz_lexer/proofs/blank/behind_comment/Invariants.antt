use Rattle.std.proofs.Common.{◌≡◌, ◌≤◌, drop}
use Rattle.oz_lexer.specs.Scan.{behind_comment}
use Rattle.oz_lexer.proofs.blank.behind_comment.Given as goal

abbrev pub invariant-loop-at : goal.invariant-loop-at
invariant-loop-at l = record {
  value : behind_comment l.depth l.last (drop l.at l.inside) ≡ behind_comment 0 0 l.inside;
  depth : l.depth ≤ l.at;
}
