use Rattle.std.proofs.Common.{◌≡◌, ◌≤◌, ◌+◌, drop}
use Rattle.oz_lexer.specs.Place.{place_from, place_of}
use Rattle.oz_lexer.proofs.place.line_and_column.Given as goal

abbrev pub invariant-loop-byte : goal.invariant-loop-byte
invariant-loop-byte l = record {
  value : place_from l.line l.column (drop l.byte-index l.before) ≡ place_of l.before;
  line : l.line ≤ l.byte-index + 1;
  column : l.column ≤ l.byte-index + 1;
}
