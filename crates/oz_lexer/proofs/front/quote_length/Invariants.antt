use Rattle.std.proofs.Common.{◌≡◌, ◌+◌, drop, false}
use Rattle.oz_lexer.specs.Scan.{quote_from}
use Rattle.oz_lexer.proofs.front.quote_length.Given as goal

abbrev pub invariant-loop-at : goal.invariant-loop-at
invariant-loop-at l = quote_from l.escaping (drop l.at l.inside) (l.at + 1) ≡ quote_from false l.inside 1
