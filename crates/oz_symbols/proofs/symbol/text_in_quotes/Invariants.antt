use Rattle.std.proofs.Common.{◌≡◌, ◌++◌, drop, false}
use Rattle.oz_symbols.specs.Escapes.{text_in_quotes_from}
use Rattle.oz_symbols.proofs.symbol.text_in_quotes.Given as goal

abbrev pub invariant-loop-byte : goal.invariant-loop-byte
invariant-loop-byte l = l.text.items ++ text_in_quotes_from l.escaping (drop l.byte-index l.spelled) ≡ text_in_quotes_from false l.spelled
