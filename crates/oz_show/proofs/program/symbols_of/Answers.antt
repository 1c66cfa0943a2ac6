use Rattle.std.proofs.Common.{rules}
use Rattle.oz_grammar.specs.Canonical.{canonical_symbols}
use Rattle.oz_show.proofs.program.symbols_of.Goals as goal

pub returns : goal.returns
unfolding canonical_symbols
returns c = search rules
