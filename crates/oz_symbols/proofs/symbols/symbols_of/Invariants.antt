use Rattle.std.proofs.Common.{◌-◌, length}
use Rattle.oz_symbols.specs.TextSymbols.{SoFar}
use Rattle.oz_symbols.proofs.symbols.symbols_of.Given as goal

abbrev pub invariant-tokens : goal.invariant-tokens
invariant-tokens l = SoFar l.text l.at l.symbols.items l.starts.items

abbrev pub decreases-tokens : goal.decreases-tokens
decreases-tokens l = length l.text - l.at
