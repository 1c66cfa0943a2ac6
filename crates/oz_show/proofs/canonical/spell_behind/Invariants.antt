use Rattle.std.proofs.Common.{◌≡◌, ◌++◌, length}
use Rattle.oz_show.specs.CanonicalText.{text_behind}
use Rattle.oz_show.proofs.canonical.spell_behind.Given as goal

abbrev pub invariant-loop-symbol : goal.invariant-loop-symbol
invariant-loop-symbol l = l.text.items ++ text_behind l.symbols ≡ l.initial.text.items ++ text_behind l.initial.symbols

abbrev pub decreases-loop-symbol : goal.decreases-loop-symbol
decreases-loop-symbol l = length l.symbols
