use Rattle.std.proofs.Common.{rules}
use Rattle.oz_symbols.proofs.symbols.symbols_of.Goals as goal

pub tokens-init : goal.tokens-init
tokens-init c = rw c.in_ok-symbols.ensures.items (rw c.in_ok-starts.ensures.items (search rules))
