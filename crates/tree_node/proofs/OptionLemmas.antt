-- What a look-up lends.
use Rattle.std.proofs.Common.{◌≡◌, ap, Some, None}
use Rattle.std.specs.Prelude.{Option, is_some, option_copied}
use Rattle.std.specs.Borrow.{Bor}

-- a copy is there where the lent one is
pub lent_some : {X : Type 0} (o : Option (Bor X)) (l : Option X) → option_copied o ≡ l → is_some o ≡ is_some l
lent_some None l e = ap is_some e
lent_some (Some b) l e = ap is_some e
