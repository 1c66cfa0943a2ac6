use Rattle.std.proofs.Common.{length}
use Rattle.oz_show.proofs.symbols.Symbols.+put_declared_fields.Given as goal

abbrev pub decreases-put_declared_fields : goal.decreases-put_declared_fields
decreases-put_declared_fields l = length l.features.now
