use Rattle.std.proofs.Common.{refl, rules}
use Rattle.oz_grammar.specs.declared.fault.FaultKind.TheVariants.{Deep}
use Rattle.surface_reader.proofs.reader.Reader.level.Goals as goal

pub returns-then-depth-eq0 : goal.returns-then-depth-eq0
returns-then-depth-eq0 c = (Deep, rw c.if-depth-eq0.true refl, search rules)
