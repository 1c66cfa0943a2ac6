use Rattle.kernel_syntax.proofs.SugarItems.{apply_of}
use Rattle.surface_parts.proofs.trees.apply.Goals as goal

pub returns : goal.returns
returns c = apply_of c.args.left c.args.operation c.args.parts
