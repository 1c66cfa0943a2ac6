use Rattle.kernel_syntax.proofs.SugarItems.{local_of}
use Rattle.surface_parts.proofs.trees.local.Goals as goal

pub returns : goal.returns
returns c = local_of c.args.left c.args.count c.args.body
