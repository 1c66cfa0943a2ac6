use Rattle.kernel_syntax.proofs.SugarItems.{finally_of}
use Rattle.surface_parts.proofs.trees.finally.Goals as goal

pub returns : goal.returns
returns c = finally_of c.args.left c.args.body c.args.last
