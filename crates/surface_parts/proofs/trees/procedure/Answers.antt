use Rattle.kernel_syntax.proofs.SugarItems.{proc_of}
use Rattle.surface_parts.proofs.trees.procedure.Goals as goal

pub returns : goal.returns
returns c = proc_of c.args.left c.args.count c.args.body
