use Rattle.kernel_syntax.proofs.SugarItems.{thread_of}
use Rattle.surface_parts.proofs.trees.thread.Goals as goal

pub returns : goal.returns
returns c = thread_of c.args.left c.args.at c.args.body
