use Rattle.kernel_syntax.proofs.SugarItems.{try_of}
use Rattle.surface_parts.proofs.trees.try_statement.Goals as goal

pub returns : goal.returns
returns c = try_of c.args.left c.args.body c.args.handler
