use Rattle.kernel_syntax.proofs.SugarItems.{if_of}
use Rattle.surface_parts.proofs.trees.if_statement.Goals as goal

pub returns : goal.returns
returns c = if_of c.args.left c.args.tested c.args.chosen c.args.other
