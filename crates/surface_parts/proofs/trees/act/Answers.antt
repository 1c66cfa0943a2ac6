use Rattle.kernel_syntax.proofs.SugarItems.{acts_of}
use Rattle.surface_parts.proofs.trees.act.Goals as goal

pub returns : goal.returns
returns c = acts_of c.args.left c.args.action c.args.parts
