use Rattle.kernel_syntax.proofs.SugarItems.{case_of}
use Rattle.surface_parts.proofs.trees.case_statement.Goals as goal

pub returns : goal.returns
returns c = case_of c.args.left c.args.matched c.args.clauses c.args.other
