use Rattle.std.proofs.Common.{◌∙◌, refl}
use Rattle.kernel_syntax.proofs.SugarItems.{value_case_of}
use Rattle.surface_parts.proofs.trees.case_value.Goals as goal

pub returns : goal.returns
returns c = value_case_of c.args.left c.in_ok-matched.matched c.args.clauses c.in_ok-other.other ∙ rw (c.in_ok-matched.ensures.ok, c.in_ok-other.ensures.ok) refl
