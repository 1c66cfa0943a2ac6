use Rattle.std.proofs.Common.{◌∙◌, refl}
use Rattle.kernel_syntax.proofs.SugarItems.{record_of}
use Rattle.surface_parts.proofs.trees.record.Goals as goal

pub returns : goal.returns
returns c = record_of c.args.left c.args.label c.from_vec.result c.args.fields.values ∙ rw c.from_vec.ensures refl
