use Rattle.std.proofs.Common.{drop}
use Rattle.std.specs.Prelude.{◌↔◌}
use Rattle.tree_node.specs.Each.{Each}
use Rattle.site_variables.specs.Fit.{IsFieldWithin}
use Rattle.site_variables.proofs.names.fields_within.Given as goal

abbrev pub invariant-loop-field : goal.invariant-loop-field
invariant-loop-field l = Each (IsFieldWithin l.bounds) (drop l.field-index l.fields) ↔ Each (IsFieldWithin l.bounds) l.fields
