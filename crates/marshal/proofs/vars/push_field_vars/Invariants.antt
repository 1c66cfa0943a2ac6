use Rattle.std.proofs.Common.{◌≡◌, ◌++◌, take}
use Rattle.site_message.specs.Vars.{field_vars}
use Rattle.marshal.proofs.vars.push_field_vars.Given as goal

abbrev pub invariant-loop-field : goal.invariant-loop-field
invariant-loop-field l = l.vars.items ≡ l.fn.vars.items ++ field_vars (take l.field-index l.fields)
