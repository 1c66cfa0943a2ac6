use Rattle.std.proofs.Common.{◌∙◌, ◌++◌, ap, length, List, ℕ}
use Rattle.std.specs.Int.{w16, to_be_bytes}
use Rattle.wire_reader.specs.Format.{var_name}
use Rattle.wire_reader.proofs.FitsLaws.{variables_have}
use Rattle.wire_form.proofs.WriteLaws.{writing_all, put_list}
use Rattle.wire_form.proofs.writing.put_variables.Goals as goal

pub returns : goal.returns
returns c =
    let vars = c.args.vars.now in
    let w = writing_all var_name c.extend_from_slice.new.self.items vars c.loop-var.var-index c.loop-var.out.items c.loop-var-test.false c.loop-var.invariant in
    let put = c.in_ok-extend_from_slice.ensures.items ∙ ap (λ (z : List ℕ). c.args.out.now.items ++ z) c.to_be_bytes.ensures in
    (variables_have vars c.requires w.0, put_list var_name c.args.out.now.items c.extend_from_slice.new.self.items c.loop-var.out.items (to_be_bytes w16 (length vars)) vars put w.1)
