use Rattle.std.proofs.Common.{◌+◌, ◌∷◌, List, subst}
use Rattle.tree_node.specs.Store.{Equation}
use Rattle.byte_fields.specs.Field.{◌before◌}
use Rattle.wire_reader.specs.Format as format
use Rattle.wire_reader.specs.Format.{lead}
use Rattle.wire_form.specs.Writing.{IsWritten}
use Rattle.wire_form.proofs.WriteLaws.{writes_tag, writes_then, later_written}
use Rattle.wire_form.proofs.requests.put_ends.Goals as goal

pub returns : goal.returns
returns c =
    let es = c.args.bundle.now in
    let form = c.args.form in
    let one = c.put_kind.new.out.items in
    let two = c.put_thread.new.out.items in
    let three = c.put_var.new.out.items in
    let four = c.put_var-2.new.out.items in
    let new = c.put_bundle.new.out.items in
    let r = c.put_bundle.result in
    let equations = subst (λ (xs : List Equation). IsWritten (format.bundle form) xs four new r) c.as_slice.ensures c.put_bundle.ensures in
    later_written form _ c.args.out.now.items new ((lead form + 9) ∷ (format.port_end form).spelling (c.args.thread, (c.args.old, (c.args.new, es)))) r c.requires.room.0
    (writes_tag (lead form + 9) (format.port_end form) (c.args.thread, (c.args.old, (c.args.new, es))) c.args.out.now.items one new r c.in_ok-put_kind.ensures
    (writes_then format.thread_name (format.var_name before format.var_name before format.bundle form) c.args.thread (c.args.old, (c.args.new, es)) one two new r c.in_ok-put_thread.ensures
    (writes_then format.var_name (format.var_name before format.bundle form) c.args.old (c.args.new, es) two three new r c.in_ok-put_var.ensures
    (writes_then format.var_name (format.bundle form) c.args.new es three four new r c.in_ok-put_var-2.ensures equations))))
