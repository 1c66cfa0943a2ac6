use Rattle.std.proofs.Common.{◌+◌, ◌≡◌, ◌++◌, List, subst}
use Rattle.tree_node.specs.declared.names.VarName.{VarName}
use Rattle.tree_node.specs.Store.{Equation}
use Rattle.byte_fields.specs.Field.{◌before◌}
use Rattle.wire_reader.specs.Format as format
use Rattle.wire_reader.specs.Format.{lead}
use Rattle.wire_form.specs.Writing.{IsWritten}
use Rattle.wire_form.proofs.WriteLaws.{writes_tag, writes_then}
use Rattle.wire_form.proofs.writing.put_spawn.Goals as goal

pub returns : goal.returns
returns c =
    let vs = c.args.vars.now in
    let es = c.args.bundle.now in
    let form = c.args.form in
    let one = c.put_kind.new.out.items in
    let two = c.put_thread.new.out.items in
    let three = c.put_code.new.out.items in
    let four = c.put_variables.new.out.items in
    let new = c.put_bundle.new.out.items in
    let r = c.put_bundle.result in
    let vars = subst (λ (xs : List VarName). format.variables.Has xs × (four ≡ three ++ format.variables.spelling xs)) c.as_slice.ensures c.in_ok-put_variables.ensures in
    let equations = subst (λ (xs : List Equation). IsWritten (format.bundle form) xs four new r) c.as_slice-2.ensures c.put_bundle.ensures in
    writes_tag (lead form + 1) (format.spawn form) (c.args.thread, (c.args.code, (vs, es))) c.args.out.now.items one new r c.in_ok-put_kind.ensures
    (writes_then format.thread_name (format.code before format.variables before format.bundle form) c.args.thread (c.args.code, (vs, es)) one two new r c.in_ok-put_thread.ensures
    (writes_then format.code (format.variables before format.bundle form) c.args.code (vs, es) two three new r c.in_ok-put_code.ensures
    (writes_then format.variables (format.bundle form) vs es three four new r vars equations)))
