use Rattle.std.proofs.Common.{◌+◌}
use Rattle.byte_fields.specs.Field.{◌before◌}
use Rattle.wire_reader.specs.Format as format
use Rattle.wire_reader.specs.Format.{lead}
use Rattle.wire_form.proofs.WriteLaws.{writes_tag, writes_then}
use Rattle.wire_form.proofs.requests.put_exchange.Goals as goal

pub returns : goal.returns
returns c =
    let form = c.args.form in
    let one = c.put_kind.new.out.items in
    let two = c.put_stationary.new.out.items in
    let three = c.put_thread.new.out.items in
    let four = c.put_site.new.out.items in
    let new = c.put_var.new.out.items in
    let r = c.put_var.result in
    writes_tag (lead form + 11) (format.stationary_name before format.thread_name before format.site before format.var_name) (c.args.cell, (c.args.thread, (c.args.asking, c.args.new))) c.args.out.now.items one new r c.in_ok-put_kind.ensures
    (writes_then format.stationary_name (format.thread_name before format.site before format.var_name) c.args.cell (c.args.thread, (c.args.asking, c.args.new)) one two new r c.in_ok-put_stationary.ensures
    (writes_then format.thread_name (format.site before format.var_name) c.args.thread (c.args.asking, c.args.new) two three new r c.in_ok-put_thread.ensures
    (writes_then format.site format.var_name c.args.asking c.args.new three four new r c.in_ok-put_site.ensures c.put_var.ensures)))
