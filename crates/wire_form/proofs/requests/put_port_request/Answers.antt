use Rattle.std.proofs.Common.{◌+◌, ◌∷◌}
use Rattle.byte_fields.specs.Field.{◌before◌}
use Rattle.wire_reader.specs.Format as format
use Rattle.wire_reader.specs.Format.{lead}
use Rattle.wire_form.proofs.WriteLaws.{writes_tag, writes_then, later_written}
use Rattle.wire_form.proofs.requests.put_port_request.Goals as goal

pub returns : goal.returns
returns c =
    let form = c.args.form in
    let one = c.put_kind.new.out.items in
    let two = c.put_port.new.out.items in
    let three = c.put_thread.new.out.items in
    let new = c.put_site.new.out.items in
    let r = c.put_site.result in
    later_written form _ c.args.out.now.items new ((lead form + 8) ∷ format.port_send.spelling (c.args.port, (c.args.thread, c.args.asking))) r c.requires.room
    (writes_tag (lead form + 8) format.port_send (c.args.port, (c.args.thread, c.args.asking)) c.args.out.now.items one new r c.in_ok-put_kind.ensures
    (writes_then format.port_name (format.thread_name before format.site) c.args.port (c.args.thread, c.args.asking) one two new r c.in_ok-put_port.ensures
    (writes_then format.thread_name format.site c.args.thread c.args.asking two three new r c.in_ok-put_thread.ensures c.put_site.ensures)))
