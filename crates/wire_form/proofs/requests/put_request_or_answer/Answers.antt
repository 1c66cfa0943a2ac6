use Rattle.std.proofs.Common.{List, subst}
use Rattle.tree_node.specs.Store.{Equation}
use Rattle.wire_reader.specs.Format as format
use Rattle.wire_form.specs.Writing.{IsWritten}
use Rattle.wire_form.proofs.WriteLaws.{asked_written}
use Rattle.wire_form.proofs.requests.put_request_or_answer.Goals as goal

pub returns-in-PortEnd : goal.returns-in-PortEnd
returns-in-PortEnd c = rw c.in-PortEnd.is c.put_ends.ensures

pub returns-in-CellMake : goal.returns-in-CellMake
returns-in-CellMake c = rw c.in-CellMake.is c.put_new_cell.ensures

pub returns-in-CellOld : goal.returns-in-CellOld
returns-in-CellOld c = rw c.in-CellOld.is c.put_old_content.ensures

pub returns-in_ok-put_exchange-in-CellAsk : goal.returns-in_ok-put_exchange-in-CellAsk
returns-in_ok-put_exchange-in-CellAsk c =
    let m = c.in-CellAsk in
    let form = c.args.form in
    let one = c.put_exchange.new.out.items in
    let new = c.put_bundle.new.out.items in
    let r = c.put_bundle.result in
    let room = rw m.is at c.requires.room in
    let equations = subst (λ (xs : List Equation). IsWritten (format.bundle form) xs one new r) c.as_slice.ensures c.put_bundle.ensures in
    rw m.is (asked_written form m.cell m.thread m.asking m.new m.bundle c.args.out.now.items one new r room.0 c.in_ok-put_exchange-in-CellAsk.ensures equations)
