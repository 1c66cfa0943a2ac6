use Rattle.token_chain.specs.Rows.{leave_reply}
use Rattle.site_model.specs.Site.{CellRecord}
use Rattle.site_cells.proofs.RecordLemmas.{record_written, record_left}
use Rattle.site_cells.proofs.tables.leave.Goals as goal
use Rattle.std.proofs.lemmas.Result.{on_ok_weaker, on_err_weaker}

pub returns-clause-records : goal.returns-clause-records
returns-clause-records c =
    on_ok_weaker c.leave.result
    (λ is. record_written c.args.records.now.entries _ c.args.cell (λ (q : CellRecord). record q { held = (leave_reply q.held).held }) c.in-Some.place.now c.leave.new.self c.in-Some.ensures.value (c.get_mut.follows.holds c.leave.new.self).0 is)
    c.leave.ensures.held

pub returns-clause-same : goal.returns-clause-same
returns-clause-same c =
    on_err_weaker c.leave.result
    (λ is. record_left c.args.records.now.entries _ c.args.cell c.in-Some.place.now c.leave.new.self c.in-Some.ensures.value (c.get_mut.follows.holds c.leave.new.self).0 is)
    c.leave.ensures.same
