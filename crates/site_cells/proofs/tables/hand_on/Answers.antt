use Rattle.token_chain.specs.Rows.{get_reply}
use Rattle.site_model.specs.Site.{CellRecord}
use Rattle.site_cells.proofs.RecordLemmas.{record_written, record_left}
use Rattle.site_cells.proofs.tables.hand_on.Goals as goal
use Rattle.std.proofs.lemmas.Result.{on_ok_weaker, on_err_weaker}

pub returns-in-Some-clause-records : goal.returns-in-Some-clause-records
returns-in-Some-clause-records c =
    on_ok_weaker c.hand_on.result
    (λ is. record_written c.args.records.now.entries _ c.args.cell (λ (q : CellRecord). record q { held = (get_reply c.args.site c.args.last c.args.next q.held).held }) c.in-Some.place.now c.hand_on.new.self c.in-Some.ensures.value (c.get_mut.follows.holds c.hand_on.new.self).0 is)
    c.hand_on.ensures.held

pub returns-in-Some-clause-same : goal.returns-in-Some-clause-same
returns-in-Some-clause-same c =
    on_err_weaker c.hand_on.result
    (λ is. record_left c.args.records.now.entries _ c.args.cell c.in-Some.place.now c.hand_on.new.self c.in-Some.ensures.value (c.get_mut.follows.holds c.hand_on.new.self).0 is)
    c.hand_on.ensures.same
