use Rattle.std.proofs.Common.{[], ◌∷◌, ◌++◌}
use Rattle.token_chain.specs.Holding.{with_waiter}
use Rattle.site_model.specs.Site.{CellRecord}
use Rattle.site_cells.proofs.RecordLemmas.{record_written, record_left}
use Rattle.site_cells.proofs.tables.wait.Goals as goal
use Rattle.std.proofs.lemmas.Result.{on_ok_weaker, on_err_weaker}

pub returns-clause-ok : goal.returns-clause-ok
returns-clause-ok c =
    on_ok_weaker c.wait.result
    (λ is. record_written c.args.records.now.entries _ c.args.cell (λ (q : CellRecord). record { held = with_waiter q.held; queue = q.queue ++ c.args.thread ∷ [] }) c.in-Some.place.now c.wait.new.self c.in-Some.ensures.value (c.get_mut.follows.holds c.wait.new.self).0 is)
    c.wait.ensures.ok

pub returns-clause-err : goal.returns-clause-err
returns-clause-err c =
    on_err_weaker c.wait.result
    (λ is. record_left c.args.records.now.entries _ c.args.cell c.in-Some.place.now c.wait.new.self c.in-Some.ensures.value (c.get_mut.follows.holds c.wait.new.self).0 is)
    c.wait.ensures.err
