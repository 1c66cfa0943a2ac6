use Rattle.std.proofs.Common.{ap, refl}
use Rattle.site_cells.specs.Tables.{CellTables}
use Rattle.site_cells.proofs.RecordLemmas.{queues_kept}
use Rattle.site_cells.proofs.cells.Cells.forward.Goals as goal
use Rattle.std.proofs.lemmas.Result.{on_ok_weaker}

pub returns-clause-queues : goal.returns-clause-queues
returns-clause-queues c =
    on_ok_weaker c.follow.result (λ is. queues_kept c.args.self.now _ _ c.args.cell _ (ap (λ (t : CellTables). t.cell_records) c.self.view_is) is refl) c.follow.ensures.records
