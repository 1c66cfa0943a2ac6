use Rattle.std.proofs.Common.{ap, [], ◌∷◌, ◌++◌}
use Rattle.site_model.specs.Site.{cell_record_in}
use Rattle.site_cells.specs.Tables.{CellTables}
use Rattle.site_cells.proofs.RecordLemmas.{queue_changed}
use Rattle.site_cells.proofs.cells.Cells.request.Goals as goal
use Rattle.std.proofs.lemmas.Result.{on_ok_weaker}

pub returns-then-is_asked-clause-queues : goal.returns-then-is_asked-clause-queues
returns-then-is_asked-clause-queues c =
    on_ok_weaker c.wait.result
    (λ is. queue_changed c.args.self.now _ _ c.args.cell _ _ (ap (λ (t : CellTables). t.cell_records) c.self.view_is) is
    (ap (λ (t : CellTables). (cell_record_in t.cell_records c.args.cell).queue ++ c.args.thread ∷ []) c.self.view_is))
    c.wait.ensures.ok
