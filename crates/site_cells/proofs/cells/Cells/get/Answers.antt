use Rattle.std.proofs.Common.{ap, refl}
use Rattle.site_cells.specs.Tables.{CellTables}
use Rattle.site_cells.proofs.RecordLemmas.{queues_kept}
use Rattle.site_cells.proofs.cells.Cells.get.Goals as goal

pub returns-clause-queues : goal.returns-clause-queues
returns-clause-queues c = queues_kept c.args.self.now _ _ c.args.cell _ (ap (λ (t : CellTables). t.cell_records) c.self.view_is) c.in_ok-hand_on.ensures.records refl
