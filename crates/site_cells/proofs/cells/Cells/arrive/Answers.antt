use Rattle.std.proofs.Common.{ap, refl}
use Rattle.site_cells.specs.Tables.{CellTables}
use Rattle.site_cells.proofs.RecordLemmas.{token_here, queue_changed}
use Rattle.site_cells.proofs.cells.Cells.arrive.Goals as goal

pub returns-clause-here : goal.returns-clause-here
returns-clause-here c = token_here _ _ _ _ c.arrive.ensures.new

pub returns-clause-queues : goal.returns-clause-queues
returns-clause-queues c = queue_changed c.args.self.now _ _ c.args.cell _ _ (ap (λ (t : CellTables). t.cell_records) c.self.view_is) c.arrive.ensures.new refl
