use Rattle.std.proofs.Common.{ap, refl}
use Rattle.site_cells.specs.Tables.{CellTables}
use Rattle.site_cells.proofs.RecordLemmas.{token_here, queues_kept}
use Rattle.site_cells.proofs.cells.Cells.exchange.Goals as goal

pub returns-clause-new : goal.returns-clause-new
returns-clause-new c = token_here _ _ _ _ c.exchange.ensures.new

pub returns-clause-queues : goal.returns-clause-queues
returns-clause-queues c = queues_kept c.args.self.now _ _ c.args.cell _ (ap (λ (t : CellTables). t.cell_records) c.self.view_is) c.exchange.ensures.new refl
