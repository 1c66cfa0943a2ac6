use Rattle.std.proofs.Common.{◌∙◌, ap, List}
use Rattle.tree_node.specs.declared.names.CellName.{CellName}
use Rattle.site_model.specs.Site.{CellRecord}
use Rattle.site_cells.specs.Tables.{CellTables, with_record}
use Rattle.site_cells.proofs.RecordLemmas.{queue_changed}
use Rattle.site_cells.proofs.cells.Cells.make.Goals as goal

pub returns-clause-queues : goal.returns-clause-queues
returns-clause-queues c =
    queue_changed c.args.self.now _ _ c.args.cell c.new_here.result _ (ap (λ (t : CellTables). t.cell_records) c.self.view_is)
    (c.in_ok-insert-2.ensures.entries ∙ ap (λ (qs : List (CellName × CellRecord)). with_record c.args.cell c.new_here.result qs) c.reserve-2.ensures.entries)
    (ap (λ (q : CellRecord). q.queue) c.new_here.ensures)
