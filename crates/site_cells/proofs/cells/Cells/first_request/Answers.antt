use Rattle.std.proofs.Common.{◌∙◌, sym, ap, List, [], ◌∷◌, ◌++◌}
use Rattle.tree_node.specs.declared.names.CellName.{CellName}
use Rattle.site_model.specs.Site.{CellRecord}
use Rattle.site_cells.specs.Tables.{CellTables, with_record}
use Rattle.site_cells.proofs.RecordLemmas.{queue_changed}
use Rattle.site_cells.proofs.cells.Cells.first_request.Goals as goal

pub returns-then-cell-self-clause-queues : goal.returns-then-cell-self-clause-queues
returns-then-cell-self-clause-queues c =
    queue_changed c.args.self.now _ _ c.args.cell c.wait.new.self _ (ap (λ (t : CellTables). t.cell_records) c.self.view_is)
    (c.in_ok-insert.ensures.entries ∙ ap (λ (qs : List (CellName × CellRecord)). with_record c.args.cell c.wait.new.self qs) c.reserve.ensures.entries)
    (ap (λ (q : CellRecord). q.queue) c.in_ok-wait.ensures.ok ∙ ap (λ (q : CellRecord). q.queue ++ c.args.thread ∷ []) (c.unused-place.ensures ∙ sym c.requires.unused))

pub returns-clause-queues : goal.returns-clause-queues
returns-clause-queues c =
    queue_changed c.args.self.now _ _ c.args.cell c.hand_on.new.self _ (ap (λ (t : CellTables). t.cell_records) c.self.view_is)
    (c.in_ok-insert-3.ensures.entries ∙ ap (λ (qs : List (CellName × CellRecord)). with_record c.args.cell c.hand_on.new.self qs) c.reserve.ensures.entries)
    (ap (λ (q : CellRecord). q.queue) c.in_ok-hand_on.ensures.held ∙ ap (λ (q : CellRecord). q.queue) c.in_ok-wait.ensures.ok ∙ ap (λ (q : CellRecord). q.queue ++ c.args.thread ∷ []) (c.unused-place.ensures ∙ sym c.requires.unused))
