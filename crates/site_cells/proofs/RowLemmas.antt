-- From the tables to the rows of a site.
use Rattle.std.proofs.Common.{◌∙◌, ap, List, []}
use Rattle.tree_node.specs.declared.names.CellName.{CellName}
use Rattle.token_chain.specs.declared.token.Token.TheVariants.{Here}
use Rattle.site_model.specs.Site.{CellRecord, cell_record_in}
use Rattle.site_cells.specs.Tables.{ServingGoesOn, with_record}
use Rattle.site_cells.proofs.RecordLemmas.{record_here, written_twice}

-- the threads that a Put serves exchange one by one
pub serving_exchanges : ServingGoesOn
serving_exchanges p c v w told s =
    let q : CellRecord = record { held = record (cell_record_in s.cell_records c).held { token = Here v; waiting = 0 }; queue = [] } in
    ap (λ (x : CellRecord). record s { cell_records = with_record c (record x { held = record x.held { token = Here w } }) (with_record c q s.cell_records) }) (record_here s.cell_records c q)
    ∙ ap (λ (qs : List (CellName × CellRecord)). record s { cell_records = qs }) (written_twice s.cell_records c q _)
