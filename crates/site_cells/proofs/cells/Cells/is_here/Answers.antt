use Rattle.std.proofs.Common.{subst}
use Rattle.std.specs.Prelude.{◌↔◌, IsTrue}
use Rattle.site_cells.specs.Tables.{CellTables, HasToken}
use Rattle.site_cells.proofs.TokenLemmas.{has_content}
use Rattle.site_cells.proofs.cells.Cells.is_here.Goals as goal

pub returns : goal.returns
returns c = subst (λ (t : CellTables). IsTrue c.is_here.result ↔ HasToken t c.args.cell) c.self.view_is (has_content c.is_here.result _ c.is_here.ensures)
