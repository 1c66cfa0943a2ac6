use Rattle.std.proofs.Common.{subst}
use Rattle.std.specs.Prelude.{◌↔◌, IsTrue, false}
use Rattle.site_cells.specs.Tables.{CellTables, CanPassOn, last_asker_in}
use Rattle.site_cells.proofs.TokenLemmas.{passes_on, passes_none}
use Rattle.site_cells.proofs.cells.Cells.can_pass_on.Goals as goal

pub returns-else-last-self : goal.returns-else-last-self
returns-else-last-self c =
    subst (λ (t : CellTables). IsTrue c.can_follow.result ↔ CanPassOn t c.args.cell (last_asker_in t c.args.cell)) c.self.view_is
    (passes_on _ c.args.cell c.in-Some.last.now c.can_follow.result c.in-Some.ensures.value c.if-last-self.false c.can_follow.ensures)

pub returns-in-None : goal.returns-in-None
returns-in-None c =
    subst (λ (t : CellTables). IsTrue false ↔ CanPassOn t c.args.cell (last_asker_in t c.args.cell)) c.self.view_is (passes_none _ c.args.cell c.in-None.ensures.value)
