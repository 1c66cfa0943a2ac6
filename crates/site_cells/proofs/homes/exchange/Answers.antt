use Rattle.std.specs.Prelude.{Some}
use Rattle.site_model.specs.Site.{HomeRecord}
use Rattle.site_cells.proofs.HomeLemmas.{home_written}
use Rattle.site_cells.proofs.homes.exchange.Goals as goal

pub returns-clause-new : goal.returns-clause-new
returns-clause-new c =
    home_written c.args.records.now.entries _ c.args.cell (λ (h : HomeRecord). record h { content = Some c.args.new }) c.in-Some.home.now c.exchange.new.self
    c.in-Some.ensures.value (c.get_mut.follows.holds c.exchange.new.self).0 c.exchange.ensures.new
