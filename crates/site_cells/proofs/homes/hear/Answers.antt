use Rattle.std.proofs.Common.{[]}
use Rattle.std.specs.Prelude.{Some}
use Rattle.site_model.specs.Site.{HomeRecord}
use Rattle.site_cells.proofs.HomeLemmas.{home_written}
use Rattle.site_cells.proofs.homes.hear.Goals as goal

pub returns-in-Some-clause-new : goal.returns-in-Some-clause-new
returns-in-Some-clause-new c =
    home_written c.args.records.now.entries _ c.args.cell (λ (h : HomeRecord). record { content = Some c.args.content; early = [] }) c.in-Some.home.now c.hear.new.self
    c.in-Some.ensures.value (c.get_mut.follows.holds c.hear.new.self).0 c.hear.ensures.new
