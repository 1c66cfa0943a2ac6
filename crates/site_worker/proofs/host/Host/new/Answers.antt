use Rattle.std.proofs.Common.{refl, ap}
use Rattle.book_lock.specs.declared.lock.SiteSeat.{SiteSeat}
use Rattle.book_lock.specs.Seats.{last_seen}
use Rattle.site_core.specs.Site.{SiteState}
use Rattle.site_worker.proofs.Fresh.{new_host}
use Rattle.site_worker.proofs.host.Host.new.Goals as goal

pub returns-clause-host : goal.returns-clause-host
returns-clause-host c t new = new_host t _ c.args.site c.args.seat c.seated.ensures c.requires.site c.requires.live c.site-number.ensures refl c.requires.program c.requires.most new

pub returns-clause-of : goal.returns-clause-of
returns-clause-of c = (ap (λ (v : SiteState SiteSeat). v.program) c.seated.ensures, ap (λ (v : SiteState SiteSeat). (last_seen v.seat).fixed) c.seated.ensures)
