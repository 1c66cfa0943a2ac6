use Rattle.std.proofs.Common.{◌∙◌, ap}
use Rattle.site_model.specs.Site.{is_idle}
use Rattle.site_core.proofs.IdleLemmas.{idle_is}
use Rattle.site_core.proofs.site.Site.idle.Goals as goal

pub returns : goal.returns
returns g c = idle_is c.self.inside.core c.is_idle.result c.is_idle.ensures ∙ ap (λ s. is_idle s.state) c.self.view_is
