use Rattle.std.proofs.Common.{ap}
use Rattle.bind_protocol.specs.Records.{Records}
use Rattle.site_core.proofs.guarded.give_up.Goals as goal

pub returns-clause-sites : goal.returns-clause-sites
returns-clause-sites c = c.bare_core.ensures.sites

pub returns-clause-number : goal.returns-clause-number
returns-clause-number c = ap (λ (b : Records). b.site) c.bare_core.ensures.records
