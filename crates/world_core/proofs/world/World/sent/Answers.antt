use Rattle.std.proofs.Common.{◌∙◌, ap, length}
use Rattle.site_message.specs.Journal.{sent_of}
use Rattle.world_core.specs.World.{WorldState}
use Rattle.world_core.proofs.world.World.sent.Goals as goal

pub returns : goal.returns
returns c = (c.self.invariant.live (ap (λ (v : WorldState). v.spent) c.self.view_is ∙ c.requires)).count ∙ ap (λ (v : WorldState). length (sent_of v.journal)) c.self.view_is
