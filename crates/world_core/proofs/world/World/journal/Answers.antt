use Rattle.std.proofs.Common.{◌∙◌, ap, subst}
use Rattle.site_model.specs.Bundle.{bundle_limit}
use Rattle.site_model.specs.Run.{WorldRun}
use Rattle.world_core.specs.Laws.{HasRun, AreMessagesFew}
use Rattle.world_core.specs.World.{WorldState, states_of}
use Rattle.world_core.proofs.WorldLemmas.{messages_few}
use Rattle.world_core.proofs.world.World.journal.Goals as goal
use Rattle.std.proofs.Common.{length}

pub returns-clause-run : goal.returns-clause-run
returns-clause-run c = subst (λ (v : WorldState). HasRun v.program v.sites v.journal) c.self.view_is c.self.invariant.run

pub returns-clause-live : goal.returns-clause-live
returns-clause-live c live = subst (λ (v : WorldState). WorldRun v.program v.sites bundle_limit v.journal (states_of v)) c.self.view_is (c.self.invariant.live (ap (λ (v : WorldState). v.spent) c.self.view_is ∙ live)).run

pub returns-clause-few : goal.returns-clause-few
returns-clause-few c =
    let w = c.self.inside in
    let k = c.self.invariant in
    subst (λ (v : WorldState). AreMessagesFew v.program v.sites v.journal) c.self.view_is (messages_few w.program.now (length w.sites.items) w.journal k.run.0 k.program k.range.0 k.range.1 k.run.1)
