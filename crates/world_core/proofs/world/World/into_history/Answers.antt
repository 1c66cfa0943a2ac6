use Rattle.std.proofs.Common.{subst}
use Rattle.world_core.specs.Laws.{HasRun, AreMessagesFew}
use Rattle.world_core.specs.World.{WorldState}
use Rattle.world_core.proofs.WorldLemmas.{messages_few}
use Rattle.world_core.proofs.world.World.into_history.Goals as goal
use Rattle.std.proofs.Common.{length}

pub returns-clause-run : goal.returns-clause-run
returns-clause-run c = subst (λ (v : WorldState). HasRun v.program v.sites v.journal) c.self.view_is c.self.invariant.run

pub returns-clause-few : goal.returns-clause-few
returns-clause-few c =
    let w = c.self.inside in
    let k = c.self.invariant in
    subst (λ (v : WorldState). AreMessagesFew v.program v.sites v.journal) c.self.view_is (messages_few w.program.now (length w.sites.items) w.journal k.run.0 k.program k.range.0 k.range.1 k.run.1)
