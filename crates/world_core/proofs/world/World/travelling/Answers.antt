use Rattle.std.proofs.Common.{◌≡◌, ◌∙◌, ap, subst, List, Bool, false}
use Rattle.site_message.specs.declared.turn.Turn.{Turn}
use Rattle.world_core.specs.Travels.{AreTravels}
use Rattle.world_core.specs.World.{WorldState, IsConsistent}
use Rattle.world_core.proofs.QuietLemmas.{are_travels}
use Rattle.world_core.proofs.world.World.travelling.Goals as goal

pub returns-clause-exact : goal.returns-clause-exact
returns-clause-exact c =
    let w = c.self.inside in
    let live : w.spent ≡ false = ap (λ (v : WorldState). v.spent) c.self.view_is ∙ c.requires in
    let k = subst (λ (b : Bool). IsConsistent w.program.now w.journal w.sites.items w.mail w.sent b) live c.self.invariant in
    subst (λ (j : List Turn). AreTravels j c.travels.result.now) (ap (λ (v : WorldState). v.journal) c.self.view_is)
    (are_travels w.program.now w.journal w.sites.items w.mail w.sent k c.travels.result.now c.travels.ensures.told c.travels.ensures.once)
