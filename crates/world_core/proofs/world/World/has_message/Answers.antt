use Rattle.std.proofs.Common.{◌≡◌, ◌∙◌, sym, ap, subst, List, Bool, false}
use Rattle.site_message.specs.declared.turn.Turn.{Turn}
use Rattle.world_core.specs.declared.travel.Travel.{Travel}
use Rattle.world_core.specs.Travels.{IsNoneFor, IsNothingFor}
use Rattle.world_core.specs.World.{WorldState, IsConsistent}
use Rattle.world_core.proofs.QuietLemmas.{nothing_for}
use Rattle.world_core.proofs.world.World.has_message.Goals as goal

pub returns-clause-some : goal.returns-clause-some
returns-clause-some c is none = c.has_for.ensures.some is (subst (λ (ts : List Travel). IsNoneFor ts c.args.site) (sym (ap (λ (v : WorldState). v.travels) c.self.view_is)) none)

pub returns-clause-none : goal.returns-clause-none
returns-clause-none c is =
    let w = c.self.inside in
    let live : w.spent ≡ false = ap (λ (v : WorldState). v.spent) c.self.view_is ∙ c.requires.live in
    let k = subst (λ (b : Bool). IsConsistent w.program.now w.journal w.sites.items w.mail w.sent b) live c.self.invariant in
    subst (λ (j : List Turn). IsNothingFor j c.args.site) (ap (λ (v : WorldState). v.journal) c.self.view_is)
    (nothing_for w.program.now w.journal w.sites.items w.mail w.sent k c.args.site (c.has_for.ensures.none is))
