use Rattle.std.proofs.Common.{◌≡◌, ◌∙◌, ap, subst, ℕ, List, map, Bool, false}
use Rattle.std.specs.Prelude.{Option, MatchOption}
use Rattle.site_message.specs.declared.turn.Turn.{Turn}
use Rattle.world_core.specs.declared.travel.Travel.{Travel}
use Rattle.world_core.specs.Travels.{travel_of, IsNoneFor, IsFirstFor, IsNothingFor}
use Rattle.world_core.specs.World.{WorldState, IsConsistent}
use Rattle.world_core.proofs.QuietLemmas.{nothing_for}
use Rattle.world_core.proofs.world.World.next_for.Goals as goal

pub returns-clause-place : goal.returns-clause-place
returns-clause-place c = subst (λ (ts : List Travel). MatchOption c.next_for.result (IsNoneFor ts c.args.site) (λ place. IsFirstFor ts c.args.site place)) (ap (λ (v : WorldState). v.travels) c.self.view_is) c.next_for.ensures

pub returns-clause-none : goal.returns-clause-none
returns-clause-none c is =
    let w = c.self.inside in
    let live : w.spent ≡ false = ap (λ (v : WorldState). v.spent) c.self.view_is ∙ c.requires.live in
    let k = subst (λ (b : Bool). IsConsistent w.program.now w.journal w.sites.items w.mail w.sent b) live c.self.invariant in
    let none = subst (λ (r : Option ℕ). MatchOption r (IsNoneFor (map travel_of w.mail.messages) c.args.site) (λ place. IsFirstFor (map travel_of w.mail.messages) c.args.site place)) is c.next_for.ensures in
    subst (λ (j : List Turn). IsNothingFor j c.args.site) (ap (λ (v : WorldState). v.journal) c.self.view_is)
    (nothing_for w.program.now w.journal w.sites.items w.mail w.sent k c.args.site none)
