use Rattle.std.proofs.Common.{◌≡◌, ◌∙◌, ap, sym, subst, ℕ, List, Bool, false, true}
use Rattle.std.specs.Prelude.{◌↔◌, IsTrue, Some, slice_get}
use Rattle.site_message.specs.Journal.{is_quiet}
use Rattle.site_message.specs.declared.story.NoSeat.{NoSeat}
use Rattle.site_model.specs.Site.{is_idle}
use Rattle.site_core.specs.Site.{SiteState}
use Rattle.world_core.specs.Laws.{HasMachineAtRest}
use Rattle.world_core.specs.World.{WorldState, IsConsistent, states_of}
use Rattle.world_core.proofs.QuietLemmas.{both_seen, unseen, rests}
use Rattle.world_core.proofs.world.World.quiet.Goals as goal

pub returns-then-is_empty-clause-value : goal.returns-then-is_empty-clause-value
returns-then-is_empty-clause-value c =
    let w = c.self.inside in
    let live : w.spent ≡ false = ap (λ (v : WorldState). v.spent) c.self.view_is ∙ c.requires in
    let k = subst (λ (b : Bool). IsConsistent w.program.now w.journal w.sites.items w.mail w.sent b) live c.self.invariant in
    let idle = subst (λ (ss : List (SiteState NoSeat)). IsTrue c.are_idle.result ↔ ((i : ℕ) (s : SiteState NoSeat) → slice_get ss i ≡ Some s → is_idle s.state ≡ true)) c.as_slice.ensures.value c.are_idle.ensures in
    both_seen w.program.now w.journal w.sites.items w.mail w.sent k c.is_empty.result c.are_idle.result c.if-is_empty.true c.is_empty.ensures idle
    ∙ ap (λ (v : WorldState). is_quiet v.sites v.journal) c.self.view_is

pub returns-then-is_empty-clause-rest : goal.returns-then-is_empty-clause-rest
returns-then-is_empty-clause-rest c rested =
    let w = c.self.inside in
    let live : w.spent ≡ false = ap (λ (v : WorldState). v.spent) c.self.view_is ∙ c.requires in
    let k = subst (λ (b : Bool). IsConsistent w.program.now w.journal w.sites.items w.mail w.sent b) live c.self.invariant in
    let idle = subst (λ (ss : List (SiteState NoSeat)). IsTrue c.are_idle.result ↔ ((i : ℕ) (s : SiteState NoSeat) → slice_get ss i ≡ Some s → is_idle s.state ≡ true)) c.as_slice.ensures.value c.are_idle.ensures in
    let quiet = both_seen w.program.now w.journal w.sites.items w.mail w.sent k c.is_empty.result c.are_idle.result c.if-is_empty.true c.is_empty.ensures idle in
    subst (λ (v : WorldState). HasMachineAtRest v.program v.sites v.journal (states_of v)) c.self.view_is (rests w.program.now w.journal w.sites.items w.mail w.sent k (sym quiet ∙ rested))

pub returns-else-is_empty-clause-value : goal.returns-else-is_empty-clause-value
returns-else-is_empty-clause-value c =
    let w = c.self.inside in
    let live : w.spent ≡ false = ap (λ (v : WorldState). v.spent) c.self.view_is ∙ c.requires in
    let k = subst (λ (b : Bool). IsConsistent w.program.now w.journal w.sites.items w.mail w.sent b) live c.self.invariant in
    unseen w.program.now w.journal w.sites.items w.mail w.sent k c.is_empty.result c.if-is_empty.false c.is_empty.ensures
    ∙ ap (λ (v : WorldState). is_quiet v.sites v.journal) c.self.view_is
