-- A turn that was drawn can be made.
use Rattle.std.proofs.Common.{◌≡◌, sym, subst, ℕ, ◌≤◌, Option, Some}
use Rattle.std.specs.Prelude.{slice_get}
use Rattle.kernel_syntax.specs.Program.{IsProgram}
use Rattle.site_message.specs.declared.limits.Limits.{Limits}
use Rattle.site_message.specs.Limits.{AreLimits}
use Rattle.world_core.specs.declared.travel.Travel.{Travel}
use Rattle.world_core.specs.Travels.{AreTravels}
use Rattle.world_core.specs.World.{WorldState, states_of}
use Rattle.world_core.proofs.QuietLemmas.{at_contains}
use Rattle.plain_run.specs.Progress.{IsGoing}
use Rattle.plain_run.specs.declared.order.Choice.{Choice}
use Rattle.plain_run.specs.Order.{CanBeMade}
use Rattle.plain_run.proofs.ReachLemmas.{goes_to_site}

-- threads may be passed by
pub passing_can : (l : Limits) (w : WorldState) (c d : Choice) → d.site ≡ c.site → d.place ≡ c.place → d.units ≡ c.units → CanBeMade l w c → CanBeMade l w d
passing_can l w c d site place units h =
    subst (λ (z : ℕ × Option ℕ × ℕ). CanBeMade l w (record { site = z.0; passed = d.passed; place = z.1; units = z.2 })) (λ i. (sym site i, sym place i, sym units i))
    (record { some = h.some; among = h.among; there = h.there; busy = h.busy; units = h.units })

-- a message that travels can be taken by its site
pub message_can : (l : Limits) (w : WorldState) (place units : ℕ) (t : Travel) → IsProgram w.program → AreLimits l → IsGoing l w.program w → AreTravels w.journal w.travels → slice_get w.travels place ≡ Some t
    → 1 ≤ units → units ≤ 64 → CanBeMade l w (record { site = t.to; passed = 0; place = Some place; units = units })
message_can l w place units t is limits going travels at some most =
    let low = subst (λ (n : ℕ). 1 ≤ n) (sym going.sites) limits.some_site in
    let high = subst (λ (n : ℕ). n ≤ 64) (sym going.sites) limits.most_sites in
    let goes = goes_to_site w.program w.sites w.journal (states_of w) is low high going.run w.travels t travels (at_contains w.travels t place at) in
    record {
      some = goes.0;
      among = subst (λ (n : ℕ). t.to ≤ n) going.sites goes.1;
      there = λ no. no t.number at;
      busy = λ none. cc;
      units = (some, most);
    }
