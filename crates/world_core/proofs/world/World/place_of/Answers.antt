use Rattle.std.proofs.Common.{◌≡◌, ◌∙◌, ap, subst, sym, ℕ, List, false}
use Rattle.std.specs.Prelude.{Some}
use Rattle.site_message.specs.declared.turn.Turn.{Turn}
use Rattle.site_message.specs.Journal.{IsTravelling}
use Rattle.world_core.specs.declared.travel.Travel.{Travel}
use Rattle.world_core.specs.Travels.{IsAt, IsPlaceOf}
use Rattle.world_core.specs.World.{WorldState}
use Rattle.world_core.proofs.TravelLemmas.{there_travels}
use Rattle.world_core.proofs.world.World.place_of.Goals as goal

pub returns-clause-place : goal.returns-clause-place
returns-clause-place c = subst (λ (ts : List Travel). IsPlaceOf ts c.args.number c.place_of.result) (ap (λ (v : WorldState). v.travels) c.self.view_is) c.place_of.ensures.place

pub returns-clause-travels : goal.returns-clause-travels
returns-clause-travels c m travels =
    let w = c.self.inside in
    let live : w.spent ≡ false = ap (λ (v : WorldState). v.spent) c.self.view_is ∙ c.requires.live in
    let here : IsTravelling w.journal c.args.number m = subst (λ (j : List Turn). IsTravelling j c.args.number m) (sym (ap (λ (v : WorldState). v.journal) c.self.view_is)) travels in
    subst (λ (ts : List Travel). (place : ℕ) × (c.place_of.result ≡ Some place) × IsAt ts m.to place c.args.number) (ap (λ (v : WorldState). v.travels) c.self.view_is)
    (c.place_of.ensures.held m ((c.self.invariant.live live).travels c.args.number ∙ there_travels w.journal c.args.number m here))
