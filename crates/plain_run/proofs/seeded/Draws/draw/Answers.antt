use Rattle.std.proofs.Common.{◌≡◌, List, subst, Some}
use Rattle.std.specs.Prelude.{slice_get, slice_index_or}
use Rattle.std.proofs.lemmas.Option.{slice_get-get_or}
use Rattle.world_core.specs.Travels.{AreTravels}
use Rattle.world_core.specs.declared.travel.Travel.{Travel}
use Rattle.plain_run.proofs.DrawLemmas.{message_can}
use Rattle.plain_run.proofs.ReachLemmas.{some_is_busy}
use Rattle.plain_run.proofs.seeded.Draws.draw.Goals as goal

-- Where no site has a message or can go on the run has ended.
pub unreachable-requires : goal.unreachable-requires
unreachable-requires c = some_is_busy c.args.limits c.args.world.now c.requires.program c.requires.limits c.requires.going (λ i a b. c.in_default.ensures i a b)

pub returns-clause-can : goal.returns-clause-can
returns-clause-can c =
    let w = c.args.world.now in
    let ts = c.travelling-travels.result.now in
    let place = c.below-place.result in
    let travels = subst (AreTravels w.journal) c.travelling-travels.ensures.value c.travelling-travels.ensures.exact in
    let there = slice_get-get_or ts place (record { number = 0; to = 0 }) c.below-place.ensures in
    let at = subst (λ (xs : List Travel). slice_get xs place ≡ Some (slice_index_or ts place (record { number = 0; to = 0 }))) c.travelling-travels.ensures.value there in
    message_can c.args.limits w place c.draw_units-units.result (slice_index_or ts place (record { number = 0; to = 0 })) c.requires.program c.requires.limits c.requires.going travels at c.draw_units-units.ensures.some c.draw_units-units.ensures.most
