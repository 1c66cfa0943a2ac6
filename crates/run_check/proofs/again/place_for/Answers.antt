use Rattle.std.proofs.Common.{sym, subst, ℕ}
use Rattle.std.specs.Prelude.{Option, Some}
use Rattle.run_check.specs.World.{IsLookedUp, TravelsNowhere}
use Rattle.run_check.proofs.WorldLemmas.{looked_up, none_there}
use Rattle.run_check.proofs.again.place_for.Goals as goal

pub returns-in-Some-place_of-clause-place : goal.returns-in-Some-place_of-clause-place
returns-in-Some-place_of-clause-place c =
    let w = c.args.world.now in
    subst (λ (d : Option ℕ). IsLookedUp w.journal w.travels d (Some c.in-Some-place_of.place)) (sym c.in-Some.is)
    (looked_up w.journal w.travels c.in-Some.number c.in-Some-place_of.place c.in-Some-place_of.ensures.place c.in-Some-place_of.ensures.travels)

pub returns-in-None-clause-none : goal.returns-in-None-clause-none
returns-in-None-clause-none c =
    let w = c.args.world.now in
    subst (λ (d : Option ℕ). TravelsNowhere w.journal d) (sym c.in-Some.is) (none_there w.journal w.travels c.in-Some.number c.in-None.ensures.travels)
