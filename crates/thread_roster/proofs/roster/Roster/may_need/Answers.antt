use Rattle.std.proofs.Common.{◌≡◌, refl, subst, not, Bool, true, false}
use Rattle.thread_roster.specs.Parking.{keys_for}
use Rattle.thread_roster.specs.Threads.{determine_all}
use Rattle.thread_roster.proofs.WaitingLemmas.{none_need}
use Rattle.thread_roster.proofs.roster.Roster.may_need.Goals as goal

pub returns : goal.returns
returns g c = λ none f.
    subst (λ s. determine_all f s.living ≡ s.living) c.self.view_is
    (none_need c.self.inside.slots.items (keys_for c.self.inside.waiters c.self.inside.needers) c.self.invariant.0.parked (c.is_empty.ensures (not_so c.is_empty.result none)) f)
  where
    not_so : (b : Bool) → not b ≡ false → b ≡ true
    not_so true e = refl
    not_so false e = cc
