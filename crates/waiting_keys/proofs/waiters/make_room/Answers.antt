use Rattle.std.proofs.Common.{subst, ℕ, List}
use Rattle.waiting_keys.proofs.AgainLemmas.{HaveSame}
use Rattle.waiting_keys.proofs.waiters.make_room.Goals as goal

pub returns-in_ok-keys : goal.returns-in_ok-keys
returns-in_ok-keys c = subst (λ (l : List ℕ). HaveSame c.in_ok-keys.field-0.items l) c.deref.ensures.value c.in_ok-keys.ensures
