use Rattle.std.proofs.Common.{arith, ◌≡◌, ◌<◌, ◌≤◌, ◌∙◌, sym, subst, refl, ℕ, List, length, true, false}
use Rattle.std.specs.VecDeque.{deque_len}
use Rattle.world_core.specs.Mail.{is_queued}
use Rattle.world_core.proofs.QueueLemmas.{front_none, front_there, front_least, no_length}
use Rattle.world_core.proofs.queue.Queue.first.Goals as goal

pub returns-in-None : goal.returns-in-None
returns-in-None c k =
    subst (λ (l : List ℕ). is_queued l k ≡ false) c.self.view_is
    (front_none c.self.inside.numbers.items k (sym c.self.inside.numbers.ok.0 ∙ no_length (deque_len c.self.inside.numbers) (λ some. c.in-None.ensures.variant.1 some)))

pub returns-in-Some : goal.returns-in-Some
returns-in-Some c =
    let items = c.self.inside.numbers.items in
    let first = c.in-Some.first.now in
    let held : 0 < deque_len c.self.inside.numbers = c.in-Some.ensures.variant.0 refl in
    let some : 0 < length items = omega (arith, held, c.self.inside.numbers.ok.0) in
    subst (λ (l : List ℕ). (is_queued l first ≡ true) × ((k : ℕ) → is_queued l k ≡ true → first ≤ k)) c.self.view_is (
      subst (λ (n : ℕ). is_queued items n ≡ true) (sym c.in-Some.ensures.lookup) (front_there items first some),
      λ k yes. subst (λ (n : ℕ). n ≤ k) (sym c.in-Some.ensures.lookup) (front_least items first k some c.self.invariant yes),
    )
