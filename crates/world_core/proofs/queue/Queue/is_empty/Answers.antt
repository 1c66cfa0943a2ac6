use Rattle.std.proofs.Common.{◌≡◌, ◌∙◌, sym, ℕ, List, length, subst, false, true}
use Rattle.std.specs.VecDeque.{deque_len}
use Rattle.std.proofs.lemmas.Bool.Decides.{Decides-eqb}
use Rattle.world_core.specs.Mail.{is_queued}
use Rattle.world_core.proofs.QueueLemmas.{front_none, one_there}
use Rattle.world_core.proofs.queue.Queue.is_empty.Goals as goal

pub returns-clause-none : goal.returns-clause-none
returns-clause-none c = λ yes k.
    let none : deque_len c.self.inside.numbers ≡ 0 = (Decides-eqb (deque_len c.self.inside.numbers) 0).0 (sym c.is_empty.ensures ∙ yes) in
    let size : deque_len c.self.inside.numbers ≡ length c.self.inside.numbers.items = c.self.inside.numbers.ok.0 in
    subst (λ (q : List ℕ). is_queued q k ≡ false) c.self.view_is (front_none c.self.inside.numbers.items k (sym size ∙ none))

pub returns-clause-some : goal.returns-clause-some
returns-clause-some c = λ no.
    let size : deque_len c.self.inside.numbers ≡ length c.self.inside.numbers.items = c.self.inside.numbers.ok.0 in
    subst (λ (q : List ℕ). (k : ℕ) × (is_queued q k ≡ true)) c.self.view_is (one_there c.self.inside.numbers.items
    (λ none. let yes : c.is_empty.result ≡ true = c.is_empty.ensures ∙ (Decides-eqb (deque_len c.self.inside.numbers) 0).1 (size ∙ none) in cc))
