use Rattle.std.proofs.Common.{arith, ◌<◌, ◌∙◌, sym, ap, subst, ℕ, List}
use Rattle.std.specs.VecDeque.{deque_len}
use Rattle.world_core.specs.Mail.{is_queued}
use Rattle.world_core.specs.Queue.{IsAscending}
use Rattle.world_core.proofs.QueueLemmas.{on_some, ascends_gone, queued_gone}
use Rattle.world_core.proofs.queue.take_at.Goals as goal

pub returns-clause-ascending : goal.returns-clause-ascending
returns-clause-ascending c =
    let inside : c.args.place < deque_len c.args.numbers.now = omega (arith, c.requires.inside, c.args.numbers.now.ok.0) in
    let now = on_some c.remove.result _ (c.remove.ensures.succeeds c.args.number inside) c.remove.ensures.items in
    subst IsAscending (sym now) (ascends_gone c.args.numbers.now.items c.args.place c.requires.ascending)

pub returns-clause-gone : goal.returns-clause-gone
returns-clause-gone c k =
    let inside : c.args.place < deque_len c.args.numbers.now = omega (arith, c.requires.inside, c.args.numbers.now.ok.0) in
    let now = on_some c.remove.result _ (c.remove.ensures.succeeds c.args.number inside) c.remove.ensures.items in
    ap (λ (l : List ℕ). is_queued l k) now ∙ queued_gone c.args.numbers.now.items c.args.place c.args.number c.args.number k c.requires.ascending c.requires.inside c.requires.there
