use Rattle.std.proofs.Common.{◌∙◌, sym, ap, subst, ℕ, List}
use Rattle.world_core.specs.Mail.{is_queued}
use Rattle.world_core.specs.Queue.{IsAscending}
use Rattle.world_core.proofs.QueueLemmas.{first_gone, ascends_gone, queued_gone}
use Rattle.world_core.proofs.queue.take_first.Goals as goal

pub returns-clause-ascending : goal.returns-clause-ascending
returns-clause-ascending c =
    let now = c.pop_front.ensures.rest ∙ first_gone c.args.numbers.now.items c.requires.first.0 in
    subst IsAscending (sym now) (ascends_gone c.args.numbers.now.items 0 c.requires.ascending)

pub returns-clause-gone : goal.returns-clause-gone
returns-clause-gone c k =
    let now = c.pop_front.ensures.rest ∙ first_gone c.args.numbers.now.items c.requires.first.0 in
    ap (λ (l : List ℕ). is_queued l k) now ∙ queued_gone c.args.numbers.now.items 0 c.args.number c.args.number k c.requires.ascending c.requires.first.0 c.requires.first.1
