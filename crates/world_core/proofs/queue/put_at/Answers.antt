use Rattle.std.proofs.Common.{◌∙◌, sym, ap, subst, ℕ, List}
use Rattle.world_core.specs.Mail.{is_queued}
use Rattle.world_core.specs.Queue.{IsAscending}
use Rattle.world_core.proofs.QueueLemmas.{ascends_put, queued_put}
use Rattle.world_core.proofs.queue.put_at.Goals as goal

pub returns-in_err-insert-clause-ascending : goal.returns-in_err-insert-clause-ascending
returns-in_err-insert-clause-ascending c = subst IsAscending (sym c.in_err-insert.ensures.unchanged.0) c.requires.ascending

pub returns-clause-ascending : goal.returns-clause-ascending
returns-clause-ascending c =
    subst IsAscending (sym c.in_ok-insert.ensures.items)
    (ascends_put c.args.numbers.now.items c.args.number c.args.place c.requires.ascending c.requires.among c.requires.within c.requires.absent)

pub returns-clause-ok : goal.returns-clause-ok
returns-clause-ok c k = ap (λ (l : List ℕ). is_queued l k) c.in_ok-insert.ensures.items ∙ queued_put c.args.numbers.now.items c.args.place c.args.number k
