use Rattle.std.proofs.Common.{◌∙◌, sym, ap, subst, ℕ, List}
use Rattle.world_core.specs.Mail.{is_queued}
use Rattle.world_core.specs.Queue.{IsAscending}
use Rattle.world_core.proofs.QueueLemmas.{ascends_push, queued_push}
use Rattle.world_core.proofs.queue.push_last.Goals as goal

pub returns-in_err-push_back-clause-ascending : goal.returns-in_err-push_back-clause-ascending
returns-in_err-push_back-clause-ascending c = subst IsAscending (sym c.in_err-push_back.ensures.items) c.requires.ascending

pub returns-clause-ascending : goal.returns-clause-ascending
returns-clause-ascending c = subst IsAscending (sym c.in_ok-push_back.ensures.items) (ascends_push c.args.numbers.now.items c.args.number c.requires.ascending c.requires.behind)

pub returns-clause-ok : goal.returns-clause-ok
returns-clause-ok c k = ap (λ (l : List ℕ). is_queued l k) c.in_ok-push_back.ensures.items ∙ queued_push c.args.numbers.now.items c.args.number k
