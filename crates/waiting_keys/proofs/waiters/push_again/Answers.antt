use Rattle.std.proofs.Common.{sym}
use Rattle.waiting_keys.proofs.AgainLemmas.{queue_changed}
use Rattle.waiting_keys.proofs.waiters.push_again.Goals as goal

pub returns-in_err-put_again-clause-stay : goal.returns-in_err-put_again-clause-stay
returns-in_err-put_again-clause-stay c = queue_changed c.args.queues.now c.args.number c.args.key c.in-Some.keys.now c.put_again.new.keys c.requires (sym c.in-Some.ensures.value) c.put_again.ensures.stay

pub returns-in_ok-put_again-clause-stay : goal.returns-in_ok-put_again-clause-stay
returns-in_ok-put_again-clause-stay c = queue_changed c.args.queues.now c.args.number c.args.key c.in-Some.keys.now c.put_again.new.keys c.requires (sym c.in-Some.ensures.value) c.put_again.ensures.stay
