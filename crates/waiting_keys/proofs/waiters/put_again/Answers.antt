use Rattle.std.proofs.Common.{sym, subst, ℕ, List}
use Rattle.waiting_keys.specs.Keys.{IsQueuedAgain}
use Rattle.waiting_keys.proofs.AgainLemmas.{again_pushed, again_shorter}
use Rattle.waiting_keys.proofs.waiters.put_again.Goals as goal

pub returns-in_err-make_room-clause-stay : goal.returns-in_err-make_room-clause-stay
returns-in_err-make_room-clause-stay c = again_shorter c.args.keys.now.items c.make_room.new.keys.items c.args.key c.make_room.ensures

pub returns-in_err-push-clause-stay : goal.returns-in_err-push-clause-stay
returns-in_err-push-clause-stay c =
    subst (λ (l : List ℕ). IsQueuedAgain c.args.keys.now.items c.args.key l) (sym c.in_err-push.ensures.items) (again_shorter c.args.keys.now.items c.make_room.new.keys.items c.args.key c.make_room.ensures)

pub returns-clause-stay : goal.returns-clause-stay
returns-clause-stay c =
    subst (λ (l : List ℕ). IsQueuedAgain c.args.keys.now.items c.args.key l) (sym c.in_ok-push.ensures.items) (again_pushed c.args.keys.now.items c.make_room.new.keys.items c.args.key c.make_room.ensures)
