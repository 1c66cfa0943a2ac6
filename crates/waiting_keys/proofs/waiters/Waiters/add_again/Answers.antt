use Rattle.std.proofs.Common.{sym}
use Rattle.indexmap.proofs.MapLemmas.{OnOk-map}
use Rattle.waiting_keys.specs.Keys.{keys_among}
use Rattle.waiting_keys.proofs.WaitLemmas.{has_queue}
use Rattle.waiting_keys.proofs.AgainLemmas.{queued_again, there_again, added_there, nothing_put, no_last}
use Rattle.waiting_keys.proofs.waiters.Waiters.add_again.Goals as goal

pub push_again-requires : goal.push_again-requires
push_again-requires c = has_queue c.self.inside.numbers.entries c.self.inside.queues c.args.var c.in-Some.number.now c.self.invariant (sym c.in-Some.ensures.value)

pub returns-in-Some-clause-stay : goal.returns-in-Some-clause-stay
returns-in-Some-clause-stay c =
    rw (← c.self.view_is)
    (queued_again c.self.inside.numbers.entries c.self.inside.queues c.push_again.new.queues c.args.var c.in-Some.number.now c.args.key c.self.invariant (sym c.in-Some.ensures.value)
    c.push_again.ensures.stay c.push_again.ensures.others)

pub returns-in-Some-clause-there : goal.returns-in-Some-clause-there
returns-in-Some-clause-there c =
    OnOk-map c.push_again.result _ _ (there_again c.self.inside.numbers.entries c.push_again.new.queues c.args.var c.in-Some.number.now c.args.key (sym c.in-Some.ensures.value)) c.push_again.ensures.there

pub returns-in-None-clause-there : goal.returns-in-None-clause-there
returns-in-None-clause-there c = OnOk-map c.add.result _ _ (added_there (keys_among c.args.self.now) (keys_among c.add.new.self) c.args.var c.args.key) c.add.ensures.ok

pub returns-in-Some-clause-last : goal.returns-in-Some-clause-last
returns-in-Some-clause-last c =
    rw (← c.self.view_is)
    (nothing_put c.self.inside.numbers.entries c.self.inside.queues c.push_again.new.queues c.args.var c.in-Some.number.now c.args.key (sym c.in-Some.ensures.value)
    c.push_again.ensures.last c.push_again.ensures.others)

pub returns-in-None-clause-last : goal.returns-in-None-clause-last
returns-in-None-clause-last c ks e =
    absurd (no_last c.self.inside.numbers.entries c.self.inside.queues c.args.var ks c.args.key (sym c.in-None.ensures.value) (rw (← c.self.view_is) at e))
