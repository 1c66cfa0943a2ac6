use Rattle.std.proofs.Common.{arith, ◌<◌, ◌-◌, length}
use Rattle.bind_protocol.proofs.CodeLemmas.{travels_to, travels_taken, travels_range, take_done}
use Rattle.bind_protocol.proofs.laws.BindWorld.take.Goals as goal

pub overflow_sub-sent : goal.overflow_sub-sent
overflow_sub-sent c = (travels_to _ c.args.self.now c.args.place c.args.sent c.self.view_is c.self.invariant c.requires).0

pub index_mut-requires : goal.index_mut-requires
index_mut-requires c =
    let h : c.args.sent.to - 1 < length c.self.inside.binders.items = travels_range _ c.args.self.now c.args.place c.args.sent c.self.view_is c.self.invariant c.requires in
    omega (arith, c.self.inside.binders.ok)

pub deliver_at-requires-clause-taken : goal.deliver_at-requires-clause-taken
deliver_at-requires-clause-taken c =
    travels_taken _ c.args.self.now c.args.place c.args.sent c.index_mut.result.now c.self.view_is c.self.invariant c.requires c.index_mut.ensures.value

pub invariant_of-self : goal.invariant_of-self
invariant_of-self c =
    (take_done _ c.args.self.now c.args.place c.args.sent c.index_mut.result.now c.deliver_at.new.binder c.deliver_at.new.travelling c.deliver_at.new.delivered.items c.deliver_at.result c.self.view_is c.self.invariant c.requires c.index_mut.ensures.value c.deliver_at.ensures.records c.deliver_at.ensures.travelling c.deliver_at.ensures.delivered c.deliver_at.ensures.same c.deliver_at.ensures.unsent c.deliver_at.ensures.undelivered).lawful

pub returns-clause-ok : goal.returns-clause-ok
returns-clause-ok c =
    (take_done _ c.args.self.now c.args.place c.args.sent c.index_mut.result.now c.deliver_at.new.binder c.deliver_at.new.travelling c.deliver_at.new.delivered.items c.deliver_at.result c.self.view_is c.self.invariant c.requires c.index_mut.ensures.value c.deliver_at.ensures.records c.deliver_at.ensures.travelling c.deliver_at.ensures.delivered c.deliver_at.ensures.same c.deliver_at.ensures.unsent c.deliver_at.ensures.undelivered).outcome.ok

pub returns-clause-holds : goal.returns-clause-holds
returns-clause-holds c =
    (take_done _ c.args.self.now c.args.place c.args.sent c.index_mut.result.now c.deliver_at.new.binder c.deliver_at.new.travelling c.deliver_at.new.delivered.items c.deliver_at.result c.self.view_is c.self.invariant c.requires c.index_mut.ensures.value c.deliver_at.ensures.records c.deliver_at.ensures.travelling c.deliver_at.ensures.delivered c.deliver_at.ensures.same c.deliver_at.ensures.unsent c.deliver_at.ensures.undelivered).holds

pub returns-clause-grows : goal.returns-clause-grows
returns-clause-grows c =
    (take_done _ c.args.self.now c.args.place c.args.sent c.index_mut.result.now c.deliver_at.new.binder c.deliver_at.new.travelling c.deliver_at.new.delivered.items c.deliver_at.result c.self.view_is c.self.invariant c.requires c.index_mut.ensures.value c.deliver_at.ensures.records c.deliver_at.ensures.travelling c.deliver_at.ensures.delivered c.deliver_at.ensures.same c.deliver_at.ensures.unsent c.deliver_at.ensures.undelivered).grows
