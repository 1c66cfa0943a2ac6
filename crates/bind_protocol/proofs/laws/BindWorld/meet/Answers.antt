use Rattle.bind_protocol.proofs.CodeLemmas.{lent_made, meet_done, meet_front, outcome_front}
use Rattle.bind_protocol.proofs.laws.BindWorld.meet.Goals as goal

pub meet_at-requires : goal.meet_at-requires
meet_at-requires c =
    lent_made _ c.args.self.now c.args.site c.index_mut.result.now c.self.view_is c.self.invariant c.requires.site c.index_mut.ensures.value c.args.var c.requires.made

pub invariant_of-self : goal.invariant_of-self
invariant_of-self c = (meet_done _ c.args.self.now c.args.site c.args.var c.index_mut.result.now c.meet_at.new.binder c.meet_at.new.travelling c.meet_at.result c.self.view_is c.self.invariant c.requires c.index_mut.ensures.value c.meet_at.ensures.records c.meet_at.ensures.sent c.meet_at.ensures.same c.meet_at.ensures.unsent).lawful

pub returns-clause-ok : goal.returns-clause-ok
returns-clause-ok c = (meet_done _ c.args.self.now c.args.site c.args.var c.index_mut.result.now c.meet_at.new.binder c.meet_at.new.travelling c.meet_at.result c.self.view_is c.self.invariant c.requires c.index_mut.ensures.value c.meet_at.ensures.records c.meet_at.ensures.sent c.meet_at.ensures.same c.meet_at.ensures.unsent).outcome.ok

pub returns-clause-holds : goal.returns-clause-holds
returns-clause-holds c = (meet_done _ c.args.self.now c.args.site c.args.var c.index_mut.result.now c.meet_at.new.binder c.meet_at.new.travelling c.meet_at.result c.self.view_is c.self.invariant c.requires c.index_mut.ensures.value c.meet_at.ensures.records c.meet_at.ensures.sent c.meet_at.ensures.same c.meet_at.ensures.unsent).holds

pub returns-clause-grows : goal.returns-clause-grows
returns-clause-grows c = (meet_done _ c.args.self.now c.args.site c.args.var c.index_mut.result.now c.meet_at.new.binder c.meet_at.new.travelling c.meet_at.result c.self.view_is c.self.invariant c.requires c.index_mut.ensures.value c.meet_at.ensures.records c.meet_at.ensures.sent c.meet_at.ensures.same c.meet_at.ensures.unsent).grows

pub returns-clause-front : goal.returns-clause-front
returns-clause-front c =
    outcome_front c.args.self.now _ _ c.meet_at.result
    (meet_done _ c.args.self.now c.args.site c.args.var c.index_mut.result.now c.meet_at.new.binder c.meet_at.new.travelling c.meet_at.result c.self.view_is c.self.invariant c.requires c.index_mut.ensures.value c.meet_at.ensures.records c.meet_at.ensures.sent c.meet_at.ensures.same c.meet_at.ensures.unsent).outcome
    (meet_front _ c.args.self.now c.args.site c.args.var c.self.view_is c.self.invariant c.requires)
