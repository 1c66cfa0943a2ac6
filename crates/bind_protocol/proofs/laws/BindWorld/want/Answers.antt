use Rattle.std.proofs.Common.{◌∙◌}
use Rattle.bind_protocol.proofs.CodeLemmas.{lent_knows, want_done}
use Rattle.bind_protocol.proofs.laws.BindWorld.want.Goals as goal

pub want_at-requires : goal.want_at-requires
want_at-requires c =
    lent_knows _ c.args.self.now c.args.site c.index_mut.result.now c.self.view_is c.self.invariant c.requires.site c.index_mut.ensures.value c.args.var ∙ c.requires.unbound

pub invariant_of-self : goal.invariant_of-self
invariant_of-self c = (want_done _ c.args.self.now c.args.site c.args.var c.args.term c.args.thread c.index_mut.result.now c.want_at.new.binder c.want_at.new.travelling c.want_at.result c.self.view_is c.self.invariant c.requires c.index_mut.ensures.value c.want_at.ensures.records c.want_at.ensures.sent c.want_at.ensures.same c.want_at.ensures.unsent).lawful

pub returns-clause-ok : goal.returns-clause-ok
returns-clause-ok c = (want_done _ c.args.self.now c.args.site c.args.var c.args.term c.args.thread c.index_mut.result.now c.want_at.new.binder c.want_at.new.travelling c.want_at.result c.self.view_is c.self.invariant c.requires c.index_mut.ensures.value c.want_at.ensures.records c.want_at.ensures.sent c.want_at.ensures.same c.want_at.ensures.unsent).outcome.ok

pub returns-clause-holds : goal.returns-clause-holds
returns-clause-holds c = (want_done _ c.args.self.now c.args.site c.args.var c.args.term c.args.thread c.index_mut.result.now c.want_at.new.binder c.want_at.new.travelling c.want_at.result c.self.view_is c.self.invariant c.requires c.index_mut.ensures.value c.want_at.ensures.records c.want_at.ensures.sent c.want_at.ensures.same c.want_at.ensures.unsent).holds

pub returns-clause-grows : goal.returns-clause-grows
returns-clause-grows c = (want_done _ c.args.self.now c.args.site c.args.var c.args.term c.args.thread c.index_mut.result.now c.want_at.new.binder c.want_at.new.travelling c.want_at.result c.self.view_is c.self.invariant c.requires c.index_mut.ensures.value c.want_at.ensures.records c.want_at.ensures.sent c.want_at.ensures.same c.want_at.ensures.unsent).grows
