use Rattle.bind_protocol.proofs.CodeLemmas.{lent_site, lent_new, make_done}
use Rattle.std.proofs.Common.{◌∙◌, sym}
use Rattle.bind_protocol.proofs.laws.BindWorld.make.Goals as goal

pub make-requires-clause-own : goal.make-requires-clause-own
make-requires-clause-own c =
    c.requires.own ∙ sym (lent_site _ c.args.self.now c.args.site c.index_mut.result.now c.self.view_is c.self.invariant c.requires.site c.index_mut.ensures.value)

pub make-requires-clause-new : goal.make-requires-clause-new
make-requires-clause-new c =
    lent_new _ c.args.self.now c.args.site c.index_mut.result.now c.self.view_is c.self.invariant c.requires.site c.index_mut.ensures.value c.args.var c.requires.own c.requires.new

pub invariant_of-self : goal.invariant_of-self
invariant_of-self c = (make_done _ c.args.self.now c.args.site c.args.var c.index_mut.result.now c.make.new.self c.make.result c.self.view_is c.self.invariant c.requires c.index_mut.ensures.value c.make.ensures.ok c.make.ensures.err).lawful

pub returns-clause-ok : goal.returns-clause-ok
returns-clause-ok c = (make_done _ c.args.self.now c.args.site c.args.var c.index_mut.result.now c.make.new.self c.make.result c.self.view_is c.self.invariant c.requires c.index_mut.ensures.value c.make.ensures.ok c.make.ensures.err).outcome.ok

pub returns-clause-holds : goal.returns-clause-holds
returns-clause-holds c = (make_done _ c.args.self.now c.args.site c.args.var c.index_mut.result.now c.make.new.self c.make.result c.self.view_is c.self.invariant c.requires c.index_mut.ensures.value c.make.ensures.ok c.make.ensures.err).holds

pub returns-clause-grows : goal.returns-clause-grows
returns-clause-grows c = (make_done _ c.args.self.now c.args.site c.args.var c.index_mut.result.now c.make.new.self c.make.result c.self.view_is c.self.invariant c.requires c.index_mut.ensures.value c.make.ensures.ok c.make.ensures.err).grows
