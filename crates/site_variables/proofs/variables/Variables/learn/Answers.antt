use Rattle.std.proofs.Common.{◌∙◌, ◌∷◌, ap, sym, refl}
use Rattle.tree_node.specs.Store.{Store}
use Rattle.thread_roster.specs.Binds.{by_node}
use Rattle.site_variables.proofs.LinkLemmas.{learn_linked, grown_to}
use Rattle.site_variables.proofs.RowLemmas.{done_learnt, stacks_bound}
use Rattle.thread_roster.proofs.BehindLemmas.{behind_same}
use Rattle.site_variables.proofs.variables.Variables.learn.Goals as goal

pub returns-clause-done : goal.returns-clause-done
returns-clause-done g c =
    λ f. done_learnt _ _ c.args.var c.args.term (sym c.owns.ensures ∙ c.if-owns.false) (c.is_bound.ensures.no c.if-is_bound.false) c.in_ok-learn_new.ensures.equations c.in_ok-learn_new.ensures.records
    (stacks_bound f c.learn_new.new.self.store.equations ((c.args.var, c.args.term) ∷ c.args.self.now.store.equations) c.args.var c.args.threads.now.living _
    (λ y. ap (λ (s : Store). by_node s c.args.var y) (sym c.in_ok-learn_new.ensures.equations)) c.in_ok-learn_new.ensures.woken) refl

pub returns-clause-linked : goal.returns-clause-linked
returns-clause-linked g c =
    learn_linked c.args.self.now c.learn_new.new.self c.args.var c.args.term c.requires.linked (sym c.owns.ensures ∙ c.if-owns.false) (c.is_bound.ensures.no c.if-is_bound.false)
    c.in_ok-learn_new.ensures.equations c.in_ok-learn_new.ensures.names c.in_ok-learn_new.ensures.records

pub returns-clause-grows : goal.returns-clause-grows
returns-clause-grows g c = grown_to c.args.self.now.store.known c.learn_new.new.self.store.known c.args.var c.in_ok-learn_new.ensures.names

pub returns-then-owns-clause-order : goal.returns-then-owns-clause-order
returns-then-owns-clause-order g c = behind_same _ _ refl

pub returns-then-is_bound-clause-order : goal.returns-then-is_bound-clause-order
returns-then-is_bound-clause-order g c = behind_same _ _ refl
