use Rattle.std.proofs.Common.{refl, sym, ap, subst, ◌∙◌, ◌++◌, ◌∷◌, [], Some}
use Rattle.tree_node.specs.declared.node.Term.{Term}
use Rattle.variable_owner.specs.declared.owners.Asked.{Asked}
use Rattle.variable_owner.specs.declared.owners.Asked.TheVariants.{Taken, Late}
use Rattle.site_units.proofs.SiteLemmas.{nil_right}
use Rattle.site_units.proofs.LearnLemmas.{Requested, owned_known, grant_made}
use Rattle.site_units.proofs.rows.grant.Goals as goal

pub on_request-requires-clause-linked : goal.on_request-requires-clause-linked
on_request-requires-clause-linked c = c.requires.consistent.1.linked

pub returns-in-Late-clause-row : goal.returns-in-Late-clause-row
returns-in-Late-clause-row c p h fits =
    let e = c.in_ok-asked.ensures in
    grant_made p c.args.core.now c.on_request.new.self c.on_request.new.threads c.args.output.now _ c.args.var c.args.term c.args.thread Late
    (subst (λ (a : Asked). Requested c.args.core.now c.on_request.new.self c.on_request.new.threads c.args.output.now (record c.args.output.now { sent = c.on_request.new.outbox }) c.args.var c.args.term c.args.thread a) c.in-Late.is (λ g. e.done g c.args.thread))
    e.ended e.linked e.known c.forest.ensures.sound ((h.linked.names c.args.var).0 (owned_known c.args.core.now.variables.binder c.args.var c.requires.own c.requires.made)) c.requires.known fits h
    (sym (nil_right c.args.output.now.picks)) refl

pub returns-in_ok-push_bind-in-Taken-clause-row : goal.returns-in_ok-push_bind-in-Taken-clause-row
returns-in_ok-push_bind-in-Taken-clause-row c p h fits =
    let e = c.in_ok-asked.ensures in
    grant_made p c.args.core.now c.on_request.new.self c.on_request.new.threads c.args.output.now _ c.args.var c.args.term c.args.thread Taken
    (subst (λ (a : Asked). Requested c.args.core.now c.on_request.new.self c.on_request.new.threads c.args.output.now (record c.args.output.now { sent = c.on_request.new.outbox }) c.args.var c.args.term c.args.thread a) c.in-Taken.is (λ g. e.done g c.args.thread))
    e.ended e.linked e.known c.forest.ensures.sound ((h.linked.names c.args.var).0 (owned_known c.args.core.now.variables.binder c.args.var c.requires.own c.requires.made)) c.requires.known fits h
    (c.in_ok-push_bind-in-Taken.ensures.ok ∙ ap (λ (z : Term). c.args.output.now.picks ++ record { thread = c.args.thread; fresh = []; bind = Some (c.args.var, z) } ∷ []) c.in_ok-copy.ensures) refl
