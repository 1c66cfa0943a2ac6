use Rattle.std.proofs.Common.{rules, ◌∙◌, ◌≡◌, ap, cond, sym, subst, refl, inr, List, Bool, true}
use Rattle.std.specs.Prelude.{Contains}
use Rattle.tree_node.specs.declared.names.VarName.{VarName}
use Rattle.tree_node.specs.Store.{Store, IsFree}
use Rattle.bind_protocol.specs.Records.{is_own}
use Rattle.bind_protocol.specs.Rows.{after_binding}
use Rattle.site_variables.proofs.LinkLemmas.{free_here, with_name_is}
use Rattle.site_variables.proofs.variables.Variables.learn_new.Goals as goal

pub bind-requires-clause-known : goal.bind-requires-clause-known
bind-requires-clause-known g c =
    subst (λ (l : List VarName). Contains l c.args.var) (sym c.in_ok-know.ensures.known) ((with_name_is c.args.self.now.store.known c.args.var c.args.var).1 (inr refl))

pub bind-requires-clause-unbound : goal.bind-requires-clause-unbound
bind-requires-clause-unbound g c =
    subst (λ (s : Store). IsFree s c.args.var) (sym c.know.ensures.equations)
    (free_here c.args.self.now.store.equations c.args.self.now.store.known c.args.self.now.binder c.args.var c.requires.linked c.requires.unbound)

pub meet_bound-requires-clause-same : goal.meet_bound-requires-clause-same
meet_bound-requires-clause-same g c t k = absurd (c.requires.unbound t k)

pub meet_bound-requires-clause-own : goal.meet_bound-requires-clause-own
meet_bound-requires-clause-own g c own = let yes : is_own c.args.self.now.binder c.args.var ≡ true = search rules in cc

pub returns-clause-records : goal.returns-clause-records
returns-clause-records g c =
    c.in_ok-meet_bound.ensures.records ∙ ap (λ (b : Bool). cond b c.args.self.now.binder (after_binding c.args.self.now.binder c.args.var c.args.term)) c.requires.elsewhere
