use Rattle.std.proofs.Common.{◌∙◌, ap, sym, subst, [], ◌∷◌, List}
use Rattle.tree_node.specs.declared.names.VarName.{VarName}
use Rattle.tree_node.specs.declared.node.Term.{Term}
use Rattle.site_message.specs.Vars.{vars_of}
use Rattle.tree_node.specs.Order.{IsLower}
use Rattle.tree_node.specs.Store.{Store}
use Rattle.marshal.specs.Marshal.{with_equation, AreKnown}
use Rattle.marshal.proofs.ImportLemmas.{known_more, known_same, first_known, still_known}
use Rattle.marshal.proofs.importing.take.Goals as goal

pub bind-requires-clause-known : goal.bind-requires-clause-known
bind-requires-clause-known c =
    still_known _ c.know.new.store c.know_all.new.store _ _ c.args.var c.in_ok-know_all.ensures.known (first_known c.args.store.now c.know.new.store _ _ c.args.var c.in_ok-know.ensures.known)

pub bind-requires-clause-lower : goal.bind-requires-clause-lower
bind-requires-clause-lower c = subst (λ (t : Term). IsLower t c.args.var) (sym c.in_ok-copy.ensures) c.requires

pub returns-clause-equations : goal.returns-clause-equations
returns-clause-equations c =
    c.in_ok-bind.ensures.equations ∙ (ap (λ (s : Store). with_equation s (c.args.var, c.in_ok-copy.copy)) (c.in_ok-know_all.ensures.equations ∙ c.in_ok-know.ensures.equations)
    ∙ ap (λ (t : Term). with_equation c.args.store.now.equations (c.args.var, t)) c.in_ok-copy.ensures)

pub returns-clause-known : goal.returns-clause-known
returns-clause-known c =
    known_same (c.args.var ∷ vars_of c.args.term.now) c.args.store.now c.know_all.new.store c.bind.new.store c.args.names.now.items c.know_all.new.names.items
    (subst (λ (ys : List VarName). AreKnown (c.args.var ∷ ys) c.args.store.now c.args.names.now.items c.know_all.new.store c.know_all.new.names.items) (c.deref.ensures.value ∙ c.in_ok-vars.ensures)
    (known_more (c.args.var ∷ []) c.deref.result.now c.args.store.now c.know.new.store c.know_all.new.store c.args.names.now.items c.know.new.names.items c.know_all.new.names.items c.in_ok-know.ensures.known c.in_ok-know_all.ensures.known))
    c.in_ok-bind.ensures.known
