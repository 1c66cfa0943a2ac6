use Rattle.std.proofs.Common.{arith, ◌≡◌, ◌≢◌, ◌↔◌, ◌∙◌, ap, ◌<◌, ◌+◌, List, [], ◌∷◌, ◌++◌, length, Bool, false}
use Rattle.variable_owner.specs.declared.owners.Owner.{Owner}
use Rattle.variable_owner.specs.declared.owners.Owner.TheVariants.{Open}
use Rattle.variable_owner.proofs.PlaceLemmas.{more_here}
use Rattle.variable_owner.proofs.row.Row.push.Goals as goal

pub returns-clause-ok : goal.returns-clause-ok
returns-clause-ok c =
    let none = c.self.invariant.1 (length c.self.inside.bound.items) (omega arith) in
    more_here c.self.inside.registered.entries c.self.inside.bound.items _ c.self.inside.terms.items _ _ c.self.invariant.0 none (c.push_reserved.ensures.items ∙ ap (λ (l : List Bool). l ++ false ∷ []) c.reserve.ensures.items) c.in_ok-push.ensures.items
    ∙ ap (λ (l : List Owner). l ++ Open [] ∷ []) c.self.view_is
