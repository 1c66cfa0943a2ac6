use Rattle.std.proofs.Common.{◌∙◌, sym, ap, subst, ℕ, ◌<◌, length}
use Rattle.std.specs.Prelude.{Option, IfSome}
use Rattle.oz_grammar.specs.Scoping.{Scope, position_of}
use Rattle.oz_phrases.proofs.Declaring.{position_within}
use Rattle.oz_phrases.proofs.scope.Scope.position.Goals as goal

pub returns-clause-within : goal.returns-clause-within
returns-clause-within c =
    subst (λ (o : Option ℕ). IfSome o (λ p. p < length c.args.self.now))
    (sym (c.position_named.ensures ∙ c.self.invariant.positions_are c.args.name.now ∙ ap (λ (s : Scope). position_of s c.args.name.now) c.self.view_is))
    (position_within c.args.self.now c.args.name.now)
