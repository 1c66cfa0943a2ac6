use Rattle.std.proofs.Common.{sym, subst}
use Rattle.oz_phrases.specs.ScopeIndex.{Declarations, Positions, IsIndexed}
use Rattle.oz_phrases.proofs.Declaring.{kept_within, last_is_kept, indexed_less}
use Rattle.oz_phrases.proofs.scope.Scope.leave.Goals as goal

pub exchange-requires : goal.exchange-requires
exchange-requires c =
    kept_within c.self.inside.positions.entries c.in-Some.field-0-0 c.in-Some.place
    (last_is_kept c.pop.new.self.items c.self.inside.positions.entries c.in-Some.field-0-0 c.in-Some.hidden c.in-Some.place
    (subst (λ (ds : Declarations). IsIndexed ds c.self.inside.positions.entries) c.in-Some.ensures.items c.self.invariant))

pub invariant_of-self : goal.invariant_of-self
invariant_of-self c =
    subst (λ (es : Positions). IsIndexed c.pop.new.self.items es) (sym c.exchange.ensures.entries)
    (indexed_less c.pop.new.self.items c.self.inside.positions.entries c.in-Some.field-0-0 c.in-Some.hidden c.in-Some.place
    (subst (λ (ds : Declarations). IsIndexed ds c.self.inside.positions.entries) c.in-Some.ensures.items c.self.invariant))
