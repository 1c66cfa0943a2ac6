use Rattle.std.proofs.Common.{arith, ◌≡◌, ◌≢◌, ◌↔◌, ◌∙◌, ap, sym, ◌<◌, ◌+◌, List, [], ◌∷◌, ◌++◌, length, true, false, Some}
use Rattle.variable_owner.specs.declared.owners.Owner.{Owner}
use Rattle.variable_owner.specs.declared.owners.Owner.TheVariants.{Open, Bound}
use Rattle.variable_owner.specs.Owners.{sites_of}
use Rattle.variable_owner.specs.Row.{owner_in, sites_at}
use Rattle.variable_owner.proofs.PlaceLemmas.{many, is_bound, open_here}
use Rattle.variable_owner.proofs.row.Row.registered.Goals as goal

pub index-requires : goal.index-requires
index-requires c =
    let count : length c.args.self.now ≡ length c.self.inside.bound.items = ap (λ (l : List Owner). length l) (sym c.self.view_is) ∙ many c.self.inside.registered.entries 0 c.self.inside.bound.items c.self.inside.terms.items c.self.invariant.0 in
    let below : c.args.place < length c.self.inside.bound.items = omega (arith, count, c.requires) in
    omega (arith, below, c.self.invariant.0, c.self.inside.bound.ok.0)

pub returns-then-index : goal.returns-then-index
returns-then-index c =
    let count : length c.args.self.now ≡ length c.self.inside.bound.items = ap (λ (l : List Owner). length l) (sym c.self.view_is) ∙ many c.self.inside.registered.entries 0 c.self.inside.bound.items c.self.inside.terms.items c.self.invariant.0 in
    let below : c.args.place < length c.self.inside.bound.items = omega (arith, count, c.requires) in
    let some = is_bound c.self.inside.registered.entries 0 c.self.inside.bound.items c.self.inside.terms.items c.args.place _ c.self.invariant.0 below c.index.ensures c.if-index.true in
    let held : owner_in c.args.self.now c.args.place ≡ Bound some.0 = ap (λ (l : List Owner). owner_in l c.args.place) (sym c.self.view_is) ∙ some.1 in
    sym (ap (λ (o : Owner). sites_of (Some o)) held)

pub returns : goal.returns
returns c =
    let count : length c.args.self.now ≡ length c.self.inside.bound.items = ap (λ (l : List Owner). length l) (sym c.self.view_is) ∙ many c.self.inside.registered.entries 0 c.self.inside.bound.items c.self.inside.terms.items c.self.invariant.0 in
    let below : c.args.place < length c.self.inside.bound.items = omega (arith, count, c.requires) in
    let held : owner_in c.args.self.now c.args.place ≡ Open (sites_at c.self.inside.registered.entries c.args.place) = ap (λ (l : List Owner). owner_in l c.args.place) (sym c.self.view_is) ∙ open_here c.self.inside.registered.entries c.self.inside.bound.items c.self.inside.terms.items c.args.place _ c.self.invariant.0 below c.index.ensures c.if-index.false in
    c.at.ensures ∙ sym (ap (λ (o : Owner). sites_of (Some o)) held)
