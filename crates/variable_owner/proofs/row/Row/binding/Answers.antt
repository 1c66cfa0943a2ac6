use Rattle.std.proofs.Common.{arith, ◌≡◌, ◌≢◌, ◌↔◌, ◌∙◌, ap, sym, ◌<◌, ◌+◌, List, [], ◌∷◌, ◌++◌, length, true, false, Some}
use Rattle.variable_owner.specs.declared.owners.Owner.{Owner}
use Rattle.variable_owner.specs.declared.owners.Owner.TheVariants.{Open, Bound}
use Rattle.variable_owner.specs.Owners.{binding_of}
use Rattle.variable_owner.specs.Row.{owner_in, sites_at}
use Rattle.variable_owner.proofs.PlaceLemmas.{many, held_bound, open_here}
use Rattle.variable_owner.proofs.row.Row.binding.Goals as goal

pub index-requires : goal.index-requires
index-requires c =
    let count : length c.args.self.now ≡ length c.self.inside.bound.items = ap (λ (l : List Owner). length l) (sym c.self.view_is) ∙ many c.self.inside.registered.entries 0 c.self.inside.bound.items c.self.inside.terms.items c.self.invariant.0 in
    let below : c.args.place < length c.self.inside.bound.items = omega (arith, count, c.requires) in
    omega (arith, below, c.self.invariant.0, c.self.inside.bound.ok.0)

pub index-requires-then-index : goal.index-requires-then-index
index-requires-then-index c =
    let count : length c.args.self.now ≡ length c.self.inside.bound.items = ap (λ (l : List Owner). length l) (sym c.self.view_is) ∙ many c.self.inside.registered.entries 0 c.self.inside.bound.items c.self.inside.terms.items c.self.invariant.0 in
    let below : c.args.place < length c.self.inside.bound.items = omega (arith, count, c.requires) in
    omega (arith, below, c.self.invariant.0, c.self.inside.terms.ok.0)

pub returns-then-index : goal.returns-then-index
returns-then-index c =
    let count : length c.args.self.now ≡ length c.self.inside.bound.items = ap (λ (l : List Owner). length l) (sym c.self.view_is) ∙ many c.self.inside.registered.entries 0 c.self.inside.bound.items c.self.inside.terms.items c.self.invariant.0 in
    let below : c.args.place < length c.self.inside.bound.items = omega (arith, count, c.requires) in
    let held : owner_in c.args.self.now c.args.place ≡ Bound c.index-then-index.result.now = ap (λ (l : List Owner). owner_in l c.args.place) (sym c.self.view_is) ∙ held_bound c.self.inside.registered.entries 0 c.self.inside.bound.items c.self.inside.terms.items c.args.place _ c.index-then-index.result.now c.self.invariant.0 below c.index.ensures c.if-index.true c.index-then-index.ensures in
    sym (ap (λ (o : Owner). binding_of (Some o)) held)

pub returns-else-index : goal.returns-else-index
returns-else-index c =
    let count : length c.args.self.now ≡ length c.self.inside.bound.items = ap (λ (l : List Owner). length l) (sym c.self.view_is) ∙ many c.self.inside.registered.entries 0 c.self.inside.bound.items c.self.inside.terms.items c.self.invariant.0 in
    let below : c.args.place < length c.self.inside.bound.items = omega (arith, count, c.requires) in
    let held : owner_in c.args.self.now c.args.place ≡ Open (sites_at c.self.inside.registered.entries c.args.place) = ap (λ (l : List Owner). owner_in l c.args.place) (sym c.self.view_is) ∙ open_here c.self.inside.registered.entries c.self.inside.bound.items c.self.inside.terms.items c.args.place _ c.self.invariant.0 below c.index.ensures c.if-index.false in
    sym (ap (λ (o : Owner). binding_of (Some o)) held)
