use Rattle.std.proofs.Common.{arith, ◌≡◌, ◌≢◌, ◌↔◌, ◌∙◌, ap, sym, refl, ◌<◌, ◌+◌, List, [], ◌∷◌, ◌++◌, length, set, true, false, Some}
use Rattle.std.specs.Prelude.{is_some}
use Rattle.variable_owner.specs.declared.owners.Owner.{Owner}
use Rattle.variable_owner.specs.declared.owners.Owner.TheVariants.{Open, Bound}
use Rattle.variable_owner.specs.Owners.{binding_of, after_bind}
use Rattle.variable_owner.specs.Row.{owner_in, sites_at}
use Rattle.variable_owner.proofs.PlaceLemmas.{many, is_bound, open_here, put_here, bound_asked}
use Rattle.variable_owner.proofs.row.Row.bind.Goals as goal

pub index-requires : goal.index-requires
index-requires c =
    let count : length c.args.self.now ≡ length c.self.inside.bound.items = ap (λ (l : List Owner). length l) (sym c.self.view_is) ∙ many c.self.inside.registered.entries 0 c.self.inside.bound.items c.self.inside.terms.items c.self.invariant.0 in
    let below : c.args.place < length c.self.inside.bound.items = omega (arith, count, c.requires) in
    omega (arith, below, c.self.invariant.0, c.self.inside.bound.ok.0)

pub returns-then-index-clause-late : goal.returns-then-index-clause-late
returns-then-index-clause-late c =
    let count : length c.args.self.now ≡ length c.self.inside.bound.items = ap (λ (l : List Owner). length l) (sym c.self.view_is) ∙ many c.self.inside.registered.entries 0 c.self.inside.bound.items c.self.inside.terms.items c.self.invariant.0 in
    let below : c.args.place < length c.self.inside.bound.items = omega (arith, count, c.requires) in
    let some = is_bound c.self.inside.registered.entries 0 c.self.inside.bound.items c.self.inside.terms.items c.args.place _ c.self.invariant.0 below c.index.ensures c.if-index.true in
    let held : owner_in c.args.self.now c.args.place ≡ Bound some.0 = ap (λ (l : List Owner). owner_in l c.args.place) (sym c.self.view_is) ∙ some.1 in
    (λ _. ap (λ (o : Owner). is_some (binding_of (Some o))) held, λ _. refl)

pub returns-then-index-clause-after : goal.returns-then-index-clause-after
returns-then-index-clause-after c =
    let count : length c.args.self.now ≡ length c.self.inside.bound.items = ap (λ (l : List Owner). length l) (sym c.self.view_is) ∙ many c.self.inside.registered.entries 0 c.self.inside.bound.items c.self.inside.terms.items c.self.invariant.0 in
    let below : c.args.place < length c.self.inside.bound.items = omega (arith, count, c.requires) in
    let some = is_bound c.self.inside.registered.entries 0 c.self.inside.bound.items c.self.inside.terms.items c.args.place _ c.self.invariant.0 below c.index.ensures c.if-index.true in
    let held : owner_in c.args.self.now c.args.place ≡ Bound some.0 = ap (λ (l : List Owner). owner_in l c.args.place) (sym c.self.view_is) ∙ some.1 in
    bound_asked c.args.self.now c.args.place some.0 c.args.term c.requires held

pub index_mut-requires : goal.index_mut-requires
index_mut-requires c =
    let count : length c.args.self.now ≡ length c.self.inside.bound.items = ap (λ (l : List Owner). length l) (sym c.self.view_is) ∙ many c.self.inside.registered.entries 0 c.self.inside.bound.items c.self.inside.terms.items c.self.invariant.0 in
    let below : c.args.place < length c.self.inside.bound.items = omega (arith, count, c.requires) in
    omega (arith, below, c.self.invariant.0, c.self.inside.terms.ok.0)

pub index_mut-requires-2 : goal.index_mut-requires-2
index_mut-requires-2 c =
    let count : length c.args.self.now ≡ length c.self.inside.bound.items = ap (λ (l : List Owner). length l) (sym c.self.view_is) ∙ many c.self.inside.registered.entries 0 c.self.inside.bound.items c.self.inside.terms.items c.self.invariant.0 in
    let below : c.args.place < length c.self.inside.bound.items = omega (arith, count, c.requires) in
    omega (arith, below, c.self.invariant.0, c.self.inside.bound.ok.0)

pub returns-clause-late : goal.returns-clause-late
returns-clause-late c =
    let count : length c.args.self.now ≡ length c.self.inside.bound.items = ap (λ (l : List Owner). length l) (sym c.self.view_is) ∙ many c.self.inside.registered.entries 0 c.self.inside.bound.items c.self.inside.terms.items c.self.invariant.0 in
    let below : c.args.place < length c.self.inside.bound.items = omega (arith, count, c.requires) in
    let held : owner_in c.args.self.now c.args.place ≡ Open (sites_at c.self.inside.registered.entries c.args.place) = ap (λ (l : List Owner). owner_in l c.args.place) (sym c.self.view_is) ∙ open_here c.self.inside.registered.entries c.self.inside.bound.items c.self.inside.terms.items c.args.place _ c.self.invariant.0 below c.index.ensures c.if-index.false in
    let none : is_some (binding_of (Some (owner_in c.args.self.now c.args.place))) ≡ false = ap (λ (o : Owner). is_some (binding_of (Some o))) held in
    (λ h. cc, λ h. cc)

pub returns-clause-after : goal.returns-clause-after
returns-clause-after c =
    let count : length c.args.self.now ≡ length c.self.inside.bound.items = ap (λ (l : List Owner). length l) (sym c.self.view_is) ∙ many c.self.inside.registered.entries 0 c.self.inside.bound.items c.self.inside.terms.items c.self.invariant.0 in
    let below : c.args.place < length c.self.inside.bound.items = omega (arith, count, c.requires) in
    let held : owner_in c.args.self.now c.args.place ≡ Open (sites_at c.self.inside.registered.entries c.args.place) = ap (λ (l : List Owner). owner_in l c.args.place) (sym c.self.view_is) ∙ open_here c.self.inside.registered.entries c.self.inside.bound.items c.self.inside.terms.items c.args.place _ c.self.invariant.0 below c.index.ensures c.if-index.false in
    put_here c.self.inside.registered.entries _ c.self.inside.bound.items c.self.inside.terms.items c.args.place c.args.term c.self.invariant.0 below c.forget.ensures.others
    ∙ ap (λ (l : List Owner). set l c.args.place (Bound c.args.term)) c.self.view_is
    ∙ sym (ap (λ (o : Owner). set c.args.self.now c.args.place (after_bind o c.args.term)) held)
