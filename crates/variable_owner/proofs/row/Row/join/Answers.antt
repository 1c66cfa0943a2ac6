use Rattle.std.proofs.Common.{arith, ◌≡◌, ◌≢◌, ◌↔◌, ◌∙◌, ap, sym, subst, ◌<◌, ◌+◌, List, [], ◌∷◌, ◌++◌, length, set, true, false}
use Rattle.variable_owner.specs.declared.owners.Owner.{Owner}
use Rattle.variable_owner.specs.declared.owners.Owner.TheVariants.{Open, Bound}
use Rattle.variable_owner.specs.declared.owners.Registered.TheVariants.{Kept, Answer}
use Rattle.variable_owner.specs.Owners.{TellsRegistered, with_registered}
use Rattle.variable_owner.specs.Row.{owner_in, sites_at}
use Rattle.variable_owner.proofs.PlaceLemmas.{many, held_bound, open_here, joined_here, still_below, bound_joined}
use Rattle.variable_owner.proofs.row.Row.join.Goals as goal

pub index-requires : goal.index-requires
index-requires c =
    let count : length c.args.self.now ≡ length c.self.inside.bound.items = ap (λ (l : List Owner). length l) (sym c.self.view_is) ∙ many c.self.inside.registered.entries 0 c.self.inside.bound.items c.self.inside.terms.items c.self.invariant.0 in
    let below : c.args.place < length c.self.inside.bound.items = omega (arith, count, c.requires) in
    omega (arith, below, c.self.invariant.0, c.self.inside.bound.ok.0)

pub index-requires-then-index : goal.index-requires-then-index
index-requires-then-index c =
    let count : length c.args.self.now ≡ length c.self.inside.bound.items = ap (λ (l : List Owner). length l) (sym c.self.view_is) ∙ many c.self.inside.registered.entries 0 c.self.inside.bound.items c.self.inside.terms.items c.self.invariant.0 in
    let below : c.args.place < length c.self.inside.bound.items = omega (arith, count, c.requires) in
    omega (arith, below, c.self.invariant.0, c.self.inside.terms.ok.0)

pub returns-then-index-clause-answer : goal.returns-then-index-clause-answer
returns-then-index-clause-answer c =
    let count : length c.args.self.now ≡ length c.self.inside.bound.items = ap (λ (l : List Owner). length l) (sym c.self.view_is) ∙ many c.self.inside.registered.entries 0 c.self.inside.bound.items c.self.inside.terms.items c.self.invariant.0 in
    let below : c.args.place < length c.self.inside.bound.items = omega (arith, count, c.requires) in
    let held : owner_in c.args.self.now c.args.place ≡ Bound c.index-then-index.result.now = ap (λ (l : List Owner). owner_in l c.args.place) (sym c.self.view_is) ∙ held_bound c.self.inside.registered.entries 0 c.self.inside.bound.items c.self.inside.terms.items c.args.place _ c.index-then-index.result.now c.self.invariant.0 below c.index.ensures c.if-index.true c.index-then-index.ensures in
    subst (λ (o : Owner). TellsRegistered o (Answer c.in_ok-copy_term.field-0)) (sym held) c.in_ok-copy_term.ensures

pub returns-then-index-clause-ok : goal.returns-then-index-clause-ok
returns-then-index-clause-ok c =
    let count : length c.args.self.now ≡ length c.self.inside.bound.items = ap (λ (l : List Owner). length l) (sym c.self.view_is) ∙ many c.self.inside.registered.entries 0 c.self.inside.bound.items c.self.inside.terms.items c.self.invariant.0 in
    let below : c.args.place < length c.self.inside.bound.items = omega (arith, count, c.requires) in
    let held : owner_in c.args.self.now c.args.place ≡ Bound c.index-then-index.result.now = ap (λ (l : List Owner). owner_in l c.args.place) (sym c.self.view_is) ∙ held_bound c.self.inside.registered.entries 0 c.self.inside.bound.items c.self.inside.terms.items c.args.place _ c.index-then-index.result.now c.self.invariant.0 below c.index.ensures c.if-index.true c.index-then-index.ensures in
    bound_joined c.args.self.now c.args.place _ c.args.site c.requires held

pub invariant_of-self-2 : goal.invariant_of-self-2
invariant_of-self-2 c =
    let count : length c.args.self.now ≡ length c.self.inside.bound.items = ap (λ (l : List Owner). length l) (sym c.self.view_is) ∙ many c.self.inside.registered.entries 0 c.self.inside.bound.items c.self.inside.terms.items c.self.invariant.0 in
    let below : c.args.place < length c.self.inside.bound.items = omega (arith, count, c.requires) in
    (c.self.invariant.0, still_below c.self.inside.registered.entries _ (length c.self.inside.bound.items) c.args.place c.self.invariant.1 below c.in_ok-keep.ensures.others)

pub returns-clause-answer : goal.returns-clause-answer
returns-clause-answer c =
    let count : length c.args.self.now ≡ length c.self.inside.bound.items = ap (λ (l : List Owner). length l) (sym c.self.view_is) ∙ many c.self.inside.registered.entries 0 c.self.inside.bound.items c.self.inside.terms.items c.self.invariant.0 in
    let below : c.args.place < length c.self.inside.bound.items = omega (arith, count, c.requires) in
    let held : owner_in c.args.self.now c.args.place ≡ Open (sites_at c.self.inside.registered.entries c.args.place) = ap (λ (l : List Owner). owner_in l c.args.place) (sym c.self.view_is) ∙ open_here c.self.inside.registered.entries c.self.inside.bound.items c.self.inside.terms.items c.args.place _ c.self.invariant.0 below c.index.ensures c.if-index.false in
    subst (λ (o : Owner). TellsRegistered o Kept) (sym held) tt

pub returns-clause-ok : goal.returns-clause-ok
returns-clause-ok c =
    let count : length c.args.self.now ≡ length c.self.inside.bound.items = ap (λ (l : List Owner). length l) (sym c.self.view_is) ∙ many c.self.inside.registered.entries 0 c.self.inside.bound.items c.self.inside.terms.items c.self.invariant.0 in
    let below : c.args.place < length c.self.inside.bound.items = omega (arith, count, c.requires) in
    let held : owner_in c.args.self.now c.args.place ≡ Open (sites_at c.self.inside.registered.entries c.args.place) = ap (λ (l : List Owner). owner_in l c.args.place) (sym c.self.view_is) ∙ open_here c.self.inside.registered.entries c.self.inside.bound.items c.self.inside.terms.items c.args.place _ c.self.invariant.0 below c.index.ensures c.if-index.false in
    joined_here c.self.inside.registered.entries _ c.self.inside.bound.items c.self.inside.terms.items c.args.place _ (sites_at c.self.inside.registered.entries c.args.place ++ c.args.site ∷ []) c.self.invariant.0 below c.index.ensures c.if-index.false c.in_ok-keep.ensures.others c.in_ok-keep.ensures.there
    ∙ ap (λ (l : List Owner). set l c.args.place (Open (sites_at c.self.inside.registered.entries c.args.place ++ c.args.site ∷ []))) c.self.view_is
    ∙ sym (ap (λ (o : Owner). set c.args.self.now c.args.place (with_registered o c.args.site)) held)
