use Rattle.std.proofs.Common.{◌∙◌, sym, ap, subst, Some}
use Rattle.oz_phrases.specs.ScopeIndex.{Positions, position_named, IsKeptAt, KeepsPlaces}
use Rattle.oz_phrases.proofs.Declaring.{kept_found, kept_is_there, kept_write, write_there, set_there}
use Rattle.oz_phrases.proofs.scope.put.Goals as goal

pub returns-in-Some-clause-ok : goal.returns-in-Some-clause-ok
returns-in-Some-clause-ok c x =
    let es = c.args.positions.now.entries in
    let at = kept_found es c.args.name.now c.in-Some.place (sym c.in-Some.ensures.index) in
    ap (λ (after : Positions). position_named after x) c.exchange-hidden.ensures.entries
    ∙ (ap (λ (after : Positions). position_named after x) (write_there es c.args.name.now c.in-Some.place (Some c.args.position) at)
    ∙ set_there es c.args.name.now (Some c.args.position) x (kept_is_there es c.args.name.now c.in-Some.place at))

pub returns-in-Some-clause-place : goal.returns-in-Some-clause-place
returns-in-Some-clause-place c =
    let es = c.args.positions.now.entries in
    let at = kept_found es c.args.name.now c.in-Some.place (sym c.in-Some.ensures.index) in
    subst (λ (after : Positions). IsKeptAt after c.args.name.now c.in-Some.place) (sym c.exchange-hidden.ensures.entries)
    (kept_write es c.in-Some.place (Some c.args.position) c.args.name.now c.in-Some.place at)

pub returns-in-Some-clause-places : goal.returns-in-Some-clause-places
returns-in-Some-clause-places c =
    subst (λ (after : Positions). KeepsPlaces c.args.positions.now.entries after) (sym c.exchange-hidden.ensures.entries)
    (kept_write c.args.positions.now.entries c.in-Some.place (Some c.args.position))
