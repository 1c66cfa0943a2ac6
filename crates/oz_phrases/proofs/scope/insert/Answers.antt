use Rattle.std.proofs.Common.{◌∙◌, sym, ap, subst, ℕ, List, Some, cond}
use Rattle.std.specs.Str.{bytes_eq}
use Rattle.oz_phrases.specs.ScopeIndex.{Positions, position_named, KeepsPlaces}
use Rattle.oz_phrases.proofs.Declaring.{put_there, kept_insert, kept_told}
use Rattle.oz_phrases.proofs.scope.insert.Goals as goal

pub returns-clause-ok : goal.returns-clause-ok
returns-clause-ok c x =
    ap (λ (es : Positions). position_named es x) c.in_ok-place.ensures.entries
    ∙ put_there c.args.positions.now.entries c.in_ok-key.key (Some c.args.position) x
    ∙ ap (λ (s : List ℕ). cond (bytes_eq x s) (Some c.args.position) (position_named c.args.positions.now.entries x)) c.in_ok-key.ensures.items

pub returns-clause-place : goal.returns-clause-place
returns-clause-place c =
    kept_told c.args.positions.now.entries c.insert_full.new.self.entries c.in_ok-key.key (Some c.args.position) c.args.name.now c.in_ok-place.place c.in_ok-place.ensures.entries c.in_ok-place.ensures.index c.in_ok-key.ensures.items

pub returns-clause-places : goal.returns-clause-places
returns-clause-places c =
    subst (λ (es : Positions). KeepsPlaces c.args.positions.now.entries es) (sym c.in_ok-place.ensures.entries)
    (kept_insert c.args.positions.now.entries c.in_ok-key.key (Some c.args.position))
