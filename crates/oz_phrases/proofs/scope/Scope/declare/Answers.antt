use Rattle.std.proofs.Common.{◌∙◌, sym, ap, subst, ℕ, List, Some, cond, length}
use Rattle.std.specs.Str.{bytes_eq}
use Rattle.oz_phrases.specs.ScopeIndex.{Declarations, position_named, IsKeptAt, IsIndexed}
use Rattle.oz_phrases.proofs.Declaring.{indexed_push}
use Rattle.oz_phrases.proofs.scope.Scope.declare.Goals as goal

pub invariant_of-self-2 : goal.invariant_of-self-2
invariant_of-self-2 c =
    let old = c.self.inside.positions.entries in
    let new = c.put.new.positions.entries in
    let more = rw c.reserve.ensures.items at c.push_reserved.ensures.items in
    let name = c.as_slice.ensures ∙ sym c.in_ok-kept.ensures in
    let count = c.len-position.ensures ∙ (c.reserve.new.self.ok.0 ∙ ap length c.reserve.ensures.items) in
    subst (λ (ds : Declarations). IsIndexed ds new) (sym more)
    (indexed_push c.self.inside.declared.items old new c.in_ok-kept.kept c.in_ok-hidden.hidden c.in_ok-hidden.place c.self.invariant
    (c.in_ok-hidden.ensures.hidden ∙ ap (position_named old) name)
    c.in_ok-hidden.ensures.places
    (subst (λ (s : List ℕ). IsKeptAt new s c.in_ok-hidden.place) name c.in_ok-hidden.ensures.place)
    (λ x. c.in_ok-hidden.ensures.ok x ∙ (ap (λ (s : List ℕ). cond (bytes_eq x s) (Some c.len-position.result) (position_named old x)) name
    ∙ ap (λ (n : ℕ). cond (bytes_eq x c.in_ok-kept.kept) (Some n) (position_named old x)) count)))
