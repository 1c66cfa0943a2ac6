use Rattle.std.proofs.Common.{arith, ◌≡◌, ◌≢◌, ◌↔◌, ◌∙◌, ap, sym, ◌<◌, ◌+◌, List, [], ◌∷◌, ◌++◌, length}
use Rattle.variable_owner.specs.declared.owners.Owner.{Owner}
use Rattle.variable_owner.proofs.PlaceLemmas.{many}
use Rattle.variable_owner.proofs.row.Row.len.Goals as goal

pub returns : goal.returns
returns c =
    let count = many c.self.inside.registered.entries 0 c.self.inside.bound.items c.self.inside.terms.items c.self.invariant.0 in
    let all : length c.args.self.now ≡ length c.self.inside.bound.items = ap (λ (l : List Owner). length l) (sym c.self.view_is) ∙ count in
    omega (arith, all, c.len.ensures, c.self.inside.bound.ok.0)
