use Rattle.std.proofs.Common.{rules, ◌≡◌, ◌≤◌, ◌<◌, ◌∙◌, sym, ap, length, nat_lt, false}
use Rattle.tree_node.specs.Store.{Equation, equal_var}
use Rattle.marshal.proofs.PlaceLemmas.{place_behind, place_holds}
use Rattle.marshal.proofs.exporting.is_taken.Goals as goal

pub returns-then-place-len : goal.returns-then-place-len
returns-then-place-len c =
    let inside : c.place_of-place.result < length c.args.taken.now.items = search rules in
    let same : c.eq.result ≡ equal_var c.args.var c.index.result.now.0 = search rules in
    same ∙ sym (place_holds c.args.taken.now.items c.args.var c.place_of-place.result c.index.result.now c.requires c.place_of-place.ensures.parted inside
    ∙ ap (λ (e : Equation). equal_var c.args.var e.0) (sym c.index.ensures))

pub returns-else-place-len : goal.returns-else-place-len
returns-else-place-len c =
    let behind : length c.args.taken.now.items ≤ c.place_of-place.result = search rules in
    let no : nat_lt c.place_of-place.result c.len.result ≡ false = search rules in
    no ∙ sym (place_behind c.args.taken.now.items c.args.var c.place_of-place.result c.place_of-place.ensures.parted behind)
