use Rattle.std.proofs.Common.{◌∙◌, sym, ap}
use Rattle.std.specs.List.{insert}
use Rattle.tree_node.specs.declared.node.Term.{Term}
use Rattle.marshal.proofs.PlaceLemmas.{place_put}
use Rattle.marshal.proofs.exporting.take.Goals as goal

pub returns-clause-taken : goal.returns-clause-taken
returns-clause-taken c =
    c.in_ok-insert.ensures.items ∙ (ap (λ (t : Term). insert c.args.taken.now.items c.place_of-place.result (c.args.var, t)) c.in_ok-copy.ensures
    ∙ sym (place_put c.args.taken.now.items (c.args.var, c.args.term.now) c.place_of-place.result c.place_of-place.ensures.parted c.place_of-place.ensures.within))
