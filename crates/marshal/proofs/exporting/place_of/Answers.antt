use Rattle.std.proofs.Common.{rules, of_calls}
use Rattle.std.proofs.lemmas.Fn.{always_returns_same}
use Rattle.tree_node.specs.Store.{Equation}
use Rattle.site_model.specs.Bundle.{is_below}
use Rattle.marshal.proofs.PlaceLemmas.{below_first}
use Rattle.marshal.proofs.exporting.place_of.Goals as goal

pub returns-clause-parted : goal.returns-clause-parted
returns-clause-parted c =
    c.partition_point.ensures.partitioned (λ (e : Equation). is_below e.0 c.args.var) (always_returns_same _ _ _ (λ a r f k. search (rules, of_calls)))
    (below_first c.args.taken.now.items c.args.var c.requires)
