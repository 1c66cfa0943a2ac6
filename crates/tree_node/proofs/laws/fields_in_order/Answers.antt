use Rattle.tree_node.proofs.OrderLemmas.{features_are_distinct, places_tell_features, order_tells_fields}
use Rattle.tree_node.proofs.laws.fields_in_order.Goals as goal

pub returns : goal.returns
returns c = record { distinct = features_are_distinct; places = places_tell_features; same = order_tells_fields }
