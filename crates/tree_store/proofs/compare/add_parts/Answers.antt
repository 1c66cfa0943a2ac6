use Rattle.std.proofs.Common.{arith, ◌∙◌, sym, ap}
use Rattle.tree_node.specs.declared.names.VarName.{VarName}
use Rattle.tree_node.specs.declared.node.Feature.{Feature}
use Rattle.tree_node.specs.Store.{root_of}
use Rattle.tree_store.proofs.SearchLemmas.{next_parts}
use Rattle.tree_store.proofs.compare.add_parts.Goals as goal

pub loop-at-preserved : goal.loop-at-preserved
loop-at-preserved c = record {
  same_length = c.requires;
  rest = c.loop-at.invariant.rest ∙ next_parts c.args.store.now.equations c.loop-at.pairs c.insert.new.self c.args.fields.now c.args.others.now c.loop-at.at c.index-fields-at.result c.index-others-at.result c.class_of-left.result c.class_of-right.result (omega (arith, c.loop-at-test.true)) c.requires c.index-fields-at.is c.index-others-at.is c.class_of-left.ensures (c.class_of-right.ensures ∙ ap (λ (z : Feature × VarName). root_of c.args.store.now.equations z.1) (sym c.index-others-at.is)) c.in_ok-insert.ensures.ok;
}
