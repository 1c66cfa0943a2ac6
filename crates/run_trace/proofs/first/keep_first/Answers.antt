use Rattle.std.proofs.Common.{◌∙◌}
use Rattle.tree_node.proofs.OptionLemmas.{lent_some}
use Rattle.run_trace.proofs.FirstLemmas.{kept_there, put_there}
use Rattle.run_trace.proofs.first.keep_first.Goals as goal

pub returns-then-is_some : goal.returns-then-is_some
returns-then-is_some c = kept_there c.args.places.now.entries c.args.place c.args.raised c.is_some.result (c.is_some.ensures ∙ lent_some c.get.result _ c.get.ensures.value) c.if-is_some.true

pub returns : goal.returns
returns c =
    put_there c.args.places.now.entries c.insert.new.self.entries c.args.place c.args.raised c.is_some.result (c.is_some.ensures ∙ lent_some c.get.result _ c.get.ensures.value) c.if-is_some.false c.in_ok-insert.ensures.updates.0
