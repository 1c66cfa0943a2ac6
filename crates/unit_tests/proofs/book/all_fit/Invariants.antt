use Rattle.std.proofs.Common.{drop}
use Rattle.std.specs.Prelude.{◌↔◌}
use Rattle.tree_node.specs.Each.{Each}
use Rattle.site_message.specs.declared.message.Sent.{Sent}
use Rattle.site_message.specs.Wire.{FitsWire}
use Rattle.unit_tests.proofs.book.all_fit.Given as goal

abbrev pub invariant-loop-one : goal.invariant-loop-one
invariant-loop-one l = Each (λ (s : Sent). FitsWire s.msg) (drop l.one-index l.sent) ↔ Each (λ (s : Sent). FitsWire s.msg) l.sent
