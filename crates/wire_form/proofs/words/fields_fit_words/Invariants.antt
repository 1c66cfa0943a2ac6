use Rattle.std.proofs.Common.{drop}
use Rattle.std.specs.Prelude.{◌↔◌}
use Rattle.tree_node.specs.Each.{Each}
use Rattle.wire_reader.specs.Numbers.{EachInField, IsWord}
use Rattle.wire_form.proofs.words.fields_fit_words.Given as goal

abbrev pub invariant-loop-field : goal.invariant-loop-field
invariant-loop-field l = Each (EachInField IsWord) (drop l.field-index l.fields) ↔ Each (EachInField IsWord) l.fields
