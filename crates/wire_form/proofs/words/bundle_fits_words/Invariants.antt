use Rattle.std.proofs.Common.{drop}
use Rattle.std.specs.Prelude.{◌↔◌}
use Rattle.tree_node.specs.Each.{Each}
use Rattle.wire_reader.specs.Numbers.{EachInEquation, IsWord}
use Rattle.wire_form.proofs.words.bundle_fits_words.Given as goal

abbrev pub invariant-loop-equation : goal.invariant-loop-equation
invariant-loop-equation l = Each (EachInEquation IsWord ⊥) (drop l.equation-index l.equations) ↔ Each (EachInEquation IsWord ⊥) l.equations
