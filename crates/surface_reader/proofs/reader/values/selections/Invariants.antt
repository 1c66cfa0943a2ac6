use Rattle.std.proofs.Common.{◌≡◌, ◌≤◌, length}
use Rattle.kernel_syntax.specs.SugarView.{value_of}
use Rattle.surface_grammar.specs.Reading.{selections_at}
use Rattle.surface_reader.proofs.reader.values.selections.Given as goal

abbrev pub invariant-dots : goal.invariant-dots
invariant-dots l = record {
  read : selections_at l.levels l.scope l.left (value_of l.value) l.rest ≡ selections_at l.fn.part.1 l.scope l.left (value_of l.fn.part.0) l.symbols;
  shorter : length l.rest ≤ length l.symbols;
  levels : l.levels ≤ l.fn.part.1;
}

abbrev pub decreases-dots : goal.decreases-dots
decreases-dots l = l.levels
