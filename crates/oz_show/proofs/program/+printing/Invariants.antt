use Rattle.std.proofs.Common.{◌≡◌, ◌+◌, ◌*◌, ◌≤◌, drop, length}
use Rattle.oz_grammar.specs.Canonical.{bodies_symbols, symbols_within}
use Rattle.oz_show.proofs.program.+printing.Given as goal

abbrev pub decreases-put_statement_of : goal.decreases-put_statement_of
decreases-put_statement_of l = 3 * l.depth

abbrev pub decreases-put_statement : goal.decreases-put_statement
decreases-put_statement l = 3 * l.depth + 2

abbrev pub decreases-put_body_before : goal.decreases-put_body_before
decreases-put_body_before l = 3 * l.depth + 1

abbrev pub decreases-put_sequence : goal.decreases-put_sequence
decreases-put_sequence l = 3 * l.depth + 1

abbrev pub invariant-put_sequence-loop-left : goal.invariant-put_sequence-loop-left
invariant-put_sequence-loop-left l = record {
  within : l.left ≤ length l.bodies;
  written : l.symbols ≡ bodies_symbols (symbols_within l.depth l.program) (drop l.left l.bodies) l.fn.symbols;
}

abbrev pub decreases-put_sequence-loop-left : goal.decreases-put_sequence-loop-left
decreases-put_sequence-loop-left l = l.left
