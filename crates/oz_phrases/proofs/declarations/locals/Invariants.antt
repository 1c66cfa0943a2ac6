use Rattle.std.proofs.Common.{◌≡◌, ◌≤◌, ◌+◌, length, vec_len}
use Rattle.oz_grammar.specs.Reading.{locals_at}
use Rattle.oz_phrases.proofs.declarations.locals.Given as goal

abbrev pub invariant-loop-rest : goal.invariant-loop-rest
invariant-loop-rest l = record {
  read : locals_at l.names.items l.rest ≡ locals_at l.initial.names.items l.symbols;
  shorter : vec_len l.names + length l.rest ≤ vec_len l.initial.names + length l.symbols;
  count : vec_len l.names ≤ 64;
}

abbrev pub decreases-loop-rest : goal.decreases-loop-rest
decreases-loop-rest l = length l.rest
