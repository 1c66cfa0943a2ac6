use Rattle.std.proofs.Common.{◌≡◌, ◌≤◌, ◌+◌, [], length, vec_len}
use Rattle.oz_grammar.specs.Reading.{formals_at}
use Rattle.oz_phrases.proofs.declarations.formals.Given as goal

abbrev pub invariant-loop-rest : goal.invariant-loop-rest
invariant-loop-rest l = record {
  read : formals_at l.names.items l.rest ≡ formals_at [] l.symbols;
  shorter : vec_len l.names + length l.rest ≤ length l.symbols;
  count : vec_len l.names ≤ 64;
}

abbrev pub decreases-loop-rest : goal.decreases-loop-rest
decreases-loop-rest l = length l.rest
