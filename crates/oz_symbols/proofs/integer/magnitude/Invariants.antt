use Rattle.std.proofs.Common.{◌≡◌, ◌≤◌, drop}
use Rattle.oz_grammar.specs.Symbols.{number_after, number_of}
use Rattle.oz_symbols.proofs.integer.magnitude.Given as goal

abbrev pub invariant-loop-digit : goal.invariant-loop-digit
invariant-loop-digit l = record {
  value : number_after l.value (drop l.digit-index l.digits) ≡ number_of l.digits;
  small : l.value ≤ 170141183460469231731687303715884105975;
}
