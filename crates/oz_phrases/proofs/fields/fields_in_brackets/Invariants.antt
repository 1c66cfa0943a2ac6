use Rattle.std.proofs.Common.{◌≡◌, ◌≤◌, ◌+◌, [], length, vec_len}
use Rattle.oz_grammar.specs.Reading.{fields_at}
use Rattle.oz_phrases.proofs.fields.fields_in_brackets.Given as goal

abbrev pub invariant-loop-purpose : goal.invariant-loop-purpose
invariant-loop-purpose l = record {
  read : fields_at l.purpose l.scope l.room l.fields.items l.next l.rest ≡ fields_at l.purpose l.scope 64 [] 1 l.symbols;
  shorter : vec_len l.fields + length l.rest ≤ length l.symbols;
  room : l.next + l.room ≤ 65;
}

abbrev pub decreases-loop-purpose : goal.decreases-loop-purpose
decreases-loop-purpose l = l.room
