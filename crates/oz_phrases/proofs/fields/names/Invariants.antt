use Rattle.std.proofs.Common.{◌≡◌, ◌++◌, drop, vec_len}
use Rattle.oz_grammar.specs.Scoping.{names_in}
use Rattle.oz_phrases.proofs.fields.names.Given as goal

abbrev pub invariant-loop-field : goal.invariant-loop-field
invariant-loop-field l = record {
  names : l.names.items ++ names_in (drop l.field-index l.fields) ≡ names_in l.fields;
  count : vec_len l.names ≡ l.field-index;
}
