use Rattle.std.proofs.Common.{◌≡◌, drop}
use Rattle.oz_grammar.specs.Scoping.{has_name, names_in}
use Rattle.oz_phrases.proofs.fields.has_field_name.Given as goal

abbrev pub invariant-loop-field : goal.invariant-loop-field
invariant-loop-field l = has_name (names_in (drop l.field-index l.fields)) l.name ≡ has_name (names_in l.fields) l.name
