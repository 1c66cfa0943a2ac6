use Rattle.std.proofs.Common.{◌≡◌, ◌++◌, drop}
use Rattle.oz_grammar.specs.Table.{features_in}
use Rattle.oz_phrases.proofs.fields.features.Given as goal

abbrev pub invariant-loop-field : goal.invariant-loop-field
invariant-loop-field l = l.features.items ++ features_in (drop l.field-index l.fields) ≡ features_in l.fields
