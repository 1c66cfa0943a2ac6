-- The pattern of a list.
use Rattle.kernel_syntax.specs.declared.stmt.Pattern.{Pattern}
use Rattle.kernel_syntax.specs.declared.stmt.Pattern.TheVariants as pattern
use Rattle.oz_grammar.specs.Table.{bar_label, two_features}

-- the pattern H|T
abbrev pub pair_pattern : Pattern
pair_pattern = pattern.Rec bar_label two_features
