-- Texts that lie at no place in memory. A rule of a command holds the names that its argument takes by reference, each with
-- the place where it lies; what is made of the words does not depend on those places.
use Rattle.std.specs.Prelude.{List, map, option_map}
use Rattle.std.specs.Borrow.{Bor}
use Rattle.clap.specs.Words.{Rule, Text}
use Rattle.clap.specs.declared.builder.ValueParser.{ValueParser}
use Rattle.clap.specs.declared.builder.ValueParser.TheVariants as vp

-- a reference that leads to no place
abbrev pub placeless : {X : Type 0} → X → Bor X
placeless x = record { ref_ptr = (0, 0); now = x }

-- these texts, at no place
abbrev pub placeless_names : List Text → Bor (List (Bor Text))
placeless_names texts = placeless (map placeless texts)

-- the parser, whose names lie at no place
abbrev pub placeless_parser : ValueParser → ValueParser
placeless_parser (vp.Names names) = vp.Names (placeless_names (map (λ name. name.now) names.now))
placeless_parser parser = parser

-- the rule, whose names lie at no place
abbrev pub placeless_rule : Rule → Rule
placeless_rule rule = record rule { parser = option_map placeless_parser rule.parser }
