-- The worked examples: derivations by hand, and what is computed.
use Rattle.std.proofs.Common.{[], ◌∷◌, refl, arith}
use Rattle.std.specs.Prelude.{codes}
use Rattle.std.proofs.lemmas.Fmt.{decimal_digit}
use Rattle.oz_grammar.specs.Scoping.{built_in_at}
use Rattle.oz_grammar.specs.Canonical.{canonical_symbols}
use Rattle.oz_grammar.specs.Grammar.{Identifier, AtomFeature, Placed, WithFeature, ToRecord, RecordPattern, Skips, Tells, Calls, Locals, ProcNamed, Ifs, Cases, Simple, Block, Chooses, One, Then}
use Rattle.oz_grammar.specs.Rows.{EmptyText, OpenQuoteAt, UndeclaredAt, BuiltInIsFull, HiddenBuiltIn, TwiceByPosition, TwiceBeforeColon, TwiceInPattern, SiteBelow, NumberFirst, BehindThread, HiddenCounts, PatternOrder, BodiesInPreorder, ExampleReads, ExampleIsCanonical}

-- the identifiers of the examples
abbrev x : Identifier
x = codes "X"

abbrev y : Identifier
y = codes "Y"

abbrev browse : Identifier
browse = codes "Browse"

pub empty_text : EmptyText
unfolding built_in_at
empty_text = refl

pub open_quote : OpenQuoteAt
unfolding built_in_at
open_quote = refl

pub undeclared : UndeclaredAt
unfolding built_in_at
undeclared = refl

pub built_in_is_full : BuiltInIsFull
unfolding built_in_at
built_in_is_full = refl

pub hidden_built_in : HiddenBuiltIn
unfolding built_in_at
hidden_built_in = record {
  program = One (Block (Locals browse (x ∷ [])) (One (Simple (Calls browse (x ∷ x ∷ [])))));
  derives = tt;
  derived = refl;
  passes = refl;
  table = refl;
}

pub twice_by_position : TwiceByPosition
unfolding built_in_at
twice_by_position = refl

pub twice_before_colon : TwiceBeforeColon
unfolding built_in_at
twice_before_colon = refl

pub twice_in_pattern : TwiceInPattern
unfolding built_in_at
twice_in_pattern = refl

pub site_below : SiteBelow
unfolding built_in_at
site_below = refl

pub number_first : NumberFirst
unfolding built_in_at
number_first = refl

pub behind_thread : BehindThread
unfolding built_in_at
behind_thread = refl

pub hidden_counts : HiddenCounts
unfolding built_in_at
hidden_counts = record {
  program = One (Block (Locals x []) (One (Block (Locals x []) (One (Simple (Calls browse (x ∷ [])))))));
  derives = refl;
  derived = refl;
  passes = refl;
  table = refl;
}

pub pattern_order : PatternOrder
unfolding built_in_at
pattern_order = record {
  program = One (Block (Locals x []) (One (Chooses (Cases x (RecordPattern (codes "f") (WithFeature (AtomFeature (codes "b")) y ∷ WithFeature (AtomFeature (codes "a")) x ∷ []))) (One (Simple (Calls browse (y ∷ [])))) (One (Simple (Calls browse (x ∷ [])))))));
  derives = (refl, refl);
  derived = refl;
  passes = refl;
  table = refl;
}

pub bodies_in_preorder : BodiesInPreorder
unfolding built_in_at
bodies_in_preorder = record {
  program = One (Block (Locals x []) (One (Chooses (Ifs x) (Then (Simple Skips) (One (Simple Skips))) (One (Simple Skips)))));
  derives = ((tt, tt), tt);
  derived = refl;
  passes = refl;
  table = refl;
}

pub example_reads : ExampleReads
unfolding built_in_at
example_reads = record {
  program = One (Block (Locals (codes "P") []) (One (Block (ProcNamed (codes "P") (x ∷ [])) (One (Simple (Tells x (ToRecord (codes "f") (WithFeature (AtomFeature (codes "b")) (codes "P") ∷ Placed (codes "P") ∷ []))))))));
  derives = tt;
  derived = refl;
  passes = refl;
  table = refl;
}

pub example_is_canonical : ExampleIsCanonical
unfolding canonical_symbols
example_is_canonical = rw (decimal_digit 0 (omega arith), decimal_digit 1 (omega arith)) refl
