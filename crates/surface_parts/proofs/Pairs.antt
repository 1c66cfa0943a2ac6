-- A head and a tail, and a head before a list.
use Rattle.std.proofs.Common.{◌≡◌, ◌∙◌, sym, ap, ℕ, List, [], ◌∷◌, ◌++◌}
use Rattle.std.specs.Global.{Vec, Box}
use Rattle.kernel_syntax.specs.declared.sugar.Pair.{Pair}
use Rattle.kernel_syntax.specs.declared.sugar.Pair as pairs
use Rattle.kernel_syntax.specs.declared.sugar.Link.{Link}
use Rattle.kernel_syntax.specs.declared.sugar.Link as links
use Rattle.kernel_syntax.specs.declared.sugar.Value as values
use Rattle.kernel_syntax.specs.Sugar.{pair_of}
use Rattle.kernel_syntax.specs.SugarView.{value_of, two_in, behind_all}
use Rattle.kernel_syntax.proofs.SugarItems.{pair_is, behind_more}
use Rattle.surface_grammar.specs.Trees.{pair_value}

pub two_made : (left : ℕ) (h u : values.Value) (p : Box Pair) (ks : Vec Link) → p.value ≡ pairs.Of h u → ks.items ≡ [] → value_of (values.Pair left p ks) ≡ pair_value left (value_of h) (value_of u)
two_made left h u p ks e none =
    pair_is left p ks
    ∙ ap (λ (is : List Link). pair_of left (behind_all (two_in p.value) is)) none
    ∙ ap (λ (q : Pair). pair_of left (two_in q)) e

pub one_more : (left place : ℕ) (h u : values.Value) (p : Box Pair) (ks others : Vec Link) → u ≡ values.Pair place p others → ks.items ≡ others.items ++ links.Before place h ∷ []
    → value_of (values.Pair left p ks) ≡ pair_value left (value_of h) (value_of u)
one_more left place h u p ks others is more =
    pair_is left p ks
    ∙ ap (λ (is : List Link). pair_of left (behind_all (two_in p.value) is)) more
    ∙ ap (pair_of left) (behind_more (two_in p.value) others.items (links.Before place h))
    ∙ ap (pair_value left (value_of h)) (sym (ap value_of is ∙ pair_is place p others))
