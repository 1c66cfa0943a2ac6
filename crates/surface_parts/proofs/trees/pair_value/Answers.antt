use Rattle.std.proofs.Common.{rules, ◌≡◌, ◌∙◌, ap, List, [], ◌∷◌, ◌++◌}
use Rattle.kernel_syntax.specs.declared.sugar.Link.{Link}
use Rattle.kernel_syntax.specs.declared.sugar.Link as links
use Rattle.kernel_syntax.specs.declared.sugar.Pair as pairs
use Rattle.surface_parts.proofs.Pairs.{two_made, one_more}
use Rattle.surface_parts.proofs.trees.pair_value.Goals as goal

pub returns-in_ok-reserve-in-Pair : goal.returns-in_ok-reserve-in-Pair
returns-in_ok-reserve-in-Pair c =
    one_more c.args.left c.in-Pair.place c.args.head c.args.tail c.in-Pair.last c.push_reserved.new.self c.in-Pair.heads c.in-Pair.is
    (c.push_reserved.ensures.items ∙ ap (λ (is : List Link). is ++ links.Before c.in-Pair.place c.args.head ∷ []) c.in_ok-reserve-in-Pair.ensures.items)

pub returns-in_ok-last-in_default : goal.returns-in_ok-last-in_default
returns-in_ok-last-in_default c =
    let both : c.in_ok-last-in_default.last.value ≡ pairs.Of c.args.head c.args.tail = search (rules, c.in_ok-last-in_default.ensures.ok) in
    two_made c.args.left c.args.head c.args.tail c.in_ok-last-in_default.last c.new-in_default.result both c.new-in_default.ensures.items
