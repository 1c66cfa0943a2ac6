use Rattle.std.proofs.Common.{◌≡◌, map, drop}
use Rattle.std.specs.List.{list_any}
use Rattle.std.specs.Str.{bytes_eq}
use Rattle.tree_node.specs.Words.{now_of}
use Rattle.tree_node.proofs.words.is_among.Given as goal

abbrev pub invariant-loop-word : goal.invariant-loop-word
invariant-loop-word l =
    list_any (λ word. bytes_eq l.text word) (map now_of l.words)
    ≡ list_any (λ word. bytes_eq l.text word) (map now_of (drop l.word-index l.words))
