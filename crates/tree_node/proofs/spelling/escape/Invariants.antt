use Rattle.std.proofs.Common.{◌≡◌, ◌++◌, drop}
use Rattle.tree_node.specs.Spelling.{escaped_text}
use Rattle.tree_node.proofs.spelling.escape.Given as goal

abbrev pub invariant-loop-byte : goal.invariant-loop-byte
invariant-loop-byte l = l.bytes.items ++ escaped_text (drop l.byte-index l.text) ≡ escaped_text l.text
