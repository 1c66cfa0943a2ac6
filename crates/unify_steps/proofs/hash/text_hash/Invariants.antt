use Rattle.std.proofs.Common.{◌≡◌, drop}
use Rattle.unify_steps.specs.Hash.{text_hash}
use Rattle.unify_steps.proofs.hash.text_hash.Given as goal

abbrev pub invariant-loop-byte : goal.invariant-loop-byte
invariant-loop-byte l = text_hash l.hash (drop l.byte-index l.text) ≡ text_hash l.fn.hash l.text
