use Rattle.std.proofs.Common.{◌≡◌, drop}
use Rattle.unify_steps.specs.Hash.{fields_hash}
use Rattle.unify_steps.proofs.hash.fields_hash.Given as goal

abbrev pub invariant-loop-field : goal.invariant-loop-field
invariant-loop-field l = fields_hash l.hash (drop l.field-index l.fields) ≡ fields_hash l.fn.hash l.fields
