use Rattle.std.proofs.Common.{◌∙◌, ap, ℤ}
use Rattle.std.specs.Int.{w128, to_be_bytes, cast_unsigned}
use Rattle.std.proofs.lemmas.Int.{to_z-of_z}
use Rattle.wire_reader.specs.Field.{signed_number}
use Rattle.wire_form.proofs.WriteLaws.{writes_bytes}
use Rattle.wire_form.proofs.writing.put_integer_128.Goals as goal

pub returns : goal.returns
returns c =
    writes_bytes (signed_number w128) c.args.value c.args.out.now.items c.extend_from_slice.new.self.items c.to_be_bytes.result c.extend_from_slice.result c.ranges.value c.extend_from_slice.ensures.items
    (c.to_be_bytes.ensures ∙ ap (λ (z : ℤ). to_be_bytes w128 (cast_unsigned w128 z)) (to_z-of_z w128 c.args.value c.ranges.value))
