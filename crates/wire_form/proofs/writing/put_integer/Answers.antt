use Rattle.std.proofs.Common.{subst, ℤ}
use Rattle.std.specs.Int.{w128}
use Rattle.std.proofs.lemmas.Int.{to_z-of_z}
use Rattle.wire_reader.specs.Field.{signed_number}
use Rattle.wire_form.specs.Writing.{IsWritten}
use Rattle.wire_form.proofs.writing.put_integer.Goals as goal

pub returns-in-Two : goal.returns-in-Two
returns-in-Two c =
    let put = subst (λ (z : ℤ). IsWritten (signed_number w128) z c.args.out.now.items c.put_integer_128.new.out.items c.put_integer_128.result) (to_z-of_z w128 c.args.value c.ranges.value) c.put_integer_128.ensures in
    rw c.in-Two.is put
