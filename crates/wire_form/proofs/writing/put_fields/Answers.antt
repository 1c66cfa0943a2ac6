use Rattle.std.proofs.Common.{arith, ◌∙◌, ap, length, List, ℕ, ◌++◌}
use Rattle.std.specs.Int.{w8, to_be_bytes}
use Rattle.wire_reader.specs.Format.{record_field}
use Rattle.wire_reader.proofs.FitsLaws.{fields_have}
use Rattle.wire_form.proofs.WriteLaws.{writing_all, put_list, byte_is}
use Rattle.wire_form.proofs.writing.put_fields.Goals as goal

pub returns : goal.returns
returns c =
    let fields = c.args.fields.now in
    let w = writing_all (record_field c.args.form) c.push.new.self.items fields c.loop-field.field-index c.loop-field.out.items c.loop-field-test.false c.loop-field.invariant in
    let put = c.in_ok-push.ensures.items ∙ ap (λ (z : List ℕ). c.args.out.now.items ++ z) (byte_is (length fields) (omega (arith, c.requires.fits.1))) in
    (fields_have c.args.form fields c.requires.fits w.0, put_list (record_field c.args.form) c.args.out.now.items c.push.new.self.items c.loop-field.out.items (to_be_bytes w8 (length fields)) fields put w.1)
