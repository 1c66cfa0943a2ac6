use Rattle.wire_reader.specs.Format.{record_field}
use Rattle.wire_form.proofs.WriteLaws.{IsWriting}
use Rattle.wire_form.proofs.writing.put_fields.Given as goal

abbrev pub invariant-loop-field : goal.invariant-loop-field
invariant-loop-field l = IsWriting (record_field l.form) l.initial.out.items l.fields l.field-index l.out.items
