use Rattle.wire_reader.specs.Format.{equation}
use Rattle.wire_form.proofs.WriteLaws.{IsWriting}
use Rattle.wire_form.proofs.writing.put_bundle.Given as goal

abbrev pub invariant-loop-entry : goal.invariant-loop-entry
invariant-loop-entry l = IsWriting (equation l.form) l.initial.out.items l.equations l.entry-index l.out.items
