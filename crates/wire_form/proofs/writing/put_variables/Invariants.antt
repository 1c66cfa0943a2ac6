use Rattle.wire_reader.specs.Format.{var_name}
use Rattle.wire_form.proofs.WriteLaws.{IsWriting}
use Rattle.wire_form.proofs.writing.put_variables.Given as goal

abbrev pub invariant-loop-var : goal.invariant-loop-var
invariant-loop-var l = IsWriting var_name l.initial.out.items l.vars l.var-index l.out.items
