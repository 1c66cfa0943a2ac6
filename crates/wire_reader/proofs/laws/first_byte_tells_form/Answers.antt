use Rattle.wire_reader.proofs.WholeLaws.{begins_with_kind, kind_of_one}
use Rattle.wire_reader.proofs.laws.first_byte_tells_form.Goals as goal

pub returns-clause-begins : goal.returns-clause-begins
returns-clause-begins c = begins_with_kind

pub returns-clause-apart : goal.returns-clause-apart
returns-clause-apart c = kind_of_one
