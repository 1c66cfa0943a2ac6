use Rattle.byte_fields.proofs.OpenLaws.{number_open, line_open, bytes_open}
use Rattle.byte_fields.proofs.laws.texts_begin_before_faults.Goals as goal

pub returns-clause-numbers : goal.returns-clause-numbers
returns-clause-numbers c = number_open

pub returns-clause-lines : goal.returns-clause-lines
returns-clause-lines c = line_open

pub returns-clause-bytes : goal.returns-clause-bytes
returns-clause-bytes c = bytes_open
