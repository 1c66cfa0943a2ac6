use Rattle.byte_fields.proofs.TextLaws.{line_read, bytes_read}
use Rattle.byte_fields.proofs.NumberLaws.{number_read}
use Rattle.byte_fields.proofs.laws.texts_are_read.Goals as goal

pub returns-clause-numbers : goal.returns-clause-numbers
returns-clause-numbers c = number_read

pub returns-clause-lines : goal.returns-clause-lines
returns-clause-lines c = line_read

pub returns-clause-bytes : goal.returns-clause-bytes
returns-clause-bytes c = bytes_read
