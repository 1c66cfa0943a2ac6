use Rattle.byte_fields.proofs.StayLaws.{number_steady, line_steady, bytes_steady}
use Rattle.byte_fields.proofs.laws.first_faults_stay.Goals as goal

pub returns-clause-numbers : goal.returns-clause-numbers
returns-clause-numbers c = number_steady

pub returns-clause-lines : goal.returns-clause-lines
returns-clause-lines c = line_steady

pub returns-clause-bytes : goal.returns-clause-bytes
returns-clause-bytes c = bytes_steady
