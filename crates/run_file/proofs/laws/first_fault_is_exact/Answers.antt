use Rattle.run_file.proofs.GoesOnLaws.{no_text_goes_on}
use Rattle.run_file.proofs.OpenLaws.{some_text_begins}
use Rattle.run_file.proofs.laws.first_fault_is_exact.Goals as goal

pub returns-clause-before : goal.returns-clause-before
returns-clause-before c = some_text_begins

pub returns-clause-there : goal.returns-clause-there
returns-clause-there c = no_text_goes_on
