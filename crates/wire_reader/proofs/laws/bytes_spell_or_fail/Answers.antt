use Rattle.wire_reader.proofs.WholeLaws.{bytes_have_one, spells_one, has_one_fault, not_both}
use Rattle.wire_reader.proofs.laws.bytes_spell_or_fail.Goals as goal

pub returns-clause-one : goal.returns-clause-one
returns-clause-one c = bytes_have_one

pub returns-clause-message : goal.returns-clause-message
returns-clause-message c = spells_one

pub returns-clause-fault : goal.returns-clause-fault
returns-clause-fault c = has_one_fault

pub returns-clause-apart : goal.returns-clause-apart
returns-clause-apart c = not_both
