use Rattle.wire_reader.proofs.NumberLaws.{two_spells_all}
use Rattle.wire_reader.proofs.laws.form_2_spells_all.Goals as goal

pub returns : goal.returns
returns c = two_spells_all
