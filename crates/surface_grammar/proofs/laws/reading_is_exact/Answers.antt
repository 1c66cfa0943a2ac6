use Rattle.surface_grammar.proofs.ReadLaws.{reads_programs, reads_faults, one_tree}
use Rattle.surface_grammar.proofs.laws.reading_is_exact.Goals as goal

pub returns : goal.returns
returns c = record { programs = reads_programs; faults = reads_faults; tree = one_tree }
