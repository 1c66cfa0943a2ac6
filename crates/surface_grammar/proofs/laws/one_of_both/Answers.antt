use Rattle.surface_grammar.proofs.Derived.{symbols_have_one, never_both, one_fault, points_tell_faults, points_tell_programs}
use Rattle.surface_grammar.proofs.laws.one_of_both.Goals as goal

pub returns : goal.returns
returns c = record { one = symbols_have_one; never_both = never_both; fault = one_fault; told = points_tell_faults; read = points_tell_programs }
