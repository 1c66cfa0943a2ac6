use Rattle.oz_grammar.proofs.ReadLaws.{symbols_have_one, never_both, one_fault}
use Rattle.oz_grammar.proofs.laws.one_of_both.Goals as goal

pub returns : goal.returns
returns c = record { one = symbols_have_one; never_both = never_both; fault = one_fault }
