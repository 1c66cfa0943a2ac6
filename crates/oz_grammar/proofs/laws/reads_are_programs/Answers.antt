use Rattle.oz_grammar.proofs.ReadLaws as laws
use Rattle.oz_grammar.proofs.TextLaws.{texts_are_programs}
use Rattle.oz_grammar.proofs.laws.reads_are_programs.Goals as goal

pub returns : goal.returns
returns c = record { symbols = laws.reads_are_programs; texts = texts_are_programs }
