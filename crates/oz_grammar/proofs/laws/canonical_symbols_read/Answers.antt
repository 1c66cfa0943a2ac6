use Rattle.oz_grammar.proofs.CanonicalText.{canonical_reads}
use Rattle.oz_grammar.proofs.Bodies.{programs_read}
use Rattle.oz_grammar.proofs.laws.canonical_symbols_read.Goals as goal

pub returns : goal.returns
returns c = record { again = canonical_reads; programs = programs_read }
