use Rattle.oz_grammar.proofs.TextLaws.{reads_text, faults_text}
use Rattle.oz_grammar.proofs.laws.reading_texts_is_exact.Goals as goal

pub returns : goal.returns
returns c = record { programs = reads_text c.texts_divide.ensures.once; faults = faults_text c.texts_divide.ensures.once }
