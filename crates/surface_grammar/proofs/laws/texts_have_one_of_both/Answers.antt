use Rattle.oz_grammar.proofs.TextLaws.{are_one_of_both}
use Rattle.surface_grammar.proofs.ReadLaws.{symbol_laws, texts_fit}
use Rattle.surface_grammar.proofs.laws.texts_have_one_of_both.Goals as goal

pub returns : goal.returns
returns c = record { one_of_both = are_one_of_both symbol_laws c.texts_divide.ensures.some c.texts_divide.ensures.once; fit = texts_fit }
