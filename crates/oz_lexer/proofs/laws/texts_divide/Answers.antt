use Rattle.oz_lexer.proofs.Dividing.{texts_divide, texts_divide_once}
use Rattle.oz_lexer.proofs.laws.texts_divide.Goals as goal

pub returns-clause-some : goal.returns-clause-some
returns-clause-some c = texts_divide

pub returns-clause-once : goal.returns-clause-once
returns-clause-once c = texts_divide_once
