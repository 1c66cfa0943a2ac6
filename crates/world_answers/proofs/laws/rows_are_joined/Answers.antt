use Rattle.world_answers.proofs.LetterLemmas.{letters_taken}
use Rattle.world_answers.proofs.MessageLemmas.{message_comes}
use Rattle.world_answers.proofs.UnitLemmas.{units_joined}
use Rattle.world_answers.proofs.laws.rows_are_joined.Goals as goal

pub returns : goal.returns
returns c = record { units = units_joined; messages = λ p limit i w ks k m real j far at takes. message_comes p limit i real w ks j k m at far takes; letters = letters_taken }
