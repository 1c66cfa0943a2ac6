use Rattle.oz_model.proofs.KeepLemmas.{nodes_agree, cases_agree, shown_agree, needs_agree, binds_agree, effects_agree}
use Rattle.oz_model.proofs.TestLemmas.{firsts_agree}
use Rattle.oz_model.proofs.laws.agreeing_stores_answer_alike.Goals as goal

pub returns : goal.returns
returns c = record {
  nodes = nodes_agree;
  cases = cases_agree;
  lines = shown_agree;
  firsts = firsts_agree;
  needs = needs_agree;
  binds = binds_agree;
  effects = effects_agree;
}
