use Rattle.oz_model.proofs.DownLemmas.{lower_binds}
use Rattle.oz_model.proofs.KeepLemmas.{steps_stay, waits_stay, binds_stay}
use Rattle.oz_model.proofs.TestLemmas.{open_waits_stay}
use Rattle.oz_model.proofs.WithinLemmas.{more_is_within}
use Rattle.oz_model.proofs.laws.more_equations_keep.Goals as goal

pub returns : goal.returns
returns c = record {
  more = more_is_within;
  steps = steps_stay;
  waits = waits_stay;
  several = open_waits_stay;
  binds = binds_stay;
  lower = lower_binds;
}
