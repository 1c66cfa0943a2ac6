use Rattle.std.proofs.Common.{inl, refl}
use Rattle.oz_runner.proofs.SaveLemmas.{plain_journal}
use Rattle.oz_runner.proofs.save.save.Goals as goal

pub returns-in_default : goal.returns-in_default
returns-in_default c = inl (refl, plain_journal c.args.work.printed c.requires.plain c.in_default.not-Sites)
