use Rattle.std.proofs.Common.{sym, refl}
use Rattle.thread_roster.proofs.slot.runnable_name.Goals as goal

pub returns-in-Runs-clause-some : goal.returns-in-Runs-clause-some
returns-in-Runs-clause-some g c = (c.in-Some.held.now, sym c.in-Some.ensures, refl, c.in-Runs.is)
