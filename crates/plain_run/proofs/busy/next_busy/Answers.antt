use Rattle.plain_run.proofs.ProgressLemmas.{next_behind, rounds}
use Rattle.plain_run.proofs.busy.next_busy.Goals as goal

pub returns-in-Some : goal.returns-in-Some
returns-in-Some c = next_behind c.args.world.now c.args.last c.args.sites c.in-Some.site c.in-Some.ensures

pub returns-in-None : goal.returns-in-None
returns-in-None c = rounds c.args.world.now c.args.last c.args.sites c.busy_among-in-None.result c.requires.last c.in-None.ensures c.busy_among-in-None.ensures
