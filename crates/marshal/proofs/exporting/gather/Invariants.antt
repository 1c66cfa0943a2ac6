use Rattle.marshal.proofs.GatherLemmas.{IsGathered}
use Rattle.marshal.proofs.exporting.gather.Given as goal

abbrev pub invariant-loop-count : goal.invariant-loop-count
invariant-loop-count l = IsGathered l.store.equations l.fn.queue.items l.queue.items l.from l.taken.items l.count
