use Rattle.marshal.proofs.GatherLemmas.{passed_more}
use Rattle.marshal.proofs.exporting.next.Goals as goal

pub loop-place-preserved : goal.loop-place-preserved
loop-place-preserved c =
    passed_more c.args.store.now.equations c.args.queue.now c.args.from c.loop-place.place c.args.taken.now.items _ c.loop-place-test.true c.requires.taken c.in-None.ensures.none c.loop-place.invariant
