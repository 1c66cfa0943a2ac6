use Rattle.std.proofs.Common.{◌+◌, drop}
use Rattle.kernel_syntax.proofs.Elements.{next_others}
use Rattle.run_trace.proofs.FirstLemmas.{first_step}
use Rattle.run_trace.proofs.first.FirstRaises.of.Goals as goal

pub loop-place-preserved : goal.loop-place-preserved
loop-place-preserved c =
    λ x. first_step c.loop-place.places.entries c.keep_first.new.places.entries c.loop-place.place c.index-raises-place.result (drop (c.loop-place.place + 1) c.args.raises.now) c.args.raises.now x
    (next_others c.args.raises.now c.loop-place.place c.index-raises-place.result c.loop-place-test.true c.index-raises-place.is) (c.in_ok-keep_first.ensures x) (c.loop-place.invariant x)
