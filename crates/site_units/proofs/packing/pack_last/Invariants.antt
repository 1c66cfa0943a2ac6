use Rattle.site_units.proofs.PackLemmas.{PackedSoFar}
use Rattle.site_units.proofs.packing.pack_last.Given as goal

abbrev pub invariant-loop-taken : goal.invariant-loop-taken
invariant-loop-taken l = PackedSoFar l.store.equations l.fn.sent l.sent l.packed.items l.taken
