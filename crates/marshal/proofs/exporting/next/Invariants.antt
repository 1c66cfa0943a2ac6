use Rattle.std.proofs.Common.{◌≡◌, take}
use Rattle.marshal.specs.Marshal.{equations_among}
use Rattle.marshal.proofs.exporting.next.Given as goal

abbrev pub invariant-loop-place : goal.invariant-loop-place
invariant-loop-place l = equations_among l.store.equations (take l.place l.queue) ≡ equations_among l.store.equations (take l.from l.queue)
