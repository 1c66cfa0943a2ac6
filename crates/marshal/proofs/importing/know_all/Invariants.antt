use Rattle.std.proofs.Common.{◌≡◌, take}
use Rattle.marshal.specs.Marshal.{AreKnown}
use Rattle.marshal.proofs.importing.know_all.Given as goal

abbrev pub invariant-loop-var : goal.invariant-loop-var
invariant-loop-var l = record {
  known : AreKnown (take l.var-index l.vars) l.fn.store l.fn.names.items l.store l.names.items;
  equations : l.store.equations ≡ l.fn.store.equations;
}
