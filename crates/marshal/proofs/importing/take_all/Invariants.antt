use Rattle.std.proofs.Common.{◌≡◌, take}
use Rattle.site_model.specs.Bundle.{vars_of_equations}
use Rattle.marshal.specs.Marshal.{with_equations, AreKnown}
use Rattle.marshal.proofs.importing.take_all.Given as goal

abbrev pub invariant-loop-var : goal.invariant-loop-var
invariant-loop-var l = record {
  known : AreKnown (vars_of_equations (take l.var-index l.equations)) l.fn.store l.fn.names.items l.store l.names.items;
  equations : l.store.equations ≡ with_equations l.fn.store.equations (take l.var-index l.equations);
}
