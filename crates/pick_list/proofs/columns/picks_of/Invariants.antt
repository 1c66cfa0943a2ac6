use Rattle.std.proofs.Common.{◌≡◌, ◌++◌}
use Rattle.std.specs.Prelude.{reverse}
use Rattle.pick_list.specs.Columns.{AreColumns, columns_of, picks_below}
use Rattle.pick_list.proofs.columns.picks_of.Given as goal

abbrev pub invariant-picks : goal.invariant-picks
invariant-picks l = record {
  columns : AreColumns l.pick (columns_of l.threads l.named l.fresh l.bound);
  told : picks_below (columns_of l.threads l.named l.fresh l.bound) l.pick ++ reverse l.picks.items ≡ picks_below (columns_of l.fn.stretches l.fn.namings l.fn.names l.fn.binds) l.fn.count;
}
