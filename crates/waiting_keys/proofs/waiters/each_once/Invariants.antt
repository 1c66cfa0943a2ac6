use Rattle.std.proofs.Common.{take}
use Rattle.waiting_keys.proofs.AgainLemmas.{HaveSame}
use Rattle.waiting_keys.proofs.waiters.each_once.Given as goal

abbrev pub invariant-keys : goal.invariant-keys
invariant-keys l = HaveSame l.once.keys (take l.key-index l.keys)
