-- What a roster ends as, once a loan of a thread's value has ended.
use Rattle.std.specs.Borrow.{Lends, Fml, RattleType, MutBor}
use Rattle.tree_node.specs.declared.names.ThreadName.{ThreadName}
use Rattle.thread_roster.specs.Threads.{Threads, set_value}
use Rattle.thread_roster.specs.contracts.roster.Roster.{the_row}

module _ (V : RattleType) (s : MutBor (Threads V.Denot)) (n : ThreadName) where
  -- the thread of this name has the last value written through r
  abbrev pub with_value : V.Denot → Threads V.Denot
  with_value v = record s.now { living = set_value s.now.living n v }

  abbrev pub lends_value : MutBor V.Denot → Fml
  lends_value r = Lends (the_row V) V s r with_value
