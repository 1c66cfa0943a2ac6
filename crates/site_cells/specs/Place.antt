-- What always holds of what a site keeps of a cell.
use Rattle.std.specs.Prelude.{◌≡◌, ◌^◌, ◌≤◌, List, length}
use Rattle.tree_node.specs.declared.names.ThreadName.{ThreadName}
use Rattle.token_chain.specs.Holding.{Holding, IsPlausible}

-- each thread in the queue is counted; they are far fewer than numbers have room for; and where the token is of no
-- concern, nobody waits and no successor is known
pub record IsCounted (held : Holding) (queue : List ThreadName) : Type 0 where
  pub waiting : held.waiting ≡ length queue
  pub few : held.waiting ≤ 2 ^ 59
  pub plausible : IsPlausible held.token held.next held.waiting
