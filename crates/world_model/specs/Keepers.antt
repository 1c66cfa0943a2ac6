-- What the owners of ports and the homes of stationary cells keep, beside what the machine has.
use Rattle.std.specs.Prelude.{◌≡◌, ◌≢◌, ℕ, List, ◌⊎◌, Option, Some, None, Contains}
use Rattle.std.specs.Map.{lookup}
use Rattle.tree_node.specs.declared.names.VarName.{VarName}
use Rattle.tree_node.specs.declared.names.CellName.{CellName}
use Rattle.tree_node.specs.declared.names.PortName.{PortName}
use Rattle.tree_node.specs.declared.names.ThreadName.{ThreadName}
use Rattle.tree_node.specs.Assoc.{value_of}
use Rattle.tree_node.specs.Each.{AreDistinct}
use Rattle.tree_node.specs.Goal.{equal_cell, equal_port}
use Rattle.tree_node.specs.Names.{EachOfStack}
use Rattle.tree_node.specs.State.{Stack, State}
use Rattle.tree_node.specs.Store.{Equation}
use Rattle.kernel_syntax.specs.declared.stmt.Stmt.{Stmt}
use Rattle.site_message.specs.declared.message.Msg.TheVariants as msg
use Rattle.bind_protocol.specs.Records.{Records}
use Rattle.thread_roster.specs.declared.mode.Awaited.{Awaited}
use Rattle.site_model.specs.Site.{EarlyRequest, HomeRecord, Threads}
use Rattle.world_model.specs.World.{Sites, World, Mail, IsOnItsWay, eqs, records, threads, counters}
use Rattle.world_model.specs.Names.{IsHere, IsHereName, IsMade}
use Rattle.world_model.specs.Claims.{IsAsking, IsClaim, AskingMatch, home_in}

-- the ports that each site made, with their ends
abbrev pub ports : Sites → ℕ → List (PortName × VarName)
ports f i = (f i).ports

-- what each site keeps of stationary cells
abbrev pub homes : Sites → ℕ → List (CellName × HomeRecord)
homes f i = (f i).homes

-- the end of a port, by its owner
abbrev pub end_at : (ℕ → List (PortName × VarName)) → PortName → Option VarName
end_at ports q = lookup (equal_port q) (ports q.site)

-- the content of a stationary cell, by its home; and the requests that came there before the home heard of the cell
abbrev pub content_at : (ℕ → List (CellName × HomeRecord)) → CellName → Option VarName
content_at homes c = (home_in (homes c.at) c).content

abbrev pub early_at : (ℕ → List (CellName × HomeRecord)) → CellName → List EarlyRequest
early_at homes c = (home_in (homes c.at) c).early

-- the end of each port is at its owner alone, where it is the machine's, and known
pub record PortsMatch (ports : ℕ → List (PortName × VarName)) (records : ℕ → Records) (central : List (PortName × VarName)) : Type 0 where
  pub ends : (q : PortName) → end_at ports q ≡ value_of equal_port central q
  pub alone : (i : ℕ) (q : PortName) (e : VarName) → lookup (equal_port q) (ports i) ≡ Some e → (q.site ≡ i) × IsHere (records i) e

-- the cell travels to its home, with this content
abbrev pub IsTold : Mail → ℕ → ℕ → CellName → VarName → Type 0
IsTold mail k to c v = (bundle : List Equation) × IsOnItsWay mail k to (msg.CellMake c v bundle)

-- each stationary cell of the machine has its content at its home, or in the one message that tells the home of it; a home keeps contents
-- of the machine's cells alone, which it knows
pub record HomesMatch (homes : ℕ → List (CellName × HomeRecord)) (records : ℕ → Records) (mail : Mail) (cells : List (CellName × VarName)) : Type 0 where
  pub kept : (c : CellName) (v : VarName) → c.at ≢ 0 → value_of equal_cell cells c ≡ Some v →
      (content_at homes c ≡ Some v) ⊎ ((content_at homes c ≡ None) × (k : ℕ) × IsTold mail k c.at c v)
  pub back : (i : ℕ) (c : CellName) (v : VarName) → (home_in (homes i) c).content ≡ Some v →
      (c.at ≡ i) × (i ≢ 0) × (value_of equal_cell cells c ≡ Some v) × IsHere (records i) v
  pub makes : (k to : ℕ) (c : CellName) (v : VarName) → IsTold mail k to c v →
      (to ≡ c.at) × (c.at ≢ 0) × (content_at homes c ≡ None) × (value_of equal_cell cells c ≡ Some v)
  pub once : (k l a b : ℕ) (c : CellName) (v u : VarName) → IsTold mail k a c v → IsTold mail l b c u → k ≡ l
  pub lists : (c : CellName) → AreDistinct (early_at homes c)

-- requests are kept at homes that did not hear of the cell, which know the new contents
abbrev pub AreEarly : (ℕ → List (CellName × HomeRecord)) → (ℕ → Records) → Type 0
AreEarly homes records = (c : CellName) (r : EarlyRequest) → Contains (early_at homes c) r → (c.at ≢ 0) × (content_at homes c ≡ None) × IsHere (records c.at) r.new

-- threads that wait for an answer are those of transit at the machine, the names in their stacks as they asked are known at their
-- sites and were made, and ends and contents are kept
pub record AnswersMatch (p : List Stmt) (w : World) (transit : Threads) (s : State) : Type 0 where
  pub asking : AskingMatch p (eqs w.sites) (IsAsking (threads w.sites)) (IsClaim w.mail (early_at (homes w.sites))) transit
  pub named : (i : ℕ) (n : ThreadName) (a : Awaited) (st : Stack) → IsAsking (threads w.sites) i n a st → (i ≢ 0) × EachOfStack (IsHereName (records w.sites i)) st
  pub made : (i : ℕ) (n : ThreadName) (a : Awaited) (st : Stack) → IsAsking (threads w.sites) i n a st → EachOfStack (IsMade (counters w.sites)) st
  pub ends : PortsMatch (ports w.sites) (records w.sites) s.ports
  pub contents : HomesMatch (homes w.sites) (records w.sites) w.mail s.cells
  pub early : AreEarly (homes w.sites) (records w.sites)
