-- Cells and their tokens.
use Rattle.std.specs.Prelude.{◌≡◌, ◌≢◌, ℕ, ◌==◌, List, map, filter, Some, None}
use Rattle.tree_node.specs.declared.names.VarName.{VarName}
use Rattle.tree_node.specs.declared.names.CellName.{CellName}
use Rattle.std.specs.Map.{lookup}
use Rattle.tree_node.specs.Assoc.{value_of}
use Rattle.tree_node.specs.Goal.{equal_cell}
use Rattle.site_message.specs.declared.message.Msg.TheVariants as msg
use Rattle.site_message.specs.declared.message.Sent.{Sent}
use Rattle.token_chain.specs.Holding.{Holding, nothing_held}
use Rattle.token_chain.specs.Mail.{sent_count}
use Rattle.token_chain.specs.Mail as token
use Rattle.token_chain.specs.Chain.{ChainOf}
use Rattle.site_model.specs.Site.{CellRecord, cell_record_in}
use Rattle.world_model.specs.World.{Mail, IsOnItsWay}

-- what site i keeps of cell c
abbrev pub held_in : (ℕ → List (CellName × CellRecord)) → CellName → ℕ → Holding
held_in places c i = (cell_record_in (places i) c).held

-- the messages without their numbers
abbrev pub messages : Mail → List Sent
messages mail = map (λ (m : ℕ × Sent). m.1) mail

-- the sites that asked for the cell are one chain, from the token with this content on
abbrev pub HasChain : (ℕ → List (CellName × ℕ)) → (ℕ → List (CellName × CellRecord)) → Mail → CellName → VarName → Type 0
HasChain managers places mail c v = (last : ℕ) × (lookup (equal_cell c) (managers c.site) ≡ Some last) × ChainOf last (held_in places c) (sent_count c (messages mail)) v

-- a cell that was not made is nowhere
pub record IsNowhere (managers : ℕ → List (CellName × ℕ)) (places : ℕ → List (CellName × CellRecord)) (mail : Mail) (c : CellName) : Type 0 where
  pub manager : lookup (equal_cell c) (managers c.site) ≡ None
  pub away : (i : ℕ) → held_in places c i ≡ nothing_held
  pub quiet : (m : token.Mail) → sent_count c (messages mail) m ≡ 0

-- the mobile ones among the centre's cells, which have no home
abbrev pub mobile_cells : List (CellName × VarName) → List (CellName × VarName)
mobile_cells cells = filter (λ (c : CellName × VarName). c.0.at == 0) cells

-- each cell of the centre is one chain with the content that it has there, and others are nowhere
pub record Cells (managers : ℕ → List (CellName × ℕ)) (places : ℕ → List (CellName × CellRecord)) (mail : Mail) (cells : List (CellName × VarName)) : Type 0 where
  pub chains : (c : CellName) (v : VarName) → value_of equal_cell cells c ≡ Some v → HasChain managers places mail c v
  pub others : (c : CellName) → value_of equal_cell cells c ≡ None → IsNowhere managers places mail c

-- each request goes to the manager, from another site
abbrev pub AreGetsAddressed : Mail → Type 0
AreGetsAddressed mail = (k to : ℕ) (c : CellName) (asking : ℕ) → IsOnItsWay mail k to (msg.Get c asking) → (to ≡ c.site) × (asking ≢ c.site)
