-- How many messages of a cell were sent, by their kinds.
use Rattle.std.specs.Prelude.{ℕ, ◌+◌, List, [], ◌∷◌, if◌then◌else◌}
use Rattle.tree_node.specs.Goal.{equal_cell}
use Rattle.tree_node.specs.declared.names.CellName.{CellName}
use Rattle.site_message.specs.declared.message.Msg.{Msg}
use Rattle.site_message.specs.declared.message.Msg.TheVariants as msg
use Rattle.site_message.specs.declared.message.Sent.{Sent}
use Rattle.token_chain.specs.Mail.{sent_count}
use Rattle.token_chain.specs.Tally.{Tally}
use Rattle.world_model.specs.World.{Sites, Mail, cell_records}
use Rattle.world_model.specs.Chain.{held_in, messages}

-- g for a Get of the cell, f for a Forward and u for a Put
abbrev pub cell_weight : CellName → (g f u : ℕ) → Msg → ℕ
cell_weight c g f u (msg.Get d k) = if equal_cell c d then g else 0
cell_weight c g f u (msg.Forward d k) = if equal_cell c d then f else 0
cell_weight c g f u (msg.Put d v bundle) = if equal_cell c d then u else 0
cell_weight c g f u _ = 0

-- their sum over messages
abbrev pub cell_weights : CellName → (g f u : ℕ) → List Sent → ℕ
cell_weights c g f u [] = 0
cell_weights c g f u (m ∷ ms) = cell_weight c g f u m.msg + cell_weights c g f u ms

-- so many exchanges of the cell pay for the messages of it that were sent
abbrev pub IsTallied : ℕ → Sites → Mail → List Sent → CellName → ℕ → Type 0
IsTallied n f mail out c exchanges =
    Tally n (held_in (cell_records f) c) (sent_count c (messages mail)) (cell_weights c 1 0 0 out) (cell_weights c 0 1 0 out) (cell_weights c 0 0 1 out) exchanges
