-- What a site keeps of cells, and when a call on it is a row of the site (TOPLAS 19(5), 1997).
use Rattle.std.specs.Prelude.{◌≡◌, ◌≢◌, ◌↔◌, ℕ, List, [], ◌++◌, Option, Some, None}
use Rattle.std.specs.Map.{lookup}
use Rattle.indexmap.specs.IndexMap.{insert_entry}
use Rattle.tree_node.specs.declared.names.VarName.{VarName}
use Rattle.tree_node.specs.declared.names.CellName.{CellName}
use Rattle.tree_node.specs.declared.names.ThreadName.{ThreadName}
use Rattle.tree_node.specs.Goal.{equal_cell}
use Rattle.tree_node.specs.Store.{Equation}
use Rattle.kernel_syntax.specs.declared.stmt.Stmt.{Stmt}
use Rattle.site_message.specs.declared.message.Msg.{Msg}
use Rattle.site_message.specs.declared.message.Msg.TheVariants as msg
use Rattle.site_message.specs.declared.message.Sent.{Sent}
use Rattle.token_chain.specs.declared.token.Token.TheVariants.{Asked, Here}
use Rattle.token_chain.specs.Holding.{CanFollow}
use Rattle.token_chain.specs.Rows.{Reply}
use Rattle.oz_model.specs.Effect.{Exchanged}
use Rattle.site_model.specs.Site.{Site, CellRecord, cell_record_in}
use Rattle.site_model.specs.Transition.{Transition, with_messages}
use Rattle.site_model.specs.Cells.{serving}
use Rattle.site_model.specs.Unit.{after_cell}
use Rattle.site_model.specs.Fit.{CanTake}

-- the site's number; the last asker of each cell made here; the records of the cells used here
pub record CellTables : Type 0 where
  pub site : ℕ
  pub managers : List (CellName × ℕ)
  pub cell_records : List (CellName × CellRecord)

-- ---- look-ups

-- what the site keeps of a cell
abbrev pub record_of : CellTables → CellName → CellRecord
record_of t c = cell_record_in t.cell_records c

-- the site that asked last for a cell made here
abbrev pub last_asker_in : CellTables → CellName → Option ℕ
last_asker_in t c = lookup (equal_cell c) t.managers

-- the cell's token is here
abbrev pub HasToken : CellTables → CellName → Type 0
HasToken t c = (v : VarName) × ((record_of t c).held.token ≡ Here v)

-- the records with this one of the cell
abbrev pub with_record : CellName → CellRecord → List (CellName × CellRecord) → List (CellName × CellRecord)
with_record c q qs = insert_entry equal_cell qs c q

-- the cell's record after a reply, which these threads wait for
abbrev pub record_after : List ThreadName → Reply → CellRecord
record_after queue r = record { held = r.held; queue = queue }

-- ---- which messages can be taken

-- where this site is the one that asked last, it can be told its successor
abbrev pub CanPassOn : CellTables → CellName → Option ℕ → Type 0
CanPassOn t c None = ⊥
CanPassOn t c (Some a) = a ≡ t.site → CanFollow (record_of t c).held

-- a Get is of a cell made here, whose last asker can be told; a Forward finds no successor; a Put was asked for. Other
-- messages are no matter of cells
abbrev pub IsReceivable : CellTables → Msg → Type 0
IsReceivable t (msg.Get c k) = (c.site ≡ t.site) × CanPassOn t c (last_asker_in t c)
IsReceivable t (msg.Forward c k) = CanFollow (record_of t c).held
IsReceivable t (msg.Put c v bundle) = (record_of t c).held.token ≡ Asked
IsReceivable t _ = Unit {0}

-- ---- the tables of a site

-- a site keeps these tables
pub record AreTablesOf (s : Site) (t : CellTables) : Type 0 where
  pub site : t.site ≡ s.records.site
  pub managers : t.managers ≡ s.managers
  pub cell_records : t.cell_records ≡ s.cell_records

-- the site keeps these tables in place of its own
abbrev pub with_tables : CellTables → Site → Site
with_tables t s = record s { managers = t.managers; cell_records = t.cell_records }

-- the site goes on with the new tables, whatever else it keeps
abbrev pub IsChange : (Site → Site) → CellTables → CellTables → Type 0
IsChange f old new = (new.site ≡ old.site) × ((s : Site) → AreTablesOf s old → f s ≡ with_tables new s)

-- the row of a site is this: its tables change, the rest changes as told, and what is new in the outbox is sent
pub record IsRow (row : Site → Transition) (rest : Site → Site) (old new : CellTables) (before after : List Sent) : Type 0 where
  pub site : new.site ≡ old.site
  pub step : (sent : List Sent) × (after ≡ before ++ sent) × ((s : Site) → AreTablesOf s old → row s ≡ with_messages (with_tables new (rest s)) sent)

-- the rest stays
abbrev pub same_site : Site → Site
same_site s = s

-- ---- queues

-- the threads that wait here for the cell's token, in the order in which they asked
abbrev pub queue_of : CellTables → CellName → List ThreadName
queue_of t c = (record_of t c).queue

-- the cell's queue becomes this, and other queues stay
abbrev pub ChangesQueue : CellTables → CellTables → CellName → List ThreadName → Type 0
ChangesQueue old new c queue = (queue_of new c ≡ queue) × ((d : CellName) → d ≢ c → queue_of new d ≡ queue_of old d)

-- every queue stays
abbrev pub KeepsQueues : CellTables → CellTables → Type 0
KeepsQueues old new = (c : CellName) → queue_of new c ≡ queue_of old c

-- ---- laws

-- what the tables of a site can take is what the site can
pub record IsReceivableAsSites : Type 0 where
  pub get : (s : Site) (t : CellTables) (c : CellName) (k : ℕ) → AreTablesOf s t → IsReceivable t (msg.Get c k) ↔ CanTake s (msg.Get c k)
  pub forward : (s : Site) (t : CellTables) (c : CellName) (k : ℕ) → AreTablesOf s t → IsReceivable t (msg.Forward c k) ↔ CanTake s (msg.Forward c k)
  pub put : (s : Site) (t : CellTables) (c : CellName) (v : VarName) (es : List Equation) → AreTablesOf s t → IsReceivable t (msg.Put c v es) ↔ CanTake s (msg.Put c v es)

-- a thread that exchanges v for w where all were served leaves the cell as if the last of them had left w
abbrev pub ServingGoesOn : Type 0
ServingGoesOn =
    (p : List Stmt) (c : CellName) (v w told : VarName) (s : Site) →
    after_cell (Exchanged c w told) (serving p c [] v s).site ≡ (serving p c [] w s).site
