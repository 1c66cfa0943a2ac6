-- A worked example of one cell and three sites: it is made at site 1, which is its manager; a token goes from site to site,
-- once by a Forward that comes before the Put that it concerns.
use Rattle.std.specs.Prelude.{◌≡◌, ℕ, ◌+◌, List, [], ◌∷◌, Some, None}
use Rattle.tree_node.specs.declared.names.VarName.{VarName}
use Rattle.tree_node.specs.declared.names.CellName.{CellName}
use Rattle.tree_node.specs.declared.names.ThreadName.{ThreadName}
use Rattle.tree_node.specs.declared.node.Node.TheVariants as node
use Rattle.tree_node.specs.declared.node.Term.TheVariants as term
use Rattle.tree_node.specs.declared.item.Item.TheVariants.{Run}
use Rattle.kernel_syntax.specs.declared.stmt.Stmt.{Stmt}
use Rattle.kernel_syntax.specs.declared.stmt.Stmt.TheVariants.{Exchange}
use Rattle.site_message.specs.declared.message.Msg.TheVariants as msg
use Rattle.token_chain.specs.declared.token.Token.TheVariants.{Away}
use Rattle.token_chain.specs.Holding.{here_with}
use Rattle.site_model.specs.Site.{Site, CellRecord, ThreadState, cell_record, last_asker}
use Rattle.thread_roster.specs.declared.mode.Mode.TheVariants.{Runs}
use Rattle.site_model.specs.Transition.{Transition}
use Rattle.site_model.specs.Messages.{message_row}
use Rattle.site_model.specs.Choice.{next_unit}

-- {Exchange C O N}, with C the cell
abbrev pub program : List Stmt
program = Exchange 0 1 2 ∷ []

-- the cell, which site 1 made
abbrev pub cell : CellName
cell = record { site = 1; at = 0; num = 0 }

-- variable k of site i
abbrev pub var : ℕ → ℕ → VarName
var i k = record { site = i; num = k }

-- thread k of site i
abbrev pub thread : ℕ → ℕ → ThreadName
thread i k = record { site = i; num = k }

-- thread k of site i exchanges for variable (i, k), and tells the old content to (i, k + 10)
abbrev pub exchanging : ℕ → ℕ → ThreadName × ThreadState
exchanging i k = (thread i k, (Run (record { 0 = 0 }) ((0, var 1 99) ∷ (1, var i (10 + k)) ∷ (2, var i k) ∷ []) ∷ [], Runs))

-- site i with its two threads, these last askers of the cells it made, and these records of cells
abbrev pub site_with : ℕ → List (CellName × ℕ) → List (CellName × CellRecord) → Site
site_with i managers kept = record {
  equations = (var 1 99, term.Node (node.Cell cell)) ∷ [];
  records = record { site = i; owners = []; proxies = [] };
  managers = managers;
  cell_records = kept;
  ports = [];
  threads = exchanging i 0 ∷ exchanging i 1 ∷ [];
  homes = [];
  counters = record { vars = 0; cells = 0; procs = 0; threads = 0; ports = 0; sites = 3 };
  ended = 0;
  steps = 0;
}

-- the content at the start
abbrev pub content : VarName
content = var 1 50

-- the site that made the cell and has its token
abbrev pub site_1 : Site
site_1 = site_with 1 ((cell, 1) ∷ []) ((cell, record { held = here_with content; queue = [] }) ∷ [])

-- the next unit of thread k of site i
abbrev pub unit_at : ℕ → ℕ → Site → Transition
unit_at i k s = next_unit program 3 0 (thread i k) s

-- both threads of site 3 ask: one Get. The manager has the token, and sends it. (Site 2 asks next)
abbrev pub asks_3 : Transition
asks_3 = unit_at 3 0 (site_with 3 [] [])

abbrev pub asks_3_again : Transition
asks_3_again = unit_at 3 1 asks_3.site

abbrev pub manager_3 : Transition
manager_3 = message_row program 0 (msg.Get cell 3) site_1

abbrev pub asks_2 : Transition
asks_2 = unit_at 2 0 (site_with 2 [] [])

abbrev pub manager_2 : Transition
manager_2 = message_row program 0 (msg.Get cell 2) manager_3.site

-- the Forward comes to site 3 before the Put, which then serves both in order and goes on
abbrev pub forward_3 : Transition
forward_3 = message_row program 0 (msg.Forward cell 2) asks_3_again.site

abbrev pub put_3 : Transition
put_3 = message_row program 0 (msg.Put cell content []) forward_3.site

-- the manager's own site asks: it tells site 2 by a Forward, and no Get is sent
abbrev pub asks_1 : Transition
asks_1 = unit_at 1 0 manager_2.site

-- site 2 is served, and then told: the token goes back at once
abbrev pub put_2 : Transition
put_2 = message_row program 0 (msg.Put cell (var 3 1) []) asks_2.site

abbrev pub forward_2 : Transition
forward_2 = message_row program 0 (msg.Forward cell 1) put_2.site

-- what these units and rows send, pick and leave: the token goes from site 1 to 3, to 2 and back to 1
abbrev pub TokenGoesRound : Type 0
TokenGoesRound =
    (asks_3.sent ≡ record { to = 1; msg = msg.Get cell 3 } ∷ [])
    × (asks_3_again.sent ≡ [])
    × (manager_3.sent ≡ record { to = 3; msg = msg.Put cell content [] } ∷ [])
    × (last_asker manager_3.site cell ≡ Some 3)
    × (manager_2.sent ≡ record { to = 3; msg = msg.Forward cell 2 } ∷ [])
    × (forward_3.sent ≡ [])
    × (put_3.picks ≡ record { thread = thread 3 0; fresh = []; bind = None } ∷ record { thread = thread 3 1; fresh = []; bind = None } ∷ [])
    × (put_3.sent ≡ record { to = 2; msg = msg.Put cell (var 3 1) [] } ∷ [])
    × ((cell_record put_3.site cell).held.token ≡ Away)
    × (asks_1.sent ≡ record { to = 2; msg = msg.Forward cell 1 } ∷ [])
    × (last_asker asks_1.site cell ≡ Some 1)
    × (put_2.sent ≡ [])
    × (forward_2.sent ≡ record { to = 1; msg = msg.Put cell (var 2 0) [] } ∷ [])
