-- A world of sites between two parts of a turn: its sites by number, how many messages were sent, those that travel with
-- their numbers, and the lines printed.
use Rattle.std.specs.Prelude.{ℕ, ◌+◌, List, [], ◌++◌, length, not, ◌==◌, Option, Some, None, Contains, if◌then◌else◌}
use Rattle.std.specs.List.{filter, enumerate_from}
use Rattle.kernel_syntax.specs.declared.stmt.Stmt.{Stmt}
use Rattle.site_message.specs.declared.message.Msg.{Msg}
use Rattle.site_message.specs.declared.message.Sent.{Sent}
use Rattle.site_message.specs.declared.turn.Turn.{Turn}
use Rattle.site_message.specs.Journal.{sent_of, travelling}
use Rattle.tree_node.specs.declared.names.CellName.{CellName}
use Rattle.tree_node.specs.Store.{Store}
use Rattle.bind_protocol.specs.Records.{Records}
use Rattle.site_model.specs.Site.{Site, Threads, CellRecord, Counters, initial_site}
use Rattle.site_model.specs.Transition.{Transition}
use Rattle.world_model.specs.Schedule.{lines_in}

-- the state of each site, by its number
abbrev pub Sites : Type 0
Sites = ℕ → Site

-- the messages that travel, with their numbers
abbrev pub Mail : Type 0
Mail = List (ℕ × Sent)

-- the sites, how many messages were sent, those that travel, and the lines printed so far
pub record World : Type 0 where
  pub sites : Sites
  pub sent : ℕ
  pub mail : Mail
  pub lines : List (List ℕ)

-- a function that has another value at i
abbrev pub at_put : {X : Type 0} → (ℕ → X) → ℕ → X → ℕ → X
at_put g i v j = if j == i then v else g j

-- site i is in this state
abbrev pub put : Sites → ℕ → Site → Sites
put f i s = at_put f i s

-- ---- what each site has of a kind

-- their equations, what they keep of variables, their threads, their records of cells, who asked last for a cell, and their counters
abbrev pub eqs : Sites → ℕ → Store
eqs f i = (f i).equations

abbrev pub records : Sites → ℕ → Records
records f i = (f i).records

abbrev pub threads : Sites → ℕ → Threads
threads f i = (f i).threads

abbrev pub cell_records : Sites → ℕ → List (CellName × CellRecord)
cell_records f i = (f i).cell_records

abbrev pub managers : Sites → ℕ → List (CellName × ℕ)
managers f i = (f i).managers

abbrev pub counters : Sites → ℕ → Counters
counters f i = (f i).counters

-- new messages, numbered from this number on
abbrev pub mail_from : ℕ → List Sent → Mail
mail_from k ms = enumerate_from k ms

-- site i did this
abbrev pub after_transition : World → ℕ → Transition → World
after_transition w i d = record {
  sites = put w.sites i d.site;
  sent = w.sent + length d.sent;
  mail = w.mail ++ mail_from w.sent d.sent;
  lines = w.lines ++ d.lines;
}

-- the messages without the one of this number
abbrev pub without_number : ℕ → Mail → Mail
without_number k ms = filter (λ (m : ℕ × Sent). not (k == m.0)) ms

-- the message of this number has come
abbrev pub after_receipt : Option ℕ → World → World
after_receipt None w = w
after_receipt (Some k) w = record w { mail = without_number k w.mail }

-- message k travels
abbrev pub IsOnItsWay : Mail → ℕ → ℕ → Msg → Type 0
IsOnItsWay mail k to m = Contains mail (k, record { to = to; msg = m })

-- the world of a journal with these sites
abbrev pub world_of : List Turn → Sites → World
world_of j f = record { sites = f; sent = length (sent_of j); mail = travelling j; lines = lines_in j }

-- the sites of a program at the start, without messages
abbrev pub start_world : List Stmt → ℕ → World
start_world p n = record { sites = initial_site p n; sent = 0; mail = []; lines = [] }
