-- A worked run of two sites: a thread goes to site 2, variables are registered, bound by request and told, and a cell's
-- token goes there and back.
use Rattle.std.specs.Prelude.{◌≡◌, ℕ, zero, suc, pos, codes, List, [], ◌∷◌, Option, Some, None, true}
use Rattle.tree_node.specs.declared.names.CodeId.{CodeId}
use Rattle.tree_node.specs.declared.names.ThreadName.{ThreadName}
use Rattle.kernel_syntax.specs.declared.stmt.Stmt.{Stmt}
use Rattle.kernel_syntax.specs.declared.stmt.Stmt.TheVariants.{Local, Seq, NewCell, Thread, Exchange, TellInt, TellRec, Browse, Wait}
use Rattle.tree_node.specs.declared.names.VarName.{VarName}
use Rattle.tree_node.specs.declared.node.Feature.TheVariants as feature
use Rattle.tree_node.specs.declared.node.Node.TheVariants as node
use Rattle.tree_node.specs.declared.node.Term.TheVariants as term
use Rattle.site_message.specs.declared.message.Msg.{Msg}
use Rattle.site_message.specs.declared.message.Msg.TheVariants as msg
use Rattle.site_message.specs.declared.turn.Turn.{Turn}
use Rattle.site_message.specs.Journal.{is_quiet}
use Rattle.site_model.specs.Site.{Site, initial_site, is_idle, waiting_count}
use Rattle.site_model.specs.Transition.{Transition}
use Rattle.site_model.specs.Run.{WorldRun, delivered_message}
use Rattle.site_model.specs.Choice.{next_turn}

-- the code of this number
abbrev pub code : ℕ → CodeId
code n = record { 0 = n }

-- local X C O in {NewCell X C} thread at 2 {Exchange C O X} X = 5 end {Wait X} {Exchange C X X} end
abbrev pub program : List Stmt
program =
    Local 0 3 (code 1) ∷ Seq (code 2 ∷ code 3 ∷ code 7 ∷ code 8 ∷ []) ∷ NewCell 0 1 ∷ Thread (Some (pos 2)) (code 4)
    ∷ Seq (code 5 ∷ code 6 ∷ []) ∷ Exchange 1 2 0 ∷ TellInt 0 (pos 5) ∷ Wait 0 ∷ Exchange 1 0 0 ∷ []

-- the thread that begins at site 1
abbrev pub first : ThreadName
first = record { site = 1; num = 0 }

-- the thread that it starts, for site 2
abbrev pub second : ThreadName
second = record { site = 1; num = 1 }

-- k units of the thread
abbrev pub times : ℕ → ThreadName → List ThreadName
times zero th = []
times (suc k) th = th ∷ times k th

-- a journal with the two sites' states after it
pub record Story : Type 0 where
  pub journal : List Turn
  pub first : Site
  pub second : Site

-- the entry of a turn of site i that delivered message k, if any, and of these units
abbrev pub entry : ℕ → Option ℕ → List ThreadName → Transition → Turn
entry i k ths d = record {
  site = i;
  delivered = k;
  units = ths;
  picks = d.picks;
  sent = d.sent;
  lines = d.lines;
  idle = is_idle d.site;
  ended = d.site.ended;
  waiting = waiting_count d.site;
  steps = d.site.steps;
}

-- site 1 makes this turn of these units
abbrev pub first_does : Story → Option ℕ → List ThreadName → Transition → Story
first_does w k ths d = record { journal = entry 1 k ths d ∷ w.journal; first = d.site; second = w.second }

-- site 2 makes this turn of these units
abbrev pub second_does : Story → Option ℕ → List ThreadName → Transition → Story
second_does w k ths d = record { journal = entry 2 k ths d ∷ w.journal; first = w.first; second = d.site }

-- a turn of so many units of its thread
abbrev pub first_turn : Story → Option ℕ → ℕ → Story
first_turn w k u = first_does w k (times u first) (next_turn program 2 0 (times u first) (delivered_message w.journal k) w.first)

-- the same at site 2
abbrev pub second_turn : Story → Option ℕ → ℕ → Story
second_turn w k u = second_does w k (times u second) (next_turn program 2 0 (times u second) (delivered_message w.journal k) w.second)

-- the two sites at the start
abbrev pub first_story : Story
first_story = record { journal = []; first = initial_site program 2 1; second = initial_site program 2 2 }

-- site 1 makes the variables and the cell, sends the thread, and waits for X
abbrev pub turn_1 : Story
turn_1 = first_turn first_story None 8

-- site 2 gets the thread (message 0), registers for the three variables (1 to 3), and waits for C
abbrev pub turn_2 : Story
turn_2 = second_turn turn_1 (Some 0) 2

-- site 1 answers the second Register: C is the cell (4)
abbrev pub turn_3 : Story
turn_3 = first_turn turn_2 (Some 2) 0

-- site 2 knows it, and asks for the token by a Get (5)
abbrev pub turn_4 : Story
turn_4 = second_turn turn_3 (Some 4) 1

-- site 1 sends the token by a Put (6)
abbrev pub turn_5 : Story
turn_5 = first_turn turn_4 (Some 5) 0

-- site 2 exchanges, and asks for the bind of O to X (7)
abbrev pub turn_6 : Story
turn_6 = second_turn turn_5 (Some 6) 1

-- site 1 takes it; nobody is registered for O yet
abbrev pub turn_7 : Story
turn_7 = first_turn turn_6 (Some 7) 0

-- then the Register for O comes, and is answered (8)
abbrev pub turn_8 : Story
turn_8 = first_turn turn_7 (Some 3) 0

-- site 2 goes on, and asks for the bind of X to 5 (9)
abbrev pub turn_9 : Story
turn_9 = second_turn turn_8 (Some 8) 4

-- site 1 registers it for X
abbrev pub turn_10 : Story
turn_10 = first_turn turn_9 (Some 1) 0

-- site 1 takes the bind and tells site 2 (10); its own thread goes on, and asks for the token: a Forward goes to site 2 (11)
abbrev pub turn_11 : Story
turn_11 = first_turn turn_10 (Some 9) 2

-- site 2's thread ends
abbrev pub turn_12 : Story
turn_12 = second_turn turn_11 (Some 10) 2

-- the token is there and goes back (12)
abbrev pub turn_13 : Story
turn_13 = second_turn turn_12 (Some 11) 0

-- site 1's thread exchanges and ends
abbrev pub turn_14 : Story
turn_14 = first_turn turn_13 (Some 12) 2

-- the states of the two sites; those of others are as they began
abbrev pub sites_of : Story → ℕ → Site
sites_of w zero = initial_site program 2 0
sites_of w (suc zero) = w.first
sites_of w (suc (suc zero)) = w.second
sites_of w (suc (suc (suc i))) = initial_site program 2 (suc (suc (suc i)))

-- the fourteen turns are a run of the sites, and it ends quiet
abbrev pub TokenReturns : Type 0
TokenReturns = WorldRun program 2 0 turn_14.journal (sites_of turn_14) × (is_quiet 2 turn_14.journal ≡ true)

-- local X Y in Y = 5 X = f(Y) thread at 2 {Browse X} end end
abbrev pub show_program : List Stmt
show_program =
    Local 0 2 (code 1) ∷ Seq (code 2 ∷ code 3 ∷ code 4 ∷ []) ∷ TellInt 1 (pos 5)
    ∷ TellRec 0 (codes "f") ((feature.Int (pos 1), 1) ∷ []) ∷ Thread (Some (pos 2)) (code 5) ∷ Browse 0 ∷ []

-- variable k of site 1
abbrev pub v : ℕ → VarName
v k = record { site = 1; num = k }

-- the thread takes along what is known of X
abbrev pub spawn : Msg
spawn = msg.Spawn second (code 5) (v 0 ∷ [])
    ((v 0, term.Node (node.Rec (codes "f") ((feature.Int (pos 1), v 1) ∷ []))) ∷ (v 1, term.Node (node.Int (pos 5))) ∷ [])

-- the turn of site 1: eleven units of its thread
abbrev pub shows_first : Transition
shows_first = next_turn show_program 2 256 (times 11 first) None (initial_site show_program 2 1)

-- the turn of site 2: it takes the thread, and makes one unit of it
abbrev pub shows_second : Transition
shows_second = next_turn show_program 2 256 (times 1 second) (Some spawn) (initial_site show_program 2 2)

-- one message, and site 2 asks for nothing
pub record BundleTravels : Type 0 where
  pub sent : shows_first.sent ≡ record { to = 2; msg = spawn } ∷ []
  pub asked : shows_second.sent ≡ []
  pub line : shows_second.lines ≡ codes "f(5)" ∷ []
