-- How many messages there are in a run: at most as the schedule's threads and variables, and the sites, allow.
use Rattle.std.specs.Prelude.{ℕ, ◌+◌, ◌-◌, ◌*◌, ◌≤◌, List, [], ◌∷◌, ◌++◌, length, Bool, true, false, ◌&&◌}
use Rattle.std.specs.List.{count_by}
use Rattle.tree_node.specs.declared.names.VarName.{VarName}
use Rattle.tree_node.specs.declared.names.ThreadName.{ThreadName}
use Rattle.tree_node.specs.declared.names.Name.{Name}
use Rattle.tree_node.specs.declared.names.Name.TheVariants as name
use Rattle.tree_node.specs.declared.pick.Pick.{Pick}
use Rattle.tree_node.specs.State.{equal_thread}
use Rattle.tree_node.specs.Store.{equal_var}
use Rattle.kernel_syntax.specs.declared.stmt.Stmt.{Stmt}
use Rattle.kernel_syntax.specs.Program.{IsProgram}
use Rattle.site_message.specs.declared.message.Msg.{Msg}
use Rattle.site_message.specs.declared.message.Msg.TheVariants as msg
use Rattle.site_message.specs.declared.message.Sent.{Sent}
use Rattle.site_message.specs.declared.turn.Turn.{Turn}
use Rattle.site_message.specs.Journal.{sent_of}
use Rattle.oz_model.specs.Effect.{vars_among}
use Rattle.oz_model.specs.Run.{first_thread}
use Rattle.site_model.specs.Site.{Site}
use Rattle.site_model.specs.Run.{WorldRun}
use Rattle.world_model.specs.Schedule.{schedule}
use Rattle.world_messages.specs.Fitting.{TokensServe}

-- the fresh names of these picks
abbrev pub fresh_in : List Pick → List Name
fresh_in [] = []
fresh_in (k ∷ ks) = k.fresh ++ fresh_in ks

-- the threads among these names
abbrev pub threads_among : List Name → List ThreadName
threads_among [] = []
threads_among (name.Thread n ∷ names) = n ∷ threads_among names
threads_among (_ ∷ names) = threads_among names

-- the variables that a schedule makes
abbrev pub vars_made : List Pick → List VarName
vars_made ks = vars_among (fresh_in ks)

-- the threads that a schedule makes, the first one among them
abbrev pub threads_made : List Pick → List ThreadName
threads_made ks = first_thread ∷ threads_among (fresh_in ks)

-- ---- kinds of messages

-- the message is a Spawn; and so, one after another, of a Register, a BindReq and a Binding
abbrev pub spawns : Sent → Bool
spawns m = is m.msg
  where
    is : Msg → Bool
    is (msg.Spawn n code vars bundle) = true
    is _ = false

abbrev pub asks_to_know : Sent → Bool
asks_to_know m = is m.msg
  where
    is : Msg → Bool
    is (msg.Register x k) = true
    is _ = false

abbrev pub asks_to_bind : Sent → Bool
asks_to_bind m = is m.msg
  where
    is : Msg → Bool
    is (msg.BindReq x n t bundle) = true
    is _ = false

abbrev pub tells_binding : Sent → Bool
tells_binding m = is m.msg
  where
    is : Msg → Bool
    is (msg.Binding x t bundle) = true
    is _ = false

-- a request of this thread to bind this variable
abbrev pub is_request : ThreadName → VarName → Sent → Bool
is_request n x m = asks m.msg
  where
    asks : Msg → Bool
    asks (msg.BindReq y o t bundle) = equal_thread n o && equal_var x y
    asks _ = false

-- ---- bounds

-- on n sites: one for each thread made, two for each variable made and site that is not its owner, one for each thread and variable
abbrev pub variable_messages : ℕ → List Pick → ℕ
variable_messages n picks =
    let threads = length (threads_made picks) in
    let variables = length (vars_made picks) in
    threads + 2 * (variables * (n - 1)) + threads * variables

-- at most one Spawn for each thread made
abbrev pub SpawnsAreFew : Type 0
SpawnsAreFew =
    (p : List Stmt) (n limit : ℕ) (j : List Turn) (f : ℕ → Site) → WorldRun p n limit j f →
    count_by spawns (sent_of j) + 1 ≤ length (threads_made (schedule j))

-- at most one Register and one Binding for each variable made and each site that is not its owner
abbrev pub RegistersAreFew : Type 0
RegistersAreFew =
    (p : List Stmt) (n limit : ℕ) (j : List Turn) (f : ℕ → Site) → IsProgram p → TokensServe p n limit → WorldRun p n limit j f →
    (count_by asks_to_know (sent_of j) ≤ length (vars_made (schedule j)) * (n - 1))
    × (count_by tells_binding (sent_of j) ≤ length (vars_made (schedule j)) * (n - 1))
