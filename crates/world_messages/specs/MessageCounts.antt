-- How many requests to bind there are, and all messages on variables and threads together.
use Rattle.std.specs.Prelude.{ℕ, ◌+◌, ◌*◌, ◌≤◌, List, length}
use Rattle.std.specs.List.{count_by}
use Rattle.kernel_syntax.specs.declared.stmt.Stmt.{Stmt}
use Rattle.kernel_syntax.specs.Program.{IsProgram}
use Rattle.site_message.specs.declared.turn.Turn.{Turn}
use Rattle.site_message.specs.Journal.{sent_of}
use Rattle.site_model.specs.Site.{Site}
use Rattle.site_model.specs.Run.{WorldRun}
use Rattle.world_model.specs.Schedule.{schedule}
use Rattle.world_messages.specs.Fitting.{TokensServe}
use Rattle.world_messages.specs.Messages.{vars_made, threads_made, variable_messages, spawns, asks_to_know, asks_to_bind, tells_binding}
use Rattle.world_messages.specs.BindRequests.{ThreadsArePlaced}

-- where those that wait for a token can be served and each thread is at one place: at most one request to bind for each thread
-- and each variable made
abbrev pub RequestsAreFew : Type 0
RequestsAreFew =
    (p : List Stmt) (n limit : ℕ) (j : List Turn) (f : ℕ → Site) → IsProgram p → TokensServe p n limit → ThreadsArePlaced p n limit →
    WorldRun p n limit j f → count_by asks_to_bind (sent_of j) ≤ length (threads_made (schedule j)) * length (vars_made (schedule j))

-- under the same two conditions: the messages that are not a cell's are at most `variable_messages` of the schedule
abbrev pub FewWhereTokensServe : Type 0
FewWhereTokensServe =
    (p : List Stmt) (n limit : ℕ) (j : List Turn) (f : ℕ → Site) → IsProgram p → TokensServe p n limit → ThreadsArePlaced p n limit →
    WorldRun p n limit j f →
    count_by spawns (sent_of j) + count_by asks_to_know (sent_of j) + count_by tells_binding (sent_of j) + count_by asks_to_bind (sent_of j)
    ≤ variable_messages n (schedule j)
