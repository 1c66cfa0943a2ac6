-- What a log tells is a run.
use Rattle.std.specs.Prelude.{◌≡◌, ℕ, List, ◌++◌, map}
use Rattle.kernel_syntax.specs.declared.stmt.Stmt.{Stmt}
use Rattle.site_message.specs.declared.limits.Limits.{Limits}
use Rattle.site_message.specs.declared.turn.Turn.{Turn}
use Rattle.site_message.specs.EarlierEnd.{HasNoEarlierEnd}
use Rattle.site_model.specs.Bundle.{bundle_limit}
use Rattle.site_model.specs.Run.{WorldRun}
use Rattle.log_runs.specs.Log.{LogEntry, Made, told, run_of, state_after, AreMadeBy, IsLogOf, IsSiteLog}

-- Where the entries of a log that count are turns that sites made in a row, each over a part of the log that stands before it, the turns
-- are a run of the program on so many sites, to the states that the sites came to; nothing ended it before its last turn; and the log
-- tells it
abbrev pub LogsAreRuns : Type 0
LogsAreRuns =
    (p : List Stmt) (l : Limits) (log : List LogEntry) (j : List Turn) (v : ℕ → List Made) → IsLogOf l log j v → ((i : ℕ) → AreMadeBy p l i (v i))
    → WorldRun p l.sites bundle_limit j (λ i. state_after p l.sites i (v i)) × HasNoEarlierEnd l j × (run_of l log ≡ map told j)

-- what stands in the log up to an entry is the log of the turns that were made until then: those of a front of the run
abbrev pub FrontsAreLogs : Type 0
FrontsAreLogs =
    (p : List Stmt) (l : Limits) (later es : List LogEntry) (j : List Turn) (v : ℕ → List Made) → IsLogOf l (later ++ es) j v → ((i : ℕ) → AreMadeBy p l i (v i))
    → (more : List Turn) × (old : List Turn) × (u : ℕ → List Made) × (j ≡ more ++ old) × IsLogOf l es old u × ((i : ℕ) → AreMadeBy p l i (u i))

-- where it is so of each site that the entries of its own that count are turns that it made, the log is the log of what all of them made.
-- So each site has to answer for its own entries alone
abbrev pub SitesJoin : Type 0
SitesJoin = (l : Limits) (log : List LogEntry) (v : ℕ → List Made) → ((i : ℕ) → IsSiteLog l i log (v i)) → (j : List Turn) × IsLogOf l log j v
