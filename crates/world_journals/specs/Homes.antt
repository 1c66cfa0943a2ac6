-- What a thread asks of the homes of cells whose state stays, and what they exchange for it and answer, by where the thread was placed.
use Rattle.std.specs.Prelude.{◌≡◌, ◌≢◌, ℕ, ◌+◌, ◌≤◌, List, count_by}
use Rattle.tree_node.specs.declared.limits.TheConstants.{MOST_SITES}
use Rattle.tree_node.specs.declared.names.CellName.{CellName}
use Rattle.tree_node.specs.declared.names.ThreadName.{ThreadName}
use Rattle.kernel_syntax.specs.declared.stmt.Stmt.{Stmt}
use Rattle.kernel_syntax.specs.Program.{IsProgram}
use Rattle.site_message.specs.Journal.{sent_of}
use Rattle.site_message.specs.declared.turn.Turn.{Turn}
use Rattle.oz_model.specs.Run.{start}
use Rattle.site_model.specs.Run.{WorldRun}
use Rattle.site_model.specs.Site.{Site}
use Rattle.world_model.specs.Schedule.{schedule}
use Rattle.world_answers.specs.Balance.{asks_content_for, answers_to, outstanding_for, one_exchange, away_exchange, exchanges_by}
use Rattle.world_journals.specs.Places.{IsPlacedAt}

-- Of a thread that was placed elsewhere, each exchange of a cell at its home was asked for by one message, and each such message was followed
-- by an exchange or is outstanding: it travels, or the home keeps it. A thread that was placed at the home asks by no message. And for each
-- of its exchanges of cells that stay at other sites a thread was sent one answer
pub record AreHomesAsked (p : List Stmt) (j : List Turn) (w : ℕ → Site) : Type 0 where
  pub away : (c : CellName) (th : ThreadName) → c.at ≢ 0 → (IsPlacedAt j th c.at → ⊥) →
      count_by (asks_content_for c th) (sent_of j) ≡ exchanges_by (one_exchange c th) p (start p) (schedule j) + outstanding_for c th j w
  pub home : (c : CellName) (th : ThreadName) → IsPlacedAt j th c.at → count_by (asks_content_for c th) (sent_of j) ≡ 0
  pub answered : (i : ℕ) (th : ThreadName) → IsPlacedAt j th i → count_by (answers_to th) (sent_of j) ≡ exchanges_by (away_exchange i th) p (start p) (schedule j)

-- in every run of a program on 1 to 64 sites, with any limit of bundles up to 256
abbrev pub HomesAreAsked : Type 0
HomesAreAsked =
    (p : List Stmt) (n limit : ℕ) (j : List Turn) (w : ℕ → Site) → IsProgram p → 1 ≤ n → n ≤ MOST_SITES → limit ≤ 256 → WorldRun p n limit j w →
    AreHomesAsked p j w
