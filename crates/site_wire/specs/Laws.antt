-- What a site sends can be spelled.
use Rattle.std.specs.Prelude.{ℕ, ◌≤◌, List}
use Rattle.tree_node.specs.declared.limits.TheConstants.{MOST_SITES}
use Rattle.tree_node.specs.Each.{Each}
use Rattle.kernel_syntax.specs.declared.stmt.Stmt.{Stmt}
use Rattle.kernel_syntax.specs.Program.{IsProgram}
use Rattle.site_message.specs.declared.turn.Turn.{Turn}
use Rattle.site_message.specs.Story.{own}
use Rattle.site_model.specs.Site.{Site}
use Rattle.site_model.specs.Run.{SiteRun}
use Rattle.site_wire.specs.Sending.{CanBeSpelled}

-- Where the entries of a site, one of at most 64, are turns in a row from its start, with bundles of at most 256 equations,
-- each message that they send can be spelled. Nothing is said of the entries of other sites
abbrev pub SitesSendWhatFits : Type 0
SitesSendWhatFits =
    (p : List Stmt) (n limit i : ℕ) (j : List Turn) (s : Site) → IsProgram p → n ≤ MOST_SITES → limit ≤ 256 → 1 ≤ i → i ≤ n
    → SiteRun p n limit i j s → Each (λ (e : Turn). CanBeSpelled e.sent) (own i j)
