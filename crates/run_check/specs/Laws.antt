-- What follows for all saved runs.
use Rattle.std.specs.Prelude.{◌≡◌, ℕ, ◌≤◌, List, length, map, reverse}
use Rattle.tree_node.specs.declared.limits.TheConstants.{MOST_MESSAGES, MOST_SITES, MOST_UNITS}
use Rattle.tree_node.specs.Each.{Each}
use Rattle.kernel_syntax.specs.declared.stmt.Stmt.{Stmt}
use Rattle.kernel_syntax.specs.Program.{IsProgram}
use Rattle.site_message.specs.declared.turn.Turn.{Turn}
use Rattle.site_message.specs.declared.limits.Limits.{Limits}
use Rattle.site_message.specs.EarlierEnd.{HasNoEarlierEnd}
use Rattle.site_model.specs.Bundle.{bundle_limit}
use Rattle.site_model.specs.Run.{WorldRun}
use Rattle.site_model.specs.Site.{Site}
use Rattle.run_file.specs.declared.entry.Entry.{Entry}
use Rattle.byte_fields.specs.Text.{IsLine}
use Rattle.run_file.specs.Fits.{IsEntryOf}
use Rattle.run_file.specs.Writing.{AreNumbered, entry_of}
use Rattle.run_check.specs.Again.{AreMadeAgain, IsWrongAt}

-- an entry of one of n sites, of at most 64 units
abbrev pub CanBeEntry : ℕ → Entry → Type 0
CanBeEntry n e = (1 ≤ e.site) × (e.site ≤ n) × (length e.units ≤ MOST_UNITS)

-- entries of n sites that were made again are a run that nothing ended before its end
abbrev pub MadeAgainIsRun : Type 0
MadeAgainIsRun =
    (p : List Stmt) (l : Limits) (j : List Turn) (es : List Entry) (w : ℕ → Site) → Each (CanBeEntry l.sites) es →
    AreMadeAgain p l j es w → WorldRun p l.sites bundle_limit j w × HasNoEarlierEnd l j × (es ≡ map entry_of (reverse j))

-- they lead to one journal
abbrev pub MadeAgainIsOne : Type 0
MadeAgainIsOne =
    (p : List Stmt) (l : Limits) (j k : List Turn) (es : List Entry) (w v : ℕ → Site) → AreMadeAgain p l j es w → AreMadeAgain p l k es v → (j ≡ k) × ((i : ℕ) → w i ≡ v i)

-- entries that can all be made again have no wrong one
abbrev pub NotBoth : Type 0
NotBoth = (p : List Stmt) (l : Limits) (j k : List Turn) (es : List Entry) (w : ℕ → Site) (i : ℕ) → AreMadeAgain p l j es w → IsWrongAt p l es i k → ⊥

-- one entry at most is the first that is wrong, and the journal of those before it is one
abbrev pub WrongIsOne : Type 0
WrongIsOne = (p : List Stmt) (l : Limits) (es : List Entry) (i k : ℕ) (a b : List Turn) → IsWrongAt p l es i a → IsWrongAt p l es k b → (i ≡ k) × (a ≡ b)

-- of a run that nothing ended before its end, no entry is wrong
abbrev pub RunsAreNotWrong : Type 0
RunsAreNotWrong =
    (p : List Stmt) (l : Limits) (j k : List Turn) (w : ℕ → Site) (i : ℕ) → WorldRun p l.sites bundle_limit j w → HasNoEarlierEnd l j →
    IsWrongAt p l (map entry_of (reverse j)) i k → ⊥

-- and where its entries are made again, they lead to this very run
abbrev pub RunsAreMadeAgain : Type 0
RunsAreMadeAgain =
    (p : List Stmt) (l : Limits) (j k : List Turn) (w v : ℕ → Site) → WorldRun p l.sites bundle_limit j w →
    AreMadeAgain p l k (map entry_of (reverse j)) v → (k ≡ j) × ((i : ℕ) → v i ≡ w i)

-- no line that a run prints has a newline in it
abbrev pub PrintedLinesAreLines : Type 0
PrintedLinesAreLines =
    (p : List Stmt) (n : ℕ) (j : List Turn) (w : ℕ → Site) → IsProgram p → 1 ≤ n → n ≤ MOST_SITES → WorldRun p n bundle_limit j w → Each (λ (e : Turn). Each IsLine e.lines) j

-- the entries of a run that nothing ended before its end have a text, where the numbers of its threads have 64 bits
abbrev pub RunsMayBeSaved : Type 0
RunsMayBeSaved =
    (p : List Stmt) (l : Limits) (j : List Turn) (w : ℕ → Site) → IsProgram p → 1 ≤ l.sites → l.sites ≤ MOST_SITES → l.messages ≤ MOST_MESSAGES →
    WorldRun p l.sites bundle_limit j w → HasNoEarlierEnd l j → AreNumbered j → Each (IsEntryOf l.sites) (map entry_of (reverse j))
