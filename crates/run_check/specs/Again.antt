-- The entries of a saved run made again, one after another. Entries are the oldest first, journals the newest first.
use Rattle.std.specs.Prelude.{◌≡◌, ◌≢◌, ◌⊎◌, ℕ, List, [], ◌∷◌, ◌++◌, length, Some, None}
use Rattle.kernel_syntax.specs.declared.stmt.Stmt.{Stmt}
use Rattle.site_message.specs.declared.message.Sent.{Sent}
use Rattle.site_message.specs.declared.reason.Reason.{Reason}
use Rattle.site_message.specs.declared.turn.Turn.{Turn}
use Rattle.site_message.specs.declared.limits.Limits.{Limits}
use Rattle.site_message.specs.Journal.{end_of, IsTravelling, DeliversOnce}
use Rattle.site_model.specs.Run.{IsRecordOf, delivered_message}
use Rattle.site_model.specs.Site.{Site, initial_site}
use Rattle.site_model.specs.Transition.{Transition}
use Rattle.site_core.specs.Replay.{TurnComesTo, IsStuckTurn}
use Rattle.run_file.specs.declared.entry.Entry.{Entry}
use Rattle.run_file.specs.Writing.{entry_of}

-- From the journal j, which led to the states w, the turn t makes the entry e again and leads to the states v: nothing ended the run
-- before, what the entry delivers travels to its site, its message and units come to one transition alone, which the turn records, and
-- of the turn this entry is saved
pub record IsMadeAgain (p : List Stmt) (l : Limits) (j : List Turn) (w : ℕ → Site) (e : Entry) (t : Turn) (v : ℕ → Site) : Type 0 where
  pub goes_on : end_of l j ≡ None
  pub saved : entry_of t ≡ e
  pub travels : DeliversOnce j t
  pub turn : (d : Transition) × TurnComesTo p l.sites e.units (w e.site) (delivered_message j e.delivered) d × IsRecordOf t d × (v e.site ≡ d.site)
  pub others : (i : ℕ) → i ≢ e.site → v i ≡ w i

-- these entries were made again, one after another, from the start of the program: they led to this journal and these states
abbrev pub AreMadeAgain : List Stmt → Limits → List Turn → List Entry → (ℕ → Site) → Type 0
AreMadeAgain p l [] es w = (es ≡ []) × ((i : ℕ) → w i ≡ initial_site p l.sites i)
AreMadeAgain p l (t ∷ j) es w =
    (front : List Entry) × (e : Entry) × (old : ℕ → Site) × (es ≡ front ++ e ∷ []) × AreMadeAgain p l j front old × IsMadeAgain p l j old e t w

-- a front of these entries was made again, and led to this journal
abbrev pub IsFrontMadeAgain : List Stmt → Limits → List Turn → List Entry → Type 0
IsFrontMadeAgain p l j es = (front behind : List Entry) × (w : ℕ → Site) × (es ≡ front ++ behind) × AreMadeAgain p l j front w

-- what an entry delivers does not travel to its site
abbrev pub DeliversNone : List Turn → Entry → Type 0
DeliversNone j e = (k : ℕ) × (e.delivered ≡ Some k) × ((m : Sent) → IsTravelling j k m → m.to ≡ e.site → ⊥)

-- its message and units come to other lines
abbrev pub PrintsOthers : List Stmt → Limits → List Turn → (ℕ → Site) → Entry → Type 0
PrintsOthers p l j w e =
    (d : Transition) × TurnComesTo p l.sites e.units (w e.site) (delivered_message j e.delivered) d × (d.lines ≢ e.lines)

-- the entry is wrong behind this journal: the run ended before it, or it delivers what does not travel to its site, or behind its
-- message a thread of its units cannot go on, or it prints other lines
abbrev pub IsWrong : List Stmt → Limits → List Turn → (ℕ → Site) → Entry → Type 0
IsWrong p l j w e =
    ((r : Reason) × (end_of l j ≡ Some r)) ⊎ DeliversNone j e
    ⊎ ((at : ℕ) × IsStuckTurn p l.sites (w e.site) (delivered_message j e.delivered) e.units at)
    ⊎ PrintsOthers p l j w e

-- the entry at this place, counted from 0, is the first that is wrong: those before it were made again, and led to this journal
abbrev pub IsWrongAt : List Stmt → Limits → List Entry → ℕ → List Turn → Type 0
IsWrongAt p l es i j =
    (front behind : List Entry) × (e : Entry) × (w : ℕ → Site) × (es ≡ front ++ e ∷ behind) × (i ≡ length front)
    × AreMadeAgain p l j front w × IsWrong p l j w e
