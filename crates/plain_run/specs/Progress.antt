-- A run without workers that goes on, whatever the order of its turns, and how it ends.
use Rattle.std.specs.Prelude.{◌≡◌, ◌⊎◌, ℕ, ◌+◌, ◌-◌, ◌<◌, ◌≤◌, List, ◌∷◌, length, Bool, true, false, Some, None}
use Rattle.kernel_syntax.specs.declared.stmt.Stmt.{Stmt}
use Rattle.site_message.specs.declared.turn.Turn.{Turn}
use Rattle.site_message.specs.declared.reason.Reason.{Reason}
use Rattle.site_message.specs.declared.reason.Reason.TheVariants.{Memory}
use Rattle.site_message.specs.declared.limits.Limits.{Limits}
use Rattle.site_message.specs.Journal.{sent_of, deliveries, end_of, AreWithin}
use Rattle.site_message.specs.EarlierEnd.{HasNoEarlierEnd}
use Rattle.site_model.specs.Bundle.{bundle_limit}
use Rattle.site_model.specs.Site.{is_idle}
use Rattle.site_model.specs.Run.{WorldRun}
use Rattle.world_model.specs.Schedule.{sum_to}
use Rattle.world_core.specs.Travels.{IsNoneFor, IsNothingFor}
use Rattle.world_core.specs.World.{WorldState, states_of, orders_of}
use Rattle.plain_run.specs.Counts.{runnable_count}
use Rattle.plain_run.specs.Rounds.{Standing, ComesBefore}

-- the reason is how the journal ends; or memory ran out where it goes on
abbrev pub HasReason : Limits → List Turn → Reason → Type 0
HasReason l j r = (end_of l j ≡ Some r) ⊎ ((r ≡ Memory) × (end_of l j ≡ None))

-- how the sites of this world stand
abbrev pub standing_of : WorldState → Standing
standing_of w = record { states = states_of w; orders = orders_of w }

-- ---- sites

-- the site has no message and cannot go on
abbrev pub IsAtEase : WorldState → ℕ → Type 0
IsAtEase w i = (is_idle (states_of w i) ≡ true) × IsNothingFor w.journal i

-- the site has a message or can go on
abbrev pub IsBusy : WorldState → ℕ → Type 0
IsBusy w i = (is_idle (states_of w i) ≡ false) ⊎ (IsNoneFor w.travels i → ⊥)

-- i is the first busy site from one on, below the end
abbrev pub IsFirstBusy : WorldState → ℕ → ℕ → ℕ → Type 0
IsFirstBusy w from end i = (from ≤ i) × (i < end) × IsBusy w i × ((k : ℕ) → from ≤ k → k < i → IsAtEase w k)

-- i is the first busy site of n in the circle behind the last one
abbrev pub IsNextBusy : WorldState → ℕ → ℕ → ℕ → Type 0
IsNextBusy w n last i = (1 ≤ i) × (i ≤ n) × IsBusy w i × ((k : ℕ) → 1 ≤ k → k ≤ n → ComesBefore last k i → IsAtEase w k)

-- ---- runs that go on

-- no limit is reached: no site that can go on is at its limit of own steps, no turn went past it, no more messages were sent than the
-- limit, and the journal has no end and had none before
pub record IsGoing (l : Limits) (p : List Stmt) (w : WorldState) : Type 0 where
  pub program : w.program ≡ p
  pub sites : w.sites ≡ l.sites
  pub live : w.spent ≡ false
  pub run : WorldRun w.program w.sites bundle_limit w.journal (states_of w)
  pub within : (i : ℕ) → (states_of w i).steps ≤ l.steps
  pub kept : AreWithin l w.journal
  pub idle : (i : ℕ) → (states_of w i).steps ≡ l.steps → is_idle (states_of w i) ≡ true
  pub few : length (sent_of w.journal) ≤ l.messages
  pub goes_on : end_of l w.journal ≡ None
  pub went : HasNoEarlierEnd l w.journal

-- the own steps that the site may still make
abbrev pub steps_left : Limits → WorldState → ℕ → ℕ
steps_left l w i = l.steps - (states_of w i).steps

-- the own steps and the deliveries that are left
abbrev pub turns_left : Limits → WorldState → ℕ
turns_left l w = sum_to l.sites (steps_left l w) + (l.messages - deliveries w.journal)

-- how many threads can go on at all sites
abbrev pub all_runnable : Limits → WorldState → ℕ
all_runnable l w = sum_to l.sites (λ i. runnable_count (states_of w i))

-- ---- turns

-- after a turn of the site, within its limit of own steps
pub record IsLimitedTurn (l : Limits) (p : List Stmt) (old new : WorldState) (site : ℕ) : Type 0 where
  pub entry : Turn
  pub journal : new.journal ≡ entry ∷ old.journal
  pub at : entry.site ≡ site
  pub steps : entry.steps ≡ (states_of new site).steps
  pub rests : entry.idle ≡ is_idle (states_of new site)
  pub program : new.program ≡ p
  pub sites : new.sites ≡ l.sites
  pub live : new.spent ≡ false
  pub run : WorldRun new.program new.sites bundle_limit new.journal (states_of new)
  pub within : (i : ℕ) → (states_of new i).steps ≤ l.steps
  pub kept : AreWithin l new.journal
  pub idle : (i : ℕ) → (entry.site ≡ i → ⊥) → (states_of new i).steps ≡ l.steps → is_idle (states_of new i) ≡ true
  pub went : HasNoEarlierEnd l new.journal

-- a turn that takes a message or makes an own step leaves fewer of them; after another one fewer threads can go on
abbrev pub IsProgress : Limits → WorldState → WorldState → Bool → Type 0
IsProgress l old new true = turns_left l new < turns_left l old
IsProgress l old new false = (turns_left l new ≡ turns_left l old) × (all_runnable l new < all_runnable l old)
