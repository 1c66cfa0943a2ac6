-- Worked logs of one site, and the runs that they tell.
use Rattle.std.specs.Prelude.{◌≡◌, ℕ, [], ◌∷◌, Bool, false, true, None}
use Rattle.site_message.specs.declared.limits.Limits.{Limits}
use Rattle.site_message.specs.declared.turn.Turn.{Turn}
use Rattle.log_runs.specs.Log.{LogEntry, run_of}

-- one site with ten steps, and no message
abbrev pub small_limits : Limits
small_limits = record { sites = 1; steps = 10; messages = 0 }

-- a turn to so many steps, after which the site is idle or not
abbrev pub turn_to : ℕ → Bool → Turn
turn_to n idle = record { site = 1; idle = idle; delivered = None; units = []; picks = []; sent = []; lines = []; ended = 0; waiting = 0; steps = n }

abbrev pub entry_at : ℕ → Turn → LogEntry
entry_at place t = record { place = place; turn = t }

-- an entry that stands twice counts once
abbrev pub DoubledCountsOnce : Type 0
DoubledCountsOnce =
    run_of small_limits (entry_at 0 (turn_to 1 false) ∷ entry_at 0 (turn_to 1 false) ∷ []) ≡ turn_to 1 false ∷ []

-- an entry ahead of a lost one does not count
abbrev pub AheadOfLostIsPassedOver : Type 0
AheadOfLostIsPassedOver =
    run_of small_limits (entry_at 2 (turn_to 3 false) ∷ entry_at 0 (turn_to 1 false) ∷ []) ≡ turn_to 1 false ∷ []

-- it counts where it comes again behind the lost one
abbrev pub LateCounts : Type 0
LateCounts =
    run_of small_limits (entry_at 1 (turn_to 2 false) ∷ entry_at 0 (turn_to 1 false) ∷ entry_at 1 (turn_to 2 false) ∷ []) ≡ turn_to 2 false ∷ turn_to 1 false ∷ []

-- no entry counts behind a turn that ends the run: here the site is idle and no message travels
abbrev pub BehindEndIsPassedOver : Type 0
BehindEndIsPassedOver =
    run_of small_limits (entry_at 1 (turn_to 2 false) ∷ entry_at 0 (turn_to 1 true) ∷ []) ≡ turn_to 1 true ∷ []
