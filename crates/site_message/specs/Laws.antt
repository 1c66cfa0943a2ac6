-- What the definitions of journals say, in other words, and a worked journal.
use Rattle.std.specs.Prelude.{◌≡◌, ◌↔◌, ℕ, ◌+◌, ◌≤◌, List, [], ◌∷◌, ◌++◌, length, true, false, IsTrue, Some, None, Contains}
use Rattle.std.specs.List.{enumerate_from}
use Rattle.site_message.specs.declared.message.Sent.{Sent}
use Rattle.site_message.specs.declared.message.Msg.TheVariants as msg
use Rattle.site_message.specs.declared.turn.Turn.{Turn}
use Rattle.site_message.specs.declared.reason.Reason.TheVariants.{Quiet, Steps, Messages}
use Rattle.site_message.specs.declared.limits.Limits.{Limits}
use Rattle.site_message.specs.Journal.{Wired, IsTravelling, sent_of, travelling, was_delivered, without_number, deliveries, is_idle, is_quiet, end_of}
use Rattle.site_message.specs.Story.{own}

-- the list of travelling messages has those that were sent and not delivered, and no other
abbrev pub TravellingTells : Type 0
TravellingTells = (j : List Turn) (k : ℕ) (m : Sent) → Contains (travelling j) (k, m) ↔ IsTravelling j k m

-- in a lawful journal each delivered message was sent to that site by an earlier turn, and no other turn,
-- earlier or later, delivers it
abbrev pub IsAlone : List Turn → List Turn → Turn → ℕ → Type 0
IsAlone later earlier e k =
    (m : Sent) × IsTravelling earlier k m × (m.to ≡ e.site) × (was_delivered later k ≡ false)

-- the same of every turn of a lawful journal that delivers a message
abbrev pub WiredTells : Type 0
WiredTells =
    (j : List Turn) → Wired j →
    (later earlier : List Turn) (e : Turn) (k : ℕ) → j ≡ later ++ e ∷ earlier → e.delivered ≡ Some k → IsAlone later earlier e k

-- after one more turn those travel that did, but for the one that it delivered, and then those that it sent, numbered
-- on
abbrev pub TravellingGrows : Type 0
TravellingGrows =
    (j : List Turn) (e : Turn) → Wired (e ∷ j) →
    travelling (e ∷ j) ≡ without_number e.delivered (travelling j) ++ enumerate_from (length (sent_of j)) e.sent

-- each number is above the one before it, and the first is b or above
abbrev pub IsAscending : {A : Type 0} → ℕ → List (ℕ × A) → Type 0
IsAscending b [] = Unit {0}
IsAscending b (p ∷ ps) = (b ≤ p.0) × IsAscending (p.0 + 1) ps

-- the numbers of the travelling messages ascend, so each stands there once
abbrev pub TravellingAscends : Type 0
TravellingAscends = (j : List Turn) → IsAscending 0 (travelling j)

-- each message that was sent was delivered by one turn or travels
abbrev pub MessagesAddUp : Type 0
MessagesAddUp = (j : List Turn) → Wired j → deliveries j + length (travelling j) ≡ length (sent_of j)

-- a site delivers no more messages than were sent
abbrev pub FewAreDelivered : Type 0
FewAreDelivered = (k : ℕ) (j : List Turn) → Wired j → deliveries (own k j) ≤ length (sent_of j)

-- a run is quiet exactly where nothing travels and every site is idle
abbrev pub QuietTells : Type 0
QuietTells =
    (n : ℕ) (j : List Turn) →
    IsTrue (is_quiet n j) ↔ ((k : ℕ) (m : Sent) → IsTravelling j k m → ⊥) × ((i : ℕ) → 1 ≤ i → i ≤ n → IsTrue (is_idle j i))

-- the message that brings a thread of site 1 to site 2
abbrev pub spawned : Sent
spawned = record {
  to = 2;
  msg = msg.Spawn (record { site = 1; num = 1 }) (record { 0 = 3 }) [] [];
}

-- site 1 sends a thread to site 2 and is idle
abbrev pub first_turn : Turn
first_turn = record {
  site = 1;
  delivered = None;
  units = [];
  picks = [];
  sent = spawned ∷ [];
  lines = [];
  idle = true;
  ended = 1;
  waiting = 0;
  steps = 2;
}

-- site 2 runs it to its end
abbrev pub second_turn : Turn
second_turn = record {
  site = 2;
  delivered = Some 0;
  units = [];
  picks = [];
  sent = [];
  lines = [];
  idle = true;
  ended = 1;
  waiting = 0;
  steps = 1;
}

-- two sites, with so many own steps each and so many messages
abbrev pub limits : ℕ → ℕ → Limits
limits steps messages = record { sites = 2; steps = steps; messages = messages }

-- with the thread on its way the run goes on; when it has ended the run is quiet
abbrev pub RunGoesOn : Type 0
RunGoesOn = end_of (limits 10 1) (first_turn ∷ []) ≡ None

abbrev pub RunIsQuiet : Type 0
RunIsQuiet = end_of (limits 10 1) (second_turn ∷ first_turn ∷ []) ≡ Some Quiet

-- one message where none may be sent ends the run
abbrev pub RunIsFull : Type 0
RunIsFull = end_of (limits 2 0) (first_turn ∷ []) ≡ Some Messages

-- one message is no more than one, and the site that used up its steps is idle: the run goes on
abbrev pub IdleGoesOn : Type 0
IdleGoesOn = end_of (limits 2 1) (first_turn ∷ []) ≡ None

-- a site that could go on comes to its limit
abbrev pub RunIsAtLimit : Type 0
RunIsAtLimit = end_of (limits 2 1) (record first_turn { idle = false } ∷ []) ≡ Some (Steps 1)
