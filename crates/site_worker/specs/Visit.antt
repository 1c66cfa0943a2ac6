-- What a visit leaves.
use Rattle.std.specs.Prelude.{min, ◌-◌, Option, ◌≡◌, ◌⊎◌, ℕ, ◌≤◌, List, [], ◌∷◌, true, false, Some, None}
use Rattle.tree_node.specs.declared.limits.TheConstants.{MOST_STEPS, MOST_UNITS}
use Rattle.atomic_table.specs.Seated.{TableId}
use Rattle.site_message.specs.declared.message.Msg.{Msg}
use Rattle.site_message.specs.declared.turn.Turn.{Turn}
use Rattle.site_message.specs.declared.story.Sight.{Sight}
use Rattle.site_message.specs.declared.reason.Reason.{Reason}
use Rattle.site_message.specs.Journal.{IsTravelling}
use Rattle.site_message.specs.Story.{own, hand}
use Rattle.message_book.specs.Book.{IsReason}
use Rattle.book_lock.specs.Rule.{IsContinuation}
use Rattle.site_model.specs.Run.{delivered_message}
use Rattle.site_model.specs.Site.{is_idle}
use Rattle.site_core.specs.Site.{IsTurnMade, message_in, number_in}
use Rattle.site_worker.specs.Inside.{book_limits, book_steps}
use Rattle.site_worker.specs.Waking.{AreRecipients}
use Rattle.site_worker.specs.Host.{IsHost, HasSpelling, program_of, sites_of, state_of, fixed_of, sight}
use Rattle.site_worker.specs.declared.host.Host.{Host}
use Rattle.site_worker.specs.declared.inside.Fetched.{Fetched}
use Rattle.site_worker.specs.declared.inside.Fetched.TheVariants as fetched
use Rattle.site_worker.specs.declared.visited.Visited.{Visited}
use Rattle.site_worker.specs.declared.visited.Visited.TheVariants.{Did, Nothing, Over}

-- the site k has no entry more
abbrev pub HasNoEntry : ℕ → Sight → Sight → Type 0
HasNoEntry k old new = own k new.entries ≡ own k old.entries

-- the site k has this entry more
abbrev pub HasEntry : ℕ → Sight → Sight → Turn → Type 0
HasEntry k old new e = own k new.entries ≡ e ∷ own k old.entries

-- the book has this reason, by which its entries end; or it is want of memory, and they go on
abbrev pub IsOver : Sight → Reason → Type 0
IsOver x r = (x.reason ≡ Some r) × IsReason (book_limits x) x.entries (Some r)

-- no message travels to the site k: each that was sent to it was delivered
abbrev pub NoneTravels : ℕ → List Turn → Type 0
NoneTravels k j = (n : ℕ) (m : Msg) → IsTravelling j n (record { to = k; msg = m }) → ⊥

-- at some time of the visit no message travelled to the site k: the entries of that time go on from those that the seat had seen, none
-- more of them the site's own, and those that it sees now go on from them. So no message that the seat had seen waited
abbrev pub NoneWaited : ℕ → Sight → Sight → Type 0
NoneWaited k old new =
    (found : List Turn) × IsContinuation found old.entries × IsContinuation new.entries found × (own k found ≡ own k old.entries) × NoneTravels k found

-- the units that a turn of the host may make: 64, or the own steps that are left, where these are fewer
abbrev pub quantum_of : Host → ℕ
quantum_of h = min (book_steps (sight h) - (state_of h).steps) MOST_UNITS

-- the site has exactly this entry more: a turn from its state before, of as many units as the quantum, fewer only where the
-- site is then idle, with this message, which the book has by that number, or, where the site was not idle and none waited for
-- it, with none; and the sites that it sent to are the ones to be woken
pub record HasMadeTurn (old new : Host) : Type 0 where
  pub entry : Turn
  pub message : Option (ℕ × Msg)
  pub posted : HasEntry old.number (sight old) (sight new) entry
  pub turn : IsTurnMade (program_of old) (sites_of old) (state_of old) message (quantum_of old) entry (state_of new)
  pub content : delivered_message (sight new).entries (number_in message) ≡ message_in message
  pub cause : message ≡ None → is_idle (state_of old) ≡ false
  pub waits : message ≡ None → NoneWaited old.number (sight old) (sight new)
  pub wakes : AreRecipients new.recipients entry.sent

-- What a visit left. Did: the site made a turn, and has nothing in hand. Nothing: the site is as it was, has no entry more and
-- nothing in hand, is idle, and no message travels to it. Over: the book has this reason, by which its entries end, or want of memory
-- where they go on; and the site made a turn, or has no entry more.
-- Where it is not over the book has no reason
abbrev pub IsVisit : Host → Host → Visited → Type 0
IsVisit old new Did = ((sight new).reason ≡ None) × HasMadeTurn old new × (hand old.number (sight new).hands ≡ [])
IsVisit old new Nothing =
    ((sight new).reason ≡ None) × HasNoEntry old.number (sight old) (sight new) × (hand old.number (sight new).hands ≡ []) × (is_idle (state_of old) ≡ true)
    × (state_of new ≡ state_of old) × NoneTravels old.number (sight new).entries
IsVisit old new (Over r) = IsOver (sight new) r × ((HasNoEntry old.number (sight old) (sight new) × IsContinuation (sight new).entries (sight old).entries) ⊎ HasMadeTurn old new)

-- the same site of the same run
pub record IsSameHost (old new : Host) : Type 0 where
  pub number : new.number ≡ old.number
  pub program : program_of new ≡ program_of old
  pub sites : sites_of new ≡ sites_of old
  pub fixed : fixed_of new ≡ fixed_of old

-- the first half of a visit: the book has a reason, and the host is as it was; or the visit goes on with what was taken
abbrev pub IsFirstHalf : TableId → Host → Host → Fetched → Type 0
IsFirstHalf table old new (fetched.Over r) =
    IsHost table new × IsOver (sight new) r × HasNoEntry old.number (sight old) (sight new) × IsContinuation (sight new).entries (sight old).entries
IsFirstHalf table old new (fetched.Open o limit) = HasSpelling table new o × HasNoEntry old.number (sight old) (sight new) × ((limit ≡ book_steps (sight new)) × (limit ≤ MOST_STEPS))

-- the host is in a visit that it began as `old`, and goes on with what was taken
pub record HasBegun (table : TableId) (old new : Host) (o : Option (ℕ × List ℕ)) (limit : ℕ) : Type 0 where
  pub same : IsSameHost old new
  pub state : state_of new ≡ state_of old
  pub half : IsFirstHalf table old new (fetched.Open o limit)
  pub begins : IsContinuation (sight new).entries (sight old).entries

-- the second half: the turn was posted, and the book has a reason or none; or the book refused it, and has a reason
abbrev pub IsSecondHalf : ℕ → Turn → Sight → Sight → Visited → Type 0
IsSecondHalf k e old new Did = (new.reason ≡ None) × HasEntry k old new e × (hand k new.hands ≡ [])
IsSecondHalf k e old new Nothing = ⊥
IsSecondHalf k e old new (Over r) = IsOver new r × ((HasNoEntry k old new × IsContinuation new.entries old.entries) ⊎ HasEntry k old new e)

-- the second half where the turn had no memory: the site has no entry more, and the book has a reason
abbrev pub IsGivenUp : ℕ → Sight → Sight → Visited → Type 0
IsGivenUp k old new Did = ⊥
IsGivenUp k old new Nothing = ⊥
IsGivenUp k old new (Over r) = IsOver new r × HasNoEntry k old new × IsContinuation new.entries old.entries

-- the turn that left the host as `old` was posted, with the host as `new` after it, or refused
abbrev pub IsPostedHalf : Host → Host → Turn → Visited → Type 0
IsPostedHalf old new e v =
    IsSecondHalf old.number e (sight old) (sight new) v × (state_of new ≡ state_of old) × (new.recipients ≡ old.recipients)
    × IsContinuation (sight new).entries (sight old).entries

-- the second half of a visit that ends with this reason; or the turn was posted, and the next visit has begun. That both are in one hold,
-- with nothing in between, is a clause inside alone (`HasPostedAndFetched`)
abbrev pub IsNextHalf : TableId → Host → Host → Turn → Fetched → Type 0
IsNextHalf table old new e (fetched.Over r) = IsHost table new × IsPostedHalf old new e (Over r)
IsNextHalf table old new e (fetched.Open o limit) = (b : Host) × IsPostedHalf old b e Did × HasBegun table b new o limit

-- a visit that began as `a` has ended with this reason; or it made a turn, and the next one has begun
abbrev pub IsNextVisit : TableId → Host → Host → Fetched → Type 0
IsNextVisit table a new (fetched.Over r) = IsHost table new × IsVisit a new (Over r)
IsNextVisit table a new (fetched.Open o limit) = (b : Host) × IsVisit a b Did × HasBegun table b new o limit

-- visits that each made a turn, one behind the other, led from a to c; between them the host was as these tell, the newest first
abbrev pub LedByTurns : Host → List Host → Host → Type 0
LedByTurns a [] c = c ≡ a
LedByTurns a (b ∷ bs) c = IsVisit b c Did × LedByTurns a bs b

-- visits one behind the other, each of which made a turn but the last, which left this
abbrev pub AreVisits : Host → Host → Visited → Type 0
AreVisits old new v = (bs : List Host) × (b : Host) × LedByTurns old bs b × IsVisit b new v

-- the same, or the last of them has begun
abbrev pub AreVisitsSoFar : TableId → Host → Host → Fetched → Type 0
AreVisitsSoFar table old new (fetched.Over r) = IsHost table new × AreVisits old new (Over r)
AreVisitsSoFar table old new (fetched.Open o limit) = (bs : List Host) × (b : Host) × LedByTurns old bs b × HasBegun table b new o limit
