-- Seats as callers see them.
use Rattle.std.specs.Prelude.{◌≡◌, ℕ, ◌+◌, ◌%◌, ◌^◌, List, [], ◌∷◌, true, false, Option, Some, None}
use Rattle.atomic_table.specs.Seated.{TableId}
use Rattle.atomic_table.specs.Table.{Me}
use Rattle.site_message.specs.declared.story.Sight.{Sight}
use Rattle.book_lock.specs.declared.view.Part.{Part}
use Rattle.book_lock.specs.declared.view.View.{View}
use Rattle.book_lock.specs.declared.lock.SiteSeat.{SiteSeat}
use Rattle.book_lock.specs.declared.lock.Held.{Held}
use Rattle.book_lock.specs.declared.lock.CountedLock.{CountedLock}
use Rattle.book_lock.specs.Rule.{part, view, outside, head_of}

-- which lock it is
abbrev pub lock_id : {B : Type 0} → CountedLock B → TableId
lock_id l = l.table.shared.table_id

-- how many sites the lock was made for, each with a seat
abbrev pub lock_seats : {B : Type 0} → CountedLock B → ℕ
lock_seats l = l.table.shared.key.seats

-- the one part of a view, if there is one
abbrev pub parts_of : List View → List Part
parts_of [] = []
parts_of (v ∷ vs) = v.parts

-- the part of the one site of a seat
abbrev pub seat_part : SiteSeat → Part
seat_part s = head_of (parts_of s.badge.views)

-- what the seat of a site saw last
abbrev pub last_seen : SiteSeat → Sight
last_seen s = (seat_part s).seen

-- a seat of this table that is outside
abbrev pub IsOutsideOf : TableId → SiteSeat → Type 0
IsOutsideOf table s = (s.badge.table_id ≡ table) × (s.badge.views ≡ outside (part s.site (last_seen s) ∷ []) ∷ [])

-- the seat is outside, of whatever table
abbrev pub IsSeatOutside : SiteSeat → Type 0
IsSeatOutside s = s.badge.views ≡ outside (part s.site (last_seen s) ∷ []) ∷ []

-- a seat that is inside: its badge is with what it holds
abbrev pub IsSeatInside : SiteSeat → Type 0
IsSeatInside s = s.badge.views ≡ []

-- the seat is inside, with this part: its ticket is served, and the value is out of the table
abbrev pub HasTurn : {B : Type 0} → Me (Option B) View → Part → Type 0
HasTurn m p = (t : ℕ) × (m ≡ (view (p ∷ []) (Some t) true, (0, None) ∷ []))

-- the part of the seat's site
abbrev pub my_part : {B : Type 0} → Me (Option B) View → Part
my_part m = head_of m.0.parts

-- a seat that is outside
abbrev pub HasNoTicket : {B : Type 0} → Me (Option B) View → Type 0
HasNoTicket m = m ≡ (outside (my_part m ∷ []), [])

-- a seat that waits with the ticket that the word n tells
abbrev pub HasTicket : {B : Type 0} → ℕ → Me (Option B) View → Type 0
HasTicket n m = (t : ℕ) × (n ≡ t % 2 ^ 64) × (m ≡ (view (my_part m ∷ []) (Some t) false, []))

-- what the value showed when it was taken out
abbrev pub sight_taken : {B : Type 0} → Held B → Sight
sight_taken h = (head_of h.seat.me.0.parts).seen

-- the value is out of this table, with the seat of the site k
abbrev pub IsHeldBy : {B : Type 0} → TableId → ℕ → Held B → Type 0
IsHeldBy table k h = (h.seat.table_id ≡ table) × HasTurn h.seat.me (part k (sight_taken h))

-- the seats of the sites from k on, each of which has seen x
abbrev pub AreNewSeats : TableId → ℕ → Sight → List SiteSeat → Type 0
AreNewSeats table k x [] = Unit {0}
AreNewSeats table k x (s ∷ ss) = ((s.site ≡ k) × (s.badge.table_id ≡ table) × (s.badge.views ≡ outside (part k x ∷ []) ∷ [])) × AreNewSeats table (k + 1) x ss
