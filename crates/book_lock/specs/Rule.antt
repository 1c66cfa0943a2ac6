-- What a seat knows, and the rule of the lock's table.
use Rattle.std.specs.Prelude.{◌≡◌, ◌≢◌, ℕ, zero, suc, ◌+◌, ◌%◌, ◌^◌, ◌<◌, ◌≤◌, List, [], ◌∷◌, ◌++◌, length, Bool, true, false, Option, Some, None, slice_index}
use mathlib.Core.Option.{some}
use mathlib.Core.Option as maybe
use lib.ListN.{get_elem?}
use Rattle.atomic_table.specs.Table.{State, Me, Step}
pub use Rattle.tree_node.specs.Each.{Each}
use Rattle.site_message.specs.declared.story.Sight.{Sight}
use Rattle.site_message.specs.declared.turn.Turn.{Turn}
use Rattle.site_message.specs.declared.reason.Reason.{Reason}
use Rattle.site_message.specs.Story.{own, hand}
use Rattle.book_lock.specs.declared.view.Part.{Part}
use Rattle.book_lock.specs.declared.view.View.{View}

-- what is now goes on from what was seen
abbrev pub IsContinuation : List Turn → List Turn → Type 0
IsContinuation whole seen = (more : List Turn) × (whole ≡ more ++ seen)

-- what is now is what the seat of the site k saw, and what other sites have done since
pub record AreInAgreement (k : ℕ) (now seen : Sight) : Type 0 where
  pub own_entries : own k now.entries ≡ own k seen.entries
  pub own_hands : hand k now.hands ≡ hand k seen.hands
  pub begins : IsContinuation now.entries seen.entries
  pub reason : (r : Reason) → seen.reason ≡ Some r → now.reason ≡ Some r
  pub fixed : now.fixed ≡ seen.fixed

-- what the seat of the site k may do while it is inside: it appends entries of its site alone, leaves the numbers in hand
-- of other sites, and a reason and the fixed part stay
pub record IsLawfulChange (k : ℕ) (old new : Sight) : Type 0 where
  pub appended : (more : List Turn) × (new.entries ≡ more ++ old.entries) × ((j : ℕ) → j ≢ k → own j more ≡ [])
  pub other_hands : (j : ℕ) → j ≢ k → hand j new.hands ≡ hand j old.hands
  pub reason : (r : Reason) → old.reason ≡ Some r → new.reason ≡ Some r
  pub fixed : new.fixed ≡ old.fixed

-- site k, and what its seat saw
abbrev pub part : ℕ → Sight → Part
part k x = record { site = k; seen = x }

-- a seat with these parts: its ticket if one was drawn, and whether its turn has come
abbrev pub view : List Part → Option ℕ → Bool → View
view ps t r = record { parts = ps; ticket = t; reached = r }

-- a seat with these parts that drew no ticket
abbrev pub outside : List Part → View
outside ps = view ps None false

-- a sight with nothing in it: no entry, no number in hand, no reason, and an empty fixed part
abbrev pub blank : Sight
blank = record { entries = []; hands = []; reason = None; fixed = [] }

-- the sum of f over the views
abbrev pub total : (View → ℕ) → List View → ℕ
total f [] = 0
total f (v ∷ vs) = f v + total f vs

-- 1 where there is a ticket
abbrev pub one_if_some : Option ℕ → ℕ
one_if_some None = 0
one_if_some (Some t) = 1

-- how many tickets a view has: at most one
abbrev pub ticket_count : View → ℕ
ticket_count v = one_if_some v.ticket

-- how many parts a view has
abbrev pub share : View → ℕ
share v = length v.parts

-- the first part; a view without parts is of no site
abbrev pub head_of : List Part → Part
head_of [] = part 0 blank
head_of (p ∷ ps) = p

-- the ticket; 0 where there is none
abbrev pub ticket_of : Option ℕ → ℕ
ticket_of None = 0
ticket_of (Some t) = t

-- what the rule says of the view of one seat
pub record SeatRule (drawn served : ℕ) (out : Bool) (now : Sight) (owner holder : ℕ → ℕ) (seat : ℕ) (v : View) : Type 0 where
  pub each_part : Each (λ p. (owner p.site ≡ seat) × AreInAgreement p.site now p.seen) v.parts
  pub queued : (t : ℕ) → v.ticket ≡ Some t → (served ≤ t) × (t < drawn) × (holder t ≡ seat) × (0 < length v.parts)
  pub turn : v.reached ≡ true → (v.ticket ≡ Some served) × (out ≡ true) × ((k : ℕ) × (v.parts ≡ part k now ∷ []))

-- the parts of the sites from k on, n of them
abbrev pub parts_from : ℕ → ℕ → Sight → List Part
parts_from zero k x = []
parts_from (suc n) k x = part k x ∷ parts_from n (k + 1) x

-- the first part alone
abbrev pub first_part : List Part → List Part
first_part [] = []
first_part (p ∷ ps) = p ∷ []

-- the parts but for the first
abbrev pub other_parts : List Part → List Part
other_parts [] = []
other_parts (p ∷ ps) = ps

-- what is left of a seat that is split: all parts but the first
abbrev pub split_left : View → View
split_left v = outside (other_parts v.parts)

-- what the new seat gets: the first part
abbrev pub split_right : View → View
split_right v = outside (first_part v.parts)

-- what a seat has after another one was joined to it: the parts of both
abbrev pub join_both : View → View → View
join_both v w = outside (w.parts ++ v.parts)

-- a ticket was drawn
abbrev pub DrawStep : {B : Type 0} → Step (Option B) → Me (Option B) View → ℕ → Me (Option B) View → Type 0
DrawStep st m n m' = (t : ℕ) × (n ≡ t % 2 ^ 64) × (m' ≡ (view m.0.parts (Some t) false, m.1))

module _ {B : Type 0} (sight : B → Sight) where
  -- where the book is: at home, or out with a seat that has reached its turn
  abbrev pub ValueIsPlaced : Bool → List (maybe.Option (Option B)) → List View → Sight → Type 0
  ValueIsPlaced false homes views now = (b : B) × (get_elem? homes 0 ≡ some (some (Some b))) × (sight b ≡ now)
  ValueIsPlaced true homes views now = (seat : ℕ) × (v : View) × (get_elem? views seat ≡ some v) × (v.reached ≡ true)

  -- Tickets from `served` to below `drawn` wait, and the words count them modulo 2^64. A site has one owner, and a ticket one holder
  pub record LockRule (n : ℕ) (s : State (Option B) View) : Type 0 where
    pub drawn : ℕ
    pub served : ℕ
    pub out : Bool
    pub now : Sight
    pub owner : ℕ → ℕ
    pub holder : ℕ → ℕ
    pub two_words : length s.words ≡ 2
    pub ticket_word : slice_index s.words 0 ≡ drawn % 2 ^ 64
    pub serving_word : slice_index s.words 1 ≡ served % 2 ^ 64
    pub few : n < 2 ^ 32
    pub shared : total share s.views ≡ n
    pub queue : served + total ticket_count s.views ≡ drawn
    pub each_seat : (seat : ℕ) (v : View) → get_elem? s.views seat ≡ some v → SeatRule drawn served out now owner holder seat v
    pub placed : ValueIsPlaced out s.homes s.views now

  -- what is seen of the value in the slot held
  abbrev pub sight_or : Sight → Option B → Sight
  sight_or x None = x
  sight_or x (Some b) = sight b

  abbrev pub held_sight : Sight → List (ℕ × Option B) → Sight
  held_sight x [] = x
  held_sight x (c ∷ cs) = sight_or x c.1

  -- the turn has come, and the seat has the book; or nothing changed
  abbrev pub LookStep : Step (Option B) → Me (Option B) View → ℕ → Me (Option B) View → Type 0
  LookStep st m n m' =
      (n ≡ ticket_of m.0.ticket % 2 ^ 64 → (b : B) × AreInAgreement (head_of m.0.parts).site (sight b) (head_of m.0.parts).seen × (m' ≡ (view (part (head_of m.0.parts).site (sight b) ∷ []) m.0.ticket true, (0, Some b) ∷ m.1)))
      × (n ≢ ticket_of m.0.ticket % 2 ^ 64 → m' ≡ m)

  abbrev pub PassStep : Step (Option B) → Me (Option B) View → ℕ → Me (Option B) View → Type 0
  PassStep st m n m' = m' ≡ (outside (part (head_of m.0.parts).site (held_sight (head_of m.0.parts).seen m.1) ∷ []), [])
