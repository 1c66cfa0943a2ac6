-- What stays true of a book: each inbox holds the travelling messages of its site.
use Rattle.std.specs.Prelude.{◌≡◌, ◌≢◌, ℕ, zero, suc, ◌+◌, ◌≤◌, ◌<◌, List, [], ◌∷◌, ◌++◌, map, length, Bool, true, not, ◌==◌, nat_le, Option, slice_index_or, if◌then◌else◌}
use Rattle.std.specs.List.{filter, All}
use Rattle.site_message.specs.declared.message.Sent.{Sent}
use Rattle.site_message.specs.declared.turn.Turn.{Turn}
use Rattle.site_message.specs.declared.reason.Reason.{Reason}
use Rattle.site_message.specs.declared.limits.Limits.{Limits}
use Rattle.site_message.specs.Journal.{Wired, sent_of, travelling, is_idle}
use Rattle.site_message.specs.Limits.{AreLimits}
use Rattle.tree_node.specs.Each.{Each}
use Rattle.wire_reader.specs.declared.form.Form.TheVariants as forms
use Rattle.wire_reader.specs.Format.{message, spelling}
use Rattle.site_message.specs.EarlierEnd.{HasNoEarlierEnd}
use Rattle.message_book.specs.Inbox.{InboxState}
use Rattle.message_book.specs.Book.{AreSites, IsReason, without_delivered}

-- where the messages to a site lie. Those to no site of the book lie at the place 0
abbrev pub place : ℕ → ℕ → ℕ
place n to = if nat_le to n then to else 0

-- a message's number, and its spelling in form 2
abbrev pub spelling_of : ℕ × Sent → ℕ × List ℕ
spelling_of p = (p.0, spelling forms.Two p.1.msg)

-- the spellings of the travelling messages of a place, in the order in which they were sent
abbrev pub messages_at : ℕ → List Turn → ℕ → List (ℕ × List ℕ)
messages_at n j i = map spelling_of (filter (λ (p : ℕ × Sent). place n p.1.to == i) (travelling j))

-- what stands for the inbox of a place that there is not
abbrev pub no_inbox : InboxState
no_inbox = record { hand = []; waiting = []; idle = true; room = 0 }

-- the inbox of the place i
abbrev pub inbox_at : List InboxState → ℕ → InboxState
inbox_at bs i = slice_index_or bs i no_inbox

-- what lies at the place 0 waits for no site
abbrev pub idle_at : List Turn → ℕ → Bool
idle_at j zero = true
idle_at j (suc i) = is_idle j (suc i)

-- the number of a spelled message
abbrev pub number_of : ℕ × List ℕ → ℕ
number_of p = p.0

-- the messages of the place i are the travelling ones: first those in hand, then those that wait
pub record HoldsTravelling (n : ℕ) (j : List Turn) (i : ℕ) (b : InboxState) : Type 0 where
  pub in_hand : List (ℕ × List ℕ)
  pub hand : b.hand ≡ map number_of in_hand
  pub messages : in_hand ++ b.waiting ≡ messages_at n j i
  pub idle : b.idle ≡ idle_at j i

-- so do the inboxes of all places up to n
abbrev pub AllHoldTravelling : ℕ → List Turn → List InboxState → Type 0
AllHoldTravelling n j bs = (i : ℕ) → i ≤ n → HoldsTravelling n j i (inbox_at bs i)

-- the numbers of the messages in hand
abbrev pub hand_of : InboxState → List ℕ
hand_of b = b.hand

-- each message is one of the format
abbrev pub AllOfFormat : List Sent → Type 0
AllOfFormat ms = Each (λ (s : Sent). (message forms.Two).Has s.msg) ms

-- what stays true of a book
pub record IsConsistent (l : Limits) (j : List Turn) (sent : ℕ) (bs : List InboxState) (r : Option Reason) : Type 0 where
  pub ranges : AreLimits l
  pub places : length bs ≡ l.sites + 1
  pub count : sent ≡ length (sent_of j)
  pub wired : Wired j
  pub are_sites : AreSites l.sites j
  pub inboxes : AllHoldTravelling l.sites j bs
  pub spelled : AllOfFormat (sent_of j)
  pub reason : IsReason l j r
  pub went : HasNoEarlierEnd l j

-- the spelling of a message in form 2, behind the site that it goes to
abbrev pub letter_of : Sent → ℕ × List ℕ
letter_of s = (s.to, spelling forms.Two s.msg)

-- those of these letters that go to a place, with their numbers from k on
abbrev pub new_messages : ℕ → ℕ → ℕ → List (ℕ × List ℕ) → List (ℕ × List ℕ)
new_messages n i k [] = []
new_messages n i k (c ∷ cs) = if place n c.0 == i then (k, c.1) ∷ new_messages n i (k + 1) cs else new_messages n i (k + 1) cs

-- there is room for so many messages at the place of each of these letters
abbrev pub HasRoom : ℕ → List InboxState → ℕ → List (ℕ × List ℕ) → Type 0
HasRoom n bs count cs = All (λ (c : ℕ × List ℕ). (place n c.0 < length bs) × (count ≤ (inbox_at bs (place n c.0)).room)) cs

-- nothing lies there yet, and site 1 alone is not idle
abbrev pub IsNewInbox : ℕ → InboxState → Type 0
IsNewInbox i b = (b.hand ≡ []) × (b.waiting ≡ []) × (b.idle ≡ not (i == 1))

-- nothing lies there, and the site is idle
abbrev pub IsQuietInbox : InboxState → Type 0
IsQuietInbox b = (b.hand ≡ []) × (b.waiting ≡ []) × (b.idle ≡ true)

-- what the turn of a site of n leaves: what it delivered is in hand no more, its site is idle or not, and what it sent waits
pub record IsAfterTurn (n site : ℕ) (delivered : Option ℕ) (idle : Bool) (first : ℕ) (cs : List (ℕ × List ℕ)) (old new : List InboxState) : Type 0 where
  pub places : length new ≡ length old
  pub here : ((inbox_at new site).hand ≡ without_delivered delivered (inbox_at old site).hand) × ((inbox_at new site).idle ≡ idle)
  pub others : (i : ℕ) → i ≢ site → ((inbox_at new i).hand ≡ (inbox_at old i).hand) × ((inbox_at new i).idle ≡ (inbox_at old i).idle)
  pub waiting : (i : ℕ) → (inbox_at new i).waiting ≡ (inbox_at old i).waiting ++ new_messages n i first cs
