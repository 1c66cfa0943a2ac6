-- What a site does to the book inside the lock.
use Rattle.std.specs.Prelude.{◌≡◌, ℕ, ◌≤◌, List, [], ◌∷◌, ◌++◌, Option, Some, None, Contains, slice_get, slice_index_or}
use Rattle.tree_node.specs.declared.limits.TheConstants.{MOST_STEPS}
use Rattle.site_message.specs.declared.message.Msg.{Msg}
use Rattle.site_message.specs.declared.turn.Turn.{Turn}
use Rattle.site_message.specs.declared.story.Sight.{Sight}
use Rattle.site_message.specs.declared.reason.Reason.{Reason}
use Rattle.site_message.specs.declared.reason.Reason.TheVariants.{Memory}
use Rattle.site_message.specs.declared.limits.Limits.{Limits}
use Rattle.site_message.specs.Journal.{IsTravelling, sent_of}
use Rattle.site_message.specs.Story.{hand}
use Rattle.wire_reader.specs.declared.form.Form.TheVariants as forms
use Rattle.wire_reader.specs.Format.{IsSpelling}
use Rattle.message_book.specs.Book.{BookState, IsReason, without_delivered, first_reason}
use Rattle.book_lock.specs.Rule.{AreInAgreement}
use Rattle.site_worker.specs.declared.inside.Fetched.{Fetched}
use Rattle.site_worker.specs.declared.inside.Fetched.TheVariants.{Over, Open}
use Rattle.site_worker.specs.declared.inside.PostOutcome.{PostOutcome}
use Rattle.site_worker.specs.declared.inside.PostOutcome.TheVariants.{Posted, Refused}
use Rattle.site_worker.specs.declared.inside.NextVisit.{NextVisit}
use Rattle.site_worker.specs.declared.inside.NextVisit.TheVariants as next

-- the number of sites of the book that shows this
abbrev pub book_sites : Sight → ℕ
book_sites x = slice_index_or x.fixed 0 0

-- the own steps that each site of the book that shows this may make
abbrev pub book_steps : Sight → ℕ
book_steps x = slice_index_or x.fixed 1 0

-- the limits of the book that shows this
abbrev pub book_limits : Sight → Limits
book_limits x = record { sites = book_sites x; steps = book_steps x; messages = slice_index_or x.fixed 2 0 }

-- the reason that the book that shows this has or has not is how its entries end; or memory ran out where they go on
abbrev pub HasCause : Sight → Type 0
HasCause x = IsReason (book_limits x) x.entries x.reason

-- no message waits for the site k: what travels to it is in hand
abbrev pub NoneWaits : ℕ → Sight → Type 0
NoneWaits k x = (n : ℕ) (m : Msg) → IsTravelling x.entries n (record { to = k; msg = m }) × (Contains (hand k x.hands) n → ⊥) → ⊥

-- the bytes spell in form 2 the message that was sent to the site k by this number
abbrev pub IsSentSpelling : ℕ → Sight → ℕ → List ℕ → Type 0
IsSentSpelling k x n bytes = (m : Msg) × (slice_get (sent_of x.entries) n ≡ Some (record { to = k; msg = m })) × IsSpelling forms.Two bytes m

-- a message that was sent to the site k is in hand besides, as the bytes that spell it; or none waits, and nothing changed
abbrev pub HasTaken : ℕ → Sight → Sight → Option (ℕ × List ℕ) → Type 0
HasTaken k old new None = (new ≡ old) × NoneWaits k old
HasTaken k old new (Some x) = IsSentSpelling k old x.0 x.1 × (hand k new.hands ≡ hand k old.hands ++ x.0 ∷ [])

-- the book had a reason, and nothing changed; or it has none, and what was taken is told
abbrev pub HasFetched : ℕ → Sight → Sight → Fetched → Type 0
HasFetched k old new (Over r) = (new.reason ≡ Some r) × (new.entries ≡ old.entries) × (new.hands ≡ old.hands) × (old.reason ≡ Some r)
HasFetched k old new (Open o limit) = (old.reason ≡ None) × (new.reason ≡ None) × (new.entries ≡ old.entries)
    × ((limit ≡ book_steps new) × (limit ≤ MOST_STEPS)) × HasTaken k old new o

-- the turn is the newest entry, its message is off the hand, and the book has this reason or none; or the book has no entry more and this
-- reason, which is the one that it had, or want of memory where it had none
abbrev pub HasPosted : Turn → Sight → Sight → PostOutcome → Type 0
HasPosted e old new (Posted o) = (new.entries ≡ e ∷ old.entries) × (hand e.site new.hands ≡ without_delivered e.delivered (hand e.site old.hands)) × (new.reason ≡ o)
HasPosted e old new (Refused r) = (new.entries ≡ old.entries) × (new.reason ≡ Some r) × (first_reason old.reason Memory ≡ Some r)

-- the turn of the site k was posted, and from what the book showed then this was fetched, with nothing else in between; or it was refused
abbrev pub HasPostedAndFetched : ℕ → Turn → Sight → Sight → NextVisit → Type 0
HasPostedAndFetched k e old new (next.Posted r) = (between : Sight) × HasPosted e old between (Posted between.reason) × HasFetched k between new r × (between.fixed ≡ old.fixed)
HasPostedAndFetched k e old new (next.Refused r) = HasPosted e old new (Refused r)

-- the book has this reason, which is its first one or want of memory, and nothing else changed
abbrev pub IsClosedBy : BookState → BookState → Reason → Type 0
IsClosedBy old new r = (new.reason ≡ Some r) × (first_reason old.reason Memory ≡ Some r) × (new.limits ≡ old.limits) × (new.journal ≡ old.journal) × (new.hands ≡ old.hands)

-- the book has this reason, which is the one that it had, or want of memory where it had none, and the entries are those that there were
abbrev pub HasClosed : Sight → Sight → Reason → Type 0
HasClosed old new r = (new.reason ≡ Some r) × (new.entries ≡ old.entries) × (first_reason old.reason Memory ≡ Some r)

-- when the seat of the site k came in it found what it had left and what others did since; P is of what it found. The fixed
-- part stays
abbrev pub Since : ℕ → Sight → Sight → (Sight → Type 0) → Type 0
Since k old new P = (now : Sight) × AreInAgreement k now old × P now × (new.fixed ≡ old.fixed)
