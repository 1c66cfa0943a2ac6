-- What stays true of a host, between visits and between the parts of one.
use Rattle.std.specs.Prelude.{◌≡◌, ℕ, ◌≤◌, List, [], ◌∷◌, true, false, Option, Some, None}
use Rattle.tree_node.specs.declared.limits.TheConstants.{MOST_SITES, MOST_STEPS, MOST_UNITS}
use Rattle.atomic_table.specs.Seated.{TableId}
use Rattle.tree_node.specs.Each.{Each}
use Rattle.kernel_syntax.specs.declared.stmt.Stmt.{Stmt}
use Rattle.kernel_syntax.specs.Program.{IsProgram}
use Rattle.site_message.specs.declared.message.Msg.{Msg}
use Rattle.site_message.specs.declared.turn.Turn.{Turn}
use Rattle.site_message.specs.declared.story.Sight.{Sight}
use Rattle.site_message.specs.declared.reason.Reason.{Reason}
use Rattle.site_message.specs.Story.{own, hand}
use Rattle.wire_reader.specs.declared.form.Form.TheVariants as forms
use Rattle.wire_reader.specs.Format.{IsSpelling}
use Rattle.message_book.specs.Book.{IsSiteOf}
use Rattle.book_lock.specs.declared.lock.SiteSeat.{SiteSeat}
use Rattle.book_lock.specs.Seats.{last_seen, IsOutsideOf}
use Rattle.site_model.specs.Site.{Site}
use Rattle.site_model.specs.Bundle.{bundle_limit}
use Rattle.site_model.specs.Run.{SiteRun, delivered_message}
use Rattle.site_core.specs.Site.{IsTurnMade, message_in, number_in}
use Rattle.site_worker.specs.Inside.{book_sites, book_steps, NoneWaits}
use Rattle.site_worker.specs.declared.host.Host.{Host}

-- the state of a host's site
abbrev pub state_of : Host → Site
state_of h = h.site.state

-- what the host's seat saw last
abbrev pub sight : Host → Sight
sight h = last_seen h.site.seat

-- the program of the host's site
abbrev pub program_of : Host → List Stmt
program_of h = h.site.program

-- of how many sites the host's site is one
abbrev pub sites_of : Host → ℕ
sites_of h = h.site.sites

-- the fixed part of the book that the host's seat saw: its limits
abbrev pub fixed_of : Host → List ℕ
fixed_of h = (sight h).fixed

-- the host's site is one of the program p, and its book has this fixed part
abbrev pub IsHostOf : List Stmt → List ℕ → Host → Type 0
IsHostOf p x h = (program_of h ≡ p) × (fixed_of h ≡ x)

-- the entries of the site k in the journal are its turns in a row from its start to this state
abbrev pub IsRunTo : Host → List Turn → Site → Type 0
IsRunTo h j s = SiteRun (program_of h) (sites_of h) bundle_limit h.number j s

-- a host with a seat of the table, which is outside; its site and its seat are of its number, which is one of the sites of
-- the book, at most 64; the book's limit of own steps is in its range; and the site's program is one
pub record IsSeated (table : TableId) (h : Host) : Type 0 where
  pub outside : IsOutsideOf table h.site.seat
  pub seat : h.number ≡ h.site.seat.site
  pub site : (state_of h).records.site ≡ h.number
  pub sites : book_sites (sight h) ≡ sites_of h
  pub range : IsSiteOf (sites_of h) h.number
  pub most : sites_of h ≤ MOST_SITES
  pub limit : book_steps (sight h) ≤ MOST_STEPS
  pub program : IsProgram (program_of h)

-- no entry of the site that the host's seat saw leaves it with more own steps than the book's limit
abbrev pub AreOwnWithin : Host → Type 0
AreOwnWithin h = Each (λ (e : Turn). e.steps ≤ book_steps (sight h)) (own h.number (sight h).entries)

-- the site, which is not spent, has come to this state by the entries of its own that were seen
pub record HasCome (h : Host) (s : Site) : Type 0 where
  pub run : IsRunTo h (sight h).entries s
  pub state : state_of h ≡ s
  pub live : h.site.spent ≡ false

-- What stays true of a host: the own entries that its seat saw are turns of its site in a row. A site that is not given up
-- stands in the state after them, and has no message in hand; where it was given up the book has a reason. Its own steps are within the
-- book's limit, now and after each entry
pub record IsHost (table : TableId) (h : Host) : Type 0 where
  pub seated : IsSeated table h
  pub state : Site
  pub run : IsRunTo h (sight h).entries state
  pub live : h.spent ≡ false → HasCome h state × (hand h.number (sight h).hands ≡ [])
  pub over : h.spent ≡ true → (r : Reason) × ((sight h).reason ≡ Some r)
  pub steps : state.steps ≤ book_steps (sight h)
  pub within : AreOwnWithin h

-- ---- the parts of a visit

-- a number as the one in hand
abbrev pub number_list : Option ℕ → List ℕ
number_list None = []
number_list (Some k) = k ∷ []

-- the host between the halves of a visit, with what was taken: its message, or none where none waits
pub record HasMessage (table : TableId) (h : Host) (o : Option (ℕ × Msg)) : Type 0 where
  pub seated : IsSeated table h
  pub come : HasCome h (state_of h)
  pub hands : hand h.number (sight h).hands ≡ number_list (number_in o)
  pub message : delivered_message (sight h).entries (number_in o) ≡ message_in o
  pub live : h.spent ≡ false
  pub steps : (state_of h).steps ≤ book_steps (sight h)
  pub within : AreOwnWithin h
  pub reason : (sight h).reason ≡ None
  pub waits : o ≡ None → NoneWaits h.number (sight h)

-- the bytes spell the message in form 2, and both have one number; or there is neither
abbrev pub IsSpelledBy : Option (ℕ × List ℕ) → Option (ℕ × Msg) → Type 0
IsSpelledBy None None = Unit {0}
IsSpelledBy None (Some m) = ⊥
IsSpelledBy (Some x) None = ⊥
IsSpelledBy (Some x) (Some m) = (m.0 ≡ x.0) × IsSpelling forms.Two x.1 m.1

-- the same where the bytes of the message were taken
abbrev pub HasSpelling : TableId → Host → Option (ℕ × List ℕ) → Type 0
HasSpelling table h o = (m : Option (ℕ × Msg)) × IsSpelledBy o m × HasMessage table h m

-- the host between its turn, which delivers what was taken, and the post
pub record HasTurned (table : TableId) (h : Host) (e : Turn) : Type 0 where
  pub seated : IsSeated table h
  pub before : Site
  pub taken : Option (ℕ × Msg)
  pub quantum : ℕ
  pub few : quantum ≤ MOST_UNITS
  pub run : IsRunTo h (sight h).entries before
  pub turn : IsTurnMade (program_of h) (sites_of h) before taken quantum e (state_of h)
  pub site : e.site ≡ h.number
  pub message : delivered_message (sight h).entries (number_in taken) ≡ message_in taken
  pub hands : hand h.number (sight h).hands ≡ number_list e.delivered
  pub live : (h.spent ≡ false) × (h.site.spent ≡ false)
  pub steps : (before.steps ≤ book_steps (sight h)) × ((state_of h).steps ≤ book_steps (sight h))
  pub within : AreOwnWithin h

-- the host whose turn had no memory, before the book is closed
pub record HasFailed (table : TableId) (h : Host) : Type 0 where
  pub seated : IsSeated table h
  pub before : Site
  pub run : IsRunTo h (sight h).entries before
  pub spent : h.spent ≡ true
  pub steps : before.steps ≤ book_steps (sight h)
  pub within : AreOwnWithin h

-- the host after its turn, or without one
abbrev pub HasTriedTurn : TableId → Host → Option Turn → Type 0
HasTriedTurn table h None = HasFailed table h
HasTriedTurn table h (Some e) = HasTurned table h e

-- ---- new hosts

-- the new seat of a site, of a book of n sites and a limit in its range that has no entries and nothing in hand for it
abbrev pub IsNewSeat : TableId → ℕ → SiteSeat → Type 0
IsNewSeat table n x =
    IsOutsideOf table x × IsSiteOf n x.site × (book_sites (last_seen x) ≡ n) × ((last_seen x).entries ≡ [])
    × (hand x.site (last_seen x).hands ≡ []) × (book_steps (last_seen x) ≤ MOST_STEPS)
