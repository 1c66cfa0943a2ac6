-- New sites and new seats, from the last on.
use Rattle.std.proofs.Common.{◌≡◌, ℕ, ◌+◌, ◌<◌, ◌≤◌, List, [], ◌∷◌, ◌++◌, length, suc, cond, sym, ap, ◌∙◌, subst, arith, eq-eqb, ⊎_elim}
use Rattle.std.proofs.lemmas.Bool.{cases_lt}
use Rattle.atomic_table.specs.Seated.{TableId}
use Rattle.kernel_syntax.specs.declared.stmt.Stmt.{Stmt}
use Rattle.site_message.specs.declared.story.NoSeat.{NoSeat}
use Rattle.site_message.specs.declared.story.Sight.{Sight}
use Rattle.site_message.specs.Story.{hand}
use Rattle.message_book.specs.Book.{IsSiteOf}
use Rattle.book_lock.specs.declared.lock.SiteSeat.{SiteSeat}
use Rattle.book_lock.specs.declared.view.View.{View}
use Rattle.book_lock.specs.Rule.{part, outside, head_of}
use Rattle.book_lock.specs.Seats.{last_seen, parts_of, AreNewSeats}
use Rattle.site_core.specs.Site.{SiteState}
use Rattle.site_worker.specs.declared.host.Host.{Host}
use Rattle.site_worker.specs.Inside.{book_sites, book_steps}
use Rattle.site_worker.specs.Host.{IsNewSeat}
use Rattle.site_worker.specs.Hosts.{number_of, times}
use Rattle.site_worker.specs.Sites.{IsNewSite, AreNewSites, IsFresh}
use Rattle.site_worker.proofs.Times.{times_push}

pub last_seat : (t : TableId) (k : ℕ) (x : Sight) (ss : List SiteSeat) (s : SiteSeat) → AreNewSeats t k x (ss ++ s ∷ []) → AreNewSeats t k x ss × (s.site ≡ k + length ss) × (s.badge.table_id ≡ t) × (s.badge.views ≡ outside (part s.site x ∷ []) ∷ [])
last_seat t k x [] s new = (tt, let a = new.0.0 in omega arith, new.0.1, new.0.2 ∙ ap (λ j. outside (part j x ∷ []) ∷ []) (sym new.0.0))
last_seat t k x (y ∷ ss) s new = let r = last_seat t (k + 1) x ss s new.1 in ((new.0, r.0), let a = r.1 in omega arith, r.2, r.3)

pub last_site : (p : List Stmt) (n k : ℕ) (ss : List (SiteState NoSeat)) (s : SiteState NoSeat) → AreNewSites p n k (ss ++ s ∷ []) → AreNewSites p n k ss × IsNewSite p n (k + length ss) s
last_site p n k [] s new = (tt, subst (λ i. IsNewSite p n i s) (plus_zero k) new.0)
  where
    plus_zero : (n : ℕ) → n ≡ n + 0
    plus_zero n = omega arith
last_site p n k (y ∷ ss) s new =
    let r = last_site p n (k + 1) ss s new.1 in ((new.0, r.0), subst (λ i. IsNewSite p n i s) (plus_one k (length ss)) r.1)
  where
    plus_one : (k m : ℕ) → k + 1 + m ≡ k + suc m
    plus_one k m = omega arith

pub more_sites : (p : List Stmt) (n k : ℕ) (ss : List (SiteState NoSeat)) (s : SiteState NoSeat) → AreNewSites p n k ss → IsNewSite p n (k + length ss) s → AreNewSites p n k (ss ++ s ∷ [])
more_sites p n k [] s new last = (subst (λ i. IsNewSite p n i s) (plus_zero k) last, tt)
  where
    plus_zero : (n : ℕ) → n + 0 ≡ n
    plus_zero n = omega arith
more_sites p n k (y ∷ ss) s new last = (new.0, more_sites p n (k + 1) ss s new.1 (subst (λ i. IsNewSite p n i s) (plus_one k (length ss)) last))
  where
    plus_one : (k m : ℕ) → k + suc m ≡ k + 1 + m
    plus_one k m = omega arith

-- what a new seat saw
pub new_saw : (x : Sight) (s : SiteSeat) → s.badge.views ≡ outside (part s.site x ∷ []) ∷ [] → last_seen s ≡ x
new_saw x s views = ap (λ (vs : List View). (head_of (parts_of vs)).seen) views

pub new_seat : (t : TableId) (n : ℕ) (x : Sight) (s : SiteSeat) → IsFresh n x → IsSiteOf n s.site → s.badge.table_id ≡ t → s.badge.views ≡ outside (part s.site x ∷ []) ∷ [] → IsNewSeat t n s
new_seat t n x s fresh site table views =
    let saw : last_seen s ≡ x = new_saw x s views in (
      (table, views ∙ ap (λ (z : Sight). outside (part s.site z ∷ []) ∷ []) (sym saw)),
      site,
      ap book_sites saw ∙ fresh.sites,
      ap (λ (z : Sight). z.entries) saw ∙ fresh.entries,
      ap (λ (z : Sight). hand s.site z.hands) saw ∙ fresh.hands s.site,
      subst (λ (z : Sight). book_steps z ≤ 1000000000) (sym saw) fresh.limit,
    )

-- the last site and the last seat are of one number, and the others are new
pub next_host : (t : TableId) (p : List Stmt) (n : ℕ) (x : Sight) (sites : List (SiteState NoSeat)) (seats : List SiteSeat) (site : SiteState NoSeat) (seat : SiteSeat) → IsFresh n x → length sites ≡ length seats → 1 + length seats ≤ n
    → AreNewSites p n 1 (sites ++ site ∷ []) → AreNewSeats t 1 x (seats ++ seat ∷ [])
    → IsNewSite p n seat.site site × IsNewSeat t n seat × AreNewSites p n 1 sites × (seat.site ≡ 1 + length seats)
next_host t p n x sites seats site seat fresh many few new new_seats =
    let a = last_seat t 1 x seats seat new_seats in
    let b = last_site p n 1 sites site new in
    let number = a.1 in
    let here : 1 + length sites ≡ seat.site = omega arith in
    (subst (λ i. IsNewSite p n i site) here b.1, new_seat t n x seat fresh (omega arith, omega arith) a.2 a.3, b.0, a.1)

-- what the last of new seats saw
pub last_saw : (t : TableId) (x : Sight) (seats : List SiteSeat) (seat : SiteSeat) → AreNewSeats t 1 x (seats ++ seat ∷ []) → AreNewSeats t 1 x seats × (last_seen seat ≡ x)
last_saw t x seats seat new = let a = last_seat t 1 x seats seat new in (a.0, new_saw x seat a.3)

-- a host more: its site has one, and the others that had one
pub times_here : (k : ℕ) (hs : List Host) (h : Host) → h.number ≡ k → 0 < times k (hs ++ h ∷ [])
times_here k hs h is =
    let more = times_push k hs h ∙ ap (λ b. times k hs + cond b 1 0) (eq-eqb (number_of h) k is) in omega arith

pub times_still : (k : ℕ) (hs : List Host) (h : Host) → 0 < times k hs → 0 < times k (hs ++ h ∷ [])
times_still k hs h some = let more = times_push k hs h in omega arith

-- the sites above the rest have a host
pub times_above : (k m n : ℕ) (hs : List Host) (h : Host) → h.number ≡ 1 + m → (1 + m < k → k ≤ n → 0 < times k hs) → m < k → k ≤ n → 0 < times k (hs ++ h ∷ [])
times_above k m n hs h is above low high =
    ⊎_elim
    (λ (far : 1 + m < k). times_still k hs h (above far high))
    (λ (near : k ≤ 1 + m). times_here k hs h (let e = is in omega arith))
    (cases_lt (1 + m) k)
