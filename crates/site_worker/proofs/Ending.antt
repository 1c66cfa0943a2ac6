-- From what the lock gives at its end, and what stays true of the hosts, to the run of the world.
use Rattle.std.proofs.Common.{◌≡◌, ◌⊎◌, ℕ, zero, suc, ◌+◌, ◌<◌, ◌≤◌, List, [], ◌∷◌, ◌++◌, length, Bool, true, false, eqb, eqb-true, eq-eqb, cond, refl, sym, ap, ◌∙◌, subst, arith, inl, inr, ⊎_elim, length-append, length-set, get_or, get_or-set_same, set, take, drop, Option, Some, None}
use Rattle.std.specs.List.{All}
use Rattle.std.specs.Prelude.{slice_index_or, IsSome, ◌↔◌}
use Rattle.std.proofs.Math.Seq.{map-set_same, take-append_seam}
use Rattle.std.proofs.lemmas.List.Elements.{All-head, All-tail, All-set}
use Rattle.std.proofs.lemmas.Bool.{cases_lt}
use Rattle.atomic_table.specs.Seated.{TableId}
use Rattle.kernel_syntax.specs.declared.stmt.Stmt.{Stmt}
use Rattle.site_message.specs.declared.turn.Turn.{Turn}
use Rattle.site_message.specs.declared.story.Sight.{Sight}
use Rattle.site_message.specs.declared.reason.Reason.{Reason}
use Rattle.site_message.specs.declared.limits.Limits.{Limits}
use Rattle.site_message.specs.Journal.{Wired, AreWithin}
use Rattle.site_message.specs.Story.{own}
use Rattle.message_book.specs.Book.{IsSiteOf, AreSites}
use Rattle.book_lock.specs.declared.lock.SiteSeat.{SiteSeat}
use Rattle.book_lock.specs.Rule.{AreInAgreement, Each}
use Rattle.book_lock.specs.Seats.{last_seen, IsOutsideOf}
use Rattle.book_lock.proofs.Deals.{each_last}
use Rattle.site_model.specs.Bundle.{bundle_limit}
use Rattle.site_model.specs.Site.{Site, initial_site}
use Rattle.site_model.specs.Run.{SiteRun}
use Rattle.site_worker.specs.declared.host.Host.{Host}
use Rattle.site_worker.specs.Inside.{book_sites}
use Rattle.site_worker.specs.Host.{IsHost, IsHostOf, sight, sites_of}
use Rattle.site_worker.specs.Visit.{IsSameHost}
use Rattle.site_worker.specs.Hosts.{number_of, times, AreHosts, AreHostsOf, AreSame, IsSomeOver, IsComplete, HasRun, IsWorldRun, fixed_part}
use Rattle.site_worker.proofs.RunLemmas.{run_later, run_none, each_site}
use Rattle.site_worker.proofs.Times.{length_same}

-- ---- seats

-- a list from which nothing was popped is empty
pub none_popped : {X : Type 0} (xs : List X) (n : ℕ) (o : Option X) → n ≡ length xs → IsSome o ↔ (0 < n) → ((x : X) → o ≡ Some x → ⊥) → xs ≡ []
none_popped xs n (Some x) long some none = absurd (none x refl)
none_popped [] n None long some none = refl
none_popped {X = X} (x ∷ xs) n None long some none = let is : IsSome {T = X} None = some.1 (omega (arith, long)) in absurd cc

-- the seats of hosts that were taken from the end, the last one first
abbrev pub back_seats : List Host → List SiteSeat
back_seats [] = []
back_seats (h ∷ hs) = back_seats hs ++ h.site.seat ∷ []

pub back_length : (hs : List Host) → length (back_seats hs) ≡ length hs
back_length [] = refl
back_length (h ∷ hs) = let l = back_length hs in let a = length-append (back_seats hs) (h.site.seat ∷ []) in omega arith

each_push : (P : SiteSeat → Type 0) (xs : List SiteSeat) (x : SiteSeat) → Each P xs → P x → Each P (xs ++ x ∷ [])
each_push P [] x h p = (p, tt)
each_push P (y ∷ ys) x h p = (h.0, each_push P ys x h.1 p)

pub back_outside : (table : TableId) (hs : List Host) → AreHosts table hs → Each (IsOutsideOf table) (back_seats hs)
back_outside table [] all = tt
back_outside table (h ∷ hs) all = each_push (IsOutsideOf table) (back_seats hs) h.site.seat (back_outside table hs (All-tail (IsHost table) h hs all)) (All-head (IsHost table) h hs all).seated.outside

All-cons : {X : Type 0} (P : X → Type 0) (x : X) (xs : List X) → P x → All P xs → All P (x ∷ xs)
All-cons P x xs p all zero d below = p
All-cons P x xs p all (suc k) d below = all k d (omega arith)

-- the entry leaves its site with no more own steps than the limit
abbrev IsWithin : Limits → Turn → Type 0
IsWithin l e = e.steps ≤ l.steps

-- what the value agrees with at the end
abbrev AgreesWith : Sight → SiteSeat → Type 0
AgreesWith x s = AreInAgreement s.site x (last_seen s)

all_agree : (x : Sight) (hs : List Host) → Each (AgreesWith x) (back_seats hs) → All (λ (h : Host). AgreesWith x h.site.seat) hs
all_agree x [] each = λ k d below. absurd (omega arith)
all_agree x (h ∷ hs) each =
    let t = each_last (AgreesWith x) (back_seats hs) h.site.seat each in
    All-cons (λ (h : Host). AgreesWith x h.site.seat) h hs t.1 (all_agree x hs t.0)

-- ---- runs

same_sites : (table : TableId) (p : List Stmt) (x : List ℕ) (h : Host) → IsHost table h → IsHostOf p x h → sites_of h ≡ slice_index_or x 0 0
same_sites table p x h is of = sym is.seated.sites ∙ ap (λ (l : List ℕ). slice_index_or l 0 0) of.1

one_runs : (table : TableId) (p : List Stmt) (l : Limits) (x : Sight) (h : Host) → IsHost table h → IsHostOf p (fixed_part l) h → AgreesWith x h.site.seat → HasRun p l.sites x.entries h
one_runs table p l x h is of a =
    let b : AreInAgreement h.number x (sight h) = subst (λ (k : ℕ). AreInAgreement k x (sight h)) (sym is.seated.seat) a in
    let sites : sites_of h ≡ l.sites = same_sites table p (fixed_part l) h is of in
    let run : SiteRun p l.sites bundle_limit h.number (sight h).entries is.state =
    subst (λ (z : List Stmt × ℕ). SiteRun z.0 z.1 bundle_limit h.number (sight h).entries is.state) (λ i. (of.0 i, sites i)) is.run in
    (is.state, run_later p l.sites bundle_limit h.number (sight h).entries x.entries is.state b.begins b.own_entries run)

all_run : (table : TableId) (p : List Stmt) (l : Limits) (x : Sight) (hs : List Host) → AreHosts table hs → AreHostsOf p (fixed_part l) hs → All (λ (h : Host). AgreesWith x h.site.seat) hs → All (HasRun p l.sites x.entries) hs
all_run table p l x hs are of agree k d below = one_runs table p l x (get_or hs k d) (are k d below) (of k d below) (agree k d below)

-- what holds of the sites of all hosts holds of each site that has one
host_case : (Q : ℕ → Type 0) (k : ℕ) (h : Host) (hs : List Host) (t : Bool) → eqb (number_of h) k ≡ t → Q h.number → (0 < times k hs → Q k) → 0 < times k (h ∷ hs) → Q k
host_case Q k h hs true is here rest some = subst Q (eqb-true (number_of h) k is) here
host_case Q k h hs false is here rest some = rest (let e : times k (h ∷ hs) ≡ 0 + times k hs = ap (λ b. cond b 1 0 + times k hs) is in omega arith)

of_host : (Q : ℕ → Type 0) (k : ℕ) (hs : List Host) → All (λ (h : Host). Q h.number) hs → 0 < times k hs → Q k
of_host Q k [] all some = absurd (omega arith)
of_host Q k (h ∷ hs) all some =
    let P = λ (h : Host). Q h.number in
    host_case Q k h hs (eqb (number_of h) k) refl (All-head P h hs all) (of_host Q k hs (All-tail P h hs all)) some

-- whether a number is one of 1 to n
pub site_or_not : (n k : ℕ) → IsSiteOf n k ⊎ (IsSiteOf n k → ⊥)
site_or_not n zero = inr (λ is. let l = is.0 in absurd (omega arith))
site_or_not n (suc k) = ⊎_elim (λ (b : n < suc k). inr (λ is. let l = is.1 in absurd (omega arith))) (λ (b : suc k ≤ n). inl (omega arith, b)) (cases_lt n (suc k))

-- each site has come to some state
site_run : (p : List Stmt) (n k : ℕ) (j : List Turn) (hs : List Host) → All (HasRun p n j) hs → IsComplete n hs → AreSites n j → IsSiteOf n k ⊎ (IsSiteOf n k → ⊥) → (s : Site) × SiteRun p n bundle_limit k j s
site_run p n k j hs all complete are (inl is) = of_host (λ (i : ℕ). (s : Site) × SiteRun p n bundle_limit i j s) k hs all (complete k is)
site_run p n k j hs all complete are (inr not_one) = (initial_site p n k, run_none p n bundle_limit k n j are not_one)

-- the value has the fixed part that each seat saw
pub fixed_same : (p : List Stmt) (y : List ℕ) (x : Sight) (hs : List Host) → 0 < length hs → AreHostsOf p y hs → Each (AgreesWith x) (back_seats hs) → x.fixed ≡ y
fixed_same p y x [] some of each = absurd (omega arith)
fixed_same p y x (h ∷ hs) some of each =
    let agree = all_agree x (h ∷ hs) each in
    (All-head (λ (h : Host). AgreesWith x h.site.seat) h hs agree).fixed ∙ (All-head (IsHostOf p y) h hs of).1

same_limits : (k l : Limits) → fixed_part k ≡ fixed_part l → k ≡ l
same_limits k l e =
    let a : k.sites ≡ l.sites = ap (λ (y : List ℕ). slice_index_or y 0 0) e in
    let b : k.steps ≡ l.steps = ap (λ (y : List ℕ). slice_index_or y 1 0) e in
    let c : k.messages ≡ l.messages = ap (λ (y : List ℕ). slice_index_or y 2 0) e in
    (λ i. record { sites = a i; steps = b i; messages = c i })

pub limits_same : (p : List Stmt) (k l : Limits) (x : Sight) (hs : List Host) → x.fixed ≡ fixed_part k → 0 < length hs → AreHostsOf p (fixed_part l) hs → Each (AgreesWith x) (back_seats hs) → k ≡ l
limits_same p k l x hs is some of each = same_limits k l (sym is ∙ fixed_same p (fixed_part l) x hs some of each)

pub world_run : (table : TableId) (p : List Stmt) (l : Limits) (x : Sight) (hs : List Host) → 0 < length hs → AreHosts table hs → AreHostsOf p (fixed_part l) hs → IsComplete l.sites hs → Each (AgreesWith x) (back_seats hs)
    → Wired x.entries → AreSites (book_sites x) x.entries → IsWorldRun p l.sites x.entries
world_run table p l x hs some are of complete each wired sites =
    let n = l.sites in
    let first : book_sites x ≡ n = ap (λ (y : List ℕ). slice_index_or y 0 0) (fixed_same p (fixed_part l) x hs some of each) in
    let here : AreSites n x.entries = subst (λ m. AreSites m x.entries) first sites in
    let all = all_run table p l x hs are of (all_agree x hs each) in (
      (λ k. (site_run p n k x.entries hs all complete here (site_or_not n k)).0),
      record {
        wired = wired;
        sites = each_site n x.entries here;
        runs = λ k. (site_run p n k x.entries hs all complete here (site_or_not n k)).1;
      },
    )

-- ---- the own steps

-- the own entries of a host's site in the whole journal
one_within : (table : TableId) (p : List Stmt) (l : Limits) (x : Sight) (h : Host) → IsHost table h → IsHostOf p (fixed_part l) h → AgreesWith x h.site.seat → Each (IsWithin l) (own h.number x.entries)
one_within table p l x h is of a =
    let b : AreInAgreement h.number x (sight h) = subst (λ (k : ℕ). AreInAgreement k x (sight h)) (sym is.seated.seat) a in
    subst (λ (z : List ℕ × List Turn). Each (λ (e : Turn). e.steps ≤ slice_index_or z.0 1 0) z.1) (λ i. (of.1 i, sym b.own_entries i)) is.within

-- without the newest entry
own_rest : (P : Turn → Type 0) (k : ℕ) (e : Turn) (j : List Turn) (b : Bool) → eqb e.site k ≡ b → Each P (own k (e ∷ j)) → Each P (own k j)
own_rest P k e j true is all = (subst (λ b. Each P (cond b (e ∷ own k j) (own k j))) is all).1
own_rest P k e j false is all = subst (λ b. Each P (cond b (e ∷ own k j) (own k j))) is all

-- what holds of the entries of each site holds of all entries
each_own : (P : Turn → Type 0) (n : ℕ) (j : List Turn) → AreSites n j → ((k : ℕ) → IsSiteOf n k → Each P (own k j)) → Each P j
each_own P n [] are all = tt
each_own P n (e ∷ j) are all = (
  (subst (λ b. Each P (cond b (e ∷ own e.site j) (own e.site j))) (eq-eqb e.site e.site refl) (all e.site are.0)).0,
  each_own P n j are.1 (λ k is. own_rest P k e j (eqb e.site k) refl (all k is)),
)

pub world_within : (table : TableId) (p : List Stmt) (l : Limits) (x : Sight) (hs : List Host) → 0 < length hs → AreHosts table hs → AreHostsOf p (fixed_part l) hs → IsComplete l.sites hs → Each (AgreesWith x) (back_seats hs)
    → AreSites (book_sites x) x.entries → AreWithin l x.entries
world_within table p l x hs some are of complete each sites =
    let first : book_sites x ≡ l.sites = ap (λ (y : List ℕ). slice_index_or y 0 0) (fixed_same p (fixed_part l) x hs some of each) in
    let agree = all_agree x hs each in
    each_own (IsWithin l) l.sites x.entries (subst (λ m. AreSites m x.entries) first sites)
    (λ k is. of_host (λ (i : ℕ). Each (IsWithin l) (own i x.entries)) k hs (λ i d below. one_within table p l x (get_or hs i d) (are i d below) (of i d below) (agree i d below)) (complete k is))

-- ---- hosts that are visited

-- what a visit leaves is a host of the same run
of_same : (p : List Stmt) (x : List ℕ) (old new : Host) → IsHostOf p x old → IsSameHost old new → IsHostOf p x new
of_same p x old new is same = (same.program ∙ is.0, same.fixed ∙ is.1)

pub same_set : (table : TableId) (first hs : List Host) (i : ℕ) (d new : Host) → i < length first → AreSame table first hs → IsHost table new × IsSameHost (get_or hs i d) new → AreSame table first (set hs i new)
same_set table first hs i d new inside same h =
    let long = length_same hs first same.0 in
    let below : i < length hs = omega arith in (
      map-set_same number_of hs i new d h.1.number ∙ same.0,
      All-set (IsHost table) hs i new h.0 same.1,
      λ p x of. let now = same.2 p x of in All-set (IsHostOf p x) hs i new (of_same p x (get_or hs i d) new (now i d below) h.1) now,
    )

same_then : (table : TableId) (first old new : List Host) → AreSame table first old → AreSame table old new → AreSame table first new
same_then table first old new one two = (two.0 ∙ one.0, two.1, λ p x of. two.2 p x (one.2 p x of))

-- hosts that were lent as a slice and written back
pub written_back : (table : TableId) (first hs old new : List Host) (n : ℕ) → old ≡ hs → length old ≡ n → AreSame table first hs → AreSame table old new → AreSame table first (take n (new ++ drop (length new) hs))
written_back table first hs old new n is long one two =
    let rest = drop (length new) hs in
    let whole : take n (new ++ rest) ≡ new = ap (λ m. take m (new ++ rest)) (sym (length_same new old two.0 ∙ long)) ∙ take-append_seam new rest in
    subst (AreSame table first) (sym whole) (same_then table first hs new one (subst (λ (xs : List Host). AreSame table xs new) is two))

-- ---- reasons

pub over_set : (hs : List Host) (i : ℕ) (new : Host) (r : Reason) → i < length hs → (sight new).reason ≡ Some r → IsSomeOver (set hs i new)
over_set hs i new r below is = (i, new, (let l = length-set hs i new in omega arith), get_or-set_same hs i new new below, (r, is))

-- a reason that some seat has seen is there
pub over_stays : (x : Sight) (hs : List Host) → Each (AgreesWith x) (back_seats hs) → IsSomeOver hs → (r : Reason) × (x.reason ≡ Some r)
over_stays x hs each some =
    let k = some.0 in
    let h = some.1 in
    let a = subst (λ (z : Host). AgreesWith x z.site.seat) some.3 (all_agree x hs each k h some.2) in
    (some.4.0, a.reason some.4.0 some.4.1)
