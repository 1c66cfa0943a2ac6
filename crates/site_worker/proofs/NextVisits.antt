-- How a visit follows another one in one way through the lock.
use Rattle.std.proofs.Common.{min, inl, inr, ◌-◌, ◌≡◌, ℕ, List, [], ◌∷◌, ◌++◌, eqb, true, false, Option, Some, None, refl, sym, ap, ◌∙◌, subst, append_assoc}
use Rattle.std.specs.Prelude.{is_some}
use Rattle.std.proofs.lemmas.List.Elements.{filter-append}
use Rattle.atomic_table.specs.Seated.{TableId}
use Rattle.site_message.specs.declared.message.Msg.{Msg}
use Rattle.site_message.specs.declared.turn.Turn.{Turn}
use Rattle.site_message.specs.declared.story.Sight.{Sight}
use Rattle.site_message.specs.declared.reason.Reason.{Reason}
use Rattle.site_message.specs.Story.{own, hand}
use Rattle.book_lock.specs.declared.lock.SiteSeat.{SiteSeat}
use Rattle.book_lock.specs.Rule.{IsContinuation, IsLawfulChange, part, outside}
use Rattle.book_lock.specs.Seats.{last_seen, IsOutsideOf}
use Rattle.book_lock.proofs.Parts.{agrees_refl}
use Rattle.site_model.specs.Site.{is_idle}
use Rattle.site_core.specs.Site.{IsTurnMade, number_in}
use Rattle.site_worker.specs.declared.host.Host.{Host}
use Rattle.site_worker.specs.declared.inside.Fetched.{Fetched}
use Rattle.site_worker.specs.declared.inside.Fetched.TheVariants.{Over, Open}
use Rattle.site_worker.specs.declared.inside.PostOutcome.TheVariants.{Refused}
use Rattle.site_worker.specs.declared.inside.NextVisit.TheVariants as next
use Rattle.site_worker.specs.declared.visited.Visited.{Visited}
use Rattle.site_worker.specs.declared.visited.Visited.TheVariants as visited
use Rattle.site_worker.specs.Inside.{HasCause, HasFetched, HasPosted, HasPostedAndFetched, Since}
use Rattle.site_worker.specs.Host.{state_of, sight, program_of, sites_of, IsSpelledBy, HasTurned, number_list}
use Rattle.site_worker.specs.Waking.{AreRecipients}
use Rattle.site_worker.specs.Visit.{IsVisit, IsSameHost, NoneTravels, HasNoEntry, HasEntry, HasMadeTurn, HasBegun, IsPostedHalf, IsNextHalf, IsNextVisit, IsFirstHalf, LedByTurns, AreVisits, AreVisitsSoFar}
use Rattle.site_worker.proofs.HostLemmas.{with_seat, over_by, on_since, none_travels, fetched_host, fetched_begins, posted_by, refused_by, made_turn, none_taken, none_read, none_by, visited_by}

-- one lawful change after another is one
pub both_lawful : (k : ℕ) (old between new : Sight) → IsLawfulChange k old between → IsLawfulChange k between new → IsLawfulChange k old new
both_lawful k old between new first second = let es = first.appended in let fs = second.appended in record {
  appended = (
    fs.0 ++ es.0,
    fs.1 ∙ (ap (λ l. fs.0 ++ l) es.1 ∙ sym (append_assoc fs.0 es.0 old.entries)),
    λ j other. filter-append (λ (e : Turn). eqb e.site j) fs.0 es.0 ∙ (ap (λ l. l ++ own j es.0) (fs.2 j other) ∙ es.2 j other),
  );
  other_hands = λ j other. second.other_hands j other ∙ first.other_hands j other;
  reason = λ r is. second.reason r (first.reason r is);
  fixed = second.fixed ∙ first.fixed;
}

-- what the seat would have seen, had it left in between
abbrev seat_between : SiteSeat → Sight → SiteSeat
seat_between x s = record x { badge = record x.badge { views = outside (part x.site s ∷ []) ∷ [] } }

-- a visit that began as a, and went on as s to its turn, which left it as m, made that turn when it was posted
pub made_by : (table : TableId) (a s m d : Host) (o : Option (ℕ × List ℕ)) (limit : ℕ) (e : Turn) → HasBegun table a s o limit → (o ≡ None → is_idle (state_of s) ≡ false)
    → IsSameHost s m × (m.site.seat ≡ s.site.seat) → AreRecipients m.recipients e.sent
    → ((p : Option (ℕ × Msg)) → IsSpelledBy o p → IsTurnMade (program_of s) (sites_of s) (state_of s) p (min (limit - (state_of s).steps) 64) e (state_of m))
    → HasEntry m.number (sight m) (sight d) e → state_of d ≡ state_of m → IsContinuation (sight d).entries (sight m).entries → d.recipients ≡ m.recipients → HasMadeTurn a d
made_by table a s m d o limit e begun cause kept wakes turn posted state begins same =
    let half = begun.half in
    let p = half.0.0 in
    made_turn a s m d limit p e (begun.same.number, begun.same.program, begun.same.sites, begun.same.fixed, begun.state) half.1 half.2.0 half.0.2.message (kept.0.number, kept.1) (turn p half.0.1) posted state begins
    (λ none. sym (ap is_idle begun.state) ∙ cause (none_taken o p half.0.1 none)) (λ none. none_travels s.number (sight s) (half.0.2.hands ∙ ap (λ (q : Option (ℕ × Msg)). number_list (number_in q)) none) (half.0.2.waits none)) begun.begins wakes same

-- a visit that took nothing for a site that is idle
nothing_by : (table : TableId) (a s : Host) (o : Option (ℕ × List ℕ)) (limit : ℕ) → HasBegun table a s o limit → o ≡ None → is_idle (state_of s) ≡ true → IsVisit a s visited.Nothing
nothing_by table a s o limit begun is idle =
    let half = begun.half in
    let mine = half.0.2 in
    let none = none_read o half.0.0 half.0.1 is in
    let number : s.number ≡ a.number = begun.same.number in
    let empty : hand s.number (sight s).hands ≡ [] = mine.hands ∙ ap (λ (p : Option (ℕ × Msg)). number_list (number_in p)) none in (
      mine.reason,
      half.1,
      subst (λ k. hand k (sight s).hands ≡ []) number empty,
      ap is_idle (sym begun.state) ∙ idle,
      begun.state,
      subst (λ k. NoneTravels k (sight s).entries) number (none_travels s.number (sight s) empty (mine.waits none)),
    )

-- no entry more
pub none_since : (table : TableId) (a s m d : Host) (o : Option (ℕ × List ℕ)) (limit : ℕ) → HasBegun table a s o limit → IsSameHost s m × (m.site.seat ≡ s.site.seat)
    → HasNoEntry m.number (sight m) (sight d) → HasNoEntry a.number (sight a) (sight d)
none_since table a s m d o limit begun kept = none_by a s m d (kept.0.number ∙ begun.same.number) kept.1 begun.half.1

module _ (table : TableId) (m : Host) (e : Turn) (y x : SiteSeat) (is : y ≡ m.site.seat) (out : IsOutsideOf table x × (x.site ≡ y.site)) (mine : HasTurned table m e) (cause : HasCause (last_seen x)) where
  pub refused_half : (r : Reason) → Since y.site (last_seen y) (last_seen x) (λ now. HasPosted e now (last_seen x) (Refused r)) → IsNextHalf table m (record (with_seat m x) { spent = true }) e (Over r)
  refused_half r refused =
      let t = refused_by table m e y x is mine out r refused in
      (t.0, ((over_by (last_seen x) r cause t.1, inl (t.2, t.3)), refl, refl, t.3))

  pub posted_half : (r : Fetched) → Since y.site (last_seen y) (last_seen x) (λ now. HasPostedAndFetched y.site e now (last_seen x) (next.Posted r)) → IsNextHalf table m (with_seat m x) e r
  posted_half (Over r) since =
      let step = since.2 in
      let fetched = step.2 in
      let t = posted_by table m e y x is mine out (Some r) (since.0, since.1, (fetched.1 ∙ step.1.0, ap (hand e.site) fetched.2 ∙ step.1.1, fetched.0), since.3) in
      (t.0, ((over_by (last_seen x) r cause t.1, inr t.2), refl, refl, t.4))
  posted_half (Open p left) since =
      let step = since.2 in
      let between = step.0 in
      let z = seat_between x between in
      let kept : between.fixed ≡ (last_seen y).fixed = step.3 ∙ since.1.fixed in
      let t = posted_by table m e y z is mine ((out.0.0, refl), out.1) between.reason (since.0, since.1, step.1, kept) in
      let fixed : (last_seen x).fixed ≡ between.fixed = since.3 ∙ sym kept in
      let then : Since x.site between (last_seen x) (λ now. HasFetched x.site now (last_seen x) (Open p left)) =
      (between, agrees_refl x.site between, subst (λ k. HasFetched k between (last_seen x) (Open p left)) (sym out.1) step.2, fixed) in (
        with_seat m z,
        ((step.2.0, t.2, t.3), refl, refl, t.4),
        record {
          same = record { number = refl; program = refl; sites = refl; fixed = fixed };
          state = refl;
          half = fetched_host table (with_seat m z) z x (Open p left) refl t.0 (out.0, refl) cause then;
          begins = fetched_begins x.site between (last_seen x) (Open p left) then;
        },
      )

module _ (table : TableId) (a s m : Host) (o : Option (ℕ × List ℕ)) (limit : ℕ) (e : Turn) (begun : HasBegun table a s o limit) (cause : o ≡ None → is_idle (state_of s) ≡ false) (kept : IsSameHost s m × (m.site.seat ≡ s.site.seat)) (wakes : AreRecipients m.recipients e.sent)
    (turn : (p : Option (ℕ × Msg)) → IsSpelledBy o p → IsTurnMade (program_of s) (sites_of s) (state_of s) p (min (limit - (state_of s).steps) 64) e (state_of m)) where
  -- a visit whose turn was posted or refused
  pub visit_by : (d : Host) (v : Visited) → IsPostedHalf m d e v → IsVisit a d v
  visit_by d v half =
      visited_by a m d e v (kept.0.number ∙ begun.same.number) (λ posted. made_by table a s m d o limit e begun cause kept wakes turn posted half.1 half.3 half.2)
      (none_since table a s m d o limit begun kept) (on_since a s m d kept.1 begun.begins) half.0

  pub next_visit : (d : Host) (r : Fetched) → IsNextHalf table m d e r → IsNextVisit table a d r
  next_visit d (Over r) next = (next.0, visit_by d (visited.Over r) next.1)
  next_visit d (Open p left) next = (next.0, visit_by next.0 visited.Did next.1, next.2)

-- ---- visits in a row

pub same_trans : (a b c : Host) → IsSameHost a b → IsSameHost b c → IsSameHost a c
same_trans a b c first second = record { number = second.number ∙ first.number; program = second.program ∙ first.program; sites = second.sites ∙ first.sites; fixed = second.fixed ∙ first.fixed }

-- a visit that began as a, where the sites that a's last turn sent to were forgotten
pub begun_first : (table : TableId) (a new : Host) (o : Option (ℕ × List ℕ)) (limit : ℕ) → IsSameHost (record a { recipients = 0 }) new → state_of new ≡ state_of a → IsFirstHalf table (record a { recipients = 0 }) new (Open o limit)
    → IsContinuation (sight new).entries (sight a).entries → HasBegun table a new o limit
begun_first table a new o limit same state half begins =
    record { same = record { number = same.number; program = same.program; sites = same.sites; fixed = same.fixed }; state = state; half = half; begins = begins }

-- the first of them has begun, or has ended at once
pub so_far_first : (table : TableId) (a new : Host) (r : Fetched) → IsSameHost (record a { recipients = 0 }) new → state_of new ≡ state_of a → IsFirstHalf table (record a { recipients = 0 }) new r
    → IsContinuation (sight new).entries (sight a).entries → AreVisitsSoFar table a new r
so_far_first table a new (Over r) same state half begins = (half.0, ([], a, refl, (half.1, inl (half.2, half.3))))
so_far_first table a new (Open o limit) same state half begins = ([], a, refl, begun_first table a new o limit same state half begins)

-- one more
one_more : (table : TableId) (a b new : Host) (bs : List Host) (r : Fetched) → LedByTurns a bs b → IsNextVisit table b new r → AreVisitsSoFar table a new r
one_more table a b new bs (Over r) led next = (next.0, (bs, b, led, next.1))
one_more table a b new bs (Open o limit) led next = (b ∷ bs, next.0, (next.1, led), next.2)

none_of : (o : Option (ℕ × List ℕ)) → is_some o ≡ false → o ≡ None
none_of None none = refl
none_of (Some x) none = absurd (cc)

-- visits in a row, the last of which has begun
module _ (table : TableId) (a h : Host) (r : Fetched) (o : Option (ℕ × List ℕ)) (limit : ℕ) (is : r ≡ Open o limit) (far : AreVisitsSoFar table a h r) where
  pub last_begun : (b : Host) × HasBegun table b h o limit
  last_begun = let f = subst (AreVisitsSoFar table a h) is far in (f.1, f.3)

  pub so_far_next : (new : Host) (s : Fetched) → ((b : Host) → HasBegun table b h o limit → IsNextVisit table b new s) → AreVisitsSoFar table a new s
  so_far_next new s link = let f = subst (AreVisitsSoFar table a h) is far in one_more table a f.1 new f.0 s f.2 (link f.1 f.3)

  pub last_visit : (new : Host) (v : Visited) → ((b : Host) → HasBegun table b h o limit → IsVisit b new v) → AreVisits a new v
  last_visit new v link = let f = subst (AreVisitsSoFar table a h) is far in (f.0, f.1, f.2, link f.1 f.3)

  pub nothing_last : is_some o ≡ false → is_idle (state_of h) ≡ true → AreVisits a h visited.Nothing
  nothing_last none idle = let f = subst (AreVisitsSoFar table a h) is far in (f.0, f.1, f.2, nothing_by table f.1 h o limit f.3 (none_of o none) idle)
