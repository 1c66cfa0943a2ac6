-- How a host goes on from one part of a visit to the next.
use Rattle.std.proofs.Common.{min, inl, inr, ⊎_elim, ◌-◌, ◌≡◌, ℕ, ◌≤◌, List, [], ◌∷◌, ◌++◌, cond, not, Bool, true, false, eq-eqb, Option, Some, None, refl, sym, ap, ◌∙◌, subst, arith, append_assoc}
use Rattle.std.specs.Prelude.{Contains, slice_get, slice_index_or}
use Rattle.atomic_table.specs.Seated.{TableId}
use Rattle.kernel_syntax.specs.declared.stmt.Stmt.{Stmt}
use Rattle.kernel_syntax.specs.Program.{IsProgram}
use Rattle.site_message.specs.declared.message.Msg.{Msg}
use Rattle.site_message.specs.declared.turn.Turn.{Turn}
use Rattle.site_message.specs.declared.story.Sight.{Sight}
use Rattle.site_message.specs.declared.reason.Reason.{Reason}
use Rattle.site_message.specs.Journal.{sent_of}
use Rattle.site_message.specs.Story.{own, hand}
use Rattle.message_book.specs.Book.{IsSiteOf, IsReason, without_delivered}
use Rattle.book_lock.specs.declared.lock.SiteSeat.{SiteSeat}
use Rattle.book_lock.specs.Rule.{IsContinuation, AreInAgreement}
use Rattle.book_lock.specs.Seats.{last_seen, IsOutsideOf}
use Rattle.site_model.specs.Site.{Site, is_idle}
use Rattle.site_model.specs.Bundle.{bundle_limit}
use Rattle.site_model.specs.Turn.{SiteTurnOf}
use Rattle.site_model.specs.Run.{SiteRun, IsEntry, message_of, delivered_message}
use Rattle.tree_node.specs.Each.{Each}
use Rattle.site_wire.specs.Laws.{SitesSendWhatFits}
use Rattle.site_wire.specs.Sending.{CanBeSpelled}
use Rattle.site_core.specs.Site.{SiteState, IsTurnMade, message_in, number_in}
use Rattle.site_worker.specs.declared.host.Host.{Host}
use Rattle.site_worker.specs.declared.inside.Fetched.{Fetched}
use Rattle.site_worker.specs.declared.inside.Fetched.TheVariants.{Over, Open}
use Rattle.site_worker.specs.declared.inside.PostOutcome.TheVariants.{Posted, Refused}
use Rattle.site_worker.specs.Inside.{book_sites, book_steps, book_limits, HasCause, NoneWaits, HasTaken, HasFetched, HasPosted, HasClosed, Since}
use Rattle.site_worker.specs.Host.{state_of, sight, program_of, sites_of, fixed_of, IsRunTo, IsSeated, HasCome, AreOwnWithin, IsHost, IsSpelledBy, HasMessage, HasTurned, HasFailed, number_list}
use Rattle.site_worker.specs.declared.visited.Visited.{Visited}
use Rattle.site_worker.specs.declared.visited.Visited.TheVariants.{Did, Nothing}
use Rattle.site_worker.specs.declared.visited.Visited.TheVariants as visited
use Rattle.site_worker.specs.Waking.{AreRecipients}
use Rattle.site_worker.specs.Visit.{IsVisit, IsFirstHalf, IsSecondHalf, IsGivenUp, HasNoEntry, HasEntry, HasMadeTurn, IsOver, NoneTravels}
use Rattle.site_message.proofs.JournalLemmas.{own_this}
use Rattle.site_model.proofs.RunLemmas.{run_entry}
use Rattle.site_worker.proofs.RunLemmas.{message_later, run_later}
use Rattle.site_model.proofs.FrameLemmas.{few_units}

-- the host with another value of its seat
abbrev pub with_seat : Host → SiteSeat → Host
with_seat h x = record h { site = record h.site { seat = x } }

off : true ≡ false → ⊥
off e = cc

seated_later : (table : TableId) (h : Host) (x : SiteSeat) → IsSeated table h → IsOutsideOf table x → x.site ≡ h.site.seat.site → (last_seen x).fixed ≡ (sight h).fixed → IsSeated table (with_seat h x)
seated_later table h x mine out same fixed = record {
  outside = out;
  seat = mine.seat ∙ sym same;
  site = mine.site;
  sites = ap (λ (l : List ℕ). slice_index_or l 0 0) fixed ∙ mine.sites;
  range = mine.range;
  most = mine.most;
  limit = subst (λ (l : List ℕ). slice_index_or l 1 0 ≤ 1000000000) (sym fixed) mine.limit;
  program = mine.program;
}

come_later : (h : Host) (x : SiteSeat) (s : Site) → IsContinuation (last_seen x).entries (sight h).entries → HasNoEntry h.number (sight h) (last_seen x) → HasCome h s → HasCome (with_seat h x) s
come_later h x s on same come = record {
  run = run_later (program_of h) (sites_of h) bundle_limit h.number (sight h).entries (last_seen x).entries s on same come.run;
  state = come.state;
  live = come.live;
}

-- steps and entries within the limit, where the fixed part stays and no own entry came
steps_later : (n : ℕ) (old new : Sight) → new.fixed ≡ old.fixed → n ≤ book_steps old → n ≤ book_steps new
steps_later n old new fixed few = subst (λ (l : List ℕ). n ≤ slice_index_or l 1 0) (sym fixed) few

within_later : (h : Host) (x : SiteSeat) → (last_seen x).fixed ≡ (sight h).fixed → HasNoEntry h.number (sight h) (last_seen x) → AreOwnWithin h → AreOwnWithin (with_seat h x)
within_later h x fixed same within =
    subst (λ (z : List ℕ × List Turn). Each (λ (e : Turn). e.steps ≤ slice_index_or z.0 1 0) z.1) (λ i. (sym fixed i, sym same i)) within

-- where the seat stays
within_seat : (h : Host) (x : SiteSeat) → x ≡ h.site.seat → AreOwnWithin h → AreOwnWithin (with_seat h x)
within_seat h x same within = subst (λ (z : SiteSeat). AreOwnWithin (with_seat h z)) (sym same) within

-- what a seat finds, does and leaves in one way through the lock
pub since_way : (k : ℕ) (old found left new : Sight) (P : Sight → Sight → Type 0) → AreInAgreement k found old → P found left → left.fixed ≡ found.fixed → new ≡ left → Since k old new (λ now. P now new)
since_way k old found left new P agrees did fixed seen = (found, agrees, subst (P found) (sym seen) did, ap (λ (x : Sight). x.fixed) seen ∙ (fixed ∙ agrees.fixed))

-- what was in hand for a site is in hand still, as others leave it there
pub in_hand : (table : TableId) (h : Host) (e : Turn) (y : SiteSeat) (found : Sight) → y ≡ h.site.seat → HasTurned table h e → AreInAgreement y.site found (last_seen y)
    → (k : ℕ) → e.delivered ≡ Some k → Contains (hand e.site found.hands) k
in_hand table h e y found is mine agrees k delivers =
    let own_seat : y.site ≡ h.number = ap (λ (z : SiteSeat). z.site) is ∙ sym mine.seated.seat in
    let hands : hand e.site found.hands ≡ k ∷ [] =
    ap (λ (i : ℕ). hand i found.hands) (mine.site ∙ sym own_seat) ∙ (agrees.own_hands ∙ (ap (λ (z : SiteSeat). hand y.site (last_seen z).hands) is ∙ (ap (λ (i : ℕ). hand i (sight h).hands) own_seat ∙ (mine.hands ∙ ap number_list delivers)))) in
    subst (λ (l : List ℕ). Contains l k) (sym hands) (0, omega arith, refl)

-- what was found goes on from what the seat had seen
pub fetched_begins : (k : ℕ) (old new : Sight) (r : Fetched) → Since k old new (λ now. HasFetched k now new r) → IsContinuation new.entries old.entries
fetched_begins k old new (Over r) a = subst (λ (es : List Turn). IsContinuation es old.entries) (sym a.2.1) a.1.begins
fetched_begins k old new (Open o limit) a = subst (λ (es : List Turn). IsContinuation es old.entries) (sym a.2.2) a.1.begins

-- a reason that the book has
pub over_by : (x : Sight) (r : Reason) → HasCause x → x.reason ≡ Some r → IsOver x r
over_by x r cause is = (is, subst (IsReason (book_limits x) x.entries) is cause)

-- what goes on from what goes on
on_by : (a b c : List Turn) → IsContinuation b a → IsContinuation c b → IsContinuation c a
on_by a b c first second = (second.0 ++ first.0, second.1 ∙ (ap (λ l. second.0 ++ l) first.1 ∙ sym (append_assoc second.0 first.0 a)))

-- no message travels to a site with nothing in hand for which none waits
pub none_travels : (k : ℕ) (x : Sight) → hand k x.hands ≡ [] → NoneWaits k x → NoneTravels k x.entries
none_travels k x none waits n m sent = waits n m (sent, λ (inside : Contains (hand k x.hands) n). let low = (subst (λ (l : List ℕ). Contains l n) none inside).1 in absurd (omega arith))

-- ---- the first half

alive : (b : Bool) (spent : Bool) → spent ≡ b → (spent ≡ true → ⊥) → spent ≡ false
alive true spent e dead = absurd (dead e)
alive false spent e dead = e

-- the message that was taken: it is in hand, and was sent by its number
record IsFirst (h : Host) (x : SiteSeat) (o : Option (ℕ × List ℕ)) : Type 0 where
  message : Option (ℕ × Msg)
  spelled : IsSpelledBy o message
  hands : hand h.number (last_seen x).hands ≡ number_list (number_in message)
  content : delivered_message (last_seen x).entries (number_in message) ≡ message_in message
  waits : message ≡ None → NoneWaits h.number (last_seen x)

taken_first : (h : Host) (x : SiteSeat) (o : Option (ℕ × List ℕ)) (now : Sight) → (last_seen x).entries ≡ now.entries → hand h.number now.hands ≡ [] → HasTaken h.number now (last_seen x) o → IsFirst h x o
taken_first h x None now entries none t = record {
  message = None;
  spelled = tt;
  hands = ap (λ (s : Sight). hand h.number s.hands) t.0 ∙ none;
  content = refl;
  waits = λ _. subst (NoneWaits h.number) (sym t.0) t.1;
}
taken_first h x (Some y) now entries none t = record {
  message = Some (y.0, t.0.0);
  spelled = (refl, t.0.2);
  hands = t.1 ∙ ap (λ l. l ++ y.0 ∷ []) none;
  content = ap (λ (es : List Turn). message_of (slice_get (sent_of es) y.0)) entries ∙ ap message_of t.0.1;
  waits = λ e. absurd (cc);
}

module _ (table : TableId) (h : Host) (x : SiteSeat) (mine : IsHost table h) (out : IsOutsideOf table x) (same : x.site ≡ h.site.seat.site) (cause : HasCause (last_seen x)) where
  fetched_from : (r : Fetched) → Since h.number (sight h) (last_seen x) (λ now. HasFetched h.number now (last_seen x) r) → IsFirstHalf table h (with_seat h x) r
  fetched_from (Over r) a =
      let found = a.2 in
      let own_same : HasNoEntry h.number (sight h) (last_seen x) = ap (own h.number) found.1 ∙ a.1.own_entries in
      let on = fetched_begins h.number (sight h) (last_seen x) (Over r) a in (
        record {
          seated = seated_later table h x mine.seated out same a.3;
          state = mine.state;
          run = run_later (program_of h) (sites_of h) bundle_limit h.number (sight h).entries (last_seen x).entries mine.state on own_same mine.run;
          live = λ is. (come_later h x mine.state on own_same (mine.live is).0, ap (hand h.number) found.2 ∙ (a.1.own_hands ∙ (mine.live is).1));
          over = λ is. (r, found.0);
          steps = steps_later mine.state.steps (sight h) (last_seen x) a.3 mine.steps;
          within = within_later h x a.3 own_same mine.within;
        },
        over_by (last_seen x) r cause found.0,
        own_same,
        on,
      )
  fetched_from (Open o limit) a =
      let now = a.0 in
      let found = a.2 in
      let own_same : HasNoEntry h.number (sight h) (last_seen x) = ap (own h.number) found.2 ∙ a.1.own_entries in
      let on = fetched_begins h.number (sight h) (last_seen x) (Open o limit) a in
      let live : h.spent ≡ false = alive h.spent h.spent refl (λ yes. let t = mine.over yes in let e = sym (a.1.reason t.0 t.1) ∙ found.0 in cc) in
      let is = mine.live live in
      let come = come_later h x mine.state on own_same is.0 in
      let taken = taken_first h x o now found.2 (a.1.own_hands ∙ is.1) found.4 in (
        (
          taken.message,
          taken.spelled,
          record {
            seated = seated_later table h x mine.seated out same a.3;
            come = subst (HasCome (with_seat h x)) (sym is.0.state) come;
            hands = taken.hands;
            message = taken.content;
            live = live;
            steps = steps_later (state_of h).steps (sight h) (last_seen x) a.3 (subst (λ (s : Site). s.steps ≤ book_steps (sight h)) (sym is.0.state) mine.steps);
            within = within_later h x a.3 own_same mine.within;
            reason = found.1;
            waits = taken.waits;
          },
        ),
        own_same,
        found.3,
      )

pub fetched_host : (table : TableId) (h : Host) (y x : SiteSeat) (r : Fetched) → y ≡ h.site.seat → IsHost table h → IsOutsideOf table x × (x.site ≡ y.site) → HasCause (last_seen x)
    → Since y.site (last_seen y) (last_seen x) (λ now. HasFetched y.site now (last_seen x) r) → IsFirstHalf table h (with_seat h x) r
fetched_host table h y x r is mine out cause a =
    let b : Since h.site.seat.site (sight h) (last_seen x) (λ now. HasFetched h.site.seat.site now (last_seen x) r) = subst (λ (z : SiteSeat). Since z.site (last_seen z) (last_seen x) (λ now. HasFetched z.site now (last_seen x) r)) is a in
    fetched_from table h x mine out.0 (out.1 ∙ ap (λ (z : SiteSeat). z.site) is) cause r (subst (λ (k : ℕ). Since k (sight h) (last_seen x) (λ now. HasFetched k now (last_seen x) r)) (sym mine.seated.seat) b)

-- ---- the turn

seated_turn : (table : TableId) (h : Host) (v : SiteState SiteSeat) → v.seat ≡ h.site.seat → (v.program ≡ program_of h) × (v.sites ≡ sites_of h) × (v.state.records.site ≡ (state_of h).records.site)
    → IsSeated table h → IsSeated table (record h { site = v })
seated_turn table h v seat same mine = record {
  outside = subst (IsOutsideOf table) (sym seat) mine.outside;
  seat = mine.seat ∙ ap (λ (z : SiteSeat). z.site) (sym seat);
  site = same.2 ∙ mine.site;
  sites = ap (λ (z : SiteSeat). book_sites (last_seen z)) seat ∙ (mine.sites ∙ sym same.1);
  range = subst (λ n. IsSiteOf n h.number) (sym same.1) mine.range;
  most = subst (λ n. n ≤ 64) (sym same.1) mine.most;
  limit = subst (λ (z : SiteSeat). book_steps (last_seen z) ≤ 1000000000) (sym seat) mine.limit;
  program = subst IsProgram (sym same.0) mine.program;
}

-- a host whose site made a turn with what was taken
pub turned_host : (table : TableId) (h : Host) (v : SiteState SiteSeat) (recipients quantum : ℕ) (o : Option (ℕ × Msg)) (e : Turn) → HasMessage table h o → v.seat ≡ h.site.seat
    → (v.program ≡ program_of h) × (v.sites ≡ sites_of h) × (v.state.records.site ≡ (state_of h).records.site) → v.spent ≡ false → quantum ≤ 64
    → IsTurnMade (program_of h) (sites_of h) (state_of h) o quantum e v.state → v.state.steps ≤ book_steps (sight h) → HasTurned table (record h { site = v; recipients = recipients }) e
turned_host table h v recipients quantum o e mine seat same live few turn steps =
    let seated = seated_turn table h v seat same mine.seated in
    record {
      seated = record { outside = seated.outside; seat = seated.seat; site = seated.site; sites = seated.sites; range = seated.range; most = seated.most; limit = seated.limit; program = seated.program };
      before = state_of h;
      taken = o;
      quantum = quantum;
      few = few;
      run = subst (λ (z : List Stmt × ℕ × SiteSeat). SiteRun z.0 z.1 bundle_limit h.number (last_seen z.2).entries (state_of h)) (λ i. (sym same.0 i, sym same.1 i, sym seat i)) mine.come.run;
      turn = subst (λ (z : List Stmt × ℕ). IsTurnMade z.0 z.1 (state_of h) o quantum e v.state) (λ i. (sym same.0 i, sym same.1 i)) turn;
      site = turn.site ∙ mine.seated.site;
      message = subst (λ (z : SiteSeat). delivered_message (last_seen z).entries (number_in o) ≡ message_in o) (sym seat) mine.message;
      hands = ap (λ (z : SiteSeat). hand h.number (last_seen z).hands) seat ∙ (mine.hands ∙ ap number_list (sym turn.delivered));
      live = (mine.live, live);
      steps = subst (λ (z : SiteSeat). ((state_of h).steps ≤ book_steps (last_seen z)) × (v.state.steps ≤ book_steps (last_seen z))) (sym seat) (mine.steps, steps);
      within = within_seat h v.seat seat mine.within;
    }

-- a host whose site had no memory for its turn
pub spent_host : (table : TableId) (h : Host) (v : SiteState SiteSeat) (o : Option (ℕ × Msg)) → HasMessage table h o → v.seat ≡ h.site.seat
    → (v.program ≡ program_of h) × (v.sites ≡ sites_of h) × (v.state.records.site ≡ (state_of h).records.site) → HasFailed table (record h { site = v; spent = true })
spent_host table h v o mine seat same =
    let seated = seated_turn table h v seat same mine.seated in
    record {
      seated = record { outside = seated.outside; seat = seated.seat; site = seated.site; sites = seated.sites; range = seated.range; most = seated.most; limit = seated.limit; program = seated.program };
      before = state_of h;
      run = subst (λ (z : List Stmt × ℕ × SiteSeat). SiteRun z.0 z.1 bundle_limit h.number (last_seen z.2).entries (state_of h)) (λ i. (sym same.0 i, sym same.1 i, sym seat i)) mine.come.run;
      spent = refl;
      steps = subst (λ (z : SiteSeat). (state_of h).steps ≤ book_steps (last_seen z)) (sym seat) mine.steps;
      within = within_seat h v.seat seat mine.within;
    }

-- a host that counts its turns
pub counted_host : (table : TableId) (h : Host) (turns : ℕ) (o : Option (ℕ × Msg)) → HasMessage table h o → HasMessage table (record h { turns = turns }) o
counted_host table h turns o mine = record {
  seated = record { outside = mine.seated.outside; seat = mine.seated.seat; site = mine.seated.site; sites = mine.seated.sites; range = mine.seated.range; most = mine.seated.most; limit = mine.seated.limit; program = mine.seated.program };
  come = record { run = mine.come.run; state = mine.come.state; live = mine.come.live };
  hands = mine.hands;
  message = mine.message;
  live = mine.live;
  steps = mine.steps;
  within = mine.within;
  reason = mine.reason;
  waits = mine.waits;
}

-- ---- the second half

without_this : (o : Option ℕ) → without_delivered o (number_list o) ≡ []
without_this None = refl
without_this (Some n) = ap (λ b. cond (not b) (n ∷ []) []) (eq-eqb n n refl)

-- a turn that was made is one over any journal that begins with what was seen
entry_over : (table : TableId) (h : Host) (e : Turn) (es : List Turn) → HasTurned table h e → IsContinuation es (sight h).entries → own h.number es ≡ own h.number (sight h).entries → IsRunTo h (e ∷ es) (state_of h)
entry_over table h e es mine on same =
    let before = run_later (program_of h) (sites_of h) bundle_limit h.number (sight h).entries es mine.before on same mine.run in
    let message : message_in mine.taken ≡ delivered_message es e.delivered =
    sym (ap (delivered_message es) mine.turn.delivered ∙ message_later (sight h).entries es mine.taken on mine.message) in
    let t = mine.turn.turn in
    let turn = few_units (program_of h) (sites_of h) bundle_limit mine.quantum e.units mine.before (message_in mine.taken) t.0 mine.few t.1 in
    let entry : IsEntry (program_of h) (sites_of h) bundle_limit es e mine.before (state_of h) =
    (t.0, subst (λ m. SiteTurnOf (program_of h) (sites_of h) bundle_limit e.units mine.before m t.0) message turn, t.2, t.3) in
    run_entry (program_of h) (sites_of h) bundle_limit h.number e es mine.before (state_of h) mine.site before entry

-- each message that it sends can be spelled
pub sent_fits : SitesSendWhatFits → (table : TableId) (h : Host) (e : Turn) → HasTurned table h e → CanBeSpelled e.sent
sent_fits law table h e mine =
    let k = h.number in
    let es = (sight h).entries in
    let run : IsRunTo h (e ∷ es) (state_of h) = entry_over table h e es mine ([], refl) refl in
    let all = law (program_of h) (sites_of h) bundle_limit k (e ∷ es) (state_of h) mine.seated.program mine.seated.most (omega arith) mine.seated.range.0 mine.seated.range.1 run in
    (subst (Each (λ (d : Turn). CanBeSpelled d.sent)) (own_this k e es mine.site) all).0

module _ (table : TableId) (h : Host) (e : Turn) (x : SiteSeat) (mine : HasTurned table h e) (out : IsOutsideOf table x) (same : x.site ≡ h.site.seat.site) where
  -- the entry's own steps are those that the site came to
  posted_within : (last_seen x).fixed ≡ (sight h).fixed → HasEntry h.number (sight h) (last_seen x) e → AreOwnWithin (with_seat h x)
  posted_within fixed entry =
      let t = mine.turn.turn in
      let steps : e.steps ≡ (state_of h).steps = t.2.steps ∙ ap (λ (s : Site). s.steps) (sym t.3) in
      let few : e.steps ≤ book_steps (sight h) = subst (λ n. n ≤ book_steps (sight h)) (sym steps) mine.steps.1 in
      subst (λ (z : List ℕ × List Turn). Each (λ (e : Turn). e.steps ≤ slice_index_or z.0 1 0) z.1) (λ i. (sym fixed i, sym entry i)) (few, mine.within)

  posted_host : (o : Option Reason) → Since h.number (sight h) (last_seen x) (λ now. HasPosted e now (last_seen x) (Posted o))
      → IsHost table (with_seat h x) × ((last_seen x).reason ≡ o) × HasEntry h.number (sight h) (last_seen x) e × (hand h.number (last_seen x).hands ≡ []) × IsContinuation (last_seen x).entries (sight h).entries
  posted_host o a =
      let now = a.0 in
      let found = a.2 in
      let k = h.number in
      let mine_new : HasEntry k (sight h) (last_seen x) e = ap (own k) found.0 ∙ (own_this k e now.entries mine.site ∙ ap (λ l. e ∷ l) a.1.own_entries) in
      let hands : hand k (last_seen x).hands ≡ [] = subst (λ (i : ℕ). hand i (last_seen x).hands ≡ without_delivered e.delivered (hand i now.hands)) mine.site found.1 ∙ (ap (without_delivered e.delivered) (a.1.own_hands ∙ mine.hands) ∙ without_this e.delivered) in
      let run : IsRunTo h (last_seen x).entries (state_of h) =
      subst (λ (es : List Turn). IsRunTo h es (state_of h)) (sym found.0) (entry_over table h e now.entries mine a.1.begins a.1.own_entries) in (
        record {
          seated = seated_later table h x mine.seated out same a.3;
          state = state_of h;
          run = run;
          live = λ _. (record { run = run; state = refl; live = mine.live.1 }, hands);
          over = λ yes. absurd (off (sym yes ∙ mine.live.0));
          steps = steps_later (state_of h).steps (sight h) (last_seen x) a.3 mine.steps.1;
          within = posted_within a.3 mine_new;
        },
        found.2,
        mine_new,
        hands,
        (e ∷ a.1.begins.0, found.0 ∙ ap (λ l. e ∷ l) a.1.begins.1),
      )

  refused_host : (r : Reason) → Since h.number (sight h) (last_seen x) (λ now. HasPosted e now (last_seen x) (Refused r))
      → IsHost table (record (with_seat h x) { spent = true }) × ((last_seen x).reason ≡ Some r) × HasNoEntry h.number (sight h) (last_seen x) × IsContinuation (last_seen x).entries (sight h).entries
  refused_host r a =
      let found = a.2 in
      let own_same : HasNoEntry h.number (sight h) (last_seen x) = ap (own h.number) found.0 ∙ a.1.own_entries in
      let on : IsContinuation (last_seen x).entries (sight h).entries = subst (λ (es : List Turn). IsContinuation es (sight h).entries) (sym found.0) a.1.begins in
      let seated = seated_later table h x mine.seated out same a.3 in (
        record {
          seated = record { outside = seated.outside; seat = seated.seat; site = seated.site; sites = seated.sites; range = seated.range; most = seated.most; limit = seated.limit; program = seated.program };
          state = mine.before;
          run = run_later (program_of h) (sites_of h) bundle_limit h.number (sight h).entries (last_seen x).entries mine.before on own_same mine.run;
          live = λ no_more. absurd (off no_more);
          over = λ _. (r, found.1);
          steps = steps_later mine.before.steps (sight h) (last_seen x) a.3 mine.steps.0;
          within = within_later h x a.3 own_same mine.within;
        },
        found.1,
        own_same,
        on,
      )

failed_host : (table : TableId) (h : Host) (x : SiteSeat) (mine : HasFailed table h) (out : IsOutsideOf table x) (same : x.site ≡ h.site.seat.site) (r : Reason)
    → Since h.number (sight h) (last_seen x) (λ now. HasClosed now (last_seen x) r) → IsHost table (with_seat h x) × ((last_seen x).reason ≡ Some r) × HasNoEntry h.number (sight h) (last_seen x) × IsContinuation (last_seen x).entries (sight h).entries
failed_host table h x mine out same r a =
    let found = a.2 in
    let own_same : HasNoEntry h.number (sight h) (last_seen x) = ap (own h.number) found.1 ∙ a.1.own_entries in
    let on : IsContinuation (last_seen x).entries (sight h).entries = subst (λ (es : List Turn). IsContinuation es (sight h).entries) (sym found.1) a.1.begins in (
      record {
        seated = seated_later table h x mine.seated out same a.3;
        state = mine.before;
        run = run_later (program_of h) (sites_of h) bundle_limit h.number (sight h).entries (last_seen x).entries mine.before on own_same mine.run;
        live = λ living. absurd (off (sym mine.spent ∙ living));
        over = λ _. (r, found.0);
        steps = steps_later mine.before.steps (sight h) (last_seen x) a.3 mine.steps;
        within = within_later h x a.3 own_same mine.within;
      },
      found.0,
      own_same,
      on,
    )

-- a seat that was lent, and the site's number
lent : (y z : SiteSeat) (k : ℕ) (new : Sight) (P : Sight → Type 0) → y ≡ z → k ≡ z.site → Since y.site (last_seen y) new P → Since k (last_seen z) new P
lent y z k new P is number a = subst (λ (i : ℕ). Since i (last_seen z) new P) (sym number) (subst (λ (w : SiteSeat). Since w.site (last_seen w) new P) is a)

pub posted_by : (table : TableId) (h : Host) (e : Turn) (y x : SiteSeat) → y ≡ h.site.seat → HasTurned table h e → IsOutsideOf table x × (x.site ≡ y.site) → (o : Option Reason)
    → Since y.site (last_seen y) (last_seen x) (λ now. HasPosted e now (last_seen x) (Posted o))
    → IsHost table (with_seat h x) × ((last_seen x).reason ≡ o) × HasEntry h.number (sight h) (last_seen x) e × (hand h.number (last_seen x).hands ≡ []) × IsContinuation (last_seen x).entries (sight h).entries
posted_by table h e y x is mine out o a =
    posted_host table h e x mine out.0 (out.1 ∙ ap (λ (z : SiteSeat). z.site) is) o (lent y h.site.seat h.number (last_seen x) (λ now. HasPosted e now (last_seen x) (Posted o)) is mine.seated.seat a)

pub refused_by : (table : TableId) (h : Host) (e : Turn) (y x : SiteSeat) → y ≡ h.site.seat → HasTurned table h e → IsOutsideOf table x × (x.site ≡ y.site) → (r : Reason)
    → Since y.site (last_seen y) (last_seen x) (λ now. HasPosted e now (last_seen x) (Refused r))
    → IsHost table (record (with_seat h x) { spent = true }) × ((last_seen x).reason ≡ Some r) × HasNoEntry h.number (sight h) (last_seen x) × IsContinuation (last_seen x).entries (sight h).entries
refused_by table h e y x is mine out r a =
    refused_host table h e x mine out.0 (out.1 ∙ ap (λ (z : SiteSeat). z.site) is) r (lent y h.site.seat h.number (last_seen x) (λ now. HasPosted e now (last_seen x) (Refused r)) is mine.seated.seat a)

pub failed_by : (table : TableId) (h : Host) (y x : SiteSeat) → y ≡ h.site.seat → HasFailed table h → IsOutsideOf table x × (x.site ≡ y.site) → (r : Reason)
    → Since y.site (last_seen y) (last_seen x) (λ now. HasClosed now (last_seen x) r)
    → IsHost table (with_seat h x) × ((last_seen x).reason ≡ Some r) × HasNoEntry h.number (sight h) (last_seen x) × IsContinuation (last_seen x).entries (sight h).entries
failed_by table h y x is mine out r a =
    failed_host table h x mine out.0 (out.1 ∙ ap (λ (z : SiteSeat). z.site) is) r (lent y h.site.seat h.number (last_seen x) (λ now. HasClosed now (last_seen x) r) is mine.seated.seat a)

-- ---- the whole visit

-- there is a message exactly where there are bytes
pub none_taken : (o : Option (ℕ × List ℕ)) (m : Option (ℕ × Msg)) → IsSpelledBy o m → m ≡ None → o ≡ None
none_taken None m s e = refl
none_taken (Some x) None s e = absurd s
none_taken (Some x) (Some y) s e = absurd (cc)

pub none_read : (o : Option (ℕ × List ℕ)) (m : Option (ℕ × Msg)) → IsSpelledBy o m → o ≡ None → m ≡ None
none_read o None s e = refl
none_read None (Some y) s e = absurd s
none_read (Some x) (Some y) s e = absurd (cc)

-- a turn that was made with what was taken, and posted
pub made_turn : (a b c d : Host) (limit : ℕ) (o : Option (ℕ × Msg)) (e : Turn)
    → (b.number ≡ a.number) × (program_of b ≡ program_of a) × (sites_of b ≡ sites_of a) × (fixed_of b ≡ fixed_of a) × (state_of b ≡ state_of a)
    → HasNoEntry a.number (sight a) (sight b) → limit ≡ book_steps (sight b) → delivered_message (sight b).entries (number_in o) ≡ message_in o
    → (c.number ≡ b.number) × (c.site.seat ≡ b.site.seat) → IsTurnMade (program_of b) (sites_of b) (state_of b) o (min (limit - (state_of b).steps) 64) e (state_of c)
    → HasEntry c.number (sight c) (sight d) e → state_of d ≡ state_of c → IsContinuation (sight d).entries (sight c).entries → (o ≡ None → is_idle (state_of a) ≡ false)
    → (o ≡ None → NoneTravels b.number (sight b).entries) → IsContinuation (sight b).entries (sight a).entries → AreRecipients c.recipients e.sent → d.recipients ≡ c.recipients → HasMadeTurn a d
made_turn a b c d limit o e same none left content seat turn posted state begins cause waits found wakes kept =
    let number : c.number ≡ a.number = seat.0 ∙ same.0 in
    let mine : own a.number (sight d).entries ≡ e ∷ own a.number (sight c).entries = subst (λ k. own k (sight d).entries ≡ e ∷ own k (sight c).entries) number posted in
    let steps : limit ≡ book_steps (sight a) = left ∙ ap (λ (y : List ℕ). slice_index_or y 1 0) same.3 in
    record {
      entry = e;
      message = o;
      posted = mine ∙ (ap (λ (z : SiteSeat). e ∷ own a.number (last_seen z).entries) seat.1 ∙ ap (λ l. e ∷ l) none);
      turn = subst (λ (z : List Stmt × ℕ × Site × ℕ × Site). IsTurnMade z.0 z.1 z.2 o z.3 e z.4) (λ i. (same.1 i, same.2 i, same.4 i, min (steps i - (same.4 i).steps) 64, sym state i)) turn;
      content = message_later (sight c).entries (sight d).entries o begins (subst (λ (z : SiteSeat). delivered_message (last_seen z).entries (number_in o) ≡ message_in o) (sym seat.1) content);
      cause = cause;
      waits = λ is. ((sight b).entries, found, subst (λ (z : SiteSeat). IsContinuation (sight d).entries (last_seen z).entries) seat.1 begins, none, subst (λ k. NoneTravels k (sight b).entries) same.0 (waits is));
      wakes = subst (λ n. AreRecipients n e.sent) (sym kept) wakes;
    }

-- the entries go on in the halves, so in the visit
pub on_since : (a b c d : Host) → c.site.seat ≡ b.site.seat → IsContinuation (sight b).entries (sight a).entries → IsContinuation (sight d).entries (sight c).entries → IsContinuation (sight d).entries (sight a).entries
on_since a b c d seat first second =
    on_by (sight a).entries (sight b).entries (sight d).entries first (subst (λ (z : SiteSeat). IsContinuation (sight d).entries (last_seen z).entries) seat second)

pub visited_by : (a c d : Host) (e : Turn) (r : Visited) → c.number ≡ a.number → (HasEntry c.number (sight c) (sight d) e → HasMadeTurn a d) → (HasNoEntry c.number (sight c) (sight d) → HasNoEntry a.number (sight a) (sight d))
    → (IsContinuation (sight d).entries (sight c).entries → IsContinuation (sight d).entries (sight a).entries) → IsSecondHalf c.number e (sight c) (sight d) r → IsVisit a d r
visited_by a c d e Did number made none on half = (half.0, made half.1, subst (λ k. hand k (sight d).hands ≡ []) number half.2)
visited_by a c d e Nothing number made none on half = absurd half
visited_by a c d e (visited.Over r) number made none on half = (
  half.0,
  ⊎_elim (λ (same : HasNoEntry c.number (sight c) (sight d) × IsContinuation (sight d).entries (sight c).entries). inl (none same.0, on same.1)) (λ (more : HasEntry c.number (sight c) (sight d) e). inr (made more)) half.1,
)

-- a visit whose turn had no memory
pub given_up_by : (a c d : Host) (r : Visited) → (HasNoEntry c.number (sight c) (sight d) → HasNoEntry a.number (sight a) (sight d)) → (IsContinuation (sight d).entries (sight c).entries → IsContinuation (sight d).entries (sight a).entries)
    → IsGivenUp c.number (sight c) (sight d) r → IsVisit a d r
given_up_by a c d Did none on half = absurd half
given_up_by a c d Nothing none on half = absurd half
given_up_by a c d (visited.Over r) none on half = (half.0, inl (none half.1, on half.2))

-- no entry more in the halves, so none in the visit
pub none_by : (a b c d : Host) → c.number ≡ a.number → c.site.seat ≡ b.site.seat → HasNoEntry a.number (sight a) (sight b) → HasNoEntry c.number (sight c) (sight d) → HasNoEntry a.number (sight a) (sight d)
none_by a b c d number seat first second =
    subst (λ k. own k (sight d).entries ≡ own k (sight c).entries) number second ∙ (ap (λ (z : SiteSeat). own a.number (last_seen z).entries) seat ∙ first)
