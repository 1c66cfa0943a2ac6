-- Each own step stands at the site where its thread was placed, in every run.
use Rattle.std.proofs.Common.{arith, ◌≡◌, ◌≢◌, ◌∙◌, sym, ap, refl, subst, ℕ, ◌<◌, ◌≤◌, List, [], ◌∷◌, ◌++◌, length, length-append, append_assoc, ◌⊎◌, inl, inr, Bool, true, false, cond, Some, None}
use Rattle.std.specs.Prelude.{Option, Contains, ◌==◌}
use Rattle.std.proofs.lemmas.List.Elements.{Contains-append_cases}
use Rattle.tree_node.specs.declared.names.CellName.{CellName}
use Rattle.tree_node.specs.declared.names.ThreadName.{ThreadName}
use Rattle.tree_node.specs.declared.pick.Pick.{Pick}
use Rattle.tree_node.specs.Assoc.{value_of}
use Rattle.tree_node.specs.Each.{Each}
use Rattle.tree_node.specs.State.{Stack, equal_thread}
use Rattle.tree_node.proofs.EachLemmas.{each_in}
use Rattle.tree_node.proofs.NameLemmas.{same_thread_decides}
use Rattle.kernel_syntax.specs.declared.stmt.Stmt.{Stmt}
use Rattle.site_message.specs.declared.message.Msg.{Msg}
use Rattle.site_message.specs.declared.message.Msg.TheVariants as msg
use Rattle.site_message.specs.declared.message.Sent.{Sent}
use Rattle.site_message.specs.declared.turn.Turn.{Turn}
use Rattle.site_message.specs.Journal.{IsTravelling, sent_of}
use Rattle.oz_model.specs.Effect.{body_item}
use Rattle.oz_model.specs.Run.{first_thread, start}
use Rattle.bind_protocol.proofs.DeliverLemmas.{get_contains}
use Rattle.site_model.specs.Site.{Site, ThreadState, EarlyRequest, initial_site, home_record, runnable_threads, thread_state}
use Rattle.site_model.specs.Transition.{Transition, without_output, sequence}
use Rattle.site_model.specs.Turn.{AreUnits, SiteTurn, SiteTurnOf}
use Rattle.thread_roster.specs.declared.mode.Mode.TheVariants.{Runs}
use Rattle.site_model.specs.Run.{WorldRun, delivered_message, message_of}
use Rattle.world_model.specs.World.{Sites, put}
use Rattle.world_model.proofs.KeyLemmas.{running_old}
use Rattle.world_model.proofs.MailLemmas.{nothing}
use Rattle.world_model.proofs.PutLemmas.{nat_decides, at_all, at_here, at_other}
use Rattle.world_messages.specs.BindRequests.{is_spawn}
use Rattle.world_messages.specs.Messages.{fresh_in, threads_among}
use Rattle.world_messages.proofs.CountLemmas.{counted_in}
use Rattle.world_messages.proofs.PickLemmas.{PicksOn, turn_picks}
use Rattle.world_messages.proofs.RunLemmas.{Entry, every_run}
use Rattle.world_journals.specs.Places.{home_of, IsPlacedAt, AsksFor, WasAsked, IsRequested, IsNamedBy, UnitsAreNamed, UnitsAreAlwaysNamed, ThreadsStayHome, ThreadsAlwaysStayHome}
use Rattle.world_journals.proofs.PartPlaceLemmas.{IsHere, IsNew, Belongs}
use Rattle.world_journals.proofs.HeardLemmas.{Comes, AllComes, IsAsked, HeardPart}
use Rattle.world_journals.proofs.UnitLemmas.{turn_part, turn_belongs}
use Rattle.world_answers.specs.Balance.{GoesAt}
use Rattle.tree_node.proofs.ClassLemmas.{Contains-cons_cases}

abbrev Nobody : ThreadName → Type 0
Nobody th = ⊥

-- ---- units of a turn

-- what the first of these units come to, after which the thread of the next one is there
cut_units : (p : List Stmt) (n limit : ℕ) (front : List ThreadName) (th : ThreadName) (behind : List ThreadName) (s : Site) (d : Transition) → AreUnits p n limit (front ++ th ∷ behind) s d →
    (t : Transition) × AreUnits p n limit front s t × ((v : ThreadState) × (thread_state t.site th ≡ Some v))
cut_units p n limit [] th behind s d (one, rest, unit, units, is) = (without_output s, refl, ((unit.0, Runs), unit.1))
cut_units p n limit (x ∷ xs) th behind s d (one, rest, unit, units, is) =
    let r = cut_units p n limit xs th behind one.site rest units in
    (sequence one r.0, (one, r.0, unit, r.1, refl), r.2)

-- what holds wherever the list is cut holds of each of it
each_cut : (P : ThreadName → Type 0) (front xs whole : List ThreadName) → whole ≡ front ++ xs → ((before behind : List ThreadName) (x : ThreadName) → whole ≡ before ++ x ∷ behind → P x) → Each P xs
each_cut P front [] whole is h = tt
each_cut P front (x ∷ xs) whole is h = (h front xs x is, each_cut P (front ++ x ∷ []) xs whole (is ∙ sym (append_assoc front (x ∷ []) xs)) h)

-- who is at a site was placed there, as was who is on the way to it; the site was asked for a cell by whom it keeps a request, or who asked was
-- placed there; a thread that was placed was made, by one of the sites; and who has a unit was placed where it has it
pub record PlacedIn (n : ℕ) (j : List Turn) (f : Sites) : Type 0 where
  pub here : (i : ℕ) (th : ThreadName) → IsHere Nobody (f i) th → IsPlacedAt j th i
  pub early : (i : ℕ) (c : CellName) (r : EarlyRequest) → Contains (home_record (f i) c).early r → WasAsked j i c r.thread ⊎ IsPlacedAt j r.thread i
  pub sent : (th : ThreadName) (m : Sent) → Contains (sent_of j) m → is_spawn th m ≡ true → IsPlacedAt j th m.to
  pub made : (th : ThreadName) (i : ℕ) → IsPlacedAt j th i → th.num < (f th.site).counters.threads
  pub named : 1 ≤ n → (th : ThreadName) (i : ℕ) → IsPlacedAt j th i → IsNamedBy n th
  pub units : UnitsAreNamed n j
  pub goes : (i : ℕ) (th : ThreadName) → GoesAt j i th → IsPlacedAt j th i
  pub home : ThreadsStayHome j

module _ (p : List Stmt) (n limit : ℕ) (j : List Turn) (e : Turn) (f : Sites) (d : Transition) (entry : Entry p n limit j e f d) (h : PlacedIn n j f) where
  pub own : (f e.site).records.site ≡ e.site
  own = (counted_in p n limit j f entry.run).0 e.site

  -- who may come in this turn
  abbrev pub Came : ThreadName → Type 0
  Came th = (m : Sent) × Contains (sent_of j) m × (m.to ≡ e.site) × (is_spawn th m ≡ true)

  pub comes : AllComes Came p limit (delivered_message j e.delivered)
  comes = by e.delivered refl
    where
      brings : (to : ℕ) (m : Msg) → Contains (sent_of j) (record { to = to; msg = m }) → to ≡ e.site → Comes Came p limit m
      brings to (msg.Spawn th code vars bundle) at is = (record { to = to; msg = msg.Spawn th code vars bundle }, at, is, (same_thread_decides th th).1 refl)
      brings to (msg.Register x k) at is = tt
      brings to (msg.BindReq x th t bundle) at is = tt
      brings to (msg.Binding x t bundle) at is = tt
      brings to (msg.Get c k) at is = tt
      brings to (msg.Forward c k) at is = tt
      brings to (msg.Put c v bundle) at is = tt
      brings to (msg.PortSend q th k) at is = tt
      brings to (msg.PortEnd th old new bundle) at is = tt
      brings to (msg.CellMake c v bundle) at is = tt
      brings to (msg.CellAsk c th k v bundle) at is = tt
      brings to (msg.CellOld th v bundle) at is = tt

      by : (o : Option ℕ) → e.delivered ≡ o → AllComes Came p limit (delivered_message j e.delivered)
      by None q = subst (λ (o : Option ℕ). AllComes Came p limit (delivered_message j o)) (sym q) tt
      by (Some k) q = go (entry.wired k q)
        where
          go : (s : Sent) × IsTravelling j k s × (s.to ≡ e.site) → AllComes Came p limit (delivered_message j e.delivered)
          go (s, at, to) = subst (AllComes Came p limit) (sym (ap (delivered_message j) q ∙ ap message_of at.0)) (brings s.to s.msg (get_contains (sent_of j) k s at.0) to)

  part : HeardPart Came p limit e.site (delivered_message j e.delivered) (f e.site) d
  part = turn_part p n limit e.site Came (delivered_message j e.delivered) (f e.site) d own comes entry.turn

  made : PicksOn (f e.site).records.site (f e.site).counters d.site.counters d.picks d.sent
  made = turn_picks p n limit (delivered_message j e.delivered) (f e.site) d entry.turn

  -- a thread that is new is among the fresh names
  is_born : (th : ThreadName) → IsNew e.site (f e.site) d.site th → Contains (threads_among (fresh_in e.picks)) th
  is_born th new = subst (λ (ks : List Pick). Contains (threads_among (fresh_in ks)) th) (sym entry.tells.picks) (by (made.threads th (new.0 ∙ sym own) new.2))
    where
      by : (th.num < (f e.site).counters.threads) ⊎ Contains (threads_among (fresh_in d.picks)) th → Contains (threads_among (fresh_in d.picks)) th
      by (inl low) = absurd (omega (arith, low, new.1))
      by (inr c) = c

  was_here : (th : ThreadName) → IsHere Came (f e.site) th → IsPlacedAt j th e.site
  was_here th (inl k) = h.here e.site th (inl k)
  was_here th (inr (inl k)) = h.here e.site th (inr (inl k))
  was_here th (inr (inr (m, at, to, brings))) = subst (IsPlacedAt j th) to (h.sent th m at brings)

  pub belongs : (th : ThreadName) → Belongs e.site Came (f e.site) d th → IsPlacedAt (e ∷ j) th e.site
  belongs th (inl k) = inl (was_here th k)
  belongs th (inr (new, home)) = inr (is_born th new, sym (ap (home_of e.site th) entry.tells.sent ∙ home))

  abbrev after : Sites
  after = put f e.site d.site

  stays : (th : ThreadName) → IsHere Nobody d.site th → IsPlacedAt (e ∷ j) th e.site
  stays th (inl k) = belongs th (part.here th (inl k))
  stays th (inr (inl k)) = belongs th (part.here th (inr (inl k)))
  stays th (inr (inr k)) = absurd k

  sent_after : (th : ThreadName) (m : Sent) → is_spawn th m ≡ true → Contains (sent_of j) m ⊎ Contains e.sent m → IsPlacedAt (e ∷ j) th m.to
  sent_after th m q (inl c) = inl (h.sent th m c q)
  sent_after th m q (inr c) =
      let r = part.sent th m (subst (λ (ms : List Sent). Contains ms m) entry.tells.sent c) q in
      inr (is_born th r.0, sym (ap (home_of e.site th) entry.tells.sent ∙ r.1))

  -- the names of this turn are new
  born : (th : ThreadName) → Contains (threads_among (fresh_in e.picks)) th → IsNew e.site (f e.site) d.site th
  born th c = part.born th (subst (λ (ks : List Pick). Contains (threads_among (fresh_in ks)) th) entry.tells.picks c)

  site_cases : (i : ℕ) → (i ≡ e.site) ⊎ (i ≢ e.site)
  site_cases i = go (i == e.site) refl
    where
      go : (b : Bool) → (i == e.site) ≡ b → (i ≡ e.site) ⊎ (i ≢ e.site)
      go true q = inl ((nat_decides i e.site).0 q)
      go false q = inr (λ z. let yes : (i == e.site) ≡ true = (nat_decides i e.site).1 z in cc)

  low_here : (th : ThreadName) → th.site ≡ e.site → th.num < d.site.counters.threads → th.num < (after th.site).counters.threads
  low_here th q low = subst (λ (s : Site). th.num < s.counters.threads) (sym (ap after q ∙ at_here f e.site d.site)) low

  made_after : (th : ThreadName) (i : ℕ) → IsPlacedAt (e ∷ j) th i → th.num < (after th.site).counters.threads
  made_after th i (inr b) = let new = born th b.0 in low_here th new.0 new.2
  made_after th i (inl old) = by (site_cases th.site)
    where
      by : (th.site ≡ e.site) ⊎ (th.site ≢ e.site) → th.num < (after th.site).counters.threads
      by (inl q) =
          let was : th.num < (f e.site).counters.threads = subst (λ (k : ℕ). th.num < (f k).counters.threads) q (h.made th i old) in
          low_here th q (omega (arith, was, part.since))
      by (inr other) = subst (λ (s : Site). th.num < s.counters.threads) (sym (at_other f e.site d.site th.site other)) (h.made th i old)

  -- a thread of an earlier turn is not born again
  apart : (th : ThreadName) (i : ℕ) → IsPlacedAt j th i → Contains (threads_among (fresh_in e.picks)) th → ⊥
  apart th i old c =
      let new = born th c in
      let was : th.num < (f e.site).counters.threads = subst (λ (k : ℕ). th.num < (f k).counters.threads) new.0 (h.made th i old) in
      absurd (omega (arith, was, new.1))

  once : (th : ThreadName) (i k : ℕ) → IsPlacedAt (e ∷ j) th i → IsPlacedAt (e ∷ j) th k → i ≡ k
  once th i k (inl a) (inl b) = h.home.once th i k a b
  once th i k (inl a) (inr b) = absurd (apart th i a b.0)
  once th i k (inr a) (inl b) = absurd (apart th k b a.0)
  once th i k (inr a) (inr b) = a.1 ∙ sym b.1

  -- what the message asks for is requested, or a step of a thread that asked before and was placed here
  requested : (m : Option Msg) (k : Pick) → IsAsked Came p limit m (f e.site).homes k → IsRequested j e.site m k ⊎ IsPlacedAt (e ∷ j) k.thread e.site
  requested (Some (msg.BindReq x th t bundle)) k q = inl q
  requested (Some (msg.PortSend a th b)) k q = inl q
  requested (Some (msg.CellAsk c th b v bundle)) k q = inl q
  requested (Some (msg.CellMake c v bundle)) k (r, at, is) = by (h.early e.site c r at)
    where
      by : WasAsked j e.site c r.thread ⊎ IsPlacedAt j r.thread e.site → IsRequested j e.site (Some (msg.CellMake c v bundle)) k ⊎ IsPlacedAt (e ∷ j) k.thread e.site
      by (inl asked) = inl (r.thread, asked, is)
      by (inr placed) = inr (inl (subst (λ (th : ThreadName). IsPlacedAt j th e.site) (sym (ap (λ (l : Pick). l.thread) is)) placed))
  requested (Some (msg.Spawn a b c q)) k x = absurd x
  requested (Some (msg.Register a b)) k x = absurd x
  requested (Some (msg.Binding a b c)) k x = absurd x
  requested (Some (msg.Get a b)) k x = absurd x
  requested (Some (msg.Forward a b)) k x = absurd x
  requested (Some (msg.Put a b c)) k x = absurd x
  requested (Some (msg.PortEnd a b c q)) k x = absurd x
  requested (Some (msg.CellOld a b c)) k x = absurd x
  requested None k x = absurd x

  step_at : (k : Pick) → IsAsked Came p limit (delivered_message j e.delivered) (f e.site).homes k ⊎ Belongs e.site Came (f e.site) d k.thread → IsRequested j e.site (delivered_message j e.delivered) k ⊎ IsPlacedAt (e ∷ j) k.thread e.site
  step_at k (inl q) = requested (delivered_message j e.delivered) k q
  step_at k (inr b) = inr (belongs k.thread b)

  -- requests that are kept were kept, or came with this turn's message, or are of threads here
  kept_on : (i : ℕ) (c : CellName) (r : EarlyRequest) → WasAsked j i c r.thread ⊎ IsPlacedAt j r.thread i → WasAsked (e ∷ j) i c r.thread ⊎ IsPlacedAt (e ∷ j) r.thread i
  kept_on i c r (inl k) = inl (inl k)
  kept_on i c r (inr k) = inr (inl k)

  kept_here : (c : CellName) (r : EarlyRequest) → Contains (home_record (f e.site) c).early r ⊎ (AsksFor c r.thread (delivered_message j e.delivered) ⊎ Belongs e.site Came (f e.site) d r.thread) → WasAsked (e ∷ j) e.site c r.thread ⊎ IsPlacedAt (e ∷ j) r.thread e.site
  kept_here c r (inl k) = kept_on e.site c r (h.early e.site c r k)
  kept_here c r (inr (inl k)) = inl (inr (refl, k))
  kept_here c r (inr (inr k)) = inr (belongs r.thread k)

  some_site : 1 ≤ n
  some_site = let low = entry.site.0 in let high = entry.site.1 in omega (arith, low, high)

  -- who has its name from the turn's site
  named_here : (th : ThreadName) → th.site ≡ e.site → IsNamedBy n th
  named_here th is = subst (λ (k : ℕ). (1 ≤ k) × (k ≤ n)) (sym is) entry.site

  named_after : 1 ≤ n → (th : ThreadName) (i : ℕ) → IsPlacedAt (e ∷ j) th i → IsNamedBy n th
  named_after some th i (inl old) = h.named some th i old
  named_after some th i (inr b) = named_here th (born th b.0).0

  unit_named : (front behind : List ThreadName) (th : ThreadName) → e.units ≡ front ++ th ∷ behind → IsNamedBy n th
  unit_named front behind th is = go entry.told
    where
      go : SiteTurnOf p n limit e.units (f e.site) (delivered_message j e.delivered) d → IsNamedBy n th
      go (few, (heard, rest, reception, units, same)) =
          let cut = cut_units p n limit front th behind heard.site rest (subst (λ (ths : List ThreadName). AreUnits p n limit ths heard.site rest) is units) in
          let short : length front ≤ 64 = omega (arith, few, length-append front (th ∷ behind), ap (λ (ths : List ThreadName). length ths) is) in
          let turn : SiteTurn p n limit (f e.site) (delivered_message j e.delivered) (sequence heard cut.0) = (front, short, (heard, cut.0, reception, cut.1, refl)) in
          let so_far = turn_part p n limit e.site Came (delivered_message j e.delivered) (f e.site) (sequence heard cut.0) own comes turn in
          found (sequence heard cut.0) (so_far.here th (inl cut.2))
        where
          found : (t : Transition) → Belongs e.site Came (f e.site) t th → IsNamedBy n th
          found t (inl k) = h.named some_site th e.site (was_here th k)
          found t (inr (new, home)) = named_here th new.0

  goes : (i : ℕ) (th : ThreadName) (g : GoesAt (e ∷ j) i th) → (e ≡ g.0) ⊎ Contains j g.0 → IsPlacedAt (e ∷ j) th i
  goes i th g (inl same) = subst (IsPlacedAt (e ∷ j) th) (ap (λ (x : Turn). x.site) same ∙ g.2)
      (belongs th (turn_belongs p n limit e.site Came (delivered_message j e.delivered) (f e.site) d own comes e.units entry.told th (subst (λ (x : Turn). Contains x.units th) (sym same) g.3)))
  goes i th g (inr old) = inl (h.goes i th (g.0, old, g.2, g.3))

  placed_entry : PlacedIn n (e ∷ j) (put f e.site d.site)
  placed_entry = record {
    here = at_all f e.site d.site (λ (i : ℕ) (s : Site). (th : ThreadName) → IsHere Nobody s th → IsPlacedAt (e ∷ j) th i) stays (λ i other th k. inl (h.here i th k));
    early = at_all f e.site d.site (λ (i : ℕ) (s : Site). (c : CellName) (r : EarlyRequest) → Contains (home_record s c).early r → WasAsked (e ∷ j) i c r.thread ⊎ IsPlacedAt (e ∷ j) r.thread i) (λ c r k. kept_here c r (part.early c r k)) (λ i other c r k. kept_on i c r (h.early i c r k));
    sent = λ th m c q. sent_after th m q (Contains-append_cases (sent_of j) e.sent m c);
    made = made_after;
    named = named_after;
    units = (each_cut (IsNamedBy n) [] e.units e.units refl (λ front behind th is. unit_named front behind th is), h.units);
    goes = λ i th g. goes i th g (Contains-cons_cases e g.0 j g.1);
    home = record {
      steps = (h.home.steps, each_in (λ (k : Pick). IsRequested j e.site (delivered_message j e.delivered) k ⊎ IsPlacedAt (e ∷ j) k.thread e.site) e.picks (λ k c. step_at k (part.picks k (subst (λ (ks : List Pick). Contains ks k) entry.tells.picks c))));
      once = once;
    };
  }

-- ---- every run

-- at the start the first thread is at site 1
first_here : (p : List Stmt) (n i : ℕ) (th : ThreadName) → IsHere Nobody (initial_site p n i) th → IsPlacedAt [] th i
first_here p n i th (inl (v, at)) = go (i == 1) refl at
  where
    one : (st : Stack) (c : Bool) → equal_thread first_thread th ≡ c → cond c (Some st) None ≡ Some v.0 → th ≡ first_thread
    one st true q e = sym ((same_thread_decides first_thread th).0 q)
    one st false q e = cc

    go : (b : Bool) → (i == 1) ≡ b → value_of equal_thread (cond b (runnable_threads (start p).threads) []) th ≡ Some v → (th ≡ first_thread) × (i ≡ 1)
    go true q e = (one (body_item p (record { 0 = 0 }) [] ∷ []) (equal_thread first_thread th) refl (running_old (start p).threads th v e).0, (nat_decides i 1).0 q)
    go false q e = cc
first_here p n i th (inr (inl (c, listed))) = absurd (nothing th listed)
first_here p n i th (inr (inr k)) = absurd k

first_made : (p : List Stmt) (n : ℕ) (th : ThreadName) (i : ℕ) → IsPlacedAt [] th i → th.num < (initial_site p n th.site).counters.threads
first_made p n th i (e, q) = subst (λ (z : ThreadName). z.num < (initial_site p n z.site).counters.threads) (sym e) (omega arith)

pub placed_in : (p : List Stmt) (n limit : ℕ) (j : List Turn) (f : Sites) → WorldRun p n limit j f → PlacedIn n j f
placed_in p n limit = every_run p n limit (PlacedIn n) (record {
  here = first_here p n;
  early = λ i c r k. absurd (nothing r k);
  sent = λ th m c q. absurd (nothing m c);
  made = first_made p n;
  named = λ some th i a. subst (IsNamedBy n) (sym a.0) (omega arith, some);
  units = tt;
  goes = λ i th g. absurd (nothing g.0 g.1);
  home = record { steps = tt; once = λ th i k a b. a.1 ∙ sym b.1 };
}) (placed_entry p n limit)

pub threads_always_stay_home : ThreadsAlwaysStayHome
threads_always_stay_home p n limit j w run = (placed_in p n limit j w run).home

pub units_are_always_named : UnitsAreAlwaysNamed
units_are_always_named p n limit j w run = (placed_in p n limit j w run).units
