-- Where threads are after a part of a turn: those that stood there, that came, or that were born and stay.
use Rattle.std.proofs.Common.{arith, ◌≡◌, ◌∙◌, ap, refl, subst, ℕ, ◌<◌, ◌≤◌, List, [], ◌∷◌, ◌++◌, ◌⊎◌, inl, inr, Bool, true, false, cond}
use Rattle.std.specs.Prelude.{Some, Contains}
use Rattle.std.proofs.lemmas.List.Elements.{Contains-append_cases}
use Rattle.tree_node.specs.declared.names.CellName.{CellName}
use Rattle.tree_node.specs.declared.names.ThreadName.{ThreadName}
use Rattle.tree_node.specs.declared.pick.Pick.{Pick}
use Rattle.tree_node.proofs.ClassLemmas.{Contains-head, Contains-tail}
use Rattle.site_message.specs.declared.message.Msg.{Msg}
use Rattle.site_message.specs.declared.message.Msg.TheVariants as msg
use Rattle.site_message.specs.declared.message.Sent.{Sent}
use Rattle.bind_protocol.proofs.ListLemmas.{there_counted}
use Rattle.site_model.specs.Site.{Site, ThreadState, HomeRecord, EarlyRequest, thread_state, cell_record, home_record}
use Rattle.site_model.specs.Transition.{Transition, sequence}
use Rattle.world_model.specs.Claims.{home_in}
use Rattle.world_model.proofs.MailLemmas.{nothing}
use Rattle.world_messages.specs.BindRequests.{is_spawn}
use Rattle.world_messages.specs.Messages.{spawns, fresh_in, threads_among}
use Rattle.world_messages.proofs.PickLemmas.{spawned, Quiet, threads_in_both}
use Rattle.world_journals.specs.Places.{home_of}

-- ---- where a thread goes

pub home_later : (i : ℕ) (th : ThreadName) (xs ys : List Sent) → ((m : Sent) → Contains xs m → is_spawn th m ≡ true → ⊥) → home_of i th (xs ++ ys) ≡ home_of i th ys
home_later i th [] ys none = refl
home_later i th (x ∷ xs) ys none = go (is_spawn th x) refl (home_later i th xs ys (λ m c. none m (Contains-tail x m xs c)))
  where
    go : (b : Bool) → is_spawn th x ≡ b → home_of i th (xs ++ ys) ≡ home_of i th ys → cond b x.to (home_of i th (xs ++ ys)) ≡ home_of i th ys
    go true q ih = absurd (none x (Contains-head x xs) q)
    go false q ih = ih

pub home_stays : (i : ℕ) (th : ThreadName) (ys : List Sent) → ((m : Sent) → Contains ys m → is_spawn th m ≡ true → ⊥) → home_of i th ys ≡ i
home_stays i th [] none = refl
home_stays i th (y ∷ ys) none = go (is_spawn th y) refl (home_stays i th ys (λ m c. none m (Contains-tail y m ys c)))
  where
    go : (b : Bool) → is_spawn th y ≡ b → home_of i th ys ≡ i → cond b y.to (home_of i th ys) ≡ i
    go true q ih = absurd (none y (Contains-head y ys) q)
    go false q ih = ih

pub home_before : (i : ℕ) (th : ThreadName) (xs ys : List Sent) → ((m : Sent) → Contains ys m → is_spawn th m ≡ true → ⊥) → home_of i th (xs ++ ys) ≡ home_of i th xs
home_before i th [] ys none = home_stays i th ys none
home_before i th (x ∷ xs) ys none = ap (λ (k : ℕ). cond (is_spawn th x) x.to k) (home_before i th xs ys none)

-- messages of which none is a Spawn
spawn_counts : (th : ThreadName) (m : Msg) (to : ℕ) → is_spawn th (record { to = to; msg = m }) ≡ true → spawns (record { to = to; msg = m }) ≡ true
spawn_counts th (msg.Spawn n code vars bundle) to e = refl
spawn_counts th (msg.Register x k) to e = cc
spawn_counts th (msg.BindReq x n t bundle) to e = cc
spawn_counts th (msg.Binding x t bundle) to e = cc
spawn_counts th (msg.Get c k) to e = cc
spawn_counts th (msg.Forward c k) to e = cc
spawn_counts th (msg.Put c v bundle) to e = cc
spawn_counts th (msg.PortSend q n k) to e = cc
spawn_counts th (msg.PortEnd n old new bundle) to e = cc
spawn_counts th (msg.CellMake c v bundle) to e = cc
spawn_counts th (msg.CellAsk c n k v bundle) to e = cc
spawn_counts th (msg.CellOld n v bundle) to e = cc

pub none_spawned : (ms : List Sent) → spawned ms ≡ 0 → (th : ThreadName) (m : Sent) → Contains ms m → is_spawn th m ≡ true → ⊥
none_spawned ms zero th m c e = absurd (omega (arith, zero, there_counted spawns ms m c (spawn_counts th m.msg m.to e)))

-- ---- a part of a turn

-- the thread stands at the site, is listed for a cell there, or comes
abbrev pub IsHere : (ThreadName → Type 0) → Site → ThreadName → Type 0
IsHere C s th = ((v : ThreadState) × (thread_state s th ≡ Some v)) ⊎ (((c : CellName) × Contains (cell_record s c).queue th) ⊎ C th)

-- site i made the name between these two states
abbrev pub IsNew : ℕ → Site → Site → ThreadName → Type 0
IsNew i old new th = (th.site ≡ i) × (old.counters.threads ≤ th.num) × (th.num < new.counters.threads)

-- it was here, or it is new and stays
abbrev pub Belongs : ℕ → (ThreadName → Type 0) → Site → Transition → ThreadName → Type 0
Belongs i C s d th = IsHere C s th ⊎ (IsNew i s d.site th × (home_of i th d.sent ≡ i))

-- a request that the second site keeps was kept before, is one that comes, or is of a thread that belongs to the site
abbrev pub Keepers : (CellName → ThreadName → Type 0) → (ThreadName → Type 0) → Site → Site → Type 0
Keepers A B s t = (c : CellName) (r : EarlyRequest) → Contains (home_record t c).early r → Contains (home_record s c).early r ⊎ (A c r.thread ⊎ B r.thread)

-- C: who comes; A: requests that come for a cell; Q: the picks that are no own steps
pub record Part (i : ℕ) (C : ThreadName → Type 0) (A : CellName → ThreadName → Type 0) (Q : Pick → Type 0) (s : Site) (d : Transition) : Type 0 where
  pub since : s.counters.threads ≤ d.site.counters.threads
  pub born : (th : ThreadName) → Contains (threads_among (fresh_in d.picks)) th → IsNew i s d.site th
  pub sent : (th : ThreadName) (m : Sent) → Contains d.sent m → is_spawn th m ≡ true → IsNew i s d.site th × (home_of i th d.sent ≡ m.to)
  pub here : (th : ThreadName) → IsHere C d.site th → Belongs i C s d th
  pub picks : (k : Pick) → Contains d.picks k → Q k ⊎ Belongs i C s d k.thread
  pub early : Keepers A (Belongs i C s d) s d.site

pub same_keepers : (A : CellName → ThreadName → Type 0) (B : ThreadName → Type 0) (s t : Site) → t.homes ≡ s.homes → Keepers A B s t
same_keepers A B s t e c r at = inl (subst (λ (hs : List (CellName × HomeRecord)). Contains (home_in hs c).early r) e at)

module _ (i : ℕ) (C : ThreadName → Type 0) (A : CellName → ThreadName → Type 0) (Q : Pick → Type 0) where
  -- a part that makes no name
  pub still_part : (s : Site) (d : Transition) → Quiet s d → threads_among (fresh_in d.picks) ≡ [] → ((th : ThreadName) → IsHere C d.site th → IsHere C s th) → ((k : Pick) → Contains d.picks k → Q k ⊎ IsHere C s k.thread) → Keepers A (IsHere C s) s d.site → Part i C A Q s d
  still_part s d still none here picks early = record {
    since = omega (arith, still.threads);
    born = λ th c. absurd (nothing th (subst (λ (ns : List ThreadName). Contains ns th) none c));
    sent = λ th m c e. absurd (none_spawned d.sent still.sent th m c e);
    here = λ th h. inl (here th h);
    picks = λ k c. by k (picks k c);
    early = λ c r at. kept c r (early c r at);
  }
    where
      kept : (c : CellName) (r : EarlyRequest) → Contains (home_record s c).early r ⊎ (A c r.thread ⊎ IsHere C s r.thread) → Contains (home_record s c).early r ⊎ (A c r.thread ⊎ Belongs i C s d r.thread)
      kept c r (inl k) = inl k
      kept c r (inr (inl k)) = inr (inl k)
      kept c r (inr (inr k)) = inr (inr (inl k))

      by : (k : Pick) → Q k ⊎ IsHere C s k.thread → Q k ⊎ Belongs i C s d k.thread
      by k (inl q) = inl q
      by k (inr h) = inr (inl h)

  module _ (s : Site) (d e : Transition) (h : Part i C A Q s d) (g : Part i C A Q d.site e) where
    low : (th : ThreadName) → IsNew i s d.site th → IsNew i s e.site th
    low th n = (n.0, n.1, omega (arith, n.2, g.since))

    high : (th : ThreadName) → IsNew i d.site e.site th → IsNew i s e.site th
    high th n = (n.0, omega (arith, n.1, h.since), n.2)

    none_after : (th : ThreadName) → th.num < d.site.counters.threads → (m : Sent) → Contains e.sent m → is_spawn th m ≡ true → ⊥
    none_after th below m c q = absurd (omega (arith, below, (g.sent th m c q).0.1))

    none_before : (th : ThreadName) → d.site.counters.threads ≤ th.num → (m : Sent) → Contains d.sent m → is_spawn th m ≡ true → ⊥
    none_before th above m c q = absurd (omega (arith, above, (h.sent th m c q).0.2))

    first : (th : ThreadName) → Belongs i C s d th → Belongs i C s (sequence d e) th
    first th (inl k) = inl k
    first th (inr (n, home)) = inr (low th n, home_before i th d.sent e.sent (none_after th n.2) ∙ home)

    second : (th : ThreadName) → Belongs i C d.site e th → Belongs i C s (sequence d e) th
    second th (inl k) = first th (h.here th k)
    second th (inr (n, home)) = inr (high th n, home_later i th d.sent e.sent (none_before th n.1) ∙ home)

    born : (th : ThreadName) → Contains (threads_among (fresh_in d.picks)) th ⊎ Contains (threads_among (fresh_in e.picks)) th → IsNew i s e.site th
    born th (inl c) = low th (h.born th c)
    born th (inr c) = high th (g.born th c)

    sent : (th : ThreadName) (m : Sent) → is_spawn th m ≡ true → Contains d.sent m ⊎ Contains e.sent m → IsNew i s e.site th × (home_of i th (d.sent ++ e.sent) ≡ m.to)
    sent th m q (inl c) = let k = h.sent th m c q in (low th k.0, home_before i th d.sent e.sent (none_after th k.0.2) ∙ k.1)
    sent th m q (inr c) = let k = g.sent th m c q in (high th k.0, home_later i th d.sent e.sent (none_before th k.0.1) ∙ k.1)

    first_pick : (k : Pick) → Q k ⊎ Belongs i C s d k.thread → Q k ⊎ Belongs i C s (sequence d e) k.thread
    first_pick k (inl q) = inl q
    first_pick k (inr b) = inr (first k.thread b)

    second_pick : (k : Pick) → Q k ⊎ Belongs i C d.site e k.thread → Q k ⊎ Belongs i C s (sequence d e) k.thread
    second_pick k (inl q) = inl q
    second_pick k (inr b) = inr (second k.thread b)

    picks : (k : Pick) → Contains d.picks k ⊎ Contains e.picks k → Q k ⊎ Belongs i C s (sequence d e) k.thread
    picks k (inl c) = first_pick k (h.picks k c)
    picks k (inr c) = second_pick k (g.picks k c)

    kept : (c : CellName) (r : EarlyRequest) → Contains (home_record s c).early r ⊎ (A c r.thread ⊎ Belongs i C s d r.thread) → Contains (home_record s c).early r ⊎ (A c r.thread ⊎ Belongs i C s (sequence d e) r.thread)
    kept c r (inl k) = inl k
    kept c r (inr (inl k)) = inr (inl k)
    kept c r (inr (inr k)) = inr (inr (first r.thread k))

    last : (c : CellName) (r : EarlyRequest) → Contains (home_record d.site c).early r ⊎ (A c r.thread ⊎ Belongs i C d.site e r.thread) → Contains (home_record s c).early r ⊎ (A c r.thread ⊎ Belongs i C s (sequence d e) r.thread)
    last c r (inl k) = kept c r (h.early c r k)
    last c r (inr (inl k)) = inr (inl k)
    last c r (inr (inr k)) = inr (inr (second r.thread k))

    pub belongs_later : (th : ThreadName) → Belongs i C d.site e th → Belongs i C s (sequence d e) th
    belongs_later = second

    pub parts_join : Part i C A Q s (sequence d e)
    parts_join = record {
      since = omega (arith, h.since, g.since);
      born = λ th c. born th (Contains-append_cases (threads_among (fresh_in d.picks)) (threads_among (fresh_in e.picks)) th (subst (λ (ns : List ThreadName). Contains ns th) (threads_in_both d.picks e.picks) c));
      sent = λ th m c q. sent th m q (Contains-append_cases d.sent e.sent m c);
      here = λ th k. second th (g.here th k);
      picks = λ k c. picks k (Contains-append_cases d.picks e.picks k c);
      early = λ c r at. last c r (g.early c r at);
    }
