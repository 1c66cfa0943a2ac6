-- Where threads are after units: those that were there, and those that are born and stay.
use Rattle.std.proofs.Common.{arith, ◌≡◌, ◌∙◌, sym, ap, refl, subst, ℕ, ◌+◌, ◌<◌, ◌≤◌, List, [], ◌∷◌, ◌++◌, append-nil, ◌⊎◌, inl, inr, Bool, true, false, cond, Some, None}
use Rattle.std.specs.Prelude.{Option, Contains, ◌==◌}
use Rattle.std.proofs.lemmas.List.Elements.{Contains-append_cases}
use Rattle.tree_node.specs.declared.names.VarName.{VarName}
use Rattle.tree_node.specs.declared.names.CellName.{CellName}
use Rattle.tree_node.specs.declared.names.ThreadName.{ThreadName}
use Rattle.tree_node.specs.declared.names.Name.{Name}
use Rattle.tree_node.specs.declared.names.NameKind.{NameKind}
use Rattle.tree_node.specs.declared.names.NameKind.TheVariants as kind
use Rattle.tree_node.specs.declared.node.Term.{Term}
use Rattle.tree_node.specs.declared.pick.Pick.{Pick}
use Rattle.tree_node.specs.Assoc.{value_of}
use Rattle.tree_node.specs.State.{Stack, equal_thread}
use Rattle.tree_node.specs.Store.{Equation}
use Rattle.tree_node.proofs.ClassLemmas.{Contains-cons_cases}
use Rattle.tree_node.proofs.NameLemmas.{same_thread_decides}
use Rattle.tree_node.proofs.OrderLemmas.{Each-member}
use Rattle.kernel_syntax.specs.declared.stmt.Stmt.{Stmt}
use Rattle.site_message.specs.declared.message.Msg.{Msg}
use Rattle.site_message.specs.declared.message.Msg.TheVariants as msg
use Rattle.site_message.specs.declared.message.Sent.{Sent}
use Rattle.oz_model.specs.Need.{Need, Waits, WaitsAny, Binds, Takes, stack_need}
use Rattle.oz_model.specs.Effect.{Birth, CellChange, Stays, Made, Exchanged, PortChange, Keeps, Opened, Effect}
use Rattle.oz_model.specs.Effect as change
use Rattle.oz_model.specs.Step.{living_stack, threads_born}
use Rattle.bind_protocol.specs.Rows.{sent_message, request}
use Rattle.thread_roster.specs.declared.mode.Awaited.{Awaited}
use Rattle.thread_roster.specs.declared.mode.Awaited.TheVariants.{Cell, Port}
use Rattle.thread_roster.specs.declared.mode.Mode.TheVariants.{Runs, WaitsFor}
use Rattle.thread_roster.specs.declared.mode.Mode.TheVariants as mode
use Rattle.thread_roster.specs.Binds.{goes_on}
use Rattle.token_chain.specs.declared.token.Token.{Token}
use Rattle.token_chain.specs.declared.token.Token.TheVariants.{Away, Asked, Here}
use Rattle.site_model.specs.Requests.{with_asking, send_request_row, home_request_row, early_request_row}
use Rattle.site_model.specs.Site.{Site, Counters, CellRecord, HomeRecord, EarlyRequest, Threads, ThreadState, thread_state, cell_record, cell_record_in, home_record, with_home_record, runnable_threads}
use Rattle.site_model.specs.Bundle.{with_own_bundle}
use Rattle.site_model.specs.Transition.{Transition, sequence, without_output, with_messages}
use Rattle.site_model.specs.Variables.{own_binds}
use Rattle.site_model.specs.Cells.{exchange_stack, with_own_request, with_exchange_waiting, with_last_asker, request_row}
use Rattle.site_model.specs.Messages.{with_thread}
use Rattle.site_model.specs.Unit.{next_names, counter_after, counters_after, fresh_names, with_fresh_names, placement, birth_row, content_here, after_cell, runnable_state, after_effect, step_row, step_pick, effect_here, thread_step, kept_step, kept_step_row, kept_stack, with_stack, after_home_cell, after_port, bind_attempt, IsUnitFor, with_mode}
use Rattle.site_model.specs.Turn.{AreUnits, SiteTurn, SiteTurnOf}
use Rattle.world_model.proofs.CellLemmas.{OnlyCells, request_only}
use Rattle.world_model.specs.Claims.{home_in}
use Rattle.world_model.proofs.MailLemmas.{nothing}
use Rattle.world_messages.specs.BindRequests.{is_spawn}
use Rattle.world_messages.specs.Messages.{fresh_in, threads_among}
use Rattle.world_messages.proofs.AskRowLemmas.{NewBirth, stack_new, more_threads, runs_stay, made_stay, cell_threads}
use Rattle.world_messages.proofs.DeedLemmas.{unit_tally}
use Rattle.world_messages.proofs.EffectLemmas.{bind_effect}
use Rattle.world_messages.proofs.HomeRowLemmas.{Apart, kept_before, kept_apart, kept_site, kept_picks, tell_each}
use Rattle.world_messages.proofs.PickLemmas.{asks_still, quiet_still, binds_each_still, heard_site}
use Rattle.world_messages.proofs.TermLemmas.{value_cases}
use Rattle.world_messages.proofs.WayLemmas.{Way, Steps, Opens, Sends, Makes, Exchanges, AsksToken, AsksPort, AsksHome, WaitsEarly, WaitsPort, way_of}
use Rattle.world_journals.specs.Places.{home_of}
use Rattle.world_journals.proofs.PartPlaceLemmas.{home_later, none_spawned, IsHere, Belongs, Keepers, same_keepers, Part, still_part, parts_join, belongs_later}
use Rattle.world_journals.proofs.HeardLemmas.{listed_cases, born_name, Keeps as Stay, moves, goes, replies, wakes, Loses, content_loses, made_loses, early_comes, IsAsked, AllBrought, AllComes, HeardPart, heard_part}

-- ---- names

-- the fresh names of threads are of site i, from its counter on
fresh_range : (i : ℕ) (c : Counters) (kinds : List NameKind) (th : ThreadName) → Contains (threads_among (next_names i c kinds)) th → (th.site ≡ i) × (c.threads ≤ th.num) × (th.num < (counters_after c kinds).threads)
fresh_range i c [] th h = absurd (nothing th h)
fresh_range i c (kind.Var ∷ ks) th h = fresh_range i (counter_after c kind.Var) ks th h
fresh_range i c (kind.Cell ∷ ks) th h = fresh_range i (counter_after c kind.Cell) ks th h
fresh_range i c ((kind.CellAt at_home) ∷ ks) th h = fresh_range i (counter_after c (kind.CellAt at_home)) ks th h
fresh_range i c (kind.Proc ∷ ks) th h = fresh_range i (counter_after c kind.Proc) ks th h
fresh_range i c (kind.Port ∷ ks) th h = fresh_range i (counter_after c kind.Port) ks th h
fresh_range i c (kind.Thread ∷ ks) th h = go (Contains-cons_cases (record { site = i; num = c.threads }) th (threads_among (next_names i (counter_after c kind.Thread) ks)) h) (λ k. fresh_range i (counter_after c kind.Thread) ks th k)
  where
    above : (d : Counters) (ls : List NameKind) → d.threads ≤ (counters_after d ls).threads
    above d [] = omega arith
    above d (kind.Var ∷ ls) = above (counter_after d kind.Var) ls
    above d (kind.Cell ∷ ls) = above (counter_after d kind.Cell) ls
    above d ((kind.CellAt at_home) ∷ ls) = above (counter_after d (kind.CellAt at_home)) ls
    above d (kind.Proc ∷ ls) = above (counter_after d kind.Proc) ls
    above d (kind.Port ∷ ls) = above (counter_after d kind.Port) ls
    above d (kind.Thread ∷ ls) = omega (arith, above (counter_after d kind.Thread) ls)

    go : (◌≡◌ {A = ThreadName} (record { site = i; num = c.threads }) th) ⊎ Contains (threads_among (next_names i (counter_after c kind.Thread) ks)) th →
        (Contains (threads_among (next_names i (counter_after c kind.Thread) ks)) th → (th.site ≡ i) × (c.threads + 1 ≤ th.num) × (th.num < (counters_after (counter_after c kind.Thread) ks).threads)) →
        (th.site ≡ i) × (c.threads ≤ th.num) × (th.num < (counters_after (counter_after c kind.Thread) ks).threads)
    go (inl e) ih =
        let num : c.threads ≡ th.num = ap (λ (z : ThreadName). z.num) e in
        (sym (ap (λ (z : ThreadName). z.site) e), omega (arith, num), omega (arith, num, above (counter_after c kind.Thread) ks))
    go (inr k) ih = let r = ih k in (r.0, omega (arith, r.1), r.2)

module _ (p : List Stmt) (n limit i : ℕ) (C : ThreadName → Type 0) (A : CellName → ThreadName → Type 0) (Q : Pick → Type 0) where
  -- ---- a request for a token

  own_places : (c : CellName) (t : Token) (u : Site) → (with_own_request c t u).cell_records ≡ u.cell_records
  own_places c Away u = go (c.site == u.records.site)
    where
      go : (b : Bool) → (cond b (with_last_asker c u.records.site u) u).cell_records ≡ u.cell_records
      go true = refl
      go false = refl
  own_places c Asked u = refl
  own_places c (Here v) u = refl

  pub own_homes : (c : CellName) (t : Token) (u : Site) → (with_own_request c t u).homes ≡ u.homes
  own_homes c Away u = go (c.site == u.records.site)
    where
      go : (b : Bool) → (cond b (with_last_asker c u.records.site u) u).homes ≡ u.homes
      go true = refl
      go false = refl
  own_homes c Asked u = refl
  own_homes c (Here v) u = refl

  -- the requests that are kept stay
  stay : (s t : Site) → t.homes ≡ s.homes → Keepers A (IsHere C s) s t
  stay s t e = same_keepers A (IsHere C s) s t e

  request_part : (c : CellName) (new : VarName) (th : ThreadName) (st : Stack) (s : Site) → thread_state s th ≡ Some (st, Runs) → Part i C A Q s (request_row limit c new th st s)
  request_part c new th st s at = still_part i C A Q s (request_row limit c new th st s) (quiet_still s (request_row limit c new th st s) (asks_still p n limit c new th st s)) (ap (λ (ks : List Pick). threads_among (fresh_in ks)) only.picks)
      (moves C s (request_row limit c new th st s).site stand listed) (λ k h. absurd (nothing k (subst (λ (ks : List Pick). Contains ks k) only.picks h)))
      (stay s (request_row limit c new th st s).site (own_homes c (cell_record s c).held.token (with_exchange_waiting c th st s)))
    where
      only : OnlyCells (with_exchange_waiting c th st s) (request_row limit c new th st s)
      only = request_only limit c new th st s

      stand : (o : ThreadName) (v : ThreadState) → thread_state (request_row limit c new th st s).site o ≡ Some v → IsHere C s o
      stand o v e = goes C s (with_exchange_waiting c th st s) th (st, Runs) (Some (st, WaitsFor (Cell c))) refl refl at o (inl (v, subst (λ (ts : Threads). value_of equal_thread ts o ≡ Some v) only.threads e))

      member : (o : ThreadName) → Contains (cell_record s c).queue o ⊎ Contains (th ∷ []) o → IsHere C s o
      member o (inl h) = inr (inl (c, h))
      member o (inr h) = by (Contains-cons_cases th o [] h)
        where
          by : (th ≡ o) ⊎ Contains [] o → IsHere C s o
          by (inl e) = subst (IsHere C s) e (inl ((st, Runs), at))
          by (inr k) = absurd (nothing o k)

      listed : (d : CellName) (o : ThreadName) → Contains (cell_record (request_row limit c new th st s).site d).queue o → IsHere C s o
      listed d o h = by (listed_cases (with_own_request c (cell_record s c).held.token (with_exchange_waiting c th st s)).cell_records c d _ o h)
        where
          by : Contains ((cell_record s c).queue ++ th ∷ []) o ⊎ Contains (cell_record_in (with_own_request c (cell_record s c).held.token (with_exchange_waiting c th st s)).cell_records d).queue o → IsHere C s o
          by (inl k) = member o (Contains-append_cases (cell_record s c).queue (th ∷ []) o k)
          by (inr k) = inr (inl (d, subst (λ (qs : List (CellName × CellRecord)). Contains (cell_record_in qs d).queue o) (own_places c (cell_record s c).held.token (with_exchange_waiting c th st s)) k))

  -- ---- a thread waits for a variable

  waits_keep : (th : ThreadName) (st : Stack) (x : VarName) (s : Site) → thread_state s th ≡ Some (st, Runs) → Stay C s (with_mode th st (mode.Waits x) s)
  waits_keep th st x s at = goes C s (with_mode th st (mode.Waits x) s) th (st, Runs) (Some (st, mode.Waits x)) refl refl at

  needs_part : (th : ThreadName) (st : Stack) (x : VarName) (s : Site) → thread_state s th ≡ Some (st, Runs) → Part i C A Q s (without_output (with_mode th st (mode.Needs x) s))
  needs_part th st x s at = still_part i C A Q s (without_output (with_mode th st (mode.Needs x) s)) (record { threads = refl; sent = refl }) refl (goes C s (with_mode th st (mode.Needs x) s) th (st, Runs) (Some (st, mode.Needs x)) refl refl at) (λ k h. absurd (nothing k h)) (λ c r q. inl q)

  waits_any_part : (th : ThreadName) (st : Stack) (xs : List VarName) (s : Site) → thread_state s th ≡ Some (st, Runs) → Part i C A Q s (without_output (with_mode th st (mode.WaitsAny xs) s))
  waits_any_part th st xs s at = still_part i C A Q s (without_output (with_mode th st (mode.WaitsAny xs) s)) (record { threads = refl; sent = refl }) refl (goes C s (with_mode th st (mode.WaitsAny xs) s) th (st, Runs) (Some (st, mode.WaitsAny xs)) refl refl at) (λ k h. absurd (nothing k h)) (λ c r q. inl q)

  asks_part : (th : ThreadName) (st : Stack) (u : VarName) (t : Term) (s : Site) → thread_state s th ≡ Some (st, Runs) → Part i C A Q s (with_messages (with_mode th st (mode.Waits u) s) (with_own_bundle limit s.equations (request u t th) ∷ []))
  asks_part th st u t s at = still_part i C A Q s (with_messages (with_mode th st (mode.Waits u) s) (with_own_bundle limit s.equations (request u t th) ∷ [])) (record { threads = refl; sent = refl }) refl (waits_keep th st u s at) (λ k h. absurd (nothing k h)) (λ c r q. inl q)

  -- ---- a thread is born

  -- N holds of the name of a new thread
  record Bears (N : ThreadName → Type 0) (s : Site) (d : Transition) : Type 0 where
    counters : d.site.counters ≡ s.counters
    picks : d.picks ≡ []
    sent : (th : ThreadName) (m : Sent) → Contains d.sent m → is_spawn th m ≡ true → N th × (home_of i th d.sent ≡ m.to)
    here : (th : ThreadName) → IsHere C d.site th → IsHere C s th ⊎ (N th × (home_of i th d.sent ≡ i))

  -- the message by which a new thread leaves
  abbrev leaves : Birth → Site → Sent
  leaves b s = with_own_bundle limit s.equations (sent_message (placement n s.records.site b.at) (msg.Spawn b.name b.code b.vars []))

  abbrev OfBirth : (ThreadName → Type 0) → Option Birth → Type 0
  OfBirth N None = Unit {0}
  OfBirth N (Some b) = N b.name

  bears : (N : ThreadName → Type 0) (b : Option Birth) (s : Site) → OfBirth N b → Bears N s (birth_row p n limit b s)
  bears N None s new = record { counters = refl; picks = refl; sent = λ th m c e. absurd (nothing m c); here = λ th h. inl h }
  bears N (Some b) s new = go (placement n s.records.site b.at == s.records.site)
    where
      one : (th : ThreadName) (m : Sent) → is_spawn th m ≡ true → (leaves b s ≡ m) ⊎ Contains [] m → N th × (home_of i th (leaves b s ∷ []) ≡ m.to)
      one th m e (inr k) = absurd (nothing m k)
      one th m e (inl q) =
          let yes : equal_thread th b.name ≡ true = subst (λ (z : Sent). is_spawn th z ≡ true) (sym q) e in
          (subst N (sym ((same_thread_decides th b.name).0 yes)) new, rw yes (ap (λ (z : Sent). z.to) q))

      born : (th : ThreadName) (v : ThreadState) → (value_of equal_thread (runnable_threads (threads_born p (Some b))) th ≡ Some v) ⊎ (value_of equal_thread s.threads th ≡ Some v) → IsHere C s th ⊎ (N th × (i ≡ i))
      born th v (inl k) = inr (subst N (born_name p b th v k) new, refl)
      born th v (inr k) = inl (inl (v, k))

      here : (th : ThreadName) → IsHere C (with_thread p (Some b) s) th → IsHere C s th ⊎ (N th × (i ≡ i))
      here th (inl (v, at)) = born th v (value_cases (runnable_threads (threads_born p (Some b))) s.threads th v at)
      here th (inr h) = inl (inr h)

      go : (c : Bool) → Bears N s (cond c (without_output (with_thread p (Some b) s)) (with_messages s (leaves b s ∷ [])))
      go true = record { counters = refl; picks = refl; sent = λ th m c e. absurd (nothing m c); here = here }
      go false = record { counters = refl; picks = refl; sent = λ th m c e. one th m e (Contains-cons_cases (leaves b s) m [] c); here = λ th h. inl h }

  -- ---- a step

  binds_keep : (es : List Equation) (s : Site) → Stay C s (own_binds limit es s).site
  binds_keep [] s th h = h
  binds_keep (e ∷ es) s th h = binds_keep es s th (wakes C (own_binds limit es s).site (own_binds limit (e ∷ es) s).site (goes_on (e ∷ (own_binds limit es s).site.equations) e.0) refl refl th h)

  binds_pick : (es : List Equation) (s : Site) → (own_binds limit es s).picks ≡ []
  binds_pick [] s = refl
  binds_pick (e ∷ es) s = ap (λ (ks : List Pick). ks ++ []) (binds_pick es s)

  cell_keeps : (c : CellChange) (s : Site) → Stay C s (after_cell c s)
  cell_keeps Stays s th h = h
  cell_keeps (Made c v) s th h = replies C s c _ (λ o k. absurd (nothing o k)) th h
  cell_keeps (Exchanged c new told) s th h = replies C s c _ (λ o k. inr (inl (c, k))) th h

  pub binds_homes : (es : List Equation) (s : Site) → (own_binds limit es s).site.homes ≡ s.homes
  binds_homes [] s = refl
  binds_homes (e ∷ es) s = binds_homes es s

  pub cell_homes : (c : CellChange) (s : Site) → (after_cell c s).homes ≡ s.homes
  cell_homes Stays s = refl
  cell_homes (Made c v) s = refl
  cell_homes (Exchanged c new told) s = refl

  pub birth_homes : (b : Option Birth) (s : Site) → (birth_row p n limit b s).site.homes ≡ s.homes
  birth_homes None s = refl
  birth_homes (Some b) s = go (placement n s.records.site b.at == s.records.site)
    where
      go : (c : Bool) → (cond c (without_output (with_thread p (Some b) s)) (with_messages s (leaves b s ∷ []))).site.homes ≡ s.homes
      go true = refl
      go false = refl

  module _ (k : Pick) (kinds : List NameKind) (e : Effect) (s : Site) (st : Stack) (fresh : k.fresh ≡ next_names i s.counters kinds) (at : thread_state s k.thread ≡ Some (st, Runs))
      (new : NewBirth p n limit i s.counters (with_fresh_names kinds s).counters e.born) where
    abbrev begun : Transition
    begun = own_binds limit e.adds (with_fresh_names kinds s)

    abbrev done : Site
    done = after_effect k.thread e begun.site

    abbrev step : Transition
    step = step_row p n limit k kinds e s

    abbrev Fresh : ThreadName → Type 0
    Fresh th = (th.site ≡ i) × (s.counters.threads ≤ th.num) × (th.num < (counters_after s.counters kinds).threads)

    of_birth : (b : Option Birth) → NewBirth p n limit i s.counters (with_fresh_names kinds s).counters b → OfBirth Fresh b
    of_birth None h = tt
    of_birth (Some b) h = h

    born : Bears Fresh done (birth_row p n limit e.born done)
    born = bears Fresh e.born done (of_birth e.born new)

    counted : step.site.counters ≡ counters_after s.counters kinds
    counted = born.counters ∙ (cell_threads p n limit e.cell begun.site).2 ∙ made_stay p n limit e.adds (with_fresh_names kinds s)

    keeps : Stay C s done
    keeps th h = binds_keep e.adds (with_fresh_names kinds s) th (cell_keeps e.cell begun.site th (stand th h))
      where
        stood : thread_state (after_cell e.cell begun.site) k.thread ≡ Some (st, Runs)
        stood = subst (λ (ts : Threads). value_of equal_thread ts k.thread ≡ Some (st, Runs)) (sym (cell_threads p n limit e.cell begun.site).0) (runs_stay p n limit e.adds (with_fresh_names kinds s) k.thread st at)

        stand : Stay C (after_cell e.cell begun.site) done
        stand = goes C (after_cell e.cell begun.site) done k.thread (st, Runs) (runnable_state (living_stack (exchange_stack (content_here begun.site e.cell) e.cell e.stack))) refl refl stood

    picked : step.picks ≡ k ∷ []
    picked = ap (λ (ks : List Pick). ((k ∷ ks) ++ []) ++ (birth_row p n limit e.born done).picks) (binds_pick e.adds (with_fresh_names kinds s)) ∙ ap (λ (ks : List Pick). k ∷ ks) born.picks

    quiet : (th : ThreadName) (m : Sent) → Contains (begun.sent ++ []) m → is_spawn th m ≡ true → ⊥
    quiet th m c q = by (Contains-append_cases begun.sent [] m c)
      where
        by : Contains begun.sent m ⊎ Contains [] m → ⊥
        by (inl h) = none_spawned begun.sent (binds_each_still p n limit e.adds (with_fresh_names kinds s)).sent th m h q
        by (inr h) = nothing m h

    lives : (th : ThreadName) → Fresh th → (th.site ≡ i) × (s.counters.threads ≤ th.num) × (th.num < step.site.counters.threads)
    lives th f = (f.0, f.1, subst (λ (c : Counters). th.num < c.threads) (sym counted) f.2)

    sent_by : (th : ThreadName) (m : Sent) → is_spawn th m ≡ true → Contains (begun.sent ++ []) m ⊎ Contains (birth_row p n limit e.born done).sent m → ((th.site ≡ i) × (s.counters.threads ≤ th.num) × (th.num < step.site.counters.threads)) × (home_of i th step.sent ≡ m.to)
    sent_by th m q (inl c) = absurd (quiet th m c q)
    sent_by th m q (inr c) = let r = born.sent th m c q in (lives th r.0, home_later i th (begun.sent ++ []) (birth_row p n limit e.born done).sent (quiet th) ∙ r.1)

    here_by : (th : ThreadName) → IsHere C done th ⊎ (Fresh th × (home_of i th (birth_row p n limit e.born done).sent ≡ i)) → Belongs i C s step th
    here_by th (inl h) = inl (keeps th h)
    here_by th (inr (f, home)) = inr (lives th f, home_later i th (begun.sent ++ []) (birth_row p n limit e.born done).sent (quiet th) ∙ home)

    pick_by : (l : Pick) → (k ≡ l) ⊎ Contains [] l → Q l ⊎ Belongs i C s step l.thread
    pick_by l (inl same) = subst (λ (o : Pick). Q o ⊎ Belongs i C s step o.thread) same (inr (inl (inl ((st, Runs), at))))
    pick_by l (inr h) = absurd (nothing l h)

    fresh_by : (th : ThreadName) → Contains (threads_among (k.fresh ++ [])) th → (th.site ≡ i) × (s.counters.threads ≤ th.num) × (th.num < step.site.counters.threads)
    fresh_by th c = lives th (fresh_range i s.counters kinds th (subst (λ (ns : List Name). Contains (threads_among ns) th) (no_more k.fresh ∙ fresh) c))
      where
        no_more : {X : Type 0} (xs : List X) → xs ++ [] ≡ xs
        no_more [] = refl
        no_more (x ∷ xs) = ap (λ ys. x ∷ ys) (no_more xs)

    pub steps_part : Part i C A Q s step
    steps_part = record {
      since = omega (arith, more_threads p n limit s.counters kinds, ap (λ (c : Counters). c.threads) counted);
      born = λ th c. fresh_by th (subst (λ (ks : List Pick). Contains (threads_among (fresh_in ks)) th) picked c);
      sent = λ th m c q. sent_by th m q (Contains-append_cases (begun.sent ++ []) (birth_row p n limit e.born done).sent m c);
      here = λ th h. here_by th (born.here th h);
      picks = λ l c. pick_by l (Contains-cons_cases k l [] (subst (λ (ks : List Pick). Contains ks l) picked c));
      early = same_keepers A (Belongs i C s step) s step.site (birth_homes e.born done ∙ cell_homes e.cell begun.site ∙ binds_homes e.adds (with_fresh_names kinds s));
    }

  -- ---- units

  bind_part : (s : Site) (th : ThreadName) (st : Stack) (a b : Term) (u : VarName) (t : Term) (c : Bool) → thread_state s th ≡ Some (st, Runs) → stack_need p s.equations st ≡ Binds a b → Part i C A Q s (bind_attempt p n limit th st u t c s)
  bind_part s th st a b u t true at need =
      steps_part (step_pick th [] (Some (u, t))) [] (effect_here p s [] (Some (u, t)) st) s st refl at (subst (λ (e : Effect). NewBirth p n limit i s.counters s.counters e.born) (sym (bind_effect p s.equations st a b u t need)) tt)
  bind_part s th st a b u t false at need = asks_part th st u t s at

  -- ---- ports and stationary cells

  -- a thread asks another site, or waits
  asking_keeps : (th : ThreadName) (st : Stack) (a : Awaited) (s : Site) → thread_state s th ≡ Some (st, Runs) → Stay C s (with_asking th st a s)
  asking_keeps th st a s at = goes C s (with_asking th st a s) th (st, Runs) (Some (st, WaitsFor a)) refl refl at

  early_part : (c : CellName) (new : VarName) (th : ThreadName) (st : Stack) (s : Site) → thread_state s th ≡ Some (st, Runs) → Part i C A Q s (early_request_row c new th st s)
  early_part c new th st s at = still_part i C A Q s (early_request_row c new th st s) (record { threads = refl; sent = refl }) refl (asking_keeps th st (Cell c) s at) (λ k h. absurd (nothing k h)) (λ d r q. by d r (early_comes C p limit c mine (with_asking th st (Cell c) s) d r q))
    where
      mine : EarlyRequest
      mine = record { thread = th; asking = s.records.site; new = new }

      by : (d : CellName) (r : EarlyRequest) → ((d ≡ c) × (◌≡◌ {A = EarlyRequest} (record { thread = th; asking = s.records.site; new = new }) r)) ⊎ Contains (home_record s d).early r → Contains (home_record s d).early r ⊎ (A d r.thread ⊎ IsHere C s r.thread)
      by d r (inl (e, q)) = inr (inr (subst (λ (o : ThreadName). IsHere C s o) (ap (λ (o : EarlyRequest). o.thread) q) (inl ((st, Runs), at))))
      by d r (inr q) = inl q

  home_cell_loses : (c : CellChange) (s : Site) → Loses C p limit s (after_home_cell c s)
  home_cell_loses Stays s d r q = q
  home_cell_loses (Exchanged c new told) s d r q = content_loses C p limit c new s d r q
  home_cell_loses (Made c v) s d r q = go (c.at == s.records.site) q
    where
      go : (b : Bool) → Contains (home_record (cond b (with_home_record s c (record { content = Some v; early = [] })) s) d).early r → Contains (home_record s d).early r
      go true h = made_loses C p limit c v s d r h
      go false h = h

  pub port_loses : (x : PortChange) (s : Site) → (after_port x s).homes ≡ s.homes
  port_loses Keeps s = refl
  port_loses (Opened q end) s = refl
  port_loses (change.Sent q value new) s = refl

  kept_part : (k : Pick) (kinds : List NameKind) (e : Effect) (s : Site) (st : Stack) → k.fresh ≡ next_names i s.counters kinds → thread_state s k.thread ≡ Some (st, Runs) → Part i C A Q s (kept_step_row limit k kinds e s)
  kept_part k kinds e s st fresh at = record {
    since = omega (arith, more_threads p n limit s.counters kinds, ap (λ (c : Counters). c.threads) counted);
    born = λ th c. fresh_by th (subst (λ (ks : List Pick). Contains (threads_among (fresh_in ks)) th) (kept_picks limit k kinds e s) c);
    sent = λ th m c q. absurd (unsent th m c q);
    here = λ th h. inl (back th (subst (λ (t : Site). IsHere C t th) (kept_site limit k kinds e s) h));
    picks = λ l c. pick_by l (Contains-cons_cases k l [] (subst (λ (ks : List Pick). Contains ks l) (kept_picks limit k kinds e s) c));
    early = λ d r q. inl (loses d r (subst (λ (t : Site). Contains (home_record t d).early r) (kept_site limit k kinds e s) q));
  }
    where
      apart : Apart (with_fresh_names kinds s) (kept_before kinds e s)
      apart = kept_apart kinds e s

      counted : (kept_step_row limit k kinds e s).site.counters ≡ counters_after s.counters kinds
      counted = ap (λ (t : Site). t.counters) (kept_site limit k kinds e s) ∙ apart.rest.counters

      fresh_by : (th : ThreadName) → Contains (threads_among (k.fresh ++ [])) th → (th.site ≡ i) × (s.counters.threads ≤ th.num) × (th.num < (kept_step_row limit k kinds e s).site.counters.threads)
      fresh_by th c =
          let f = fresh_range i s.counters kinds th (subst (λ (ns : List Name). Contains (threads_among ns) th) (append-nil k.fresh ∙ fresh) c) in
          (f.0, f.1, subst (λ (x : Counters). th.num < x.threads) (sym counted) f.2)

      unsent : (th : ThreadName) (m : Sent) → Contains (kept_step_row limit k kinds e s).sent m → is_spawn th m ≡ true → ⊥
      unsent th m c q =
          let none : is_spawn th m ≡ false = Each-member (λ (o : Sent). is_spawn th o ≡ false) (kept_step_row limit k kinds e s).sent m (tell_each (λ (o : Sent). is_spawn th o ≡ false) limit e.cell (with_stack k.thread (kept_stack s e) (kept_before kinds e s)) (λ b v is other. refl)) c in
          let both : true ≡ false = sym q ∙ none in cc

      stood : thread_state (kept_before kinds e s) k.thread ≡ Some (st, Runs)
      stood = subst (λ (ts : Threads). value_of equal_thread ts k.thread ≡ Some (st, Runs)) (sym apart.threads) at

      -- who is here was here
      before : (th : ThreadName) → IsHere C (kept_before kinds e s) th → IsHere C s th
      before th (inl (v, q)) = inl (v, subst (λ (ts : Threads). value_of equal_thread ts th ≡ Some v) apart.threads q)
      before th (inr (inl (c, q))) = inr (inl (c, subst (λ (qs : List (CellName × CellRecord)). Contains (cell_record_in qs c).queue th) apart.rest.places q))
      before th (inr (inr q)) = inr (inr q)

      back : (th : ThreadName) → IsHere C (with_stack k.thread (kept_stack s e) (kept_before kinds e s)) th → IsHere C s th
      back th h = before th (goes C (kept_before kinds e s) (with_stack k.thread (kept_stack s e) (kept_before kinds e s)) k.thread (st, Runs) (runnable_state (living_stack (kept_stack s e))) refl refl stood th h)

      pick_by : (l : Pick) → (k ≡ l) ⊎ Contains [] l → Q l ⊎ Belongs i C s (kept_step_row limit k kinds e s) l.thread
      pick_by l (inl same) = subst (λ (o : Pick). Q o ⊎ Belongs i C s (kept_step_row limit k kinds e s) o.thread) same (inr (inl (inl ((st, Runs), at))))
      pick_by l (inr h) = absurd (nothing l h)

      loses : (d : CellName) (r : EarlyRequest) → Contains (home_record (kept_before kinds e s) d).early r → Contains (home_record s d).early r
      loses d r q = home_cell_loses e.cell (with_fresh_names kinds s) d r (subst (λ (hs : List (CellName × HomeRecord)). Contains (home_in hs d).early r) (port_loses e.port (after_home_cell e.cell (with_fresh_names kinds s))) q)

  way_part : (th : ThreadName) (st : Stack) (s : Site) (whole kept : Transition) (e : Effect) (d : Transition) → thread_state s th ≡ Some (st, Runs) → Part i C A Q s whole → Part i C A Q s kept → Way limit th st s whole kept e d → Part i C A Q s d
  way_part th st s whole kept e d at k g (Steps finds same) = subst (Part i C A Q s) (sym same) k
  way_part th st s whole kept e d at k g (Opens q end is same) = subst (Part i C A Q s) (sym same) g
  way_part th st s whole kept e d at k g (Sends q value new end is has same) = subst (Part i C A Q s) (sym same) g
  way_part th st s whole kept e d at k g (Makes c v alone is same) = subst (Part i C A Q s) (sym same) g
  way_part th st s whole kept e d at k g (Exchanges c new told v alone is has same) = subst (Part i C A Q s) (sym same) g
  way_part th st s whole kept e d at k g (AsksToken c new none same) = subst (Part i C A Q s) (sym same) (request_part c new th st s at)
  way_part th st s whole kept e d at k g (AsksPort q other same) = subst (Part i C A Q s) (sym same) (still_part i C A Q s (send_request_row limit q th st s) (record { threads = refl; sent = refl }) refl (asking_keeps th st (Port q) s at) (λ l h. absurd (nothing l h)) (λ c r x. inl x))
  way_part th st s whole kept e d at k g (AsksHome c new told is other same) = subst (Part i C A Q s) (sym same) (still_part i C A Q s (home_request_row limit c new th st s) (record { threads = refl; sent = refl }) refl (asking_keeps th st (Cell c) s at) (λ l h. absurd (nothing l h)) (λ b r x. inl x))
  way_part th st s whole kept e d at k g (WaitsEarly c new told is same) = subst (Part i C A Q s) (sym same) (early_part c new th st s at)
  way_part th st s whole kept e d at k g (WaitsPort q same) = subst (Part i C A Q s) (sym same) (still_part i C A Q s (without_output (with_asking th st (Port q) s)) (record { threads = refl; sent = refl }) refl (asking_keeps th st (Port q) s at) (λ l h. absurd (nothing l h)) (λ c r x. inl x))

  pub need_part : (s : Site) (th : ThreadName) (st : Stack) (need : Need) (d : Transition) → s.records.site ≡ i → thread_state s th ≡ Some (st, Runs) → stack_need p s.equations st ≡ need → IsUnitFor p n limit s th st need d → Part i C A Q s d
  need_part s th st (Waits x) d own at e (z, names, g) = subst (Part i C A Q s) (sym g) (needs_part th st z s at)
  need_part s th st (WaitsAny q) d own at e (xs, open_on, g) = subst (Part i C A Q s) (sym g) (waits_any_part th st xs s at)
  need_part s th st (Binds a b) d own at e (u, t, root, g) = subst (Part i C A Q s) (sym g) (bind_part s th st a b u t (u.site == s.records.site) at e)
  need_part s th st (Takes kinds) d own at e g =
      way_part th st s (thread_step p n limit th st kinds (fresh_names s kinds) None s) (kept_step p limit th st kinds (fresh_names s kinds) s) (effect_here p s (fresh_names s kinds) None st) d at
      (steps_part (step_pick th (fresh_names s kinds) None) kinds (effect_here p s (fresh_names s kinds) None st) s st (ap (λ (k : ℕ). next_names k s.counters kinds) own) at
      (subst (λ (k : ℕ). NewBirth p n limit k s.counters (with_fresh_names kinds s).counters (effect_here p s (fresh_names s kinds) None st).born) own (stack_new p n limit s.records.site s.counters s.equations st kinds e)))
      (kept_part (step_pick th (fresh_names s kinds) None) kinds (effect_here p s (fresh_names s kinds) None st) s st (ap (λ (k : ℕ). next_names k s.counters kinds) own) at)
      (way_of limit th st s (thread_step p n limit th st kinds (fresh_names s kinds) None s) (kept_step p limit th st kinds (fresh_names s kinds) s) (effect_here p s (fresh_names s kinds) None st) d g)

  pub units_part : (ths : List ThreadName) (s : Site) (d : Transition) → s.records.site ≡ i → AreUnits p n limit ths s d → Part i C A Q s d
  units_part [] s d own e = subst (Part i C A Q s) (sym e) (still_part i C A Q s (without_output s) (record { threads = refl; sent = refl }) refl (λ th h. h) (λ k h. absurd (nothing k h)) (λ c r q. inl q))
  units_part (th ∷ ths) s d own (one, rest, unit, units, e) =
      let first : Part i C A Q s one = need_part s th unit.0 (stack_need p s.equations unit.0) one own unit.1 refl unit.2 in
      let number : one.site.records.site ≡ i = (unit_tally p n limit th s one unit).counts.site ∙ own in
      subst (Part i C A Q s) (sym e) (parts_join i C A Q s one rest first (units_part ths one.site rest number units))

  -- who has a unit was here, or is new and stays
  pub units_belong : (ths : List ThreadName) (s : Site) (d : Transition) → s.records.site ≡ i → AreUnits p n limit ths s d → (th : ThreadName) → Contains ths th → Belongs i C s d th
  units_belong [] s d own e th h = absurd (nothing th h)
  units_belong (x ∷ ths) s d own (one, rest, unit, units, e) th h =
      let later : one.site.records.site ≡ i = (unit_tally p n limit x s one unit).counts.site ∙ own in
      subst (λ (t : Transition). Belongs i C s t th) (sym e) (go (Contains-cons_cases x th ths h) (λ k. units_belong ths one.site rest later units th k))
    where
      first : Part i C A Q s one
      first = need_part s x unit.0 (stack_need p s.equations unit.0) one own unit.1 refl unit.2

      number : one.site.records.site ≡ i
      number = (unit_tally p n limit x s one unit).counts.site ∙ own

      go : (x ≡ th) ⊎ Contains ths th → (Contains ths th → Belongs i C one.site rest th) → Belongs i C s (sequence one rest) th
      go (inl same) ih = inl (inl (subst (λ (z : ThreadName). (v : ThreadState) × (thread_state s z ≡ Some v)) same ((unit.0, Runs), unit.1)))
      go (inr k) ih = belongs_later i C A Q s one rest first (units_part ths one.site rest number units) th (ih k)

-- ---- a turn

pub turn_belongs : (p : List Stmt) (n limit i : ℕ) (C : ThreadName → Type 0) (m : Option Msg) (s : Site) (d : Transition) → s.records.site ≡ i → AllComes C p limit m → (ths : List ThreadName) → SiteTurnOf p n limit ths s m d → (th : ThreadName) → Contains ths th → Belongs i C s d th
turn_belongs p n limit i C m s d own comes ths (few, (heard, rest, first, units, e)) th h =
    let number : heard.site.records.site ≡ i = heard_site p n limit m s heard first ∙ own in
    subst (λ (t : Transition). Belongs i C s t th) (sym e)
    (belongs_later i C (AllBrought C p limit m) (IsAsked C p limit m s.homes) s heard rest (heard_part C p limit i n m s heard comes first) (units_part p n limit i C (AllBrought C p limit m) (IsAsked C p limit m s.homes) ths heard.site rest number units) th
    (units_belong p n limit i C (AllBrought C p limit m) (IsAsked C p limit m s.homes) ths heard.site rest number units th h))

pub turn_part : (p : List Stmt) (n limit i : ℕ) (C : ThreadName → Type 0) (m : Option Msg) (s : Site) (d : Transition) → s.records.site ≡ i → AllComes C p limit m → SiteTurn p n limit s m d → HeardPart C p limit i m s d
turn_part p n limit i C m s d own comes (ths, few, (heard, rest, first, units, e)) =
    let number : heard.site.records.site ≡ i = heard_site p n limit m s heard first ∙ own in
    subst (HeardPart C p limit i m s) (sym e)
    (parts_join i C (AllBrought C p limit m) (IsAsked C p limit m s.homes) s heard rest (heard_part C p limit i n m s heard comes first) (units_part p n limit i C (AllBrought C p limit m) (IsAsked C p limit m s.homes) ths heard.site rest number units))
