-- What a turn makes of names, and how many threads it sends, against its picks.
use Rattle.std.proofs.Common.{arith, ◌≡◌, ◌∙◌, sym, ap, refl, subst, append_assoc, ℕ, ◌+◌, ◌<◌, ◌≤◌, length, List, [], ◌∷◌, ◌++◌, map, ◌⊎◌, inl, inr, Bool, true, false, cond, Some, None, length-append}
use Rattle.std.specs.Prelude.{Option, Contains, ◌==◌, is_some, codes}
use Rattle.tree_node.specs.declared.names.VarName.{VarName}
use Rattle.tree_node.specs.declared.names.CellName.{CellName}
use Rattle.tree_node.specs.declared.names.PortName.{PortName}
use Rattle.tree_node.specs.declared.names.ThreadName.{ThreadName}
use Rattle.tree_node.specs.declared.names.Name.{Name}
use Rattle.tree_node.specs.Goal.{Case, case_of}
use Rattle.tree_node.specs.declared.names.NameKind.{NameKind}
use Rattle.tree_node.specs.declared.node.Term.{Term}
use Rattle.tree_node.specs.declared.pick.Pick.{Pick}
use Rattle.tree_node.specs.Each.{Each}
use Rattle.tree_node.specs.State.{Stack}
use Rattle.tree_node.specs.Store.{Store, Equation}
use Rattle.kernel_syntax.specs.declared.stmt.Stmt.{Stmt}
use Rattle.site_message.specs.declared.message.Msg.{Msg}
use Rattle.site_message.specs.declared.message.Msg.TheVariants as msg
use Rattle.site_message.specs.declared.message.Sent.{Sent}
use Rattle.oz_model.specs.Need.{Need, Waits, WaitsAny, Binds, Takes, stack_need, outcome_need}
use Rattle.oz_model.specs.Effect.{Birth, CellChange, Stays, Made, Exchanged, Effect, vars_among, stack_effect, outcome_effect, goal_effect, pair_effect, exception_effect}
use Rattle.bind_protocol.specs.Records.{Records, is_own, knowledge}
use Rattle.proxy_table.specs.Proxies.{entry_of}
use Rattle.bind_protocol.specs.Rows.{sent_message, request, register, binding, register_answer, after_meet, meet_sends, meets_send}
use Rattle.bind_protocol.proofs.ListLemmas.{one, count_cons, count_append}
use Rattle.thread_roster.specs.declared.mode.Awaited.TheVariants.{Port}
use Rattle.thread_roster.specs.declared.mode.Mode.TheVariants as mode
use Rattle.site_model.specs.Requests.{NewEnd, OldContent, with_asking, send_request_row, home_request_row, early_request_row, answer_row, port_send_row, cell_ask_row, cell_make_row, serve_request}
use Rattle.site_model.specs.Site.{Site, Counters, ThreadState, EarlyRequest, thread_state, cell_record, home_record}
use Rattle.site_model.specs.Bundle.{with_own_bundle, with_own_bundles, message_bundle, message_vars}
use Rattle.site_model.specs.Transition.{Transition, without_output, with_messages, and_then, sequence}
use Rattle.site_model.specs.Variables.{with_known_equations, own_bind, own_binds, opening}
use Rattle.site_model.specs.Cells.{last_before, leave_row, forward_row, get_row, serving, request_row, after_exchange, content_after_exchange}
use Rattle.token_chain.specs.Mail as token
use Rattle.token_chain.specs.Rows.{leave_reply, forward_reply, get_reply, exchange_reply}
use Rattle.world_model.proofs.CellLemmas.{letters, request_only}
use Rattle.site_model.specs.Messages.{with_thread, bind_request_row, message_row, reception}
use Rattle.site_model.specs.Unit.{next_names, with_fresh_names, birth_row, placement, step_row, after_effect, thread_step, kept_step, kept_step_row, kept_stack, with_stack, fresh_names, effect_here, step_pick, bind_attempt, after_cell, IsUnitFor, counter_after, counters_after, with_mode}
use Rattle.site_model.specs.Turn.{IsReception, AreUnits, SiteTurn}
use Rattle.std.specs.List.{count_by}
use Rattle.tree_node.specs.declared.names.Name.TheVariants as name
use Rattle.tree_node.specs.declared.names.NameKind.TheVariants as kind
use Rattle.tree_node.specs.declared.node.Node.{Node}
use Rattle.tree_node.specs.declared.item.Item.TheVariants as item
use Rattle.tree_node.specs.Env.{Env}
use Rattle.tree_node.specs.Goal as goal
use Rattle.tree_node.specs.Shown.{shown}
use Rattle.std.proofs.lemmas.List.Elements.{Contains-append_left, Contains-append_right}
use Rattle.kernel_syntax.specs.Free.{stmt_at}
use Rattle.oz_model.specs.declared.outcome.SystemException.{SystemException}
use Rattle.oz_model.specs.declared.outcome.SystemException.TheVariants.{FailureTell}
use Rattle.oz_model.specs.declared.outcome.Outcome.{Outcome}
use Rattle.oz_model.specs.declared.outcome.Outcome.TheVariants as outcome
use Rattle.oz_model.specs.Outcome.{outcome_of, print_outcome as prints_outcome}
use Rattle.variable_owner.specs.Owners.{owner_of, sites_of}
use Rattle.variable_owner.specs.declared.owners.Owner.{Owner}
use Rattle.variable_owner.specs.declared.owners.Owner.TheVariants.{Open, Bound}
use Rattle.tree_node.proofs.ClassLemmas.{Contains-head, Contains-tail}
use Rattle.world_messages.specs.Messages.{fresh_in, threads_among, spawns}
use Rattle.world_messages.proofs.KnownLemmas.{counted_cases}
use Rattle.world_messages.proofs.DeedLemmas.{opens_counts, turn_tally, unit_tally}
use Rattle.world_messages.proofs.EffectLemmas.{bind_effect}
use Rattle.world_messages.proofs.HomeRowLemmas.{Rest, kept_before, kept_apart, kept_site, kept_picks, tell_each, answer_rest, serve_rest, serve_each, early_rest, early_each}
use Rattle.world_messages.proofs.WayLemmas.{Way, Steps, Opens, Sends, Makes, Exchanges, AsksToken, AsksPort, AsksHome, WaitsEarly, WaitsPort, way_of}
use Rattle.site_model.proofs.FrameLemmas.{told_all_counters, told_counters}

abbrev pub spawned : List Sent → ℕ
spawned ms = count_by spawns ms

-- ---- names of picks

fresh_append : (ks ls : List Pick) → fresh_in (ks ++ ls) ≡ fresh_in ks ++ fresh_in ls
fresh_append [] ls = refl
fresh_append (k ∷ ks) ls = ap (λ (ns : List Name). k.fresh ++ ns) (fresh_append ks ls) ∙ sym (append_assoc k.fresh (fresh_in ks) (fresh_in ls))

vars_append : (xs ys : List Name) → vars_among (xs ++ ys) ≡ vars_among xs ++ vars_among ys
vars_append [] ys = refl
vars_append (name.Var x ∷ xs) ys = ap (λ (ns : List VarName). x ∷ ns) (vars_append xs ys)
vars_append (name.Cell x ∷ xs) ys = vars_append xs ys
vars_append (name.Proc x ∷ xs) ys = vars_append xs ys
vars_append (name.Port x ∷ xs) ys = vars_append xs ys
vars_append (name.Thread x ∷ xs) ys = vars_append xs ys

threads_append : (xs ys : List Name) → threads_among (xs ++ ys) ≡ threads_among xs ++ threads_among ys
threads_append [] ys = refl
threads_append (name.Var x ∷ xs) ys = threads_append xs ys
threads_append (name.Cell x ∷ xs) ys = threads_append xs ys
threads_append (name.Proc x ∷ xs) ys = threads_append xs ys
threads_append (name.Port x ∷ xs) ys = threads_append xs ys
threads_append (name.Thread x ∷ xs) ys = ap (λ (ns : List ThreadName). x ∷ ns) (threads_append xs ys)

pub vars_in_both : (ks ls : List Pick) → vars_among (fresh_in (ks ++ ls)) ≡ vars_among (fresh_in ks) ++ vars_among (fresh_in ls)
vars_in_both ks ls = ap vars_among (fresh_append ks ls) ∙ vars_append (fresh_in ks) (fresh_in ls)

pub threads_in_both : (ks ls : List Pick) → threads_among (fresh_in (ks ++ ls)) ≡ threads_among (fresh_in ks) ++ threads_among (fresh_in ls)
threads_in_both ks ls = ap threads_among (fresh_append ks ls) ∙ threads_append (fresh_in ks) (fresh_in ls)

-- ---- deeds

-- a variable that site i has made since is a fresh one of these picks; at most as many threads are sent as made
pub record PicksOn (i : ℕ) (old : Counters) (new : Counters) (ks : List Pick) (out : List Sent) : Type 0 where
  pub vars : (x : VarName) → x.site ≡ i → x.num < new.vars → (x.num < old.vars) ⊎ Contains (vars_among (fresh_in ks)) x
  pub threads : (m : ThreadName) → m.site ≡ i → m.num < new.threads → (m.num < old.threads) ⊎ Contains (threads_among (fresh_in ks)) m
  pub sent : spawned out ≤ length (threads_among (fresh_in ks))

picks_then : (i : ℕ) (a b c : Counters) (ks ls : List Pick) (o u : List Sent) → PicksOn i a b ks o → PicksOn i b c ls u → PicksOn i a c (ks ++ ls) (o ++ u)
picks_then i a b c ks ls o u h g = record {
  vars = λ x own low. by x own (g.vars x own low);
  threads = λ m own low. by_thread m own (g.threads m own low);
  sent =
      let e : length (threads_among (fresh_in (ks ++ ls))) ≡ length (threads_among (fresh_in ks)) + length (threads_among (fresh_in ls)) = ap (λ (ns : List ThreadName). length ns) (threads_in_both ks ls) ∙ length-append (threads_among (fresh_in ks)) (threads_among (fresh_in ls)) in
      omega (arith, e, count_append spawns o u, h.sent, g.sent);
}
  where
    later : (x : VarName) → Contains (vars_among (fresh_in ks)) x ⊎ Contains (vars_among (fresh_in ls)) x → Contains (vars_among (fresh_in (ks ++ ls))) x
    later x (inl c0) = subst (λ (ns : List VarName). Contains ns x) (sym (vars_in_both ks ls)) (Contains-append_left (vars_among (fresh_in ks)) (vars_among (fresh_in ls)) x c0)
    later x (inr c0) = subst (λ (ns : List VarName). Contains ns x) (sym (vars_in_both ks ls)) (Contains-append_right (vars_among (fresh_in ks)) (vars_among (fresh_in ls)) x c0)

    later_thread : (m : ThreadName) → Contains (threads_among (fresh_in ks)) m ⊎ Contains (threads_among (fresh_in ls)) m → Contains (threads_among (fresh_in (ks ++ ls))) m
    later_thread m (inl c0) = subst (λ (ns : List ThreadName). Contains ns m) (sym (threads_in_both ks ls)) (Contains-append_left (threads_among (fresh_in ks)) (threads_among (fresh_in ls)) m c0)
    later_thread m (inr c0) = subst (λ (ns : List ThreadName). Contains ns m) (sym (threads_in_both ks ls)) (Contains-append_right (threads_among (fresh_in ks)) (threads_among (fresh_in ls)) m c0)

    first_threads : (m : ThreadName) → (m.num < a.threads) ⊎ Contains (threads_among (fresh_in ks)) m → (m.num < a.threads) ⊎ Contains (threads_among (fresh_in (ks ++ ls))) m
    first_threads m (inl k) = inl k
    first_threads m (inr k) = inr (later_thread m (inl k))

    by_thread : (m : ThreadName) → m.site ≡ i → (m.num < b.threads) ⊎ Contains (threads_among (fresh_in ls)) m → (m.num < a.threads) ⊎ Contains (threads_among (fresh_in (ks ++ ls))) m
    by_thread m own (inl low) = first_threads m (h.threads m own low)
    by_thread m own (inr k) = inr (later_thread m (inr k))

    first : (x : VarName) → (x.num < a.vars) ⊎ Contains (vars_among (fresh_in ks)) x → (x.num < a.vars) ⊎ Contains (vars_among (fresh_in (ks ++ ls))) x
    first x (inl k) = inl k
    first x (inr k) = inr (later x (inl k))

    by : (x : VarName) → x.site ≡ i → (x.num < b.vars) ⊎ Contains (vars_among (fresh_in ls)) x → (x.num < a.vars) ⊎ Contains (vars_among (fresh_in (ks ++ ls))) x
    by x own (inl low) = first x (h.vars x own low)
    by x own (inr k) = inr (later x (inr k))

-- nothing is made, and no thread is sent
pub record Still (s : Site) (d : Transition) : Type 0 where
  pub counters : d.site.counters ≡ s.counters
  pub sent : spawned d.sent ≡ 0

still_same : (s : Site) → Still s (without_output s)
still_same s = record { counters = refl; sent = refl }

still_then : (s : Site) (d : Transition) (f : Site → Transition) → Still s d → Still d.site (f d.site) → Still s (and_then d f)
still_then s d f h g = record { counters = g.counters ∙ h.counters; sent = omega (arith, count_append spawns d.sent (f d.site).sent, h.sent, g.sent) }

still_picks : (i : ℕ) (s : Site) (d : Transition) → Still s d → PicksOn i s.counters d.site.counters d.picks d.sent
still_picks i s d h = record {
  vars = λ x own low. inl (subst (λ (c : Counters). x.num < c.vars) h.counters low);
  threads = λ m own low. inl (subst (λ (c : Counters). m.num < c.threads) h.counters low);
  sent = omega (arith, h.sent);
}

none_spawned : (ms : List Sent) → Each (λ (m : Sent). spawns m ≡ false) ms → spawned ms ≡ 0
none_spawned [] h = refl
none_spawned (m ∷ ms) h = let e : one (spawns m) ≡ 0 = ap one h.0 in omega (arith, e, none_spawned ms h.1, count_cons spawns m ms)

no_names : (xs : List Name) → xs ++ [] ≡ xs
no_names [] = refl
no_names (x ∷ xs) = ap (λ (ns : List Name). x ∷ ns) (no_names xs)

-- no thread is made, and none is sent
pub record Quiet (s : Site) (d : Transition) : Type 0 where
  pub threads : d.site.counters.threads ≡ s.counters.threads
  pub sent : spawned d.sent ≡ 0

pub quiet_still : (s : Site) (d : Transition) → Still s d → Quiet s d
quiet_still s d h = record { threads = ap (λ (c : Counters). c.threads) h.counters; sent = h.sent }

quiet_then : (s : Site) (d : Transition) (f : Site → Transition) → Quiet s d → Quiet d.site (f d.site) → Quiet s (and_then d f)
quiet_then s d f h g = record { threads = g.threads ∙ h.threads; sent = omega (arith, count_append spawns d.sent (f d.site).sent, h.sent, g.sent) }

-- threads that are counted after names were made were counted before, or are among them
threads_cases : (i : ℕ) (c : Counters) (kinds : List NameKind) (m : ThreadName) → m.site ≡ i → m.num < (counters_after c kinds).threads → (m.num < c.threads) ⊎ Contains (threads_among (next_names i c kinds)) m
threads_cases i c [] m own h = inl h
threads_cases i c (kind.Thread ∷ ks) m own h = go (threads_cases i (counter_after c kind.Thread) ks m own h)
  where
    names : (i k : ℕ) (m : ThreadName) → i ≡ m.site → k ≡ m.num → ◌≡◌ {A = ThreadName} (record { site = i; num = k }) m
    names i k m p q = rw (p, q) refl

    last : (m.num < c.threads) ⊎ (m.num ≡ c.threads) → (m.num < c.threads) ⊎ Contains (record { site = i; num = c.threads } ∷ threads_among (next_names i (counter_after c kind.Thread) ks)) m
    last (inl k) = inl k
    last (inr k) = inr (subst (λ (z : ThreadName). Contains (record { site = i; num = c.threads } ∷ threads_among (next_names i (counter_after c kind.Thread) ks)) z) (names i c.threads m (sym own) (sym k)) (Contains-head _ (threads_among (next_names i (counter_after c kind.Thread) ks))))

    split : m.num < c.threads + 1 → (m.num < c.threads) ⊎ (m.num ≡ c.threads)
    split k = search (arith, k)

    go : (m.num < c.threads + 1) ⊎ Contains (threads_among (next_names i (counter_after c kind.Thread) ks)) m → (m.num < c.threads) ⊎ Contains (record { site = i; num = c.threads } ∷ threads_among (next_names i (counter_after c kind.Thread) ks)) m
    go (inl k) = last (split k)
    go (inr k) = inr (Contains-tail _ m (threads_among (next_names i (counter_after c kind.Thread) ks)) k)
threads_cases i c (kind.Var ∷ ks) m own h = threads_cases i (counter_after c kind.Var) ks m own h
threads_cases i c (kind.Cell ∷ ks) m own h = threads_cases i (counter_after c kind.Cell) ks m own h
threads_cases i c ((kind.CellAt at_home) ∷ ks) m own h = threads_cases i (counter_after c (kind.CellAt at_home)) ks m own h
threads_cases i c (kind.Proc ∷ ks) m own h = threads_cases i (counter_after c kind.Proc) ks m own h
threads_cases i c (kind.Port ∷ ks) m own h = threads_cases i (counter_after c kind.Port) ks m own h

module _ (p : List Stmt) (n limit : ℕ) where
  no_spawns : (s : Store) (x : VarName) (t : Term) (ks : List ℕ) → spawned (with_own_bundles limit s (map (λ (k : ℕ). binding x t k) ks)) ≡ 0
  no_spawns s x t [] = refl
  no_spawns s x t (k ∷ ks) = omega (arith, no_spawns s x t ks, count_cons spawns (with_own_bundle limit s (binding x t k)) (with_own_bundles limit s (map (λ (k : ℕ). binding x t k) ks)))

  meets_still : (xs : List VarName) (b : Records) → spawned (meets_send b xs) ≡ 0
  meets_still [] b = refl
  meets_still (x ∷ xs) b = omega (arith, count_append spawns (meet_sends b x) (meets_send (after_meet b x) xs), meets_still xs (after_meet b x), one_name (is_own b x) (is_some (entry_of b.proxies x)))
    where
      one_name : (c d : Bool) → spawned (cond c [] (cond d [] (register x b.site ∷ []))) ≡ 0
      one_name true d = refl
      one_name false true = refl
      one_name false false = refl

  opens_still : (m : Msg) (s : Site) → Still s (opening m s)
  opens_still m s = record { counters = told_all_counters (message_bundle m) s; sent = meets_still (message_vars m) (with_known_equations s (message_bundle m)).records }

  pub binds_each_still : (es : List Equation) (s : Site) → Still s (own_binds limit es s)
  binds_each_still [] s = still_same s
  binds_each_still (e ∷ es) s = still_then s (own_binds limit es s) (own_bind limit e.0 e.1) (binds_each_still es s) (record { counters = refl; sent = no_spawns ((e.0, e.1) ∷ (own_binds limit es s).site.equations) e.0 e.1 (sites_of (owner_of (own_binds limit es s).site.records.owners e.0)) })

  -- no message of a cell is a Spawn
  letters_still : (c : CellName) (s : Store) (ms : List token.Mail) → spawned (letters limit c s ms) ≡ 0
  letters_still c s [] = refl
  letters_still c s (token.Get k ∷ ms) = letters_still c s ms
  letters_still c s (token.Forward to k ∷ ms) = letters_still c s ms
  letters_still c s (token.Put to v ∷ ms) = letters_still c s ms

  leave_still : (c : CellName) (s : Site) → Still s (leave_row limit c s)
  leave_still c s = record { counters = refl; sent = letters_still c s.equations (leave_reply (cell_record s c).held).sent }

  get_still : (c : CellName) (k : ℕ) (s : Site) → Still s (get_row limit c k s)
  get_still c k s = record { counters = refl; sent = letters_still c s.equations (get_reply s.records.site (last_before s c) k (cell_record s c).held).sent }

  forward_still : (c : CellName) (k : ℕ) (s : Site) → Still s (forward_row limit c k s)
  forward_still c k s = record { counters = refl; sent = letters_still c s.equations (forward_reply (cell_record s c).held k).sent }

  exchanges_made : (c : CellName) (th : ThreadName) (v : VarName) (s : Site) → (after_exchange p th v s).counters ≡ s.counters
  exchanges_made c th v s = go (thread_state s th) refl
    where
      go : (o : Option ThreadState) → thread_state s th ≡ o → (after_exchange p th v s).counters ≡ s.counters
      go None q = rw q refl
      go (Some st) q = rw q refl

  serves_still : (c : CellName) (ns : List ThreadName) (v : VarName) (s : Site) → Still s (serving p c ns v s)
  serves_still c [] v s = record { counters = refl; sent = refl }
  serves_still c (m ∷ ns) v s =
      let ih : Still (after_exchange p m v s) (serving p c ns (content_after_exchange p m v s) (after_exchange p m v s)) = serves_still c ns (content_after_exchange p m v s) (after_exchange p m v s) in
      record { counters = ih.counters ∙ exchanges_made c m v s; sent = ih.sent }

  pub asks_still : (c : CellName) (new : VarName) (th : ThreadName) (st : Stack) (s : Site) → Still s (request_row limit c new th st s)
  asks_still c new th st s = record { counters = (request_only limit c new th st s).counters; sent = letters_still c (request_row limit c new th st s).site.equations (exchange_reply c.site (last_before s c) s.records.site new (cell_record s c).held).sent }

  asked_still : (x : VarName) (t : Term) (th : ThreadName) (s : Site) → Still s (bind_request_row limit x t th s)
  asked_still x t th s = go (knowledge s.records x) refl
    where
      go : (o : Option (Option Term)) → knowledge s.records x ≡ o → Still s (bind_request_row limit x t th s)
      go None q = rw q (still_same s)
      go (Some None) q = rw q (record { counters = refl; sent = no_spawns ((x, t) ∷ s.equations) x t (sites_of (owner_of s.records.owners x)) })
      go (Some (Some r)) q = rw q (still_same s)

  answered_still : (s : Store) (x : VarName) (k : ℕ) (o : Option Owner) → spawned (with_own_bundles limit s (register_answer o x k)) ≡ 0
  answered_still s x k None = refl
  answered_still s x k (Some (Open ks)) = refl
  answered_still s x k (Some (Bound t)) = refl

  rest_still : (s : Site) (d : Transition) → Rest s d.site → Each (λ (m : Sent). spawns m ≡ false) d.sent → Still s d
  rest_still s d h g = record { counters = h.counters; sent = none_spawned d.sent g }

  ask_still : (c : CellName) (r : EarlyRequest) (s : Site) → Still s (cell_ask_row p limit c r s)
  ask_still c r s = go (home_record s c).content refl
    where
      go : (o : Option VarName) → (home_record s c).content ≡ o → Still s (cell_ask_row p limit c r s)
      go None q = rw q (record { counters = refl; sent = refl })
      go (Some v) q = rw q (rest_still s (serve_request p limit c r v s) (serve_rest p limit c r v s) (serve_each p limit c (λ (m : Sent). spawns m ≡ false) r v s (λ e to n u. refl)))

  -- a port's new end is made
  end_picks : (q : PortName) (th : ThreadName) (k : ℕ) (s : Site) → PicksOn s.records.site s.counters (port_send_row limit q th k s).site.counters (port_send_row limit q th k s).picks (port_send_row limit q th k s).sent
  end_picks q th k s = record { vars = λ x own low. counted_cases s.records.site s.counters (kind.Var ∷ []) x own low; threads = λ m own low. inl low; sent = omega arith }

  abbrev Picked : Site → Transition → Type 0
  Picked s d = PicksOn s.records.site s.counters d.site.counters d.picks d.sent

  both : (s : Site) (d : Transition) → Still s d → Picked s d × Quiet s d
  both s d h = (still_picks s.records.site s d h, quiet_still s d h)

  takes_both : (m : Msg) (s : Site) → Picked s (message_row p limit m s) × Quiet s (message_row p limit m s)
  takes_both (msg.Spawn a b c d) s = both s (message_row p limit (msg.Spawn a b c d) s) (record { counters = refl; sent = refl })
  takes_both (msg.Register x k) s = both s (message_row p limit (msg.Register x k) s) (record { counters = refl; sent = answered_still s.equations x k (owner_of s.records.owners x) })
  takes_both (msg.BindReq x th t bundle) s = both s _ (asked_still x t th s)
  takes_both (msg.Binding x t bundle) s = both s (message_row p limit (msg.Binding x t bundle) s) (record { counters = told_counters s x t; sent = refl })
  takes_both (msg.Get c k) s = both s _ (get_still c k s)
  takes_both (msg.Forward c k) s = both s _ (forward_still c k s)
  takes_both (msg.Put c v bundle) s = both s _ (still_then s (serving p c (cell_record s c).queue v s) (leave_row limit c) (serves_still c (cell_record s c).queue v s) (leave_still c (serving p c (cell_record s c).queue v s).site))
  takes_both (msg.PortSend q th k) s = (end_picks q th k s, record { threads = refl; sent = refl })
  takes_both (msg.PortEnd th old new bundle) s = both s (answer_row p th (NewEnd old new) s) (rest_still s (answer_row p th (NewEnd old new) s) (answer_rest p th (NewEnd old new) s) tt)
  takes_both (msg.CellMake c v bundle) s = both s (cell_make_row p limit c v s) (rest_still s (cell_make_row p limit c v s) (early_rest p limit c (home_record s c).early v s) (early_each p limit c (λ (m : Sent). spawns m ≡ false) (home_record s c).early v s (λ e to n u. refl)))
  takes_both (msg.CellAsk c th k v bundle) s = both s _ (ask_still c (record { thread = th; asking = k; new = v }) s)
  takes_both (msg.CellOld th v bundle) s = both s (answer_row p th (OldContent v) s) (rest_still s (answer_row p th (OldContent v) s) (answer_rest p th (OldContent v) s) tt)

  heard_picks : (m : Option Msg) (s : Site) (d : Transition) → IsReception p n limit m s d → Picked s d
  heard_picks None s d h = subst (Picked s) (sym h) (still_picks s.records.site s (without_output s) (still_same s))
  heard_picks (Some m) s d (inl h) = subst (Picked s) (sym h.1)
      (picks_then s.records.site s.counters (opening m s).site.counters (reception p limit m s).site.counters [] (message_row p limit m (opening m s).site).picks (opening m s).sent (message_row p limit m (opening m s).site).sent
      (still_picks s.records.site s (opening m s) (opens_still m s))
      (subst (λ (i : ℕ). PicksOn i (opening m s).site.counters (message_row p limit m (opening m s).site).site.counters (message_row p limit m (opening m s).site).picks (message_row p limit m (opening m s).site).sent) (opens_counts m s).site (takes_both m (opening m s).site).0))
  heard_picks (Some m) s d (inr h) = subst (Picked s) (sym h.1) (still_picks s.records.site s (without_output s) (still_same s))

  pub heard_quiet : (m : Option Msg) (s : Site) (d : Transition) → IsReception p n limit m s d → Quiet s d
  heard_quiet None s d h = subst (Quiet s) (sym h) (quiet_still s (without_output s) (still_same s))
  heard_quiet (Some m) s d (inl h) = subst (Quiet s) (sym h.1) (quiet_then s (opening m s) (message_row p limit m) (quiet_still s (opening m s) (opens_still m s)) (takes_both m (opening m s).site).1)
  heard_quiet (Some m) s d (inr h) = subst (Quiet s) (sym h.1) (quiet_still s (without_output s) (still_same s))

  -- ---- steps

  abbrev births : Option Birth → ℕ
  births None = 0
  births (Some b) = 1

  bears_sent : (b : Option Birth) (s : Site) → ((birth_row p n limit b s).site.counters ≡ s.counters) × (spawned (birth_row p n limit b s).sent ≤ births b)
  bears_sent None s = (refl, omega arith)
  bears_sent (Some b) s = go (placement n s.records.site b.at == s.records.site)
    where
      go : (c : Bool) → ((cond c (without_output (with_thread p (Some b) s)) (with_messages s (with_own_bundle limit s.equations (sent_message (placement n s.records.site b.at) (msg.Spawn b.name b.code b.vars [])) ∷ []))).site.counters ≡ s.counters) × (spawned (cond c (without_output (with_thread p (Some b) s)) (with_messages s (with_own_bundle limit s.equations (sent_message (placement n s.records.site b.at) (msg.Spawn b.name b.code b.vars [])) ∷ []))).sent ≤ 1)
      go true = (refl, omega arith)
      go false = (refl, omega arith)

  cell_made : (c : CellChange) (s : Site) → (after_cell c s).counters ≡ s.counters
  cell_made Stays s = refl
  cell_made (Made c v) s = refl
  cell_made (Exchanged c new told) s = refl

  steps_picks : (k : Pick) (kinds : List NameKind) (e : Effect) (s : Site) → k.fresh ≡ next_names s.records.site s.counters kinds → births e.born ≤ length (threads_among k.fresh) → PicksOn s.records.site s.counters (step_row p n limit k kinds e s).site.counters (step_row p n limit k kinds e s).picks (step_row p n limit k kinds e s).sent
  steps_picks k kinds e s fresh few = record { vars = vars; threads = threads; sent = count }
    where
      bound_all : Transition
      bound_all = own_binds limit e.adds (with_fresh_names kinds s)

      kept : Still (with_fresh_names kinds s) (own_binds limit e.adds (with_fresh_names kinds s))
      kept = binds_each_still e.adds (with_fresh_names kinds s)

      born : ((birth_row p n limit e.born (after_effect k.thread e (own_binds limit e.adds (with_fresh_names kinds s)).site)).site.counters ≡ (after_effect k.thread e (own_binds limit e.adds (with_fresh_names kinds s)).site).counters) × (spawned (birth_row p n limit e.born (after_effect k.thread e (own_binds limit e.adds (with_fresh_names kinds s)).site)).sent ≤ births e.born)
      born = bears_sent e.born (after_effect k.thread e (own_binds limit e.adds (with_fresh_names kinds s)).site)

      made : (step_row p n limit k kinds e s).site.counters ≡ (with_fresh_names kinds s).counters
      made = born.0 ∙ cell_made e.cell (own_binds limit e.adds (with_fresh_names kinds s)).site ∙ kept.counters

      names_of : fresh_in (step_row p n limit k kinds e s).picks ≡ k.fresh
      names_of = ap fresh_in (ap (λ (ks : List Pick). ((k ∷ ks) ++ []) ++ (birth_row p n limit e.born (after_effect k.thread e (own_binds limit e.adds (with_fresh_names kinds s)).site)).picks) (no_picks e.adds (with_fresh_names kinds s)) ∙ ap (λ (ks : List Pick). k ∷ ks) (bears_picks e.born (after_effect k.thread e (own_binds limit e.adds (with_fresh_names kinds s)).site))) ∙ no_names k.fresh
        where
          no_picks : (es : List Equation) (s : Site) → (own_binds limit es s).picks ≡ []
          no_picks [] s = refl
          no_picks (q ∷ es) s = ap (λ (ks : List Pick). ks ++ []) (no_picks es s)

          bears_picks : (b : Option Birth) (s : Site) → (birth_row p n limit b s).picks ≡ []
          bears_picks None s = refl
          bears_picks (Some b) s = go (placement n s.records.site b.at == s.records.site)
            where
              go : (c : Bool) → (cond c (without_output (with_thread p (Some b) s)) (with_messages s (with_own_bundle limit s.equations (sent_message (placement n s.records.site b.at) (msg.Spawn b.name b.code b.vars [])) ∷ []))).picks ≡ []
              go true = refl
              go false = refl

      vars : (x : VarName) → x.site ≡ s.records.site → x.num < (step_row p n limit k kinds e s).site.counters.vars → (x.num < s.counters.vars) ⊎ Contains (vars_among (fresh_in (step_row p n limit k kinds e s).picks)) x
      vars x own low = subst (λ (ns : List Name). (x.num < s.counters.vars) ⊎ Contains (vars_among ns) x) (sym (names_of ∙ fresh)) (counted_cases s.records.site s.counters kinds x own (subst (λ (c : Counters). x.num < c.vars) made low))

      threads : (m : ThreadName) → m.site ≡ s.records.site → m.num < (step_row p n limit k kinds e s).site.counters.threads → (m.num < s.counters.threads) ⊎ Contains (threads_among (fresh_in (step_row p n limit k kinds e s).picks)) m
      threads m own low = subst (λ (ns : List Name). (m.num < s.counters.threads) ⊎ Contains (threads_among ns) m) (sym (names_of ∙ fresh)) (threads_cases s.records.site s.counters kinds m own (subst (λ (c : Counters). m.num < c.threads) made low))

      count : spawned (step_row p n limit k kinds e s).sent ≤ length (threads_among (fresh_in (step_row p n limit k kinds e s).picks))
      count = subst (λ (ns : List Name). spawned (step_row p n limit k kinds e s).sent ≤ length (threads_among ns)) (sym names_of)
          (omega (arith, few, born.1, kept.sent, count_append spawns ((own_binds limit e.adds (with_fresh_names kinds s)).sent ++ []) (birth_row p n limit e.born (after_effect k.thread e (own_binds limit e.adds (with_fresh_names kinds s)).site)).sent, count_append spawns (own_binds limit e.adds (with_fresh_names kinds s)).sent []))

  -- the same of a step on a port or on a stationary cell, which sends no thread
  kept_made : (k : Pick) (kinds : List NameKind) (e : Effect) (s : Site) → k.fresh ≡ next_names s.records.site s.counters kinds → Picked s (kept_step_row limit k kinds e s)
  kept_made k kinds e s fresh = record { vars = vars; threads = threads; sent = omega (arith, none_spawned (kept_step_row limit k kinds e s).sent none) }
    where
      made : (kept_step_row limit k kinds e s).site.counters ≡ (with_fresh_names kinds s).counters
      made = ap (λ (t : Site). t.counters) (kept_site limit k kinds e s) ∙ (kept_apart kinds e s).rest.counters

      names_of : fresh_in (kept_step_row limit k kinds e s).picks ≡ k.fresh
      names_of = ap fresh_in (kept_picks limit k kinds e s) ∙ no_names k.fresh

      none : Each (λ (m : Sent). spawns m ≡ false) (kept_step_row limit k kinds e s).sent
      none = tell_each (λ (m : Sent). spawns m ≡ false) limit e.cell (with_stack k.thread (kept_stack s e) (kept_before kinds e s)) (λ b v is other. refl)

      vars : (x : VarName) → x.site ≡ s.records.site → x.num < (kept_step_row limit k kinds e s).site.counters.vars → (x.num < s.counters.vars) ⊎ Contains (vars_among (fresh_in (kept_step_row limit k kinds e s).picks)) x
      vars x own low = subst (λ (ns : List Name). (x.num < s.counters.vars) ⊎ Contains (vars_among ns) x) (sym (names_of ∙ fresh)) (counted_cases s.records.site s.counters kinds x own (subst (λ (c : Counters). x.num < c.vars) made low))

      threads : (m : ThreadName) → m.site ≡ s.records.site → m.num < (kept_step_row limit k kinds e s).site.counters.threads → (m.num < s.counters.threads) ⊎ Contains (threads_among (fresh_in (kept_step_row limit k kinds e s).picks)) m
      threads m own low = subst (λ (ns : List Name). (m.num < s.counters.threads) ⊎ Contains (threads_among ns) m) (sym (names_of ∙ fresh)) (threads_cases s.records.site s.counters kinds m own (subst (λ (c : Counters). m.num < c.threads) made low))

  -- a thread is born only with a fresh thread name
  fails_births : (e : SystemException) (rest : Stack) (xs : List VarName) → births (exception_effect e rest xs).born ≡ 0
  fails_births e rest [] = refl
  fails_births e rest (a ∷ []) = refl
  fails_births e rest (a ∷ x ∷ []) = refl
  fails_births e rest (a ∷ x ∷ y ∷ xs) = refl

  one_thread : (i : ℕ) (c : Counters) (kinds : List NameKind) → kinds ≡ kind.Thread ∷ [] → 1 ≤ length (threads_among (next_names i c kinds))
  one_thread i c kinds e = subst (λ (ks : List NameKind). 1 ≤ length (threads_among (next_names i c ks))) (sym e) (omega arith)

  takes_one : (ks ls : List NameKind) → Takes ks ≡ Takes ls → ls ≡ ks
  takes_one ks ls e = cc

  outcome_births : (i : ℕ) (c : Counters) (env : Env) (rest : Stack) (fresh : List Name) (o : Outcome) (kinds : List NameKind) → outcome_need o ≡ Takes kinds → births (outcome_effect p env rest fresh o).born ≤ length (threads_among (next_names i c kinds))
  outcome_births i c env rest fresh (outcome.Spawns at body vars) kinds e = one_thread i c kinds (takes_one (kind.Thread ∷ []) kinds e)
  outcome_births i c env rest fresh (outcome.Fails x) kinds e = omega (arith, fails_births x rest (vars_among fresh))
  outcome_births i c env rest fresh (outcome.Waits x) kinds e = omega arith
  outcome_births i c env rest fresh (outcome.WaitsAny left right) kinds e = omega arith
  outcome_births i c env rest fresh (outcome.Runs items) kinds e = omega arith
  outcome_births i c env rest fresh (outcome.Tells x t) kinds e = omega arith
  outcome_births i c env rest fresh (outcome.Declares first count body) kinds e = omega arith
  outcome_births i c env rest fresh (outcome.MakesProc left code formals vars) kinds e = omega arith
  outcome_births i c env rest fresh (outcome.MakesCell at content told) kinds e = omega arith
  outcome_births i c env rest fresh (outcome.MakesPort stream told) kinds e = omega arith
  outcome_births i c env rest fresh (outcome.Sends port value) kinds e = omega arith
  outcome_births i c env rest fresh (outcome.Exchanges cell new told) kinds e = omega arith
  outcome_births i c env rest fresh (outcome.Tries body body_env handler first handler_env) kinds e = omega arith
  outcome_births i c env rest fresh (outcome.Raises x) kinds e = omega arith
  outcome_births i c env rest fresh (outcome.Prints line) kinds e = omega arith

  goal_births : (s : Store) (met : List (Node × Node)) (rest : Stack) (fresh : List Name) (pairs : List (Term × Term)) → births (goal_effect s met rest fresh None pairs).born ≡ 0
  goal_births s met rest fresh [] = refl
  goal_births s met rest fresh ((a, b) ∷ pairs) = go (case_of s met a b)
    where
      go : (c : Case) → births (pair_effect a b pairs met rest fresh None c).born ≡ 0
      go goal.Dropped = refl
      go goal.Binds = refl
      go (goal.Opened m n fs) = refl
      go goal.Failed = fails_births FailureTell rest (vars_among fresh)

  stack_births : (i : ℕ) (c : Counters) (s : Store) (fresh : List Name) (st : Stack) (kinds : List NameKind) → stack_need p s st ≡ Takes kinds → births (stack_effect p s fresh None st).born ≤ length (threads_among (next_names i c kinds))
  stack_births i c s fresh [] kinds e = omega arith
  stack_births i c s fresh (item.Run code env ∷ rest) kinds e = outcome_births i c env rest fresh (outcome_of p s code env (stmt_at p code)) kinds e
  stack_births i c s fresh (item.Goals b ∷ rest) kinds e = omega (arith, goal_births s b.met rest fresh b.pairs)
  stack_births i c s fresh (item.Mark code at env ∷ rest) kinds e = omega arith
  stack_births i c s fresh (item.Report x ∷ rest) kinds e = outcome_births i c [] rest fresh (prints_outcome (codes "uncaught ") (shown s x)) kinds e

  -- ---- units

  way_picks : (th : ThreadName) (st : Stack) (s : Site) (step kept : Transition) (e : Effect) (d : Transition) → Picked s step → Picked s kept → Way limit th st s step kept e d → Picked s d
  way_picks th st s step kept e d k g (Steps finds same) = subst (Picked s) (sym same) k
  way_picks th st s step kept e d k g (Opens q end is same) = subst (Picked s) (sym same) g
  way_picks th st s step kept e d k g (Sends q value new end is has same) = subst (Picked s) (sym same) g
  way_picks th st s step kept e d k g (Makes c v keeps is same) = subst (Picked s) (sym same) g
  way_picks th st s step kept e d k g (Exchanges c new told v keeps is has same) = subst (Picked s) (sym same) g
  way_picks th st s step kept e d k g (AsksToken c new none same) = subst (Picked s) (sym same) (still_picks s.records.site s (request_row limit c new th st s) (asks_still c new th st s))
  way_picks th st s step kept e d k g (AsksPort q other same) = subst (Picked s) (sym same) (still_picks s.records.site s (send_request_row limit q th st s) (record { counters = refl; sent = refl }))
  way_picks th st s step kept e d k g (AsksHome c new told is other same) = subst (Picked s) (sym same) (still_picks s.records.site s (home_request_row limit c new th st s) (record { counters = refl; sent = refl }))
  way_picks th st s step kept e d k g (WaitsEarly c new told is same) = subst (Picked s) (sym same) (still_picks s.records.site s (early_request_row c new th st s) (record { counters = refl; sent = refl }))
  way_picks th st s step kept e d k g (WaitsPort q same) = subst (Picked s) (sym same) (still_picks s.records.site s (without_output (with_asking th st (Port q) s)) (record { counters = refl; sent = refl }))

  bind_picks : (th : ThreadName) (st : Stack) (u : VarName) (t : Term) (a b : Term) (c : Bool) (s : Site) → stack_need p s.equations st ≡ Binds a b → Picked s (bind_attempt p n limit th st u t c s)
  bind_picks th st u t a b true s need =
      steps_picks (step_pick th [] (Some (u, t))) [] (effect_here p s [] (Some (u, t)) st) s refl
      (subst (λ (e : Effect). births e.born ≤ 0) (sym (bind_effect p s.equations st a b u t need)) (omega arith))
  bind_picks th st u t a b false s need = still_picks s.records.site s (with_messages (with_mode th st (mode.Waits u) s) (with_own_bundle limit s.equations (request u t th) ∷ [])) (record { counters = refl; sent = refl })

  need_picks : (s : Site) (th : ThreadName) (st : Stack) (need : Need) (d : Transition) → stack_need p s.equations st ≡ need → IsUnitFor p n limit s th st need d → Picked s d
  need_picks s th st (Waits x) d e h = subst (Picked s) (sym h.2) (still_picks s.records.site s (without_output (with_mode th st (mode.Needs h.0) s)) (record { counters = refl; sent = refl }))
  need_picks s th st (WaitsAny q) d e h = subst (Picked s) (sym h.2) (still_picks s.records.site s (without_output (with_mode th st (mode.WaitsAny h.0) s)) (record { counters = refl; sent = refl }))
  need_picks s th st (Binds a b) d e h = subst (Picked s) (sym h.3) (bind_picks th st h.0 h.1 a b (h.0.site == s.records.site) s e)
  need_picks s th st (Takes kinds) d e h =
      way_picks th st s (thread_step p n limit th st kinds (fresh_names s kinds) None s) (kept_step p limit th st kinds (fresh_names s kinds) s) (effect_here p s (fresh_names s kinds) None st) d
      (steps_picks (step_pick th (fresh_names s kinds) None) kinds (effect_here p s (fresh_names s kinds) None st) s refl (stack_births s.records.site s.counters s.equations (fresh_names s kinds) st kinds e))
      (kept_made (step_pick th (fresh_names s kinds) None) kinds (effect_here p s (fresh_names s kinds) None st) s refl)
      (way_of limit th st s (thread_step p n limit th st kinds (fresh_names s kinds) None s) (kept_step p limit th st kinds (fresh_names s kinds) s) (effect_here p s (fresh_names s kinds) None st) d h)

  units_picks : (ths : List ThreadName) (s : Site) (d : Transition) → AreUnits p n limit ths s d → Picked s d
  units_picks [] s d h = subst (Picked s) (sym h) (still_picks s.records.site s (without_output s) (still_same s))
  units_picks (th ∷ ths) s d (one, rest, unit, units, e) =
      let first : Picked s one = need_picks s th unit.0 (stack_need p s.equations unit.0) one refl unit.2 in
      let site : one.site.records.site ≡ s.records.site = (unit_tally p n limit th s one unit).counts.site in
      let next : PicksOn s.records.site one.site.counters rest.site.counters rest.picks rest.sent = subst (λ (i : ℕ). PicksOn i one.site.counters rest.site.counters rest.picks rest.sent) site (units_picks ths one.site rest units) in
      subst (Picked s) (sym e) (picks_then s.records.site s.counters one.site.counters rest.site.counters one.picks rest.picks one.sent rest.sent first next)

  pub heard_site : (m : Option Msg) (s : Site) (d : Transition) → IsReception p n limit m s d → d.site.records.site ≡ s.records.site
  heard_site m s d h = (turn_tally p n limit m s d ([], omega arith, (d, without_output d.site, h, refl, deed_same d))).counts.site
    where
      deed_same : (d : Transition) → d ≡ sequence d (without_output d.site)
      deed_same d = deeds d.site d.picks (d.picks ++ []) d.sent (d.sent ++ []) d.lines (d.lines ++ []) (sym (ends_here d.picks)) (sym (ends_here d.sent)) (sym (ends_here d.lines))
        where
          ends_here : {X : Type 0} (xs : List X) → xs ++ [] ≡ xs
          ends_here [] = refl
          ends_here (x ∷ xs) = ap (λ ys. x ∷ ys) (ends_here xs)

          deeds : (s : Site) (a b : List Pick) (o u : List Sent) (x y : List (List ℕ)) → a ≡ b → o ≡ u → x ≡ y → ◌≡◌ {A = Transition} (record { site = s; picks = a; sent = o; lines = x }) (record { site = s; picks = b; sent = u; lines = y })
          deeds s a b o u x y e f g = rw (e, f, g) refl

  pub turn_picks : (m : Option Msg) (s : Site) (d : Transition) → SiteTurn p n limit s m d → PicksOn s.records.site s.counters d.site.counters d.picks d.sent
  turn_picks m s d (ths, few, (heard, rest, first, units, e)) =
      let one : Picked s heard = heard_picks m s heard first in
      let next : PicksOn s.records.site heard.site.counters rest.site.counters rest.picks rest.sent = subst (λ (i : ℕ). PicksOn i heard.site.counters rest.site.counters rest.picks rest.sent) (heard_site m s heard first) (units_picks ths heard.site rest units) in
      subst (Picked s) (sym e) (picks_then s.records.site s.counters heard.site.counters rest.site.counters heard.picks rest.picks heard.sent rest.sent one next)
