-- How many messages there are in every run.
use Rattle.std.proofs.Common.{rules, arith, ◌≡◌, ◌≢◌, ◌∙◌, sym, ap, refl, subst, ℕ, ◌+◌, ◌-◌, ◌*◌, ◌<◌, ◌≤◌, List, [], ◌∷◌, length, ◌⊎◌, inl, inr, Bool, true, false, cond, length-append}
use Rattle.std.specs.Prelude.{Contains, ◌==◌, ◌&&◌, nat_le}
use Rattle.std.specs.List.{count_by}
use Rattle.std.proofs.lemmas.List.Elements.{Contains-append_left, Contains-append_right}
use Rattle.tree_node.specs.declared.names.VarName.{VarName}
use Rattle.tree_node.specs.declared.pick.Pick.{Pick}
use Rattle.tree_node.specs.declared.node.Term.{Term}
use Rattle.tree_node.specs.Store.{Equation}
use Rattle.tree_node.specs.declared.names.ThreadName.{ThreadName}
use Rattle.tree_node.proofs.ClassLemmas.{same_name_refl, Contains-cons_cases, Contains-head, Contains-tail}
use Rattle.oz_model.specs.Run.{first_thread}
use Rattle.kernel_syntax.specs.declared.stmt.Stmt.{Stmt}
use Rattle.kernel_syntax.specs.Program.{IsProgram}
use Rattle.site_message.specs.declared.message.Msg.{Msg}
use Rattle.site_message.specs.declared.message.Msg.TheVariants as msg
use Rattle.site_message.specs.declared.message.Sent.{Sent}
use Rattle.site_message.specs.declared.turn.Turn.{Turn}
use Rattle.site_message.specs.Journal.{sent_of, travelling}
use Rattle.oz_model.specs.Effect.{vars_among}
use Rattle.world_messages.specs.BindRequests.{requests, ThreadsArePlaced}
use Rattle.world_messages.proofs.AskRun.{asked_in, asks_are_few}
use Rattle.world_messages.specs.Fitting.{IsFittingMsg, WorldFits, IsMadeVar, TokensServe}
use Rattle.world_messages.specs.Messages.{is_request, asks_to_bind, fresh_in, threads_among, vars_made, threads_made, spawns, asks_to_know, tells_binding, SpawnsAreFew, RegistersAreFew}
use Rattle.world_messages.specs.MessageCounts.{RequestsAreFew, FewWhereTokensServe}
use Rattle.bind_protocol.specs.Records.{knowledge}
use Rattle.bind_protocol.specs.World.{is_register, is_binding}
use Rattle.bind_protocol.specs.Lawful.{met_count, register_count, binding_count}
use Rattle.bind_protocol.proofs.ListLemmas.{there_counted, count_append}
use Rattle.site_model.specs.Site.{Site, initial_site}
use Rattle.site_model.specs.Transition.{Transition}
use Rattle.site_model.specs.Run.{WorldRun, delivered_message}
use Rattle.world_model.specs.World.{Sites, put, records}
use Rattle.world_model.specs.Schedule.{schedule}
use Rattle.world_model.specs.Chain.{messages}
use Rattle.world_model.proofs.PutLemmas.{nat_decides, at_all}
use Rattle.bind_protocol.specs.Count.{AreCounted}
use Rattle.world_messages.proofs.CountLemmas.{counted_in, once_each}
use Rattle.world_messages.proofs.FewLemmas.{few, pairs, many_pairs, pair_in, sites_but, others_few, site_in}
use Rattle.world_messages.proofs.PickLemmas.{PicksOn, vars_in_both, threads_in_both, turn_picks}
use Rattle.world_messages.proofs.RunLemmas.{Entry, every_run}
use Rattle.world_messages.proofs.UnfitLemmas.{known_inside, met_some}
use Rattle.world_messages.proofs.WorldFitLemmas.{run_fits}
use Rattle.tree_node.proofs.NameLemmas.{same_thread_decides}
use Rattle.tree_node.proofs.OrderLemmas.{Each-member as each_member}
use Rattle.std.proofs.lemmas.Bool.{leb-true}

-- ---- what a schedule makes

abbrev IsScheduled : List Turn → Sites → Type 0
IsScheduled j f =
    ((i : ℕ) (x : VarName) → x.site ≡ i → x.num < (f i).counters.vars → Contains (vars_made (schedule j)) x)
    × ((i : ℕ) (m : ThreadName) → m.site ≡ i → m.num < (f i).counters.threads → Contains (threads_made (schedule j)) m)
    × (count_by spawns (sent_of j) ≤ length (threads_among (fresh_in (schedule j))))

never_below : (k : ℕ) → k < 0 → ⊥
never_below k h = omega (arith, h)

module _ (p : List Stmt) (n limit : ℕ) where
  turn_of : (j : List Turn) (e : Turn) (f : Sites) (d : Transition) → Entry p n limit j e f d → PicksOn e.site (f e.site).counters d.site.counters e.picks e.sent
  turn_of j e f d entry =
      let own : (f e.site).records.site ≡ e.site = (counted_in p n limit j f entry.run).0 e.site in
      let t : PicksOn (f e.site).records.site (f e.site).counters d.site.counters d.picks d.sent = turn_picks p n limit (delivered_message j e.delivered) (f e.site) d entry.turn in
      subst (λ (ks : List Pick). PicksOn e.site (f e.site).counters d.site.counters ks e.sent) (sym entry.tells.picks)
      (subst (λ (ms : List Sent). PicksOn e.site (f e.site).counters d.site.counters d.picks ms) (sym entry.tells.sent) (subst (λ (i : ℕ). PicksOn i (f e.site).counters d.site.counters d.picks d.sent) own t))

  scheduled_entry : (j : List Turn) (e : Turn) (f : Sites) (d : Transition) → Entry p n limit j e f d → IsScheduled j f → IsScheduled (e ∷ j) (put f e.site d.site)
  scheduled_entry j e f d entry h = (
    at_all f e.site d.site (λ (i : ℕ) (s : Site). (x : VarName) → x.site ≡ i → x.num < s.counters.vars → Contains (vars_made (schedule (e ∷ j))) x) mine (λ i other x own low. before x (h.0 i x own low)),
    at_all f e.site d.site (λ (i : ℕ) (s : Site). (m : ThreadName) → m.site ≡ i → m.num < s.counters.threads → Contains (threads_made (schedule (e ∷ j))) m) my_thread (λ i other m own low. before_thread m (h.1 i m own low)),
    sent,
  )
    where
      t : PicksOn e.site (f e.site).counters d.site.counters e.picks e.sent
      t = turn_of j e f d entry

      before : (x : VarName) → Contains (vars_made (schedule j)) x → Contains (vars_made (schedule (e ∷ j))) x
      before x c = subst (λ (xs : List VarName). Contains xs x) (sym (vars_in_both (schedule j) e.picks)) (Contains-append_left (vars_made (schedule j)) (vars_made e.picks) x c)

      now : (x : VarName) → Contains (vars_made e.picks) x → Contains (vars_made (schedule (e ∷ j))) x
      now x c = subst (λ (xs : List VarName). Contains xs x) (sym (vars_in_both (schedule j) e.picks)) (Contains-append_right (vars_made (schedule j)) (vars_made e.picks) x c)

      by : (x : VarName) → x.site ≡ e.site → (x.num < (f e.site).counters.vars) ⊎ Contains (vars_among (fresh_in e.picks)) x → Contains (vars_made (schedule (e ∷ j))) x
      by x own (inl low) = before x (h.0 e.site x own low)
      by x own (inr c) = now x c

      mine : (x : VarName) → x.site ≡ e.site → x.num < d.site.counters.vars → Contains (vars_made (schedule (e ∷ j))) x
      mine x own low = by x own (t.vars x own low)

      tail_or : (m : ThreadName) (xs ys : List ThreadName) → ((z : ThreadName) → Contains xs z → Contains ys z) → Contains (first_thread ∷ xs) m → Contains (first_thread ∷ ys) m
      tail_or m xs ys g c = go (Contains-cons_cases first_thread m xs c)
        where
          go : (first_thread ≡ m) ⊎ Contains xs m → Contains (first_thread ∷ ys) m
          go (inl q) = subst (λ (z : ThreadName). Contains (first_thread ∷ ys) z) q (Contains-head first_thread ys)
          go (inr k) = Contains-tail first_thread m ys (g m k)

      before_thread : (m : ThreadName) → Contains (threads_made (schedule j)) m → Contains (threads_made (schedule (e ∷ j))) m
      before_thread m c = tail_or m (threads_among (fresh_in (schedule j))) (threads_among (fresh_in (schedule (e ∷ j))))
          (λ z k. subst (λ (xs : List ThreadName). Contains xs z) (sym (threads_in_both (schedule j) e.picks)) (Contains-append_left (threads_among (fresh_in (schedule j))) (threads_among (fresh_in e.picks)) z k)) c

      by_thread : (m : ThreadName) → m.site ≡ e.site → (m.num < (f e.site).counters.threads) ⊎ Contains (threads_among (fresh_in e.picks)) m → Contains (threads_made (schedule (e ∷ j))) m
      by_thread m own (inl low) = before_thread m (h.1 e.site m own low)
      by_thread m own (inr c) = Contains-tail first_thread m (threads_among (fresh_in (schedule (e ∷ j)))) (subst (λ (xs : List ThreadName). Contains xs m) (sym (threads_in_both (schedule j) e.picks)) (Contains-append_right (threads_among (fresh_in (schedule j))) (threads_among (fresh_in e.picks)) m c))

      my_thread : (m : ThreadName) → m.site ≡ e.site → m.num < d.site.counters.threads → Contains (threads_made (schedule (e ∷ j))) m
      my_thread m own low = by_thread m own (t.threads m own low)

      sent : count_by spawns (sent_of (e ∷ j)) ≤ length (threads_among (fresh_in (schedule (e ∷ j))))
      sent =
          let all : length (threads_among (fresh_in (schedule (e ∷ j)))) ≡ length (threads_among (fresh_in (schedule j))) + length (threads_among (fresh_in e.picks)) =
          ap (λ ns. length ns) (threads_in_both (schedule j) e.picks) ∙ length-append (threads_among (fresh_in (schedule j))) (threads_among (fresh_in e.picks)) in
          omega (arith, all, h.2, t.sent, count_append spawns (sent_of j) e.sent)

  pub scheduled_in : (j : List Turn) (f : Sites) → WorldRun p n limit j f → IsScheduled j f
  scheduled_in j f run = every_run p n limit IsScheduled ((λ i x own low. absurd (never_below x.num low)), first_only, omega arith) scheduled_entry j f run
    where
      only : (i : ℕ) (m : ThreadName) (b : Bool) → (i == 1) ≡ b → m.site ≡ i → m.num < cond b 1 0 → Contains (first_thread ∷ []) m
      only i m true q own low =
          let one : i ≡ 1 = (nat_decides i 1).0 q in
          subst (λ (z : ThreadName). Contains (first_thread ∷ []) z) (name_is m (own ∙ one) (omega (arith, low))) (Contains-head first_thread [])
        where
          name_is : (m : ThreadName) → m.site ≡ 1 → m.num ≡ 0 → first_thread ≡ m
          name_is m a b = same_names 1 0 m (sym a) (sym b)
            where
              same_names : (i k : ℕ) (m : ThreadName) → i ≡ m.site → k ≡ m.num → ◌≡◌ {A = ThreadName} (record { site = i; num = k }) m
              same_names i k m p q = rw (p, q) refl
      only i m false q own low = absurd (never_below m.num low)

      first_only : (i : ℕ) (m : ThreadName) → m.site ≡ i → m.num < (initial_site p n i).counters.threads → Contains (first_thread ∷ []) m
      first_only i m own low = only i m (i == 1) refl own low

pub spawns_are_few : SpawnsAreFew
spawns_are_few p n limit j f run = omega (arith, (scheduled_in p n limit j f run).2)

-- ---- Registers and Bindings

le_is : (a b : ℕ) → a ≤ b → nat_le a b ≡ true
le_is a b h = search (rules, arith, h)

is_kind_register : (x : VarName) (i to : ℕ) → is_register x i (record { to = to; msg = msg.Register x i }) ≡ true
is_kind_register x i to = rw (same_name_refl x, (nat_decides i i).1 refl) refl

is_kind_binding : (x : VarName) (t : Term) (es : List Equation) (to : ℕ) → is_binding x to (record { to = to; msg = msg.Binding x t es }) ≡ true
is_kind_binding x t es to = rw (same_name_refl x, (nat_decides to to).1 refl) refl

module _ (p : List Stmt) (n limit : ℕ) (j : List Turn) (f : Sites) (is : IsProgram p) (tokens : TokensServe p n limit) (run : WorldRun p n limit j f) where
  fits : WorldFits p n j f
  fits = run_fits p is n limit tokens j f run

  counts : AreCounted (records f) (messages (travelling j)) (sent_of j)
  counts = (counted_in p n limit j f run).1

  abbrev others : VarName → List ℕ
  others x = cond (nat_le 1 x.site && nat_le x.site n) (sites_but n x.site) []

  abbrev keys : List (VarName × ℕ)
  keys = pairs others (n - 1) (vars_made (schedule j))

  made_var : (x : VarName) → IsMadeVar n f x → Contains (vars_made (schedule j)) x
  made_var x (low, high, k) =
      let s = fits.sites x.site in
      (scheduled_in p n limit j f run).0 x.site x refl (s.1.names.counted x refl (s.1.names.within x k))

  -- a site that sent a Register, or was sent a Binding
  key_of : (x : VarName) (i : ℕ) → 1 ≤ register_count x i (sent_of j) → Contains {X = VarName × ℕ} keys (x, i)
  key_of x i h =
      let some : 1 ≤ met_count (i == x.site) (knowledge (records f i) x) = omega (arith, h, counts.once i x) in
      let m = met_some (i == x.site) (knowledge (records f i) x) some in
      let inside = known_inside p n limit j f run i x m.1 in
      let s = fits.sites i in
      let other : i ≢ x.site = λ (q : i ≡ x.site). let yes : (i == x.site) ≡ true = (nat_decides i x.site).1 q in let no : false ≡ true = sym m.0 ∙ yes in cc in
      let made : IsMadeVar n f x = s.2 x (s.1.names.within x m.1) in
      pair_in others (n - 1) (vars_made (schedule j)) x i (made_var x made) (of_range x i made.0 made.1 (site_in n x.site i inside.0 inside.1 other))
    where
      of_range : (x : VarName) (i : ℕ) → 1 ≤ x.site → x.site ≤ n → Contains (sites_but n x.site) i → Contains (others x) i
      of_range x i low high c = subst (λ (b : Bool). Contains (cond b (sites_but n x.site) []) i) (sym in_range) c
        where
          in_range : (nat_le 1 x.site && nat_le x.site n) ≡ true
          in_range = rw (le_is 1 x.site low, le_is x.site n high) refl

  few_keys : length keys ≤ length (vars_made (schedule j)) * (n - 1)
  few_keys = many_pairs others (n - 1) (vars_made (schedule j)) (λ x c. go x (nat_le 1 x.site) refl (nat_le x.site n) refl)
    where
      go : (x : VarName) (a : Bool) → nat_le 1 x.site ≡ a → (b : Bool) → nat_le x.site n ≡ b → length (cond (a && b) (sites_but n x.site) []) ≤ n - 1
      go x true q true r = others_few n x.site (leb-true 1 x.site q) (leb-true x.site n r)
      go x true q false r = omega arith
      go x false q b r = omega arith

  registers_few : count_by asks_to_know (sent_of j) ≤ length (vars_made (schedule j)) * (n - 1)
  registers_few = omega (arith, few_keys, few asks_to_know (λ (k : VarName × ℕ). is_register k.0 k.1) keys (sent_of j) key (λ k. (once_each p n limit j f run k.1 k.0).0))
    where
      of_msg : (to : ℕ) (m : Msg) → Contains (sent_of j) (record { to = to; msg = m }) → asks_to_know (record { to = to; msg = m }) ≡ true → (k : VarName × ℕ) × Contains keys k × (is_register k.0 k.1 (record { to = to; msg = m }) ≡ true)
      of_msg to (msg.Register x i) c e = ((x, i), key_of x i (there_counted (is_register x i) (sent_of j) (record { to = to; msg = msg.Register x i }) c (is_kind_register x i to)), is_kind_register x i to)
      of_msg to (msg.BindReq a b r d) c e = cc
      of_msg to (msg.Binding a b r) c e = cc
      of_msg to (msg.Spawn a b r d) c e = cc
      of_msg to (msg.Get a b) c e = cc
      of_msg to (msg.Forward a b) c e = cc
      of_msg to (msg.Put a b r) c e = cc
      of_msg to (msg.PortSend a b r) c e = cc
      of_msg to (msg.PortEnd a b r d) c e = cc
      of_msg to (msg.CellMake a b r) c e = cc
      of_msg to (msg.CellAsk a b r d k) c e = cc
      of_msg to (msg.CellOld a b r) c e = cc

      key : (m : Sent) → Contains (sent_of j) m → asks_to_know m ≡ true → (k : VarName × ℕ) × Contains keys k × (is_register k.0 k.1 m ≡ true)
      key m c e = of_msg m.to m.msg c e

  bindings_few : count_by tells_binding (sent_of j) ≤ length (vars_made (schedule j)) * (n - 1)
  bindings_few = omega (arith, few_keys, few tells_binding (λ (k : VarName × ℕ). is_binding k.0 k.1) keys (sent_of j) key (λ k. (once_each p n limit j f run k.1 k.0).1))
    where
      of_msg : (to : ℕ) (m : Msg) → Contains (sent_of j) (record { to = to; msg = m }) → tells_binding (record { to = to; msg = m }) ≡ true → (k : VarName × ℕ) × Contains keys k × (is_binding k.0 k.1 (record { to = to; msg = m }) ≡ true)
      of_msg to (msg.Binding x t es) c e =
          let sent : 1 ≤ binding_count x to (sent_of j) = there_counted (is_binding x to) (sent_of j) (record { to = to; msg = msg.Binding x t es }) c (is_kind_binding x t es to) in
          ((x, to), key_of x to (omega (arith, sent, counts.way to x)), is_kind_binding x t es to)
      of_msg to (msg.Register a b) c e = cc
      of_msg to (msg.BindReq a b r d) c e = cc
      of_msg to (msg.Spawn a b r d) c e = cc
      of_msg to (msg.Get a b) c e = cc
      of_msg to (msg.Forward a b) c e = cc
      of_msg to (msg.Put a b r) c e = cc
      of_msg to (msg.PortSend a b r) c e = cc
      of_msg to (msg.PortEnd a b r d) c e = cc
      of_msg to (msg.CellMake a b r) c e = cc
      of_msg to (msg.CellAsk a b r d k) c e = cc
      of_msg to (msg.CellOld a b r) c e = cc

      key : (m : Sent) → Contains (sent_of j) m → tells_binding m ≡ true → (k : VarName × ℕ) × Contains keys k × (is_binding k.0 k.1 m ≡ true)
      key m c e = of_msg m.to m.msg c e

pub registers_are_few : RegistersAreFew
registers_are_few p n limit j f is tokens run = (registers_few p n limit j f is tokens run, bindings_few p n limit j f is tokens run)

-- ---- requests to bind

is_kind_request : (m : ThreadName) (x : VarName) (t : Term) (es : List Equation) (to : ℕ) → is_request m x (record { to = to; msg = msg.BindReq x m t es }) ≡ true
is_kind_request m x t es to = rw ((same_thread_decides m m).1 refl, same_name_refl x) refl

module _ (p : List Stmt) (n limit : ℕ) (j : List Turn) (f : Sites) (is : IsProgram p) (tokens : TokensServe p n limit) (placed : ThreadsArePlaced p n limit) (run : WorldRun p n limit j f) where
  abbrev all_vars : ThreadName → List VarName
  all_vars m = vars_made (schedule j)

  abbrev asks_keys : List (ThreadName × VarName)
  asks_keys = pairs all_vars (length (vars_made (schedule j))) (threads_made (schedule j))

  world_fits : WorldFits p n j f
  world_fits = run_fits p is n limit tokens j f run

  request_key : (m : ThreadName) (x : VarName) → 1 ≤ requests m x (sent_of j) → IsMadeVar n f x → Contains {X = ThreadName × VarName} asks_keys (m, x)
  request_key m x some made =
      let real = (asked_in p n limit placed j f run).asked m x some in
      pair_in all_vars (length (vars_made (schedule j))) (threads_made (schedule j)) m x ((scheduled_in p n limit j f run).1 m.site m refl real.1) (made_var p n limit j f is tokens run x made)

  requests_few : count_by asks_to_bind (sent_of j) ≤ length (threads_made (schedule j)) * length (vars_made (schedule j))
  requests_few = omega (arith, many_pairs all_vars (length (vars_made (schedule j))) (threads_made (schedule j)) (λ m c. omega arith), few asks_to_bind (λ (k : ThreadName × VarName). is_request k.0 k.1) asks_keys (sent_of j) key (λ k. asks_are_few p n limit j f placed run k.0 k.1))
    where
      of_msg : (to : ℕ) (o : Msg) → Contains (sent_of j) (record { to = to; msg = o }) → asks_to_bind (record { to = to; msg = o }) ≡ true → (k : ThreadName × VarName) × Contains asks_keys k × (is_request k.0 k.1 (record { to = to; msg = o }) ≡ true)
      of_msg to (msg.BindReq x m t es) c e =
          let here = is_kind_request m x t es to in
          let made : IsMadeVar n f x = (each_member (IsFittingMsg p n f) (sent_of j) (record { to = to; msg = msg.BindReq x m t es }) world_fits.messages c).1 x (Contains-head x _) in
          ((m, x), request_key m x (there_counted (is_request m x) (sent_of j) (record { to = to; msg = msg.BindReq x m t es }) c here) made, here)
      of_msg to (msg.Register a b) c e = cc
      of_msg to (msg.Binding a b r) c e = cc
      of_msg to (msg.Spawn a b r d) c e = cc
      of_msg to (msg.Get a b) c e = cc
      of_msg to (msg.Forward a b) c e = cc
      of_msg to (msg.Put a b r) c e = cc
      of_msg to (msg.PortSend a b r) c e = cc
      of_msg to (msg.PortEnd a b r d) c e = cc
      of_msg to (msg.CellMake a b r) c e = cc
      of_msg to (msg.CellAsk a b r d k) c e = cc
      of_msg to (msg.CellOld a b r) c e = cc

      key : (m : Sent) → Contains (sent_of j) m → asks_to_bind m ≡ true → (k : ThreadName × VarName) × Contains asks_keys k × (is_request k.0 k.1 m ≡ true)
      key m c e = of_msg m.to m.msg c e

pub requests_are_few : RequestsAreFew
requests_are_few p n limit j f is tokens placed run = requests_few p n limit j f is tokens placed run

pub messages_are_few : FewWhereTokensServe
messages_are_few p n limit j f is tokens placed run =
    let a = spawns_are_few p n limit j f run in
    let b = registers_are_few p n limit j f is tokens run in
    let c = requests_are_few p n limit j f is tokens placed run in
    omega (arith, a, b.0, b.1, c)
