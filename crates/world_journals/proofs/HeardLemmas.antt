-- Where threads are after a message: those that were there, and the one that it brings.
use Rattle.std.proofs.Common.{◌≡◌, ◌≢◌, ◌∙◌, sym, ap, refl, subst, ℕ, List, [], ◌∷◌, ◌++◌, append-nil, ◌⊎◌, inl, inr, Bool, true, false, cond, Some, None}
use Rattle.std.specs.Prelude.{Option, Contains, unwrap_or, ◌==◌}
use Rattle.std.proofs.lemmas.List.Elements.{Contains-append_cases}
use Rattle.indexmap.specs.IndexMap.{insert_entry}
use Rattle.tree_node.specs.declared.names.VarName.{VarName}
use Rattle.tree_node.specs.declared.names.CellName.{CellName}
use Rattle.tree_node.specs.declared.names.ThreadName.{ThreadName}
use Rattle.tree_node.specs.declared.names.Name.TheVariants as name
use Rattle.tree_node.specs.declared.node.Term.{Term}
use Rattle.tree_node.specs.declared.item.Item.TheVariants as item
use Rattle.tree_node.specs.declared.pick.Pick.{Pick}
use Rattle.tree_node.specs.Assoc.{value_of, with_value, with_optional_value}
use Rattle.tree_node.specs.Env.{env_for}
use Rattle.tree_node.specs.Goal.{equal_cell}
use Rattle.tree_node.specs.State.{equal_thread}
use Rattle.tree_node.specs.Store.{Equation}
use Rattle.tree_node.proofs.ClassLemmas.{Contains-cons_cases, Contains-head, Contains-tail}
use Rattle.tree_node.proofs.NameLemmas.{same_thread_decides}
use Rattle.kernel_syntax.specs.declared.stmt.Stmt.{Stmt}
use Rattle.kernel_syntax.specs.Free.{free}
use Rattle.site_message.specs.declared.message.Msg.{Msg}
use Rattle.site_message.specs.declared.message.Msg.TheVariants as msg
use Rattle.oz_model.specs.Effect.{Birth}
use Rattle.oz_model.specs.Step.{threads_born}
use Rattle.oz_model.proofs.KindLemmas.{equal_cell_decides}
use Rattle.bind_protocol.specs.Records.{is_own, knowledge}
use Rattle.thread_roster.specs.declared.mode.Mode.{Mode}
use Rattle.thread_roster.specs.Binds.{goes_on}
use Rattle.thread_roster.specs.Threads.{wake_where}
use Rattle.bind_protocol.specs.Rows.{sent_message}
use Rattle.site_model.specs.Requests.{Answer, NewEnd, OldContent, answered_stack, after_answer, next_var, with_early, with_home_content, cell_ask_row, serve_request, serve_early}
use Rattle.site_model.specs.Site.{Site, ThreadState, Threads, CellRecord, HomeRecord, EarlyRequest, thread_state, cell_record, cell_record_in, with_cell_record, home_record, with_home_record, unheard_cell, runnable_threads}
use Rattle.site_model.specs.Bundle.{with_own_bundle, message_bundle}
use Rattle.site_model.specs.Transition.{Transition, without_output, with_messages, with_pick, and_then}
use Rattle.site_model.specs.Variables.{with_new_equation, with_known_equation, with_known_equations, own_bind, opening}
use Rattle.site_model.specs.Cells.{serving, leave_row, effect_here, step_pick, exchange_stack, after_exchange, content_after_exchange}
use Rattle.site_model.specs.Messages.{with_thread, birth, bind_pick, bind_request_row, message_row}
use Rattle.site_model.specs.Turn.{IsReception}
use Rattle.thread_roster.specs.declared.mode.Mode.TheVariants.{Runs}
use Rattle.world_model.proofs.KeyLemmas.{goes_cases, woken_old}
use Rattle.world_model.specs.Claims.{home_in}
use Rattle.world_model.proofs.MailLemmas.{nothing}
use Rattle.world_messages.specs.Messages.{fresh_in, threads_among}
use Rattle.world_messages.proofs.HomeRowLemmas.{told_all_same}
use Rattle.world_messages.proofs.PickLemmas.{heard_quiet, threads_in_both}
use Rattle.world_messages.proofs.TermLemmas.{value_cases}
use Rattle.world_journals.specs.Places.{AsksFor}
use Rattle.world_journals.proofs.PartPlaceLemmas.{IsHere, Part, still_part}
use Rattle.site_model.proofs.CellKeyLemmas.{entry_here, entry_other, place_here, place_other}

-- ---- lists of those that wait

-- who is listed after one cell's record changed was listed before, or stands in the new record
pub listed_cases : (qs : List (CellName × CellRecord)) (c d : CellName) (q : CellRecord) (th : ThreadName) → Contains (cell_record_in (insert_entry equal_cell qs c q) d).queue th → Contains q.queue th ⊎ Contains (cell_record_in qs d).queue th
listed_cases qs c d q th h = go (equal_cell d c) refl
  where
    go : (b : Bool) → equal_cell d c ≡ b → Contains q.queue th ⊎ Contains (cell_record_in qs d).queue th
    go true e =
        let same : d ≡ c = (equal_cell_decides d c).0 e in
        inl (subst (λ (r : CellRecord). Contains r.queue th) (place_here qs c q) (subst (λ (z : CellName). Contains (cell_record_in (insert_entry equal_cell qs c q) z).queue th) same h))
    go false e =
        let other : d ≢ c = λ z. (let yes : equal_cell d c ≡ true = (equal_cell_decides d c).1 z in cc) in
        inr (subst (λ (r : CellRecord). Contains r.queue th) (place_other qs c d q other) h)

pub born_name : (p : List Stmt) (b : Birth) (th : ThreadName) (v : ThreadState) → value_of equal_thread (runnable_threads (threads_born p (Some b))) th ≡ Some v → b.name ≡ th
born_name p b th v e = go (equal_thread b.name th) refl e
  where
    go : (c : Bool) → equal_thread b.name th ≡ c → cond {A = Option ThreadState} c (Some (item.Run b.code (env_for (free p b.code) b.vars) ∷ [], Runs)) None ≡ Some v → b.name ≡ th
    go true q k = (same_thread_decides b.name th).0 q
    go false q k = cc

module _ (C : ThreadName → Type 0) where
  -- a change of the site that brings no thread
  abbrev pub Keeps : Site → Site → Type 0
  Keeps s t = (th : ThreadName) → IsHere C t th → IsHere C s th

  pub moves : (s t : Site) → ((th : ThreadName) (v : ThreadState) → thread_state t th ≡ Some v → IsHere C s th) → ((c : CellName) (th : ThreadName) → Contains (cell_record t c).queue th → IsHere C s th) → Keeps s t
  moves s t stand listed th (inl (v, at)) = stand th v at
  moves s t stand listed th (inr (inl (c, at))) = listed c th at
  moves s t stand listed th (inr (inr h)) = inr (inr h)

  -- a cell's record with the same list, or with members that are here
  pub replies : (s : Site) (c : CellName) (q : CellRecord) → ((th : ThreadName) → Contains q.queue th → IsHere C s th) → Keeps s (with_cell_record s c q)
  replies s c q all = moves s (with_cell_record s c q) (λ th v at. inl (v, at)) (λ d th at. by d th (listed_cases s.cell_records c d q th at))
    where
      by : (d : CellName) (th : ThreadName) → Contains q.queue th ⊎ Contains (cell_record s d).queue th → IsHere C s th
      by d th (inl k) = all th k
      by d th (inr k) = inr (inl (d, k))

  pub wakes : (s t : Site) (f : Mode → Bool) → t.threads ≡ wake_where f s.threads → t.cell_records ≡ s.cell_records → Keeps s t
  wakes s t f threads cells = moves s t stand (λ c th at. inr (inl (c, subst (λ (qs : List (CellName × CellRecord)). Contains (cell_record_in qs c).queue th) cells at)))
    where
      stand : (th : ThreadName) (v : ThreadState) → thread_state t th ≡ Some v → IsHere C s th
      stand th v at =
          let o = woken_old f s.threads th v.0 v.1 (subst (λ (ts : Threads). value_of equal_thread ts th ≡ Some v) threads at) in
          inl ((v.0, o.0), o.1)

  -- a thread that was there goes on
  pub goes : (s t : Site) (n : ThreadName) (u : ThreadState) (r : Option ThreadState) → t.threads ≡ with_optional_value equal_thread s.threads n r → t.cell_records ≡ s.cell_records → thread_state s n ≡ Some u → Keeps s t
  goes s t n u r threads cells at = moves s t (λ th w h. by th w (goes_cases equal_thread same_thread_decides s.threads n th r u w at (subst (λ (ts : Threads). value_of equal_thread ts th ≡ Some w) threads h)))
      (λ c th h. inr (inl (c, subst (λ (qs : List (CellName × CellRecord)). Contains (cell_record_in qs c).queue th) cells h)))
    where
      by : (th : ThreadName) (w : ThreadState) → ((th ≡ n) × (r ≡ Some w)) ⊎ ((n ≢ th) × (value_of equal_thread s.threads th ≡ Some w)) → IsHere C s th
      by th w (inl k) = inl (u, subst (λ (z : ThreadName). thread_state s z ≡ Some u) (sym k.0) at)
      by th w (inr k) = inl (w, k.1)

  -- ---- a message is opened

  told_keeps : (s : Site) (x : VarName) (t : Term) → Keeps s (with_known_equation s x t)
  told_keeps s x t = go (is_own s.records x) refl (knowledge s.records x) refl
    where
      go : (b : Bool) → is_own s.records x ≡ b → (o : Option (Option Term)) → knowledge s.records x ≡ o → Keeps s (with_known_equation s x t)
      go true q o k = rw (k, q) (λ th h. h)
      go false q None k = rw (k, q) (wakes s (with_new_equation s x t) (goes_on ((x, t) ∷ s.equations) x) refl refl)
      go false q (Some None) k = rw (k, q) (wakes s (with_new_equation s x t) (goes_on ((x, t) ∷ s.equations) x) refl refl)
      go false q (Some (Some r)) k = rw (k, q) (λ th h. h)

  told_all_keep : (es : List Equation) (s : Site) → Keeps s (with_known_equations s es)
  told_all_keep [] s th h = h
  told_all_keep (e ∷ es) s th h = told_keeps s e.0 e.1 th (told_all_keep es (with_known_equation s e.0 e.1) th h)

  opens_keep : (m : Msg) (s : Site) → Keeps s (opening m s).site
  opens_keep m s th h = told_all_keep (message_bundle m) s th h

  -- ---- rows

  starts_keep : (p : List Stmt) (b : Birth) (s : Site) → C b.name → Keeps s (with_thread p (Some b) s)
  starts_keep p b s comes = moves s (with_thread p (Some b) s) (λ th v at. by th v (value_cases (runnable_threads (threads_born p (Some b))) s.threads th v at)) (λ c th at. inr (inl (c, at)))
    where
      by : (th : ThreadName) (v : ThreadState) → (value_of equal_thread (runnable_threads (threads_born p (Some b))) th ≡ Some v) ⊎ (value_of equal_thread s.threads th ≡ Some v) → IsHere C s th
      by th v (inl k) = inr (inr (subst C (born_name p b th v k) comes))
      by th v (inr k) = inl (v, k)

  module _ (p : List Stmt) (limit : ℕ) where
    asked_keeps : (x : VarName) (t : Term) (n : ThreadName) (s : Site) → Keeps s (bind_request_row limit x t n s).site
    asked_keeps x t n s = go (knowledge s.records x) refl
      where
        go : (o : Option (Option Term)) → knowledge s.records x ≡ o → Keeps s (bind_request_row limit x t n s).site
        go None q = rw q (λ th h. h)
        go (Some None) q = rw q (wakes s (own_bind limit x t s).site (goes_on ((x, t) ∷ s.equations) x) refl refl)
        go (Some (Some r)) q = rw q (λ th h. h)

    exchange_keeps : (n : ThreadName) (v : VarName) (s : Site) → Keeps s (after_exchange p n v s)
    exchange_keeps n v s = go (thread_state s n) refl
      where
        go : (o : Option ThreadState) → thread_state s n ≡ o → Keeps s (after_exchange p n v s)
        go None q = rw q (λ th h. h)
        go (Some u) q = rw q (goes s (record s { threads = with_value equal_thread s.threads n (exchange_stack v (effect_here p s [] None u.0).cell (effect_here p s [] None u.0).stack, Runs) }) n u (Some (exchange_stack v (effect_here p s [] None u.0).cell (effect_here p s [] None u.0).stack, Runs)) refl refl q)

    serves_keep : (c : CellName) (ns : List ThreadName) (v : VarName) (s : Site) → Keeps s (serving p c ns v s).site
    serves_keep c [] v s th h = replies s c _ (λ o k. absurd (nothing o k)) th h
    serves_keep c (n ∷ ns) v s th h = exchange_keeps n v s th (serves_keep c ns (content_after_exchange p n v s) (after_exchange p n v s) th h)

    leave_keeps : (c : CellName) (s : Site) → Keeps s (leave_row limit c s).site
    leave_keeps c s = replies s c _ (λ th k. inr (inl (c, k)))

    -- ---- ports and stationary cells

    answer_keeps : (n : ThreadName) (a : Answer) (s : Site) → Keeps s (after_answer p n a s)
    answer_keeps n a s = go (thread_state s n) refl
      where
        go : (o : Option ThreadState) → thread_state s n ≡ o → Keeps s (after_answer p n a s)
        go None q = rw q (λ th h. h)
        go (Some u) q = rw q (goes s (record s { threads = with_value equal_thread s.threads n (answered_stack p s a u.0, Runs) }) n u (Some (answered_stack p s a u.0, Runs)) refl refl q)

    -- a request that is served
    abbrev served : CellName → EarlyRequest → VarName → Site → Bool → Transition
    served c r v s b = cond b (with_pick (after_answer p r.thread (OldContent v) (with_home_content c r.new s)) (step_pick r.thread [] None))
        (and_then (with_pick (with_home_content c r.new s) (step_pick r.thread [] None)) (λ t. with_messages t (with_own_bundle limit t.equations (sent_message r.asking (msg.CellOld r.thread v [])) ∷ [])))

    serve_keeps : (c : CellName) (r : EarlyRequest) (v : VarName) (s : Site) → Keeps s (serve_request p limit c r v s).site
    serve_keeps c r v s = go (r.asking == s.records.site)
      where
        go : (b : Bool) → Keeps s (served c r v s b).site
        go true th h = answer_keeps r.thread (OldContent v) (with_home_content c r.new s) th h
        go false th h = h

    early_keeps : (c : CellName) (rs : List EarlyRequest) (v : VarName) (s : Site) → Keeps s (serve_early p limit c v rs s).site
    early_keeps c [] v s th h = h
    early_keeps c (r ∷ rs) v s th h = serve_keeps c r v s th (early_keeps c rs r.new (serve_request p limit c r v s).site th h)

    ask_keeps : (c : CellName) (r : EarlyRequest) (s : Site) → Keeps s (cell_ask_row p limit c r s).site
    ask_keeps c r s = go (home_record s c).content refl
      where
        go : (o : Option VarName) → (home_record s c).content ≡ o → Keeps s (cell_ask_row p limit c r s).site
        go None q = rw q (λ th h. h)
        go (Some v) q = rw q (serve_keeps c r v s)

    -- where the thread that a message brings comes
    abbrev pub Comes : Msg → Type 0
    Comes (msg.Spawn n code vars bundle) = C n
    Comes m = Unit {0}

    row_keeps : (m : Msg) (s : Site) → Comes m → Keeps s (message_row p limit m s).site
    row_keeps (msg.Spawn n code vars es) s comes th h = starts_keep p (birth n code vars) s comes th h
    row_keeps (msg.Register x k) s comes th h = h
    row_keeps (msg.BindReq x n t es) s comes th h = asked_keeps x t n s th h
    row_keeps (msg.Binding x t es) s comes th h = told_keeps s x t th h
    row_keeps (msg.Get c k) s comes th h = replies s c _ (λ o q. inr (inl (c, q))) th h
    row_keeps (msg.Forward c k) s comes th h = replies s c _ (λ o q. inr (inl (c, q))) th h
    row_keeps (msg.Put c v es) s comes th h = serves_keep c (cell_record s c).queue v s th (leave_keeps c (serving p c (cell_record s c).queue v s).site th h)
    row_keeps (msg.PortSend q n k) s comes th h = h
    row_keeps (msg.PortEnd n old new es) s comes th h = answer_keeps n (NewEnd old new) s th h
    row_keeps (msg.CellMake c v es) s comes th h = early_keeps c (home_record s c).early v s th h
    row_keeps (msg.CellAsk c n k v es) s comes th h = ask_keeps c (record { thread = n; asking = k; new = v }) s th h
    row_keeps (msg.CellOld n v es) s comes th h = answer_keeps n (OldContent v) s th h

    -- ---- picks

    -- the pick is what the message asks for, of a home that keeps this of its cells
    abbrev pub IsAsked : Option Msg → List (CellName × HomeRecord) → Pick → Type 0
    IsAsked (Some (msg.BindReq x n t bundle)) hs k = k ≡ bind_pick n x t
    IsAsked (Some (msg.PortSend q n a)) hs k = (x : VarName) × (k ≡ step_pick n (name.Var x ∷ []) None)
    IsAsked (Some (msg.CellAsk c n a v bundle)) hs k = k ≡ step_pick n [] None
    IsAsked (Some (msg.CellMake c v bundle)) hs k = (r : EarlyRequest) × Contains (home_in hs c).early r × (k ≡ step_pick r.thread [] None)
    IsAsked m hs k = ⊥

    -- a pick without fresh names of threads, requested or of a thread that is here
    abbrev Lawful : Msg → Site → Pick → Type 0
    Lawful m s k = (threads_among k.fresh ≡ []) × (IsAsked (Some m) s.homes k ⊎ IsHere C s k.thread)

    one_lawful : (m : Msg) (s : Site) (k l : Pick) → Lawful m s k → Contains (k ∷ []) l → Lawful m s l
    one_lawful m s k l h c = by (Contains-cons_cases k l [] c)
      where
        by : (k ≡ l) ⊎ Contains [] l → Lawful m s l
        by (inl e) = subst (Lawful m s) e h
        by (inr k) = absurd (nothing l k)

    asked_picks : (x : VarName) (n : ThreadName) (t : Term) (es : List Equation) (s : Site) (k : Pick) → Contains (bind_request_row limit x t n s).picks k → Lawful (msg.BindReq x n t es) s k
    asked_picks x n t es s k = go (knowledge s.records x) refl
      where
        go : (o : Option (Option Term)) → knowledge s.records x ≡ o → Contains (bind_request_row limit x t n s).picks k → Lawful (msg.BindReq x n t es) s k
        go None q = rw q (λ c. absurd (nothing k c))
        go (Some None) q = rw q (λ c. one_lawful (msg.BindReq x n t es) s (bind_pick n x t) k (refl, inl refl) c)
        go (Some (Some r)) q = rw q (λ c. absurd (nothing k c))

    serves_picks : (c : CellName) (ns : List ThreadName) (v : VarName) (s : Site) (k : Pick) → Contains (serving p c ns v s).picks k → (threads_among k.fresh ≡ []) × Contains ns k.thread
    serves_picks c [] v s k h = absurd (nothing k h)
    serves_picks c (n ∷ ns) v s k h = by (Contains-cons_cases (step_pick n [] None) k _ h) (λ q. serves_picks c ns (content_after_exchange p n v s) (after_exchange p n v s) k q)
      where
        by : (step_pick n [] None ≡ k) ⊎ Contains (serving p c ns (content_after_exchange p n v s) (after_exchange p n v s)).picks k → (Contains (serving p c ns (content_after_exchange p n v s) (after_exchange p n v s)).picks k → (threads_among k.fresh ≡ []) × Contains ns k.thread) → (threads_among k.fresh ≡ []) × Contains (n ∷ ns) k.thread
        by (inl e) ih = subst (λ (l : Pick). (threads_among l.fresh ≡ []) × Contains (n ∷ ns) l.thread) e (refl, Contains-head n ns)
        by (inr q) ih = let r = ih q in (r.0, Contains-tail n k.thread ns r.1)

    put_picks : (c : CellName) (v : VarName) (es : List Equation) (s : Site) (k : Pick) → Contains (serving p c (cell_record s c).queue v s).picks k ⊎ Contains [] k → Lawful (msg.Put c v es) s k
    put_picks c v es s k (inl h) = let r = serves_picks c (cell_record s c).queue v s k h in (r.0, inr (inr (inl (c, r.1))))
    put_picks c v es s k (inr h) = absurd (nothing k h)

    one_pick : (c : CellName) (r : EarlyRequest) (v : VarName) (s : Site) (k : Pick) → Contains (serve_request p limit c r v s).picks k → k ≡ step_pick r.thread [] None
    one_pick c r v s k = go (r.asking == s.records.site)
      where
        by : (step_pick r.thread [] None ≡ k) ⊎ Contains [] k → k ≡ step_pick r.thread [] None
        by (inl e) = sym e
        by (inr q) = absurd (nothing k q)

        go : (b : Bool) → Contains (served c r v s b).picks k → k ≡ step_pick r.thread [] None
        go true h = by (Contains-cons_cases (step_pick r.thread [] None) k [] h)
        go false h = by (Contains-cons_cases (step_pick r.thread [] None) k [] h)

    early_picks : (c : CellName) (rs : List EarlyRequest) (v : VarName) (s : Site) (k : Pick) → Contains (serve_early p limit c v rs s).picks k → (r : EarlyRequest) × Contains rs r × (k ≡ step_pick r.thread [] None)
    early_picks c [] v s k h = absurd (nothing k h)
    early_picks c (r ∷ rs) v s k h = by (Contains-append_cases (serve_request p limit c r v s).picks (serve_early p limit c r.new rs (serve_request p limit c r v s).site).picks k h) (λ q. early_picks c rs r.new (serve_request p limit c r v s).site k q)
      where
        by : Contains (serve_request p limit c r v s).picks k ⊎ Contains (serve_early p limit c r.new rs (serve_request p limit c r v s).site).picks k →
            (Contains (serve_early p limit c r.new rs (serve_request p limit c r v s).site).picks k → (q : EarlyRequest) × Contains rs q × (k ≡ step_pick q.thread [] None)) → (q : EarlyRequest) × Contains (r ∷ rs) q × (k ≡ step_pick q.thread [] None)
        by (inl q) ih = (r, Contains-head r rs, one_pick c r v s k q)
        by (inr q) ih = let x = ih q in (x.0, Contains-tail r x.0 rs x.1, x.2)

    ask_picks : (c : CellName) (n : ThreadName) (a : ℕ) (v : VarName) (es : List Equation) (s : Site) (k : Pick) → Contains (cell_ask_row p limit c (record { thread = n; asking = a; new = v }) s).picks k → Lawful (msg.CellAsk c n a v es) s k
    ask_picks c n a v es s k = go (home_record s c).content refl
      where
        go : (o : Option VarName) → (home_record s c).content ≡ o → Contains (cell_ask_row p limit c (record { thread = n; asking = a; new = v }) s).picks k → Lawful (msg.CellAsk c n a v es) s k
        go None q = rw q (λ h. absurd (nothing k h))
        go (Some u) q = rw q (λ h. let e = one_pick c (record { thread = n; asking = a; new = v }) u s k h in (ap (λ (l : Pick). threads_among l.fresh) e, inl e))

    -- ---- requests that are kept

    -- what is kept of a cell changes
    kept_cases : (hs : List (CellName × HomeRecord)) (c d : CellName) (q : HomeRecord) (r : EarlyRequest) → Contains (home_in (insert_entry equal_cell hs c q) d).early r → ((d ≡ c) × Contains q.early r) ⊎ Contains (home_in hs d).early r
    kept_cases hs c d q r at = go (equal_cell d c) refl
      where
        go : (b : Bool) → equal_cell d c ≡ b → ((d ≡ c) × Contains q.early r) ⊎ Contains (home_in hs d).early r
        go true e =
            let same : d ≡ c = (equal_cell_decides d c).0 e in
            inl (same, subst (λ (o : Option HomeRecord). Contains (unwrap_or o unheard_cell).early r) (entry_here hs c q) (subst (λ (z : CellName). Contains (home_in (insert_entry equal_cell hs c q) z).early r) same at))
        go false e =
            let other : d ≢ c = λ (z : d ≡ c). let yes : equal_cell d c ≡ true = (equal_cell_decides d c).1 z in cc in
            inr (subst (λ (o : Option HomeRecord). Contains (unwrap_or o unheard_cell).early r) (entry_other hs c d q other) at)

    -- no request comes
    abbrev pub Loses : Site → Site → Type 0
    Loses s t = (d : CellName) (r : EarlyRequest) → Contains (home_record t d).early r → Contains (home_record s d).early r

    pub content_loses : (c : CellName) (v : VarName) (s : Site) → Loses s (with_home_content c v s)
    content_loses c v s d r at = by (kept_cases s.homes c d (record (home_record s c) { content = Some v }) r at)
      where
        by : ((d ≡ c) × Contains (home_record s c).early r) ⊎ Contains (home_record s d).early r → Contains (home_record s d).early r
        by (inl (e, k)) = subst (λ (z : CellName). Contains (home_record s z).early r) (sym e) k
        by (inr k) = k

    pub made_loses : (c : CellName) (v : VarName) (s : Site) → Loses s (with_home_record s c (record { content = Some v; early = [] }))
    made_loses c v s d r at = by (kept_cases s.homes c d (record { content = Some v; early = [] }) r at)
      where
        by : ((d ≡ c) × Contains [] r) ⊎ Contains (home_record s d).early r → Contains (home_record s d).early r
        by (inl (e, k)) = absurd (nothing r k)
        by (inr k) = k

    same_loses : (s t : Site) → t.homes ≡ s.homes → Loses s t
    same_loses s t e d r at = subst (λ (hs : List (CellName × HomeRecord)). Contains (home_in hs d).early r) e at

    pub answer_homes : (n : ThreadName) (a : Answer) (s : Site) → (after_answer p n a s).homes ≡ s.homes
    answer_homes n a s = go (thread_state s n) refl
      where
        go : (o : Option ThreadState) → thread_state s n ≡ o → (after_answer p n a s).homes ≡ s.homes
        go None q = rw q refl
        go (Some u) q = rw q refl

    serve_loses : (c : CellName) (r : EarlyRequest) (v : VarName) (s : Site) → Loses s (serve_request p limit c r v s).site
    serve_loses c r v s = go (r.asking == s.records.site)
      where
        go : (b : Bool) → Loses s (served c r v s b).site
        go true d q at = content_loses c r.new s d q (same_loses (with_home_content c r.new s) (after_answer p r.thread (OldContent v) (with_home_content c r.new s)) (answer_homes r.thread (OldContent v) (with_home_content c r.new s)) d q at)
        go false d q at = content_loses c r.new s d q at

    early_loses : (c : CellName) (rs : List EarlyRequest) (v : VarName) (s : Site) → Loses s (serve_early p limit c v rs s).site
    early_loses c [] v s d q at = made_loses c v s d q at
    early_loses c (r ∷ rs) v s d q at = serve_loses c r v s d q (early_loses c rs r.new (serve_request p limit c r v s).site d q at)

    -- a request that is kept then is of this thread for this cell, or was kept
    pub early_comes : (c : CellName) (r : EarlyRequest) (s : Site) (d : CellName) (q : EarlyRequest) → Contains (home_record (with_early c r s) d).early q → ((d ≡ c) × (r ≡ q)) ⊎ Contains (home_record s d).early q
    early_comes c r s d q at = by (kept_cases s.homes c d (record (home_record s c) { early = (home_record s c).early ++ r ∷ [] }) q at)
      where
        last : d ≡ c → (r ≡ q) ⊎ Contains [] q → ((d ≡ c) × (r ≡ q)) ⊎ Contains (home_record s d).early q
        last e (inl k) = inl (e, k)
        last e (inr k) = absurd (nothing q k)

        in_list : d ≡ c → Contains (home_record s c).early q ⊎ Contains (r ∷ []) q → ((d ≡ c) × (r ≡ q)) ⊎ Contains (home_record s d).early q
        in_list e (inl k) = inr (subst (λ (z : CellName). Contains (home_record s z).early q) (sym e) k)
        in_list e (inr k) = last e (Contains-cons_cases r q [] k)

        by : ((d ≡ c) × Contains ((home_record s c).early ++ r ∷ []) q) ⊎ Contains (home_record s d).early q → ((d ≡ c) × (r ≡ q)) ⊎ Contains (home_record s d).early q
        by (inl (e, k)) = in_list e (Contains-append_cases (home_record s c).early (r ∷ []) q k)
        by (inr k) = inr k

    exchange_homes : (n : ThreadName) (v : VarName) (s : Site) → (after_exchange p n v s).homes ≡ s.homes
    exchange_homes n v s = go (thread_state s n) refl
      where
        go : (o : Option ThreadState) → thread_state s n ≡ o → (after_exchange p n v s).homes ≡ s.homes
        go None q = rw q refl
        go (Some u) q = rw q refl

    pub serves_homes : (c : CellName) (ns : List ThreadName) (v : VarName) (s : Site) → (serving p c ns v s).site.homes ≡ s.homes
    serves_homes c [] v s = refl
    serves_homes c (n ∷ ns) v s = serves_homes c ns (content_after_exchange p n v s) (after_exchange p n v s) ∙ exchange_homes n v s

    pub asked_homes : (x : VarName) (t : Term) (n : ThreadName) (s : Site) → (bind_request_row limit x t n s).site.homes ≡ s.homes
    asked_homes x t n s = go (knowledge s.records x) refl
      where
        go : (o : Option (Option Term)) → knowledge s.records x ≡ o → (bind_request_row limit x t n s).site.homes ≡ s.homes
        go None q = rw q refl
        go (Some None) q = rw q refl
        go (Some (Some r)) q = rw q refl

    pub told_homes : (es : List Equation) (s : Site) → (with_known_equations s es).homes ≡ s.homes
    told_homes es s = told_all_same (λ (t : Site). t.homes) (λ t x r. refl) es s

    -- the requests that come with a message
    abbrev pub Brought : Msg → CellName → ThreadName → Type 0
    Brought m c th = AsksFor c th (Some m)

    abbrev Keeping : Msg → Site → Site → Type 0
    Keeping m s t = (d : CellName) (r : EarlyRequest) → Contains (home_record t d).early r → Contains (home_record s d).early r ⊎ Brought m d r.thread

    losing : (m : Msg) (s t : Site) → Loses s t → Keeping m s t
    losing m s t h d r at = inl (h d r at)

    ask_keeping : (c : CellName) (n : ThreadName) (a : ℕ) (v : VarName) (es : List Equation) (s : Site) → Keeping (msg.CellAsk c n a v es) s (cell_ask_row p limit c (record { thread = n; asking = a; new = v }) s).site
    ask_keeping c n a v es s = go (home_record s c).content refl
      where
        by : (d : CellName) (r : EarlyRequest) → ((d ≡ c) × (◌≡◌ {A = EarlyRequest} (record { thread = n; asking = a; new = v }) r)) ⊎ Contains (home_record s d).early r → Contains (home_record s d).early r ⊎ Brought (msg.CellAsk c n a v es) d r.thread
        by d r (inl (e, k)) = inr (sym e, ap (λ (q : EarlyRequest). q.thread) k)
        by d r (inr k) = inl k

        go : (o : Option VarName) → (home_record s c).content ≡ o → Keeping (msg.CellAsk c n a v es) s (cell_ask_row p limit c (record { thread = n; asking = a; new = v }) s).site
        go None q = rw q (λ d r at. by d r (early_comes c (record { thread = n; asking = a; new = v }) s d r at))
        go (Some u) q = rw q (losing (msg.CellAsk c n a v es) s (serve_request p limit c (record { thread = n; asking = a; new = v }) u s).site (serve_loses c (record { thread = n; asking = a; new = v }) u s))

    row_keeping : (m : Msg) (s : Site) → Keeping m s (message_row p limit m s).site
    row_keeping (msg.Spawn n code vars es) s d r at = inl at
    row_keeping (msg.Register x k) s d r at = inl at
    row_keeping (msg.BindReq x n t es) s d r at = inl (same_loses s (bind_request_row limit x t n s).site (asked_homes x t n s) d r at)
    row_keeping (msg.Binding x t es) s d r at = inl (same_loses s (with_known_equation s x t) (told_homes ((x, t) ∷ []) s) d r at)
    row_keeping (msg.Get c k) s d r at = inl at
    row_keeping (msg.Forward c k) s d r at = inl at
    row_keeping (msg.Put c v es) s d r at = inl (same_loses s (serving p c (cell_record s c).queue v s).site (serves_homes c (cell_record s c).queue v s) d r at)
    row_keeping (msg.PortSend q n k) s d r at = inl at
    row_keeping (msg.PortEnd n old new es) s d r at = inl (same_loses s (after_answer p n (NewEnd old new) s) (answer_homes n (NewEnd old new) s) d r at)
    row_keeping (msg.CellMake c v es) s d r at = inl (early_loses c (home_record s c).early v s d r at)
    row_keeping (msg.CellAsk c n a v es) s d r at = ask_keeping c n a v es s d r at
    row_keeping (msg.CellOld n v es) s d r at = inl (same_loses s (after_answer p n (OldContent v) s) (answer_homes n (OldContent v) s) d r at)

    row_picks : (m : Msg) (s : Site) (k : Pick) → Contains (message_row p limit m s).picks k → Lawful m s k
    row_picks (msg.Spawn n code vars es) s k c = absurd (nothing k c)
    row_picks (msg.Register x a) s k c = absurd (nothing k c)
    row_picks (msg.BindReq x n t es) s k c = asked_picks x n t es s k c
    row_picks (msg.Binding x t es) s k c = absurd (nothing k c)
    row_picks (msg.Get d a) s k c = absurd (nothing k c)
    row_picks (msg.Forward d a) s k c = absurd (nothing k c)
    row_picks (msg.Put d v es) s k c = put_picks d v es s k (Contains-append_cases (serving p d (cell_record s d).queue v s).picks [] k c)
    row_picks (msg.PortSend q n a) s k c = one_lawful (msg.PortSend q n a) s (step_pick n (name.Var (next_var s) ∷ []) None) k (refl, inl (next_var s, refl)) c
    row_picks (msg.PortEnd n old new es) s k c = absurd (nothing k c)
    row_picks (msg.CellMake d v es) s k c = let r = early_picks d (home_record s d).early v s k c in (ap (λ (l : Pick). threads_among l.fresh) r.2, inl r)
    row_picks (msg.CellAsk d n a v es) s k c = ask_picks d n a v es s k c
    row_picks (msg.CellOld n v es) s k c = absurd (nothing k c)

    -- ---- a message

    none_fresh : (ks : List Pick) → ((k : Pick) → Contains ks k → threads_among k.fresh ≡ []) → threads_among (fresh_in ks) ≡ []
    none_fresh [] h = refl
    none_fresh (k ∷ ks) h = threads_in_both (k ∷ []) ks ∙ ap (λ (ns : List ThreadName). ns ++ threads_among (fresh_in ks)) (ap threads_among (append-nil k.fresh) ∙ h k (Contains-head k ks)) ∙ none_fresh ks (λ l c. h l (Contains-tail k l ks c))

    opened : (m : Msg) (s : Site) (k : Pick) → Lawful m (opening m s).site k → Lawful m s k
    opened m s k (f, inl q) = (f, inl (subst (λ (hs : List (CellName × HomeRecord)). IsAsked (Some m) hs k) (told_homes (message_bundle m) s) q))
    opened m s k (f, inr h) = (f, inr (opens_keep m s k.thread h))

    -- the requests that a message, if there is one, brings
    abbrev pub AllBrought : Option Msg → CellName → ThreadName → Type 0
    AllBrought m c th = AsksFor c th m

    abbrev pub AllComes : Option Msg → Type 0
    AllComes None = Unit {0}
    AllComes (Some m) = Comes m

    abbrev pub HeardPart : ℕ → Option Msg → Site → Transition → Type 0
    HeardPart i m s d = Part i C (AllBrought m) (IsAsked m s.homes) s d

    pub heard_part : (i n : ℕ) (m : Option Msg) (s : Site) (d : Transition) → AllComes m → IsReception p n limit m s d → HeardPart i m s d
    heard_part i n None s d comes h = subst (HeardPart i None s) (sym h)
        (still_part i C (AllBrought None) (IsAsked None s.homes) s (without_output s) (heard_quiet p n limit None s (without_output s) refl) refl (λ th k. k) (λ k c. absurd (nothing k c)) (λ c r at. inl at))
    heard_part i n (Some m) s d comes (inr h) = subst (HeardPart i (Some m) s) (sym h.1)
        (still_part i C (AllBrought (Some m)) (IsAsked (Some m) s.homes) s (without_output s) (heard_quiet p n limit (Some m) s (without_output s) (inr (h.0, refl))) refl (λ th k. k) (λ k c. absurd (nothing k c)) (λ c r at. inl at))
    heard_part i n (Some m) s d comes (inl h) =
        subst (HeardPart i (Some m) s) (sym h.1)
        (still_part i C (AllBrought (Some m)) (IsAsked (Some m) s.homes) s (and_then (opening m s) (message_row p limit m)) (heard_quiet p n limit (Some m) s _ (inl (h.0, refl)))
        (none_fresh _ (λ k c. (all k c).0))
        (λ th k. opens_keep m s th (row_keeps m (opening m s).site comes th k))
        (λ k c. (all k c).1)
        (λ c r at. kept c r (row_keeping m (opening m s).site c r at)))
      where
        all : (k : Pick) → Contains (message_row p limit m (opening m s).site).picks k → Lawful m s k
        all k c = opened m s k (row_picks m (opening m s).site k c)

        kept : (c : CellName) (r : EarlyRequest) → Contains (home_record (opening m s).site c).early r ⊎ Brought m c r.thread → Contains (home_record s c).early r ⊎ (AllBrought (Some m) c r.thread ⊎ IsHere C s r.thread)
        kept c r (inl k) = inl (same_loses s (opening m s).site (told_homes (message_bundle m) s) c r k)
        kept c r (inr k) = inr (inl k)
