-- Those that wait for a cell stay its list, each once, whatever the site's other threads do.
use Rattle.std.proofs.Common.{arith, ◌≡◌, ◌∙◌, sym, ap, refl, subst, ℕ, ◌+◌, List, [], ◌∷◌, ◌++◌, length, length-append, ◌⊎◌, inl, inr, Bool, true, false, cond, Some, None}
use Rattle.std.specs.Prelude.{Option, Contains, ◌≢◌, ◌==◌}
use Rattle.std.proofs.lemmas.List.Elements.{Contains-append_left, Contains-append_right, Contains-append_cases}
use Rattle.tree_node.specs.declared.names.VarName.{VarName}
use Rattle.tree_node.specs.declared.names.CellName.{CellName}
use Rattle.tree_node.specs.declared.names.ThreadName.{ThreadName}
use Rattle.tree_node.specs.Assoc.{value_of, with_value, with_optional_value}
use Rattle.tree_node.specs.Each.{Each, AreDistinct}
use Rattle.tree_node.specs.State.{Stack, equal_thread}
use Rattle.tree_node.specs.Store.{Store}
use Rattle.tree_node.proofs.ClassLemmas.{Contains-cons_cases, Contains-head, Contains-tail}
use Rattle.token_chain.specs.declared.token.Token.{Token}
use Rattle.token_chain.specs.declared.token.Token.TheVariants.{Away, Asked, Here}
use Rattle.token_chain.specs.Holding.{Holding, departure_of}
use Rattle.token_chain.specs.Mail.{Get, Forward}
use Rattle.token_chain.specs.Rows.{leave_with, leave_reply, forward_reply, get_reply, exchange_reply}
use Rattle.site_model.specs.Site.{Site, ThreadState, Threads, CellRecord, cell_record, runnable_threads}
use Rattle.thread_roster.specs.declared.mode.Awaited.TheVariants.{Cell}
use Rattle.thread_roster.specs.declared.mode.Mode.{Mode}
use Rattle.thread_roster.specs.declared.mode.Mode.TheVariants.{Runs, WaitsFor}
use Rattle.thread_roster.specs.Binds.{goes_on}
use Rattle.thread_roster.specs.Threads.{wake_where}
use Rattle.thread_roster.proofs.ThreadLemmas.{woken_by}
use Rattle.site_model.specs.Transition.{Transition}
use Rattle.site_model.specs.Cells.{leave_row, forward_row, last_before, with_last_asker, get_row, request_row}
use Rattle.world_model.specs.World.{Sites, cell_records, threads, put}
use Rattle.world_model.specs.Matches.{IsQueue, AreQueues}
use Rattle.world_model.proofs.PutLemmas.{at_all}
use Rattle.world_model.proofs.MailLemmas.{nothing}
use Rattle.world_model.proofs.KeyLemmas.{with_here, with_there, goes_cases, goes_there, woken_new, woken_old, wake_cell, front_here, front_other, running_old}
use Rattle.world_model.proofs.CellLemmas.{request_only}
use Rattle.world_cells.proofs.ReplyLemmas.{reply_answers, reply_queue, leave_answers, forward_answers, request_answers, request_queue}
use Rattle.tree_node.proofs.NameLemmas.{same_thread_decides}
use Rattle.thread_roster.proofs.NameLemmas.{name_cases as thread_or}
use Rattle.token_chain.proofs.AlikeLemmas.{leaves_none}
use Rattle.oz_model.proofs.KindLemmas.{cell_cases}
use Rattle.thread_roster.specs.declared.mode.Awaited.{Awaited}

-- the same threads wait for this, a cell or a port, with the same stacks
pub record SameWaiters (ts us : Threads) (d : Awaited) : Type 0 where
  pub old : (n : ThreadName) (st : Stack) → value_of equal_thread us n ≡ Some (st, WaitsFor d) → value_of equal_thread ts n ≡ Some (st, WaitsFor d)
  pub new : (n : ThreadName) (st : Stack) → value_of equal_thread ts n ≡ Some (st, WaitsFor d) → value_of equal_thread us n ≡ Some (st, WaitsFor d)

pub waiters_same : (ts : Threads) (d : Awaited) → SameWaiters ts ts d
waiters_same ts d = record { old = λ n st h. h; new = λ n st h. h }

pub waiters_then : (ts us vs : Threads) (d : Awaited) → SameWaiters ts us d → SameWaiters us vs d → SameWaiters ts vs d
waiters_then ts us vs d a b = record { old = λ n st h. a.old n st (b.old n st h); new = λ n st h. b.new n st (a.new n st h) }

pub queue_same : (q r : CellRecord) (ts us : Threads) (d : CellName) → r.queue ≡ q.queue → r.held.waiting ≡ q.held.waiting → SameWaiters ts us (Cell d) → IsQueue q ts d → IsQueue r us d
queue_same q r ts us d e f w k = record {
  once = subst (λ (l : List ThreadName). AreDistinct l) (sym e) k.once;
  long = f ∙ k.long ∙ ap length (sym e);
  stand = λ n h. let s = k.stand n (subst (λ (l : List ThreadName). Contains l n) e h) in (s.0, w.new n s.0 s.1);
  listed = λ n st h. subst (λ (l : List ThreadName). Contains l n) (sym e) (k.listed n st (w.old n st h));
}

pub queues_put : (f : Sites) (i : ℕ) (s : Site) → AreQueues (cell_records f) (threads f) → ((d : CellName) → IsQueue (cell_record s d) s.threads d) → AreQueues (cell_records (put f i s)) (threads (put f i s))
queues_put f i s all here j = at_all f i s (λ (k : ℕ) (x : Site). (d : CellName) → IsQueue (cell_record x d) x.threads d) here (λ k other. all k) j

-- ---- who waits after a change of the threads

pub woken_waiters : (s : Store) (x : VarName) (ts : Threads) (d : Awaited) → SameWaiters ts (wake_where (goes_on s x) ts) d
woken_waiters s x ts d = record {
  old = λ n st h. old n st (woken_old (goes_on s x) ts n st (WaitsFor d) h);
  new = λ n st h. woken_new (goes_on s x) ts n st (WaitsFor d) h;
}
  where
    old : (n : ThreadName) (st : Stack) → (m : Mode) × (value_of equal_thread ts n ≡ Some (st, m)) × (woken_by (goes_on s x) m ≡ WaitsFor d) → value_of equal_thread ts n ≡ Some (st, WaitsFor d)
    old n st (m, e, f) = subst (λ (o : Mode). value_of equal_thread ts n ≡ Some (st, o)) (wake_cell s x d m f) e

abbrev pub IsOtherMode : Awaited → Option ThreadState → Type 0
IsOtherMode d r = (st : Stack) → r ≢ Some (st, WaitsFor d)

-- a thread that does not wait for it goes on, and does not wait for it then
pub goes_waiters : (ts : Threads) (n : ThreadName) (r : Option ThreadState) (v : ThreadState) (d : Awaited) → value_of equal_thread ts n ≡ Some v → IsOtherMode d (Some v) → IsOtherMode d r →
    SameWaiters ts (with_optional_value equal_thread ts n r) d
goes_waiters ts n r v d at before after = record {
  old = λ m st h. old m st (goes_cases equal_thread same_thread_decides ts n m r v (st, WaitsFor d) at h);
  new = λ m st h. new m st h (equal_thread n m) refl;
}
  where
    old : (m : ThreadName) (st : Stack) → ((m ≡ n) × (r ≡ Some (st, WaitsFor d))) ⊎ ((n ≢ m) × (value_of equal_thread ts m ≡ Some (st, WaitsFor d))) → value_of equal_thread ts m ≡ Some (st, WaitsFor d)
    old m st (inl (e, f)) = absurd (after st f)
    old m st (inr (d, f)) = f

    new : (m : ThreadName) (st : Stack) → value_of equal_thread ts m ≡ Some (st, WaitsFor d) → (b : Bool) → equal_thread n m ≡ b → value_of equal_thread (with_optional_value equal_thread ts n r) m ≡ Some (st, WaitsFor d)
    new m st h true e =
        let same : n ≡ m = (same_thread_decides n m).0 e in
        absurd (before st (sym at ∙ ap (value_of equal_thread ts) same ∙ h))
    new m st h false e = goes_there equal_thread same_thread_decides ts n m r (λ (p : n ≡ m). let yes : equal_thread n m ≡ true = (same_thread_decides n m).1 p in cc) ∙ h

-- new threads can go on
pub born_waiters : (xs : List (ThreadName × Stack)) (ts : Threads) (d : Awaited) → ((n : ThreadName) (st : Stack) → value_of equal_thread ts n ≡ Some (st, WaitsFor d) → value_of equal_thread (runnable_threads xs) n ≡ None) →
    SameWaiters ts (runnable_threads xs ++ ts) d
born_waiters xs ts d apart = record {
  old = λ n st h. old n st h (value_of equal_thread (runnable_threads xs) n) refl;
  new = λ n st h. front_other equal_thread same_thread_decides (runnable_threads xs) ts n (apart n st h) ∙ h;
}
  where
    old : (n : ThreadName) (st : Stack) → value_of equal_thread (runnable_threads xs ++ ts) n ≡ Some (st, WaitsFor d) → (o : Option ThreadState) → value_of equal_thread (runnable_threads xs) n ≡ o → value_of equal_thread ts n ≡ Some (st, WaitsFor d)
    old n st h None e = sym (front_other equal_thread same_thread_decides (runnable_threads xs) ts n e) ∙ h
    old n st h (Some v) e =
        let there : value_of equal_thread (runnable_threads xs ++ ts) n ≡ Some v = front_here equal_thread same_thread_decides (runnable_threads xs) ts n v e in
        let same : v ≡ (st, WaitsFor d) = some_same v (st, WaitsFor d) (sym there ∙ h) in
        let runs : v.1 ≡ Runs = (running_old xs n v e).1 in
        let waits : v.1 ≡ WaitsFor d = ap (λ (u : ThreadState). u.1) same in
        absurd (cc)
      where
        some_same : (v u : ThreadState) → Some v ≡ Some u → v ≡ u
        some_same v u e = cc

-- ---- the token leaves

leaves_waiting : (h : Holding) (o : Option (ℕ × VarName)) → departure_of h ≡ o → (leave_with h o).held.waiting ≡ h.waiting
leaves_waiting h None e = refl
leaves_waiting h (Some (k, v)) e = sym (leaves_none h.token h.next h.waiting (k, v) e)

pub leave_waiting : (h : Holding) → (leave_reply h).held.waiting ≡ h.waiting
leave_waiting h = leaves_waiting h (departure_of h) refl

get_waiting : (manager last k : ℕ) (h : Holding) → (get_reply manager last k h).held.waiting ≡ h.waiting
get_waiting manager last k h = go (last == manager)
  where
    go : (b : Bool) → (cond b (forward_reply h k) (record { held = h; sent = Forward last k ∷ [] })).held.waiting ≡ h.waiting
    go true = leave_waiting (record h { next = Some k })
    go false = refl

-- one more waits, where the token is not here
request_waiting : (manager last s : ℕ) (new : VarName) (h : Holding) → ((u : VarName) → h.token ≢ Here u) → (exchange_reply manager last s new h).held.waiting ≡ h.waiting + 1
request_waiting manager last s new h elsewhere = go h.token h.next h.waiting elsewhere
  where
    first : (next : Option ℕ) (n : ℕ) (b : Bool) → (cond b (get_reply manager last s (record { token = Asked; next = next; waiting = n + 1 })) (record { held = record { token = Asked; next = next; waiting = n + 1 }; sent = Get s ∷ [] })).held.waiting ≡ n + 1
    first next n true = get_waiting manager last s (record { token = Asked; next = next; waiting = n + 1 })
    first next n false = refl

    go : (t : Token) (next : Option ℕ) (n : ℕ) → ((u : VarName) → t ≢ Here u) → (exchange_reply manager last s new (record { token = t; next = next; waiting = n })).held.waiting ≡ n + 1
    go Away next n far = first next n (s == manager)
    go Asked next n far = refl
    go (Here u) next n far = absurd (far u refl)

-- the site keeps as many as before in its list
pub record KeepsQueue (c : CellName) (s : Site) (d : Transition) : Type 0 where
  pub queue : (cell_record d.site c).queue ≡ (cell_record s c).queue
  pub waiting : (cell_record d.site c).held.waiting ≡ (cell_record s c).held.waiting

pub leave_queue : (limit : ℕ) (c : CellName) (s : Site) → KeepsQueue c s (leave_row limit c s)
leave_queue limit c s = record {
  queue = reply_queue limit c _ (leave_reply (cell_record s c).held) s;
  waiting = ap (λ (h : Holding). h.waiting) (leave_answers limit c s).held ∙ leave_waiting (cell_record s c).held;
}

pub forward_queue : (limit : ℕ) (c : CellName) (k : ℕ) (s : Site) → KeepsQueue c s (forward_row limit c k s)
forward_queue limit c k s = record {
  queue = reply_queue limit c _ (forward_reply (cell_record s c).held k) s;
  waiting = ap (λ (h : Holding). h.waiting) (forward_answers limit c k s).held ∙ leave_waiting (record (cell_record s c).held { next = Some k });
}

pub get_queue : (limit : ℕ) (c : CellName) (k : ℕ) (s : Site) → KeepsQueue c s (get_row limit c k s)
get_queue limit c k s = record {
  queue = reply_queue limit c _ (get_reply s.records.site (last_before s c) k (cell_record s c).held) (with_last_asker c k s);
  waiting = ap (λ (h : Holding). h.waiting) (reply_answers limit c _ (get_reply s.records.site (last_before s c) k (cell_record s c).held) s (with_last_asker c k s) refl).held ∙ get_waiting s.records.site (last_before s c) k (cell_record s c).held;
}

-- ---- a site's lists, row by row

-- a row that changes one cell, and keeps its list
pub one_list_stays : (c : CellName) (s : Site) (d : Transition) → ((b : CellName) → IsQueue (cell_record s b) s.threads b) → KeepsQueue c s d → ((b : CellName) → b ≢ c → cell_record d.site b ≡ cell_record s b) →
    ((b : Awaited) → SameWaiters s.threads d.site.threads b) → (b : CellName) → IsQueue (cell_record d.site b) d.site.threads b
one_list_stays c s d all k others w b = go (cell_cases b c)
  where
    go : (b ≡ c) ⊎ (b ≢ c) → IsQueue (cell_record d.site b) d.site.threads b
    go (inl e) = subst (λ (x : CellName). IsQueue (cell_record d.site x) d.site.threads x) (sym e)
        (queue_same (cell_record s c) (cell_record d.site c) s.threads d.site.threads c k.queue k.waiting (w (Cell c)) (all c))
    go (inr h) = queue_same (cell_record s b) (cell_record d.site b) s.threads d.site.threads b (ap (λ (q : CellRecord). q.queue) (others b h)) (ap (λ (q : CellRecord). q.held.waiting) (others b h)) (w (Cell b)) (all b)

pub waiters_equal : (ts us : Threads) (d : Awaited) → us ≡ ts → SameWaiters ts us d
waiters_equal ts us d e = subst (λ (x : Threads). SameWaiters ts x d) (sym e) (waiters_same ts d)

pub forward_lists : (limit : ℕ) (c : CellName) (k : ℕ) (s : Site) → ((b : CellName) → IsQueue (cell_record s b) s.threads b) → (b : CellName) → IsQueue (cell_record (forward_row limit c k s).site b) (forward_row limit c k s).site.threads b
forward_lists limit c k s all = one_list_stays c s _ all (forward_queue limit c k s) (forward_answers limit c k s).others (λ b. waiters_equal _ _ b refl)

pub get_lists : (limit : ℕ) (c : CellName) (k : ℕ) (s : Site) → ((b : CellName) → IsQueue (cell_record s b) s.threads b) → (b : CellName) → IsQueue (cell_record (get_row limit c k s).site b) (get_row limit c k s).site.threads b
get_lists limit c k s all =
    one_list_stays c s _ all (get_queue limit c k s) (reply_answers limit c _ (get_reply s.records.site (last_before s c) k (cell_record s c).held) s (with_last_asker c k s) refl).others (λ b. waiters_equal _ _ b refl)

-- one more thread
each_append : (xs : List ThreadName) (x y : ThreadName) → Each (λ z. y ≢ z) xs → y ≢ x → Each (λ z. y ≢ z) (xs ++ x ∷ [])
each_append [] x y h d = (d, tt)
each_append (z ∷ xs) x y h d = (h.0, each_append xs x y h.1 d)

distinct_append : (xs : List ThreadName) (x : ThreadName) → AreDistinct xs → (Contains xs x → ⊥) → AreDistinct (xs ++ x ∷ [])
distinct_append [] x h none = (tt, tt)
distinct_append (y ∷ xs) x h none =
    (each_append xs x y h.0 (λ e. none (subst (λ (z : ThreadName). Contains (y ∷ xs) z) e (Contains-head y xs))), distinct_append xs x h.1 (λ k. none (Contains-tail _ _ xs k)))

abbrev pub mode_in : Option ThreadState → Mode
mode_in None = Runs
mode_in (Some u) = u.1

pub running_not : (st r : Stack) (c : Awaited) → ◌≡◌ {A = Option ThreadState} (Some (st, Runs)) (Some (r, WaitsFor c)) → ⊥
running_not st r c e = let f : Runs ≡ WaitsFor c = ap mode_in e in cc

pub waits_same : (st r : Stack) (c b : CellName) → ◌≡◌ {A = Option ThreadState} (Some (st, WaitsFor (Cell c))) (Some (r, WaitsFor (Cell b))) → c ≡ b
waits_same st r c b e = let f : WaitsFor (Cell c) ≡ WaitsFor (Cell b) = ap mode_in e in cc

pub request_lists : (limit : ℕ) (c : CellName) (new : VarName) (n : ThreadName) (st : Stack) (s : Site) → ((u : VarName) → (cell_record s c).held.token ≢ Here u) → value_of equal_thread s.threads n ≡ Some (st, Runs) → ((b : CellName) → IsQueue (cell_record s b) s.threads b) →
    (b : CellName) → IsQueue (cell_record (request_row limit c new n st s).site b) (request_row limit c new n st s).site.threads b
request_lists limit c new n st s elsewhere runs all b = go (cell_cases b c)
  where
    q : CellRecord
    q = cell_record s c

    us : Threads
    us = with_value equal_thread s.threads n (st, WaitsFor (Cell c))

    is : (request_row limit c new n st s).site.threads ≡ us
    is = (request_only limit c new n st s).threads

    list : (cell_record (request_row limit c new n st s).site c).queue ≡ q.queue ++ n ∷ []
    list = request_queue limit c new n st s

    number : (cell_record (request_row limit c new n st s).site c).held.waiting ≡ q.held.waiting + 1
    number = ap (λ (h : Holding). h.waiting) (request_answers limit c new n st s).held ∙ request_waiting c.site (last_before s c) s.records.site new q.held elsewhere

    now : value_of equal_thread us n ≡ Some (st, WaitsFor (Cell c))
    now = with_here equal_thread same_thread_decides s.threads n (st, WaitsFor (Cell c)) (st, Runs) runs

    there : (m : ThreadName) → n ≢ m → value_of equal_thread us m ≡ value_of equal_thread s.threads m
    there m d = with_there equal_thread same_thread_decides s.threads n m (st, WaitsFor (Cell c)) d

    no_n : Contains q.queue n → ⊥
    no_n h = let k = (all c).stand n h in running_not st k.0 (Cell c) (sym runs ∙ k.1)

    here : IsQueue (cell_record (request_row limit c new n st s).site c) us c
    here = record {
      once = subst (λ (l : List ThreadName). AreDistinct l) (sym list) (distinct_append q.queue n (all c).once no_n);
      long = let a = number in let l = (all c).long in let m = ap length list in let o : length (q.queue ++ n ∷ []) ≡ length q.queue + 1 = length-append q.queue (n ∷ []) in omega arith;
      stand = λ m h. stand m (Contains-append_cases q.queue (n ∷ []) m (subst (λ (l : List ThreadName). Contains l m) list h)) (thread_or n m);
      listed = λ m r h. subst (λ (l : List ThreadName). Contains l m) (sym list) (listed m r h (thread_or n m));
    }
      where
        stand : (m : ThreadName) → Contains q.queue m ⊎ Contains (n ∷ []) m → (n ≡ m) ⊎ (n ≢ m) → (r : Stack) × (value_of equal_thread us m ≡ Some (r, WaitsFor (Cell c)))
        stand m h (inl e) = (st, ap (value_of equal_thread us) (sym e) ∙ now)
        stand m (inl h) (inr d) = let k = (all c).stand m h in (k.0, there m d ∙ k.1)
        stand m (inr h) (inr d) = one (Contains-cons_cases _ _ [] h)
          where
            one : (n ≡ m) ⊎ Contains [] m → (r : Stack) × (value_of equal_thread us m ≡ Some (r, WaitsFor (Cell c)))
            one (inl e) = absurd (d e)
            one (inr k) = absurd (nothing _ k)

        listed : (m : ThreadName) (r : Stack) → value_of equal_thread us m ≡ Some (r, WaitsFor (Cell c)) → (n ≡ m) ⊎ (n ≢ m) → Contains (q.queue ++ n ∷ []) m
        listed m r h (inl e) = Contains-append_right q.queue (n ∷ []) m (subst (λ (x : ThreadName). Contains (n ∷ []) x) e (Contains-head n []))
        listed m r h (inr d) = Contains-append_left q.queue (n ∷ []) m ((all c).listed m r (sym (there m d) ∙ h))

    go : (b ≡ c) ⊎ (b ≢ c) → IsQueue (cell_record (request_row limit c new n st s).site b) (request_row limit c new n st s).site.threads b
    go (inl e) = subst (λ (x : CellName). IsQueue (cell_record (request_row limit c new n st s).site x) (request_row limit c new n st s).site.threads x) (sym e)
        (subst (λ (x : Threads). IsQueue (cell_record (request_row limit c new n st s).site c) x c) (sym is) here)
    go (inr d) =
        let p = (request_answers limit c new n st s).others b d in
        queue_same (cell_record s b) (cell_record (request_row limit c new n st s).site b) s.threads (request_row limit c new n st s).site.threads b (ap (λ (q : CellRecord). q.queue) p) (ap (λ (q : CellRecord). q.held.waiting) p)
        (subst (λ (x : Threads). SameWaiters s.threads x (Cell b)) (sym is)
        (goes_waiters s.threads n (Some (st, WaitsFor (Cell c))) (st, Runs) (Cell b) runs (λ r e. running_not st r (Cell b) e) (λ r e. d (sym (waits_same st r c b e))))) (all b)
