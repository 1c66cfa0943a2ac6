-- All messages of a run together.
use Rattle.std.proofs.Common.{arith, ◌≡◌, ◌≢◌, sym, ap, refl, subst, ℕ, ◌+◌, ◌≤◌, List, [], ◌∷◌, length, Bool, true, false, cond, Some, None}
use Rattle.std.specs.Prelude.{Option, is_some, ◌*◌, Contains}
use Rattle.std.specs.List.{count_by}
use Rattle.tree_node.specs.declared.names.VarName.{VarName}
use Rattle.tree_node.specs.declared.names.CellName.{CellName}
use Rattle.tree_node.specs.declared.names.ThreadName.{ThreadName}
use Rattle.tree_node.specs.Assoc.{value_of}
use Rattle.tree_node.specs.Each.{Each, AreDistinct}
use Rattle.tree_node.specs.Goal.{equal_cell}
use Rattle.tree_node.specs.State.{State, equal_thread}
use Rattle.tree_node.proofs.NameLemmas.{same_thread_decides}
use Rattle.site_message.specs.declared.message.Msg.{Msg}
use Rattle.site_message.specs.declared.message.Msg.TheVariants as msg
use Rattle.site_message.specs.declared.message.Sent.{Sent}
use Rattle.site_message.specs.Journal.{sent_of}
use Rattle.oz_model.specs.Run.{exchanges}
use Rattle.oz_model.proofs.KindLemmas.{equal_cell_decides, cell_same}
use Rattle.bind_protocol.proofs.ListLemmas.{one, count_cons}
use Rattle.thread_roster.specs.declared.mode.Mode.TheVariants.{WaitsFor}
use Rattle.world_model.specs.Chain.{mobile_cells}
use Rattle.world_model.specs.Schedule.{schedule}
use Rattle.world_model.specs.World.{world_of}
use Rattle.world_messages.specs.Messages.{threads_made, spawns, asks_to_know, tells_binding, asks_to_bind}
use Rattle.world_messages.proofs.AskRun.{asked_in}
use Rattle.world_messages.proofs.FewLemmas.{few}
use Rattle.world_messages.proofs.FewMessages.{scheduled_in}
use Rattle.world_answers.specs.AnswerCounts.{AnswersAreFew, asks_end, tells_end, tells_home, asks_content, tells_content}
use Rattle.world_answers.proofs.JournalLemmas.{few_answers, requests_balance}
use Rattle.world_simulation.specs.Answers.{RequestsAlwaysBalance}
use Rattle.world_cells.specs.CellCounts.{cell_weight, cell_weights}
use Rattle.world_cells.proofs.CellTallyLemmas.{few_messages}
use Rattle.world_answers.proofs.LeaveLemmas.{Paid}
use Rattle.world_simulation.specs.Messages.{cell_of, sum_over, is_of_answers, AnswerMessagesAreFew, AllMessagesAreFew}
use Rattle.world_simulation.proofs.SimulationLemmas.{joined_in, paid, threads_are_placed, messages_are_few}

-- ---- each message is of one kind

abbrev is_of_cell : Sent → Bool
is_of_cell m = is_some (cell_of m.msg)

one_kind : (to : ℕ) (o : Msg) → 1 ≤ one (spawns (record { to = to; msg = o })) + one (asks_to_know (record { to = to; msg = o })) + one (tells_binding (record { to = to; msg = o })) + one (asks_to_bind (record { to = to; msg = o })) + one (is_of_answers (record { to = to; msg = o })) + one (is_of_cell (record { to = to; msg = o }))
one_kind to (msg.Spawn a b c d) = omega arith
one_kind to (msg.Register a b) = omega arith
one_kind to (msg.BindReq a b c d) = omega arith
one_kind to (msg.Binding a b c) = omega arith
one_kind to (msg.Get a b) = omega arith
one_kind to (msg.Forward a b) = omega arith
one_kind to (msg.Put a b c) = omega arith
one_kind to (msg.PortSend a b c) = omega arith
one_kind to (msg.PortEnd a b c d) = omega arith
one_kind to (msg.CellMake a b c) = omega arith
one_kind to (msg.CellAsk a b c d e) = omega arith
one_kind to (msg.CellOld a b c) = omega arith

by_kind : (ms : List Sent) → length ms ≤ count_by spawns ms + count_by asks_to_know ms + count_by tells_binding ms + count_by asks_to_bind ms + count_by is_of_answers ms + count_by is_of_cell ms
by_kind [] = omega arith
by_kind (m ∷ ms) = omega (arith, one_kind m.to m.msg, by_kind ms, count_cons spawns m ms, count_cons asks_to_know m ms, count_cons tells_binding m ms, count_cons asks_to_bind m ms, count_cons is_of_answers m ms, count_cons is_of_cell m ms)

-- ---- sums over cells

sum_split : (f g : CellName → ℕ) (cs : List (CellName × VarName)) → sum_over (λ c. f c + g c) cs ≡ sum_over f cs + sum_over g cs
sum_split f g [] = refl
sum_split f g (c ∷ cs) = let ih = sum_split f g cs in omega (arith, ih)

sum_less : (f g : CellName → ℕ) → ((c : CellName) → f c ≤ g c) → (cs : List (CellName × VarName)) → sum_over f cs ≤ sum_over g cs
sum_less f g h [] = omega arith
sum_less f g h (c ∷ cs) = omega (arith, h c.0, sum_less f g h cs)

weight_one : (d : CellName) → ◌≡◌ {A = ℕ} (cond (equal_cell d d) 1 0) 1
weight_one d = rw (cell_same d) refl

-- a message about a cell weighs one there
weight_there : (o : Msg) (d : CellName) → cell_of o ≡ Some d → cell_weight d 1 1 1 o ≡ 1
weight_there (msg.Get c k) d e = let same : c ≡ d = cc in subst (λ (z : CellName). ◌≡◌ {A = ℕ} (cond (equal_cell d z) 1 0) 1) (sym same) (weight_one d)
weight_there (msg.Forward c k) d e = let same : c ≡ d = cc in subst (λ (z : CellName). ◌≡◌ {A = ℕ} (cond (equal_cell d z) 1 0) 1) (sym same) (weight_one d)
weight_there (msg.Put c v bundle) d e = let same : c ≡ d = cc in subst (λ (z : CellName). ◌≡◌ {A = ℕ} (cond (equal_cell d z) 1 0) 1) (sym same) (weight_one d)
weight_there (msg.Spawn a b c q) d e = cc
weight_there (msg.Register a b) d e = cc
weight_there (msg.BindReq a b c q) d e = cc
weight_there (msg.Binding a b c) d e = cc
weight_there (msg.PortSend a b c) d e = cc
weight_there (msg.PortEnd a b c q) d e = cc
weight_there (msg.CellMake a b c) d e = cc
weight_there (msg.CellAsk a b c q r) d e = cc
weight_there (msg.CellOld a b c) d e = cc

-- so it weighs at least one over all cells, where that cell is among them
found : (o : Msg) (d : CellName) (v : VarName) → cell_of o ≡ Some d → (cs : List (CellName × VarName)) → value_of equal_cell cs d ≡ Some v → 1 ≤ sum_over (λ c. cell_weight c 1 1 1 o) cs
found o d v is [] e = cc
found o d v is ((c, u) ∷ cs) e = go (equal_cell c d) refl e (λ q. found o d v is cs q)
  where
    go : (b : Bool) → equal_cell c d ≡ b → cond b (Some u) (value_of equal_cell cs d) ≡ Some v → (value_of equal_cell cs d ≡ Some v → 1 ≤ sum_over (λ c. cell_weight c 1 1 1 o) cs) → 1 ≤ cell_weight c 1 1 1 o + sum_over (λ c. cell_weight c 1 1 1 o) cs
    go true q k ih =
        let same : c ≡ d = (equal_cell_decides c d).0 q in
        let there : cell_weight c 1 1 1 o ≡ 1 = subst (λ (z : CellName). cell_weight z 1 1 1 o ≡ 1) (sym same) (weight_there o d is) in
        omega (arith, there)
    go false q k ih = omega (arith, ih k)

cells_counted : (cs : List (CellName × VarName)) (ms : List Sent) → ((d : CellName) → 1 ≤ cell_weights d 1 1 1 ms → (v : VarName) × (value_of equal_cell cs d ≡ Some v)) → count_by is_of_cell ms ≤ sum_over (λ c. cell_weights c 1 1 1 ms) cs
cells_counted cs [] h = omega arith
cells_counted cs (m ∷ ms) h = go (cell_of m.msg) refl (cells_counted cs ms (λ d k. h d (more d k)))
  where
    more : (d : CellName) → 1 ≤ cell_weights d 1 1 1 ms → 1 ≤ cell_weight d 1 1 1 m.msg + cell_weights d 1 1 1 ms
    more d k = omega (arith, k)

    split : sum_over (λ c. cell_weight c 1 1 1 m.msg + cell_weights c 1 1 1 ms) cs ≡ sum_over (λ c. cell_weight c 1 1 1 m.msg) cs + sum_over (λ c. cell_weights c 1 1 1 ms) cs
    split = sum_split (λ c. cell_weight c 1 1 1 m.msg) (λ c. cell_weights c 1 1 1 ms) cs

    goal_of : (k : ℕ) → one (is_of_cell m) ≡ k → k ≤ sum_over (λ c. cell_weight c 1 1 1 m.msg) cs → count_by is_of_cell ms ≤ sum_over (λ c. cell_weights c 1 1 1 ms) cs → count_by is_of_cell (m ∷ ms) ≤ sum_over (λ c. cell_weight c 1 1 1 m.msg + cell_weights c 1 1 1 ms) cs
    goal_of k e low rest = omega (arith, e, low, rest, split, count_cons is_of_cell m ms)

    go : (o : Option CellName) → cell_of m.msg ≡ o → count_by is_of_cell ms ≤ sum_over (λ c. cell_weights c 1 1 1 ms) cs → count_by is_of_cell (m ∷ ms) ≤ sum_over (λ c. cell_weight c 1 1 1 m.msg + cell_weights c 1 1 1 ms) cs
    go None e rest = goal_of 0 (ap (λ (o : Option CellName). one (is_some o)) e) (omega arith) rest
    go (Some d) e rest =
        let there : cell_weight d 1 1 1 m.msg ≡ 1 = weight_there m.msg d e in
        let low : 1 ≤ cell_weight d 1 1 1 m.msg + cell_weights d 1 1 1 ms = omega (arith, there) in
        let at = h d low in
        goal_of 1 (ap (λ (o : Option CellName). one (is_some o)) e) (found m.msg d at.0 e cs at.1) rest

-- ---- requests and answers

-- each of the five is of one kind
five_kinds : (to : ℕ) (o : Msg) → one (is_of_answers (record { to = to; msg = o })) ≤ one (asks_end (record { to = to; msg = o })) + one (tells_end (record { to = to; msg = o })) + one (tells_home (record { to = to; msg = o })) + one (asks_content (record { to = to; msg = o })) + one (tells_content (record { to = to; msg = o }))
five_kinds to (msg.Spawn a b c d) = omega arith
five_kinds to (msg.Register a b) = omega arith
five_kinds to (msg.BindReq a b c d) = omega arith
five_kinds to (msg.Binding a b c) = omega arith
five_kinds to (msg.Get a b) = omega arith
five_kinds to (msg.Forward a b) = omega arith
five_kinds to (msg.Put a b c) = omega arith
five_kinds to (msg.PortSend a b c) = omega arith
five_kinds to (msg.PortEnd a b c d) = omega arith
five_kinds to (msg.CellMake a b c) = omega arith
five_kinds to (msg.CellAsk a b c d e) = omega arith
five_kinds to (msg.CellOld a b c) = omega arith

by_five : (ms : List Sent) → count_by is_of_answers ms ≤ count_by asks_end ms + count_by tells_end ms + count_by tells_home ms + count_by asks_content ms + count_by tells_content ms
by_five [] = omega arith
by_five (m ∷ ms) = omega (arith, five_kinds m.to m.msg, by_five ms, count_cons is_of_answers m ms, count_cons asks_end m ms, count_cons tells_end m ms, count_cons tells_home m ms, count_cons asks_content m ms, count_cons tells_content m ms)

-- names that differ, each among others, are no more than these
abbrev every : ThreadName → Bool
every n = true

every_counts : (ns : List ThreadName) → count_by every ns ≡ length ns
every_counts [] = refl
every_counts (n ∷ ns) = let ih = every_counts ns in omega (arith, ih, count_cons every n ns)

counts_none : (n : ThreadName) (ns : List ThreadName) → Each (λ (o : ThreadName). n ≢ o) ns → count_by (equal_thread n) ns ≡ 0
counts_none n [] h = refl
counts_none n (o ∷ ns) h = go (equal_thread n o) refl (counts_none n ns h.1)
  where
    go : (b : Bool) → equal_thread n o ≡ b → count_by (equal_thread n) ns ≡ 0 → count_by (equal_thread n) (o ∷ ns) ≡ 0
    go true q ih = absurd (h.0 ((same_thread_decides n o).0 q))
    go false q ih = let e : one (equal_thread n o) ≡ 0 = ap one q in omega (arith, e, ih, count_cons (equal_thread n) o ns)

counts_once : (k : ThreadName) (ns : List ThreadName) → AreDistinct ns → count_by (equal_thread k) ns ≤ 1
counts_once k [] h = omega arith
counts_once k (n ∷ ns) h = go (equal_thread k n) refl (counts_once k ns h.1)
  where
    go : (b : Bool) → equal_thread k n ≡ b → count_by (equal_thread k) ns ≤ 1 → count_by (equal_thread k) (n ∷ ns) ≤ 1
    go true q ih =
        let same : k ≡ n = (same_thread_decides k n).0 q in
        let none : count_by (equal_thread k) ns ≡ 0 = subst (λ (m : ThreadName). count_by (equal_thread m) ns ≡ 0) (sym same) (counts_none n ns h.0) in
        let e : one (equal_thread k n) ≡ 1 = ap one q in
        omega (arith, none, e, count_cons (equal_thread k) n ns)
    go false q ih = let e : one (equal_thread k n) ≡ 0 = ap one q in omega (arith, e, ih, count_cons (equal_thread k) n ns)

fewer : (ns all : List ThreadName) → AreDistinct ns → ((n : ThreadName) → Contains ns n → Contains all n) → length ns ≤ length all
fewer ns all apart within = omega (arith, every_counts ns, few every equal_thread all ns (λ n at is. (n, within n at, (same_thread_decides n n).1 refl)) (λ k. counts_once k ns apart))

pub answer_messages_are_few : AnswerMessagesAreFew
answer_messages_are_few p n limit j w is low high short run = omega (arith, by_five (sent_of j), a.ends, a.olds, a.homes, a.few, threads)
  where
    run_with : (s : State) × AnswersAreFew p j w s
    run_with = few_answers p n limit j w low run.wired run.sites (joined_in p n limit is low high short j w run).fit

    a : AnswersAreFew p j w run_with.0
    a = run_with.1

    -- who waits was made
    made : (o : ThreadName) → Contains a.asking o → Contains (threads_made (schedule j)) o
    made o at =
        let waits = a.waits o at in
        let real = ((asked_in p n limit (threads_are_placed p n limit is low high short) j w run).sites waits.0).real o (waits.2, WaitsFor waits.1) waits.3.0 in
        (scheduled_in p n limit j w run).1 o.site o refl real.1

    threads : length a.asking ≤ length (threads_made (schedule j))
    threads = fewer a.asking (threads_made (schedule j)) a.distinct made

pub all_messages_are_few : AllMessagesAreFew
all_messages_are_few p n limit j w is low high short run = (r.joined.reached.centre, r.joined.reached.run, omega (arith, by_kind (sent_of j), messages_are_few p n limit j w is low high short run, answer_messages_are_few p n limit j w is low high short run, counted, most))
  where
    r : Paid p n (world_of j w) (schedule j) (sent_of j)
    r = paid p n limit is low high short j w run

    counted : count_by is_of_cell (sent_of j) ≤ sum_over (λ c. cell_weights c 1 1 1 (sent_of j)) (mobile_cells r.joined.reached.centre.cells)
    counted = cells_counted (mobile_cells r.joined.reached.centre.cells) (sent_of j) has
      where
        has : (d : CellName) → 1 ≤ cell_weights d 1 1 1 (sent_of j) → (v : VarName) × (value_of equal_cell (mobile_cells r.joined.reached.centre.cells) d ≡ Some v)
        has d k = go (value_of equal_cell (mobile_cells r.joined.reached.centre.cells) d) refl
          where
            go : (o : Option VarName) → value_of equal_cell (mobile_cells r.joined.reached.centre.cells) d ≡ o → (v : VarName) × (value_of equal_cell (mobile_cells r.joined.reached.centre.cells) d ≡ Some v)
            go None e = let none = r.tally.unmade d e 1 1 1 in absurd (omega (arith, k, none))
            go (Some v) e = (v, e)

    most : sum_over (λ c. cell_weights c 1 1 1 (sent_of j)) (mobile_cells r.joined.reached.centre.cells) ≤ sum_over (λ c. 3 * (length (exchanges p (schedule j) c) + n)) (mobile_cells r.joined.reached.centre.cells)
    most = sum_less (λ c. cell_weights c 1 1 1 (sent_of j)) (λ c. 3 * (length (exchanges p (schedule j) c) + n)) (λ c. few_messages n w (world_of j w).mail (mobile_cells r.joined.reached.centre.cells) (sent_of j) (λ b. length (exchanges p (schedule j) b)) low r.tally c) (mobile_cells r.joined.reached.centre.cells)

-- the requests of each thread, beside the exchanges that serve them
pub requests_always_balance : RequestsAlwaysBalance
requests_always_balance p n limit j w is low high short run = requests_balance p n limit j w low run.wired run.sites (joined_in p n limit is low high short j w run).fit
