-- What the simulation gives: each thread is at one place, and those that wait for a token can be served when it comes.
use Rattle.std.proofs.Common.{arith, ◌≡◌, ◌≢◌, ◌∙◌, sym, ap, refl, subst, ℕ, ◌≤◌, List, [], ◌∷◌}
use Rattle.std.specs.Prelude.{Some, Contains}
use Rattle.tree_node.specs.declared.names.VarName.{VarName}
use Rattle.tree_node.specs.declared.names.CellName.{CellName}
use Rattle.tree_node.specs.declared.names.ThreadName.{ThreadName}
use Rattle.tree_node.specs.declared.names.CodeId.{CodeId}
use Rattle.tree_node.specs.Assoc.{value_of}
use Rattle.tree_node.specs.State.{Stack, State, equal_thread}
use Rattle.kernel_syntax.specs.declared.stmt.Stmt.{Stmt}
use Rattle.site_message.specs.declared.message.Msg.{Msg}
use Rattle.site_message.specs.declared.message.Msg.TheVariants as msg
use Rattle.site_message.specs.declared.turn.Turn.{Turn}
use Rattle.site_message.specs.Journal.{IsTravelling, travelling}
use Rattle.site_message.proofs.JournalLemmas.{travelling_tells}
use Rattle.oz_model.specs.Step.{threads_born}
use Rattle.tree_node.specs.Store.{Equation}
use Rattle.site_model.specs.Requests.{Answer, NewEnd, OldContent}
use Rattle.site_model.specs.Site.{Threads, ThreadState, EarlyRequest, thread_state, home_record}
use Rattle.thread_roster.specs.declared.mode.Awaited.{Awaited}
use Rattle.thread_roster.specs.declared.mode.Awaited.TheVariants.{Cell}
use Rattle.thread_roster.specs.declared.mode.Mode.TheVariants.{WaitsFor}
use Rattle.site_model.specs.Messages.{birth}
use Rattle.world_model.specs.Claims.{ContentOf, answer, Asked, Answered, Listed}
use Rattle.world_model.specs.World.{Sites, IsOnItsWay, threads, world_of}
use Rattle.world_model.specs.Matches.{IsThreadAt, IsInSpawn, ThreadsMatch}
use Rattle.world_model.specs.Shown.{shown}
use Rattle.world_model.specs.Simulated.{IsSimulated}
use Rattle.world_answers.proofs.LivingLemmas.{told_state, told_option, told_sites, told_found, told_placed}
use Rattle.world_answers.proofs.ShownLemmas.{stands_from, shown_threads_real}
use Rattle.world_messages.specs.BindRequests.{BringsThread, AnswersThread, Awaits, ThreadsPlaced}

module _ (p : List Stmt) (n : ℕ) (j : List Turn) (f : Sites) (s : State) (h : IsSimulated p n j f s) (inside : (i : ℕ) (o : ThreadName) (v : ThreadState) → value_of equal_thread (f i).threads o ≡ Some v → (1 ≤ i) × (i ≤ n)) where
  -- where the machine's threads are, whatever they wait for
  placed : ThreadsMatch p (threads (told_sites f h.transit)) (travelling j) s.threads
  placed = told_placed p n (world_of j f) h.transit s h.matches.parts.placed h.answers inside

  travels : (k to : ℕ) (o : Msg) → IsTravelling j k (record { to = to; msg = o }) → IsOnItsWay (travelling j) k to o
  travels k to o at = (travelling_tells j k (record { to = to; msg = o })).1 at

  born_stack : (n : ThreadName) (code : CodeId) (vars : List VarName) → (st : Stack) × (threads_born p (Some (birth n code vars)) ≡ (n, st) ∷ [])
  born_stack n code vars = (_, refl)

  brings : (k to : ℕ) (n : ThreadName) (o : Msg) → IsTravelling j k (record { to = to; msg = o }) → BringsThread n o → (st : Stack) × IsInSpawn p (travelling j) k n st
  brings k to n (msg.Spawn q code vars bundle) at b = by (subst (λ (z : ThreadName). IsTravelling j k (record { to = to; msg = msg.Spawn z code vars bundle })) b at)
    where
      by : IsTravelling j k (record { to = to; msg = msg.Spawn n code vars bundle }) → (st : Stack) × IsInSpawn p (travelling j) k n st
      by at = ((born_stack n code vars).0, (to, code, vars, bundle, travels k to (msg.Spawn n code vars bundle) at, (born_stack n code vars).1))
  brings k to n (msg.Register a b) at h = absurd h
  brings k to n (msg.BindReq a b q r) at h = absurd h
  brings k to n (msg.Binding a b q) at h = absurd h
  brings k to n (msg.Get a b) at h = absurd h
  brings k to n (msg.Forward a b) at h = absurd h
  brings k to n (msg.Put a b q) at h = absurd h
  brings k to n (msg.PortSend a b q) at h = absurd h
  brings k to n (msg.PortEnd a b q r) at h = absurd h
  brings k to n (msg.CellMake a b q) at h = absurd h
  brings k to n (msg.CellAsk a b q r t) at h = absurd h
  brings k to n (msg.CellOld a b q) at h = absurd h

  is_at : (i : ℕ) (n : ThreadName) (v : ThreadState) → thread_state (f i) n ≡ Some v → IsThreadAt (threads (told_sites f h.transit)) i n (told_state h.transit n v).0
  is_at i n v e = ((told_state h.transit n v).1, told_found h.transit (f i).threads n ∙ ap (told_option h.transit n) e)

  mode_of : (u w : ThreadState) (d : CellName) → Some u ≡ Some w → u.1 ≡ WaitsFor (Cell d) → w.1 ≡ WaitsFor (Cell d)
  mode_of u w d e q = let same : u ≡ w = cc in ap (λ (z : ThreadState). z.1) (sym same) ∙ q

  -- those that stand in a list are no threads that wait for an answer
  listed_mode : (i : ℕ) (d : CellName) (n : ThreadName) (st : Stack) (w : ThreadState) → value_of equal_thread (shown f h.transit i).threads n ≡ Some (st, WaitsFor (Cell d)) → thread_state (f i) n ≡ Some w → w.1 ≡ WaitsFor (Cell d)
  listed_mode i d n st w e a =
      let range = inside i n w a in
      let real : i ≢ 0 = (λ z. (let low : 1 ≤ i = range.0 in absurd (omega (arith, low, z)))) in
      let here = stands_from (f i).threads n (st, WaitsFor (Cell d)) (ap (λ (ts : Threads). value_of equal_thread ts n) (sym (shown_threads_real f h.transit i real)) ∙ e) in
      mode_of (st, WaitsFor (Cell d)) w d (sym here.0 ∙ a) refl

  waits_mode : (u w : ThreadState) (a : Awaited) → Some u ≡ Some w → u.1 ≡ WaitsFor a → w.1 ≡ WaitsFor a
  waits_mode u w a e q = let same : u ≡ w = cc in ap (λ (z : ThreadState). z.1) (sym same) ∙ q

  -- a thread for which an answer comes waits for one
  waits : (k to : ℕ) (n : ThreadName) (x : Answer) (bundle : List Equation) → IsOnItsWay (travelling j) k to (answer n x bundle) → Awaits n (f to)
  waits k to n x bundle at w e =
      let g = h.answers.asking.grounded (Answered k to n x) (bundle, at) in
      (g.0, waits_mode (g.1, WaitsFor g.0) w g.0 (sym g.2.0 ∙ e) refl)

  answered : (k to : ℕ) (n : ThreadName) (o : Msg) → IsOnItsWay (travelling j) k to o → AnswersThread n o → Awaits n (f to)
  answered k to n (msg.PortEnd q old new bundle) at b = subst (λ (z : ThreadName). Awaits z (f to)) b (waits k to q (NewEnd old new) bundle at)
  answered k to n (msg.CellOld q v bundle) at b = subst (λ (z : ThreadName). Awaits z (f to)) b (waits k to q (OldContent v) bundle at)
  answered k to n (msg.Spawn a b q r) at g = absurd g
  answered k to n (msg.Register a b) at g = absurd g
  answered k to n (msg.BindReq a b q r) at g = absurd g
  answered k to n (msg.Binding a b q) at g = absurd g
  answered k to n (msg.Get a b) at g = absurd g
  answered k to n (msg.Forward a b) at g = absurd g
  answered k to n (msg.Put a b q) at g = absurd g
  answered k to n (msg.PortSend a b q) at g = absurd g
  answered k to n (msg.CellMake a b q) at g = absurd g
  answered k to n (msg.CellAsk a b q r t) at g = absurd g

  -- those of the home that asked before it heard of the cell wait for it
  early : (k to : ℕ) (c : CellName) (v : VarName) (bundle : List Equation) (r : EarlyRequest) (w : ThreadState) → IsOnItsWay (travelling j) k to (msg.CellMake c v bundle) → Contains (home_record (f to) c).early r → r.asking ≡ to →
      thread_state (f to) r.thread ≡ Some w → w.1 ≡ WaitsFor (Cell c)
  early k to c v bundle r w at listed own a =
      let home : to ≡ c.at = (h.answers.contents.makes k to c v (bundle, at)).0 in
      let g = h.answers.asking.grounded (Listed c r) (subst (λ (l : ℕ). Contains (home_record (f l) c).early r) home listed) in
      waits_mode (g.0, WaitsFor (Cell c)) w (Cell c) (sym g.1.0 ∙ subst (λ (l : ℕ). thread_state (f l) r.thread ≡ Some w) (sym own) a) refl

  pub threads_placed : ThreadsPlaced j f
  threads_placed = record {
    home = λ i l n v w a b. placed.home i l n (told_state h.transit n v).0 (told_state h.transit n w).0 (is_at i n v a) (is_at l n w b);
    apart = λ i k to n v o a at b. (let r = brings k to n o at b in placed.apart i k n (told_state h.transit n v).0 r.0 (is_at i n v a) r.1);
    sole = λ k l to at n o q a b c d. (let r = brings k to n o a c in let t = brings l at n q b d in placed.once k l n r.0 t.0 r.1 t.1);
    queues = λ i d n w listed a. (let r = (h.cells.queues i d).stand n listed in listed_mode i d n r.0 w r.1 a);
    answered = λ k to n o at b. answered k to n o (travels k to o at) b;
    elsewhere = λ k to c n a v bundle at. (h.answers.asking.grounded (Asked k to (ContentOf c v) n a) (bundle, travels k to (msg.CellAsk c n a v bundle) at)).1;
    early = λ k to c v bundle r w at listed own a. early k to c v bundle r w (travels k to (msg.CellMake c v bundle) at) listed own a;
  }
