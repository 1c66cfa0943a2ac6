-- A message that is no request and no answer comes: what the site knows grows, and those who wait for answers go on waiting.
use Rattle.std.proofs.Common.{◌≡◌, ◌∙◌, sym, ap, refl, subst, ℕ, List, [], ◌∷◌, Bool, true, false, cond, Some, None}
use Rattle.std.specs.Prelude.{Option, Contains}
use Rattle.tree_node.specs.declared.names.VarName.{VarName}
use Rattle.tree_node.specs.declared.names.CellName.{CellName}
use Rattle.tree_node.specs.declared.names.ThreadName.{ThreadName}
use Rattle.tree_node.specs.declared.names.CodeId.{CodeId}
use Rattle.tree_node.specs.declared.node.Term.{Term}
use Rattle.tree_node.specs.Each.{AreDistinct}
use Rattle.tree_node.specs.State.{Stack}
use Rattle.tree_node.specs.Store.{Store, Equation}
use Rattle.tree_node.proofs.ClassLemmas.{Contains-head, Contains-tail}
use Rattle.kernel_syntax.specs.declared.stmt.Stmt.{Stmt}
use Rattle.site_message.specs.declared.message.Msg.{Msg}
use Rattle.site_message.specs.declared.message.Msg.TheVariants as msg
use Rattle.oz_model.specs.Answers.{IsPartOf}
use Rattle.bind_protocol.specs.Records.{is_own, knowledge}
use Rattle.thread_roster.specs.declared.mode.Awaited.{Awaited}
use Rattle.thread_roster.specs.declared.mode.Mode.TheVariants as mode
use Rattle.site_model.specs.Bundle.{message_bundle}
use Rattle.site_model.specs.Cells.{effect_here, exchange_stack, after_exchange, after_exchange_as, content_after_exchange, serving}
use Rattle.site_model.specs.Fit.{CanTake}
use Rattle.site_model.specs.Messages.{bind_request_as, message_row, reception}
use Rattle.site_model.specs.Site.{Site, ThreadState, cell_record, thread_state}
use Rattle.site_model.specs.Variables.{with_known_equation, with_known_equation_as, with_known_equations, opening}
use Rattle.world_model.specs.Shown.{is_asking}
use Rattle.world_model.proofs.AbsentLemmas.{told_all_none}
use Rattle.world_variables.specs.Sums.{names}
use Rattle.world_variables.proofs.SumLemmas.{told_all_sums, serves_names}
use Rattle.world_cells.specs.Standing.{IsStanding}
use Rattle.world_cells.proofs.MessageLemmas.{takes_apart}
use Rattle.world_cells.proofs.QueueLemmas.{SameWaiters, waiters_same, waiters_then, goes_waiters, running_not, mode_in}
use Rattle.world_cells.proofs.UnitQueueLemmas.{told_all_waiters}
use Rattle.world_answers.proofs.ShownLemmas.{standing_state}
use Rattle.world_answers.proofs.ViewLemmas.{StandsAt, QueueStands, exchange_left}

-- ---- what is known

told_grows : (s : Site) (x : VarName) (t : Term) → IsPartOf s.equations (with_known_equation s x t).equations
told_grows s x t e c = go (is_own s.records x) (knowledge s.records x)
  where
    go : (b : Bool) (o : Option (Option Term)) → Contains (with_known_equation_as b o s x t).equations e
    go true o = c
    go false None = Contains-tail (x, t) e s.equations c
    go false (Some None) = Contains-tail (x, t) e s.equations c
    go false (Some (Some r)) = c

told_all_grow : (es : List Equation) (s : Site) → IsPartOf s.equations (with_known_equations s es).equations
told_all_grow [] s x c = c
told_all_grow (e ∷ es) s x c = told_all_grow es (with_known_equation s e.0 e.1) x (told_grows s e.0 e.1 x c)

exchange_same : (p : List Stmt) (n : ThreadName) (v : VarName) (s : Site) → (after_exchange p n v s).equations ≡ s.equations
exchange_same p n v s = go (thread_state s n)
  where
    go : (o : Option ThreadState) → (after_exchange_as p n v s o).equations ≡ s.equations
    go None = refl
    go (Some st) = refl

serving_same : (p : List Stmt) (c : CellName) (ns : List ThreadName) (v : VarName) (s : Site) → (serving p c ns v s).site.equations ≡ s.equations
serving_same p c [] v s = refl
serving_same p c (n ∷ ns) v s = serving_same p c ns (content_after_exchange p n v s) (after_exchange p n v s) ∙ exchange_same p n v s

row_grows : (p : List Stmt) (limit : ℕ) (m : Msg) (s : Site) → IsStanding m → IsPartOf s.equations (message_row p limit m s).site.equations
row_grows p limit (msg.Spawn n code vars bundle) s h x c = c
row_grows p limit (msg.Register y k) s h x c = c
row_grows p limit (msg.BindReq y n t bundle) s h x c = go (knowledge s.records y)
  where
    go : (o : Option (Option Term)) → Contains (bind_request_as o limit y t n s).site.equations x
    go None = c
    go (Some None) = Contains-tail (y, t) x s.equations c
    go (Some (Some r)) = c
row_grows p limit (msg.Binding y t bundle) s h x c = told_grows s y t x c
row_grows p limit (msg.Get d k) s h x c = c
row_grows p limit (msg.Forward d k) s h x c = c
row_grows p limit (msg.Put d v bundle) s h x c = subst (λ (q : Store). Contains q x) (sym (serving_same p d (cell_record s d).queue v s)) c
row_grows p limit (msg.PortSend q n k) s h x c = absurd h
row_grows p limit (msg.PortEnd n old new bundle) s h x c = absurd h
row_grows p limit (msg.CellMake d v bundle) s h x c = absurd h
row_grows p limit (msg.CellAsk d n k v bundle) s h x c = absurd h
row_grows p limit (msg.CellOld n v bundle) s h x c = absurd h

pub opens_grow : (m : Msg) (s : Site) → IsPartOf s.equations (opening m s).site.equations
opens_grow m s = told_all_grow (message_bundle m) s

pub heard_grows : (p : List Stmt) (limit : ℕ) (m : Msg) (s : Site) → IsStanding m → IsPartOf s.equations (reception p limit m s).site.equations
heard_grows p limit m s h x c = row_grows p limit m (opening m s).site h x (opens_grow m s x c)

-- ---- who is not there is not there afterwards

-- a Spawn's thread is not there, after its bundle is known
spawn_none : (m : Msg) (s : Site) → CanTake s m → (n : ThreadName) (code : CodeId) (vars : List VarName) (bundle : List Equation) → m ≡ msg.Spawn n code vars bundle → thread_state (opening m s).site n ≡ None
spawn_none m s takes n code vars bundle e = told_all_none (message_bundle m) s n (subst (CanTake s) e takes)

-- ---- who waits for an answer

exchange_waiters : (p : List Stmt) (n : ThreadName) (v : VarName) (s : Site) → StandsAt s n → (a : Awaited) → is_asking (mode.WaitsFor a) ≡ true → SameWaiters s.threads (after_exchange p n v s).threads a
exchange_waiters p n v s h a asks = go (thread_state s n) refl h
  where
    go : (o : Option ThreadState) → thread_state s n ≡ o → standing_state o ≡ o → SameWaiters s.threads (after_exchange_as p n v s o).threads a
    go None e f = waiters_same s.threads a
    go (Some w) e f = goes_waiters s.threads n (Some (exchange_stack v (effect_here p s [] None w.0).cell (effect_here p s [] None w.0).stack, mode.Runs)) w a e (λ st q. other st q) (λ st q. running_not _ st a q)
      where
        other : (st : Stack) → Some w ≡ Some (st, mode.WaitsFor a) → ⊥
        other st q =
            let same : w.1 ≡ mode.WaitsFor a = ap mode_in q in
            let yes : is_asking w.1 ≡ true = ap is_asking same ∙ asks in
            one (is_asking w.1) yes f
          where
            one : (b : Bool) → b ≡ true → cond b None (Some w) ≡ Some w → ⊥
            one true g k = cc
            one false g k = cc

serving_waiters : (p : List Stmt) (c : CellName) (ns : List ThreadName) (v : VarName) (s : Site) → ((n : ThreadName) → Contains ns n → StandsAt s n) → (a : Awaited) → is_asking (mode.WaitsFor a) ≡ true → SameWaiters s.threads (serving p c ns v s).site.threads a
serving_waiters p c [] v s h a asks = waiters_same s.threads a
serving_waiters p c (n ∷ ns) v s h a asks = waiters_then s.threads (after_exchange p n v s).threads (serving p c ns (content_after_exchange p n v s) (after_exchange p n v s)).site.threads a
    (exchange_waiters p n v s (h n (Contains-head n ns)) a asks)
    (serving_waiters p c ns (content_after_exchange p n v s) (after_exchange p n v s) (λ m k. exchange_left p n m v s (h m (Contains-tail n m ns k))) a asks)

pub heard_waiters : (p : List Stmt) (limit : ℕ) (m : Msg) (s : Site) → IsStanding m → CanTake s m → QueueStands (opening m s).site m → (a : Awaited) → is_asking (mode.WaitsFor a) ≡ true → SameWaiters s.threads (reception p limit m s).site.threads a
heard_waiters p limit m s stands takes queue a asks = waiters_then s.threads (opening m s).site.threads (reception p limit m s).site.threads a (told_all_waiters s (message_bundle m) a) (go m stands (spawn_none m s takes) queue)
  where
    go : (o : Msg) → IsStanding o → ((n : ThreadName) (code : CodeId) (vars : List VarName) (bundle : List Equation) → o ≡ msg.Spawn n code vars bundle → thread_state (opening m s).site n ≡ None) → QueueStands (opening m s).site o → SameWaiters (opening m s).site.threads (message_row p limit o (opening m s).site).site.threads a
    go (msg.Spawn n code vars bundle) h none q = (takes_apart p limit (msg.Spawn n code vars bundle) (opening m s).site tt none).waiters a
    go (msg.Register x k) h none q = waiters_same (opening m s).site.threads a
    go (msg.BindReq x n t bundle) h none q = (takes_apart p limit (msg.BindReq x n t bundle) (opening m s).site tt none).waiters a
    go (msg.Binding x t bundle) h none q = (takes_apart p limit (msg.Binding x t bundle) (opening m s).site tt none).waiters a
    go (msg.Get c k) h none q = waiters_same (opening m s).site.threads a
    go (msg.Forward c k) h none q = waiters_same (opening m s).site.threads a
    go (msg.Put c v bundle) h none q = serving_waiters p c (cell_record (opening m s).site c).queue v (opening m s).site q a asks
    go (msg.PortSend r n k) h none q = absurd h
    go (msg.PortEnd n old new bundle) h none q = absurd h
    go (msg.CellMake c v bundle) h none q = absurd h
    go (msg.CellAsk c n k v bundle) h none q = absurd h
    go (msg.CellOld n v bundle) h none q = absurd h

-- ---- each thread once

pub heard_once : (p : List Stmt) (limit : ℕ) (m : Msg) (s : Site) → IsStanding m → CanTake s m → AreDistinct (names s.threads) → AreDistinct (names (reception p limit m s).site.threads)
heard_once p limit m s stands takes once = go m stands (spawn_none m s takes) (subst (λ (xs : List ThreadName). AreDistinct xs) (sym (told_all_sums s (message_bundle m)).names) once)
  where
    go : (o : Msg) → IsStanding o → ((n : ThreadName) (code : CodeId) (vars : List VarName) (bundle : List Equation) → o ≡ msg.Spawn n code vars bundle → thread_state (opening m s).site n ≡ None) → AreDistinct (names (opening m s).site.threads) → AreDistinct (names (message_row p limit o (opening m s).site).site.threads)
    go (msg.Spawn n code vars bundle) h none d = (takes_apart p limit (msg.Spawn n code vars bundle) (opening m s).site tt none).once d
    go (msg.Register x k) h none d = d
    go (msg.BindReq x n t bundle) h none d = (takes_apart p limit (msg.BindReq x n t bundle) (opening m s).site tt none).once d
    go (msg.Binding x t bundle) h none d = (takes_apart p limit (msg.Binding x t bundle) (opening m s).site tt none).once d
    go (msg.Get c k) h none d = d
    go (msg.Forward c k) h none d = d
    go (msg.Put c v bundle) h none d = subst (λ (xs : List ThreadName). AreDistinct xs) (sym (serves_names p c (cell_record (opening m s).site c).queue v (opening m s).site)) d
    go (msg.PortSend r n k) h none d = absurd h
    go (msg.PortEnd n old new bundle) h none d = absurd h
    go (msg.CellMake c v bundle) h none d = absurd h
    go (msg.CellAsk c n k v bundle) h none d = absurd h
    go (msg.CellOld n v bundle) h none d = absurd h
