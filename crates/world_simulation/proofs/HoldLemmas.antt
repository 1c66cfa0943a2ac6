-- Ports, stationary cells and the threads that wait for answers, in every run.
use Rattle.std.proofs.Common.{◌≡◌, ◌≢◌, ◌∙◌, sym, ap, refl, subst, ℕ, List, [], ◌⊎◌, inl, inr, Bool, true, false, Some, None}
use Rattle.std.specs.Prelude.{Option, Contains, ◌==◌, not}
use Rattle.tree_node.specs.declared.names.VarName.{VarName}
use Rattle.tree_node.specs.declared.names.CellName.{CellName}
use Rattle.tree_node.specs.declared.names.PortName.{PortName}
use Rattle.tree_node.specs.declared.names.ThreadName.{ThreadName}
use Rattle.tree_node.specs.Assoc.{value_of}
use Rattle.tree_node.specs.State.{Stack, State, equal_thread}
use Rattle.tree_node.specs.Store.{Store}
use Rattle.kernel_syntax.specs.declared.stmt.Stmt.{Stmt}
use Rattle.site_message.specs.declared.message.Msg.{Msg}
use Rattle.site_message.specs.declared.message.Msg.TheVariants as msg
use Rattle.site_message.specs.declared.turn.Turn.{Turn}
use Rattle.site_message.specs.Journal.{travelling}
use Rattle.site_message.specs.Wire.{FitsWire}
use Rattle.oz_model.specs.Effect.{Exchanged, Effect, stack_effect}
use Rattle.oz_model.specs.Laws.{FindsCell}
use Rattle.oz_model.specs.Step.{IsAllowed, effect_of}
use Rattle.oz_model.proofs.CellLemmas.{steps_find_cells}
use Rattle.thread_roster.specs.declared.mode.Awaited.{Awaited}
use Rattle.thread_roster.specs.declared.mode.Awaited.TheVariants.{Cell, Port}
use Rattle.thread_roster.specs.declared.mode.Mode.TheVariants.{Runs, WaitsFor}
use Rattle.site_model.specs.Requests.{NewEnd, OldContent}
use Rattle.site_model.specs.Cells.{step_pick}
use Rattle.site_model.specs.Site.{Site, EarlyRequest}
use Rattle.world_model.specs.Claims.{EndOf, ContentOf, Asks, Claim, Asked, Answered, Listed, IsClaim, FitsClaim, IsAsking, claimant}
use Rattle.world_model.specs.Keepers.{IsTold, homes, content_at, early_at}
use Rattle.world_model.specs.Names.{IsHere, here_at}
use Rattle.world_model.specs.Schedule.{schedule}
use Rattle.world_model.specs.Shown.{is_asking, shown}
use Rattle.world_model.specs.Simulated.{IsSimulated}
use Rattle.world_model.specs.World.{eqs, records, threads, counters}
use Rattle.world_model.proofs.PutLemmas.{nat_decides}
use Rattle.world_answers.proofs.KeptLemmas.{allowed, effect_is}
use Rattle.world_messages.specs.Unfit.{MessagesAreFit}
use Rattle.world_simulation.specs.Answers.{IsOfPort, IsOfCell, HasOne, PortsHold, HomesHold, AnswersAlwaysHold}
use Rattle.world_simulation.specs.Messages.{cell_of}
use Rattle.world_simulation.proofs.SimulationLemmas.{every_run_is_simulated}

-- a claim that fits is of what the thread waits for
of_port : (p : List Stmt) (s : Store) (i : ℕ) (q : PortName) (st z : Stack) (x : Claim) → FitsClaim p s i (Port q) st z x → IsOfPort q x
of_port p s i q st z (Asked k to (EndOf r) n from) (own, same, stack) = let e : Port r ≡ Port q = same in cc
of_port p s i q st z (Asked k to (ContentOf c v) n from) (own, same, stack) = let e : Cell c ≡ Port q = same in cc
of_port p s i q st z (Listed c r) (own, same, stack) = cc
of_port p s i q st z (Answered k to n (NewEnd old new)) h = tt
of_port p s i q st z (Answered k to n (OldContent v)) (own, EndOf r, same, asks, fits, stack) = absurd fits
of_port p s i q st z (Answered k to n (OldContent v)) (own, ContentOf c w, same, asks, fits, stack) = let e : Cell c ≡ Port q = same in cc

of_cell : (p : List Stmt) (s : Store) (i : ℕ) (c : CellName) (st z : Stack) (x : Claim) → FitsClaim p s i (Cell c) st z x → IsOfCell c x
of_cell p s i c st z (Asked k to (EndOf r) n from) (own, same, stack) = let e : Port r ≡ Cell c = same in cc
of_cell p s i c st z (Asked k to (ContentOf d v) n from) (own, same, stack) = let e : Cell d ≡ Cell c = same in cc
of_cell p s i c st z (Listed d r) (own, same, stack) = cc
of_cell p s i c st z (Answered k to n (OldContent v)) h = tt
of_cell p s i c st z (Answered k to n (NewEnd old new)) (own, EndOf r, same, asks, fits, stack) = let e : Port r ≡ Cell c = same in cc
of_cell p s i c st z (Answered k to n (NewEnd old new)) (own, ContentOf d w, same, asks, fits, stack) = absurd fits

module _ (p : List Stmt) (n : ℕ) (j : List Turn) (w : ℕ → Site) (s : State) (h : IsSimulated p n j w s) where
  one_of : (i : ℕ) (o : ThreadName) (a : Awaited) (st : Stack) (P : Claim → Type 0) → IsAsking (threads w) i o a st → ((z : Stack) (x : Claim) → FitsClaim p (eqs w i) i a st z x → P x) → HasOne j w o P
  one_of i o a st P waits fits =
      let f = h.answers.asking.stands i o a st waits in
      (f.2, f.3, f.4, fits f.0 f.2 f.5, λ y claim is. h.answers.asking.once y f.2 claim f.3 (is ∙ sym f.4))

  ports_hold : PortsHold p j w s
  ports_hold = record {
    chain = h.sends;
    order = h.ordered;
    end = h.answers.ends.ends;
    alone = λ i q e there. (h.answers.ends.alone i q e there).0;
    waits = λ i o q st at. one_of i o (Port q) st (IsOfPort q) (at, refl) (λ z x f. of_port p (eqs w i) i q st z x f);
  }

  asks_home : (c : CellName) → c.at ≢ 0 → is_asking (WaitsFor (Cell c)) ≡ true
  asks_home c away = go (c.at == 0) refl
    where
      go : (b : Bool) → (c.at == 0) ≡ b → not b ≡ true
      go true q = absurd (away ((nat_decides c.at 0).0 q))
      go false q = refl

  -- a message on a token is spelled with the name of a mobile cell
  of_mobile : (o : Msg) (c : CellName) → FitsWire o → cell_of o ≡ Some c → c.at ≡ 0
  of_mobile (msg.Get d k) c f e = let same : d ≡ c = cc in subst (λ (x : CellName). x.at ≡ 0) same f.0.1
  of_mobile (msg.Forward d k) c f e = let same : d ≡ c = cc in subst (λ (x : CellName). x.at ≡ 0) same f.0.1
  of_mobile (msg.Put d v bundle) c f e = let same : d ≡ c = cc in subst (λ (x : CellName). x.at ≡ 0) same f.0.1
  of_mobile (msg.Spawn a b d q) c f e = cc
  of_mobile (msg.Register a b) c f e = cc
  of_mobile (msg.BindReq a b d q) c f e = cc
  of_mobile (msg.Binding a b d) c f e = cc
  of_mobile (msg.PortSend a b d) c f e = cc
  of_mobile (msg.PortEnd a b d q) c f e = cc
  of_mobile (msg.CellMake a b d) c f e = cc
  of_mobile (msg.CellAsk a b d q r) c f e = cc
  of_mobile (msg.CellOld a b d) c f e = cc

  -- the cell for which a request is kept has a content at the machine, since the thread that asked can exchange it there; so its home is
  -- still to be told of it
  early_told : (c : CellName) (r : EarlyRequest) → Contains (early_at (homes w) c) r → (content_at (homes w) c ≡ None) × (k : ℕ) × (v : VarName) × IsTold (travelling j) k c.at c v
  early_told c r at = go (h.answers.contents.kept c finds.0 unheard.0 finds.1)
    where
      unheard : (c.at ≢ 0) × (content_at (homes w) c ≡ None) × IsHere (records w c.at) r.new
      unheard = h.answers.early c r at

      ground : (st : Stack) × IsAsking (threads w) r.asking r.thread (Cell c) st × Asks p (eqs w r.asking) st (ContentOf c r.new)
      ground = h.answers.asking.grounded (Listed c r) at

      stands : (z : Stack) × (value_of equal_thread h.transit r.thread ≡ Some (z, Runs)) × (y : Claim) × IsClaim (travelling j) (early_at (homes w)) y × (claimant y ≡ r.thread) × FitsClaim p (eqs w r.asking) r.asking (Cell c) ground.0 z y
      stands = h.answers.asking.stands r.asking r.thread (Cell c) ground.0 ground.1

      fits : FitsClaim p (eqs w r.asking) r.asking (Cell c) ground.0 stands.0 (Listed c r)
      fits = subst (λ (y : Claim). FitsClaim p (eqs w r.asking) r.asking (Cell c) ground.0 stands.0 y) (h.answers.asking.once stands.2 (Listed c r) stands.3 at stands.4) stands.5

      central : value_of equal_thread h.transit r.thread ≡ Some (ground.0, Runs)
      central = subst (λ (z : Stack). value_of equal_thread h.transit r.thread ≡ Some (z, Runs)) fits.2 stands.1

      real : r.asking ≢ 0
      real = (h.answers.named r.asking r.thread (Cell c) ground.0 ground.1).0

      may : IsAllowed p s (step_pick r.thread [] None)
      may = allowed p (here_at (records w)) (eqs w) (records w) (threads (shown w h.transit)) (counters w) (travelling j) s h.matches.parts r.asking 0 r.asking r.thread ground.0 [] real h.sound central ground.2.0

      same : effect_of p s (step_pick r.thread [] None) ≡ stack_effect p (eqs w r.asking) [] None ground.0
      same = effect_is p (here_at (records w)) (eqs w) (records w) (threads (shown w h.transit)) (counters w) (travelling j) s h.matches.parts r.asking 0 r.asking r.thread ground.0 [] real h.sound central ground.2.0

      finds : FindsCell s.cells (Exchanged c r.new ground.2.1)
      finds = subst (FindsCell s.cells) (ap (λ (e : Effect). e.cell) same ∙ ground.2.2) (steps_find_cells p (schedule j) s (step_pick r.thread [] None) h.run may)

      go : (content_at (homes w) c ≡ Some finds.0) ⊎ ((content_at (homes w) c ≡ None) × (k : ℕ) × IsTold (travelling j) k c.at c finds.0) → (content_at (homes w) c ≡ None) × (k : ℕ) × (v : VarName) × IsTold (travelling j) k c.at c v
      go (inl has) = let no : ◌≡◌ {A = Option VarName} (Some finds.0) None = sym has ∙ unheard.1 in cc
      go (inr (none, k, told)) = (none, k, finds.0, told)

  homes_hold : MessagesAreFit p n j w → HomesHold j w s
  homes_hold fit = record {
    kept = h.answers.contents.kept;
    back = λ i c v at. (let r = h.answers.contents.back i c v at in (r.0, r.2));
    once = h.answers.contents.once;
    early = early_told;
    waits = λ i o c st away at. one_of i o (Cell c) st (IsOfCell c) (at, asks_home c away) (λ z x f. of_cell p (eqs w i) i c st z x f);
    mobile = λ k m c at is. of_mobile m.msg c (fit k m at).wire is;
  }

pub answers_always_hold : AnswersAlwaysHold
answers_always_hold p n limit j w is low high short run =
    let r = every_run_is_simulated p n limit j w is low high short run in
    (r.0, r.1.run, ports_hold p n j w r.0 r.1, homes_hold p n j w r.0 r.1 r.2)
