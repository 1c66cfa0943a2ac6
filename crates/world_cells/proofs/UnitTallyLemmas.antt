-- The exchanges of a run pay for the messages of its cells: units and messages.
use Rattle.std.proofs.Common.{◌≡◌, ◌∙◌, sym, ap, refl, subst, ℕ, ◌+◌, ◌≤◌, List, [], ◌∷◌, ◌++◌, inl, inr, Bool, true, false, cond, Some, None, append-nil, append_assoc, length, length-append}
use Rattle.std.specs.Prelude.{Option, ◌≢◌, ◌==◌}
use Rattle.tree_node.specs.declared.names.VarName.{VarName}
use Rattle.tree_node.specs.declared.names.CellName.{CellName}
use Rattle.tree_node.specs.declared.names.ThreadName.{ThreadName}
use Rattle.tree_node.specs.declared.names.NameKind.{NameKind}
use Rattle.tree_node.specs.declared.node.Term.{Term}
use Rattle.tree_node.specs.declared.pick.Pick.{Pick}
use Rattle.tree_node.specs.Assoc.{value_of}
use Rattle.tree_node.specs.Goal.{equal_cell}
use Rattle.tree_node.specs.State.{Stack, State, equal_thread}
use Rattle.tree_node.specs.Store.{Equation, IsSound}
use Rattle.kernel_syntax.specs.declared.stmt.Stmt.{Stmt}
use Rattle.site_message.specs.declared.message.Sent.{Sent}
use Rattle.oz_model.specs.Effect.{Effect, CellChange, Stays, Made, Exchanged, PortChange, Keeps, Opened, Sent as SentTo, stack_effect}
use Rattle.oz_model.specs.Run.{IsRun, start, Run as ModelRun, exchanges, exchanges_from, exchange_in}
use Rattle.oz_model.specs.Step as Step
use Rattle.oz_model.specs.Step.{effect_of, next}
use Rattle.oz_model.proofs.RunLemmas.{at_most_one_end}
use Rattle.oz_model.specs.Need as need
use Rattle.oz_model.specs.Need.{Need, Takes, stack_need}
use Rattle.thread_roster.specs.declared.mode.Mode.TheVariants as site
use Rattle.site_model.specs.Transition.{Transition}
use Rattle.site_model.specs.Cells.{request_row}
use Rattle.site_model.specs.Unit.{IsUnit, IsUnitFor, IsStepOrRequest, kept_step, IsCellUnit as IsUnitOfCell, IsRootBind, bind_attempt, next_names, step_row, step_pick, IsTokenHere}
use Rattle.world_model.specs.World.{World, Sites, Mail, after_transition, records, threads, counters, eqs}
use Rattle.world_model.specs.Names.{here_at}
use Rattle.world_variables.proofs.SumLemmas.{Sums}
use Rattle.world_model.proofs.PutLemmas.{nat_decides}
use Rattle.site_model.proofs.EffectLemmas.{bind_effect}
use Rattle.world_variables.proofs.UnitLemmas.{SiteStep, UnitDone}
use Rattle.world_variables.proofs.FollowLemmas.{steps_picks, kept_made, kept_exchanged, kept_opened, kept_sent, stays_cell}
use Rattle.world_variables.proofs.RunsLemmas.{runs_append}
use Rattle.world_model.proofs.CellLemmas.{request_only}
use Rattle.world_cells.proofs.FrameLemmas.{NoCells}
use Rattle.world_cells.proofs.ExchangeStepLemmas.{exchange_found}
use Rattle.world_cells.proofs.UnitCellRowLemmas.{IsReachable, reach_mobile}
use Rattle.world_cells.proofs.UnitLemmas.{done, finds, own, lone_exchange}
use Rattle.world_cells.specs.CellCounts.{IsTallied}
use Rattle.world_model.specs.Matches.{IsNumbered, IsExchange, CellsMatch}
use Rattle.world_cells.proofs.CellTallyLemmas.{CellsTallied}
use Rattle.world_cells.proofs.CellTallyRowLemmas.{exchanges_of, nothing_tally, unit_tally, asks_tally}
use Rattle.world_variables.specs.Laws.{PartsIn}
use Rattle.world_variables.specs.Plain.{IsKept}
use Rattle.world_cells.specs.Standing.{IsKeptUnit}
use Rattle.world_model.proofs.MobileLemmas.{IsMobile, mobile_at, mobile_after, finds_mobile}
use Rattle.world_model.specs.Chain.{mobile_cells}

-- exchanges of picks and then of others
exchanges_then : (p : List Stmt) (b : CellName) (ks ls : List Pick) (s t : State) → IsRun p s ks t → exchanges_from p b s (ks ++ ls) ≡ exchanges_from p b s ks ++ exchanges_from p b t ls
exchanges_then p b [] ls s t h = ap (λ (x : State). exchanges_from p b x ls) (sym h)
exchanges_then p b (k ∷ ks) ls s t (m, step, rest) =
    ap (λ (es : List (VarName × VarName)). exchange_in s b (effect_of p s k).cell ++ es)
    (ap (λ (x : State). exchanges_from p b x (ks ++ ls)) (sym step.1) ∙ exchanges_then p b ks ls m t rest ∙ ap (λ (x : State). exchanges_from p b x ks ++ exchanges_from p b t ls) step.1)
    ∙ sym (append_assoc (exchange_in s b (effect_of p s k).cell) (exchanges_from p b (next p s k) ks) (exchanges_from p b t ls))

-- the exchanges of these picks pay for the messages among those sent
abbrev pub Tally : List Stmt → ℕ → World → State → List Pick → List Sent → Type 0
Tally p n w c ks out = CellsTallied n w.sites w.mail (mobile_cells c.cells) out (λ b. length (exchanges p ks b))

-- more picks, so many exchanges
pub recount : (n : ℕ) (f : Sites) (mail : Mail) (cells : List (CellName × VarName)) (out : List Sent) (x y : CellName → ℕ) → ((b : CellName) → y b ≡ x b) → CellsTallied n f mail cells out x → CellsTallied n f mail cells out y
recount n f mail cells out x y same t = record {
  tallied = λ c v e. subst (λ (k : ℕ). IsTallied n f mail out c k) (sym (same c)) (t.tallied c v e);
  unmade = t.unmade;
  still = λ c z e. same c ∙ t.still c z e;
}

pub more_picks : (p : List Stmt) (b : CellName) (ks ls : List Pick) (c : State) → ModelRun p ks c → length (exchanges p (ks ++ ls) b) ≡ length (exchanges p ks b) + length (exchanges_from p b c ls)
more_picks p b ks ls c run = ap length (exchanges_then p b ks ls (start p) c run) ∙ length-append (exchanges p ks b) (exchanges_from p b c ls)

pub no_exchanges : (p : List Stmt) (b : CellName) (ks ls : List Pick) (c : State) → ModelRun p ks c → ls ≡ [] → length (exchanges p (ks ++ ls) b) ≡ length (exchanges p ks b)
no_exchanges p b ks ls c run e = ap (λ (l : List Pick). length (exchanges p (ks ++ l) b)) e ∙ ap (λ (l : List Pick). length (exchanges p l b)) (append-nil ks)

change_counts : (c : State) (ch : CellChange) (b : CellName) → length (exchange_in c b ch) ≡ exchanges_of ch b
change_counts c Stays b = refl
change_counts c (Made d v) b = refl
change_counts c (Exchanged d new told) b = go (equal_cell d b)
  where
    go : (x : Bool) → length (cond {A = List (VarName × VarName)} x ((Step.content_of c.cells d, new) ∷ []) []) ≡ cond x 1 0
    go true = refl
    go false = refl

-- one pick
pub one_pick : (p : List Stmt) (b : CellName) (ks ls : List Pick) (c : State) (k : Pick) (ch : CellChange) → ModelRun p ks c → ls ≡ k ∷ [] → (effect_of p c k).cell ≡ ch → length (exchanges p (ks ++ ls) b) ≡ length (exchanges p ks b) + exchanges_of ch b
one_pick p b ks ls c k ch run one is =
    more_picks p b ks ls c run
    ∙ ap (λ (l : List Pick). length (exchanges p ks b) + length (exchanges_from p b c l)) one
    ∙ ap (λ (y : CellChange). length (exchanges p ks b) + length (exchange_in c b y ++ [])) is
    ∙ ap (λ (es : List (VarName × VarName)). length (exchanges p ks b) + length es) (append-nil (exchange_in c b ch))
    ∙ ap (λ (m : ℕ). length (exchanges p ks b) + m) (change_counts c ch b)

-- ---- units

module _ (p : List Stmt) (n limit i : ℕ) (real : i ≢ 0) (w : World) (ks : List Pick) (c : State) (run : ModelRun p ks c) (sound : IsSound c.equations) (parts : PartsIn p (here_at (records w.sites)) w c) (numbers : IsNumbered w.sent w.mail) (x : CellsMatch w c) (sums : Sums w.sites w.lines c)
    (low : 1 ≤ i) (high : i ≤ n) (out : List Sent) (t : Tally p n w c ks out) where
  -- no pick, and the machine is as it was
  same_state : (d : Transition) (c2 : State) → d.picks ≡ [] → ModelRun p (ks ++ d.picks) c2 → c2 ≡ c
  same_state d c2 none run2 = at_most_one_end p (start p) ks c2 c (subst (λ (l : List Pick). ModelRun p l c2) (ap (λ (l : List Pick). ks ++ l) none ∙ append-nil ks) run2) run

  -- a unit that has nothing to do with cells
  pub plain_tally : (d : Transition) (c2 : State) → d.picks ≡ [] → ModelRun p (ks ++ d.picks) c2 → NoCells (w.sites i) d → Tally p n (after_transition w i d) c2 (ks ++ d.picks) (out ++ d.sent)
  plain_tally d c2 none run2 still =
      recount n (after_transition w i d).sites (after_transition w i d).mail (mobile_cells c2.cells) (out ++ d.sent) _ _ (λ b. no_exchanges p b ks d.picks c run none)
      (subst (λ (y : State). CellsTallied n (after_transition w i d).sites (after_transition w i d).mail (mobile_cells y.cells) (out ++ d.sent) (λ b. length (exchanges p ks b))) (sym (same_state d c2 none run2))
      (nothing_tally n w c x out (λ b. length (exchanges p ks b)) t i d still))

  step_tally : (th : ThreadName) (st : Stack) (kinds : List NameKind) (bind : Option Equation) (at : value_of equal_thread (threads w.sites i) th ≡ Some (st, site.Runs)) (step : SiteStep p (eqs w.sites i) i st kinds bind)
      (reach : IsReachable (w.sites i) (stack_effect p (eqs w.sites i) (next_names i (counters w.sites i) kinds) bind st).cell) (keeps : (stack_effect p (eqs w.sites i) (next_names i (counters w.sites i) kinds) bind st).port ≡ Keeps) (d : Transition) →
      d ≡ step_row p n limit (step_pick th (next_names i (counters w.sites i) kinds) bind) kinds (stack_effect p (eqs w.sites i) (next_names i (counters w.sites i) kinds) bind st) (w.sites i) →
      (c2 : State) → ModelRun p (ks ++ d.picks) c2 → Tally p n (after_transition w i d) c2 (ks ++ d.picks) (out ++ d.sent)
  step_tally th st kinds bind at step reach keeps d is c2 run2 =
      subst (λ (y : Transition). ModelRun p (ks ++ y.picks) c2 → Tally p n (after_transition w i y) c2 (ks ++ y.picks) (out ++ y.sent)) (sym is) tallied run2
    where
      k : Pick
      k = step_pick th (next_names i (counters w.sites i) kinds) bind

      e : Effect
      e = stack_effect p (eqs w.sites i) (next_names i (counters w.sites i) kinds) bind st

      u : UnitDone p w c n limit i th st kinds bind
      u = done p n limit i real w ks c run sound parts numbers x sums th st kinds bind at step reach keeps

      mobile : IsMobile e.cell
      mobile = reach_mobile w c i e.cell x reach

      deed : Transition
      deed = step_row p n limit (step_pick th (next_names i (counters w.sites i) kinds) bind) kinds (stack_effect p (eqs w.sites i) (next_names i (counters w.sites i) kinds) bind st) (w.sites i)

      picks : deed.picks ≡ k ∷ []
      picks = steps_picks p n limit k kinds e (w.sites i)

      tallied : ModelRun p (ks ++ (step_row p n limit (step_pick th (next_names i (counters w.sites i) kinds) bind) kinds (stack_effect p (eqs w.sites i) (next_names i (counters w.sites i) kinds) bind st) (w.sites i)).picks) c2 →
          Tally p n (after_transition w i (step_row p n limit (step_pick th (next_names i (counters w.sites i) kinds) bind) kinds (stack_effect p (eqs w.sites i) (next_names i (counters w.sites i) kinds) bind st) (w.sites i))) c2
          (ks ++ (step_row p n limit (step_pick th (next_names i (counters w.sites i) kinds) bind) kinds (stack_effect p (eqs w.sites i) (next_names i (counters w.sites i) kinds) bind st) (w.sites i)).picks)
          (out ++ (step_row p n limit (step_pick th (next_names i (counters w.sites i) kinds) bind) kinds (stack_effect p (eqs w.sites i) (next_names i (counters w.sites i) kinds) bind st) (w.sites i)).sent)
      tallied run3 =
          recount n (after_transition w i deed).sites (after_transition w i deed).mail (mobile_cells c2.cells) (out ++ deed.sent) _ _ (λ b. one_pick p b ks deed.picks c k e.cell run picks (ap (λ (y : Effect). y.cell) u.effect))
          (subst (λ (cells : List (CellName × VarName)). CellsTallied n (after_transition w i deed).sites (after_transition w i deed).mail cells (out ++ deed.sent) (λ b. length (exchanges p ks b) + exchanges_of e.cell b)) (sym cells_are)
          (unit_tally n w c x out (λ b. length (exchanges p ks b)) t p limit k kinds e i low high (parts.kept i).site (finds_mobile c.cells e.cell mobile (finds p n limit i real w ks c run sound parts numbers x sums th st kinds bind at step reach keeps)) reach (own p n limit i real w ks c run sound parts numbers x sums th st kinds bind at step reach keeps)))
        where
          next_run : ModelRun p (ks ++ deed.picks) (next p c k)
          next_run = runs_append p ks deed.picks (start p) c (next p c k) run (subst (λ (ls : List Pick). IsRun p c ls (next p c k)) (sym picks) (next p c k, (u.allowed, refl), refl))

          cells_are : mobile_cells c2.cells ≡ Step.cells_after (mobile_cells c.cells) e.cell
          cells_are = ap (λ (y : State). mobile_cells y.cells) (at_most_one_end p (start p) (ks ++ deed.picks) c2 (next p c k) run3 next_run) ∙ ap (λ (y : Effect). mobile_cells (Step.cells_after c.cells y.cell)) u.effect ∙ mobile_after c.cells e.cell mobile

  asks_tallied : (th : ThreadName) (st : Stack) (b : CellName) (new : VarName) → value_of equal_thread (threads w.sites i) th ≡ Some (st, site.Runs) → IsExchange p (eqs w.sites i) st b → b.at ≡ 0 → (IsTokenHere (w.sites i) b → ⊥) → (d : Transition) → d ≡ request_row limit b new th st (w.sites i) →
      (c2 : State) → ModelRun p (ks ++ d.picks) c2 → Tally p n (after_transition w i d) c2 (ks ++ d.picks) (out ++ d.sent)
  asks_tallied th st b new at exchange mobile elsewhere d is c2 run2 = subst (λ (y : Transition). ModelRun p (ks ++ y.picks) c2 → Tally p n (after_transition w i y) c2 (ks ++ y.picks) (out ++ y.sent)) (sym is) tallied run2
    where
      found : (v : VarName) × (value_of equal_cell c.cells b ≡ Some v)
      found = exchange_found p (eqs w.sites i) c ks th st b exchange run sound (parts.knowledge.known i) (parts.placed.up i th st (site.Runs, at))

      tallied : ModelRun p (ks ++ (request_row limit b new th st (w.sites i)).picks) c2 → Tally p n (after_transition w i (request_row limit b new th st (w.sites i))) c2 (ks ++ (request_row limit b new th st (w.sites i)).picks) (out ++ (request_row limit b new th st (w.sites i)).sent)
      tallied run3 =
          let none = (request_only limit b new th st (w.sites i)).picks in
          recount n (after_transition w i (request_row limit b new th st (w.sites i))).sites (after_transition w i (request_row limit b new th st (w.sites i))).mail (mobile_cells c2.cells) (out ++ (request_row limit b new th st (w.sites i)).sent) _ _ (λ y. no_exchanges p y ks (request_row limit b new th st (w.sites i)).picks c run none)
          (subst (λ (y : State). CellsTallied n (after_transition w i (request_row limit b new th st (w.sites i))).sites (after_transition w i (request_row limit b new th st (w.sites i))).mail (mobile_cells y.cells) (out ++ (request_row limit b new th st (w.sites i)).sent) (λ q. length (exchanges p ks q))) (sym (same_state (request_row limit b new th st (w.sites i)) c2 none run3))
          (asks_tally n w c x out (λ q. length (exchanges p ks q)) t limit i b new th st found.0 low high (mobile_at c.cells b mobile ∙ found.1) (parts.kept i).site (λ v e. elsewhere (v, e))))

  pub unit_tallied : (th : ThreadName) (d : Transition) → IsUnit p n limit th (w.sites i) d → (IsKeptUnit p (w.sites i) th → ⊥) → (c2 : State) → ModelRun p (ks ++ d.picks) c2 → Tally p n (after_transition w i d) c2 (ks ++ d.picks) (out ++ d.sent)
  unit_tallied th d (st, at, unit) other c2 run2 = go (stack_need p (eqs w.sites i) st) refl unit
    where
      Goal : Type 0
      Goal = Tally p n (after_transition w i d) c2 (ks ++ d.picks) (out ++ d.sent)

      binds : (a b : Term) → stack_need p (eqs w.sites i) st ≡ need.Binds a b → (u : VarName) (y : Term) → IsRootBind (eqs w.sites i) a b u y → d ≡ bind_attempt p n limit th st u y (u.site == (w.sites i).records.site) (w.sites i) → Goal
      binds a b e u y (allows, free, below, root) is = one (u.site == (w.sites i).records.site) refl is
        where
          one : (q : Bool) → (u.site == (w.sites i).records.site) ≡ q → d ≡ bind_attempt p n limit th st u y q (w.sites i) → Goal
          one true q is = step_tally th st [] (Some (u, y)) at (a, b, e, allows, free, below, (nat_decides u.site (w.sites i).records.site).0 q ∙ (parts.kept i).site, refl)
              (subst (IsReachable (w.sites i)) (sym (ap (λ (z : Effect). z.cell) (bind_effect p (eqs w.sites i) st a b (u, y) e))) tt) (ap (λ (z : Effect). z.port) (bind_effect p (eqs w.sites i) st a b (u, y) e)) d is c2 run2
          one false q is = plain_tally d c2 (ap (λ (z : Transition). z.picks) is) run2 (subst (NoCells (w.sites i)) (sym is) (record { cell_records = refl; managers = refl; site = refl; silent = (tt, tt) }))

      takes : (kinds : List NameKind) → stack_need p (eqs w.sites i) st ≡ Takes kinds → (o : ℕ) → o ≡ i → (IsKept (stack_effect p (eqs w.sites i) (next_names o (counters w.sites i) kinds) None st) → ⊥) →
          IsStepOrRequest limit th st (w.sites i) (step_row p n limit (step_pick th (next_names o (counters w.sites i) kinds) None) kinds (stack_effect p (eqs w.sites i) (next_names o (counters w.sites i) kinds) None st) (w.sites i)) (kept_step p limit th st kinds (next_names o (counters w.sites i) kinds) (w.sites i)) (stack_effect p (eqs w.sites i) (next_names o (counters w.sites i) kinds) None st) d → Goal
      takes kinds e o same not_kept s = ported (stack_effect p (eqs w.sites i) (next_names i (counters w.sites i) kinds) None st).port refl
          (subst (λ (k : ℕ). IsKept (stack_effect p (eqs w.sites i) (next_names k (counters w.sites i) kinds) None st) → ⊥) same not_kept)
          (subst (λ (k : ℕ). IsStepOrRequest limit th st (w.sites i) (step_row p n limit (step_pick th (next_names k (counters w.sites i) kinds) None) kinds (stack_effect p (eqs w.sites i) (next_names k (counters w.sites i) kinds) None st) (w.sites i)) (kept_step p limit th st kinds (next_names k (counters w.sites i) kinds) (w.sites i)) (stack_effect p (eqs w.sites i) (next_names k (counters w.sites i) kinds) None st) d) same s)
        where
          effect_now : Effect
          effect_now = stack_effect p (eqs w.sites i) (next_names i (counters w.sites i) kinds) None st

          stepped : Transition
          stepped = step_row p n limit (step_pick th (next_names i (counters w.sites i) kinds) None) kinds effect_now (w.sites i)

          kept_now : Transition
          kept_now = kept_step p limit th st kinds (next_names i (counters w.sites i) kinds) (w.sites i)

          step_now : d ≡ stepped → IsReachable (w.sites i) effect_now.cell → effect_now.port ≡ Keeps → Goal
          step_now is reach keeps = step_tally th st kinds None at e reach keeps d is c2 run2

          one : (ch : CellChange) → effect_now.cell ≡ ch → effect_now.port ≡ Keeps → (IsKept effect_now → ⊥) → IsUnitOfCell limit th st (w.sites i) stepped kept_now ch d → Goal
          one Stays q keeps not_so is = step_now is (subst (IsReachable (w.sites i)) (sym q) tt) keeps
          one (Made y v) q keeps not_so (inl (mobile, is)) = step_now is (subst (IsReachable (w.sites i)) (sym q) mobile) keeps
          one (Made y v) q keeps not_so (inr (far, is)) = absurd (not_so (kept_made effect_now y v keeps q far))
          one (Exchanged y new told) q keeps not_so (inl (mobile, inl (here, is))) = step_now is (subst (IsReachable (w.sites i)) (sym q) here) keeps
          one (Exchanged y new told) q keeps not_so (inl (mobile, inr (elsewhere, is))) = asks_tallied th st y new at (lone_exchange p (eqs w.sites i) (next_names i (counters w.sites i) kinds) kinds st y new told e q) mobile elsewhere d is c2 run2
          one (Exchanged y new told) q keeps not_so (inr (far, is)) = absurd (not_so (kept_exchanged effect_now y new told keeps q far))

          ported : (q : PortChange) → effect_now.port ≡ q → (IsKept effect_now → ⊥) → IsStepOrRequest limit th st (w.sites i) stepped kept_now effect_now d → Goal
          ported Keeps q not_so u = one effect_now.cell refl q not_so (stays_cell limit th st (w.sites i) stepped kept_now effect_now d q u)
          ported (Opened r end) q not_so u = absurd (not_so (kept_opened effect_now r end q))
          ported (SentTo r value new) q not_so u = absurd (not_so (kept_sent effect_now r value new q))

      go : (d0 : Need) → stack_need p (eqs w.sites i) st ≡ d0 → IsUnitFor p n limit (w.sites i) th st d0 d → Goal
      go (need.Waits y) e (z, class, is) = plain_tally d c2 (ap (λ (q : Transition). q.picks) is) run2 (subst (NoCells (w.sites i)) (sym is) (record { cell_records = refl; managers = refl; site = refl; silent = tt }))
      go (need.WaitsAny r) e (zs, open_on, is) = plain_tally d c2 (ap (λ (q : Transition). q.picks) is) run2 (subst (NoCells (w.sites i)) (sym is) (record { cell_records = refl; managers = refl; site = refl; silent = tt }))
      go (need.Binds a b) e (u, y, root, is) = binds a b e u y root is
      go (Takes kinds) e s = takes kinds e (w.sites i).records.site (parts.kept i).site (λ k. other (st, kinds, at, e, k)) s

pub same_centre : (p : List Stmt) (ks ls : List Pick) (c c2 : State) → ModelRun p ks c → ls ≡ [] → ModelRun p (ks ++ ls) c2 → c2 ≡ c
same_centre p ks ls c c2 run none run2 = at_most_one_end p (start p) ks c2 c (subst (λ (l : List Pick). ModelRun p l c2) (ap (λ (l : List Pick). ks ++ l) none ∙ append-nil ks) run2) run
