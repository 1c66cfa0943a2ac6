-- Each unit of a site keeps a world joined with the machine.
use Rattle.std.proofs.Common.{◌≡◌, ◌∙◌, sym, ap, refl, subst, ℕ, List, [], ◌++◌, ◌⊎◌, inl, inr, Bool, true, false, Some, None}
use Rattle.std.specs.Prelude.{Option, ◌≢◌, ◌==◌}
use Rattle.std.specs.Map.{lookup}
use Rattle.tree_node.specs.declared.names.VarName.{VarName}
use Rattle.tree_node.specs.declared.names.CellName.{CellName}
use Rattle.tree_node.specs.declared.names.PortName.{PortName}
use Rattle.tree_node.specs.declared.names.ThreadName.{ThreadName}
use Rattle.tree_node.specs.declared.names.NameKind.{NameKind}
use Rattle.tree_node.specs.declared.pick.Pick.{Pick}
use Rattle.tree_node.specs.Assoc.{value_of}
use Rattle.tree_node.specs.Goal.{equal_port}
use Rattle.tree_node.specs.State.{Stack, State}
use Rattle.kernel_syntax.specs.declared.stmt.Stmt.{Stmt}
use Rattle.oz_model.specs.Effect.{CellChange, Stays, Made, Exchanged, PortChange, Keeps, Opened, Sent, Effect, stack_effect}
use Rattle.oz_model.specs.Laws.{FindsPort}
use Rattle.oz_model.specs.Need.{Need, Takes, stack_need}
use Rattle.oz_model.specs.Need as need
use Rattle.thread_roster.specs.declared.mode.Mode.TheVariants as mode
use Rattle.site_model.specs.Cells.{effect_here}
use Rattle.site_model.specs.Site.{Site, ThreadState, home_record, thread_state}
use Rattle.site_model.specs.Transition.{Transition}
use Rattle.site_model.specs.Unit.{IsUnit, IsUnitFor, IsStepOrRequest, IsCellUnit, IsSendUnit, fresh_names, next_names, kept_step, thread_step}
use Rattle.world_model.specs.Claims.{EndOf, ContentOf, Asks}
use Rattle.world_model.specs.Keepers.{ports}
use Rattle.world_model.specs.World.{World, put, eqs, counters, after_transition}
use Rattle.world_model.proofs.PutLemmas.{nat_decides}
use Rattle.world_variables.specs.Plain.{IsKept}
use Rattle.world_cells.specs.Standing.{IsKeptUnit}
use Rattle.world_answers.specs.Joined.{Joined}
use Rattle.world_answers.proofs.ActLemmas.{made_away, exchanged_away, act_quiet, act_finds_port}
use Rattle.world_answers.proofs.AskLemmas.{sends_asks, exchange_asks}
use Rattle.world_answers.proofs.AskJoinLemmas.{away_asks, away_joined, away_leaves, away_asked, away_row, away_balances, own_early_balances, early_joined, early_leaves, early_owes, early_row}
use Rattle.world_answers.proofs.JoinLemmas.{unit_joined}
use Rattle.world_answers.proofs.KeptLemmas.{IsQuiet}
use Rattle.world_answers.proofs.LeaveLemmas.{Leaves}
use Rattle.world_answers.proofs.OwedLemmas.{Owes, AsksOne, Nobody}
use Rattle.world_answers.proofs.OwnLemmas.{own_found, own_leaves, own_owes, own_row}
use Rattle.world_answers.proofs.OwnJoinLemmas.{opened_joined, sent_joined, exchanged_joined, made_joined, told_joined, port_balances, exchanged_balances, made_balances}
use Rattle.world_answers.proofs.BalanceLemmas.{Balances, none_came}

-- ---- which units these are

far_or_not : (k : ℕ) → (k ≢ 0) ⊎ (k ≢ 0 → ⊥)
far_or_not k = go (k == 0) refl
  where
    go : (b : Bool) → (k == 0) ≡ b → (k ≢ 0) ⊎ (k ≢ 0 → ⊥)
    go true e = inr (λ h. h ((nat_decides k 0).0 e))
    go false e = inl (λ h. let yes : (k == 0) ≡ true = (nat_decides k 0).1 h in cc)

kept_or_not : (e : Effect) → IsKept e ⊎ (IsKept e → ⊥)
kept_or_not e = by_port e.port
  where
    by_cell : (ch : CellChange) → IsKept (record e { port = Keeps; cell = ch }) ⊎ (IsKept (record e { port = Keeps; cell = ch }) → ⊥)
    by_cell Stays = inr (λ h. h)
    by_cell (Made c v) = far_or_not c.at
    by_cell (Exchanged c new told) = far_or_not c.at

    by_port : (r : PortChange) → IsKept (record e { port = r }) ⊎ (IsKept (record e { port = r }) → ⊥)
    by_port Keeps = by_cell e.cell
    by_port (Opened q end) = inl tt
    by_port (Sent q value new) = inl tt

-- ---- the units on ports and on stationary cells

-- the unit keeps the world joined, and has to do with no mobile cell; the thread asks another site, or nothing is asked
pub record Led (R : ℕ → ThreadName → Type 0) (p : List Stmt) (w : World) (ks : List Pick) (c : State) (i : ℕ) (th : ThreadName) (d : Transition) : Type 0 where
  pub joined : Joined p (after_transition w i d) (ks ++ d.picks)
  pub end : State
  pub leaves : Leaves p (w.sites i) c d end
  pub owes : Owes p (w.sites i) c d [] Nobody ⊎ AsksOne (w.sites i) d th
  pub balances : R i th → Balances p R none_came w.sites (put w.sites i d.site) c d

module _ (R : ℕ → ThreadName → Type 0) (p : List Stmt) (n limit i : ℕ) (real : i ≢ 0) (w : World) (ks : List Pick) (j : Joined p w ks) (th : ThreadName) (d : Transition) (st : Stack) (kinds : List NameKind) (at : thread_state (w.sites i) th ≡ Some (st, mode.Runs)) (takes : stack_need p (eqs w.sites i) st ≡ Takes kinds)
    (on : IsKept (stack_effect p (eqs w.sites i) (next_names i (counters w.sites i) kinds) None st)) where
  abbrev s : Site
  s = w.sites i

  abbrev e : Effect
  e = stack_effect p (eqs w.sites i) (next_names i (counters w.sites i) kinds) None st

  abbrev kept : Transition
  kept = own_row p limit i real w ks j th st kinds at takes on

  abbrev step : Transition
  step = thread_step p n limit th st kinds (next_names i (counters w.sites i) kinds) None s

  abbrev Goal : Type 0
  Goal = Led R p w ks j.reached.centre i th d

  abbrev IsBalanced : Transition → Type 0
  IsBalanced b = R i th → Balances p R none_came w.sites (put w.sites i b.site) j.reached.centre b

  done : (b : Transition) (z : State) → d ≡ b → Leaves p s j.reached.centre b z → Owes p s j.reached.centre b [] Nobody ⊎ AsksOne s b th → IsBalanced b → Joined p (after_transition w i b) (ks ++ b.picks) → Goal
  done b z is l o balances h = subst (λ (t : Transition). Led R p w ks j.reached.centre i th t) (sym is) (record { joined = h; end = z; leaves = l; owes = o; balances = balances })

  done_own : (ends : (q : PortName) (value new : VarName) → e.port ≡ Sent q value new → q.site ≡ i) (holds : (a : CellName) (new old : VarName) → e.cell ≡ Exchanged a new old → (a.at ≡ i) × (x : VarName) × ((home_record s a).content ≡ Some x)) →
      d ≡ kept → IsBalanced kept → Joined p (after_transition w i kept) (ks ++ kept.picks) → Goal
  done_own ends holds is balances h = done kept _ is (own_leaves p limit i real w ks j th st kinds at takes on) (inl (own_owes p limit i real w ks j th st kinds at takes on ends holds)) balances h

  number : s.records.site ≡ i
  number = (j.reached.parts.kept i).site

  quiet : IsQuiet e
  quiet = act_quiet p i real w ks j.transit j.reached i i th st kinds (own_found p limit i real w ks j th st kinds at takes on) takes on

  no_send : (r : PortChange) → e.port ≡ r → ((q : PortName) (value new : VarName) → r ≢ Sent q value new) → (q : PortName) (value new : VarName) → e.port ≡ Sent q value new → q.site ≡ i
  no_send r is other q value new h = absurd (other q value new (sym is ∙ h))

  no_exchange : (ch : CellChange) → e.cell ≡ ch → ((b : CellName) (new old : VarName) → ch ≢ Exchanged b new old) → (b : CellName) (new old : VarName) → e.cell ≡ Exchanged b new old → (b.at ≡ i) × (x : VarName) × ((home_record s b).content ≡ Some x)
  no_exchange ch is other b new old h = absurd (other b new old (sym is ∙ h))

  no_cell : (r : PortChange) → e.port ≡ r → r ≢ Keeps → e.cell ≡ Stays
  no_cell r is other = go quiet.alone
    where
      go : (e.port ≡ Keeps) ⊎ (e.cell ≡ Stays) → e.cell ≡ Stays
      go (inl keeps) = absurd (other (sym is ∙ keeps))
      go (inr stays) = stays

  opens : (q : PortName) (end : VarName) → e.port ≡ Opened q end → d ≡ kept → Goal
  opens q end is same = done_own (no_send (Opened q end) is (λ r value new h. cc)) (no_exchange Stays cell (λ b new old h. cc)) same (λ goes. port_balances p limit i real w ks j th st kinds at takes on (no_send (Opened q end) is (λ r value new h. cc)) (no_exchange Stays cell (λ b new old h. cc)) cell R) (opened_joined p limit i real w ks j th st kinds at takes on (no_send (Opened q end) is (λ r value new h. cc)) (no_exchange Stays cell (λ b new old h. cc)) cell q end is)
    where
      cell : e.cell ≡ Stays
      cell = no_cell (Opened q end) is (λ h. cc)

  sends : (q : PortName) (value new : VarName) → e.port ≡ Sent q value new → IsSendUnit limit th st s kept q d → Goal
  sends q value new is (inl (own, end, has, same)) = done_own here (no_exchange Stays cell (λ b x old h. cc)) same (λ goes. port_balances p limit i real w ks j th st kinds at takes on here (no_exchange Stays cell (λ b x old h. cc)) cell R) (sent_joined p limit i real w ks j th st kinds at takes on here (no_exchange Stays cell (λ b x old h. cc)) cell q value new is)
    where
      cell : e.cell ≡ Stays
      cell = no_cell (Sent q value new) is (λ h. cc)

      here : (r : PortName) (x y : VarName) → e.port ≡ Sent r x y → r.site ≡ i
      here r x y h =
          let both : Sent q value new ≡ Sent r x y = sym is ∙ h in
          let port : q ≡ r = cc in
          subst (λ (a : PortName). a.site ≡ i) port (own ∙ number)
  sends q value new is (inr (inl (other, same))) = done _ _ (same ∙ away_row p i real w ks j th st at limit (EndOf q) asks far refl) (away_leaves p i real w ks j th st at limit (EndOf q) asks far refl) (inr (away_asked p i real w ks j th st at limit (EndOf q) asks far refl)) (away_balances p i real w ks j th st at limit (EndOf q) asks far refl R) (away_joined p i real w ks j th st at limit (EndOf q) asks far refl)
    where
      asks : Asks p (eqs w.sites i) st (EndOf q)
      asks = sends_asks p (eqs w.sites i) (next_names i (counters w.sites i) kinds) st q value new is

      far : q.site ≢ i
      far h = other (h ∙ sym number)
  sends q value new is (inr (inr (own, none, same))) = absurd (cannot (subst (FindsPort j.reached.centre.ports) is (act_finds_port p i real w ks j.transit j.reached i i th st kinds (own_found p limit i real w ks j th st kinds at takes on) takes on)))
    where
      cannot : (x : VarName) × (value_of equal_port j.reached.centre.ports q ≡ Some x) → ⊥
      cannot (x, h) =
          let there : lookup (equal_port q) (ports w.sites q.site) ≡ Some x = j.answers.ends.ends q ∙ h in
          let both : ◌≡◌ {A = Option VarName} None (Some x) = sym none ∙ ap (λ (k : ℕ). lookup (equal_port q) (ports w.sites k)) (sym (own ∙ number)) ∙ there in cc

  cells : (ch : CellChange) → e.cell ≡ ch → e.port ≡ Keeps → IsCellUnit limit th st s step kept ch d → Goal
  cells Stays is keeps u = absurd (subst (λ (ch : CellChange). IsKept (record e { port = Keeps; cell = ch })) is (subst (λ (r : PortChange). IsKept (record e { port = r })) keeps on))
  cells (Made b v) is keeps (inl (mobile, same)) = absurd (made_away e b v keeps is on mobile)
  cells (Made b v) is keeps (inr (away, same)) = done_own ends holds same (λ goes. made_balances p limit i real w ks j th st kinds at takes on ends holds keeps b v is away R) (go (b.at == i) refl)
    where
      ends : (q : PortName) (value new : VarName) → e.port ≡ Sent q value new → q.site ≡ i
      ends = no_send Keeps keeps (λ r value new h. cc)

      holds : (a : CellName) (new old : VarName) → e.cell ≡ Exchanged a new old → (a.at ≡ i) × (x : VarName) × ((home_record s a).content ≡ Some x)
      holds = no_exchange (Made b v) is (λ a new old h. cc)

      go : (q : Bool) → (b.at == i) ≡ q → Joined p (after_transition w i kept) (ks ++ kept.picks)
      go true h = made_joined p limit i real w ks j th st kinds at takes on ends holds keeps b v is away ((nat_decides b.at i).0 h)
      go false h = told_joined p limit i real w ks j th st kinds at takes on ends holds keeps b v is away (λ z. let yes : (b.at == i) ≡ true = (nat_decides b.at i).1 z in cc)
  cells (Exchanged b new told) is keeps (inl (mobile, u)) = absurd (exchanged_away e b new told keeps is on mobile)
  cells (Exchanged b new told) is keeps (inr (away, inl ((home, x, has), same))) = done_own (no_send Keeps keeps (λ r value y h. cc)) holds same (exchanged_balances p limit i real w ks j th st kinds at takes on (no_send Keeps keeps (λ r value y h. cc)) holds keeps b new told is R) (exchanged_joined p limit i real w ks j th st kinds at takes on (no_send Keeps keeps (λ r value y h. cc)) holds keeps b new told is)
    where
      holds : (a : CellName) (y old : VarName) → e.cell ≡ Exchanged a y old → (a.at ≡ i) × (x : VarName) × ((home_record s a).content ≡ Some x)
      holds a y old h =
          let both : Exchanged b new told ≡ Exchanged a y old = sym is ∙ h in
          let cell : b ≡ a = cc in
          subst (λ (q : CellName). (q.at ≡ i) × (x : VarName) × ((home_record s q).content ≡ Some x)) cell (home ∙ number, x, has)
  cells (Exchanged b new told) is keeps (inr (away, inr (inl (other, same)))) = done _ _ (same ∙ away_row p i real w ks j th st at limit (ContentOf b new) asks far (away_asks b away)) (away_leaves p i real w ks j th st at limit (ContentOf b new) asks far (away_asks b away)) (inr (away_asked p i real w ks j th st at limit (ContentOf b new) asks far (away_asks b away))) (away_balances p i real w ks j th st at limit (ContentOf b new) asks far (away_asks b away) R) (away_joined p i real w ks j th st at limit (ContentOf b new) asks far (away_asks b away))
    where
      asks : Asks p (eqs w.sites i) st (ContentOf b new)
      asks = exchange_asks p (eqs w.sites i) (next_names i (counters w.sites i) kinds) kinds st b new told takes is

      far : b.at ≢ i
      far h = other (h ∙ sym number)
  cells (Exchanged b new told) is keeps (inr (away, inr (inr (home, none, same)))) = done _ _ (same ∙ early_row p i real w ks j th st at b new asks (home ∙ number) none) (early_leaves p i real w ks j th st at b new asks (home ∙ number) none) (inl (early_owes p i real w ks j th st at b new asks (home ∙ number) none)) (own_early_balances p i real w ks j th st at b new asks (home ∙ number) none R) (early_joined p i real w ks j th st at b new asks (home ∙ number) none)
    where
      asks : Asks p (eqs w.sites i) st (ContentOf b new)
      asks = exchange_asks p (eqs w.sites i) (next_names i (counters w.sites i) kinds) kinds st b new told takes is

  pub kept_led : IsStepOrRequest limit th st s step kept e d → Goal
  kept_led u = ported e.port refl u
    where
      ported : (r : PortChange) → e.port ≡ r → IsStepOrRequest limit th st s step kept (record e { port = r }) d → Goal
      ported Keeps is u = cells e.cell refl is u
      ported (Opened q end) is u = opens q end is u
      ported (Sent q value new) is u = sends q value new is u

-- ---- all units

-- nothing is said of where threads go
abbrev pub Anywhere : ℕ → ThreadName → Type 0
Anywhere l th = Unit {0}

-- a unit is on a port or on a stationary cell, or it is not
pub unit_or_led : (R : ℕ → ThreadName → Type 0) (p : List Stmt) (n limit i : ℕ) (w : World) (ks : List Pick) (th : ThreadName) (d : Transition) → i ≢ 0 → (j : Joined p w ks) → IsUnit p n limit th (w.sites i) d → (IsKeptUnit p (w.sites i) th → ⊥) ⊎ Led R p w ks j.reached.centre i th d
unit_or_led R p n limit i w ks th d real j (st, at, unit) = go (stack_need p s.equations st) refl unit
  where
    s : Site
    s = w.sites i

    Goal : Type 0
    Goal = (IsKeptUnit p s th → ⊥) ⊎ Led R p w ks j.reached.centre i th d

    number : s.records.site ≡ i
    number = (j.reached.parts.kept i).site

    same_stack : (su : Stack) → thread_state s th ≡ Some (su, mode.Runs) → su ≡ st
    same_stack su h =
        let both : ◌≡◌ {A = Option ThreadState} (Some (su, mode.Runs)) (Some (st, mode.Runs)) = sym h ∙ at in
        let pair : ◌≡◌ {A = ThreadState} (su, mode.Runs) (st, mode.Runs) = cc in ap (λ (x : ThreadState). x.0) pair

    -- a unit that takes no names is none of these
    takes_none : (q : Need) → stack_need p s.equations st ≡ q → ((kinds : List NameKind) → q ≢ Takes kinds) → IsKeptUnit p s th → ⊥
    takes_none q e not_so (su, kinds, h, need_is, on) = not_so kinds (sym e ∙ ap (stack_need p s.equations) (sym (same_stack su h)) ∙ need_is)

    takes : (kinds : List NameKind) → stack_need p s.equations st ≡ Takes kinds → IsUnitFor p n limit s th st (Takes kinds) d → Goal
    takes kinds e u = decide (kept_or_not (effect_here p s (fresh_names s kinds) None st))
      where
        not_kept : (IsKept (effect_here p s (fresh_names s kinds) None st) → ⊥) → IsKeptUnit p s th → ⊥
        not_kept not_so (su, ms, h, need_is, on) =
            let stack : su ≡ st = same_stack su h in
            let needs : Takes ms ≡ Takes kinds = sym need_is ∙ ap (stack_need p s.equations) stack ∙ e in
            let kinds_are : ms ≡ kinds = cc in
            not_so (subst (λ (ls : List NameKind). IsKept (effect_here p s (fresh_names s ls) None st)) kinds_are (subst (λ (x : Stack). IsKept (effect_here p s (fresh_names s ms) None x)) stack on))

        decide : IsKept (effect_here p s (fresh_names s kinds) None st) ⊎ (IsKept (effect_here p s (fresh_names s kinds) None st) → ⊥) → Goal
        decide (inr not_so) = inl (not_kept not_so)
        decide (inl on) = inr (kept_led R p n limit i real w ks j th d st kinds at e (subst (λ (k : ℕ). IsKept (effect_here p s (next_names k s.counters kinds) None st)) number on)
            (subst (λ (k : ℕ). IsStepOrRequest limit th st s (thread_step p n limit th st kinds (next_names k s.counters kinds) None s) (kept_step p limit th st kinds (next_names k s.counters kinds) s) (effect_here p s (next_names k s.counters kinds) None st) d) number u))

    go : (q : Need) → stack_need p s.equations st ≡ q → IsUnitFor p n limit s th st q d → Goal
    go (need.Waits x) e u = inl (takes_none (need.Waits x) e (λ kinds h. cc))
    go (need.WaitsAny q) e u = inl (takes_none (need.WaitsAny q) e (λ kinds h. cc))
    go (need.Binds a b) e u = inl (takes_none (need.Binds a b) e (λ kinds h. cc))
    go (Takes kinds) e u = takes kinds e u

pub units_joined : (p : List Stmt) (n limit i : ℕ) (w : World) (ks : List Pick) (th : ThreadName) (d : Transition) → i ≢ 0 → Joined p w ks → IsUnit p n limit th (w.sites i) d → Joined p (after_transition w i d) (ks ++ d.picks)
units_joined p n limit i w ks th d real j unit = go (unit_or_led Anywhere p n limit i w ks th d real j unit)
  where
    go : (IsKeptUnit p (w.sites i) th → ⊥) ⊎ Led Anywhere p w ks j.reached.centre i th d → Joined p (after_transition w i d) (ks ++ d.picks)
    go (inl other) = unit_joined p n limit i real w ks j th d unit other
    go (inr led) = led.joined
