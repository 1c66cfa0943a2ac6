-- The exchanges of a run pay for the messages of its cells: delivered messages.
use Rattle.std.proofs.Common.{arith, ◌≡◌, ◌∙◌, sym, ap, refl, subst, ℕ, ◌+◌, ◌≤◌, List, [], ◌++◌, inl, inr, Some, append-nil, append_assoc, length}
use Rattle.std.specs.Prelude.{◌≢◌}
use Rattle.tree_node.specs.declared.names.VarName.{VarName}
use Rattle.tree_node.specs.declared.names.CellName.{CellName}
use Rattle.tree_node.specs.declared.pick.Pick.{Pick}
use Rattle.tree_node.specs.State.{State}
use Rattle.tree_node.specs.Store.{Equation}
use Rattle.kernel_syntax.specs.declared.stmt.Stmt.{Stmt}
use Rattle.site_message.specs.declared.message.Msg.{Msg}
use Rattle.site_message.specs.declared.message.Msg.TheVariants as msg
use Rattle.site_message.specs.declared.message.Sent.{Sent}
use Rattle.oz_model.specs.Effect.{Stays}
use Rattle.oz_model.specs.Run.{IsRun, start, Run as ModelRun, exchanges, exchanges_from}
use Rattle.oz_model.specs.Step.{Step}
use Rattle.oz_model.proofs.RunLemmas.{at_most_one_end}
use Rattle.site_model.specs.Site.{Site}
use Rattle.site_model.specs.Variables.{opening}
use Rattle.site_model.specs.Cells.{get_row, forward_row, put_row}
use Rattle.site_model.specs.Messages.{reception, message_row, bind_pick}
use Rattle.world_model.specs.World.{World, IsOnItsWay, after_transition, after_receipt, mail_from, records}
use Rattle.world_variables.specs.Plain.{IsPlain}
use Rattle.world_model.proofs.MailLemmas.{sent_to, acts_after}
use Rattle.world_variables.proofs.ReceiveLemmas.{numbered_acts}
use Rattle.world_variables.proofs.RunsLemmas.{runs_append}
use Rattle.world_variables.proofs.JournalLemmas.{came_acts}
use Rattle.world_model.proofs.CellLemmas.{get_only, forward_only}
use Rattle.world_cells.proofs.TallyLemmas.{OneOfNumber, IsOfNone, tally_other, none_says}
use Rattle.world_cells.proofs.FrameLemmas.{NoCells, opens_nothing}
use Rattle.world_cells.proofs.PutRowLemmas.{one_number, at_real_site, put_kept}
use Rattle.oz_model.proofs.SoundLemmas.{runs_are_sound}
use Rattle.std.proofs.lemmas.List.Elements.{Contains-append_left}
use Rattle.world_cells.proofs.CellTallyLemmas.{CellsTallied, tallied_still}
use Rattle.world_cells.proofs.CellTallyRowLemmas.{nothing_tally, get_tally, forward_tally, put_tally}
use Rattle.world_cells.proofs.UnitLemmas.{Reached}
use Rattle.world_cells.proofs.MessageLemmas.{bind_stays, PicksBind, same_cells, plain_none, IsApart, opened, numbers_v, cells_v, at_v, low, once, site_v, got, apart}
use Rattle.world_cells.proofs.UnitTallyLemmas.{Tally, same_centre, recount, more_picks, no_exchanges, one_pick}
use Rattle.world_variables.specs.Laws.{IsForeignBinding}
use Rattle.world_cells.specs.Standing.{IsStanding}
use Rattle.world_model.specs.Chain.{mobile_cells}

-- the asking site in a Get is one of n
abbrev pub AsksFrom : ℕ → Msg → Type 0
AsksFrom n (msg.Get c asker) = (1 ≤ asker) × (asker ≤ n)
AsksFrom n m = Unit {0}

pub gone_tally : (n : ℕ) (u : World) (cells : List (CellName × VarName)) (out : List Sent) (x : CellName → ℕ) (k i : ℕ) (m : Msg) → OneOfNumber u.mail k (sent_to i m) → IsOfNone m → CellsTallied n u.sites u.mail cells out x → CellsTallied n u.sites (after_receipt (Some k) u).mail cells out x
gone_tally n u cells out x k i m one none t =
    subst (λ (l : List Sent). CellsTallied n u.sites (after_receipt (Some k) u).mail cells l x) (append-nil out)
    (tallied_still n u.sites u.sites u.mail (after_receipt (Some k) u).mail cells out [] x (λ b. record { last = refl; holds = λ j. refl; counts = tally_other b u.mail k i m one (none_says b i m none) }) (λ b g f o. refl) t)

module _ (p : List Stmt) (n limit : ℕ) (w : World) (ks : List Pick) (r : Reached p w ks) (k i : ℕ) (real : i ≢ 0) (low_site : 1 ≤ i) (high_site : i ≤ n) (out : List Sent) (t : Tally p n w r.centre ks out) where
  module _ (m : Msg) (at : IsOnItsWay w.mail k i m) where
    abbrev there : Site
    there = (opening m (w.sites i)).site

    abbrev u : World
    u = after_transition w i (opening m (w.sites i))

    abbrev out_u : List Sent
    out_u = out ++ (opening m (w.sites i)).sent

    tally_u : CellsTallied n u.sites u.mail (mobile_cells r.centre.cells) out_u (λ b. length (exchanges p ks b))
    tally_u = nothing_tally n w r.centre r.cells out (λ b. length (exchanges p ks b)) t i (opening m (w.sites i)) (opens_nothing m (w.sites i))

    abbrev whole_world : World
    whole_world = after_receipt (Some k) (after_transition w i (reception p limit m (w.sites i)))

    abbrev whole_picks : List Pick
    whole_picks = (reception p limit m (w.sites i)).picks

    number_u : OneOfNumber u.mail k (sent_to i m)
    number_u = one_number u k i m (at_v p limit w ks r k i m real at) (once p limit w ks r k i m real at)

    -- from the row on the opened world to the whole
    whole_tally : (c2 : State) (cells : List (CellName × VarName)) (y : CellName → ℕ) → mobile_cells c2.cells ≡ cells → ((b : CellName) → length (exchanges p (ks ++ whole_picks) b) ≡ y b) →
        CellsTallied n (after_transition (after_receipt (Some k) u) i (message_row p limit m there)).sites (after_transition (after_receipt (Some k) u) i (message_row p limit m there)).mail cells (out_u ++ (message_row p limit m there).sent) y →
        Tally p n whole_world c2 (ks ++ whole_picks) (out ++ (reception p limit m (w.sites i)).sent)
    whole_tally c2 cells y same counts h =
        recount n whole_world.sites whole_world.mail (mobile_cells c2.cells) (out ++ (reception p limit m (w.sites i)).sent) y _ counts
        (subst (λ (cs : List (CellName × VarName)). CellsTallied n whole_world.sites whole_world.mail cs (out ++ (reception p limit m (w.sites i)).sent) y) (sym same)
        (subst (λ (l : List Sent). CellsTallied n whole_world.sites whole_world.mail cells l y) (append_assoc out (opening m (w.sites i)).sent (message_row p limit m there).sent)
        (subst (λ (x : World). CellsTallied n x.sites x.mail cells (out_u ++ (message_row p limit m there).sent) y) (sym (ap (after_receipt (Some k)) (acts_after w i (opening m (w.sites i)) (message_row p limit m there)) ∙ came_acts u i (message_row p limit m there) k (low p limit w ks r k i m real at))) h)))

    -- at the site as it is in the opened world
    at_u : (P : Site → Type 0) → P (u.sites i) → P there
    at_u P h = subst P (site_v p limit w ks r k i m real at) h

  get_tallied : (c : CellName) (asker : ℕ) (at : IsOnItsWay w.mail k i (msg.Get c asker)) → 1 ≤ asker → asker ≤ n → (c2 : State) → ModelRun p (ks ++ (reception p limit (msg.Get c asker) (w.sites i)).picks) c2 →
      Tally p n (whole_world (msg.Get c asker) at) c2 (ks ++ (reception p limit (msg.Get c asker) (w.sites i)).picks) (out ++ (reception p limit (msg.Get c asker) (w.sites i)).sent)
  get_tallied c asker at alow ahigh c2 run2 =
      let m = msg.Get c asker in
      let none : (message_row p limit m (there m at)).picks ≡ [] = (get_only limit c asker (there m at)).picks in
      whole_tally m at c2 (mobile_cells r.centre.cells) (λ b. length (exchanges p ks b)) (ap (λ (y : State). mobile_cells y.cells) (same_centre p ks _ r.centre c2 r.run none run2)) (λ b. no_exchanges p b ks _ r.centre r.run none)
      (at_u m at (λ y. CellsTallied n (after_transition (after_receipt (Some k) (u m at)) i (get_row limit c asker y)).sites (after_transition (after_receipt (Some k) (u m at)) i (get_row limit c asker y)).mail (mobile_cells r.centre.cells) (out_u m at ++ (get_row limit c asker y).sent) (λ b. length (exchanges p ks b)))
      (get_tally n (u m at) r.centre (cells_v p limit w ks r k i m real at) (out_u m at) _ (tally_u m at) limit k i c asker low_site high_site alow ahigh (at_v p limit w ks r k i m real at) (number_u m at) ((opened p limit w ks r k i m real at).parts.kept i).site))

  forward_tallied : (c : CellName) (to : ℕ) (at : IsOnItsWay w.mail k i (msg.Forward c to)) → (c2 : State) → ModelRun p (ks ++ (reception p limit (msg.Forward c to) (w.sites i)).picks) c2 →
      Tally p n (whole_world (msg.Forward c to) at) c2 (ks ++ (reception p limit (msg.Forward c to) (w.sites i)).picks) (out ++ (reception p limit (msg.Forward c to) (w.sites i)).sent)
  forward_tallied c to at c2 run2 =
      let m = msg.Forward c to in
      let none : (message_row p limit m (there m at)).picks ≡ [] = (forward_only limit c to (there m at)).picks in
      whole_tally m at c2 (mobile_cells r.centre.cells) (λ b. length (exchanges p ks b)) (ap (λ (y : State). mobile_cells y.cells) (same_centre p ks _ r.centre c2 r.run none run2)) (λ b. no_exchanges p b ks _ r.centre r.run none)
      (at_u m at (λ y. CellsTallied n (after_transition (after_receipt (Some k) (u m at)) i (forward_row limit c to y)).sites (after_transition (after_receipt (Some k) (u m at)) i (forward_row limit c to y)).mail (mobile_cells r.centre.cells) (out_u m at ++ (forward_row limit c to y).sent) (λ b. length (exchanges p ks b)))
      (forward_tally n (u m at) r.centre (cells_v p limit w ks r k i m real at) (out_u m at) _ (tally_u m at) limit k i c to low_site high_site (at_v p limit w ks r k i m real at) (number_u m at)))

  put_tallied : (c : CellName) (x : VarName) (bundle : List Equation) (at : IsOnItsWay w.mail k i (msg.Put c x bundle)) → (c2 : State) → ModelRun p (ks ++ (reception p limit (msg.Put c x bundle) (w.sites i)).picks) c2 →
      Tally p n (whole_world (msg.Put c x bundle) at) c2 (ks ++ (reception p limit (msg.Put c x bundle) (w.sites i)).picks) (out ++ (reception p limit (msg.Put c x bundle) (w.sites i)).sent)
  put_tallied c x bundle at c2 run2 =
      let m = msg.Put c x bundle in
      let row = put_kept p limit (u m at) r.centre k i c x bundle (opened p limit w ks r k i m real at).parts (cells_v p limit w ks r k i m real at) (runs_are_sound p ks r.centre r.run) (at_v p limit w ks r k i m real at) (once p limit w ks r k i m real at) (at_real_site (records (u m at).sites) i x real (opened p limit w ks r k i m real at).vars.0) real in
      let runs = subst (λ (y : Site). IsRun p r.centre (put_row p limit c x y).picks row.state) (site_v p limit w ks r k i m real at) row.runs in
      whole_tally m at c2 (mobile_cells row.state.cells) (λ b. length (exchanges p ks b) + length (exchanges_from p b r.centre (put_row p limit c x (there m at)).picks))
      (ap (λ (y : State). mobile_cells y.cells) (at_most_one_end p (start p) (ks ++ (put_row p limit c x (there m at)).picks) c2 row.state run2 (runs_append p ks (put_row p limit c x (there m at)).picks (start p) r.centre row.state r.run runs)))
      (λ b. more_picks p b ks (put_row p limit c x (there m at)).picks r.centre r.run)
      (at_u m at (λ y. CellsTallied n (after_transition (after_receipt (Some k) (u m at)) i (put_row p limit c x y)).sites (after_transition (after_receipt (Some k) (u m at)) i (put_row p limit c x y)).mail (mobile_cells row.state.cells) (out_u m at ++ (put_row p limit c x y).sent) (λ b. length (exchanges p ks b) + length (exchanges_from p b r.centre (put_row p limit c x y).picks)))
      (put_tally n (u m at) r.centre (cells_v p limit w ks r k i m real at) (out_u m at) _ (tally_u m at) p limit k i c x bundle row low_site high_site (at_v p limit w ks r k i m real at) (number_u m at)))

  plain_tallied : (m : Msg) (at : IsOnItsWay w.mail k i m) → IsPlain m → IsForeignBinding i m → (c2 : State) → ModelRun p (ks ++ (reception p limit m (w.sites i)).picks) c2 →
      Tally p n (whole_world m at) c2 (ks ++ (reception p limit m (w.sites i)).picks) (out ++ (reception p limit m (w.sites i)).sent)
  plain_tallied m at plain far c2 run2 = whole_tally m at c2 (mobile_cells r.centre.cells) (λ b. length (exchanges p ks b)) cells_same (λ b. counted b a.picks)
      (subst (λ (x : World). CellsTallied n x.sites x.mail (mobile_cells r.centre.cells) (out_u m at ++ (message_row p limit m (there m at)).sent) (λ b. length (exchanges p ks b))) (came_acts (u m at) i (message_row p limit m (there m at)) k (low p limit w ks r k i m real at))
      (gone_tally n (after_transition (u m at) i (message_row p limit m (there m at))) (mobile_cells r.centre.cells) _ _ k i m
      (one_number (after_transition (u m at) i (message_row p limit m (there m at))) k i m (Contains-append_left (u m at).mail (mail_from (u m at).sent (message_row p limit m (there m at)).sent) _ (at_v p limit w ks r k i m real at))
      (λ a b x o h g. (numbered_acts (u m at) i (message_row p limit m (there m at)) (numbers_v p limit w ks r k i m real at)).once k a b x o h g))
      (plain_none m plain)
      (nothing_tally n (u m at) r.centre (cells_v p limit w ks r k i m real at) (out_u m at) _ (tally_u m at) i (message_row p limit m (there m at)) (subst (λ (y : Site). NoCells y (message_row p limit m (there m at))) (sym (site_v p limit w ks r k i m real at)) a.still))))
    where
      a : IsApart (opening m (w.sites i)).site (message_row p limit m (opening m (w.sites i)).site)
      a = apart p limit w ks r k i m real at plain far

      g : ModelRun p (ks ++ (reception p limit m (w.sites i)).picks) (got p limit w ks r k i m real at plain far).centre
      g = runs_append p ks (reception p limit m (w.sites i)).picks (start p) r.centre (got p limit w ks r k i m real at plain far).centre r.run (got p limit w ks r k i m real at plain far).run

      cells_same : mobile_cells c2.cells ≡ mobile_cells r.centre.cells
      cells_same = ap (λ (y : State). mobile_cells y.cells) (at_most_one_end p (start p) (ks ++ (reception p limit m (w.sites i)).picks) c2 (got p limit w ks r k i m real at plain far).centre run2 g)
          ∙ ap mobile_cells (same_cells p r.centre (got p limit w ks r k i m real at plain far).centre (reception p limit m (w.sites i)).picks a.picks (got p limit w ks r k i m real at plain far).run)

      counted : (b : CellName) → PicksBind (reception p limit m (w.sites i)).picks → length (exchanges p (ks ++ (reception p limit m (w.sites i)).picks) b) ≡ length (exchanges p ks b)
      counted b (inl none) = no_exchanges p b ks _ r.centre r.run none
      counted b (inr (o, x, y, is)) = bound (subst (λ (l : List Pick). IsRun p r.centre l (got p limit w ks r k i m real at plain far).centre) is (got p limit w ks r k i m real at plain far).run)
        where
          bound : (z : State) × Step p r.centre (bind_pick o x y) z × ((got p limit w ks r k i m real at plain far).centre ≡ z) → length (exchanges p (ks ++ (reception p limit m (w.sites i)).picks) b) ≡ length (exchanges p ks b)
          bound (z, step, end) = let e = one_pick p b ks (reception p limit m (w.sites i)).picks r.centre (bind_pick o x y) Stays r.run is (bind_stays p r.centre (bind_pick o x y) (x, y) step.0 refl refl) in omega arith

  -- every message but requests and answers
  pub message_tallied : (m : Msg) (at : IsOnItsWay w.mail k i m) → IsStanding m → IsForeignBinding i m → AsksFrom n m → (c2 : State) → ModelRun p (ks ++ (reception p limit m (w.sites i)).picks) c2 →
      Tally p n (whole_world m at) c2 (ks ++ (reception p limit m (w.sites i)).picks) (out ++ (reception p limit m (w.sites i)).sent)
  message_tallied (msg.Get c asker) at stands far asks = get_tallied c asker at asks.0 asks.1
  message_tallied (msg.Forward c to) at stands far asks = forward_tallied c to at
  message_tallied (msg.Put c v bundle) at stands far asks = put_tallied c v bundle at
  message_tallied (msg.Spawn o code vars bundle) at stands far asks = plain_tallied (msg.Spawn o code vars bundle) at tt far
  message_tallied (msg.Register x o) at stands far asks = plain_tallied (msg.Register x o) at tt far
  message_tallied (msg.BindReq x o y bundle) at stands far asks = plain_tallied (msg.BindReq x o y bundle) at tt far
  message_tallied (msg.Binding x y bundle) at stands far asks = plain_tallied (msg.Binding x y bundle) at tt far
  message_tallied (msg.PortSend q o a) at stands far asks = absurd stands
  message_tallied (msg.PortEnd o old new bundle) at stands far asks = absurd stands
  message_tallied (msg.CellMake c v bundle) at stands far asks = absurd stands
  message_tallied (msg.CellAsk c o a v bundle) at stands far asks = absurd stands
  message_tallied (msg.CellOld o v bundle) at stands far asks = absurd stands
