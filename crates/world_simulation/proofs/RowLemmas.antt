-- A run in which an unfit message changes nothing is one in which each message takes its row, and the other way round.
use Rattle.std.proofs.Common.{◌≡◌, ◌≢◌, ◌∙◌, sym, ap, refl, subst, ℕ, ◌≤◌, List, [], ◌∷◌, inl, inr, Bool, true, false, Some, None}
use Rattle.std.specs.Prelude.{Option, ◌==◌}
use Rattle.kernel_syntax.specs.declared.stmt.Stmt.{Stmt}
use Rattle.kernel_syntax.specs.Program.{IsProgram}
use Rattle.site_message.specs.declared.message.Msg.{Msg}
use Rattle.site_message.specs.declared.message.Sent.{Sent}
use Rattle.site_message.specs.declared.turn.Turn.{Turn}
use Rattle.site_message.specs.Journal.{IsTravelling}
use Rattle.site_model.specs.Fit.{IsFit}
use Rattle.site_model.specs.Site.{Site}
use Rattle.site_model.specs.Transition.{Transition, sequence}
use Rattle.site_model.specs.Turn.{IsReception, AreUnits}
use Rattle.site_model.specs.Run.{delivered_message, message_of, IsRecordOf, IsEntry, IsReachedBy, SiteRun, WorldRun}
use Rattle.world_model.specs.World.{put}
use Rattle.world_model.proofs.PutLemmas.{nat_decides, at_all, at_here, at_other}
use Rattle.world_answers.specs.FitRuns.{IsFitEntry, SiteFitRun}
use Rattle.world_messages.specs.Unfit.{MessagesAreFit}
use Rattle.world_simulation.specs.Simulation.{EveryRunIsSimulated, DeliveredMessagesAreFit}
use Rattle.world_simulation.specs.Distributed.{message_transition, IsTurn, AreTurns, DistributedRun, RunsTakeRows}

reached_map : (b : Bool) (P Q : Site → Type 0) (E F : Site → Site → Type 0) (s : Site) → ((t : Site) → P t → Q t) → ((t u : Site) → E t u → F t u) → IsReachedBy b P E s → IsReachedBy b Q F s
reached_map true P Q E F s f g (old, before, entry) = (old, f old before, g old s entry)
reached_map false P Q E F s f g h = f s h

module _ (p : List Stmt) (n : ℕ) where
  -- ---- each message was fit, so it took its row

  heard_is : (limit : ℕ) (o : Option Msg) (s : Site) (d : Transition) → ((m : Msg) → o ≡ Some m → IsFit p n s m) → IsReception p n limit o s d → d ≡ message_transition p limit o s
  heard_is limit None s d fit e = e
  heard_is limit (Some m) s d fit (inl h) = h.1
  heard_is limit (Some m) s d fit (inr h) = absurd (h.0 (fit m refl))

  to_turn : (limit : ℕ) (j : List Turn) (e : Turn) (old s : Site) → IsFitEntry p n limit j e old s → IsTurn p n limit j e old s
  to_turn limit j e old s h = go h.turn
    where
      go : IsEntry p n limit j e old s → IsTurn p n limit j e old s
      go (d, (few, (first, rest, took, units, same)), tells, is) =
          let row : first ≡ message_transition p limit (delivered_message j e.delivered) old = heard_is limit (delivered_message j e.delivered) old first h.fit took in (
            rest,
            few,
            subst (λ (t : Transition). AreUnits p n limit e.units t.site rest) row units,
            subst (λ (t : Transition). IsRecordOf e (sequence t rest)) row (subst (IsRecordOf e) same tells),
            is ∙ ap (λ (t : Transition). t.site) same,
          )

  to_turns : (limit i : ℕ) (j : List Turn) (s : Site) → SiteFitRun p n limit i j s → AreTurns p n limit i j s
  to_turns limit i [] s h = h
  to_turns limit i (e ∷ j) s h = reached_map (e.site == i) _ _ _ _ s (λ t k. to_turns limit i j t k) (λ t u k. to_turn limit j e t u k) h

  -- ---- each message takes its row, so it is fit

  to_reception : (limit : ℕ) (o : Option Msg) (s : Site) → ((m : Msg) → o ≡ Some m → IsFit p n s m) → IsReception p n limit o s (message_transition p limit o s)
  to_reception limit None s fit = refl
  to_reception limit (Some m) s fit = inl (fit m refl, refl)

  to_entry : (limit : ℕ) (j : List Turn) (e : Turn) (old s : Site) → ((m : Msg) → delivered_message j e.delivered ≡ Some m → IsFit p n old m) → IsTurn p n limit j e old s → IsEntry p n limit j e old s
  to_entry limit j e old s fit (rest, few, units, tells, is) = (
    sequence (message_transition p limit (delivered_message j e.delivered) old) rest,
    (few, (message_transition p limit (delivered_message j e.delivered) old, rest, to_reception limit (delivered_message j e.delivered) old fit, units, refl)),
    tells,
    is,
  )

  -- before the last entry
  module _ (limit : ℕ) (j : List Turn) (e : Turn) (w : ℕ → Site) (run : DistributedRun p n limit (e ∷ j) w) where
    same : (e.site == e.site) ≡ true
    same = (nat_decides e.site e.site).1 refl

    last : (old : Site) × AreTurns p n limit e.site j old × IsTurn p n limit j e old (w e.site)
    last = subst (λ (b : Bool). IsReachedBy b (λ old. AreTurns p n limit e.site j old) (λ old new. IsTurn p n limit j e old new) (w e.site)) same (run.turns e.site)

    others : (i : ℕ) → i ≢ e.site → AreTurns p n limit i j (w i)
    others i other = go (e.site == i) refl (run.turns i)
      where
        go : (b : Bool) → (e.site == i) ≡ b → IsReachedBy b (λ old. AreTurns p n limit i j old) (λ old new. IsTurn p n limit j e old new) (w i) → AreTurns p n limit i j (w i)
        go true q h = absurd (other (sym ((nat_decides e.site i).0 q)))
        go false q h = h

    before : DistributedRun p n limit j (put w e.site last.0)
    before = record {
      wired = run.wired.0;
      sites = run.sites.1;
      turns = at_all w e.site last.0 (λ (i : ℕ) (s : Site). AreTurns p n limit i j s) last.1 others;
    }

    -- the delivered message travelled, so it was fit
    fit : MessagesAreFit p n j (put w e.site last.0) → (m : Msg) → delivered_message j e.delivered ≡ Some m → IsFit p n last.0 m
    fit all m q = by e.delivered refl
      where
        by : (o : Option ℕ) → e.delivered ≡ o → IsFit p n last.0 m
        by None r = let no : ◌≡◌ {A = Option Msg} None (Some m) = sym (ap (delivered_message j) r) ∙ q in cc
        by (Some k) r = go (run.wired.1 k r)
          where
            go : (s : Sent) × IsTravelling j k s × (s.to ≡ e.site) → IsFit p n last.0 m
            go (s, at, to) =
                let both : ◌≡◌ {A = Option Msg} (Some s.msg) (Some m) = sym (ap (delivered_message j) r ∙ ap message_of at.0) ∙ q in
                let is : s.msg ≡ m = cc in
                subst (IsFit p n last.0) is (subst (λ (t : Site). IsFit p n t s.msg) (ap (put w e.site last.0) to ∙ at_here w e.site last.0) (all k s at))

    world_run : WorldRun p n limit j (put w e.site last.0) → MessagesAreFit p n j (put w e.site last.0) → WorldRun p n limit (e ∷ j) w
    world_run was all = record { wired = run.wired; sites = run.sites; runs = λ i. go i (e.site == i) refl }
      where
        here : SiteRun p n limit e.site j last.0
        here = subst (λ (s : Site). SiteRun p n limit e.site j s) (at_here w e.site last.0) (was.runs e.site)

        entry : IsEntry p n limit j e last.0 (w e.site)
        entry = to_entry limit j e last.0 (w e.site) (fit all) last.2

        go : (i : ℕ) (b : Bool) → (e.site == i) ≡ b → IsReachedBy (e.site == i) (λ old. SiteRun p n limit i j old) (λ old new. IsEntry p n limit j e old new) (w i)
        go i true q =
            subst (λ (k : ℕ). IsReachedBy (e.site == k) (λ old. SiteRun p n limit k j old) (λ old new. IsEntry p n limit j e old new) (w k)) ((nat_decides e.site i).0 q)
            (subst (λ (b : Bool). IsReachedBy b (λ old. SiteRun p n limit e.site j old) (λ old new. IsEntry p n limit j e old new) (w e.site)) (sym same) (last.0, here, entry))
        go i false q =
            subst (λ (b : Bool). IsReachedBy b (λ old. SiteRun p n limit i j old) (λ old new. IsEntry p n limit j e old new) (w i)) (sym q)
            (subst (λ (s : Site). SiteRun p n limit i j s) (at_other w e.site last.0 i apart) (was.runs i))
          where
            apart : i ≢ e.site
            apart k = let yes : (e.site == i) ≡ true = (nat_decides e.site i).1 (sym k) in cc

  module _ (simulated : EveryRunIsSimulated) (were_fit : DeliveredMessagesAreFit) (is : IsProgram p) (low : 1 ≤ n) (high : n ≤ 64) (limit : ℕ) (short : limit ≤ 256) where
    to_world : (j : List Turn) (w : ℕ → Site) → DistributedRun p n limit j w → WorldRun p n limit j w
    to_world [] w run = record { wired = tt; sites = tt; runs = run.turns }
    to_world (e ∷ j) w run =
        let was = to_world j (put w e.site (last limit j e w run).0) (before limit j e w run) in
        world_run limit j e w run was (simulated p n limit j (put w e.site (last limit j e w run).0) is low high short was).2

    to_distributed : (j : List Turn) (w : ℕ → Site) → WorldRun p n limit j w → DistributedRun p n limit j w
    to_distributed j w run = record {
      wired = run.wired;
      sites = run.sites;
      turns = λ i. to_turns limit i j (w i) (were_fit p n limit j w is low high short run i);
    }

pub runs_take_rows : EveryRunIsSimulated → DeliveredMessagesAreFit → RunsTakeRows
runs_take_rows simulated fit p n limit j w is low high short = (to_distributed p n simulated fit is low high limit short j w, to_world p n simulated fit is low high limit short j w)
