-- A turn that the fixed order chose is a plain one.
use Rattle.std.proofs.Common.{◌≡◌, ◌∙◌, sym, ap, subst, ℕ, ◌-◌, ◌<◌, ◌≤◌, List, length, true}
use Rattle.std.specs.Prelude.{min, MatchOption}
use Rattle.site_message.specs.declared.limits.Limits.{Limits}
use Rattle.site_message.specs.declared.turn.Turn.{Turn}
use Rattle.site_model.specs.Site.{Site, is_idle}
use Rattle.site_model.specs.Run.{delivered_message}
use Rattle.site_core.specs.Site.{IsTurnInOrder}
use Rattle.world_core.specs.Travels.{IsNoneFor, IsFirstFor, AreTravels}
use Rattle.world_core.specs.World.{WorldState, IsWorldTurnInOrder, states_of, orders_of}
use Rattle.world_core.proofs.ReplayLemmas.{same_entry}
use Rattle.plain_run.specs.declared.order.Choice.{Choice}
use Rattle.plain_run.specs.Rounds.{HasNothingToDo, IsLowestFor, ComesBefore, IsPlainTurn, LeadsTo, most_units, last_site}
use Rattle.plain_run.specs.Progress.{IsGoing, IsNextBusy, standing_of}
use Rattle.plain_run.specs.Order.{IsChosenTurn}
use Rattle.plain_run.proofs.RoundLemmas.{lowest_is, nothing_to_do, something_to_do}

module _ (l : Limits) (old new : WorldState) (c : Choice) (going : IsGoing l old.program old) (none : c.passed ≡ 0) (most : c.units ≡ 64) (low : 1 ≤ c.site) (high : c.site ≤ l.sites) (made : IsChosenTurn l old new c)
    (travels : AreTravels old.journal old.travels) (found : MatchOption c.place (IsNoneFor old.travels c.site) (λ q. IsFirstFor old.travels c.site q))
    (next : IsNextBusy old l.sites (last_site l.sites old.journal) c.site) where
  abbrev site : ℕ
  site = c.site

  abbrev e : Turn
  e = made.turn.entry

  abbrev ordered : IsWorldTurnInOrder old new c.site
  ordered = made.order none

  units : min (l.steps - (states_of old site).steps) c.units ≡ most_units l (standing_of old) site
  units = ap (min (l.steps - (states_of old site).steps)) most

  in_limits : (P : ℕ → Type 0) → P old.sites → P l.sites
  in_limits P h = subst P going.sites h

  at_entry : (P : ℕ → Type 0) → P site → P e.site
  at_entry P h = subst P (sym made.turn.site_is) h

  in_order : IsTurnInOrder old.program old.sites (states_of old site) (delivered_message old.journal e.delivered) e (states_of new site) (orders_of old site) (orders_of new site)
  in_order =
      subst (λ (f : Turn). IsTurnInOrder old.program old.sites (states_of old site) (delivered_message old.journal f.delivered) f (states_of new site) (orders_of old site) (orders_of new site))
      (same_entry ordered.entry e old.journal old.journal (sym ordered.journal ∙ made.turn.journal)) ordered.turn

  rests : length e.units < most_units l (standing_of old) site → is_idle (states_of new site) ≡ true
  rests less = subst (λ (s : Site). is_idle s ≡ true) (sym made.turn.turn.3) (made.turn.turn.1.2 (subst (λ (u : ℕ). length e.units < u) (sym units) less))

  plain : IsPlainTurn old.program l old.journal (standing_of old) e (standing_of new)
  plain = record {
    some = at_entry (λ i. 1 ≤ i) low;
    among = at_entry (λ i. i ≤ l.sites) high;
    busy = at_entry (λ i. HasNothingToDo old.journal i → ⊥) (something_to_do old going.run site travels next.2);
    first = λ k a b comes. nothing_to_do old going.run k (next.3 k a b (subst (λ (i : ℕ). ComesBefore (last_site l.sites old.journal) k i) made.turn.site_is comes));
    lowest = at_entry (λ i. IsLowestFor old.journal i e.delivered) (lowest_is old.journal old.travels site c.place e.delivered travels found made.turn.delivered);
    most = at_entry (λ i. length e.units ≤ most_units l (standing_of old) i) (subst (λ (u : ℕ). length e.units ≤ u) units made.turn.turn.1.1);
    full = at_entry (λ i. length e.units < most_units l (standing_of old) i → is_idle (states_of new i) ≡ true) rests;
    turn = at_entry (λ i. IsTurnInOrder old.program l.sites (states_of old i) (delivered_message old.journal e.delivered) e (states_of new i) (orders_of old i) (orders_of new i))
        (in_limits (λ n. IsTurnInOrder old.program n (states_of old site) (delivered_message old.journal e.delivered) e (states_of new site) (orders_of old site) (orders_of new site)) in_order);
    others = λ i other. (let away = λ (same : i ≡ site). other (same ∙ sym made.turn.site_is) in (made.turn.others i away, ordered.others i away));
  }

  -- so the run stays one in the fixed order
  pub plain_follows : LeadsTo old.program l old.journal (standing_of old) → LeadsTo old.program l new.journal (standing_of new)
  plain_follows h = subst (λ (j : List Turn). LeadsTo old.program l j (standing_of new)) (sym made.turn.journal) (standing_of old, h, plain)
