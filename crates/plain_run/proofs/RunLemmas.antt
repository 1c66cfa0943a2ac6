-- Plain runs whose turns tell the same threads are one.
use Rattle.std.proofs.Common.{◌≡◌, ◌∙◌, refl, sym, ap, subst, ℕ, List, [], ◌∷◌, ◌⊎◌, inl, inr}
use Rattle.std.specs.Prelude.{Option}
use Rattle.std.proofs.lemmas.Bool.{cases_eq}
use Rattle.tree_node.specs.declared.names.ThreadName.{ThreadName}
use Rattle.kernel_syntax.specs.declared.stmt.Stmt.{Stmt}
use Rattle.site_message.specs.declared.turn.Turn.{Turn}
use Rattle.site_model.specs.Site.{Site}
use Rattle.site_model.specs.Run.{IsRecordOf, delivered_message}
use Rattle.site_model.specs.Transition.{Transition}
use Rattle.site_core.specs.Site.{IsTransitionInOrder, IsTurnInOrder}
use Rattle.site_core.proofs.ReplayLemmas.{same_record, ordered_is_one}
use Rattle.site_message.specs.declared.limits.Limits.{Limits}
use Rattle.plain_run.specs.Rounds.{Standing, IsPlainTurn, LeadsTo, AreRunsDetermined, units_told}
use Rattle.plain_run.proofs.RoundLemmas.{turns_determined}

-- one turn more, of sites that stand in the same states
module _ (p : List Stmt) (l : Limits) (j : List Turn) (old new past now : Standing) (same : (i : ℕ) → old.states i ≡ past.states i) (e f : Turn)
    (h : IsPlainTurn p l j old e new) (g : IsPlainTurn p l j past f now) (units : e.units ≡ f.units) where
  here : (e.site ≡ f.site) × (e.delivered ≡ f.delivered)
  here = turns_determined p l j old new past now e f h g

  abbrev Ordered : Option ℕ → Site → Type 0
  Ordered d s = IsTurnInOrder p l.sites s (delivered_message j d) f (now.states f.site) (past.orders f.site) (now.orders f.site)

  -- the other turn, as one of the site where it stands here
  moved : Ordered e.delivered (old.states e.site)
  moved =
      subst (Ordered e.delivered) (sym (ap old.states here.0 ∙ same f.site))
      (subst (λ (d : Option ℕ). Ordered d (past.states f.site)) (sym here.1) g.turn)

  one : h.turn.0 ≡ moved.0
  one =
      ordered_is_one p l.sites e.units (old.states e.site) (delivered_message j e.delivered) h.turn.0 moved.0 (old.orders e.site) (new.orders e.site) (past.orders f.site) (now.orders f.site) h.turn.1
      (subst (λ (us : List ThreadName). IsTransitionInOrder p l.sites us (old.states e.site) (delivered_message j e.delivered) moved.0 (past.orders f.site) (now.orders f.site)) (sym units) moved.1)

  pub entries : e ≡ f
  entries = same_record e f moved.0 (subst (IsRecordOf e) one h.turn.2) moved.2 here.0 here.1 units

  pub states : (i : ℕ) → new.states i ≡ now.states i
  states i = by (cases_eq i e.site)
    where
      by : (i ≡ e.site) ⊎ (i ≡ e.site → ⊥) → new.states i ≡ now.states i
      by (inl at) = ap new.states at ∙ (h.turn.3 ∙ ap (λ (d : Transition). d.site) one ∙ sym moved.3) ∙ sym (ap now.states (at ∙ here.0))
      by (inr away) = (h.others i away).0 ∙ same i ∙ sym (g.others i (λ (q : i ≡ f.site). away (q ∙ sym here.0))).0

one_run : (p : List Stmt) (l : Limits) (j k : List Turn) (s t : Standing) → LeadsTo p l j s → LeadsTo p l k t → units_told j ≡ units_told k → (j ≡ k) × ((i : ℕ) → s.states i ≡ t.states i)
one_run p l [] [] s t h g told = (refl, λ i. (h i).0 ∙ sym (g i).0)
one_run p l [] (f ∷ k) s t h g told = let both : ◌≡◌ {A = List (List ThreadName)} [] (f.units ∷ units_told k) = told in cc
one_run p l (e ∷ j) [] s t h g told = let both : ◌≡◌ {A = List (List ThreadName)} (e.units ∷ units_told j) [] = told in cc
one_run p l (e ∷ j) (f ∷ k) s t (old, h, turn) (past, g, other) told =
    let both : ◌≡◌ {A = List (List ThreadName)} (e.units ∷ units_told j) (f.units ∷ units_told k) = told in
    let units : e.units ≡ f.units = cc in
    let rest : units_told j ≡ units_told k = cc in
    let before = one_run p l j k old past h g rest in
    let next : IsPlainTurn p l j past f t = subst (λ (x : List Turn). IsPlainTurn p l x past f t) (sym before.0) other in (
      ap (λ (x : Turn). x ∷ j) (entries p l j old s past t before.1 e f turn next units) ∙ ap (λ (x : List Turn). f ∷ x) before.0,
      states p l j old s past t before.1 e f turn next units,
    )

pub runs_determined : AreRunsDetermined
runs_determined p l j k (s, h) (t, g) told = (one_run p l j k s t h g told).0
