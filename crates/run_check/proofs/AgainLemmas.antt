-- Entries that are made again: they are a run, they lead to one journal, and none of them is wrong.
use Rattle.std.proofs.Common.{◌≡◌, ◌≢◌, ◌∙◌, sym, ap, refl, subst, ℕ, ◌≤◌, List, [], ◌∷◌, ◌++◌, length, map, reverse, append_assoc, Option, Some, None, ◌⊎◌, inl, inr}
use Rattle.std.specs.Prelude.{Bool, true, false, ◌==◌}
use Rattle.std.proofs.lemmas.List.{map-append, reverse-append}
use Rattle.tree_node.specs.declared.names.ThreadName.{ThreadName}
use Rattle.tree_node.specs.Each.{Each}
use Rattle.kernel_syntax.specs.declared.stmt.Stmt.{Stmt}
use Rattle.site_message.specs.declared.reason.Reason.{Reason}
use Rattle.site_message.specs.declared.turn.Turn.{Turn}
use Rattle.site_message.specs.declared.limits.Limits.{Limits}
use Rattle.site_message.specs.Journal.{end_of, DeliversOnce}
use Rattle.site_message.specs.EarlierEnd.{HasNoEarlierEnd}
use Rattle.site_model.specs.Bundle.{bundle_limit}
use Rattle.site_model.specs.Run.{WorldRun, SiteRun, IsEntry, IsReachedBy, IsRecordOf, delivered_message}
use Rattle.site_model.specs.Site.{Site}
use Rattle.site_model.specs.Transition.{Transition, without_output, sequence}
use Rattle.site_model.specs.Turn.{AreUnits, IsTurnOf, SiteTurnOf}
use Rattle.site_model.specs.Unit.{IsUnit}
use Rattle.site_units.specs.Replay.{CanGoOn}
use Rattle.site_core.proofs.ReplayLemmas.{reception_is_one}
use Rattle.world_model.proofs.PutLemmas.{nat_decides}
use Rattle.world_core.proofs.WorldLemmas.{run_grows, run_starts}
use Rattle.run_file.specs.declared.entry.Entry.{Entry}
use Rattle.run_file.specs.Writing.{entry_of}
use Rattle.run_check.specs.Again.{IsMadeAgain, AreMadeAgain, IsWrong, IsWrongAt}
use Rattle.run_check.specs.Laws.{CanBeEntry, MadeAgainIsRun, MadeAgainIsOne, NotBoth, WrongIsOne, RunsAreNotWrong, RunsAreMadeAgain}

-- ---- the last of a list

no_end : {X : Type 0} (xs : List X) (x : X) → [] ≡ xs ++ x ∷ [] → ⊥
no_end [] x e = cc
no_end (y ∷ xs) x e = cc

same_end : {X : Type 0} (xs ys : List X) (x y : X) → xs ++ x ∷ [] ≡ ys ++ y ∷ [] → (xs ≡ ys) × (x ≡ y)
same_end [] [] x y e = (refl, cc)
same_end {X} [] (z ∷ ys) x y e = let rest : [] ≡ ys ++ y ∷ [] = cc in absurd (no_end ys y rest)
same_end {X} (z ∷ xs) [] x y e = let rest : [] ≡ xs ++ x ∷ [] = cc in absurd (no_end xs x rest)
same_end {X} (z ∷ xs) (u ∷ ys) x y e =
    let first : z ≡ u = cc in
    let rest : xs ++ x ∷ [] ≡ ys ++ y ∷ [] = cc in
    let h = same_end xs ys x y rest in
    (λ i. first i ∷ h.0 i, h.1)

no_middle : {X : Type 0} (xs ys : List X) (x : X) → [] ≡ xs ++ x ∷ ys → ⊥
no_middle [] ys x e = cc
no_middle (z ∷ xs) ys x e = cc

pub init_last : {X : Type 0} (x : X) (xs : List X) → (ys : List X) × (y : X) × (x ∷ xs ≡ ys ++ y ∷ [])
init_last x [] = ([], x, refl)
init_last {X} x (z ∷ zs) = let r = init_last z zs in (x ∷ r.0, r.1, ap (λ (q : List X). x ∷ q) r.2)

-- one list cut at two places: at one and the same, or one lies before the other
abbrev Cut : {X : Type 0} → List X → X → List X → X → Type 0
Cut {X} f e g d = ((f ≡ g) × (e ≡ d)) ⊎ ((z : List X) × (g ≡ f ++ e ∷ z)) ⊎ ((z : List X) × (f ≡ g ++ d ∷ z))

cuts : {X : Type 0} (f x : List X) (e : X) (g y : List X) (d : X) → f ++ e ∷ x ≡ g ++ d ∷ y → Cut f e g d
cuts [] x e [] y d h = inl (refl, cc)
cuts [] x e (b ∷ g) y d h = let same : b ≡ e = cc in inr (inl (g, λ i. same i ∷ g))
cuts (a ∷ f) x e [] y d h = let same : a ≡ d = cc in inr (inr (f, λ i. same i ∷ f))
cuts {X} (a ∷ f) x e (b ∷ g) y d h = by (cuts f x e g y d rest)
  where
    same : a ≡ b
    same = cc

    rest : f ++ e ∷ x ≡ g ++ d ∷ y
    rest = cc

    by : Cut f e g d → Cut (a ∷ f) e (b ∷ g) d
    by (inl (one, is)) = inl ((λ i. same i ∷ one i), is)
    by (inr (inl (z, more))) = inr (inl (z, λ i. sym same i ∷ more i))
    by (inr (inr (z, more))) = inr (inr (z, λ i. same i ∷ more i))

-- ---- one turn

same_or : (i k : ℕ) → (i ≡ k) ⊎ (i ≢ k)
same_or i k = by (i == k) refl
  where
    by : (b : Bool) → (i == k) ≡ b → (i ≡ k) ⊎ (i ≢ k)
    by true q = inl ((nat_decides i k).0 q)
    by false q = inr (λ e. (let yes : (i == k) ≡ true = (nat_decides i k).1 e in cc))

-- a turn that records a transition and of which an entry is saved is one
turn_is_one : (t u : Turn) (d : Transition) (e : Entry) → entry_of t ≡ e → entry_of u ≡ e → IsRecordOf t d → IsRecordOf u d → t ≡ u
turn_is_one t u d e a b g h =
    let saved : entry_of t ≡ entry_of u = a ∙ sym b in
    λ i. record {
      site = (saved i).site;
      delivered = (saved i).delivered;
      units = (saved i).units;
      picks = (g.picks ∙ sym h.picks) i;
      sent = (g.sent ∙ sym h.sent) i;
      lines = (saved i).lines;
      idle = (g.idle ∙ sym h.idle) i;
      ended = (g.ended ∙ sym h.ended) i;
      waiting = (g.waiting ∙ sym h.waiting) i;
      steps = (g.steps ∙ sym h.steps) i;
    }

module _ (p : List Stmt) (l : Limits) where
  -- it leads from one journal and states to one turn and states
  again_is_one : (j : List Turn) (w : ℕ → Site) (e : Entry) (t u : Turn) (v z : ℕ → Site) → IsMadeAgain p l j w e t v → IsMadeAgain p l j w e u z → (t ≡ u) × ((i : ℕ) → v i ≡ z i)
  again_is_one j w e t u v z g h = (turn_is_one t u h.turn.0 e g.saved h.saved (subst (IsRecordOf t) same g.turn.2) h.turn.2, λ i. at i (same_or i e.site))
    where
      same : g.turn.0 ≡ h.turn.0
      same = h.turn.1.1 g.turn.0 g.turn.1.0

      at : (i : ℕ) → (i ≡ e.site) ⊎ (i ≢ e.site) → v i ≡ z i
      at i (inl is) = ap v is ∙ (g.turn.3 ∙ ap (λ (d : Transition). d.site) same ∙ sym h.turn.3) ∙ ap z (sym is)
      at i (inr other) = g.others i other ∙ sym (h.others i other)

  pub made_again_is_one : (j k : List Turn) (es : List Entry) (w v : ℕ → Site) → AreMadeAgain p l j es w → AreMadeAgain p l k es v → (j ≡ k) × ((i : ℕ) → w i ≡ v i)
  made_again_is_one [] [] es w v g h = (refl, λ i. g.1 i ∙ sym (h.1 i))
  made_again_is_one [] (u ∷ k) es w v g h = absurd (no_end h.0 h.1 (sym g.0 ∙ h.3))
  made_again_is_one (t ∷ j) [] es w v g h = absurd (no_end g.0 g.1 (sym h.0 ∙ g.3))
  made_again_is_one (t ∷ j) (u ∷ k) es w v (front, e, old, is, before, now) (front2, e2, old2, is2, before2, now2) =
      let parts = same_end front front2 e e2 (sym is ∙ is2) in
      let rest = made_again_is_one j k front old old2 before (subst (λ (es : List Entry). AreMadeAgain p l k es old2) (sym parts.0) before2) in
      let states : old2 ≡ old = λ i. λ n. sym (rest.1 n) i in
      let moved : IsMadeAgain p l j old e u v =
      subst (λ (z : List Turn × (ℕ → Site) × Entry). IsMadeAgain p l z.0 z.1 z.2 u v) (λ i. (sym rest.0 i, states i, sym parts.1 i)) now2 in
      let here = again_is_one j old e t u w v now moved in
      (λ i. here.0 i ∷ rest.0 i, here.1)

  -- ---- a run

  last_each : (P : Entry → Type 0) (front : List Entry) (e : Entry) → Each P (front ++ e ∷ []) → Each P front × P e
  last_each P [] e h = (tt, h.0)
  last_each P (x ∷ front) e h = let rest = last_each P front e h.1 in ((h.0, rest.0), rest.1)

  rev_more : (t : Turn) (j : List Turn) → map entry_of (reverse (t ∷ j)) ≡ map entry_of (reverse j) ++ entry_of t ∷ []
  rev_more t j = ap (λ (z : List Turn). map entry_of z) (reverse-append (t ∷ []) j) ∙ map-append entry_of (reverse j) (t ∷ [])

  pub made_again_is_run : (j : List Turn) (es : List Entry) (w : ℕ → Site) → Each (CanBeEntry l.sites) es → AreMadeAgain p l j es w → WorldRun p l.sites bundle_limit j w × HasNoEarlierEnd l j × (es ≡ map entry_of (reverse j))
  made_again_is_run [] es w each h = (run_starts p l.sites bundle_limit w h.1, tt, h.0)
  made_again_is_run (t ∷ j) es w each (front, e, old, is, before, now) =
      let parts = last_each (CanBeEntry l.sites) front e (subst (Each (CanBeEntry l.sites)) is each) in
      let rest = made_again_is_run j front old parts.0 before in
      (grown rest.0 parts.1, (rest.1, now.goes_on), is ∙ ap (λ (f : List Entry). f ++ e ∷ []) rest.2 ∙ ap (λ (x : Entry). map entry_of (reverse j) ++ x ∷ []) (sym now.saved) ∙ sym (rev_more t j))
    where
      site : t.site ≡ e.site
      site = ap (λ (x : Entry). x.site) now.saved

      turn : SiteTurnOf p l.sites bundle_limit e.units (old e.site) (delivered_message j e.delivered) now.turn.0 → SiteTurnOf p l.sites bundle_limit t.units (old t.site) (delivered_message j t.delivered) now.turn.0
      turn k = subst (λ (x : Entry). SiteTurnOf p l.sites bundle_limit x.units (old x.site) (delivered_message j x.delivered) now.turn.0) (sym now.saved) k

      grown : WorldRun p l.sites bundle_limit j old → CanBeEntry l.sites e → WorldRun p l.sites bundle_limit (t ∷ j) w
      grown run can =
          run_grows p l.sites bundle_limit j t old w now.turn.0 run now.travels (subst (λ (x : ℕ). (1 ≤ x) × (x ≤ l.sites)) (sym site) (can.0, can.1)) (turn (can.2, now.turn.1.0)) now.turn.2
          (ap w site ∙ now.turn.3) (λ i other. now.others i (λ same. other (same ∙ sym site)))

  -- ---- none is wrong

  -- before an entry
  before_it : (j : List Turn) (front behind : List Entry) (e : Entry) (w : ℕ → Site) (es : List Entry) → es ≡ front ++ e ∷ behind → AreMadeAgain p l j es w →
      (k : List Turn) × (u : ℕ → Site) × (t : Turn) × (v : ℕ → Site) × AreMadeAgain p l k front u × IsMadeAgain p l k u e t v
  before_it [] front behind e w es is h = absurd (no_middle front behind e (sym h.0 ∙ is))
  before_it (t ∷ j) front [] e w es is (init, last, old, ends, before, now) =
      let parts = same_end init front last e (sym ends ∙ is) in
      (j, old, t, w, subst (λ (f : List Entry). AreMadeAgain p l j f old) parts.0 before, subst (λ (x : Entry). IsMadeAgain p l j old x t w) parts.1 now)
  before_it (t ∷ j) front (b ∷ bs) e w es is (init, last, old, ends, before, now) =
      let tail = init_last b bs in
      let both : init ++ last ∷ [] ≡ (front ++ e ∷ tail.0) ++ tail.1 ∷ [] =
      sym ends ∙ is ∙ ap (λ (x : List Entry). front ++ e ∷ x) tail.2 ∙ sym (append_assoc front (e ∷ tail.0) (tail.1 ∷ [])) in
      let parts = same_end init (front ++ e ∷ tail.0) last tail.1 both in
      before_it j front tail.0 e old init parts.0 before

  -- units of threads of which the first are made in one way: the next one can go on
  next_goes : (n : ℕ) (front : List ThreadName) (th : ThreadName) (behind : List ThreadName) (s : Site) (d e : Transition) → AreUnits p n bundle_limit (front ++ th ∷ behind) s e →
      ((f : Transition) → AreUnits p n bundle_limit front s f → f ≡ d) → CanGoOn d.site th
  next_goes n front th behind s d e units only =
      let cut = cut_units front s e units in
      let goes : IsUnit p n bundle_limit th cut.0.site cut.1 = cut.3 in
      subst (λ (f : Transition). CanGoOn f.site th) (only cut.0 cut.2) (goes.0, goes.1)
    where
      cut_units : (front : List ThreadName) (s : Site) (e : Transition) → AreUnits p n bundle_limit (front ++ th ∷ behind) s e → (f : Transition) × (one : Transition) × AreUnits p n bundle_limit front s f × IsUnit p n bundle_limit th f.site one
      cut_units [] s e (one, rest, unit, units, is) = (without_output s, one, refl, unit)
      cut_units (x ∷ xs) s e (one, rest, unit, units, is) =
          let r = cut_units xs one.site rest units in
          (sequence one r.0, r.1, (one, r.0, unit, r.2, refl), r.3)

  -- a turn of a run that goes on, of which an entry is saved: it is not wrong
  turn_not_wrong : (j : List Turn) (w : ℕ → Site) (t : Turn) (d : Transition) → end_of l j ≡ None → DeliversOnce j t → IsTurnOf p l.sites bundle_limit t.units (w t.site) (delivered_message j t.delivered) d → IsRecordOf t d →
      IsWrong p l j w (entry_of t) → ⊥
  turn_not_wrong j w t d goes_on travels turn tells (inl (r, ended)) = let no : ◌≡◌ {A = Option Reason} None (Some r) = sym goes_on ∙ ended in cc
  turn_not_wrong j w t d goes_on travels turn tells (inr (inl (k, is, none))) = let m = travels k is in none m.0 m.1 m.2
  turn_not_wrong j w t d goes_on travels turn tells (inr (inr (inl (at, (heard, reception, stuck))))) = stuck.stuck (go turn)
    where
      go : IsTurnOf p l.sites bundle_limit t.units (w t.site) (delivered_message j t.delivered) d → CanGoOn stuck.d.site stuck.thread
      go (first, rest, took, units, is) =
          let same : first ≡ heard = reception_is_one p l.sites bundle_limit (delivered_message j t.delivered) (w t.site) first heard took reception in
          let here : AreUnits p l.sites bundle_limit (stuck.front ++ stuck.thread ∷ stuck.behind) heard.site rest =
          subst (λ (ths : List ThreadName). AreUnits p l.sites bundle_limit ths heard.site rest) stuck.parts (subst (λ (f : Transition). AreUnits p l.sites bundle_limit t.units f.site rest) same units) in
          next_goes l.sites stuck.front stuck.thread stuck.behind heard.site stuck.d rest here stuck.comes.1
  turn_not_wrong j w t d goes_on travels turn tells (inr (inr (inr (other, comes, others)))) =
      let same : d ≡ other = comes.1 d turn in
      others (ap (λ (f : Transition). f.lines) (sym same) ∙ sym tells.lines)

  again_not_wrong : (j : List Turn) (w : ℕ → Site) (e : Entry) (t : Turn) (v : ℕ → Site) → IsMadeAgain p l j w e t v → IsWrong p l j w e → ⊥
  again_not_wrong j w e t v g wrong =
      turn_not_wrong j w t g.turn.0 g.goes_on g.travels (subst (λ (x : Entry). IsTurnOf p l.sites bundle_limit x.units (w x.site) (delivered_message j x.delivered) g.turn.0) (sym g.saved) g.turn.1.0) g.turn.2
      (subst (IsWrong p l j w) (sym g.saved) wrong)

  pub not_both : (j k : List Turn) (es : List Entry) (w : ℕ → Site) (i : ℕ) → AreMadeAgain p l j es w → IsWrongAt p l es i k → ⊥
  not_both j k es w i g (front, behind, e, u, is, place, before, wrong) =
      let b = before_it j front behind e w es is g in
      let one = made_again_is_one b.0 k front b.1 u b.4 before in
      let states : u ≡ b.1 = λ i. λ n. sym (one.1 n) i in
      again_not_wrong b.0 b.1 e b.2 b.3 b.5 (subst (λ (z : List Turn × (ℕ → Site)). IsWrong p l z.0 z.1 e) (λ x. (sym one.0 x, states x)) wrong)

  pub wrong_is_one : (es : List Entry) (i k : ℕ) (a b : List Turn) → IsWrongAt p l es i a → IsWrongAt p l es k b → (i ≡ k) × (a ≡ b)
  wrong_is_one es i k a b (f, x, e, w, is, at, before, wrong) (g, y, d, v, is2, at2, before2, wrong2) = by (cuts f x e g y d (sym is ∙ is2))
    where
      by : Cut f e g d → (i ≡ k) × (a ≡ b)
      by (inl (same, one)) = (at ∙ ap length same ∙ sym at2, (made_again_is_one a b g w v (subst (λ (z : List Entry). AreMadeAgain p l a z w) same before) before2).0)
      by (inr (inl (z, more))) = absurd (not_both b a g v i before2 (f, z, e, w, more, at, before, wrong))
      by (inr (inr (z, more))) = absurd (not_both a b f w k before (g, z, d, v, more, at2, before2, wrong2))

  -- ---- runs, whoever made them

  -- before the last turn of a run: the states then, and the transition of that turn
  pub run_before : (t : Turn) (j : List Turn) (w : ℕ → Site) → WorldRun p l.sites bundle_limit (t ∷ j) w →
      (old : ℕ → Site) × (d : Transition) × WorldRun p l.sites bundle_limit j old × DeliversOnce j t × IsTurnOf p l.sites bundle_limit t.units (old t.site) (delivered_message j t.delivered) d × IsRecordOf t d
      × (w t.site ≡ d.site) × ((i : ℕ) → i ≢ t.site → w i ≡ old i) × (length t.units ≤ 64)
  run_before t j w run =
      let entry = own (t.site == t.site) ((nat_decides t.site t.site).1 refl) (run.runs t.site) in
      (old, entry.0, record { wired = run.wired.0; sites = run.sites.1; runs = λ i. (before (t.site == i) i (run.runs i)).1 }, run.wired.1, entry.1.1, entry.2, entry.3, λ i other. (before (t.site == i) i (run.runs i)).2 (apart i other (t.site == i) refl), entry.1.0)
    where
      Reached : Bool → ℕ → Type 0
      Reached b i = IsReachedBy b (λ (s : Site). SiteRun p l.sites bundle_limit i j s) (λ (s new : Site). IsEntry p l.sites bundle_limit j t s new) (w i)

      before : (b : Bool) (i : ℕ) → Reached b i → (s : Site) × SiteRun p l.sites bundle_limit i j s × (b ≡ false → w i ≡ s)
      before true i (s, was, entry) = (s, was, λ no. cc)
      before false i h = (w i, h, λ no. refl)

      old : ℕ → Site
      old i = (before (t.site == i) i (run.runs i)).0

      apart : (i : ℕ) → i ≢ t.site → (b : Bool) → (t.site == i) ≡ b → (t.site == i) ≡ false
      apart i other false q = q
      apart i other true q = absurd (other (sym ((nat_decides t.site i).0 q)))

      own : (b : Bool) → b ≡ true → (h : Reached b t.site) → IsEntry p l.sites bundle_limit j t (before b t.site h).0 (w t.site)
      own true q (s, was, entry) = entry
      own false q h = cc

  -- states that changed alike
  one_state : (t : Turn) (d : Transition) (old v w : ℕ → Site) → v t.site ≡ d.site → ((i : ℕ) → i ≢ t.site → v i ≡ old i) → w t.site ≡ d.site → ((i : ℕ) → i ≢ t.site → w i ≡ old i) → (i : ℕ) → v i ≡ w i
  one_state t d old v w here others there rest i = by (same_or i t.site)
    where
      by : (i ≡ t.site) ⊎ (i ≢ t.site) → v i ≡ w i
      by (inl is) = ap v is ∙ (here ∙ sym there) ∙ ap w (sym is)
      by (inr other) = others i other ∙ sym (rest i other)

  -- what is made again of a turn of a run is that turn
  turn_of_run : (j : List Turn) (old : ℕ → Site) (t u : Turn) (d : Transition) (v : ℕ → Site) → IsTurnOf p l.sites bundle_limit t.units (old t.site) (delivered_message j t.delivered) d → IsRecordOf t d →
      IsMadeAgain p l j old (entry_of t) u v → (u ≡ t) × (v t.site ≡ d.site)
  turn_of_run j old t u d v turn tells g =
      let same : d ≡ g.turn.0 = g.turn.1.1 d turn in
      (turn_is_one u t d (entry_of t) g.saved refl (subst (IsRecordOf u) (sym same) g.turn.2) tells, g.turn.3 ∙ ap (λ (f : Transition). f.site) (sym same))

  pub made_again_is_the_run : (j k : List Turn) (w v : ℕ → Site) → WorldRun p l.sites bundle_limit j w → AreMadeAgain p l k (map entry_of (reverse j)) v → (k ≡ j) × ((i : ℕ) → v i ≡ w i)
  made_again_is_the_run [] [] w v run h = (refl, λ i. h.1 i ∙ sym (run.runs i))
  made_again_is_the_run [] (u ∷ k) w v run h = absurd (no_end h.0 h.1 h.3)
  made_again_is_the_run (t ∷ j) [] w v run h = absurd (no_end (map entry_of (reverse j)) (entry_of t) (sym h.0 ∙ rev_more t j))
  made_again_is_the_run (t ∷ j) (u ∷ k) w v run (front, e, old, is, before, now) =
      let parts = same_end front (map entry_of (reverse j)) e (entry_of t) (sym is ∙ rev_more t j) in
      let r = run_before t j w run in
      let rest = made_again_is_the_run j k r.0 old r.2 (subst (λ (es : List Entry). AreMadeAgain p l k es old) parts.0 before) in
      let states : old ≡ r.0 = λ i. λ n. rest.1 n i in
      let moved : IsMadeAgain p l j r.0 (entry_of t) u v =
      subst (λ (z : List Turn × (ℕ → Site) × Entry). IsMadeAgain p l z.0 z.1 z.2 u v) (λ i. (rest.0 i, states i, parts.1 i)) now in
      let here = turn_of_run j r.0 t u r.1 v r.4 r.5 moved in
      (λ i. here.0 i ∷ rest.0 i, one_state t r.1 r.0 v w here.1 moved.others r.6 r.7)

  -- the turn of a run of which an entry among its entries is saved
  turn_in_run : (j : List Turn) (front behind : List Entry) (e : Entry) (w : ℕ → Site) → WorldRun p l.sites bundle_limit j w → HasNoEarlierEnd l j → map entry_of (reverse j) ≡ front ++ e ∷ behind →
      (j0 : List Turn) × (t : Turn) × (u : ℕ → Site) × (front ≡ map entry_of (reverse j0)) × (e ≡ entry_of t) × WorldRun p l.sites bundle_limit (t ∷ j0) u × (end_of l j0 ≡ None)
  turn_in_run [] front behind e w run early is = absurd (no_middle front behind e is)
  turn_in_run (t ∷ j) front [] e w run early is =
      let parts = same_end (map entry_of (reverse j)) front (entry_of t) e (sym (rev_more t j) ∙ is) in
      (j, t, w, sym parts.0, sym parts.1, run, early.1)
  turn_in_run (t ∷ j) front (b ∷ bs) e w run early is =
      let tail = init_last b bs in
      let both : map entry_of (reverse j) ++ entry_of t ∷ [] ≡ (front ++ e ∷ tail.0) ++ tail.1 ∷ [] =
      sym (rev_more t j) ∙ is ∙ ap (λ (x : List Entry). front ++ e ∷ x) tail.2 ∙ sym (append_assoc front (e ∷ tail.0) (tail.1 ∷ [])) in
      let r = run_before t j w run in
      turn_in_run j front tail.0 e r.0 r.2 early.0 (same_end (map entry_of (reverse j)) (front ++ e ∷ tail.0) (entry_of t) tail.1 both).0

  pub runs_are_not_wrong : (j k : List Turn) (w : ℕ → Site) (i : ℕ) → WorldRun p l.sites bundle_limit j w → HasNoEarlierEnd l j → IsWrongAt p l (map entry_of (reverse j)) i k → ⊥
  runs_are_not_wrong j k w i run early (front, behind, e, u, is, place, before, wrong) =
      let s = turn_in_run j front behind e w run early is in
      let r = run_before s.1 s.0 s.2 s.5 in
      let one = made_again_is_the_run s.0 k r.0 u r.2 (subst (λ (f : List Entry). AreMadeAgain p l k f u) s.3 before) in
      let states : u ≡ r.0 = λ i. λ n. one.1 n i in
      turn_not_wrong s.0 r.0 s.1 r.1 s.6 r.3 r.4 r.5 (subst (λ (z : List Turn × (ℕ → Site) × Entry). IsWrong p l z.0 z.1 z.2) (λ x. (one.0 x, states x, s.4 x)) wrong)

pub run_law : MadeAgainIsRun
run_law p l j es w each h = made_again_is_run p l j es w each h

pub one_law : MadeAgainIsOne
one_law p l j k es w v g h = made_again_is_one p l j k es w v g h

pub both_law : NotBoth
both_law p l j k es w i g h = not_both p l j k es w i g h

pub run_not_wrong_law : RunsAreNotWrong
run_not_wrong_law p l j k w i run early wrong = runs_are_not_wrong p l j k w i run early wrong

pub run_again_law : RunsAreMadeAgain
run_again_law p l j k w v run h = made_again_is_the_run p l j k w v run h

pub wrong_law : WrongIsOne
wrong_law p l es i k a b g h = wrong_is_one p l es i k a b g h
