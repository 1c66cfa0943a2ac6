-- What a world tells of an entry made again, as the definitions say it.
use Rattle.std.proofs.Common.{arith, ◌≡◌, ◌≢◌, ◌∙◌, sym, ap, refl, subst, ℕ, zero, suc, ◌-◌, ◌<◌, ◌≤◌, List, [], ◌∷◌, ◌++◌, length, length-append, reverse, take, drop, get_or, drop-cons, false, inl, inr}
use Rattle.std.specs.Prelude.{Option, Some, None, true, is_some, Ok, Err, IfErr, OnOk, ◌↔◌, ◌&&◌, not, slice_get}
use Rattle.std.proofs.lemmas.List.{take-append-drop, length-take, reverse-append}
use Rattle.kernel_syntax.specs.declared.stmt.Stmt.{Stmt}
use Rattle.kernel_syntax.specs.Program.{IsProgram}
use Rattle.site_message.specs.declared.message.Sent.{Sent}
use Rattle.site_message.specs.declared.turn.Turn.{Turn}
use Rattle.site_message.specs.declared.reason.Reason.{Reason}
use Rattle.site_message.specs.EarlierEnd.{HasNoEarlierEnd}
use Rattle.site_message.specs.declared.limits.Limits.{Limits}
use Rattle.site_message.specs.Journal.{end_of, IsTravelling, DeliversOnce, Wired}
use Rattle.site_model.specs.Bundle.{bundle_limit}
use Rattle.site_model.specs.Site.{Site, initial_site}
use Rattle.site_model.specs.Run.{WorldRun, delivered_message}
use Rattle.site_core.specs.Replay.{TurnComesTo, IsStuckTurn}
use Rattle.world_core.specs.declared.travel.Travel.{Travel}
use Rattle.world_core.specs.Travels.{IsAt, IsPlaceOf, IsNumberAt, IsNotThere}
use Rattle.world_core.specs.Laws.{AreMessagesFew}
use Rattle.world_core.specs.World.{WorldState, states_of, IsWorldTurn}
use Rattle.world_core.specs.Replay.{IsReplayed, IsWorldStuck, PrintsOthers as WorldPrintsOthers}
use Rattle.world_core.specs.declared.refusal.ReplayRefusal.{ReplayRefusal}
use Rattle.world_core.specs.declared.refusal.ReplayRefusal.TheVariants.{NotThere, NotRunnable, OtherLines, Memory}
use Rattle.world_core.proofs.ReplayLemmas.{Told}
use Rattle.world_core.proofs.WorldLemmas.{messages_few, run_starts}
use Rattle.run_file.specs.declared.entry.Entry.{Entry}
use Rattle.run_check.specs.Again.{IsFrontMadeAgain, IsMadeAgain, AreMadeAgain, IsWrong, IsWrongAt}
use Rattle.run_check.specs.declared.made.Made.{Made}
use Rattle.run_check.specs.declared.made.Made.TheVariants as made
use Rattle.run_check.specs.World.{HasMade, IsNext, IsLookedUp, Stops, TravelsNowhere}
use Rattle.run_check.proofs.AgainLemmas.{init_last}

-- ---- how a run begins and ends

pub empty_few : (p : List Stmt) (n : ℕ) → IsProgram p → 1 ≤ n → n ≤ 64 → AreMessagesFew p n []
empty_few p n is low high = messages_few p n [] (λ i. initial_site p n i) is low high (run_starts p n bundle_limit (λ i. initial_site p n i) (λ i. refl))

-- none of the entries is a front of them
pub none_made : (p : List Stmt) (l : Limits) (es : List Entry) → IsFrontMadeAgain p l [] es
none_made p l es = ([], es, (λ i. initial_site p l.sites i), refl, (refl, λ i. refl))

pub some_reason : (o : Option Reason) → is_some o ≡ true → (r : Reason) × (o ≡ Some r)
some_reason None e = cc
some_reason (Some r) e = (r, refl)

pub no_reason : (o : Option Reason) → is_some o ≡ false → o ≡ None
no_reason None e = refl
no_reason (Some r) e = cc

end_read : {X : Type 0} (xs : List X) (x : X) (n : ℕ) → n ≡ length xs → slice_get (xs ++ x ∷ []) n ≡ Some x
end_read [] x zero q = refl
end_read [] x (suc n) q = absurd (omega (arith, q))
end_read (y ∷ ys) x zero q = absurd (omega (arith, q))
end_read (y ∷ ys) x (suc n) q = end_read ys x n (omega (arith, q))

-- the last of the turns is the newest
newest : (ts : List Turn) (t : Turn) → slice_get ts (length ts - 1) ≡ Some t → (rest : List Turn) × (reverse ts ≡ t ∷ rest)
newest [] t e = cc
newest (x ∷ xs) t e = by (init_last x xs)
  where
    by : (ys : List Turn) × (y : Turn) × (x ∷ xs ≡ ys ++ y ∷ []) → (rest : List Turn) × (reverse (x ∷ xs) ≡ t ∷ rest)
    by (ys, y, is) =
        let long : length (x ∷ xs) ≡ length (ys ++ y ∷ []) = ap (λ (z : List Turn). length z) is in
        let place : length (x ∷ xs) - 1 ≡ length ys = omega (arith, long, length-append ys (y ∷ [])) in
        let read : slice_get (ys ++ y ∷ []) (length (x ∷ xs) - 1) ≡ Some y = end_read ys y (length (x ∷ xs) - 1) place in
        let both : ◌≡◌ {A = Option Turn} (Some y) (Some t) = sym read ∙ ap (λ (z : List Turn). slice_get z (length (x ∷ xs) - 1)) (sym is) ∙ e in
        let same : y ≡ t = cc in
        (reverse ys, ap (λ (z : List Turn). reverse z) is ∙ reverse-append ys (y ∷ []) ∙ ap (λ (z : Turn). z ∷ reverse ys) same)

-- ---- one entry

abbrev number_in : Option Travel → ℕ
number_in None = 0
number_in (Some t) = t.number

-- the number there is that of the entry
number_is : (j : List Turn) (ts : List Travel) (site : ℕ) (d place number : Option ℕ) → IsLookedUp j ts d place → IsNumberAt ts site place number → number ≡ d
number_is j ts site None place number is h = let here : IsNumberAt ts site None number = subst (λ (o : Option ℕ). IsNumberAt ts site o number) is h in here
number_is j ts site (Some k) place number (at, is, (to, found), lies) h =
    let here : IsNumberAt ts site (Some at) number = subst (λ (o : Option ℕ). IsNumberAt ts site o number) is h in
    let same : ◌≡◌ {A = Option Travel} (Some (record { number = here.0; to = site })) (Some (record { number = k; to = to })) = sym here.1 ∙ found in
    let one : here.0 ≡ k = ap number_in same in
    here.2 ∙ ap (λ (n : ℕ). Some n) one

-- the turn was made
next_is : (l : Limits) (old new : WorldState) (e : Entry) (place : Option ℕ) (quantum : ℕ) → IsLookedUp old.journal old.travels e.delivered place → old.sites ≡ l.sites → end_of l old.journal ≡ None →
    ((t : Turn) → new.journal ≡ t ∷ old.journal → DeliversOnce old.journal t) → IsReplayed old new e.site place e.units e.lines → IsWorldTurn old new e.site place quantum → IsNext l old new e
next_is l old new e place quantum looked sites goes_on once h w = record {
  turn = h.entry;
  journal = h.journal;
  made = record {
    goes_on = goes_on;
    saved = λ i. record { site = h.site_is i; delivered = told i; units = h.units i; lines = h.lines i };
    travels = once h.entry h.journal;
    turn =
        let d = h.turn.0 in
        let moved = subst (λ (n : ℕ). TurnComesTo old.program n e.units (states_of old e.site) (delivered_message old.journal h.entry.delivered) d) sites h.turn.1 in
        (d, subst (λ (o : Option ℕ). TurnComesTo old.program l.sites e.units (states_of old e.site) (delivered_message old.journal o) d) told moved, h.turn.2, h.turn.3);
    others = w.others;
  };
}
  where
    told : h.entry.delivered ≡ e.delivered
    told = number_is old.journal old.travels e.site e.delivered place h.entry.delivered looked h.delivered

-- a thread cannot go on
stuck_is : (l : Limits) (w : WorldState) (e : Entry) (place : Option ℕ) (at : ℕ) → IsLookedUp w.journal w.travels e.delivered place → w.sites ≡ l.sites → IsWorldStuck w e.site place e.units at → IsWrong w.program l w.journal (states_of w) e
stuck_is l w e place at looked sites (number, there, stuck) =
    let told : number ≡ e.delivered = number_is w.journal w.travels e.site e.delivered place number looked there in
    let moved = subst (λ (n : ℕ). IsStuckTurn w.program n (states_of w e.site) (delivered_message w.journal number) e.units at) sites stuck in
    inr (inr (inl (at, subst (λ (o : Option ℕ). IsStuckTurn w.program l.sites (states_of w e.site) (delivered_message w.journal o) e.units at) told moved)))

-- other lines are printed
others_are : (l : Limits) (w : WorldState) (e : Entry) (place : Option ℕ) → IsLookedUp w.journal w.travels e.delivered place → w.sites ≡ l.sites → WorldPrintsOthers w e.site place e.units e.lines → IsWrong w.program l w.journal (states_of w) e
others_are l w e place looked sites (number, d, there, comes, other) =
    let told : number ≡ e.delivered = number_is w.journal w.travels e.site e.delivered place number looked there in
    let moved = subst (λ (n : ℕ). TurnComesTo w.program n e.units (states_of w e.site) (delivered_message w.journal number) d) sites comes in
    inr (inr (inr (d, subst (λ (o : Option ℕ). TurnComesTo w.program l.sites e.units (states_of w e.site) (delivered_message w.journal o) d) told moved, other)))

-- what is delivered does not travel, or to another site
not_there : (l : Limits) (w : WorldState) (e : Entry) (place : Option ℕ) → IsLookedUp w.journal w.travels e.delivered place → IsNotThere w.travels e.site place → IsWrong w.program l w.journal (states_of w) e
not_there l w e place looked none = by e.delivered refl looked
  where
    by : (d : Option ℕ) → e.delivered ≡ d → IsLookedUp w.journal w.travels d place → IsWrong w.program l w.journal (states_of w) e
    by None is q = absurd (subst (λ (o : Option ℕ). IsNotThere w.travels e.site o) q none)
    by (Some k) is (at, q, there, found) =
        let here : IsNotThere w.travels e.site (Some at) = subst (λ (o : Option ℕ). IsNotThere w.travels e.site o) q none in
        inr (inl (k, is, λ m travels to. here k (subst (λ (n : ℕ). IsAt w.travels n at k) to (found m travels))))

pub nowhere : (p : List Stmt) (l : Limits) (w : ℕ → Site) (j : List Turn) (e : Entry) → TravelsNowhere j e.delivered → IsWrong p l j w e
nowhere p l w j e (k, is, none) = inr (inl (k, is, λ m travels to. none m travels))

pub looked_up : (j : List Turn) (ts : List Travel) (k at : ℕ) → IsPlaceOf ts k (Some at) → ((m : Sent) → IsTravelling j k m → (place : ℕ) × (◌≡◌ {A = Option ℕ} (Some at) (Some place)) × IsAt ts m.to place k) →
    IsLookedUp j ts (Some k) (Some at)
looked_up j ts k at there found = (at, refl, there, λ m travels. (let f = found m travels in let same : at ≡ f.0 = cc in subst (λ (n : ℕ). IsAt ts m.to n k) (sym same) f.2))

pub none_there : (j : List Turn) (ts : List Travel) (k : ℕ) → ((m : Sent) → IsTravelling j k m → (place : ℕ) × (◌≡◌ {A = Option ℕ} None (Some place)) × IsAt ts m.to place k) → TravelsNowhere j (Some k)
none_there j ts k found = (k, refl, λ m travels. (let no : ◌≡◌ {A = Option ℕ} None (Some (found m travels).0) = (found m travels).1 in cc))

-- by the world's answer: the entry was made again, or it is wrong
pub next_or : (l : Limits) (old new : WorldState) (e : Entry) (place : Option ℕ) (quantum : ℕ) (r : Told) → IsLookedUp old.journal old.travels e.delivered place → old.sites ≡ l.sites → end_of l old.journal ≡ None →
    OnOk r (WorldRun new.program new.sites bundle_limit new.journal (states_of new)) → OnOk r (IsReplayed old new e.site place e.units e.lines) → OnOk r (IsWorldTurn old new e.site place quantum) → OnOk r (IsNext l old new e)
next_or l old new e place quantum (Err x) looked sites goes_on run h w = tt
next_or l old new e place quantum (Ok u) looked sites goes_on run h w = next_is l old new e place quantum looked sites goes_on once h w
  where
    once : (t : Turn) → new.journal ≡ t ∷ old.journal → DeliversOnce old.journal t
    once t is = let wired : Wired (t ∷ old.journal) = subst Wired is run.wired in wired.1

pub wrong_or : (l : Limits) (w : WorldState) (e : Entry) (place : Option ℕ) (r : Told) → IsLookedUp w.journal w.travels e.delivered place → w.sites ≡ l.sites → (r ≡ Err NotThere) ↔ IsNotThere w.travels e.site place →
    ((at : ℕ) → r ≡ Err (NotRunnable at) → IsWorldStuck w e.site place e.units at) → (r ≡ Err OtherLines → WorldPrintsOthers w e.site place e.units e.lines) →
    IfErr r (λ (x : ReplayRefusal). x ≢ Memory → IsWrong w.program l w.journal (states_of w) e)
wrong_or l w e place (Ok u) looked sites refused stuck other = tt
wrong_or l w e place (Err NotThere) looked sites refused stuck other = λ not. not_there l w e place looked (refused.0 refl)
wrong_or l w e place (Err (NotRunnable at)) looked sites refused stuck other = λ not. stuck_is l w e place at looked sites (stuck at refl)
wrong_or l w e place (Err OtherLines) looked sites refused stuck other = λ not. others_are l w e place looked sites (other refl)
wrong_or l w e place (Err Memory) looked sites refused stuck other = λ not. absurd (not refl)

-- ---- where it stops

pub not_all : (r : ReplayRefusal) (at : ℕ) (m : Made) → Stops r at m → (reason : Option Reason) → m ≡ made.All reason → ⊥
not_all r at m (inl h) reason q = let both : ◌≡◌ {A = Made} made.Memory (made.All reason) = sym h.1 ∙ q in cc
not_all r at m (inr h) reason q = let both : ◌≡◌ {A = Made} (made.Wrong at) (made.All reason) = sym h.1 ∙ q in cc

pub stops_wrong : (r : ReplayRefusal) (at : ℕ) (m : Made) → Stops r at m → (k : ℕ) → m ≡ made.Wrong k → (r ≢ Memory) × (at ≡ k)
stops_wrong r at m (inl h) k q = let both : ◌≡◌ {A = Made} made.Memory (made.Wrong k) = sym h.1 ∙ q in cc
stops_wrong r at m (inr h) k q = let both : ◌≡◌ {A = Made} (made.Wrong at) (made.Wrong k) = sym h.1 ∙ q in (h.0, cc)

-- ---- entries, one after another

-- one more
pub made_next : (p : List Stmt) (l : Limits) (es more : List Entry) (e : Entry) (w v : WorldState) → HasMade p l es w → IsNext l w v e → v.program ≡ w.program → v.sites ≡ w.sites → v.spent ≡ false → more ≡ es ++ e ∷ [] → HasMade p l more v
made_next p l es more e w v h n program sites live is = record {
  program = program ∙ h.program;
  sites = sites ∙ h.sites;
  live = live;
  again = subst (λ (j : List Turn). AreMadeAgain p l j more (states_of v)) (sym n.journal)
      (es, e, states_of w, is, h.again, subst (λ (q : List Stmt). IsMadeAgain q l w.journal (states_of w) e n.turn (states_of v)) h.program n.made);
}

-- nothing ended the run before
pub made_went : (p : List Stmt) (l : Limits) (j : List Turn) (es : List Entry) (w : ℕ → Site) → AreMadeAgain p l j es w → HasNoEarlierEnd l j
made_went p l [] es w h = tt
made_went p l (t ∷ j) es w (front, e, old, is, before, now) = (made_went p l j front old before, now.goes_on)

-- the next one is wrong
pub wrong_next : (p : List Stmt) (l : Limits) (es : List Entry) (at : ℕ) (d : Entry) (w : WorldState) → at < length es → HasMade p l (take at es) w → IsWrong w.program l w.journal (states_of w) (get_or es at d) → IsWrongAt p l es at w.journal
wrong_next p l es at d w inside h wrong = (
  take at es,
  drop (suc at) es,
  get_or es at d,
  states_of w,
  sym (take-append-drop at es) ∙ ap (λ (z : List Entry). take at es ++ z) (drop-cons es at d inside),
  (let long = length-take at es in omega (arith, inside, long)),
  h.again,
  subst (λ (q : List Stmt). IsWrong q l w.journal (states_of w) (get_or es at d)) h.program wrong,
)

-- the run ended before it
pub ended_wrong : (p : List Stmt) (l : Limits) (j : List Turn) (w : ℕ → Site) (e : Entry) (r : Reason) → end_of l j ≡ Some r → IsWrong p l j w e
ended_wrong p l j w e r is = inl (r, is)
