-- Each turn of a run without workers takes a message, makes an own step, or lets a thread wait.
use Rattle.std.proofs.Common.{rules, arith, ◌≡◌, ◌≢◌, ◌∙◌, sym, ap, ap₂, refl, subst, ℕ, zero, suc, ◌+◌, ◌-◌, ◌<◌, ◌≤◌, List, ◌∷◌, length, Bool, true, false, ◌⊎◌, inl, inr, ⊎_elim}
use Rattle.std.specs.Prelude.{Option, Some, None, is_some, nat_lt, min, MatchOption, Contains}
use Rattle.std.proofs.lemmas.Bool.{cases_lt}
use Rattle.kernel_syntax.specs.declared.stmt.Stmt.{Stmt}
use Rattle.site_message.specs.declared.limits.Limits.{Limits}
use Rattle.site_message.specs.declared.message.Sent.{Sent}
use Rattle.site_message.specs.declared.turn.Turn.{Turn}
use Rattle.site_message.specs.Journal.{Wired, IsTravelling, sent_of, travelling, deliveries, delivery_count, AreWithin}
use Rattle.site_message.specs.EarlierEnd.{HasNoEarlierEnd}
use Rattle.site_message.proofs.JournalLemmas.{travelling_tells}
use Rattle.site_message.proofs.TravelLemmas.{messages_add_up}
use Rattle.site_model.specs.Bundle.{bundle_limit}
use Rattle.site_model.specs.Site.{Site, is_idle}
use Rattle.site_model.specs.Run.{WorldRun, delivered_message}
use Rattle.site_model.specs.Turn.{IsFullTurn}
use Rattle.world_model.specs.Schedule.{sum_to}
use Rattle.world_core.specs.declared.travel.Travel.{Travel}
use Rattle.world_core.specs.Travels.{IsNumberAt}
use Rattle.world_core.specs.World.{WorldState, IsWorldTurn, states_of}
use Rattle.plain_run.specs.Counts.{runnable_count}
use Rattle.plain_run.specs.declared.order.Choice.{Choice}
use Rattle.plain_run.specs.Order.{CanBeMade, units_of}
use Rattle.plain_run.specs.Progress.{IsGoing, IsLimitedTurn, IsAtEase, IsFirstBusy, IsNextBusy, IsProgress, turns_left, steps_left}
use Rattle.plain_run.specs.Rounds.{ComesBefore}
use Rattle.plain_run.proofs.StepLemmas.{turn_steps, turn_goes_on}

is_none : (place : Option ℕ) → is_some place ≡ false → place ≡ None
is_none None e = refl
is_none (Some q) e = cc

-- ---- sums

pub sum_fewer : (n : ℕ) (f g : ℕ → ℕ) → ((i : ℕ) → 1 ≤ i → i ≤ n → g i ≤ f i) → sum_to n g ≤ sum_to n f
sum_fewer zero f g h = omega arith
sum_fewer (suc n) f g h =
    let rest = sum_fewer n f g (λ i low high. h i low (omega arith)) in
    let last = h (suc n) (omega arith) (omega arith) in
    omega arith

sum_falls : (n k : ℕ) (f g : ℕ → ℕ) → 1 ≤ k → k ≤ n → g k < f k → ((i : ℕ) → 1 ≤ i → i ≤ n → g i ≤ f i) → sum_to n g < sum_to n f
sum_falls zero k f g low high less h = absurd (omega arith)
sum_falls (suc n) k f g low high less h = by (last_or k) (λ inside. sum_falls n k f g low inside less (λ i a b. h i a (omega arith))) (sum_fewer n f g (λ i a b. h i a (omega arith))) (h (suc n) (omega arith) (omega arith))
  where
    last_or : (k : ℕ) → (k ≡ suc n) ⊎ (k ≢ suc n)
    last_or k = search rules

    by : (k ≡ suc n) ⊎ (k ≢ suc n) → (k ≤ n → sum_to n g < sum_to n f) → sum_to n g ≤ sum_to n f → g (suc n) ≤ f (suc n) → sum_to n g + g (suc n) < sum_to n f + f (suc n)
    by (inl same) rest all last = let here : g (suc n) < f (suc n) = subst (λ (x : ℕ). g x < f x) same less in omega arith
    by (inr other) rest all last = let before = rest (omega arith) in omega arith

pub sum_same : (n : ℕ) (f g : ℕ → ℕ) → ((i : ℕ) → g i ≡ f i) → sum_to n g ≡ sum_to n f
sum_same zero f g h = refl
sum_same (suc n) f g h = let rest = sum_same n f g h in let last = h (suc n) in omega arith

-- ---- messages

some_length : (xs : List (ℕ × Sent)) (x : ℕ × Sent) → Contains xs x → 1 ≤ length xs
some_length xs x (k, inside, is) = omega arith

-- what travels was not delivered, so fewer were than were sent
pub fewer_delivered : (j : List Turn) (k : ℕ) (m : Sent) → Wired j → IsTravelling j k m → deliveries j < length (sent_of j)
fewer_delivered j k m wired at =
    let some = some_length (travelling j) (k, m) ((travelling_tells j k m).1 at) in
    let all = messages_add_up j wired in
    omega arith

delivered_some : (ts : List Travel) (site : ℕ) (place d : Option ℕ) → IsNumberAt ts site place d → is_some place ≡ true → (k : ℕ) × (d ≡ Some k)
delivered_some ts site None d h e = cc
delivered_some ts site (Some p) d (k, at, is) e = (k, is)

delivered_none : (ts : List Travel) (site : ℕ) (place d : Option ℕ) → IsNumberAt ts site place d → is_some place ≡ false → d ≡ None
delivered_none ts site None d h e = h
delivered_none ts site (Some p) d h e = cc

-- ---- a turn

-- a turn of as many units as were chosen
pub as_chosen : (l : Limits) (old new : WorldState) (c : Choice) (quantum steps most : ℕ) → quantum ≡ min (l.steps - steps) most → steps ≡ (states_of old c.site).steps → most ≡ c.units
    → IsWorldTurn old new c.site c.place quantum → IsWorldTurn old new c.site c.place (units_of l old c)
as_chosen l old new c quantum steps most is own chosen t = subst (IsWorldTurn old new c.site c.place) (is ∙ ap₂ min (ap (λ (k : ℕ). l.steps - k) own) chosen) t

module _ (l : Limits) (p : List Stmt) (old new : WorldState) (c : Choice) (going : IsGoing l p old) (can : CanBeMade l old c)
    (t : IsWorldTurn old new c.site c.place (units_of l old c)) (run : WorldRun new.program new.sites bundle_limit new.journal (states_of new)) where
  abbrev site : ℕ
  site = c.site

  abbrev quantum : ℕ
  quantum = units_of l old c

  low : 1 ≤ site
  low = can.some

  high : site ≤ l.sites
  high = can.among

  either_site : (i : ℕ) → (i ≡ site) ⊎ (i ≢ site)
  either_site i = search rules

  here_steps : (states_of old site).steps ≤ (states_of new site).steps
  here_steps =
      let h = turn_steps old.program old.sites bundle_limit quantum (states_of old site) (delivered_message old.journal t.entry.delivered) t.turn.0 (t.entry.units, t.turn.1.0, t.turn.1.1, t.turn.1.2) in
      let is : (states_of new site).steps ≡ t.turn.0.site.steps = ap (λ (s : Site). s.steps) t.turn.3 in
      omega (arith, h, is)

  here_within : (states_of new site).steps ≤ l.steps
  here_within = let few = t.few in let was = going.within site in omega arith

  all_steps : (i : ℕ) → (states_of old i).steps ≤ (states_of new i).steps
  all_steps i = by (either_site i)
    where
      by : (i ≡ site) ⊎ (i ≢ site) → (states_of old i).steps ≤ (states_of new i).steps
      by (inl same) = subst (λ (x : ℕ). (states_of old x).steps ≤ (states_of new x).steps) (sym same) here_steps
      by (inr other) = let e : (states_of new i).steps ≡ (states_of old i).steps = ap (λ (s : Site). s.steps) (t.others i other) in omega (arith, e)

  fewer_left : (i : ℕ) → 1 ≤ i → i ≤ l.sites → steps_left l new i ≤ steps_left l old i
  fewer_left i a b = let more = all_steps i in omega (arith, more)

  grown : deliveries new.journal ≡ delivery_count t.entry.delivered + deliveries old.journal
  grown = ap deliveries t.journal

  -- the entry tells the own steps of the site
  entry_steps : t.entry.steps ≡ (states_of new site).steps
  entry_steps = t.turn.2.steps ∙ ap (λ (s : Site). s.steps) (sym t.turn.3)

  -- each site keeps within its limit of own steps, and is idle where it is there
  pub made : new.program ≡ old.program → new.sites ≡ old.sites → new.spent ≡ false → IsLimitedTurn l p old new site
  made program sites live = record {
    entry = t.entry;
    journal = t.journal;
    at = t.site_is;
    steps = entry_steps;
    rests = t.turn.2.idle ∙ ap is_idle (sym t.turn.3);
    program = program ∙ going.program;
    sites = sites ∙ going.sites;
    live = live;
    run = run;
    within = λ i. by i (either_site i);
    kept = subst (AreWithin l) (sym t.journal) (subst (λ n. n ≤ l.steps) (sym entry_steps) here_within, going.kept);
    idle = λ i other full. idle i (t.others i (λ (e : i ≡ site). other (t.site_is ∙ sym e))) full;
    went = subst (HasNoEarlierEnd l) (sym t.journal) (going.went, going.goes_on);
  }
    where
      by : (i : ℕ) → (i ≡ site) ⊎ (i ≢ site) → (states_of new i).steps ≤ l.steps
      by i (inl same) = subst (λ (x : ℕ). (states_of new x).steps ≤ l.steps) (sym same) here_within
      by i (inr other) = subst (λ (s : Site). s.steps ≤ l.steps) (sym (t.others i other)) (going.within i)

      idle : (i : ℕ) → states_of new i ≡ states_of old i → (states_of new i).steps ≡ l.steps → is_idle (states_of new i) ≡ true
      idle i same full = subst (λ (s : Site). is_idle s ≡ true) (sym same) (going.idle i (ap (λ (s : Site). s.steps) (sym same) ∙ full))

  -- it took a message
  pub took : is_some c.place ≡ true → turns_left l new < turns_left l old
  took some =
      let d = delivered_some old.travels site c.place t.entry.delivered t.delivered some in
      let wired : Wired (t.entry ∷ old.journal) = subst Wired t.journal run.wired in
      let m = wired.1 d.0 d.1 in
      let fewer = fewer_delivered old.journal d.0 m.0 wired.0 m.1 in
      let one : deliveries new.journal ≡ 1 + deliveries old.journal = grown ∙ ap (λ (o : Option ℕ). delivery_count o + deliveries old.journal) d.1 in
      let steps = sum_fewer l.sites (steps_left l old) (steps_left l new) fewer_left in
      let few = going.few in
      omega (arith, fewer, one, steps, few)

  -- it made an own step
  stepped : deliveries new.journal ≡ deliveries old.journal → (states_of old site).steps < (states_of new site).steps → turns_left l new < turns_left l old
  stepped same more =
      let within = here_within in
      let here : steps_left l new site < steps_left l old site = omega (arith, within, more) in
      let steps = sum_falls l.sites site (steps_left l old) (steps_left l new) low high here fewer_left in
      omega (arith, same, steps)

  -- or it let a thread wait
  waited : deliveries new.journal ≡ deliveries old.journal → (states_of new site).steps ≡ (states_of old site).steps → runnable_count (states_of new site) < runnable_count (states_of old site) → IsProgress l old new false
  waited same steps less = (
    (let all = sum_same l.sites (steps_left l old) (steps_left l new) all_left in omega (arith, same, all)),
    sum_falls l.sites site (λ i. runnable_count (states_of old i)) (λ i. runnable_count (states_of new i)) low high less (λ i a b. fewer i),
  )
    where
      all_left : (i : ℕ) → steps_left l new i ≡ steps_left l old i
      all_left i = by (either_site i)
        where
          by : (i ≡ site) ⊎ (i ≢ site) → steps_left l new i ≡ steps_left l old i
          by (inl is) = subst (λ (x : ℕ). steps_left l new x ≡ steps_left l old x) (sym is) (ap (λ (k : ℕ). l.steps - k) steps)
          by (inr other) = ap (λ (s : Site). l.steps - s.steps) (t.others i other)

      fewer : (i : ℕ) → runnable_count (states_of new i) ≤ runnable_count (states_of old i)
      fewer i = by (either_site i)
        where
          by : (i ≡ site) ⊎ (i ≢ site) → runnable_count (states_of new i) ≤ runnable_count (states_of old i)
          by (inl is) = subst (λ (x : ℕ). runnable_count (states_of new x) ≤ runnable_count (states_of old x)) (sym is) (omega (arith, less))
          by (inr other) = let e : runnable_count (states_of new i) ≡ runnable_count (states_of old i) = ap runnable_count (t.others i other) in omega (arith, e)

  -- a turn without a message
  pub went : is_some c.place ≡ false → IsProgress l old new (nat_lt (states_of old site).steps (states_of new site).steps)
  went none = by (nat_lt (states_of old site).steps (states_of new site).steps) refl
    where
      busy : is_idle (states_of old site) ≡ false
      busy = can.busy (is_none c.place none)

      nothing : t.entry.delivered ≡ None
      nothing = delivered_none old.travels site c.place t.entry.delivered t.delivered none

      same : deliveries new.journal ≡ deliveries old.journal
      same = grown ∙ ap (λ (o : Option ℕ). delivery_count o + deliveries old.journal) nothing ∙ (omega arith)

      full : IsFullTurn old.program old.sites bundle_limit quantum (states_of old site) None t.turn.0
      full = subst (λ (o : Option ℕ). IsFullTurn old.program old.sites bundle_limit quantum (states_of old site) (delivered_message old.journal o) t.turn.0) nothing (t.entry.units, t.turn.1.0, t.turn.1.1, t.turn.1.2)

      some : 1 ≤ quantum
      some = above (at_limit (states_of old site).steps)
        where
          at_limit : (k : ℕ) → (k ≡ l.steps) ⊎ (k ≢ l.steps)
          at_limit k = search rules

          above : ((states_of old site).steps ≡ l.steps) ⊎ ((states_of old site).steps ≢ l.steps) → 1 ≤ quantum
          above (inl is) = let no : false ≡ true = sym busy ∙ going.idle site is in cc
          above (inr other) = let was = going.within site in let some = can.units.0 in omega (arith, was, other, some)

      goes : ((states_of old site).steps < (states_of new site).steps) ⊎ (((states_of new site).steps ≡ (states_of old site).steps) × (runnable_count (states_of new site) < runnable_count (states_of old site)))
      goes = subst (λ (s : Site). ((states_of old site).steps < s.steps) ⊎ ((s.steps ≡ (states_of old site).steps) × (runnable_count s < runnable_count (states_of old site)))) (sym t.turn.3)
          (turn_goes_on old.program old.sites bundle_limit quantum (states_of old site) t.turn.0 some busy full)

      by : (b : Bool) → nat_lt (states_of old site).steps (states_of new site).steps ≡ b → IsProgress l old new b
      by true e = let more : (states_of old site).steps < (states_of new site).steps = search rules in stepped same more
      by false e =
          let no : (states_of new site).steps ≤ (states_of old site).steps = search rules in
          ⊎_elim
          (λ (a : (states_of old site).steps < (states_of new site).steps). absurd (omega (arith, a, no)))
          (λ (b : ((states_of new site).steps ≡ (states_of old site).steps) × (runnable_count (states_of new site) < runnable_count (states_of old site))). waited same b.0 b.1)
          goes

-- ---- which site goes next

-- a busy site behind the last one comes before the others
pub next_behind : (w : WorldState) (last sites i : ℕ) → IsFirstBusy w (last + 1) (sites + 1) i → IsNextBusy w sites last i
next_behind w last sites i (low, high, busy, before) = (omega arith, omega arith, busy, λ k a b comes. by k comes)
  where
    by : (k : ℕ) → ComesBefore last k i → IsAtEase w k
    by k (inl (far, inl c)) = before k (omega arith) c
    by k (inl (far, inr c)) = absurd (omega arith)
    by k (inr (near, c, d)) = absurd (omega arith)

-- the sites behind the last one, and then the others
pub rounds : (w : WorldState) (last sites : ℕ) (r : Option ℕ) → last ≤ sites → ((i : ℕ) → last + 1 ≤ i → i < sites + 1 → IsAtEase w i) → MatchOption r ((i : ℕ) → 1 ≤ i → i < last + 1 → IsAtEase w i) (λ i. IsFirstBusy w 1 (last + 1) i) →
    MatchOption r ((i : ℕ) → 1 ≤ i → i ≤ sites → IsAtEase w i) (λ i. IsNextBusy w sites last i)
rounds w last sites None low behind before = λ i a b. by i a b (cases_lt i (last + 1))
  where
    by : (i : ℕ) → 1 ≤ i → i ≤ sites → (i < last + 1) ⊎ (last + 1 ≤ i) → IsAtEase w i
    by i a b (inl c) = before i a c
    by i a b (inr c) = behind i c (omega arith)
rounds w last sites (Some i) low behind (a, b, busy, before) = (a, omega arith, busy, λ k one most comes. by k one most comes)
  where
    by : (k : ℕ) → 1 ≤ k → k ≤ sites → ComesBefore last k i → IsAtEase w k
    by k one most (inl (far, c)) = behind k (omega arith) (omega arith)
    by k one most (inr (near, c, d)) = before k one d

pub ease_more : (w : WorldState) (from site : ℕ) → ((i : ℕ) → from ≤ i → i < site → IsAtEase w i) → IsAtEase w site → (i : ℕ) → from ≤ i → i < site + 1 → IsAtEase w i
ease_more w from site before here i a b = by (cases_lt i site)
  where
    by : (i < site) ⊎ (site ≤ i) → IsAtEase w i
    by (inl c) = before i a c
    by (inr c) = let same : site ≡ i = omega arith in subst (IsAtEase w) same here
