-- The whole simulation: lines and totals among it.
use Rattle.std.proofs.Common.{arith, ◌≡◌, ◌∙◌, sym, ap, refl, subst, ℕ, zero, suc, ◌+◌, ◌≤◌, List, [], ◌∷◌, ◌⊎◌, inl, inr, Bool, true, false, cond, Some, length}
use Rattle.std.specs.Prelude.{◌==◌, not, IsTrue}
use Rattle.std.specs.List.{filter}
use Rattle.tree_node.specs.declared.names.ThreadName.{ThreadName}
use Rattle.tree_node.specs.Assoc.{value_of}
use Rattle.tree_node.specs.Each.{Each}
use Rattle.tree_node.specs.State.{equal_thread}
use Rattle.kernel_syntax.specs.declared.stmt.Stmt.{Stmt}
use Rattle.site_message.specs.declared.turn.Turn.{Turn}
use Rattle.site_message.specs.Journal.{is_quiet, travelling}
use Rattle.site_message.specs.Journal as journal
use Rattle.site_message.proofs.JournalLemmas.{quiet_tells}
use Rattle.oz_model.specs.Run.{start}
use Rattle.oz_model.proofs.OnceLemmas.{runs_are_once}
use Rattle.site_model.specs.Site.{Site, ThreadState, is_idle, waiting_count, runnable_threads}
use Rattle.site_model.specs.Run.{IsReachedBy, IsSiteIn}
use Rattle.site_model.specs.Run as Run
use Rattle.world_model.specs.Schedule.{schedule, sum_to}
use Rattle.world_answers.specs.FitRuns.{IsFitEntry, SiteFitRun}
use Rattle.world_model.specs.World.{Sites, world_of}
use Rattle.world_model.specs.Matches.{Totals, ended, living, spawn_count}
use Rattle.world_model.specs.Simulated.{last_ended, last_waiting, IsSimulated}
use Rattle.world_answers.specs.FitRuns.{FitRunsAreSimulated}
use Rattle.world_model.proofs.PutLemmas.{nat_decides}
use Rattle.world_variables.proofs.QuietLemmas.{waits}
use Rattle.world_variables.proofs.LivingLemmas.{travelling_once}
use Rattle.world_answers.proofs.LivingLemmas.{living_joined}
use Rattle.world_answers.specs.Joined.{Joined}
use Rattle.oz_model.proofs.SoundLemmas.{runs_are_sound}
use Rattle.oz_model.proofs.CellLemmas.{cells_are_chains}
use Rattle.oz_model.proofs.PortLemmas.{ports_are_chains}
use Rattle.oz_model.proofs.SendLemmas.{sends_are_in_order}
use Rattle.world_answers.proofs.JournalLemmas.{journal_paid}
use Rattle.world_answers.proofs.EndLemmas.{no_site, quiet_mail, rests}
use Rattle.world_variables.proofs.SumLemmas.{in_or}

-- a site that is none of the world's has ended no thread
no_ended : (p : List Stmt) (n limit i : ℕ) (j : List Turn) (s : Site) → Each (IsSiteIn n) j → ((1 ≤ i) × (i ≤ n) → ⊥) → SiteFitRun p n limit i j s → s.ended ≡ 0
no_ended p n limit i [] s inside out run = ap (λ (t : Site). t.ended) run
no_ended p n limit i (e ∷ j) s inside out run = go (e.site == i) refl run (λ q. no_ended p n limit i j s inside.1 out q)
  where
    go : (b : Bool) → (e.site == i) ≡ b → IsReachedBy b (λ old. SiteFitRun p n limit i j old) (λ old new. IsFitEntry p n limit j e old new) s → (SiteFitRun p n limit i j s → s.ended ≡ 0) → s.ended ≡ 0
    go true q run ih = let same : e.site ≡ i = (nat_decides e.site i).0 q in absurd (out (subst (λ (k : ℕ). (1 ≤ k) × (k ≤ n)) same inside.0))
    go false q run ih = ih run

-- a site that is idle by its last turn is idle
idle_now : (p : List Stmt) (n limit i : ℕ) (j : List Turn) (s : Site) → SiteFitRun p n limit i j s → journal.is_idle j i ≡ true → is_idle s ≡ true
idle_now p n limit i [] s run idle = subst (λ (t : Site). is_idle t ≡ true) (sym run) (go (i == 1) idle)
  where
    go : (b : Bool) → not b ≡ true → (length (filter waits (cond b (runnable_threads (start p).threads) [])) == length (cond b (runnable_threads (start p).threads) [])) ≡ true
    go true k = cc
    go false k = refl
idle_now p n limit i (e ∷ j) s run idle = go (e.site == i) run idle (λ q k. idle_now p n limit i j s q k)
  where
    go : (b : Bool) → IsReachedBy b (λ old. SiteFitRun p n limit i j old) (λ old new. IsFitEntry p n limit j e old new) s → cond b e.idle (journal.is_idle j i) ≡ true → (SiteFitRun p n limit i j s → journal.is_idle j i ≡ true → is_idle s ≡ true) → is_idle s ≡ true
    go false run idle ih = ih run idle
    go true (old, before, entry) idle ih = one entry.turn
      where
        one : Run.IsEntry p n limit j e old s → is_idle s ≡ true
        one (d, turn, tells, is) = ap is_idle is ∙ sym tells.idle ∙ idle

-- the last turn of a site told its totals
told_is : (p : List Stmt) (n limit i : ℕ) (j : List Turn) (s : Site) → SiteFitRun p n limit i j s → (s.ended ≡ last_ended j i) × (waiting_count s ≡ last_waiting j i)
told_is p n limit i [] s run = (ap (λ (t : Site). t.ended) run, ap waiting_count run ∙ go (i == 1))
  where
    go : (b : Bool) → length (filter waits (cond b (runnable_threads (start p).threads) [])) ≡ 0
    go true = refl
    go false = refl
told_is p n limit i (e ∷ j) s run = go (e.site == i) run (λ q. told_is p n limit i j s q)
  where
    go : (b : Bool) → IsReachedBy b (λ old. SiteFitRun p n limit i j old) (λ old new. IsFitEntry p n limit j e old new) s → (SiteFitRun p n limit i j s → (s.ended ≡ last_ended j i) × (waiting_count s ≡ last_waiting j i)) →
        (s.ended ≡ cond b e.ended (last_ended j i)) × (waiting_count s ≡ cond b e.waiting (last_waiting j i))
    go false run ih = ih run
    go true (old, before, entry) ih = one entry.turn
      where
        one : Run.IsEntry p n limit j e old s → (s.ended ≡ e.ended) × (waiting_count s ≡ e.waiting)
        one (d, turn, tells, is) = (ap (λ (t : Site). t.ended) is ∙ sym tells.ended, ap waiting_count is ∙ sym tells.waiting)

sum_same : (n : ℕ) (g h : ℕ → ℕ) → ((i : ℕ) → 1 ≤ i → i ≤ n → g i ≡ h i) → sum_to n g ≡ sum_to n h
sum_same zero g h e = refl
sum_same (suc n) g h e =
    let ih : sum_to n g ≡ sum_to n h = sum_same n g h (λ i low high. e i low (omega (arith, high))) in
    let last : g (suc n) ≡ h (suc n) = e (suc n) (omega arith) (omega arith) in
    omega (arith, ih, last)

module _ (p : List Stmt) (n limit : ℕ) (j : List Turn) (f : Sites) (some : 1 ≤ n) (inside : Each (IsSiteIn n) j) (runs : (i : ℕ) → SiteFitRun p n limit i j (f i)) (r : Joined p (world_of j f) (schedule j)) where
  totals : Totals n (ended f) (living f) (travelling j) r.reached.centre
  totals = record {
    all_ended = r.reached.sums.all_ended n (λ i out. no_ended p n limit i j (f i) inside out (runs i));
    all_living = living_joined p n (world_of j f) r.transit r.reached.centre r.reached.parts.placed r.answers (λ i z v h. go i z v h (in_or i n)) (runs_are_once p (schedule j) r.reached.centre r.reached.run).threads r.once (travelling_once j);
  }
    where
      go : (i : ℕ) (z : ThreadName) (v : ThreadState) → value_of equal_thread (f i).threads z ≡ Some v → ((1 ≤ i) × (i ≤ n)) ⊎ (((1 ≤ i) × (i ≤ n)) → ⊥) → (1 ≤ i) × (i ≤ n)
      go i z v h (inl q) = q
      go i z v h (inr out) = absurd (no_site p n limit i j (f i) some inside out (runs i) z v h)

  all_wait : IsTrue (is_quiet n j) → length r.reached.centre.threads ≡ sum_to n (λ (i : ℕ). waiting_count (f i))
  all_wait q =
      let none : spawn_count (travelling j) ≡ 0 = ap spawn_count (quiet_mail n j q) in
      let all : length r.reached.centre.threads ≡ sum_to n (living f) + spawn_count (travelling j) = totals.all_living in
      let same : sum_to n (λ (i : ℕ). waiting_count (f i)) ≡ sum_to n (living f) = sum_same n (λ (i : ℕ). waiting_count (f i)) (living f) (λ i low high. (nat_decides (waiting_count (f i)) (length (f i).threads)).0 (idle_now p n limit i j (f i) (runs i) (((quiet_tells n j).0 q).1 i low high))) in
      omega (arith, none, all, same)

  pub simulated : IsSimulated p n j f r.reached.centre
  simulated = record {
    run = r.reached.run;
    transit = r.transit;
    matches = record { parts = r.reached.parts; numbered = r.reached.numbers; totals = totals; lines = r.reached.sums.printed };
    cells = r.reached.cells;
    answers = r.answers;
    sound = runs_are_sound p (schedule j) r.reached.centre r.reached.run;
    once = r.reached.parts.knowledge.one;
    chains = λ c. cells_are_chains p (schedule j) r.reached.centre c r.reached.run;
    sends = λ q. ports_are_chains p (schedule j) r.reached.centre q r.reached.run;
    ordered = λ q m. sends_are_in_order p (schedule j) q m;
    quiet = λ q. record { rest = rests p n limit j f some inside runs r q; ended = totals.all_ended; living = all_wait q };
    told = λ q. record {
      ended = totals.all_ended ∙ sum_same n (ended f) (last_ended j) (λ i low high. (told_is p n limit i j (f i) (runs i)).0);
      living = all_wait q ∙ sum_same n (λ (i : ℕ). waiting_count (f i)) (last_waiting j) (λ i low high. (told_is p n limit i j (f i) (runs i)).1);
    };
  }

pub fit_runs_are_simulated : FitRunsAreSimulated
fit_runs_are_simulated p n limit j f some wired inside runs =
    let r = (journal_paid p n limit j f wired inside runs).joined in
    (r.reached.centre, simulated p n limit j f some inside runs r)
