-- What the sites told last, and that it is less than 2^64 where the schedule fits memory.
use Rattle.std.proofs.Common.{arith, ◌≡◌, ◌≢◌, ◌∙◌, sym, ap, refl, subst, ℕ, zero, suc, ◌+◌, ◌<◌, ◌≤◌, List, [], ◌∷◌, ◌++◌, length, length-append, take, get_or, replicate, Bool, true, false, cond, ◌⊎◌, inl, inr}
use Rattle.std.specs.Prelude.{Option, Some, None, ◌==◌, reverse}
use Rattle.std.proofs.lemmas.Bool.{cases_lt}
use Rattle.std.proofs.lemmas.Grind.{common_steps}
use Rattle.tree_node.specs.declared.names.ThreadName.{ThreadName}
use Rattle.tree_node.specs.declared.pick.Pick.{Pick}
use Rattle.tree_node.specs.Assoc.{with_value, without_key, with_optional_value}
use Rattle.tree_node.specs.State.{Stack, State, equal_thread}
use Rattle.kernel_syntax.specs.declared.stmt.Stmt.{Stmt}
use Rattle.kernel_syntax.specs.Program.{IsProgram}
use Rattle.site_message.specs.declared.turn.Turn.{Turn}
use Rattle.oz_model.specs.Effect.{Birth}
use Rattle.oz_model.specs.Run.{IsRun, start}
use Rattle.oz_model.specs.Step.{end_count, effect_of, threads_born, living_stack, stack_left}
use Rattle.thread_roster.specs.Threads.{waiting_of}
use Rattle.site_model.specs.Bundle.{bundle_limit}
use Rattle.site_model.specs.Site.{Site, runnable_threads, waiting_count}
use Rattle.site_model.specs.Run.{SiteRun, IsReachedBy, IsEntry}
use Rattle.world_model.specs.Schedule.{schedule, sum_to}
use Rattle.world_model.specs.Simulated.{last_ended, last_waiting}
use Rattle.world_core.specs.Laws.{HasRun, AreMessagesFew}
use Rattle.world_core.proofs.WorldLemmas.{machine, were_fit, messages_few}
use Rattle.plain_run.specs.Simulated.{HasMachineRun}
use Rattle.plain_run.proofs.ProgressLemmas.{sum_fewer, sum_same}
use Rattle.plain_run.proofs.StepLemmas.{waiting_fit}

-- ---- the centralised machine

end_fits : (st : Stack) → end_count st ≤ 1
end_fits [] = omega arith
end_fits (i ∷ is) = omega arith

born_fits : (p : List Stmt) (b : Option Birth) → length (threads_born p b) ≤ 1
born_fits p None = omega arith
born_fits p (Some b) = omega arith

value_fits : (es : List (ThreadName × Stack)) (n : ThreadName) (v : Stack) → length (with_value equal_thread es n v) ≡ length es
value_fits [] n v = refl
value_fits (e ∷ es) n v = by (equal_thread e.0 n) (value_fits es n v)
  where
    by : (b : Bool) → length (with_value equal_thread es n v) ≡ length es → length (cond b ((n, v) ∷ es) (e ∷ with_value equal_thread es n v)) ≡ length (e ∷ es)
    by true h = omega arith
    by false h = omega arith

key_fits : (es : List (ThreadName × Stack)) (n : ThreadName) → length (without_key equal_thread es n) ≤ length es
key_fits [] n = omega arith
key_fits (e ∷ es) n = by (equal_thread e.0 n) (key_fits es n)
  where
    by : (b : Bool) → length (without_key equal_thread es n) ≤ length es → length (cond b (without_key equal_thread es n) (e ∷ without_key equal_thread es n)) ≤ length (e ∷ es)
    by true h = omega arith
    by false h = omega arith

optional_fits : (es : List (ThreadName × Stack)) (n : ThreadName) (o : Option Stack) → length (with_optional_value equal_thread es n o) ≤ length es
optional_fits es n None = key_fits es n
optional_fits es n (Some v) = let e = value_fits es n v in omega arith

-- each step ends one thread at most, and one begins at most
run_fits : (p : List Stmt) (ks : List Pick) (s t : State) → IsRun p s ks t → (t.ended ≤ s.ended + length ks) × (length t.threads ≤ length s.threads + length ks)
run_fits p [] s t is =
    let ended : t.ended ≡ s.ended = ap (λ (x : State). x.ended) is in
    let threads : length t.threads ≡ length s.threads = ap (λ (x : State). length x.threads) is in
    (omega arith, omega arith)
run_fits p (k ∷ ks) s t (m, step, rest) =
    let ih = run_fits p ks m t rest in
    let later_ended = ih.0 in
    let later_threads = ih.1 in
    let stack = stack_left s (effect_of p s k) in
    let ended : m.ended ≡ s.ended + end_count stack = ap (λ (x : State). x.ended) step.1 in
    let one = end_fits stack in
    let old = with_optional_value equal_thread s.threads k.thread (living_stack stack) in
    let born = threads_born p (effect_of p s k).born in
    let threads : length m.threads ≡ length (born ++ old) = ap (λ (x : State). length x.threads) step.1 in
    let both = length-append born old in
    let first = born_fits p (effect_of p s k).born in
    let others = optional_fits s.threads k.thread (living_stack stack) in
    (omega arith, omega arith)

-- ---- what the sites told last

told_last : (p : List Stmt) (n limit i : ℕ) (j : List Turn) (s : Site) → SiteRun p n limit i j s → (s.ended ≡ last_ended j i) × (waiting_count s ≡ last_waiting j i)
told_last p n limit i [] s run = (ap (λ (t : Site). t.ended) run, ap waiting_count run ∙ go (i == 1))
  where
    go : (b : Bool) → waiting_of (cond b (runnable_threads (start p).threads) []) ≡ 0
    go true = refl
    go false = refl
told_last p n limit i (e ∷ j) s run = by (e.site == i) run (λ q. told_last p n limit i j s q)
  where
    one : (old : Site) → IsEntry p n limit j e old s → (s.ended ≡ e.ended) × (waiting_count s ≡ e.waiting)
    one old (d, turn, tells, is) = (ap (λ (t : Site). t.ended) is ∙ sym tells.ended, ap waiting_count is ∙ sym tells.waiting)

    by : (b : Bool) → IsReachedBy b (λ old. SiteRun p n limit i j old) (λ old new. IsEntry p n limit j e old new) s → (SiteRun p n limit i j s → (s.ended ≡ last_ended j i) × (waiting_count s ≡ last_waiting j i)) →
        (s.ended ≡ cond b e.ended (last_ended j i)) × (waiting_count s ≡ cond b e.waiting (last_waiting j i))
    by false run ih = ih run
    by true (old, before, entry) ih = one old entry

-- no more than the picks, and one
pub totals_fit : (p : List Stmt) (n : ℕ) (j : List Turn) → IsProgram p → 1 ≤ n → n ≤ 64 → HasRun p n j → (sum_to n (last_ended j) ≤ length (schedule j)) × (sum_to n (last_waiting j) ≤ length (schedule j) + 1)
totals_fit p n j is low high (w, run) =
    let h = machine p n j w is low high run in
    let fits = run_fits p (schedule j) (start p) h.0 h.1.run in
    let totals = h.1.matches.totals in
    let told : (i : ℕ) → ((w i).ended ≡ last_ended j i) × (waiting_count (w i) ≡ last_waiting j i) = λ i. told_last p n bundle_limit i j (w i) (run.runs i) in
    let ended : sum_to n (last_ended j) ≡ sum_to n (λ i. (w i).ended) = sum_same n (λ i. (w i).ended) (last_ended j) (λ i. sym (told i).0) in
    let waiting : sum_to n (last_waiting j) ≤ sum_to n (λ i. length (w i).threads) = sum_fewer n (λ i. length (w i).threads) (last_waiting j) (λ i a b. (let t = (told i).1 in let f = waiting_fit (w i).threads in omega (arith, t, f))) in
    let all_ended : h.0.ended ≡ sum_to n (λ i. (w i).ended) = totals.all_ended in
    let all_living = totals.all_living in
    let most_ended = fits.0 in
    let most_living = fits.1 in
    (omega (arith, ended, all_ended, most_ended), omega (arith, waiting, all_living, most_living))

-- ---- the table of what was told

pub zeros : (n i : ℕ) → ◌≡◌ {A = ℕ × ℕ} (get_or (replicate n (0, 0)) i (0, 0)) (0, 0)
zeros zero i = refl
zeros (suc n) zero = refl
zeros (suc n) (suc i) = zeros n i

abbrev pub IsTable : List (ℕ × ℕ) → List Turn → Type 0
IsTable told j = (i : ℕ) → i ≤ 64 → ◌≡◌ {A = ℕ × ℕ} (get_or told i (0, 0)) (last_ended j i, last_waiting j i)

-- the whole journal
pub table_whole : (told : List (ℕ × ℕ)) (xs : List Turn) (k : ℕ) (j : List Turn) → length xs ≤ k → reverse xs ≡ j → IsTable told (reverse (take k xs)) → IsTable told j
table_whole told xs k j past is table = subst (IsTable told) is (subst (λ (l : List Turn). IsTable told (reverse l)) (all xs k past) table)
  where
    all : (l : List Turn) (m : ℕ) → length l ≤ m → take m l ≡ l
    all l m h = grind (arith, common_steps)

-- ---- sums

pub sum_next : (site k a b : ℕ) (f : ℕ → ℕ) → 1 ≤ site → site + 1 ≡ k + 1 → ((m : ℕ) → site ≡ m + 1 → a ≡ sum_to m f) → b ≡ f site → a + b ≡ sum_to k f
sum_next zero k a b f low at before last = absurd (omega arith)
sum_next (suc m) k a b f low at before last =
    let same : k ≡ suc m = omega arith in
    let first = before m (omega arith) in
    subst (λ (x : ℕ). a + b ≡ sum_to x f) (sym same) (omega (arith, first, last))

-- a part of a sum is no more than all
part_fits : (m n : ℕ) (f : ℕ → ℕ) → m ≤ n → sum_to m f ≤ sum_to n f
part_fits m zero f h = let none : m ≡ 0 = omega arith in rw none (omega arith)
part_fits m (suc n) f h = by (cases_lt n m) (λ low. part_fits m n f low)
  where
    by : (n < m) ⊎ (m ≤ n) → (m ≤ n → sum_to m f ≤ sum_to n f) → sum_to m f ≤ sum_to n f + f (suc n)
    by (inl a) ih = let same : m ≡ suc n = omega arith in subst (λ (x : ℕ). sum_to x f ≤ sum_to n f + f (suc n)) (sym same) (omega arith)
    by (inr b) ih = let rest = ih b in omega arith

pub sum_fits : (site n a b bound : ℕ) (f : ℕ → ℕ) → 1 ≤ site → site ≤ n → ((m : ℕ) → site ≡ m + 1 → a ≡ sum_to m f) → b ≡ f site → sum_to n f < bound → a + b < bound
sum_fits site n a b bound f low high before last most =
    let sum = sum_next site site a b f low refl before last in
    let part = part_fits site n f high in
    omega arith

-- ---- a run without turns, and what the laws say of any

module _ (p : List Stmt) (n : ℕ) (j : List Turn) (is : IsProgram p) (low : 1 ≤ n) (high : n ≤ 64) (run : HasRun p n j) where
  pub machine_run : HasMachineRun p n j
  machine_run = (run.0, run.1, machine p n j run.0 is low high run.1, were_fit p n j run.0 is low high run.1)

  pub few_of : AreMessagesFew p n j
  few_of = messages_few p n j run.0 is low high run.1
