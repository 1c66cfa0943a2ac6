-- Values by key, and threads that go on by a bind.
use Rattle.std.proofs.Common.{◌≡◌, ◌∙◌, sym, ap, refl, List, [], ◌∷◌, Bool, true, false, cond, Some}
use Rattle.std.specs.Prelude.{Option, ◌≢◌, Contains}
use Rattle.std.specs.List.{list_any}
use Rattle.tree_node.specs.declared.names.VarName.{VarName}
use Rattle.tree_node.specs.declared.names.ThreadName.{ThreadName}
use Rattle.tree_node.specs.Assoc.{value_of}
use Rattle.tree_node.specs.State.{Stack, equal_thread}
use Rattle.tree_node.specs.Store.{Store, equal_var}
pub use Rattle.tree_node.proofs.AssocLemmas.{value_of-with_value as with_here, value_of-with_value-other as with_there, value_of-goes_on as goes_here, value_of-goes_on-other as goes_there, value_of-goes_on-cases as goes_cases, value_of-append as front_here, value_of-append-other as front_other}
use Rattle.tree_node.proofs.ClassLemmas.{same_name_decides}
use Rattle.tree_node.proofs.CompareLemmas.{any_has}
use Rattle.site_model.specs.Site.{ThreadState, Threads, runnable_threads}
use Rattle.thread_roster.specs.declared.mode.Awaited.{Awaited}
use Rattle.thread_roster.specs.declared.mode.Mode.{Mode}
use Rattle.thread_roster.specs.declared.mode.Mode.TheVariants.{Runs, Waits, Needs, WaitsAny, WaitsFor}
use Rattle.thread_roster.specs.Binds.{by_node, goes_on}
use Rattle.thread_roster.specs.Threads.{wake_where}
use Rattle.thread_roster.proofs.ThreadLemmas.{woken_by}
pub use Rattle.thread_roster.proofs.ThreadLemmas.{found_where as woken_new}

-- ---- some go on

abbrev stands : Stack → Mode → Option ThreadState
stands s m = Some (s, m)

pub woken_old : (f : Mode → Bool) (ts : Threads) (n : ThreadName) (st : Stack) (o : Mode) → value_of equal_thread (wake_where f ts) n ≡ Some (st, o) → (m : Mode) × (value_of equal_thread ts n ≡ Some (st, m)) × (woken_by f m ≡ o)
woken_old f [] n st o e = cc
woken_old f (t ∷ ts) n st o e = go (equal_thread t.0 n) (λ k. woken_old f ts n st o k) e
  where
    go : (b : Bool) → (value_of equal_thread (wake_where f ts) n ≡ Some (st, o) → (m : Mode) × (value_of equal_thread ts n ≡ Some (st, m)) × (woken_by f m ≡ o)) →
        cond b (Some (t.1.0, woken_by f t.1.1)) (value_of equal_thread (wake_where f ts) n) ≡ Some (st, o) → (m : Mode) × (cond b (Some t.1) (value_of equal_thread ts n) ≡ Some (st, m)) × (woken_by f m ≡ o)
    go true ih k =
        let same : ◌≡◌ {A = ThreadState} (t.1.0, woken_by f t.1.1) (st, o) = cc in
        let stack : t.1.0 ≡ st = ap (λ (u : ThreadState). u.0) same in
        (t.1.1, ap (λ (s : Stack). stands s t.1.1) stack, ap (λ (u : ThreadState). u.1) same)
    go false ih k = ih k

-- who stands otherwise than running was not woken
stood : (b : Bool) (m o : Mode) → o ≢ Runs → cond b Runs m ≡ o → (m ≡ o) × (b ≡ false)
stood true m o other e = absurd (other (sym e))
stood false m o other e = (e, refl)

module _ (s : Store) (x : VarName) where
  -- who still waits until a variable is bound waits for another one than x
  pub wake_waits : (y : VarName) (m : Mode) → woken_by (goes_on s x) m ≡ Waits y → (m ≡ Waits y) × (y ≢ x)
  wake_waits y m e = go (stood (goes_on s x m) m (Waits y) (λ k. cc) e)
    where
      go : (m ≡ Waits y) × (goes_on s x m ≡ false) → (m ≡ Waits y) × (y ≢ x)
      go (same, left) = (
        same,
        λ h. (
            let no : equal_var y x ≡ false = ap (goes_on s x) (sym same) ∙ left in
            let yes : equal_var y x ≡ true = (same_name_decides y x).1 h in cc),
      )

  pub wake_other : (y : VarName) → y ≢ x → woken_by (goes_on s x) (Waits y) ≡ Waits y
  wake_other y other = go (equal_var y x) refl
    where
      go : (b : Bool) → equal_var y x ≡ b → cond b Runs (Waits y) ≡ Waits y
      go true q = absurd (other ((same_name_decides y x).0 q))
      go false q = refl

  -- who still needs a node is of a class that has none by x
  pub wake_needs : (y : VarName) (m : Mode) → woken_by (goes_on s x) m ≡ Needs y → (m ≡ Needs y) × (by_node s x y ≡ false)
  wake_needs y m e = go (stood (goes_on s x m) m (Needs y) (λ k. cc) e)
    where
      go : (m ≡ Needs y) × (goes_on s x m ≡ false) → (m ≡ Needs y) × (by_node s x y ≡ false)
      go (same, left) = (same, ap (goes_on s x) (sym same) ∙ left)

  -- who still waits for several waits for x in none of them
  pub wake_several : (ys : List VarName) (m : Mode) → woken_by (goes_on s x) m ≡ WaitsAny ys → (m ≡ WaitsAny ys) × ((y : VarName) → Contains ys y → y ≢ x)
  wake_several ys m e = go (stood (goes_on s x m) m (WaitsAny ys) (λ k. cc) e)
    where
      go : (m ≡ WaitsAny ys) × (goes_on s x m ≡ false) → (m ≡ WaitsAny ys) × ((y : VarName) → Contains ys y → y ≢ x)
      go (same, left) = (
        same,
        λ y h is. (
            let no : list_any (λ (z : VarName). equal_var z x) ys ≡ false = ap (goes_on s x) (sym same) ∙ left in
            let yes : list_any (λ (z : VarName). equal_var z x) ys ≡ true = any_has (λ (z : VarName). equal_var z x) ys y h ((same_name_decides y x).1 is) in cc),
      )

  pub wake_cell : (c : Awaited) (m : Mode) → woken_by (goes_on s x) m ≡ WaitsFor c → m ≡ WaitsFor c
  wake_cell c m e = (stood (goes_on s x m) m (WaitsFor c) (λ k. cc) e).0

-- ---- threads that can go on

pub running_new : (ts : List (ThreadName × Stack)) (n : ThreadName) (st : Stack) → value_of equal_thread ts n ≡ Some st → value_of equal_thread (runnable_threads ts) n ≡ Some (st, Runs)
running_new [] n st e = cc
running_new (t ∷ ts) n st e = go (equal_thread t.0 n) (λ k. running_new ts n st k) e
  where
    go : (b : Bool) → (value_of equal_thread ts n ≡ Some st → value_of equal_thread (runnable_threads ts) n ≡ Some (st, Runs)) → cond b (Some t.1) (value_of equal_thread ts n) ≡ Some st →
        cond b (Some (t.1, Runs)) (value_of equal_thread (runnable_threads ts) n) ≡ Some (st, Runs)
    go true ih k = let same : t.1 ≡ st = cc in ap (λ (s : Stack). stands s Runs) same
    go false ih k = ih k

pub running_old : (ts : List (ThreadName × Stack)) (n : ThreadName) (v : ThreadState) → value_of equal_thread (runnable_threads ts) n ≡ Some v → (value_of equal_thread ts n ≡ Some v.0) × (v.1 ≡ Runs)
running_old [] n v e = cc
running_old (t ∷ ts) n v e = go (equal_thread t.0 n) (λ k. running_old ts n v k) e
  where
    go : (b : Bool) → (value_of equal_thread (runnable_threads ts) n ≡ Some v → (value_of equal_thread ts n ≡ Some v.0) × (v.1 ≡ Runs)) → cond b (Some (t.1, Runs)) (value_of equal_thread (runnable_threads ts) n) ≡ Some v →
        (cond b (Some t.1) (value_of equal_thread ts n) ≡ Some v.0) × (v.1 ≡ Runs)
    go true ih k =
        let same : ◌≡◌ {A = ThreadState} (t.1, Runs) v = cc in
        (ap (λ (u : ThreadState). Some u.0) same, sym (ap (λ (u : ThreadState). u.1) same))
    go false ih k = ih k
