-- Threads of a site, one of which has changed.
use Rattle.std.proofs.Common.{◌≡◌, ◌≢◌, ◌∙◌, sym, ap, refl, subst, List, [], ◌∷◌, ◌⊎◌, inl, inr, Bool, true, false, cond, Some, None}
use Rattle.std.specs.Prelude.{Option, IsSome}
use Rattle.tree_node.specs.declared.names.VarName.{VarName}
use Rattle.tree_node.specs.declared.names.ThreadName.{ThreadName}
use Rattle.tree_node.specs.Assoc.{value_of, with_value, without_key, with_optional_value}
use Rattle.tree_node.specs.Each.{Each}
use Rattle.tree_node.specs.State.{Stack, equal_thread}
use Rattle.tree_node.specs.Store.{Store}
use Rattle.oz_model.specs.Step.{living_stack}
use Rattle.thread_machine.specs.Running.{Running}
use Rattle.thread_roster.specs.declared.mode.Awaited.{Awaited}
use Rattle.thread_roster.specs.declared.mode.Mode.{Mode}
use Rattle.thread_roster.specs.declared.mode.Mode.TheVariants as mode
use Rattle.thread_roster.specs.Threads.{Entry, set_value, set_mode, wake_where}
use Rattle.thread_roster.specs.Binds.{goes_on}
use Rattle.tree_node.proofs.NameLemmas.{same_thread_decides}
use Rattle.thread_roster.proofs.NameLemmas.{is_same, is_other, name_cases}
use Rattle.thread_roster.proofs.ThreadLemmas.{seen_found, seen_end, seen_value, seen_mode, value_there, each_end, each_value, woken_by, found_where}
use Rattle.site_model.specs.Site.{Threads}
use Rattle.site_model.specs.Unit.{runnable_state}
use Rattle.site_variables.specs.Variables.{stacks_of}
use Rattle.site_units.specs.Core.{stack_in}
use Rattle.site_units.specs.Units.{without_ended}
pub use Rattle.thread_roster.proofs.ThreadLemmas.{set_set as value_twice, end_set as without_value}

abbrev pub Living : Type 0
Living = List (Entry Running)

-- ---- lists by name

pub set_twice : {W : Type 0} (ts : List (ThreadName × W)) (n : ThreadName) (v w : W) → with_value equal_thread (with_value equal_thread ts n v) n w ≡ with_value equal_thread ts n w
set_twice [] n v w = refl
set_twice {W} (t ∷ ts) n v w = go (equal_thread t.0 n) refl (set_twice ts n v w)
  where
    go : (b : Bool) → equal_thread t.0 n ≡ b → with_value equal_thread (with_value equal_thread ts n v) n w ≡ with_value equal_thread ts n w →
        with_value equal_thread (cond b ((n, v) ∷ ts) (t ∷ with_value equal_thread ts n v)) n w ≡ cond b ((n, w) ∷ ts) (t ∷ with_value equal_thread ts n w)
    go true q ih = rw (is_same n n refl) refl
    go false q ih = rw q (ap (λ (l : List (ThreadName × W)). t ∷ l) ih)

pub without_set : {W : Type 0} (ts : List (ThreadName × W)) (n : ThreadName) (v : W) → without_key equal_thread (with_value equal_thread ts n v) n ≡ without_key equal_thread ts n
without_set [] n v = refl
without_set {W} (t ∷ ts) n v = go (equal_thread t.0 n) refl (without_set ts n v)
  where
    go : (b : Bool) → equal_thread t.0 n ≡ b → without_key equal_thread (with_value equal_thread ts n v) n ≡ without_key equal_thread ts n →
        without_key equal_thread (cond b ((n, v) ∷ ts) (t ∷ with_value equal_thread ts n v)) n ≡ cond b (without_key equal_thread ts n) (t ∷ without_key equal_thread ts n)
    go true q ih = rw (is_same n n refl) refl
    go false q ih = rw q (ap (λ (l : List (ThreadName × W)). t ∷ l) ih)

pub some_there : {W : Type 0} (o : Option W) (w : W) → o ≡ Some w → IsSome o
some_there o w e = rw e refl

-- ---- another thread

abbrev pub running_or : Running → Option (Running × Mode) → Running
running_or r None = r
running_or r (Some v) = v.0

abbrev pub mode_in : Option (Running × Mode) → Mode
mode_in None = mode.Runs
mode_in (Some v) = v.1

-- the value that is found is the one that is there
pub found_same : (ts : Living) (n : ThreadName) (v w : Running) (m k : Mode) → value_of equal_thread ts n ≡ Some (v, m) → value_of equal_thread ts n ≡ Some (w, k) → v ≡ w
found_same ts n v w m k a b = ap running_in (sym a ∙ b)
  where
    running_in : Option (Running × Mode) → Running
    running_in None = v
    running_in (Some e) = e.0

-- a thread that stands otherwise is another one
pub modes_apart : (ts : Living) (n m : ThreadName) (r s : Running) (k : Mode) → value_of equal_thread ts n ≡ Some (r, mode.Runs) → value_of equal_thread ts m ≡ Some (s, k) → k ≢ mode.Runs → n ≢ m
modes_apart ts n m r s k runs stands other same =
    let both : Some (r, mode.Runs) ≡ Some (s, k) = sym runs ∙ (ap (λ (x : ThreadName). value_of equal_thread ts x) same ∙ stands) in
    other (sym (ap mode_in both))

pub other_set : (ts : Living) (n m : ThreadName) (q : Running) → n ≢ m → value_of equal_thread (set_value ts n q) m ≡ value_of equal_thread ts m
other_set [] n m q apart = refl
other_set (t ∷ ts) n m q apart = go (equal_thread t.0 n) refl (other_set ts n m q apart)
  where
    go : (b : Bool) → equal_thread t.0 n ≡ b → value_of equal_thread (set_value ts n q) m ≡ value_of equal_thread ts m →
        value_of equal_thread (cond b ((n, (q, t.1.1)) ∷ ts) (t ∷ set_value ts n q)) m ≡ cond (equal_thread t.0 m) (Some t.1) (value_of equal_thread ts m)
    go true e ih =
        let same : t.0 ≡ n = (same_thread_decides t.0 n).0 e in
        let apart_too : t.0 ≢ m = λ k. apart (sym same ∙ k) in
        rw (is_other n m apart, is_other t.0 m apart_too) refl
    go false e ih = ap (λ (o : Option (Running × Mode)). cond (equal_thread t.0 m) (Some t.1) o) ih

pub other_without : (ts : Living) (n m : ThreadName) → n ≢ m → value_of equal_thread (without_key equal_thread ts n) m ≡ value_of equal_thread ts m
other_without [] n m apart = refl
other_without (t ∷ ts) n m apart = go (equal_thread t.0 n) refl (other_without ts n m apart)
  where
    go : (b : Bool) → equal_thread t.0 n ≡ b → value_of equal_thread (without_key equal_thread ts n) m ≡ value_of equal_thread ts m →
        value_of equal_thread (cond b (without_key equal_thread ts n) (t ∷ without_key equal_thread ts n)) m ≡ cond (equal_thread t.0 m) (Some t.1) (value_of equal_thread ts m)
    go true e ih =
        let same : t.0 ≡ n = (same_thread_decides t.0 n).0 e in
        let apart_too : t.0 ≢ m = λ k. apart (sym same ∙ k) in
        ih ∙ rw (is_other t.0 m apart_too) refl
    go false e ih = ap (λ (o : Option (Running × Mode)). cond (equal_thread t.0 m) (Some t.1) o) ih

pub other_mode : (ts : Living) (n m : ThreadName) (k : Mode) → n ≢ m → value_of equal_thread (set_mode ts n k) m ≡ value_of equal_thread ts m
other_mode [] n m k apart = refl
other_mode (t ∷ ts) n m k apart = go (equal_thread t.0 n) refl (other_mode ts n m k apart)
  where
    go : (b : Bool) → equal_thread t.0 n ≡ b → value_of equal_thread (set_mode ts n k) m ≡ value_of equal_thread ts m →
        value_of equal_thread (cond b ((n, (t.1.0, k)) ∷ ts) (t ∷ set_mode ts n k)) m ≡ cond (equal_thread t.0 m) (Some t.1) (value_of equal_thread ts m)
    go true e ih =
        let same : t.0 ≡ n = (same_thread_decides t.0 n).0 e in
        let apart_too : t.0 ≢ m = λ j. apart (sym same ∙ j) in
        rw (is_other n m apart, is_other t.0 m apart_too) refl
    go false e ih = ap (λ (o : Option (Running × Mode)). cond (equal_thread t.0 m) (Some t.1) o) ih

-- ---- waits that stay

-- each thread that waits for an answer, or for a token, still does
abbrev pub WaitsStay : Living → Living → Type 0
WaitsStay ts us = (m : ThreadName) (s : Running) (a : Awaited) → value_of equal_thread ts m ≡ Some (s, mode.WaitsFor a) → value_of equal_thread us m ≡ Some (s, mode.WaitsFor a)

pub runs_other : (a : Awaited) → mode.WaitsFor a ≢ mode.Runs
runs_other a e = cc

pub waits_set : (ts : Living) (n : ThreadName) (r q : Running) → value_of equal_thread ts n ≡ Some (r, mode.Runs) → WaitsStay ts (set_value ts n q)
waits_set ts n r q runs m s a waits =
    other_set ts n m q (modes_apart ts n m r s (mode.WaitsFor a) runs waits (runs_other a)) ∙ waits

pub waits_mode : (ts : Living) (n : ThreadName) (r : Running) (k : Mode) → value_of equal_thread ts n ≡ Some (r, mode.Runs) → WaitsStay ts (set_mode ts n k)
waits_mode ts n r k runs m s a waits =
    other_mode ts n m k (modes_apart ts n m r s (mode.WaitsFor a) runs waits (runs_other a)) ∙ waits

pub waits_settled : (ts : Living) (n : ThreadName) (r : Running) (st : Stack) → value_of equal_thread ts n ≡ Some (r, mode.Runs) → WaitsStay ts (without_ended ts n st)
waits_settled ts n r [] runs m s a waits =
    other_without ts n m (modes_apart ts n m r s (mode.WaitsFor a) runs waits (runs_other a)) ∙ waits
waits_settled ts n r (i ∷ is) runs m s a waits = waits

pub waits_trans : (ts us vs : Living) → WaitsStay ts us → WaitsStay us vs → WaitsStay ts vs
waits_trans ts us vs h g m s a waits = g m s a (h m s a waits)

-- ---- who waits waited before

pub waited_set : (ts : Living) (n : ThreadName) (r q : Running) → value_of equal_thread ts n ≡ Some (r, mode.Runs) → WaitsStay (set_value ts n q) ts
waited_set ts n r q runs m s a waits = go (name_cases n m)
  where
    go : (n ≡ m) ⊎ (n ≢ m) → value_of equal_thread ts m ≡ Some (s, mode.WaitsFor a)
    go (inl same) =
        let there : value_of equal_thread (set_value ts n q) m ≡ Some (q, mode.Runs) = subst (λ (x : ThreadName). value_of equal_thread (set_value ts n q) x ≡ Some (q, mode.Runs)) same (value_there ts n r mode.Runs q runs) in
        absurd (runs_other a (ap mode_in (sym waits ∙ there)))
    go (inr apart) = sym (other_set ts n m q apart) ∙ waits

-- none of a name that was taken out
gone : (ts : Living) (n : ThreadName) → value_of equal_thread (without_key equal_thread ts n) n ≡ None
gone [] n = refl
gone (t ∷ ts) n = go (equal_thread t.0 n) refl (gone ts n)
  where
    go : (b : Bool) → equal_thread t.0 n ≡ b → value_of equal_thread (without_key equal_thread ts n) n ≡ None → value_of equal_thread (cond b (without_key equal_thread ts n) (t ∷ without_key equal_thread ts n)) n ≡ None
    go true q ih = ih
    go false q ih = rw q ih

pub waited_settled : (ts : Living) (n : ThreadName) (st : Stack) → WaitsStay (without_ended ts n st) ts
waited_settled ts n [] m s a waits = go (name_cases n m)
  where
    go : (n ≡ m) ⊎ (n ≢ m) → value_of equal_thread ts m ≡ Some (s, mode.WaitsFor a)
    go (inl same) =
        let none : value_of equal_thread (without_key equal_thread ts n) m ≡ None = subst (λ (x : ThreadName). value_of equal_thread (without_key equal_thread ts n) x ≡ None) same (gone ts n) in
        absurd (runs_other a (ap mode_in (sym waits ∙ none)))
    go (inr apart) = sym (other_without ts n m apart) ∙ waits
waited_settled ts n (i ∷ is) m s a waits = waits

-- who goes on waits for nothing
still_waits : (b : Bool) (m : Mode) (a : Awaited) → cond b mode.Runs m ≡ mode.WaitsFor a → m ≡ mode.WaitsFor a
still_waits true m a e = absurd (runs_other a (sym e))
still_waits false m a e = e

pub waited_where : (f : Mode → Bool) (ts : Living) → WaitsStay (wake_where f ts) ts
waited_where f [] m s a waits = waits
waited_where f (t ∷ ts) m s a waits = go (equal_thread t.0 m) waits (λ k. waited_where f ts m s a k)
  where
    go : (b : Bool) → cond b (Some (t.1.0, woken_by f t.1.1)) (value_of equal_thread (wake_where f ts) m) ≡ Some (s, mode.WaitsFor a) →
        (value_of equal_thread (wake_where f ts) m ≡ Some (s, mode.WaitsFor a) → value_of equal_thread ts m ≡ Some (s, mode.WaitsFor a)) → cond b (Some t.1) (value_of equal_thread ts m) ≡ Some (s, mode.WaitsFor a)
    go true k ih =
        let thread : t.1.0 ≡ s = ap (λ (o : Option (Running × Mode)). running_or s o) k in
        let stands : t.1.1 ≡ mode.WaitsFor a = still_waits (f t.1.1) t.1.1 a (ap mode_in k) in
        ap (λ (x : Running). Some (x, t.1.1)) thread ∙ ap (λ (x : Mode). Some (s, x)) stands
    go false k ih = ih k

-- ---- a thread that was left

-- the thread made its step where it stands, and goes on or has ended
pub threads_settled : (ts : Living) (n : ThreadName) (r q : Running) → value_of equal_thread ts n ≡ Some (r, mode.Runs) →
    stacks_of stack_in (without_ended (set_value ts n q) n q.stack) ≡ with_optional_value equal_thread (stacks_of stack_in ts) n (runnable_state (living_stack q.stack))
threads_settled ts n r q runs = go q.stack refl
  where
    go : (st : Stack) → q.stack ≡ st → stacks_of stack_in (without_ended (set_value ts n q) n st) ≡ with_optional_value equal_thread (stacks_of stack_in ts) n (runnable_state (living_stack st))
    go [] e =
        seen_end (λ (v : Running × Mode). (v.0.stack, v.1)) (set_value ts n q) n
        ∙ (ap (λ (l : Threads). without_key equal_thread l n) (seen_value (λ (v : Running × Mode). (v.0.stack, v.1)) ts n r mode.Runs q runs)
        ∙ without_set (stacks_of stack_in ts) n (q.stack, mode.Runs))
    go (i ∷ is) e =
        seen_value (λ (v : Running × Mode). (v.0.stack, v.1)) ts n r mode.Runs q runs
        ∙ ap (λ (k : Stack). with_value equal_thread (stacks_of stack_in ts) n (k, mode.Runs)) e

-- the thread made its step where it stands, and stands otherwise
pub threads_wait : (ts : Living) (n : ThreadName) (r q : Running) (k : Mode) → value_of equal_thread ts n ≡ Some (r, mode.Runs) →
    stacks_of stack_in (set_mode (set_value ts n q) n k) ≡ with_value equal_thread (stacks_of stack_in ts) n (q.stack, k)
threads_wait ts n r q k runs =
    seen_mode (λ (v : Running × Mode). (v.0.stack, v.1)) (set_value ts n q) n q mode.Runs k (value_there ts n r mode.Runs q runs)
    ∙ (ap (λ (l : Threads). with_value equal_thread l n (q.stack, k)) (seen_value (λ (v : Running × Mode). (v.0.stack, v.1)) ts n r mode.Runs q runs)
    ∙ set_twice (stacks_of stack_in ts) n (q.stack, mode.Runs) (q.stack, k))

-- a value that is there already
pub value_same : {W : Type 0} (ts : List (ThreadName × W)) (n : ThreadName) (w : W) → value_of equal_thread ts n ≡ Some w → with_value equal_thread ts n w ≡ ts
value_same [] n w e = refl
value_same {W} (t ∷ ts) n w e = go (equal_thread t.0 n) refl e (λ k. value_same ts n w k)
  where
    go : (b : Bool) → equal_thread t.0 n ≡ b → cond b (Some t.1) (value_of equal_thread ts n) ≡ Some w → (value_of equal_thread ts n ≡ Some w → with_value equal_thread ts n w ≡ ts) →
        cond b ((n, w) ∷ ts) (t ∷ with_value equal_thread ts n w) ≡ t ∷ ts
    go true q k ih =
        let same : t.0 ≡ n = (same_thread_decides t.0 n).0 q in
        let held : t.1 ≡ w = cc in
        rw (sym same, sym held) refl
    go false q k ih = ap (λ (l : List (ThreadName × W)). t ∷ l) (ih k)

-- the thread goes on or has ended, and its step was made before
pub settled_stacks : (ts : Living) (n : ThreadName) (q : Running) → value_of equal_thread ts n ≡ Some (q, mode.Runs) →
    stacks_of stack_in (without_ended ts n q.stack) ≡ with_optional_value equal_thread (stacks_of stack_in ts) n (runnable_state (living_stack q.stack))
settled_stacks ts n q runs = go q.stack refl
  where
    found : value_of equal_thread (stacks_of stack_in ts) n ≡ Some (q.stack, mode.Runs)
    found = seen_found (λ (v : Running × Mode). (v.0.stack, v.1)) ts n (q, mode.Runs) runs

    go : (st : Stack) → q.stack ≡ st → stacks_of stack_in (without_ended ts n st) ≡ with_optional_value equal_thread (stacks_of stack_in ts) n (runnable_state (living_stack st))
    go [] e = seen_end (λ (v : Running × Mode). (v.0.stack, v.1)) ts n
    go (i ∷ is) e = sym (value_same (stacks_of stack_in ts) n (i ∷ is, mode.Runs) (subst (λ (st : Stack). value_of equal_thread (stacks_of stack_in ts) n ≡ Some (st, mode.Runs)) e found))

pub settled_keeps : (P : Entry Running → Type 0) (ts : Living) (n : ThreadName) (st : Stack) → Each P ts → Each P (without_ended ts n st)
settled_keeps P ts n [] all = each_end P ts n all
settled_keeps P ts n (i ∷ is) all = all

-- the stack is as before
pub stacks_same : (ts : Living) (n : ThreadName) (r q : Running) → value_of equal_thread ts n ≡ Some (r, mode.Runs) → q.stack ≡ r.stack → stacks_of stack_in (set_value ts n q) ≡ stacks_of stack_in ts
stacks_same ts n r q runs e =
    seen_value (λ (v : Running × Mode). (v.0.stack, v.1)) ts n r mode.Runs q runs
    ∙ (ap (λ (st : Stack). with_value equal_thread (stacks_of stack_in ts) n (st, mode.Runs)) e
    ∙ value_same (stacks_of stack_in ts) n (r.stack, mode.Runs) (seen_found (λ (v : Running × Mode). (v.0.stack, v.1)) ts n (r, mode.Runs) runs))

pub thread_found : (ts : Living) (n : ThreadName) (r : Running) (k : Mode) → value_of equal_thread ts n ≡ Some (r, k) → value_of equal_thread (stacks_of stack_in ts) n ≡ Some (r.stack, k)
thread_found ts n r k runs = seen_found (λ (v : Running × Mode). (v.0.stack, v.1)) ts n (r, k) runs

pub settled_each : (P : Entry Running → Type 0) (ts : Living) (n : ThreadName) (q : Running) (st : Stack) → (st ≢ [] → (m : Mode) → P (n, (q, m))) → Each P ts → Each P (without_ended (set_value ts n q) n st)
settled_each P ts n q [] here all = subst (Each P) (sym (without_value ts n q)) (each_end P ts n all)
settled_each P ts n q (i ∷ is) here all = each_value P ts n q (here not_nil) all
  where
    not_nil : i ∷ is ≢ []
    not_nil e = cc

-- ---- some go on

pub woken_value : (f : Mode → Bool) (ts : Living) (n : ThreadName) (q : Running) → wake_where f (set_value ts n q) ≡ set_value (wake_where f ts) n q
woken_value f [] n q = refl
woken_value f (t ∷ ts) n q = go (equal_thread t.0 n) (woken_value f ts n q)
  where
    go : (b : Bool) → wake_where f (set_value ts n q) ≡ set_value (wake_where f ts) n q →
        wake_where f (cond b ((n, (q, t.1.1)) ∷ ts) (t ∷ set_value ts n q)) ≡ cond b ((n, (q, woken_by f t.1.1)) ∷ wake_where f ts) ((t.0, (t.1.0, woken_by f t.1.1)) ∷ set_value (wake_where f ts) n q)
    go true ih = refl
    go false ih = ap (λ (l : Living). (t.0, (t.1.0, woken_by f t.1.1)) ∷ l) ih

pub waits_woken : (s : Store) (x : VarName) (ts : Living) → WaitsStay ts (wake_where (goes_on s x) ts)
waits_woken s x ts m r a waits = found_where (goes_on s x) ts m r (mode.WaitsFor a) waits
