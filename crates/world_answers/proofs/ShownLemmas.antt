-- The threads of sites without those that wait for an answer: who is found among them, and what changes of a site's threads do to them.
use Rattle.std.proofs.Common.{rules, ◌≡◌, ◌∙◌, sym, ap, refl, subst, ℕ, List, [], ◌∷◌, ◌++◌, Bool, true, false, cond, Some, None}
use Rattle.std.specs.Prelude.{Option, ◌≢◌, ◌==◌}
use Rattle.tree_node.specs.declared.names.VarName.{VarName}
use Rattle.tree_node.specs.declared.names.ThreadName.{ThreadName}
use Rattle.tree_node.specs.Assoc.{value_of, with_value, without_key, with_optional_value}
use Rattle.tree_node.specs.Each.{Each, AreDistinct}
use Rattle.tree_node.specs.State.{Stack, equal_thread}
use Rattle.tree_node.specs.Store.{Store}
use Rattle.tree_node.proofs.AssocLemmas.{value_of-without_key, value_of-without_key-other}
use Rattle.tree_node.proofs.NameLemmas.{same_thread_decides}
use Rattle.thread_roster.specs.declared.mode.Mode.{Mode}
use Rattle.thread_roster.specs.declared.mode.Mode.TheVariants as mode
use Rattle.thread_roster.specs.Binds.{goes_on}
use Rattle.thread_roster.specs.Threads.{wake_where}
use Rattle.thread_roster.proofs.NameLemmas.{is_other}
use Rattle.site_model.specs.Site.{Site, Threads, ThreadState, runnable_threads}
use Rattle.site_model.specs.Unit.{runnable_state}
use Rattle.world_model.specs.World.{Sites, put}
use Rattle.world_model.specs.Shown.{is_asking, standing, standing_site, shown}
use Rattle.world_model.proofs.PutLemmas.{nat_decides}
use Rattle.world_variables.specs.Sums.{names}
use Rattle.world_answers.proofs.ClaimLemmas.{some_same}

-- ---- keys

pub not_same : (a b : ThreadName) → equal_thread a b ≡ false → a ≢ b
not_same a b e same = let yes : equal_thread a b ≡ true = (same_thread_decides a b).1 same in cc

-- of an entry whose name is this one, another name is as of this one
same_as : (a b c : ThreadName) → equal_thread a b ≡ true → equal_thread b c ≡ false → equal_thread a c ≡ false
same_as a b c e f = subst (λ (x : ThreadName). equal_thread x c ≡ false) (sym ((same_thread_decides a b).0 e)) f

-- a key is left out after another one was given a value, or before
without_with : {V : Type 0} (es : List (ThreadName × V)) (a n : ThreadName) (v : V) → equal_thread n a ≡ false → without_key equal_thread (with_value equal_thread es n v) a ≡ with_value equal_thread (without_key equal_thread es a) n v
without_with [] a n v other = refl
without_with {V} (e ∷ es) a n v other = go (equal_thread e.0 n) refl (equal_thread e.0 a) refl (without_with es a n v other)
  where
    go : (b : Bool) → equal_thread e.0 n ≡ b → (q : Bool) → equal_thread e.0 a ≡ q → without_key equal_thread (with_value equal_thread es n v) a ≡ with_value equal_thread (without_key equal_thread es a) n v →
        without_key equal_thread (cond b ((n, v) ∷ es) (e ∷ with_value equal_thread es n v)) a ≡ with_value equal_thread (cond q (without_key equal_thread es a) (e ∷ without_key equal_thread es a)) n v
    go true f true g ih = let no = same_as e.0 n a f other in cc
    go true f false g ih = rw (other, f) refl
    go false f true g ih = rw g ih
    go false f false g ih = rw (g, f) (ap (λ (l : List (ThreadName × V)). e ∷ l) ih)

-- the order in which two keys are left out says nothing
without_both : {V : Type 0} (es : List (ThreadName × V)) (a b : ThreadName) → without_key equal_thread (without_key equal_thread es a) b ≡ without_key equal_thread (without_key equal_thread es b) a
without_both [] a b = refl
without_both {V} (e ∷ es) a b = go (equal_thread e.0 a) refl (equal_thread e.0 b) refl (without_both es a b)
  where
    go : (p : Bool) → equal_thread e.0 a ≡ p → (q : Bool) → equal_thread e.0 b ≡ q → without_key equal_thread (without_key equal_thread es a) b ≡ without_key equal_thread (without_key equal_thread es b) a →
        without_key equal_thread (cond p (without_key equal_thread es a) (e ∷ without_key equal_thread es a)) b ≡ without_key equal_thread (cond q (without_key equal_thread es b) (e ∷ without_key equal_thread es b)) a
    go true f true g ih = ih
    go true f false g ih = rw f ih
    go false f true g ih = rw g ih
    go false f false g ih = rw (f, g) (ap (λ (l : List (ThreadName × V)). e ∷ l) ih)

without_twice : {V : Type 0} (es : List (ThreadName × V)) (a : ThreadName) → without_key equal_thread (without_key equal_thread es a) a ≡ without_key equal_thread es a
without_twice [] a = refl
without_twice {V} (e ∷ es) a = go (equal_thread e.0 a) refl (without_twice es a)
  where
    go : (b : Bool) → equal_thread e.0 a ≡ b → without_key equal_thread (without_key equal_thread es a) a ≡ without_key equal_thread es a →
        without_key equal_thread (cond b (without_key equal_thread es a) (e ∷ without_key equal_thread es a)) a ≡ cond b (without_key equal_thread es a) (e ∷ without_key equal_thread es a)
    go true f ih = ih
    go false f ih = rw f (ap (λ (l : List (ThreadName × V)). e ∷ l) ih)

-- ---- who is found

-- a thread, if it does not wait for an answer
abbrev pub standing_state : Option ThreadState → Option ThreadState
standing_state None = None
standing_state (Some v) = cond (is_asking v.1) None (Some v)

pub standing_found : (ts : Threads) (n : ThreadName) → value_of equal_thread (standing ts) n ≡ standing_state (value_of equal_thread ts n)
standing_found [] n = refl
standing_found (t ∷ ts) n = go (is_asking t.1.1) refl (equal_thread t.0 n) refl (standing_found ts n)
  where
    go : (a : Bool) → is_asking t.1.1 ≡ a → (b : Bool) → equal_thread t.0 n ≡ b → value_of equal_thread (standing ts) n ≡ standing_state (value_of equal_thread ts n) →
        value_of equal_thread (cond a (without_key equal_thread (standing ts) t.0) (t ∷ standing ts)) n ≡ standing_state (cond b (Some t.1) (value_of equal_thread ts n))
    go true f true g ih = subst (λ (x : ThreadName). value_of equal_thread (without_key equal_thread (standing ts) t.0) x ≡ standing_state (Some t.1)) ((same_thread_decides t.0 n).0 g)
        (rw f (value_of-without_key equal_thread same_thread_decides (standing ts) t.0))
    go true f false g ih = value_of-without_key-other equal_thread same_thread_decides (standing ts) t.0 n (not_same t.0 n g) ∙ ih
    go false f true g ih = rw (g, f) refl
    go false f false g ih = rw g ih

-- who stands is there so
pub stands_from : (ts : Threads) (n : ThreadName) (v : ThreadState) → value_of equal_thread (standing ts) n ≡ Some v → (value_of equal_thread ts n ≡ Some v) × (is_asking v.1 ≡ false)
stands_from ts n v e = go (value_of equal_thread ts n) refl (sym (standing_found ts n) ∙ e)
  where
    go : (o : Option ThreadState) → value_of equal_thread ts n ≡ o → standing_state o ≡ Some v → (value_of equal_thread ts n ≡ Some v) × (is_asking v.1 ≡ false)
    go None f k = cc
    go (Some u) f k = one (is_asking u.1) refl k
      where
        one : (b : Bool) → is_asking u.1 ≡ b → cond b None (Some u) ≡ Some v → (value_of equal_thread ts n ≡ Some v) × (is_asking v.1 ≡ false)
        one true q l = cc
        one false q l = let same : u ≡ v = some_same u v l in (f ∙ l, subst (λ (x : ThreadState). is_asking x.1 ≡ false) same q)

pub stands_to : (ts : Threads) (n : ThreadName) (v : ThreadState) → value_of equal_thread ts n ≡ Some v → is_asking v.1 ≡ false → value_of equal_thread (standing ts) n ≡ Some v
stands_to ts n v e q = standing_found ts n ∙ ap standing_state e ∙ rw q refl

-- who waits for an answer, or is not there, does not stand
pub asks_away : (ts : Threads) (n : ThreadName) (v : ThreadState) → value_of equal_thread ts n ≡ Some v → is_asking v.1 ≡ true → value_of equal_thread (standing ts) n ≡ None
asks_away ts n v e q = standing_found ts n ∙ ap standing_state e ∙ rw q refl

-- ---- changes

-- one who stands goes on standing
pub standing_with : (ts : Threads) (n : ThreadName) (v w : ThreadState) → value_of equal_thread ts n ≡ Some w → is_asking w.1 ≡ false → is_asking v.1 ≡ false → standing (with_value equal_thread ts n v) ≡ with_value equal_thread (standing ts) n v
standing_with [] n v w e f g = cc
standing_with (t ∷ ts) n v w e f g = go (equal_thread t.0 n) refl (is_asking t.1.1) refl e (λ k. standing_with ts n v w k f g)
  where
    go : (b : Bool) → equal_thread t.0 n ≡ b → (a : Bool) → is_asking t.1.1 ≡ a → cond b (Some t.1) (value_of equal_thread ts n) ≡ Some w → (value_of equal_thread ts n ≡ Some w → standing (with_value equal_thread ts n v) ≡ with_value equal_thread (standing ts) n v) →
        standing (cond b ((n, v) ∷ ts) (t ∷ with_value equal_thread ts n v)) ≡ with_value equal_thread (cond a (without_key equal_thread (standing ts) t.0) (t ∷ standing ts)) n v
    go true q true r k ih = let same : t.1 ≡ w = some_same t.1 w k in let no : is_asking t.1.1 ≡ false = subst (λ (x : ThreadState). is_asking x.1 ≡ false) (sym same) f in cc
    go true q false r k ih = rw (g, q) refl
    go false q true r k ih = rw r (ap (λ (l : Threads). without_key equal_thread l t.0) (ih k) ∙ without_with (standing ts) t.0 n v (is_other n t.0 (λ z. not_same t.0 n q (sym z))))
    go false q false r k ih = rw (r, q) (ap (λ (l : Threads). t ∷ l) (ih k))

-- one that begins to wait for an answer is gone from among those that stand
pub standing_asks : (ts : Threads) (n : ThreadName) (v w : ThreadState) → value_of equal_thread ts n ≡ Some w → is_asking w.1 ≡ false → is_asking v.1 ≡ true → standing (with_value equal_thread ts n v) ≡ without_key equal_thread (standing ts) n
standing_asks [] n v w e f g = cc
standing_asks (t ∷ ts) n v w e f g = go (equal_thread t.0 n) refl (is_asking t.1.1) refl e (λ k. standing_asks ts n v w k f g)
  where
    go : (b : Bool) → equal_thread t.0 n ≡ b → (a : Bool) → is_asking t.1.1 ≡ a → cond b (Some t.1) (value_of equal_thread ts n) ≡ Some w → (value_of equal_thread ts n ≡ Some w → standing (with_value equal_thread ts n v) ≡ without_key equal_thread (standing ts) n) →
        standing (cond b ((n, v) ∷ ts) (t ∷ with_value equal_thread ts n v)) ≡ without_key equal_thread (cond a (without_key equal_thread (standing ts) t.0) (t ∷ standing ts)) n
    go true q true r k ih = let same : t.1 ≡ w = some_same t.1 w k in let no : is_asking t.1.1 ≡ false = subst (λ (x : ThreadState). is_asking x.1 ≡ false) (sym same) f in cc
    go true q false r k ih = rw (g, q) refl
    go false q true r k ih = rw r (ap (λ (l : Threads). without_key equal_thread l t.0) (ih k) ∙ without_both (standing ts) n t.0)
    go false q false r k ih = rw (r, q) (ap (λ (l : Threads). t ∷ l) (ih k))

-- a name is left out
pub standing_without : (ts : Threads) (n : ThreadName) → standing (without_key equal_thread ts n) ≡ without_key equal_thread (standing ts) n
standing_without [] n = refl
standing_without (t ∷ ts) n = go (equal_thread t.0 n) refl (is_asking t.1.1) refl (standing_without ts n)
  where
    go : (b : Bool) → equal_thread t.0 n ≡ b → (a : Bool) → is_asking t.1.1 ≡ a → standing (without_key equal_thread ts n) ≡ without_key equal_thread (standing ts) n →
        standing (cond b (without_key equal_thread ts n) (t ∷ without_key equal_thread ts n)) ≡ without_key equal_thread (cond a (without_key equal_thread (standing ts) t.0) (t ∷ standing ts)) n
    go true q true r ih = ih ∙ subst (λ (x : ThreadName). without_key equal_thread (standing ts) n ≡ without_key equal_thread (without_key equal_thread (standing ts) x) n) (sym ((same_thread_decides t.0 n).0 q)) (sym (without_twice (standing ts) n))
    go true q false r ih = rw q ih
    go false q true r ih = rw r (ap (λ (l : Threads). without_key equal_thread l t.0) ih ∙ without_both (standing ts) n t.0)
    go false q false r ih = rw (r, q) (ap (λ (l : Threads). t ∷ l) ih)

pub standing_goes : (ts : Threads) (n : ThreadName) (o : Option Stack) (w : ThreadState) → value_of equal_thread ts n ≡ Some w → is_asking w.1 ≡ false → standing (with_optional_value equal_thread ts n (runnable_state o)) ≡ with_optional_value equal_thread (standing ts) n (runnable_state o)
standing_goes ts n None w e f = standing_without ts n
standing_goes ts n (Some st) w e f = standing_with ts n (st, mode.Runs) w e f refl

-- new threads stand
pub standing_born : (xs : List (ThreadName × Stack)) (ts : Threads) → standing (runnable_threads xs ++ ts) ≡ runnable_threads xs ++ standing ts
standing_born [] ts = refl
standing_born (x ∷ xs) ts = ap (λ (l : Threads). (x.0, (x.1, mode.Runs)) ∷ l) (standing_born xs ts)

-- nobody that waits for an answer goes on by a bind
asks_on : (s : Store) (x : VarName) (m : Mode) → is_asking m ≡ true → goes_on s x m ≡ false
asks_on s x mode.Runs e = refl
asks_on s x (mode.Waits y) e = cc
asks_on s x (mode.Needs y) e = cc
asks_on s x (mode.WaitsAny ys) e = cc
asks_on s x (mode.WaitsFor a) e = refl

wakes_without : (f : Mode → Bool) (ts : Threads) (n : ThreadName) → without_key equal_thread (wake_where f ts) n ≡ wake_where f (without_key equal_thread ts n)
wakes_without f [] n = refl
wakes_without f (t ∷ ts) n = go (equal_thread t.0 n) (wakes_without f ts n)
  where
    woken : ThreadName × ThreadState
    woken = (t.0, (t.1.0, cond (f t.1.1) mode.Runs t.1.1))

    go : (b : Bool) → without_key equal_thread (wake_where f ts) n ≡ wake_where f (without_key equal_thread ts n) →
        cond b (without_key equal_thread (wake_where f ts) n) ((t.0, (t.1.0, cond (f t.1.1) mode.Runs t.1.1)) ∷ without_key equal_thread (wake_where f ts) n) ≡ wake_where f (cond b (without_key equal_thread ts n) (t ∷ without_key equal_thread ts n))
    go true ih = ih
    go false ih = ap (λ (l : Threads). (t.0, (t.1.0, cond (f t.1.1) mode.Runs t.1.1)) ∷ l) ih

pub standing_woken : (s : Store) (x : VarName) (ts : Threads) → standing (wake_where (goes_on s x) ts) ≡ wake_where (goes_on s x) (standing ts)
standing_woken s x [] = refl
standing_woken s x (t ∷ ts) = go (is_asking t.1.1) refl (goes_on s x t.1.1) refl (standing_woken s x ts)
  where
    go : (a : Bool) → is_asking t.1.1 ≡ a → (b : Bool) → goes_on s x t.1.1 ≡ b → standing (wake_where (goes_on s x) ts) ≡ wake_where (goes_on s x) (standing ts) →
        standing ((t.0, (t.1.0, cond b mode.Runs t.1.1)) ∷ wake_where (goes_on s x) ts) ≡ wake_where (goes_on s x) (cond a (without_key equal_thread (standing ts) t.0) (t ∷ standing ts))
    go true q true r ih = let no = asks_on s x t.1.1 q in cc
    go true q false r ih = rw q (ap (λ (l : Threads). without_key equal_thread l t.0) ih ∙ wakes_without (goes_on s x) (standing ts) t.0)
    go false q true r ih = rw r (ap (λ (l : Threads). (t.0, (t.1.0, mode.Runs)) ∷ l) ih)
    go false q false r ih = rw (q, r) (ap (λ (l : Threads). (t.0, (t.1.0, t.1.1)) ∷ l) ih)

-- ---- names

less_each : (P : ThreadName → Type 0) (ts : Threads) (n : ThreadName) → Each P (names ts) → Each P (names (without_key equal_thread ts n))
less_each P [] n h = tt
less_each P (t ∷ ts) n h = go (equal_thread t.0 n) (less_each P ts n h.1)
  where
    go : (b : Bool) → Each P (names (without_key equal_thread ts n)) → Each P (names (cond b (without_key equal_thread ts n) (t ∷ without_key equal_thread ts n)))
    go true r = r
    go false r = (h.0, r)

pub less_distinct : (ts : Threads) (n : ThreadName) → AreDistinct (names ts) → AreDistinct (names (without_key equal_thread ts n))
less_distinct [] n h = tt
less_distinct (t ∷ ts) n h = go (equal_thread t.0 n) (less_distinct ts n h.1)
  where
    go : (b : Bool) → AreDistinct (names (without_key equal_thread ts n)) → AreDistinct (names (cond b (without_key equal_thread ts n) (t ∷ without_key equal_thread ts n)))
    go true r = r
    go false r = (less_each (λ m. t.0 ≢ m) ts n h.0, r)

pub standing_each : (P : ThreadName → Type 0) (ts : Threads) → Each P (names ts) → Each P (names (standing ts))
standing_each P [] h = tt
standing_each P (t ∷ ts) h = go (is_asking t.1.1) (standing_each P ts h.1)
  where
    go : (b : Bool) → Each P (names (standing ts)) → Each P (names (cond b (without_key equal_thread (standing ts) t.0) (t ∷ standing ts)))
    go true r = less_each P (standing ts) t.0 r
    go false r = (h.0, r)

pub standing_distinct : (ts : Threads) → AreDistinct (names ts) → AreDistinct (names (standing ts))
standing_distinct [] h = tt
standing_distinct (t ∷ ts) h = go (is_asking t.1.1) (standing_distinct ts h.1)
  where
    go : (b : Bool) → AreDistinct (names (standing ts)) → AreDistinct (names (cond b (without_key equal_thread (standing ts) t.0) (t ∷ standing ts)))
    go true r = less_distinct (standing ts) t.0 r
    go false r = (standing_each (λ m. t.0 ≢ m) ts h.0, r)

-- ---- the sites

-- a real site is shown without those that wait for an answer, and number 0 has them
pub shown_real : (f : Sites) (transit : Threads) (i : ℕ) → i ≢ 0 → shown f transit i ≡ standing_site (f i)
shown_real f transit i real = go (i == 0) refl
  where
    go : (b : Bool) → (i == 0) ≡ b → record (f i) { threads = cond b transit (standing (f i).threads) } ≡ standing_site (f i)
    go true e = absurd (real ((nat_decides i 0).0 e))
    go false e = refl

pub shown_threads_real : (f : Sites) (transit : Threads) (i : ℕ) → i ≢ 0 → (shown f transit i).threads ≡ standing (f i).threads
shown_threads_real f transit i real = ap (λ (s : Site). s.threads) (shown_real f transit i real)

put_shown_at : (f : Sites) (transit : Threads) (i : ℕ) (s : Site) → i ≢ 0 → (j : ℕ) → shown (put f i s) transit j ≡ put (shown f transit) i (standing_site s) j
put_shown_at f transit i s real j = go (j == i) refl (j == 0) refl
  where
    go : (b : Bool) → (j == i) ≡ b → (z : Bool) → (j == 0) ≡ z →
        record (cond b s (f j)) { threads = cond z transit (standing (cond b s (f j)).threads) } ≡ cond b (standing_site s) (record (f j) { threads = cond z transit (standing (f j).threads) })
    go true e true z = absurd (real (sym ((nat_decides j i).0 e) ∙ (nat_decides j 0).0 z))
    go true e false z = refl
    go false e z g = refl

-- a real site changed
pub put_shown : (f : Sites) (transit : Threads) (i : ℕ) (s : Site) → i ≢ 0 → shown (put f i s) transit ≡ put (shown f transit) i (standing_site s)
put_shown f transit i s real = search (rules, put_shown_at f transit i s real)
