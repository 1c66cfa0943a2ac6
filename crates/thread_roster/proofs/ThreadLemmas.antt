-- Laws of lists of threads, for those who keep their threads in a roster.
use Rattle.std.proofs.Common.{◌≡◌, ◌∙◌, sym, ap, refl, subst, suc, length, filter, List, [], ◌∷◌, ◌||◌, Bool, true, false, cond, Some, None}
use Rattle.tree_node.specs.declared.names.VarName.{VarName}
use Rattle.tree_node.specs.declared.names.ThreadName.{ThreadName}
use Rattle.tree_node.specs.Assoc.{value_of, with_value, without_key}
use Rattle.tree_node.specs.Each.{Each}
use Rattle.tree_node.specs.State.{equal_thread}
use Rattle.thread_roster.specs.declared.mode.Mode.{Mode}
use Rattle.thread_roster.specs.declared.mode.Mode.TheVariants as mode
use Rattle.thread_roster.specs.Threads.{Entry, is_waiting, waiting_of, map_entries, set_value, set_mode, awaits, wake_all, needs_one, wake_where, determine_all}
use Rattle.thread_roster.proofs.NameLemmas.{is_same}
use Rattle.tree_node.proofs.NameLemmas.{same_thread_decides}

-- ---- what is seen of a list that changes

pub seen_found : {V W : Type 0} (g : V × Mode → W) (ts : List (Entry V)) (n : ThreadName) (e : V × Mode) → value_of equal_thread ts n ≡ Some e → value_of equal_thread (map_entries g ts) n ≡ Some (g e)
seen_found g [] n e h = cc
seen_found {V} {W} g (t ∷ ts) n e h = go (equal_thread t.0 n) h (λ k. seen_found g ts n e k)
  where
    go : (b : Bool) → cond b (Some t.1) (value_of equal_thread ts n) ≡ Some e → (value_of equal_thread ts n ≡ Some e → value_of equal_thread (map_entries g ts) n ≡ Some (g e)) →
        cond b (Some (g t.1)) (value_of equal_thread (map_entries g ts) n) ≡ Some (g e)
    go true k ih = let same : t.1 ≡ e = cc in ap (λ (u : V × Mode). Some (g u)) same
    go false k ih = ih k

pub seen_none : {V W : Type 0} (g : V × Mode → W) (ts : List (Entry V)) (n : ThreadName) → value_of equal_thread ts n ≡ None → value_of equal_thread (map_entries g ts) n ≡ None
seen_none g [] n h = refl
seen_none {V} {W} g (t ∷ ts) n h = go (equal_thread t.0 n) h (λ k. seen_none g ts n k)
  where
    go : (b : Bool) → cond b (Some t.1) (value_of equal_thread ts n) ≡ None → (value_of equal_thread ts n ≡ None → value_of equal_thread (map_entries g ts) n ≡ None) → cond b (Some (g t.1)) (value_of equal_thread (map_entries g ts) n) ≡ None
    go true k ih = cc
    go false k ih = ih k

pub seen_length : {V W : Type 0} (g : V × Mode → W) (ts : List (Entry V)) → length (map_entries g ts) ≡ length ts
seen_length g [] = refl
seen_length g (t ∷ ts) = ap suc (seen_length g ts)

pub seen_end : {V W : Type 0} (g : V × Mode → W) (ts : List (Entry V)) (n : ThreadName) → map_entries g (without_key equal_thread ts n) ≡ without_key equal_thread (map_entries g ts) n
seen_end g [] n = refl
seen_end {V} {W} g (t ∷ ts) n = go (equal_thread t.0 n) (seen_end g ts n)
  where
    go : (b : Bool) → map_entries g (without_key equal_thread ts n) ≡ without_key equal_thread (map_entries g ts) n →
        map_entries g (cond b (without_key equal_thread ts n) (t ∷ without_key equal_thread ts n)) ≡ cond b (without_key equal_thread (map_entries g ts) n) ((t.0, g t.1) ∷ without_key equal_thread (map_entries g ts) n)
    go true ih = ih
    go false ih = ap (λ (l : List (ThreadName × W)). (t.0, g t.1) ∷ l) ih

pub seen_value : {V W : Type 0} (g : V × Mode → W) (ts : List (Entry V)) (n : ThreadName) (v : V) (m : Mode) (w : V) → value_of equal_thread ts n ≡ Some (v, m) → map_entries g (set_value ts n w) ≡ with_value equal_thread (map_entries g ts) n (g (w, m))
seen_value g [] n v m w h = refl
seen_value {V} {W} g (t ∷ ts) n v m w h = go (equal_thread t.0 n) h (λ k. seen_value g ts n v m w k)
  where
    go : (b : Bool) → cond b (Some t.1) (value_of equal_thread ts n) ≡ Some (v, m) → (value_of equal_thread ts n ≡ Some (v, m) → map_entries g (set_value ts n w) ≡ with_value equal_thread (map_entries g ts) n (g (w, m))) →
        map_entries g (cond b ((n, (w, t.1.1)) ∷ ts) (t ∷ set_value ts n w)) ≡ cond b ((n, g (w, m)) ∷ map_entries g ts) ((t.0, g t.1) ∷ with_value equal_thread (map_entries g ts) n (g (w, m)))
    go true k ih = let same : t.1 ≡ (v, m) = cc in ap (λ (u : V × Mode). (n, g (w, u.1)) ∷ map_entries g ts) same
    go false k ih = ap (λ (l : List (ThreadName × W)). (t.0, g t.1) ∷ l) (ih k)

pub seen_mode : {V W : Type 0} (g : V × Mode → W) (ts : List (Entry V)) (n : ThreadName) (v : V) (m k : Mode) → value_of equal_thread ts n ≡ Some (v, m) → map_entries g (set_mode ts n k) ≡ with_value equal_thread (map_entries g ts) n (g (v, k))
seen_mode g [] n v m k h = refl
seen_mode {V} {W} g (t ∷ ts) n v m k h = go (equal_thread t.0 n) h (λ q. seen_mode g ts n v m k q)
  where
    go : (b : Bool) → cond b (Some t.1) (value_of equal_thread ts n) ≡ Some (v, m) → (value_of equal_thread ts n ≡ Some (v, m) → map_entries g (set_mode ts n k) ≡ with_value equal_thread (map_entries g ts) n (g (v, k))) →
        map_entries g (cond b ((n, (t.1.0, k)) ∷ ts) (t ∷ set_mode ts n k)) ≡ cond b ((n, g (v, k)) ∷ map_entries g ts) ((t.0, g t.1) ∷ with_value equal_thread (map_entries g ts) n (g (v, k)))
    go true q ih = let same : t.1 ≡ (v, m) = cc in ap (λ (u : V × Mode). (n, g (u.0, k)) ∷ map_entries g ts) same
    go false q ih = ap (λ (l : List (ThreadName × W)). (t.0, g t.1) ∷ l) (ih q)

-- who sees no modes sees nothing of how a thread stands
pub values_mode : {V W : Type 0} (f : V → W) (ts : List (Entry V)) (n : ThreadName) (k : Mode) → map_entries (λ (e : V × Mode). f e.0) (set_mode ts n k) ≡ map_entries (λ (e : V × Mode). f e.0) ts
values_mode f [] n k = refl
values_mode {V} {W} f (t ∷ ts) n k = go (equal_thread t.0 n) refl (values_mode f ts n k)
  where
    go : (b : Bool) → equal_thread t.0 n ≡ b → map_entries (λ (e : V × Mode). f e.0) (set_mode ts n k) ≡ map_entries (λ (e : V × Mode). f e.0) ts →
        map_entries (λ (e : V × Mode). f e.0) (cond b ((n, (t.1.0, k)) ∷ ts) (t ∷ set_mode ts n k)) ≡ (t.0, f t.1.0) ∷ map_entries (λ (e : V × Mode). f e.0) ts
    go true q ih = ap (λ (x : ThreadName). (x, f t.1.0) ∷ map_entries (λ (e : V × Mode). f e.0) ts) (sym ((same_thread_decides t.0 n).0 q))
    go false q ih = ap (λ (l : List (ThreadName × W)). (t.0, f t.1.0) ∷ l) ih

-- ---- some go on

-- a thread that goes on where it stands so, or stands as before
abbrev pub woken_by : (Mode → Bool) → Mode → Mode
woken_by f m = cond (f m) mode.Runs m

pub found_where : {V : Type 0} (f : Mode → Bool) (ts : List (Entry V)) (n : ThreadName) (v : V) (m : Mode) → value_of equal_thread ts n ≡ Some (v, m) → value_of equal_thread (wake_where f ts) n ≡ Some (v, woken_by f m)
found_where f [] n v m h = cc
found_where {V} f (t ∷ ts) n v m h = go (equal_thread t.0 n) h (λ k. found_where f ts n v m k)
  where
    go : (b : Bool) → cond b (Some t.1) (value_of equal_thread ts n) ≡ Some (v, m) → (value_of equal_thread ts n ≡ Some (v, m) → value_of equal_thread (wake_where f ts) n ≡ Some (v, woken_by f m)) →
        cond b (Some (t.1.0, woken_by f t.1.1)) (value_of equal_thread (wake_where f ts) n) ≡ Some (v, woken_by f m)
    go true k ih = let same : t.1 ≡ (v, m) = cc in ap (λ (u : V × Mode). Some (u.0, woken_by f u.1)) same
    go false k ih = ih k

pub values_where : {V W : Type 0} (g : V → W) (f : Mode → Bool) (ts : List (Entry V)) → map_entries (λ (e : V × Mode). g e.0) (wake_where f ts) ≡ map_entries (λ (e : V × Mode). g e.0) ts
values_where g f [] = refl
values_where {V} {W} g f (t ∷ ts) = ap (λ (l : List (ThreadName × W)). (t.0, g t.1.0) ∷ l) (values_where g f ts)

pub each_where : {V : Type 0} (P Q : Entry V → Type 0) (f : Mode → Bool) (ts : List (Entry V)) → ((n : ThreadName) (v : V) (m : Mode) → P (n, (v, m)) → Q (n, (v, woken_by f m))) → Each P ts → Each Q (wake_where f ts)
each_where P Q f [] h all = tt
each_where {V} P Q f ((n, (v, m)) ∷ ts) h all = (h n v m all.0, each_where P Q f ts h all.1)

-- who goes on by a bind: it waits until x is bound, or needs the node of one of these
abbrev pub goes_by : VarName → (VarName → Bool) → Mode → Bool
goes_by x f m = awaits x m || needs_one f m

pub bind_where : {V : Type 0} (x : VarName) (f : VarName → Bool) (ts : List (Entry V)) → determine_all f (wake_all x ts) ≡ wake_where (goes_by x f) ts
bind_where x f [] = refl
bind_where {V} x f (t ∷ ts) =
    ap (λ (k : Mode). (t.0, (t.1.0, k)) ∷ determine_all f (wake_all x ts)) (go (awaits x t.1.1) t.1.1)
    ∙ ap (λ (l : List (Entry V)). (t.0, (t.1.0, woken_by (goes_by x f) t.1.1)) ∷ l) (bind_where x f ts)
  where
    go : (a : Bool) (m : Mode) → woken_by (needs_one f) (cond a mode.Runs m) ≡ cond (a || needs_one f m) mode.Runs m
    go true m = refl
    go false m = refl

-- ---- the thread that changed

pub value_there : {V : Type 0} (ts : List (Entry V)) (n : ThreadName) (v : V) (m : Mode) (w : V) → value_of equal_thread ts n ≡ Some (v, m) → value_of equal_thread (set_value ts n w) n ≡ Some (w, m)
value_there [] n v m w h = cc
value_there {V} (t ∷ ts) n v m w h = go (equal_thread t.0 n) refl h (λ k. value_there ts n v m w k)
  where
    go : (b : Bool) → equal_thread t.0 n ≡ b → cond b (Some t.1) (value_of equal_thread ts n) ≡ Some (v, m) → (value_of equal_thread ts n ≡ Some (v, m) → value_of equal_thread (set_value ts n w) n ≡ Some (w, m)) →
        value_of equal_thread (cond b ((n, (w, t.1.1)) ∷ ts) (t ∷ set_value ts n w)) n ≡ Some (w, m)
    go true q k ih = let same : t.1 ≡ (v, m) = cc in rw (is_same n n refl) (ap (λ (u : V × Mode). Some (w, u.1)) same)
    go false q k ih = rw q (ih k)

pub mode_there : {V : Type 0} (ts : List (Entry V)) (n : ThreadName) (v : V) (m k : Mode) → value_of equal_thread ts n ≡ Some (v, m) → value_of equal_thread (set_mode ts n k) n ≡ Some (v, k)
mode_there [] n v m k h = cc
mode_there {V} (t ∷ ts) n v m k h = go (equal_thread t.0 n) refl h (λ q. mode_there ts n v m k q)
  where
    go : (b : Bool) → equal_thread t.0 n ≡ b → cond b (Some t.1) (value_of equal_thread ts n) ≡ Some (v, m) → (value_of equal_thread ts n ≡ Some (v, m) → value_of equal_thread (set_mode ts n k) n ≡ Some (v, k)) →
        value_of equal_thread (cond b ((n, (t.1.0, k)) ∷ ts) (t ∷ set_mode ts n k)) n ≡ Some (v, k)
    go true e q ih = let same : t.1 ≡ (v, m) = cc in rw (is_same n n refl) (ap (λ (u : V × Mode). Some (u.0, k)) same)
    go false e q ih = rw e (ih q)

-- ---- what holds of each thread

pub each_value : {V : Type 0} (P : Entry V → Type 0) (ts : List (Entry V)) (n : ThreadName) (w : V) → ((m : Mode) → P (n, (w, m))) → Each P ts → Each P (set_value ts n w)
each_value P [] n w new h = tt
each_value {V} P (t ∷ ts) n w new h = go (equal_thread t.0 n) (each_value P ts n w new h.1)
  where
    go : (b : Bool) → Each P (set_value ts n w) → Each P (cond b ((n, (w, t.1.1)) ∷ ts) (t ∷ set_value ts n w))
    go true ih = (new t.1.1, h.1)
    go false ih = (h.0, ih)

pub each_mode : {V : Type 0} (P : Entry V → Type 0) (ts : List (Entry V)) (n : ThreadName) (k : Mode) → ((v : V) (m : Mode) → value_of equal_thread ts n ≡ Some (v, m) → P (n, (v, k))) → Each P ts → Each P (set_mode ts n k)
each_mode P [] n k new h = tt
each_mode {V} P (t ∷ ts) n k new h = go (equal_thread t.0 n) new (λ more. each_mode P ts n k more h.1)
  where
    go : (b : Bool) → ((v : V) (m : Mode) → cond b (Some t.1) (value_of equal_thread ts n) ≡ Some (v, m) → P (n, (v, k))) →
        (((v : V) (m : Mode) → value_of equal_thread ts n ≡ Some (v, m) → P (n, (v, k))) → Each P (set_mode ts n k)) → Each P (cond b ((n, (t.1.0, k)) ∷ ts) (t ∷ set_mode ts n k))
    go true all ih = (all t.1.0 t.1.1 refl, h.1)
    go false all ih = (h.0, ih all)

pub each_end : {V : Type 0} (P : Entry V → Type 0) (ts : List (Entry V)) (n : ThreadName) → Each P ts → Each P (without_key equal_thread ts n)
each_end P [] n h = tt
each_end {V} P (t ∷ ts) n h = go (equal_thread t.0 n) (each_end P ts n h.1)
  where
    go : (b : Bool) → Each P (without_key equal_thread ts n) → Each P (cond b (without_key equal_thread ts n) (t ∷ without_key equal_thread ts n))
    go true ih = ih
    go false ih = (h.0, ih)

pub each_found : {V : Type 0} (P : Entry V → Type 0) (ts : List (Entry V)) (n : ThreadName) (e : V × Mode) → value_of equal_thread ts n ≡ Some e → Each P ts → P (n, e)
each_found P [] n e found h = cc
each_found {V} P (t ∷ ts) n e found h = go (equal_thread t.0 n) refl found (λ k. each_found P ts n e k h.1)
  where
    go : (b : Bool) → equal_thread t.0 n ≡ b → cond b (Some t.1) (value_of equal_thread ts n) ≡ Some e → (value_of equal_thread ts n ≡ Some e → P (n, e)) → P (n, e)
    go true q k ih =
        let name : t.0 ≡ n = (same_thread_decides t.0 n).0 q in
        let same : t.1 ≡ e = cc in
        subst (λ (u : V × Mode). P (n, u)) same (subst (λ (m : ThreadName). P (m, t.1)) name h.0)
    go false q k ih = ih k

-- ---- how many wait

-- one more waits, where a thread that could go on waits now
pub waiting_more : {V : Type 0} (ts : List (Entry V)) (n : ThreadName) (v : V) (k : Mode) → value_of equal_thread ts n ≡ Some (v, mode.Runs) → is_waiting k ≡ true → waiting_of (set_mode ts n k) ≡ suc (waiting_of ts)
waiting_more [] n v k h w = cc
waiting_more {V} (t ∷ ts) n v k h w = go (equal_thread t.0 n) h (λ q. waiting_more ts n v k q w)
  where
    others : Bool → List (Entry V) → List (Entry V)
    others b l = cond b (t ∷ l) l

    count : (b : Bool) (l m : List (Entry V)) → length l ≡ suc (length m) → length (others b l) ≡ suc (length (others b m))
    count true l m e = ap suc e
    count false l m e = e

    go : (b : Bool) → cond b (Some t.1) (value_of equal_thread ts n) ≡ Some (v, mode.Runs) → (value_of equal_thread ts n ≡ Some (v, mode.Runs) → waiting_of (set_mode ts n k) ≡ suc (waiting_of ts)) →
        waiting_of (cond b ((n, (t.1.0, k)) ∷ ts) (t ∷ set_mode ts n k)) ≡ suc (waiting_of (t ∷ ts))
    go true q ih =
        let same : t.1 ≡ (v, mode.Runs) = cc in
        let runs : t.1.1 ≡ mode.Runs = ap (λ (u : V × Mode). u.1) same in
        rw (w, runs) refl
    go false q ih =
        count (is_waiting t.1.1) (filter (λ (e : Entry V). is_waiting e.1.1) (set_mode ts n k)) (filter (λ (e : Entry V). is_waiting e.1.1) ts) (ih q)

-- no fewer threads live
pub living_same : {V : Type 0} (ts : List (Entry V)) (n : ThreadName) (k : Mode) → length (set_mode ts n k) ≡ length ts
living_same [] n k = refl
living_same {V} (t ∷ ts) n k = go (equal_thread t.0 n) (living_same ts n k)
  where
    go : (b : Bool) → length (set_mode ts n k) ≡ length ts → length (cond b ((n, (t.1.0, k)) ∷ ts) (t ∷ set_mode ts n k)) ≡ suc (length ts)
    go true ih = refl
    go false ih = ap suc ih

-- ---- one value after another

pub set_same : {V : Type 0} (ts : List (Entry V)) (n : ThreadName) (v : V) (m : Mode) → value_of equal_thread ts n ≡ Some (v, m) → set_value ts n v ≡ ts
set_same [] n v m h = refl
set_same {V} (t ∷ ts) n v m h = go (equal_thread t.0 n) refl h (λ k. set_same ts n v m k)
  where
    go : (b : Bool) → equal_thread t.0 n ≡ b → cond b (Some t.1) (value_of equal_thread ts n) ≡ Some (v, m) → (value_of equal_thread ts n ≡ Some (v, m) → set_value ts n v ≡ ts) →
        cond b ((n, (v, t.1.1)) ∷ ts) (t ∷ set_value ts n v) ≡ t ∷ ts
    go true q k ih =
        let same : t.1 ≡ (v, m) = cc in
        let named : t.0 ≡ n = (same_thread_decides t.0 n).0 q in
        ap (λ (e : Entry V). e ∷ ts) (ap (λ (x : ThreadName). (x, (v, t.1.1))) (sym named) ∙ ap (λ (w : V). (t.0, (w, t.1.1))) (sym (ap (λ (u : V × Mode). u.0) same)))
    go false q k ih = ap (λ (l : List (Entry V)). t ∷ l) (ih k)

pub set_set : {V : Type 0} (ts : List (Entry V)) (n : ThreadName) (a b : V) → set_value (set_value ts n a) n b ≡ set_value ts n b
set_set [] n a b = refl
set_set {V} (t ∷ ts) n a b = go (equal_thread t.0 n) refl (set_set ts n a b)
  where
    go : (r : Bool) → equal_thread t.0 n ≡ r → set_value (set_value ts n a) n b ≡ set_value ts n b →
        set_value (cond r ((n, (a, t.1.1)) ∷ ts) (t ∷ set_value ts n a)) n b ≡ cond r ((n, (b, t.1.1)) ∷ ts) (t ∷ set_value ts n b)
    go true q ih = rw ((same_thread_decides n n).1 refl) refl
    go false q ih = rw q (ap (λ (l : List (Entry V)). t ∷ l) ih)

pub end_set : {V : Type 0} (ts : List (Entry V)) (n : ThreadName) (a : V) → without_key equal_thread (set_value ts n a) n ≡ without_key equal_thread ts n
end_set [] n a = refl
end_set {V} (t ∷ ts) n a = go (equal_thread t.0 n) refl (end_set ts n a)
  where
    go : (r : Bool) → equal_thread t.0 n ≡ r → without_key equal_thread (set_value ts n a) n ≡ without_key equal_thread ts n →
        without_key equal_thread (cond r ((n, (a, t.1.1)) ∷ ts) (t ∷ set_value ts n a)) n ≡ cond r (without_key equal_thread ts n) (t ∷ without_key equal_thread ts n)
    go true q ih = rw ((same_thread_decides n n).1 refl) refl
    go false q ih = rw q (ap (λ (l : List (Entry V)). t ∷ l) ih)
