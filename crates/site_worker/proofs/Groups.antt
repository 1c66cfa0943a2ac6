-- Hosts go to the groups of their workers one by one.
use Rattle.std.proofs.Common.{◌≡◌, ◌≢◌, ◌⊎◌, ⊎_elim, ℕ, zero, suc, ◌+◌, ◌<◌, ◌≤◌, List, [], ◌∷◌, ◌++◌, cond, eqb, arith, length, length-append, sym, ap, ◌∙◌, subst, get_or, set, get_or-set_same, get_or-set_other, length-set, vec_capacity, rules}
use Rattle.std.specs.List.{All}
use Rattle.std.proofs.lemmas.List.Elements.{All-head, All-tail, All-set, All-push}
use Rattle.site_worker.specs.declared.host.Host.{Host}
use Rattle.site_worker.specs.declared.load.Group.{Group}
use Rattle.site_worker.specs.Waking.{worker_of}
use Rattle.site_worker.specs.Hosts.{number_of, AreAtHome, AllHosts, AreEmpty, HaveRoom, times, all_times, all_hosts}
use Rattle.site_worker.proofs.Times.{times_push}

abbrev IsEmptyFor : ℕ → Group → Type 0
IsEmptyFor n g = (g.hosts.items ≡ []) × (n ≤ vec_capacity g.hosts)

pub empty_times : (k n : ℕ) (gs : List Group) → AreEmpty n gs → all_times k gs ≡ 0
empty_times k n [] h = omega arith
empty_times k n (g ∷ gs) h =
    let e = ap (times k) (All-head (IsEmptyFor n) g gs h).0 in
    let r = empty_times k n gs (All-tail (IsEmptyFor n) g gs h) in omega arith

pub empty_hosts : (n : ℕ) (gs : List Group) → AreEmpty n gs → all_hosts gs ≡ 0
empty_hosts n [] h = omega arith
empty_hosts n (g ∷ gs) h =
    let e = ap length (All-head (IsEmptyFor n) g gs h).0 in
    let r = empty_hosts n gs (All-tail (IsEmptyFor n) g gs h) in omega arith

pub empty_room : (n : ℕ) (gs : List Group) → AreEmpty n gs → HaveRoom n gs
empty_room n gs h k d below = let e = h k d below in let z = ap length e.0 in let r = e.1 in omega arith

pub empty_all : (P : Host → Type 0) (n : ℕ) (gs : List Group) → AreEmpty n gs → AllHosts P gs
empty_all P n gs h k d below = subst (All P) (sym (h k d below).0) (λ i e inside. absurd (omega arith))

pub times_set : (k i : ℕ) (gs : List Group) (d g : Group) (h : Host) → i < length gs → g.hosts.items ≡ (get_or gs i d).hosts.items ++ h ∷ []
    → all_times k (set gs i g) ≡ all_times k gs + cond (eqb (number_of h) k) 1 0
times_set k i [] d g h inside e = absurd (omega arith)
times_set k zero (x ∷ gs) d g h inside e = let t = ap (times k) e ∙ times_push k x.hosts.items h in omega arith
times_set k (suc i) (x ∷ gs) d g h inside e = let t = times_set k i gs d g h (omega arith) e in omega arith

pub hosts_set : (i : ℕ) (gs : List Group) (d g : Group) (h : Host) → i < length gs → g.hosts.items ≡ (get_or gs i d).hosts.items ++ h ∷ []
    → all_hosts (set gs i g) ≡ all_hosts gs + 1
hosts_set i [] d g h inside e = absurd (omega arith)
hosts_set zero (x ∷ gs) d g h inside e = let t = ap length e ∙ length-append x.hosts.items (h ∷ []) in omega arith
hosts_set (suc i) (x ∷ gs) d g h inside e = let t = hosts_set i gs d g h (omega arith) e in omega arith

pub room_set : (n i : ℕ) (gs : List Group) (d g : Group) (h : Host) → i < length gs → g.hosts.items ≡ (get_or gs i d).hosts.items ++ h ∷ [] → vec_capacity g.hosts ≡ vec_capacity (get_or gs i d).hosts
    → HaveRoom (n + 1) gs → HaveRoom n (set gs i g)
room_set n i gs d g h inside e c room =
    let old = room i d inside in
    let l = ap length e ∙ length-append (get_or gs i d).hosts.items (h ∷ []) in
    All-set (λ (g : Group). length g.hosts.items + n ≤ vec_capacity g.hosts) gs i g (omega arith) (λ k x below. let r = room k x below in omega arith)

pub all_set : (P : Host → Type 0) (i : ℕ) (gs : List Group) (d g : Group) (h : Host) → i < length gs → g.hosts.items ≡ (get_or gs i d).hosts.items ++ h ∷ [] → P h → AllHosts P gs → AllHosts P (set gs i g)
all_set P i gs d g h inside e is all =
    All-set (λ (g : Group). All P g.hosts.items) gs i g (subst (All P) (sym e) (All-push P (get_or gs i d).hosts.items h (all i d inside) is)) all

pub empty_home : (n : ℕ) (gs : List Group) → AreEmpty n gs → AreAtHome gs
empty_home n gs h w d below = subst (All (λ (y : Host). worker_of y.number (length gs) ≡ w)) (sym (h w d below).0) (λ i e inside. absurd (omega arith))

pub home_set : (i : ℕ) (gs : List Group) (d g : Group) (h : Host) → i < length gs → g.hosts.items ≡ (get_or gs i d).hosts.items ++ h ∷ [] → worker_of h.number (length gs) ≡ i → AreAtHome gs → AreAtHome (set gs i g)
home_set i gs d g h inside e here home w x below =
    let long = length-set gs i g in
    let low : w < length gs = omega arith in
    rw long (⊎_elim
    (λ (same : w ≡ i).
    let first = All-push (IsHere i) (get_or gs i d).hosts.items h (home i d inside) here in
    subst (λ (k : ℕ). All (IsHere k) (get_or (set gs i g) k x).hosts.items) (sym same)
    (rw (get_or-set_same gs i g x inside) (subst (All (IsHere i)) (sym e) first)))
    (λ (other : w ≢ i). rw (get_or-set_other gs i w g x other) (home w x low))
    (either w i))
  where
    IsHere : ℕ → Host → Type 0
    IsHere k y = worker_of y.number (length gs) ≡ k

    either : (a b : ℕ) → (a ≡ b) ⊎ (a ≢ b)
    either a b = search rules
