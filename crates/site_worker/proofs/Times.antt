-- Counting hosts by their sites.
use Rattle.std.proofs.Common.{◌≡◌, ℕ, ◌+◌, List, [], ◌∷◌, ◌++◌, cond, eqb, arith, length, map, sym, ap, ◌∙◌}
use lib.ListN.{length-map}
use Rattle.site_worker.specs.declared.host.Host.{Host}
use Rattle.site_worker.specs.declared.load.Group.{Group}
use Rattle.site_worker.specs.Hosts.{number_of, times, count_of, all_times, all_hosts}

pub times_push : (k : ℕ) (hs : List Host) (h : Host) → times k (hs ++ h ∷ []) ≡ times k hs + cond (eqb (number_of h) k) 1 0
times_push k [] h = omega arith
times_push k (x ∷ xs) h = let e = times_push k xs h in omega arith

pub times_same : (k : ℕ) (xs ys : List Host) → map number_of xs ≡ map number_of ys → times k xs ≡ times k ys
times_same k xs ys e = ap (count_of k) e

pub length_same : (xs ys : List Host) → map number_of xs ≡ map number_of ys → length xs ≡ length ys
length_same xs ys e = sym (length-map xs number_of) ∙ (ap length e ∙ length-map ys number_of)

pub all_times_push : (k : ℕ) (gs : List Group) (g : Group) → all_times k (gs ++ g ∷ []) ≡ all_times k gs + times k g.hosts.items
all_times_push k [] g = omega arith
all_times_push k (x ∷ xs) g = let e = all_times_push k xs g in omega arith

pub all_hosts_push : (gs : List Group) (g : Group) → all_hosts (gs ++ g ∷ []) ≡ all_hosts gs + length g.hosts.items
all_hosts_push [] g = omega arith
all_hosts_push (x ∷ xs) g = let e = all_hosts_push xs g in omega arith
