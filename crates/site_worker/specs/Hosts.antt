-- Hosts by their sites, and the hosts of one run.
use Rattle.std.specs.Prelude.{◌≡◌, ℕ, ◌+◌, ◌≤◌, ◌<◌, ◌==◌, List, [], ◌∷◌, map, cond, length, Vec, vec_capacity, Result, Ok, Err, Some, slice_index_or}
use Rattle.std.specs.List.{All, Any}
use Rattle.std.proofs.Common.{Global}
use Rattle.atomic_table.specs.Seated.{TableId}
use Rattle.kernel_syntax.specs.declared.stmt.Stmt.{Stmt}
use Rattle.site_message.specs.declared.turn.Turn.{Turn}
use Rattle.site_message.specs.declared.reason.Reason.{Reason}
use Rattle.site_message.specs.declared.limits.Limits.{Limits}
use Rattle.message_book.specs.Book.{IsSiteOf}
use Rattle.site_model.specs.Bundle.{bundle_limit}
use Rattle.site_model.specs.Site.{Site}
use Rattle.site_model.specs.Run.{SiteRun, WorldRun}
use Rattle.site_worker.specs.declared.host.Host.{Host}
use Rattle.site_worker.specs.declared.load.Group.{Group}
use Rattle.site_worker.specs.Host.{IsHost, IsHostOf, sight}
use Rattle.site_worker.specs.Waking.{worker_of}

-- the number of the host's site
abbrev pub number_of : Host → ℕ
number_of h = h.number

-- ---- one run

-- hosts of the table
abbrev pub AreHosts : TableId → List Host → Type 0
AreHosts table hs = All (IsHost table) hs

-- hosts of the program p and of a book with this fixed part
abbrev pub AreHostsOf : List Stmt → List ℕ → List Host → Type 0
AreHostsOf p x hs = All (IsHostOf p x) hs

-- the same sites in their order, each with what stays true of it, and of the run that it was of
abbrev pub AreSame : TableId → List Host → List Host → Type 0
AreSame table old new =
    (map number_of new ≡ map number_of old) × AreHosts table new × ((p : List Stmt) (x : List ℕ) → AreHostsOf p x old → AreHostsOf p x new)

-- the seat of some host has seen a reason to end
abbrev pub IsSomeOver : List Host → Type 0
IsSomeOver hs = Any (λ (h : Host). (r : Reason) × ((sight h).reason ≡ Some r)) hs

-- ---- how often a site has a host

-- how often the number stands in the list
abbrev pub count_of : ℕ → List ℕ → ℕ
count_of k [] = 0
count_of k (x ∷ xs) = cond (x == k) 1 0 + count_of k xs

-- how many of the hosts are of the site k
abbrev pub times : ℕ → List Host → ℕ
times k hs = count_of k (map number_of hs)

-- the sites 1 to n have a host
abbrev pub IsComplete : ℕ → List Host → Type 0
IsComplete n hs = (k : ℕ) → IsSiteOf n k → 0 < times k hs

-- the hosts that come back, with either answer
abbrev pub hosts_of : {E : Type 0} → Result (Vec Host Global) (Vec Host Global × E) → List Host
hosts_of (Ok hs) = hs.items
hosts_of (Err e) = e.0.items

-- ---- the groups of all workers

-- how many of the hosts of all groups are of the site k
abbrev pub all_times : ℕ → List Group → ℕ
all_times k [] = 0
all_times k (g ∷ gs) = times k g.hosts.items + all_times k gs

-- how many hosts all groups have
abbrev pub all_hosts : List Group → ℕ
all_hosts [] = 0
all_hosts (g ∷ gs) = length g.hosts.items + all_hosts gs

-- P is of the hosts of all groups
abbrev pub AllHosts : (Host → Type 0) → List Group → Type 0
AllHosts P gs = All (λ (g : Group). All P g.hosts.items) gs

-- each group has room for so many more hosts
abbrev pub HaveRoom : ℕ → List Group → Type 0
HaveRoom n gs = All (λ (g : Group). length g.hosts.items + n ≤ vec_capacity g.hosts) gs

-- each group is empty, with room for so many hosts
abbrev pub AreEmpty : ℕ → List Group → Type 0
AreEmpty n gs = All (λ (g : Group). (g.hosts.items ≡ []) × (n ≤ vec_capacity g.hosts)) gs

-- each host of the groups stands in the group of its worker
abbrev pub AreAtHome : List Group → Type 0
AreAtHome gs = (w : ℕ) (d : Group) → w < length gs → All (λ (h : Host). worker_of h.number (length gs) ≡ w) (slice_index_or gs w d).hosts.items

-- ---- the end

-- the limits of a book as the fixed part that it shows
abbrev pub fixed_part : Limits → List ℕ
fixed_part l = l.sites ∷ l.steps ∷ l.messages ∷ []

-- the host's site has come to some state by its own entries in the journal, its turns in a row
abbrev pub HasRun : List Stmt → ℕ → List Turn → Host → Type 0
HasRun p n j h = (s : Site) × SiteRun p n bundle_limit h.number j s

-- the journal is a run of the program p on n sites
abbrev pub IsWorldRun : List Stmt → ℕ → List Turn → Type 0
IsWorldRun p n j = (w : ℕ → Site) × WorldRun p n bundle_limit j w
