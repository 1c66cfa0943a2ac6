-- What the columns of a list of picks tell. Stretches, namings and binds are the newest first here.
use Rattle.std.specs.Prelude.{◌≡◌, ℕ, zero, suc, ◌+◌, ◌<◌, ◌≤◌, List, [], ◌∷◌, ◌++◌, length, reverse, take, drop, Option, Some, None, nat_lt, ◌==◌, if◌then◌else◌}
use Rattle.tree_node.specs.declared.names.Name.{Name}
use Rattle.tree_node.specs.declared.names.ThreadName.{ThreadName}
use Rattle.tree_node.specs.declared.pick.Pick.{Pick}
use Rattle.tree_node.specs.Store.{Equation}
use Rattle.pick_list.specs.declared.columns.Stretch.{Stretch}
use Rattle.pick_list.specs.declared.columns.Naming.{Naming}
use Rattle.pick_list.specs.declared.columns.Bind.{Bind}

-- the names are those of all picks in order
pub record Columns : Type 0 where
  pub stretches : List Stretch
  pub namings : List Naming
  pub names : List Name
  pub binds : List Bind

-- those of vectors, the oldest first
abbrev pub columns_of : List Stretch → List Naming → List Name → List Bind → Columns
columns_of stretches namings names binds = record { stretches = reverse stretches; namings = reverse namings; names = names; binds = reverse binds }

-- ---- what they tell of the pick at a place, counted from 0

-- its thread is that of the newest stretch that does not begin behind it
abbrev pub thread_at : List Stretch → ℕ → ThreadName
thread_at [] k = record { site = 0; num = 0 }
thread_at (r ∷ rs) k = if nat_lt k r.first then thread_at rs k else r.thread

-- the names from a naming's first up to the next naming's first are those of its pick
abbrev pub fresh_at : List Naming → List Name → ℕ → List Name
fresh_at [] names k = []
fresh_at (t ∷ ts) names k = if t.pick == k then drop t.first names else fresh_at ts (take t.first names) k

-- its equation is that of the bind that is of this pick
abbrev pub bind_at : List Bind → ℕ → Option Equation
bind_at [] k = None
bind_at (b ∷ bs) k = if b.pick == k then Some (b.var, b.term) else bind_at bs k

-- the pick itself
abbrev pub pick_at : Columns → ℕ → Pick
pick_at c k = record { thread = thread_at c.stretches k; fresh = fresh_at c.namings c.names k; bind = bind_at c.binds k }

-- the picks before a place, in order
abbrev pub picks_below : Columns → ℕ → List Pick
picks_below c zero = []
picks_below c (suc k) = picks_below c k ++ pick_at c k ∷ []

-- ---- what they keep, of so many picks

-- each stretch begins before the next, and the first of them at 0
abbrev pub AreStretches : ℕ → List Stretch → Type 0
AreStretches n [] = n ≡ 0
AreStretches n (r ∷ rs) = (r.first < n) × AreStretches r.first rs

-- each naming is of a pick before the next naming's, and its names are among so many and before the next naming's
abbrev pub AreNamings : ℕ → ℕ → List Naming → Type 0
AreNamings n most [] = Unit {0}
AreNamings n most (t ∷ ts) = (t.pick < n) × (t.first ≤ most) × AreNamings t.pick t.first ts

-- each bind is of a pick before the next bind's
abbrev pub AreBinds : ℕ → List Bind → Type 0
AreBinds n [] = Unit {0}
AreBinds n (b ∷ bs) = (b.pick < n) × AreBinds b.pick bs

-- the columns of n picks
pub record AreColumns (n : ℕ) (c : Columns) : Type 0 where
  pub stretches : AreStretches n c.stretches
  pub namings : AreNamings n (length c.names) c.namings
  pub binds : AreBinds n c.binds

-- ---- one pick more

-- the newest stretch is of this thread
abbrev pub HasThread : List Stretch → ThreadName → Type 0
HasThread [] t = ⊥
HasThread (r ∷ rs) t = r.thread ≡ t

-- the stretches where pick n is of thread t, and the picks before it are of their threads
pub record IsStretchOn (n : ℕ) (t : ThreadName) (old new : List Stretch) : Type 0 where
  pub last : thread_at new n ≡ t
  pub before : (k : ℕ) → k < n → thread_at new k ≡ thread_at old k
  pub stretches : AreStretches (n + 1) new

-- the namings where pick n takes these names, which stand behind those before, and the picks before it have theirs
pub record IsNamingOn (n : ℕ) (fresh before : List Name) (old new : List Naming) : Type 0 where
  pub last : fresh_at new (before ++ fresh) n ≡ fresh
  pub others : (k : ℕ) → k < n → fresh_at new (before ++ fresh) k ≡ fresh_at old before k
  pub namings : AreNamings (n + 1) (length (before ++ fresh)) new

-- ---- all picks but the last one

-- the stretches of the first n picks, by which these are of their threads
pub record IsStretchBefore (n : ℕ) (old new : List Stretch) : Type 0 where
  pub same : (k : ℕ) → k < n → thread_at new k ≡ thread_at old k
  pub stretches : AreStretches n new

-- the namings of the first n picks, by which these have their names among the fewer ones
pub record IsNamingBefore (n : ℕ) (names : List Name) (old : List Naming) (fewer : List Name) (new : List Naming) : Type 0 where
  pub same : (k : ℕ) → k < n → fresh_at new fewer k ≡ fresh_at old names k
  pub namings : AreNamings n (length fewer) new

-- the binds of the first n picks, by which these have their equations
pub record IsBindBefore (n : ℕ) (old new : List Bind) : Type 0 where
  pub same : (k : ℕ) → k < n → bind_at new k ≡ bind_at old k
  pub binds : AreBinds n new
