-- The fixed order of a plain run: which site goes next, which message it takes, and in which order its threads go on.
use Rattle.std.specs.Prelude.{◌≡◌, ◌⊎◌, ℕ, ◌-◌, ◌<◌, ◌≤◌, min, List, [], ◌∷◌, length, Option, Some, None, true}
use Rattle.tree_node.specs.declared.limits.TheConstants.{MOST_UNITS}
use Rattle.tree_node.specs.declared.names.ThreadName.{ThreadName}
use Rattle.kernel_syntax.specs.declared.stmt.Stmt.{Stmt}
use Rattle.site_message.specs.declared.message.Sent.{Sent}
use Rattle.site_message.specs.declared.turn.Turn.{Turn}
use Rattle.site_message.specs.declared.limits.Limits.{Limits}
use Rattle.site_message.specs.Journal.{IsTravelling, is_idle}
use Rattle.site_model.specs.Site as model
use Rattle.site_model.specs.Site.{Site, initial_site}
use Rattle.site_model.specs.Run.{delivered_message}
use Rattle.site_core.specs.Site.{IsTurnInOrder}
use Rattle.site_core.specs.Start.{first_order}
use Rattle.world_core.specs.Travels.{IsNothingFor}

-- the site has nothing to do by the journal: it is idle, and no message travels to it
abbrev pub HasNothingToDo : List Turn → ℕ → Type 0
HasNothingToDo j i = (is_idle j i ≡ true) × IsNothingFor j i

-- the lowest number of a message that travels to the site; none, where none does
abbrev pub IsLowestFor : List Turn → ℕ → Option ℕ → Type 0
IsLowestFor j i None = IsNothingFor j i
IsLowestFor j i (Some k) = (m : Sent) × IsTravelling j k m × (m.to ≡ i) × ((h : ℕ) (o : Sent) → IsTravelling j h o → o.to ≡ i → k ≤ h)

-- the site of the last turn; before the first turn it is the last one of n sites
abbrev pub last_site : ℕ → List Turn → ℕ
last_site n [] = n
last_site n (e ∷ j) = e.site

-- in the circle behind the last site the site k comes before the site i: those behind the last one come first, and then those from 1 on
abbrev pub ComesBefore : ℕ → ℕ → ℕ → Type 0
ComesBefore last k i = ((last < k) × ((k < i) ⊎ (i ≤ last))) ⊎ ((k ≤ last) × (i ≤ last) × (k < i))

-- the states of the sites, and the orders in which their threads have their turns, by the sites' numbers
pub record Standing : Type 0 where
  pub states : ℕ → Site
  pub orders : ℕ → List ThreadName

-- each site is at its start: site 1 has the program's thread, the others none
abbrev pub AreAtStart : List Stmt → ℕ → Standing → Type 0
AreAtStart p n now = (i : ℕ) → (now.states i ≡ initial_site p n i) × (now.orders i ≡ first_order i)

-- how many units a turn of the site makes, unless the site is idle before: 64, or fewer where the limit of own steps is nearer
abbrev pub most_units : Limits → Standing → ℕ → ℕ
most_units l now i = min (l.steps - (now.states i).steps) MOST_UNITS

-- the next turn is of the first site that has something to do, in the circle behind the site of the last turn; it takes the message
-- with the lowest number, if there is one, and then makes 64 units, fewer only where the limit of own steps is nearer or the site is
-- then idle; its threads have their turns in order, and the other sites stand as they did
pub record IsPlainTurn (p : List Stmt) (l : Limits) (j : List Turn) (old : Standing) (e : Turn) (new : Standing) : Type 0 where
  pub some : 1 ≤ e.site
  pub among : e.site ≤ l.sites
  pub busy : HasNothingToDo j e.site → ⊥
  pub first : (k : ℕ) → 1 ≤ k → k ≤ l.sites → ComesBefore (last_site l.sites j) k e.site → HasNothingToDo j k
  pub lowest : IsLowestFor j e.site e.delivered
  pub most : length e.units ≤ most_units l old e.site
  pub full : length e.units < most_units l old e.site → model.is_idle (new.states e.site) ≡ true
  pub turn : IsTurnInOrder p l.sites (old.states e.site) (delivered_message j e.delivered) e (new.states e.site) (old.orders e.site) (new.orders e.site)
  pub others : (i : ℕ) → (i ≡ e.site → ⊥) → (new.states i ≡ old.states i) × (new.orders i ≡ old.orders i)

-- each turn of the journal is so, from the start to this standing
abbrev pub LeadsTo : List Stmt → Limits → List Turn → Standing → Type 0
LeadsTo p l [] now = AreAtStart p l.sites now
LeadsTo p l (e ∷ j) now = (old : Standing) × LeadsTo p l j old × IsPlainTurn p l j old e now

-- each turn of the journal is so, from the start
abbrev pub IsPlainRun : List Stmt → Limits → List Turn → Type 0
IsPlainRun p l j = (now : Standing) × LeadsTo p l j now

-- two turns that may come next are of one site, and take one message or none
abbrev pub AreTurnsDetermined : Type 0
AreTurnsDetermined =
    (p : List Stmt) (l : Limits) (j : List Turn) (old new past now : Standing) (e f : Turn) → IsPlainTurn p l j old e new → IsPlainTurn p l j past f now →
    (e.site ≡ f.site) × (e.delivered ≡ f.delivered)

-- the threads that each turn tells
abbrev pub units_told : List Turn → List (List ThreadName)
units_told [] = []
units_told (e ∷ j) = e.units ∷ units_told j

-- two plain runs whose turns tell the same threads are one
abbrev pub AreRunsDetermined : Type 0
AreRunsDetermined = (p : List Stmt) (l : Limits) (j k : List Turn) → IsPlainRun p l j → IsPlainRun p l k → units_told j ≡ units_told k → j ≡ k
