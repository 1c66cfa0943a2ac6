-- Parts of a turn, and units of a site's threads.
use Rattle.std.specs.Prelude.{◌≡◌, ℕ, ◌+◌, ◌<◌, ◌^◌, List, [], ◌∷◌, ◌++◌, Option, Some, None}
use Rattle.tree_node.specs.declared.limits.TheConstants.{MOST_ITEMS}
use Rattle.tree_node.specs.declared.names.ThreadName.{ThreadName}
use Rattle.tree_node.specs.declared.names.Name.{Name}
use Rattle.tree_node.specs.declared.pick.Pick.{Pick}
use Rattle.tree_node.specs.Assoc.{value_of, without_key}
use Rattle.tree_node.specs.Each.{Each}
use Rattle.tree_node.specs.State.{Stack, equal_thread}
use Rattle.kernel_syntax.specs.declared.stmt.Stmt.{Stmt}
use Rattle.oz_model.specs.Effect.{vars_among}
use Rattle.oz_model.specs.Step.{end_count}
use Rattle.thread_machine.specs.declared.answer.StepOut.{StepOut}
use Rattle.thread_machine.specs.declared.answer.StepOut.TheVariants as out
use Rattle.thread_machine.specs.Running.{Running}
use Rattle.thread_machine.specs.Step.{IsStep, Fits, OutFits, HasThreadSite, fresh_of}
use Rattle.name_supply.specs.Supply.{IsMade, HasMade, site_in, AreBelow}
use Rattle.thread_roster.specs.declared.mode.Mode.TheVariants.{Runs}
use Rattle.thread_roster.specs.Threads.{Entry, set_value}
use Rattle.site_model.specs.Bundle.{bundle_limit}
use Rattle.site_model.specs.Transition.{Transition}
use Rattle.site_model.specs.Unit.{IsUnit}
use Rattle.site_model.specs.Variables.{after_makes}
use Rattle.site_variables.specs.Variables.{IsLinked}
use Rattle.site_units.specs.declared.data.Core.{Core}
use Rattle.site_units.specs.declared.data.Output.{Output}
use Rattle.site_units.specs.Core.{site_of}
use Rattle.site_units.specs.Invariant.{IsConsistent}

-- ---- parts of a turn

-- the data and the output came by this transition, and the data is consistent
pub record IsTransitionMade (p : List Stmt) (d : Transition) (c0 : Core) (o0 : Output) (c1 : Core) (o1 : Output) : Type 0 where
  pub site : site_of c1 ≡ d.site
  pub picks : o1.picks ≡ o0.picks ++ d.picks
  pub sent : o1.sent ≡ o0.sent ++ d.sent
  pub lines : o1.lines.items ≡ o0.lines.items ++ d.lines
  pub consistent : IsConsistent p c1
  pub sites : c1.sites ≡ c0.sites

-- ---- a unit

-- The functions that make a unit, and those of a message's row, send messages bare: their clauses have 0 where the limit of
-- bundles stands. As the unit or the row ends, each message gets its bundle (`pack_sent`), of all that the site knows then. By the
-- law `bundles_come_last` that is the bundle which the definitions want.

-- the thread made a unit, whose messages are bare
abbrev pub IsUnitMade : List Stmt → ThreadName → Core → Output → Core → Output → Type 0
IsUnitMade p th c0 o0 c1 o1 = (d : Transition) × IsUnit p c0.sites 0 th (site_of c0) d × IsTransitionMade p d c0 o0 c1 o1

-- and they got those of the run
abbrev pub IsUnitPacked : List Stmt → ThreadName → Core → Output → Core → Output → Type 0
IsUnitPacked p th c0 o0 c1 o1 = (d : Transition) × IsUnit p c0.sites bundle_limit th (site_of c0) d × IsTransitionMade p d c0 o0 c1 o1

-- the thread of this name is r, and can go on
abbrev pub IsRunning : Core → ThreadName → Running → Type 0
IsRunning c n r = value_of equal_thread c.threads.living n ≡ Some (r, Runs)

-- the thread of this name, which was r, made this step where it stands, and became q; the rest of the data is as it was
pub record IsStepping (p : List Stmt) (c0 c : Core) (n : ThreadName) (r q : Running) (out : StepOut) : Type 0 where
  pub consistent : IsConsistent p c0
  pub running : IsRunning c0 n r
  pub room : c0.steps < 2 ^ 50
  pub step : IsStep p r c0.variables.store c0.fresh out q c.variables.store c.fresh
  pub fits : Fits p q c.variables.store
  pub handed : OutFits p c.variables.store.known out
  pub place : HasThreadSite out
  pub unmade : Each (λ (x : Name). IsMade c0.fresh x → ⊥) (fresh_of out)
  pub made : Each (HasMade c.fresh) (fresh_of out)
  pub stays : (x : Name) → IsMade c0.fresh x → IsMade c.fresh x
  pub site : site_in c.fresh ≡ site_in c0.fresh
  pub few : (m : ℕ) → AreBelow m c0.fresh → AreBelow (m + MOST_ITEMS) c.fresh
  pub living : c.threads.living ≡ set_value c0.threads.living n q
  pub ended : c.threads.ended ≡ c0.threads.ended
  pub records : c.variables.binder ≡ c0.variables.binder
  pub cells : c.cells ≡ c0.cells
  pub ports : c.ports ≡ c0.ports
  pub homes : c.homes ≡ c0.homes
  pub sites : c.sites ≡ c0.sites
  pub steps : c.steps ≡ c0.steps

-- ---- an own step

-- the pick of a step that adds no equation
abbrev pub pick_of : StepOut → Option Pick
pick_of (out.Ran k) = Some k
pick_of (out.Spawn k at name code vars) = Some k
pick_of (out.NewCell k cell content) = Some k
pick_of (out.NewPort k port end) = Some k
pick_of (out.Line k line) = Some k
pick_of _ = None

-- the step was made by this pick
abbrev pub IsPicked : List Stmt → Core → Core → ThreadName → Running → Running → StepOut → Pick → Type 0
IsPicked p c0 c n r q out k = IsStepping p c0 c n r q out × (pick_of out ≡ Some k)

-- the thread of a name stays where it stands, or has ended with this stack
abbrev pub without_ended : List (Entry Running) → ThreadName → Stack → List (Entry Running)
without_ended ts n [] = without_key equal_thread ts n
without_ended ts n (i ∷ is) = ts

-- the thread made an own step, and goes on or has ended
pub record IsSettled (c : Core) (n : ThreadName) (q : Running) (c1 : Core) : Type 0 where
  pub variables : c1.variables ≡ c.variables
  pub cells : c1.cells ≡ c.cells
  pub ports : c1.ports ≡ c.ports
  pub homes : c1.homes ≡ c.homes
  pub living : c1.threads.living ≡ without_ended c.threads.living n q.stack
  pub ended : c1.threads.ended ≡ c.threads.ended + end_count q.stack
  pub fresh : c1.fresh ≡ c.fresh
  pub sites : c1.sites ≡ c.sites
  pub steps : c1.steps ≡ c.steps + 1

-- the variables among the names of the pick were made besides
pub record IsFinished (c : Core) (n : ThreadName) (q : Running) (k : Pick) (c1 : Core) : Type 0 where
  pub store : c1.variables.store ≡ c.variables.store
  pub records : c1.variables.binder ≡ after_makes c.variables.binder (vars_among k.fresh)
  pub linked : IsLinked c1.variables
  pub cells : c1.cells ≡ c.cells
  pub ports : c1.ports ≡ c.ports
  pub homes : c1.homes ≡ c.homes
  pub living : c1.threads.living ≡ without_ended c.threads.living n q.stack
  pub ended : c1.threads.ended ≡ c.threads.ended + end_count q.stack
  pub fresh : c1.fresh ≡ c.fresh
  pub sites : c1.sites ≡ c.sites
  pub steps : c1.steps ≡ c.steps + 1
