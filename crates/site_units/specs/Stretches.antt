-- Units of one thread in a stretch, of which all but one are quiet.
use Rattle.std.specs.Prelude.{◌≡◌, ◌≢◌, ◌↔◌, ◌+◌, ◌<◌, ℕ, zero, suc, List, [], IfSome}
use Rattle.tree_node.specs.declared.names.ThreadName.{ThreadName}
use Rattle.tree_node.specs.declared.names.VarName.{VarName}
use Rattle.tree_store.specs.Forest.{IsForest}
use Rattle.kernel_syntax.specs.declared.stmt.Stmt.{Stmt}
use Rattle.variable_owner.specs.Owners.{AreAlone}
use Rattle.name_supply.specs.Supply.{next_in_row}
use Rattle.statement_steps.specs.declared.context.Quiet.{Quiet}
use Rattle.statement_steps.specs.declared.context.Quiet.TheVariants as hears
use Rattle.thread_roster.specs.Threads.{IsRunnable, waiting_of}
use Rattle.site_model.specs.Site.{Site}
use Rattle.site_model.specs.Transition.{Transition, without_output, sequence}
use Rattle.site_model.specs.Unit.{IsUnit}
use Rattle.site_units.specs.declared.data.Core.{Core}

-- a unit of this thread, from a forest, that sends nothing, and after which the same other threads can go on
pub record IsQuietUnit (p : List Stmt) (n limit : ℕ) (th : ThreadName) (s : Site) (one : Transition) : Type 0 where
  pub forest : IsForest s.equations
  pub unit : IsUnit p n limit th s one
  pub silent : one.sent ≡ []
  pub runs : (m : ThreadName) → m ≢ th → IsRunnable one.site.threads m ↔ IsRunnable s.threads m

-- so many of them one after another
abbrev pub AreQuietUnits : List Stmt → ℕ → ℕ → ℕ → ThreadName → Site → Transition → Type 0
AreQuietUnits p n limit zero th s d = d ≡ without_output s
AreQuietUnits p n limit (suc m) th s d = (one rest : Transition) × IsQuietUnit p n limit th s one × AreQuietUnits p n limit m th one.site rest × (d ≡ sequence one rest)

-- so many units of this thread, of which all but one are quiet; behind that one no equation is told
pub record AreUnitsBy (p : List Stmt) (n limit count : ℕ) (th : ThreadName) (s : Site) (d : Transition) : Type 0 where
  pub front : ℕ
  pub back : ℕ
  pub before : Transition
  pub one : Transition
  pub after : Transition
  pub many : count ≡ front + suc back
  pub quiet : AreQuietUnits p n limit front th s before
  pub forest : IsForest before.site.equations
  pub unit : IsUnit p n limit th before.site one
  pub still : AreQuietUnits p n limit back th one.site after
  pub same : after.site.equations ≡ one.site.equations
  pub is : d ≡ sequence before (sequence one after)

-- of which binds nobody is to be told: of any where no thread waits, and no site is registered for a variable of this one; and else of those
-- of variables from the one on that the counter gives next
abbrev pub IsQuietFor : Core → Quiet → Type 0
IsQuietFor c hears.All = (waiting_of c.threads.living ≡ 0) × AreAlone c.variables.binder.owners
IsQuietFor c (hears.From n) = (0 < n) × IfSome (next_in_row c.fresh) (λ (x : VarName). n ≡ x.num)
IsQuietFor c hears.Never = Unit {0}
