-- What the run of a program comes to.
use Rattle.std.specs.Prelude.{◌≡◌, ◌≤◌, ℕ, List, [], length, IsTrue, None, Some, Contains}
use Rattle.tree_node.specs.Classes.{HasOneEach}
use Rattle.tree_node.specs.State.{State}
use Rattle.tree_node.specs.Store.{Equation}
use Rattle.kernel_syntax.specs.declared.stmt.Stmt.{Stmt}
use Rattle.oz_model.specs.Run.{Run, AtRest}
use Rattle.site_message.specs.declared.limits.Limits.{Limits}
use Rattle.site_message.specs.Journal.{AreWithin, end_of, is_idle, travelling}
use Rattle.site_message.specs.EarlierEnd.{HasNoEarlierEnd}
use Rattle.site_message.specs.declared.reason.Reason.{Reason}
use Rattle.site_message.specs.declared.turn.Turn.{Turn}
use Rattle.site_message.specs.declared.reason.Reason.TheVariants.{Quiet, Steps, Messages}
use Rattle.site_model.specs.Bundle.{bundle_limit}
use Rattle.site_model.specs.Site.{Site}
use Rattle.world_model.specs.Schedule.{schedule, lines_in}
use Rattle.world_simulation.specs.Distributed.{DistributedRun}
use Rattle.plain_run.specs.Rounds.{IsPlainRun}
use Rattle.oz_words.specs.declared.options.Action.{Action}
use Rattle.oz_words.specs.declared.options.Action.TheVariants as action
use Rattle.oz_words.specs.declared.options.Options.{Options}
use Rattle.oz_show.specs.declared.status.Status.{Status}
use Rattle.oz_show.specs.declared.status.Status.TheVariants.{Quiescent, StepLimit, MessageLimit, Memory}
use Rattle.oz_runner.specs.OzCall.{RunOutput}

-- `run`, `gen` and `save` run the program over sites, and so was what `check` makes again; `central` runs it on the machine alone: the
-- first is said of sites, the second of the machine
abbrev pub OfSitesOrMachine : Action → Type 0 → Type 0 → Type 0
OfSitesOrMachine action.Central OfSites OfMachine = OfMachine
OfSitesOrMachine _ OfSites OfMachine = OfSites

-- the run is a new one: with `check` it is a saved one, made again
abbrev pub IsNew : Action → Type 0
IsNew action.Check = ⊥
IsNew _ = Unit {0}

-- the limits of the sites
abbrev pub limits_of : Options → Limits
limits_of options = record { sites = options.sites; steps = options.steps; messages = options.messages }

-- the sites take turns in rounds: the run is a new one, without workers, and no seed is said
abbrev pub IsInRounds : Options → Type 0
IsInRounds options = IsNew options.action × (options.workers ≡ 0) × (options.seed ≡ None)

-- what the sites made: the journal is one of the program on that many, and leads to these states of them; no turn but the last
-- ended it, and in a new run no site made more own steps than the words say; in rounds its turns come in the plain order; the schedule has
-- its picks, and the lines are its; what a site knows is an equation of the machine's, which the owner of its variable has
pub record IsMadeBySites (p : List Stmt) (options : Options) (made : RunOutput) (s : State) : Type 0 where
  pub states : ℕ → Site
  pub run : DistributedRun p options.sites bundle_limit made.journal states
  pub went : HasNoEarlierEnd (limits_of options) made.journal
  pub within : IsNew options.action → AreWithin (limits_of options) made.journal
  pub rounds : IsInRounds options → IsPlainRun p (limits_of options) made.journal
  pub picks : made.schedule ≡ schedule made.journal
  pub lines : made.lines ≡ lines_in made.journal
  pub known : (i : ℕ) (e : Equation) → Contains (states i).equations e → Contains s.equations e × Contains (states e.0.site).equations e

-- what the machine made alone: there is no journal, and the schedule has at most as many steps as the words say
abbrev pub IsMadeByMachine : Options → RunOutput → Type 0
IsMadeByMachine options made = (made.journal ≡ []) × (length made.schedule ≤ options.steps)

-- the schedule leads the centralised machine from the start of the program to this state, whose lines these are and in which each
-- variable has at most one equation
pub record IsRun (p : List Stmt) (options : Options) (made : RunOutput) (s : State) : Type 0 where
  pub made_by : OfSitesOrMachine options.action (IsMadeBySites p options made s) (IsMadeByMachine options made)
  pub run : Run p made.schedule s
  pub lines : made.lines ≡ s.lines
  pub once : HasOneEach s.equations

-- the machine alone stops where it rests, or at its limit where it could go on. It is site 1
abbrev pub StopsFor : List Stmt → Options → RunOutput → State → Reason → Type 0
StopsFor p options made s Quiet = AtRest p s
StopsFor p options made s (Steps site) = (site ≡ 1) × (length made.schedule ≡ options.steps) × (AtRest p s → ⊥)
StopsFor p options made s _ = ⊥

-- no message travels, and each of the sites is idle by its last turn
abbrev pub SitesAreSilent : ℕ → List Turn → Type 0
SitesAreSilent n j = (travelling j ≡ []) × ((i : ℕ) → 1 ≤ i → i ≤ n → IsTrue (is_idle j i))

-- nothing goes on: the sites are silent, the machine has no step left, and so many of its threads have ended and so many wait
pub record IsQuiet (p : List Stmt) (options : Options) (made : RunOutput) (s : State) (told_ended told_waiting : ℕ) : Type 0 where
  pub silent : OfSitesOrMachine options.action (SitesAreSilent options.sites made.journal) (Unit {0})
  pub rest : AtRest p s
  pub ended : told_ended ≡ s.ended
  pub waiting : told_waiting ≡ length s.threads

-- a new run ended in this state, for this reason: the sites' run for the one that its journal tells
pub record HasEnded (p : List Stmt) (options : Options) (made : RunOutput) (reason : Reason) (s : State) : Type 0 where
  pub is_new : IsNew options.action
  pub run : IsRun p options made s
  pub ends : OfSitesOrMachine options.action (end_of (limits_of options) made.journal ≡ Some reason) (StopsFor p options made s reason)

-- The run of the program came to this status. Want of memory may come at any point of it, also of one that is made again; the lines are
-- then those of the schedule, as ever
abbrev pub IsStatusOfRun : List Stmt → Options → RunOutput → Status → Type 0
IsStatusOfRun p options made (Quiescent ended waiting) = (s : State) × HasEnded p options made Quiet s × IsQuiet p options made s ended waiting
IsStatusOfRun p options made (StepLimit site) = (s : State) × HasEnded p options made (Steps site) s
IsStatusOfRun p options made MessageLimit = (s : State) × HasEnded p options made Messages s
IsStatusOfRun p options made Memory = (s : State) × IsRun p options made s
IsStatusOfRun p options made _ = ⊥
