-- What a run of the centralised machine comes to, by what it left.
use Rattle.std.proofs.Common.{◌≡◌, sym, subst, refl, List, [], Some}
use Rattle.tree_node.specs.Classes.{HasOneEach}
use Rattle.tree_node.specs.State.{State}
use Rattle.kernel_syntax.specs.declared.stmt.Stmt.{Stmt}
use Rattle.site_message.specs.Journal.{end_of}
use Rattle.site_message.specs.declared.reason.Reason.{Reason}
use Rattle.site_message.specs.declared.reason.Reason.TheVariants as reason
use Rattle.central_machine.specs.CentralOut.{EndsAt, HasReason}
use Rattle.central_machine.specs.declared.run.CentralOut.{CentralOut}
use Rattle.central_machine.specs.declared.run.Reason as stop
use Rattle.central_machine.specs.declared.run.Reason.TheVariants as stops
use Rattle.oz_words.specs.declared.options.Action.{Action}
use Rattle.oz_words.specs.declared.options.Action.TheVariants as action
use Rattle.oz_words.specs.declared.options.Options.{Options}
use Rattle.oz_runner.specs.OzCall.{RunOutput, run_output_of}
use Rattle.oz_runner.specs.Run.{IsStatusOfRun, HasEnded, IsMadeByMachine, IsMadeBySites, IsNew, IsRun, OfSitesOrMachine, SitesAreSilent, StopsFor, limits_of}
use Rattle.oz_runner.specs.Machine.{machine_status}

-- what is said of `central`
alone : (a : Action) (OfSites OfMachine : Type 0) → a ≡ action.Central → OfMachine → OfSitesOrMachine a OfSites OfMachine
alone a OfSites OfMachine is holds = subst (λ (a : Action). OfSitesOrMachine a OfSites OfMachine) (sym is) holds

module _ (p : List Stmt) (options : Options) (s : State) (left : CentralOut) (is : options.action ≡ action.Central) (ends : EndsAt p options.steps s left) where
  abbrev by_machine : RunOutput
  by_machine = run_output_of [] left.picks left.lines.items

  machine_run : HasOneEach s.equations → IsRun p options by_machine s
  machine_run once = record {
    made_by = alone options.action (IsMadeBySites p options by_machine s) (IsMadeByMachine options by_machine) is (refl, ends.most);
    run = ends.run;
    lines = ends.lines;
    once = once;
  }

  machine_end : (why : Reason) → HasOneEach s.equations → StopsFor p options by_machine s why → HasEnded p options by_machine why s
  machine_end why once how = record {
    is_new = subst IsNew (sym is) tt;
    run = machine_run once;
    ends = alone options.action (end_of (limits_of options) [] ≡ Some why) (StopsFor p options by_machine s why) is how;
  }

  came_for : (why : stop.Reason) → HasReason p options.steps s left why → IsStatusOfRun p options by_machine (machine_status why left.ended left.waiting)
  came_for stops.Quiet (tells, rest) = (
    s,
    machine_end reason.Quiet tells.once rest,
    record {
      silent = alone options.action (SitesAreSilent options.sites []) (Unit {0}) is tt;
      rest = rest;
      ended = tells.ended;
      waiting = tells.waiting;
    },
  )
  came_for stops.Steps (tells, all, goes_on) = (s, machine_end (reason.Steps 1) tells.once (refl, all, goes_on))
  came_for stops.Memory once = (s, machine_run once)

-- a run of the machine comes to the status of its reason
pub machine_came : (p : List Stmt) (options : Options) (s : State) (left : CentralOut) → options.action ≡ action.Central → EndsAt p options.steps s left
    → IsStatusOfRun p options (run_output_of [] left.picks left.lines.items) (machine_status left.reason left.ended left.waiting)
machine_came p options s left is ends = came_for p options s left is ends left.reason ends.reason
