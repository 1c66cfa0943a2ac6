-- What a run over sites comes to, by what it left.
use Rattle.std.proofs.Common.{◌≡◌, ◌∙◌, ap, sym, subst, refl, not, ℕ, List, [], ◌∷◌, length, Bool, true, false, Option, Some, None, inl, inr}
use Rattle.std.specs.Prelude.{◌&&◌, nat_lt, nat_le, if◌then◌else◌}
use Rattle.tree_node.specs.State.{State}
use Rattle.tree_node.specs.declared.pick.Pick.{Pick}
use Rattle.oz_model.specs.Laws.{RunsAreDetermined}
use Rattle.oz_model.specs.Run.{Run}
use Rattle.kernel_syntax.specs.declared.stmt.Stmt.{Stmt}
use Rattle.site_message.specs.declared.limits.Limits.{Limits}
use Rattle.site_message.specs.declared.reason.Reason.{Reason}
use Rattle.site_message.specs.declared.reason.Reason.TheVariants as reason
use Rattle.site_message.specs.declared.turn.Turn.{Turn}
use Rattle.site_message.specs.Journal.{AreWithin, are_idle, end_of, is_empty, is_quiet, sent_of, travelling}
use Rattle.site_message.specs.EarlierEnd.{HasNoEarlierEnd}
use Rattle.site_message.specs.Laws.{QuietTells}
use Rattle.site_model.specs.Bundle.{bundle_limit}
use Rattle.site_model.specs.Site.{Site}
use Rattle.world_model.specs.Matches.{EquationsMatch}
use Rattle.world_model.specs.Simulated.{IsSimulated, last_ended, last_waiting}
use Rattle.world_model.specs.World.{eqs}
use Rattle.world_simulation.specs.Distributed.{DistributedRun}
use Rattle.plain_run.specs.Progress.{HasReason}
use Rattle.plain_run.specs.Rounds.{IsPlainRun}
use Rattle.plain_run.specs.Simulated.{HasMachineRun}
use Rattle.plain_run.specs.declared.out.RunOut.{RunOut}
use Rattle.oz_words.specs.declared.options.Action.{Action}
use Rattle.oz_words.specs.declared.options.Action.TheVariants as action
use Rattle.oz_words.specs.declared.options.Options.{Options}
use Rattle.oz_show.specs.Status.{HasLine}
use Rattle.oz_show.specs.declared.status.Status.{Status}
use Rattle.oz_show.specs.declared.status.Status.TheVariants.{Quiescent, Usage, Refused, NotUtf8, TooLong, StepLimit, MessageLimit, ReadFault, WriteFault, Memory, Checked, Wrong, BadFile}
use Rattle.oz_runner.specs.OzCall.{RunOutput, run_output_of}
use Rattle.oz_runner.specs.Run.{IsStatusOfRun, HasEnded, IsMadeByMachine, IsMadeBySites, IsQuiet, IsNew, IsRun, OfSitesOrMachine, SitesAreSilent, StopsFor, limits_of}
use Rattle.oz_runner.specs.Checking.{status_after, status_of_end}
use Rattle.oz_runner.specs.Ends.{IsOverSites, status_of}
use Rattle.world_model.specs.Schedule.{lines_in, schedule, sum_to}

-- ---- the end of a journal

chosen_quiet : (a b c : Bool) (site : ℕ)
    → (if a then Some reason.Messages else if b then Some (reason.Steps site) else if c then Some reason.Quiet else None) ≡ Some reason.Quiet
    → c ≡ true
chosen_quiet true b c site e = cc
chosen_quiet false true c site e = cc
chosen_quiet false false true site e = refl
chosen_quiet false false false site e = cc

-- a journal that ends quiet is quiet
quiet_end : (l : Limits) (j : List Turn) → end_of l j ≡ Some reason.Quiet → is_quiet l.sites j ≡ true
quiet_end l [] is = cc
quiet_end l (e ∷ j) is =
    chosen_quiet (nat_lt l.messages (length (sent_of (e ∷ j)))) (nat_le l.steps e.steps && not e.idle) (is_quiet l.sites (e ∷ j)) e.site is

none_of : {X : Type 0} (xs : List X) (b : Bool) → (is_empty xs && b) ≡ true → xs ≡ []
none_of [] b e = refl
none_of (x ∷ xs) b e = cc

-- ---- the sites

-- what a run over sites left
pub record Leaves (p : List Stmt) (options : Options) (out : RunOut) : Type 0 where
  pub run : HasMachineRun p options.sites out.journal
  pub rows : DistributedRun p options.sites bundle_limit out.journal run.0
  pub picks : out.schedule ≡ schedule out.journal
  pub reason : HasReason (limits_of options) out.journal out.reason
  pub went : HasNoEarlierEnd (limits_of options) out.journal
  pub within : AreWithin (limits_of options) out.journal
  pub rounds : options.seed ≡ None → options.workers ≡ 0 → IsPlainRun p (limits_of options) out.journal
  pub ended : out.ended ≡ sum_to options.sites (last_ended out.journal)
  pub waiting : out.waiting ≡ sum_to options.sites (last_waiting out.journal)

-- ---- what is said of each action that runs over the sites

over_sites : (a : Action) (OfSites OfMachine : Type 0) → IsOverSites a → OfSites → OfSitesOrMachine a OfSites OfMachine
over_sites action.Run OfSites OfMachine over holds = holds
over_sites (action.Gen size) OfSites OfMachine over holds = holds
over_sites action.Save OfSites OfMachine over holds = holds
over_sites action.Central OfSites OfMachine over holds = absurd over
over_sites action.Check OfSites OfMachine over holds = absurd over

new_over_sites : (a : Action) → IsOverSites a → IsNew a
new_over_sites action.Run over = tt
new_over_sites (action.Gen size) over = tt
new_over_sites action.Save over = tt
new_over_sites action.Central over = absurd over
new_over_sites action.Check over = absurd over

module _ (p : List Stmt) (options : Options) (out : RunOut) (is : IsOverSites options.action) (tells : QuietTells) (one : RunsAreDetermined) (left : Leaves p options out) where
  abbrev states : ℕ → Site
  states = left.run.0

  abbrev s : State
  s = left.run.2.0

  abbrev simulated : IsSimulated p options.sites out.journal states s
  simulated = left.run.2.1

  abbrev by_sites : RunOutput
  by_sites = run_output_of out.journal out.schedule (lines_in out.journal)

  abbrev knowledge : EquationsMatch (eqs states) (travelling out.journal) s.equations
  knowledge = simulated.matches.parts.knowledge

  made_by_sites : IsMadeBySites p options by_sites s
  made_by_sites = record {
    states = states;
    run = left.rows;
    went = left.went;
    within = λ anew. left.within;
    rounds = λ so. left.rounds so.2 so.1;
    picks = left.picks;
    lines = refl;
    known = λ i e there.
        let central = knowledge.known i e there in
        (central, knowledge.owned e.0 e.1 central);
  }

  run_by_picks : Run p out.schedule s
  run_by_picks = subst (λ (picks : List Pick). Run p picks s) (sym left.picks) simulated.run

  sites_run : IsRun p options by_sites s
  sites_run = record {
    made_by = over_sites options.action (IsMadeBySites p options by_sites s) (IsMadeByMachine options by_sites) is made_by_sites;
    run = run_by_picks;
    lines = sym simulated.matches.lines;
    once = simulated.once;
  }

  abbrev Ends : Reason → Type 0
  Ends why = end_of (limits_of options) out.journal ≡ Some why

  sites_end : (why : Reason) → Ends why → HasEnded p options by_sites why s
  sites_end why ends = record {
    is_new = new_over_sites options.action is;
    run = sites_run;
    ends = over_sites options.action (Ends why) (StopsFor p options by_sites s why) is ends;
  }

  sites_quiet : Ends reason.Quiet → IsQuiet p options by_sites s out.ended out.waiting
  sites_quiet ends =
      let quiet = quiet_end (limits_of options) out.journal ends in
      let told = simulated.told quiet in
      record {
        silent = over_sites options.action (SitesAreSilent options.sites out.journal) (Unit {0}) is
            (none_of (travelling out.journal) (are_idle options.sites out.journal) quiet, ((tells options.sites out.journal).0 quiet).1);
        rest = (simulated.quiet quiet).rest;
        ended = left.ended ∙ sym told.ended;
        waiting = left.waiting ∙ sym told.living;
      }

  by_reason : (why : Reason) → HasReason (limits_of options) out.journal why → IsStatusOfRun p options by_sites (status_of why out.ended out.waiting)
  by_reason reason.Quiet (inl ends) = (s, sites_end reason.Quiet ends, sites_quiet ends)
  by_reason reason.Quiet (inr memory) = cc memory.0
  by_reason (reason.Steps site) (inl ends) = (s, sites_end (reason.Steps site) ends)
  by_reason (reason.Steps site) (inr memory) = cc memory.0
  by_reason reason.Messages (inl ends) = (s, sites_end reason.Messages ends)
  by_reason reason.Messages (inr memory) = cc memory.0
  by_reason reason.Memory how = (s, sites_run)

-- a run over sites comes to the status of its reason
pub sites_came : (p : List Stmt) (options : Options) (out : RunOut) → IsOverSites options.action → QuietTells → RunsAreDetermined → Leaves p options out
    → IsStatusOfRun p options (run_output_of out.journal out.schedule (lines_in out.journal)) (status_of out.reason out.ended out.waiting)
sites_came p options out is tells one left = by_reason p options out is tells one left out.reason left.reason

-- the status is that of the journal
pub sites_after : (options : Options) (out : RunOut) → HasReason (limits_of options) out.journal out.reason → out.ended ≡ sum_to options.sites (last_ended out.journal)
    → out.waiting ≡ sum_to options.sites (last_waiting out.journal) → status_of out.reason out.ended out.waiting ≡ status_after (limits_of options) out.journal
sites_after options out why ended waiting =
    by out.reason why
  where
    l : Limits
    l = limits_of options

    totals : (r : Reason) → status_of r out.ended out.waiting ≡ status_of r (sum_to l.sites (last_ended out.journal)) (sum_to l.sites (last_waiting out.journal))
    totals r = λ i. status_of r (ended i) (waiting i)

    by : (r : Reason) → HasReason (limits_of options) out.journal r → status_of r out.ended out.waiting ≡ status_after l out.journal
    by r (inl ends) =
        totals r ∙ ap (λ (o : Option Reason). status_of_end o (sum_to l.sites (last_ended out.journal)) (sum_to l.sites (last_waiting out.journal))) (sym ends)
    by r (inr (memory, goes_on)) =
        ap (λ (q : Reason). status_of q out.ended out.waiting) memory
        ∙ ap (λ (o : Option Reason). status_of_end o (sum_to l.sites (last_ended out.journal)) (sum_to l.sites (last_waiting out.journal))) (sym goes_on)

-- ---- the status

-- each status that a run comes to has an end line
pub came_line : (p : List Stmt) (options : Options) (made : RunOutput) (status : Status) → IsStatusOfRun p options made status → HasLine status
came_line p options made WriteFault came = absurd came
came_line p options made (Quiescent ended waiting) came = tt
came_line p options made Usage came = tt
came_line p options made (Refused fault) came = tt
came_line p options made (NotUtf8 at) came = tt
came_line p options made TooLong came = tt
came_line p options made (StepLimit site) came = tt
came_line p options made MessageLimit came = tt
came_line p options made ReadFault came = tt
came_line p options made Memory came = tt
came_line p options made (Checked entries picks) came = tt
came_line p options made (Wrong at) came = tt
came_line p options made (BadFile at) came = tt
