-- What is due of a run that is to be saved, and its cause.
use Rattle.std.proofs.Common.{arith, ◌≡◌, ◌∙◌, ℕ, ◌≤◌, List, [], ◌++◌, length, Option, Some, None, ap, refl, sym, subst, inl, inr}
use Rattle.std.specs.Prelude.{codes, decimal}
use Rattle.tree_node.specs.State.{State}
use Rattle.kernel_syntax.specs.declared.stmt.Stmt.{Stmt}
use Rattle.kernel_syntax.specs.Program.{IsProgram}
use Rattle.site_message.specs.declared.limits.Limits.{Limits}
use Rattle.site_message.specs.Journal.{end_of}
use Rattle.site_message.specs.declared.reason.Reason.{Reason}
use Rattle.site_message.specs.declared.reason.Reason.TheVariants as reason
use Rattle.site_message.specs.declared.turn.Turn.{Turn}
use Rattle.site_model.specs.Bundle.{bundle_limit}
use Rattle.world_model.specs.Schedule.{sum_to}
use Rattle.world_model.specs.Simulated.{last_ended, last_waiting}
use Rattle.world_simulation.specs.Distributed.{RunsTakeRows}
use Rattle.byte_fields.specs.Text.{IsLine}
use Rattle.run_file.specs.Fits.{MayBeSaved, TheseAreSaved}
use Rattle.run_file.specs.Saved.{Saved, SavedRun}
use Rattle.run_file.specs.Writing.{AreNumbered, run_of, saved_text}
use Rattle.run_check.specs.Laws.{RunsMayBeSaved}
use Rattle.run_check.proofs.LineLemmas.{decimal_line, line_joined}
use Rattle.oz_words.specs.declared.options.Action.{Action}
use Rattle.oz_words.specs.declared.options.Action.TheVariants as action
use Rattle.oz_words.specs.declared.options.Options.{Options}
use Rattle.oz_show.specs.Status.{HasLine, end_line}
use Rattle.oz_show.specs.declared.status.Status.{Status}
use Rattle.oz_show.specs.declared.status.Status.TheVariants.{Quiescent, Usage, Refused, NotUtf8, TooLong, StepLimit, MessageLimit, ReadFault, WriteFault, Memory, Checked, Wrong, BadFile}
use Rattle.oz_runner.specs.OzCall.{OzCall, RunOutput, Stream, run_output_of}
use Rattle.oz_runner.specs.Cause.{Cause, HasProgram, IsTextOf, NothingRan, text_limit}
use Rattle.oz_runner.specs.Checking.{status_after, status_of_end}
use Rattle.oz_runner.specs.Due.{File, IsDue, IsToBeSaved}
use Rattle.oz_runner.specs.Ends.{journal_of, lines_of, output_of_work, status_of}
use Rattle.oz_runner.specs.Run.{IsMadeByMachine, IsMadeBySites, IsNew, IsRun, IsStatusOfRun, OfSitesOrMachine, limits_of}
use Rattle.oz_runner.specs.Saving.{IsPlain, IsReady, IsReadyAs, IsSavedAs, IsWithFile}
use Rattle.oz_runner.specs.declared.work.RunLines.{RunLines}
use Rattle.oz_runner.specs.declared.work.RunLines.TheVariants as printed
use Rattle.oz_runner.specs.declared.work.Work.{Work}
use Rattle.oz_runner.proofs.CauseLemmas.{new_without, ran_cause, same_action, text_stops}

-- ---- the end line has no newline in it

reason_line : (r : Reason) (ended waiting : ℕ) → IsLine (end_line (status_of r ended waiting))
reason_line reason.Quiet ended waiting =
    line_joined (codes "quiescent ended=") (decimal ended ++ codes " waiting=" ++ decimal waiting) refl
    (line_joined (decimal ended ++ codes " waiting=") (decimal waiting)
    (line_joined (decimal ended) (codes " waiting=") (decimal_line ended) refl) (decimal_line waiting))
reason_line (reason.Steps site) ended waiting = line_joined (codes "stopped steps site=") (decimal site) refl (decimal_line site)
reason_line reason.Messages ended waiting = refl
reason_line reason.Memory ended waiting = refl

after_line : (l : Limits) (j : List Turn) → IsLine (end_line (status_after l j))
after_line l j = go (end_of l j) (sum_to l.sites (last_ended j)) (sum_to l.sites (last_waiting j))
  where
    go : (o : Option Reason) (ended waiting : ℕ) → IsLine (end_line (status_of_end o ended waiting))
    go None ended waiting = refl
    go (Some r) ended waiting = reason_line r ended waiting

-- ---- the work

-- nothing is left where nothing ran
pub nothing_ran : (work : Work) → work.printed ≡ printed.Sites [] → work.schedule ≡ [] → NothingRan (output_of_work work)
nothing_ran work lines picks = (ap journal_of lines, picks, ap lines_of lines)

-- a run without turns that is no saved run has none
pub plain_journal : (lines : RunLines) → IsPlain lines → ((journal : List Turn) → lines ≡ printed.Sites journal → ⊥) → journal_of lines ≡ []
plain_journal (printed.Sites journal) plain none = absurd (none journal refl)
plain_journal (printed.Machine lines) plain none = refl
plain_journal (printed.Saved journal file) plain none = absurd plain

-- what is not to be saved has no saved run
pub unsaved_ready : (seen : OzCall) (work : Work) → IsPlain work.printed → (IsToBeSaved seen (output_of_work work) → ⊥) → IsReady seen work
unsaved_ready seen work plain unsaved = go work.printed plain
  where
    go : (lines : RunLines) → IsPlain lines → IsReadyAs seen (output_of_work work) work.status lines
    go (printed.Sites journal) holds = unsaved
    go (printed.Machine lines) holds = unsaved
    go (printed.Saved journal file) holds = absurd holds

-- nor has what has no turn
pub turnless_ready : (seen : OzCall) (work : Work) → IsPlain work.printed → journal_of work.printed ≡ [] → IsReady seen work
turnless_ready seen work plain none = unsaved_ready seen work plain (λ saved. saved.1 none)

-- the run that has its saved run is the same run
same_run : (text : List ℕ) (options : Options) (old new : Work) → IsWithFile text options old new → output_of_work new ≡ output_of_work old
same_run text options old new h =
    let journals : journal_of new.printed ≡ journal_of old.printed = ap journal_of h.is ∙ sym (ap journal_of h.was) in
    let lines : lines_of new.printed ≡ lines_of old.printed = ap lines_of h.is ∙ sym (ap lines_of h.was) in
    λ i. run_output_of (journals i) (h.schedule i) (lines i)

-- ---- the run

-- a status of a run is of a run
pub run_of_status : (p : List Stmt) (options : Options) (made : RunOutput) (status : Status) → IsStatusOfRun p options made status → (s : State) × IsRun p options made s
run_of_status p options made (Quiescent ended waiting) (s, end, quiet) = (s, end.run)
run_of_status p options made (StepLimit site) (s, end) = (s, end.run)
run_of_status p options made MessageLimit (s, end) = (s, end.run)
run_of_status p options made Memory came = came
run_of_status p options made Usage came = absurd came
run_of_status p options made (Refused fault) came = absurd came
run_of_status p options made (NotUtf8 at) came = absurd came
run_of_status p options made TooLong came = absurd came
run_of_status p options made ReadFault came = absurd came
run_of_status p options made WriteFault came = absurd came
run_of_status p options made (Checked entries picks) came = absurd came
run_of_status p options made (Wrong at) came = absurd came
run_of_status p options made (BadFile at) came = absurd came

short_text : (a : Action) (file : Option SavedRun) (source : Stream) (text : List ℕ) → a ≡ action.Save → IsTextOf a file source text → length text ≤ text_limit
short_text a file source text is gave = go file (subst (λ (b : Action). IsTextOf b file source text) is gave)
  where
    go : (f : Option SavedRun) → IsTextOf action.Save f source text → length text ≤ text_limit
    go None h = h.2
    go (Some f) h = absurd h

-- the words are `save`, and this is what the run of the program came to
pub record CameTo (seen : OzCall) (given : HasProgram seen) (old : Work) : Type 0 where
  pub save : given.words.action ≡ action.Save
  pub program : IsProgram given.program
  pub came : IsStatusOfRun given.program given.options (output_of_work old) old.status
  pub after : old.status ≡ status_after (limits_of given.options) (journal_of old.printed)
  pub plain : IsPlain old.printed

-- the laws by which a run has a text
pub record SaveLaws : Type 0 where
  pub texts : RunsMayBeSaved
  pub rows : RunsTakeRows
  pub saved : TheseAreSaved

module _ (laws : SaveLaws) (seen : OzCall) (given : HasProgram seen) (old : Work) (is : CameTo seen given old) where
  abbrev made : RunOutput
  made = output_of_work old

  abbrev l : Limits
  l = limits_of given.options

  its_action : given.options.action ≡ action.Save
  its_action = ap (λ (o : Options). o.action) given.with_file ∙ (same_action given.file given.words ∙ is.save)

  no_saved : given.file ≡ None
  no_saved = new_without given.words.action given.file seen.source given.text given.is_text (subst IsNew (sym is.save) tt)

  ran : (s : State) × IsRun given.program given.options made s
  ran = run_of_status given.program given.options made old.status is.came

  by_sites : IsMadeBySites given.program given.options made ran.0
  by_sites =
      subst (λ (a : Action). OfSitesOrMachine a (IsMadeBySites given.program given.options made ran.0) (IsMadeByMachine given.options made)) its_action ran.1.made_by

  -- the run has a text
  may_be_saved : AreNumbered made.journal → MayBeSaved (run_of given.text l made.journal (end_line old.status))
  may_be_saved numbered = record {
    text = short_text given.words.action given.file seen.source given.text is.save given.is_text;
    sites = given.range.sites;
    steps = given.range.steps;
    messages = given.range.messages;
    entries = laws.texts given.program l made.journal by_sites.states is.program given.range.sites.0 given.range.sites.1 given.range.messages.1
        ((laws.rows given.program l.sites bundle_limit made.journal by_sites.states is.program given.range.sites.0 given.range.sites.1 (omega arith)).1 by_sites.run)
        by_sites.went numbered;
    end = subst (λ (status : Status). IsLine (end_line status)) (sym is.after) (after_line l made.journal);
  }

  file_due : (new : Work) → IsWithFile given.text given.options old new → IsReady seen new
  file_due new h =
      let journals : made.journal ≡ h.journal = ap journal_of h.was in
      let numbered : AreNumbered made.journal = subst AreNumbered (sym journals) h.numbered in
      let spelled : h.file ≡ saved_text given.text l made.journal (end_line old.status) =
      h.spelled ∙ ap (λ (j : List Turn). saved_text given.text l j (end_line old.status)) (sym journals) in
      let due : IsDue seen made old.status (File h.file) = (
        ((given.words, given.says, is.save), λ none. h.some (sym journals ∙ none)),
        record {
          given = given;
          s = ran.0;
          run = ran.1;
          ends = is.after;
          saved = ((laws.saved (run_of given.text l made.journal (end_line old.status))).0 (may_be_saved numbered), spelled);
        },
      ) in
      let same = same_run given.text given.options old new h in
      let moved : IsDue seen (output_of_work new) new.status (File h.file) =
      subst (λ (z : RunOutput × Status). IsDue seen z.0 z.1 (File h.file)) (λ i. (sym same i, sym h.status i)) due in
      subst (λ (lines : RunLines). IsReadyAs seen (output_of_work new) new.status lines) (sym h.is) moved

  saved_ready : (new : Work) → IsSavedAs given.text given.options old new → IsReady seen new
  saved_ready new (inl (same, none)) = subst (λ (w : Work). IsReady seen w) (sym same) (turnless_ready seen old is.plain none)
  saved_ready new (inr (inl h)) = file_due new h
  saved_ready new (inr (inr h)) = turnless_ready seen new h.plain h.journal

  saved_cause : (new : Work) → IsSavedAs given.text given.options old new → Cause seen (output_of_work new) new.status
  saved_cause new (inl (same, none)) = subst (λ (w : Work). Cause seen (output_of_work w) w.status) (sym same) (ran_cause seen made old.status given no_saved is.came)
  saved_cause new (inr (inl h)) =
      let same = same_run given.text given.options old new h in
      subst (λ (z : RunOutput × Status). Cause seen z.0 z.1) (λ i. (sym same i, sym h.status i)) (ran_cause seen made old.status given no_saved is.came)
  saved_cause new (inr (inr h)) =
      subst (λ (status : Status). Cause seen (output_of_work new) status) (sym h.status)
      (text_stops seen (output_of_work new) given.words given.file given.text given.says given.is_text (h.journal, h.schedule, h.lines))

-- what is to be written of it, and its cause
pub save_is_due : SaveLaws → (seen : OzCall) (given : HasProgram seen) (old new : Work) → CameTo seen given old → IsSavedAs given.text given.options old new → IsReady seen new
save_is_due laws seen given old new is h = saved_ready laws seen given old is new h

pub save_has_cause : SaveLaws → (seen : OzCall) (given : HasProgram seen) (old new : Work) → CameTo seen given old → IsSavedAs given.text given.options old new
    → Cause seen (output_of_work new) new.status
save_has_cause laws seen given old new is h = saved_cause laws seen given old is new h

-- and it has an end line
pub save_has_line : (text : List ℕ) (options : Options) (old new : Work) → HasLine old.status → IsSavedAs text options old new → HasLine new.status
save_has_line text options old new has (inl (same, none)) = subst (λ (w : Work). HasLine w.status) (sym same) has
save_has_line text options old new has (inr (inl h)) = subst HasLine (sym h.status) has
save_has_line text options old new has (inr (inr h)) = subst HasLine (sym h.status) tt
