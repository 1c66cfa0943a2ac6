-- What is found of a saved run, and its cause.
use Rattle.std.proofs.Common.{arith, ◌≡◌, ◌∙◌, ◌⊎◌, ℕ, ◌+◌, List, [], ◌∷◌, length, length-append, Bool, true, false, true≢false, Some, Result, Ok, Err, ap, refl, sym, subst, inl, inr}
use Rattle.std.specs.Prelude.{◌↔◌, IfOk, IsTrue, None}
use Rattle.std.specs.Str.{IsUtf8}
use Rattle.tree_node.specs.State.{State}
use Rattle.kernel_syntax.specs.declared.stmt.Stmt.{Stmt}
use Rattle.kernel_syntax.specs.Program.{IsProgram}
use Rattle.oz_sugar.specs.Texts.{Reads}
use Rattle.site_message.specs.declared.limits.Limits.{Limits}
use Rattle.site_message.specs.EarlierEnd.{HasNoEarlierEnd}
use Rattle.site_message.specs.declared.turn.Turn.{Turn}
use Rattle.site_model.specs.Bundle.{bundle_limit}
use Rattle.site_model.specs.Site.{Site}
use Rattle.world_core.specs.Laws.{HasRun}
use Rattle.world_model.specs.Schedule.{lines_in, schedule, sum_to}
use Rattle.world_model.specs.Simulated.{IsSimulated, last_ended, last_waiting}
use Rattle.world_simulation.specs.Distributed.{RunsTakeRows}
use Rattle.world_simulation.specs.Simulation.{EveryRunIsSimulated}
use Rattle.plain_run.specs.Progress.{HasReason}
use Rattle.plain_run.specs.declared.out.RunOut.{RunOut}
use Rattle.run_file.specs.Fits.{MayBeSaved}
use Rattle.run_file.specs.Saved.{IsFirstFault, SavedRun}
use Rattle.run_file.specs.declared.entry.Entry.{Entry}
use Rattle.byte_fields.specs.declared.fault.FileFault.{FileFault}
use Rattle.byte_fields.specs.declared.fault.FileFault.TheVariants as fault
use Rattle.run_check.specs.Again.{AreMadeAgain, IsWrongAt}
use Rattle.run_check.specs.World.{limits_of as numbers_of}
use Rattle.oz_words.specs.Words.{InRange}
use Rattle.oz_words.specs.declared.options.Action.{Action}
use Rattle.oz_words.specs.declared.options.Action.TheVariants as action
use Rattle.oz_words.specs.declared.options.Options.{Options}
use Rattle.oz_show.specs.Status.{end_line}
use Rattle.oz_show.specs.declared.status.Status.{Status}
use Rattle.oz_show.specs.declared.status.Status.TheVariants.{Quiescent, Usage, Refused, NotUtf8, TooLong, StepLimit, MessageLimit, ReadFault, WriteFault, Memory, Checked, Wrong, BadFile}
use Rattle.oz_runner.specs.OzCall.{OzCall, RunOutput, run_output_of}
use Rattle.oz_runner.specs.Cause.{Cause, HasOptions, HasProgram, IsFileOfSource, IsGiven, NothingRan, ReadsSource, file_limit, options_with}
use Rattle.oz_runner.specs.Checking.{HasEndOf, IsFound, IsFrontOf, IsMadeOf, IsRight, IsWrongRun, status_after}
use Rattle.oz_runner.specs.Ends.{journal_of, lines_of, output_of_work, status_of}
use Rattle.oz_runner.specs.FileRun.{IsRunOfFile}
use Rattle.oz_runner.specs.Reading.{IsReadAs}
use Rattle.oz_runner.specs.Run.{IsMadeByMachine, IsMadeBySites, IsNew, IsRun, OfSitesOrMachine}
use Rattle.oz_runner.specs.declared.work.RunLines.TheVariants as printed
use Rattle.oz_runner.specs.declared.work.Work.{Work}
use Rattle.oz_runner.proofs.CauseLemmas.{file_text, of_file, unread_cause}
use Rattle.oz_runner.proofs.RunLemmas.{sites_after}

-- ---- a run of the program

abbrev made_of : List Turn → RunOutput
made_of j = run_output_of j (schedule j) (lines_in j)

-- the laws by which a journal is a run
pub record FileLaws : Type 0 where
  pub rows : RunsTakeRows
  pub simulated : EveryRunIsSimulated

module _ (laws : FileLaws) (p : List Stmt) (program : IsProgram p) (file : SavedRun) (fits : MayBeSaved file) (j : List Turn) (run : HasRun p file.sites j) (went : HasNoEarlierEnd (numbers_of file) j)
    (words : Options) (is : words.action ≡ action.Check) where
  abbrev options : Options
  options = options_with (Some file) words

  machine : (s : State) × IsSimulated p file.sites j run.0 s
  machine =
      let m = laws.simulated p file.sites bundle_limit j run.0 program fits.sites.0 fits.sites.1 (omega arith) run.1 in
      (m.0, m.1)

  by_sites : IsMadeBySites p options (made_of j) machine.0
  by_sites = record {
    states = run.0;
    run = (laws.rows p file.sites bundle_limit j run.0 program fits.sites.0 fits.sites.1 (omega arith)).0 run.1;
    went = went;
    within = λ anew. absurd (subst IsNew is anew);
    rounds = λ so. absurd (subst IsNew is so.0);
    picks = refl;
    lines = refl;
    known = λ i e there.
        let knowledge = machine.1.matches.parts.knowledge in
        let central = knowledge.known i e there in
        (central, knowledge.owned e.0 e.1 central);
  }

  its_run : IsRun p options (made_of j) machine.0
  its_run = record {
    made_by = subst (λ (a : Action). OfSitesOrMachine a (IsMadeBySites p options (made_of j) machine.0) (IsMadeByMachine options (made_of j))) (sym is) by_sites;
    run = machine.1.run;
    lines = sym machine.1.matches.lines;
    once = machine.1.once;
  }

made_same : (work : Work) (j : List Turn) → work.printed ≡ printed.Sites j → work.schedule ≡ schedule j → output_of_work work ≡ made_of j
made_same work j lines picks = λ i. run_output_of (journal_of (lines i)) (picks i) (lines_of (lines i))

-- what was made of a saved run is a run of the program
pub file_run : FileLaws → (p : List Stmt) → IsProgram p → (file : SavedRun) → MayBeSaved file → (j : List Turn) → HasRun p file.sites j → HasNoEarlierEnd (numbers_of file) j
    → (work : Work) → work.printed ≡ printed.Sites j → work.schedule ≡ schedule j → IsRunOfFile p file (output_of_work work)
file_run laws p program file fits j run went work lines picks =
    λ words is.
    subst (λ (made : RunOutput). (s : State) × IsRun p (options_with (Some file) words) made s) (sym (made_same work j lines picks))
    ((machine laws p program file fits j run went words is).0, its_run laws p program file fits j run went words is)

-- ---- what is found

-- an entry is wrong
pub found_wrong : (p : List Stmt) (file : SavedRun) (work : Work) (j : List Turn) (at : ℕ) → work.status ≡ Wrong at → work.printed ≡ printed.Sites j
    → IsWrongAt p (numbers_of file) file.entries at j → IsFound p file (output_of_work work) work.status
found_wrong p file work j at status lines wrong =
    subst (IsFound p file (output_of_work work)) (sym status)
    (inl (subst (IsWrongAt p (numbers_of file) file.entries at) (sym (ap journal_of lines)) wrong))

-- the status of a run that was made again is that of its journal
pub file_after : (file : SavedRun) (l : Limits) (out : RunOut) → l.sites ≡ file.sites → l.steps ≡ file.steps → l.messages ≡ file.messages
    → HasReason l out.journal out.reason → out.ended ≡ sum_to l.sites (last_ended out.journal) → out.waiting ≡ sum_to l.sites (last_waiting out.journal)
    → status_of out.reason out.ended out.waiting ≡ status_after (numbers_of file) out.journal
file_after file l out sites steps messages why ended waiting =
    sites_after (record { sites = file.sites; workers = 0; steps = file.steps; messages = file.messages; seed = None; action = action.Check }) out
    (subst (λ (k : Limits). HasReason k out.journal out.reason) (λ i. record { sites = sites i; steps = steps i; messages = messages i }) why)
    (subst (λ (n : ℕ). out.ended ≡ sum_to n (last_ended out.journal)) sites ended)
    (subst (λ (n : ℕ). out.waiting ≡ sum_to n (last_waiting out.journal)) sites waiting)

-- as many turns were made as there are entries
entries_made : (p : List Stmt) (l : Limits) (j : List Turn) (es : List Entry) (w : ℕ → Site) → AreMadeAgain p l j es w → length es ≡ length j
entries_made p l [] es w (none, start) = ap length none
entries_made p l (t ∷ j) es w (front, e, old, parts, before, again) =
    let ih = entries_made p l j front old before in
    let whole : length es ≡ length front + 1 = ap length parts ∙ length-append front (e ∷ []) in
    omega (arith, ih, whole)

-- memory was wanting behind a front of them
pub found_front : (p : List Stmt) (file : SavedRun) (work : Work) (j : List Turn) → work.status ≡ Memory → work.printed ≡ printed.Sites j
    → IsFrontOf p file j → IsFound p file (output_of_work work) work.status
found_front p file work j status lines front =
    subst (IsFound p file (output_of_work work)) (sym status) (subst (IsFrontOf p file) (sym (ap journal_of lines)) front)

-- all were made again, and the end line is that of the run
pub found_right : (p : List Stmt) (file : SavedRun) (made : RunOutput) (j : List Turn) (status : Status) (entries picks : ℕ) → made.journal ≡ j → IsMadeOf p file j
    → status ≡ status_after (numbers_of file) j → file.end ≡ end_line status → entries ≡ length file.entries → picks ≡ length made.schedule → IsRight p file made entries picks
found_right p file made j status entries picks same made_of_file after ends count picked =
    let whole : HasEndOf file j = ends ∙ ap end_line after in (
      subst (IsMadeOf p file) (sym same) made_of_file,
      subst (HasEndOf file) (sym same) whole,
      count ∙ (entries_made p (numbers_of file) j file.entries made_of_file.0 made_of_file.1 ∙ ap length (sym same)),
      picked,
    )

-- or it is another
pub found_other : (p : List Stmt) (file : SavedRun) (made : RunOutput) (j : List Turn) (status : Status) (at : ℕ) → made.journal ≡ j → IsMadeOf p file j
    → status ≡ status_after (numbers_of file) j → (file.end ≡ end_line status → ⊥) → at ≡ length file.entries → IsWrongRun p file made.journal at
found_other p file made j status at same made_of_file after other count =
    let no : HasEndOf file j → ⊥ = λ ends. other (ends ∙ ap end_line (sym after)) in
    inr (subst (IsMadeOf p file) (sym same) made_of_file, count, subst (λ (k : List Turn). HasEndOf file k → ⊥) (sym same) no)

-- the end line is compared
pub same_end : {E : Type 0} (r : Result Bool E) (b : Bool) (P : Type 0) → r ≡ Ok b → IfOk r (λ same. IsTrue same ↔ P) → b ≡ true → P
same_end {E} r b P is told held = (subst (λ (q : Result Bool E). IfOk q (λ same. IsTrue same ↔ P)) is told).0 held

pub other_end : {E : Type 0} (r : Result Bool E) (b : Bool) (P : Type 0) → r ≡ Ok b → IfOk r (λ same. IsTrue same ↔ P) → b ≡ false → P → ⊥
other_end {E} r b P is told failed holds = true≢false (sym ((subst (λ (q : Result Bool E). IfOk q (λ same. IsTrue same ↔ P)) is told).1 holds) ∙ failed)

-- ---- its cause

-- a fault that memory is none of is the first one
pub first_fault : (bytes : List ℕ) (f : FileFault) (at : ℕ) → f ≡ fault.Bad at → (f ≡ fault.Memory) ⊎ IsFirstFault bytes f → IsFirstFault bytes (fault.Bad at)
first_fault bytes f at is (inl memory) = let no : fault.Bad at ≡ fault.Memory = sym is ∙ memory in cc
first_fault bytes f at is (inr first) = subst (IsFirstFault bytes) is first

-- the bytes are those of no saved run
pub bad_file_cause : (seen : OzCall) (made : RunOutput) (words : Options) (bytes : List ℕ) (at : ℕ) → HasOptions seen words → words.action ≡ action.Check
    → IsGiven file_limit seen.source bytes → IsFirstFault bytes (fault.Bad at) → NothingRan made → Cause seen made (BadFile at)
bad_file_cause seen made words bytes at says is gave first nothing =
    ((words, says, is, (bytes, gave, first)), nothing)

-- its program was not read
pub unread_file_cause : (seen : OzCall) (made : RunOutput) (words : Options) (file : SavedRun) (status : Status) → HasOptions seen words → words.action ≡ action.Check
    → IsFileOfSource seen.source file → IsReadAs file.text (Err status) → NothingRan made → Cause seen made status
unread_file_cause seen made words file status says is gave why nothing =
    unread_cause seen made words (Some file) file.text status says (subst ReadsSource (sym is) tt) (file_text words.action seen.source file is gave) why nothing

-- the program of a saved run
abbrev file_program : (seen : OzCall) (words : Options) (file : SavedRun) (program : List Stmt) → HasOptions seen words → InRange words → words.action ≡ action.Check
    → IsFileOfSource seen.source file → MayBeSaved file → IsUtf8 file.text → Reads file.text program → HasProgram seen
file_program seen words file program says range is gave fits utf8 reads = record {
  words = words;
  says = says;
  file = Some file;
  text = file.text;
  is_text = file_text words.action seen.source file is gave;
  options = options_with (Some file) words;
  with_file = refl;
  range = record { sites = fits.sites; workers = range.workers; steps = fits.steps; messages = fits.messages; action = range.action };
  utf8 = utf8;
  program = program;
  reads = reads;
}

-- what was found of it
pub found_cause : (seen : OzCall) (made : RunOutput) (words : Options) (file : SavedRun) (program : List Stmt) (status : Status) → HasOptions seen words → InRange words
    → words.action ≡ action.Check → IsFileOfSource seen.source file → MayBeSaved file → IsUtf8 file.text → Reads file.text program → IsRunOfFile program file made
    → IsFound program file made status → Cause seen made status
found_cause seen made words file program status says range is gave fits utf8 reads run found = go status found
  where
    given : HasProgram seen
    given = file_program seen words file program says range is gave fits utf8 reads

    ran : (s : State) × IsRun program (options_with (Some file) words) made s
    ran = run words is

    go : (st : Status) → IsFound program file made st → Cause seen made st
    go (Checked entries picks) h = (given, file, refl, ran, h)
    go (Wrong at) h = (given, file, refl, ran, h)
    go Memory h = inr (given, ran, of_file program (Some file) file refl made.journal h)
    go Usage h = absurd h
    go (Quiescent ended waiting) h = absurd h
    go (Refused fault) h = absurd h
    go (NotUtf8 at) h = absurd h
    go TooLong h = absurd h
    go (StepLimit site) h = absurd h
    go MessageLimit h = absurd h
    go ReadFault h = absurd h
    go WriteFault h = absurd h
    go (BadFile at) h = absurd h
