-- How the cause of a status goes on to the status that stands before the writing, and to the one that is answered.
use Rattle.std.proofs.Common.{◌≡◌, ◌∙◌, ◌⊎◌, ◌≤◌, sym, subst, List, ℕ, ◌++◌, ◌∷◌, [], length, ap, inl, inr, refl, Option, Some, None, Err}
use Rattle.std.proofs.lemmas.List.{append-nil}
use Rattle.std.specs.Io.KnownBytes.{Consumes}
use Rattle.tree_node.specs.declared.pick.Pick.{Pick}
use Rattle.site_message.specs.declared.turn.Turn.{Turn}
use Rattle.oz_base.specs.Streams.{HandsInOnly}
use Rattle.oz_model.specs.Output.{output, pieces_of}
use Rattle.kernel_syntax.specs.declared.stmt.Stmt.{Stmt}
use Rattle.run_file.specs.Saved.{SavedRun}
use Rattle.oz_words.specs.declared.options.Action.{Action}
use Rattle.oz_words.specs.declared.options.Action.TheVariants as action
use Rattle.oz_words.specs.declared.options.Options.{Options}
use Rattle.oz_show.specs.Status.{end_line, HasLine, HasNumbers}
use Rattle.oz_show.specs.declared.status.Status.{Status}
use Rattle.oz_show.specs.declared.status.Status.TheVariants.{Quiescent, Usage, Refused, NotUtf8, TooLong, StepLimit, MessageLimit, ReadFault, WriteFault, Memory, Checked, Wrong, BadFile}
use Rattle.oz_runner.specs.OzCall.{Stream, OzCall, RunOutput}
use Rattle.oz_runner.specs.Cause.{Cause, HasFault, IsFileOfSource, IsGiven, HasProgram, IsTextOf, IsUntouched, HasNoFault, HasRead, NothingRan, ReadsSource, ReadsText, HasOptions, byte_limit, file_limit, options_with, text_limit}
use Rattle.oz_runner.specs.Checking.{IsFrontOf, IsMadeOf, IsWrongRun}
use Rattle.oz_runner.specs.Due.{Due, File, IsDue, IsRestOfDue, IsRestOfOutput, Lines, due_bytes, lines_before}
use Rattle.oz_runner.specs.Reading.{IsReadAs}
use Rattle.oz_runner.specs.Saving.{IsPlain, IsReadyAs, IsRestOfWork, bytes_due, due_of}
use Rattle.oz_runner.specs.Ends.{lines_of}
use Rattle.oz_runner.specs.declared.work.RunLines.{RunLines}
use Rattle.oz_runner.specs.declared.work.RunLines.TheVariants as printed
use Rattle.oz_runner.specs.declared.work.Work.{Work}
use Rattle.oz_runner.specs.Run.{IsNew, IsStatusOfRun}
use Rattle.oz_runner.specs.Headline.{Headline}
use Rattle.oz_runner.specs.Writing.{IsReportedAs, IsOutputTaken, after_fault}
use Rattle.oz_runner.specs.Pieces.{IsWrittenByLine}

-- no saved run is one of none
no_file : (P : SavedRun → Type 0) (o : Option SavedRun) → o ≡ None → (file : SavedRun) → o ≡ Some file → P file
no_file P None is file other = cc
no_file P (Some f) is file other = cc

-- the end of a new run
pub ran_cause : (seen : OzCall) (made : RunOutput) (status : Status) (given : HasProgram seen) → given.file ≡ None → IsStatusOfRun given.program given.options made status → Cause seen made status
ran_cause seen made (Quiescent ended waiting) given new came = (given, came)
ran_cause seen made (StepLimit site) given new came = (given, came)
ran_cause seen made MessageLimit given new came = (given, came)
ran_cause seen made Memory given new came = inr (given, came, no_file (λ (file : SavedRun). IsFrontOf given.program file made.journal) given.file new)
ran_cause seen made Usage given new came = absurd came
ran_cause seen made (Refused fault) given new came = absurd came
ran_cause seen made (NotUtf8 at) given new came = absurd came
ran_cause seen made TooLong given new came = absurd came
ran_cause seen made ReadFault given new came = absurd came
ran_cause seen made WriteFault given new came = absurd came
ran_cause seen made (Checked entries picks) given new came = absurd came
ran_cause seen made (Wrong at) given new came = absurd came
ran_cause seen made (BadFile at) given new came = absurd came

-- the source gave bytes to its end, and so no more than may be
read_within : (seen : OzCall) (words : Options) (a : Action) → words.action ≡ a → HasOptions seen words → ReadsSource a → (limit : ℕ) → ((n : ℕ) → n ≤ limit → n ≤ byte_limit a)
    → (bytes : List ℕ) → IsGiven limit seen.source bytes → HasRead seen HasNoFault (λ n most. n ≤ most)
read_within seen words a is says reads limit most bytes gave =
    let moved = subst (λ (b : Action). ReadsSource b × (HasNoFault seen.source × ((front : List ℕ) × Consumes seen.source.bytes_before seen.source.bytes_after front × (length front ≤ byte_limit b)))) (sym is)
    (reads, (gave.3, (bytes, gave.0, most (length bytes) gave.2))) in
    (words, says, moved.0, moved.1)

-- no more was read than may be
read_front : (seen : OzCall) (words : Options) (file : Option SavedRun) (text : List ℕ) (a : Action) → words.action ≡ a → HasOptions seen words → IsTextOf a file seen.source text
    → IsUntouched seen.source ⊎ HasRead seen HasNoFault (λ n most. n ≤ most)
read_front seen words None text action.Run is says gave = inr (read_within seen words action.Run is says tt text_limit (λ n less. less) text gave)
read_front seen words None text action.Central is says gave = inr (read_within seen words action.Central is says tt text_limit (λ n less. less) text gave)
read_front seen words None text action.Save is says gave = inr (read_within seen words action.Save is says tt text_limit (λ n less. less) text gave)
read_front seen words None text (action.Gen size) is says gave = inl gave.1
read_front seen words None text action.Check is says gave = absurd gave
read_front seen words (Some file) text action.Check is says gave = inr (read_within seen words action.Check is says tt file_limit (λ n less. less) gave.0.0 gave.0.1)
read_front seen words (Some file) text action.Run is says gave = absurd gave
read_front seen words (Some file) text action.Central is says gave = absurd gave
read_front seen words (Some file) text action.Save is says gave = absurd gave
read_front seen words (Some file) text (action.Gen size) is says gave = absurd gave

-- a text for which no memory was left
pub text_stops : (seen : OzCall) (made : RunOutput) (words : Options) (file : Option SavedRun) (text : List ℕ) → HasOptions seen words → IsTextOf words.action file seen.source text
    → NothingRan made → Cause seen made Memory
text_stops seen made words file text says is_text nothing = inl (read_front seen words file text words.action refl says is_text, nothing)

-- bytes that are no text, or one that stands for no program
pub unread_cause : (seen : OzCall) (made : RunOutput) (words : Options) (file : Option SavedRun) (text : List ℕ) (status : Status) → HasOptions seen words → ReadsSource words.action
    → IsTextOf words.action file seen.source text → IsReadAs text (Err status) → NothingRan made → Cause seen made status
unread_cause seen made words file text (NotUtf8 at) says reads is_text why nothing = ((words, says, (file, text, is_text, (reads, why.0, why.1))), nothing)
unread_cause seen made words file text (Refused fault) says reads is_text why nothing = ((words, says, (file, text, is_text, (why.0, why.1))), nothing)
unread_cause seen made words file text Memory says reads is_text why nothing = text_stops seen made words file text says is_text nothing
unread_cause seen made words file text (Quiescent ended waiting) says reads is_text why nothing = absurd why
unread_cause seen made words file text Usage says reads is_text why nothing = absurd why
unread_cause seen made words file text TooLong says reads is_text why nothing = absurd why
unread_cause seen made words file text (StepLimit site) says reads is_text why nothing = absurd why
unread_cause seen made words file text MessageLimit says reads is_text why nothing = absurd why
unread_cause seen made words file text ReadFault says reads is_text why nothing = absurd why
unread_cause seen made words file text WriteFault says reads is_text why nothing = absurd why
unread_cause seen made words file text (Checked entries picks) says reads is_text why nothing = absurd why
unread_cause seen made words file text (Wrong at) says reads is_text why nothing = absurd why
unread_cause seen made words file text (BadFile at) says reads is_text why nothing = absurd why

-- a text that the source gave is the one that is run
pub source_text : (a : Action) (source : Stream) (text : List ℕ) → ReadsText a → IsGiven text_limit source text → IsTextOf a None source text
source_text action.Run source text reads gave = gave
source_text action.Central source text reads gave = gave
source_text action.Save source text reads gave = gave
source_text (action.Gen size) source text reads gave = absurd reads
source_text action.Check source text reads gave = absurd reads

-- so is that of the saved run
pub file_text : (a : Action) (source : Stream) (file : SavedRun) → a ≡ action.Check → IsFileOfSource source file → IsTextOf a (Some file) source file.text
file_text a source file is gave = subst (λ (b : Action). IsTextOf b (Some file) source file.text) (sym is) (gave, refl)

-- ---- a front of a saved run

-- the whole of it
pub made_front : (p : List Stmt) (file : SavedRun) (j : List Turn) → IsMadeOf p file j → IsFrontOf p file j
made_front p file j (w, made) = (file.entries, [], w, sym (append-nil file.entries), made)

-- those before the one that is wrong
wrong_front : (p : List Stmt) (file : SavedRun) (j : List Turn) (at : ℕ) → IsWrongRun p file j at → IsFrontOf p file j
wrong_front p file j at (inl (front, behind, e, w, parts, count, made, wrong)) = (front, e ∷ behind, w, parts, made)
wrong_front p file j at (inr (all, count, other)) = made_front p file j all

-- there is one saved run
pub of_file : (p : List Stmt) (o : Option SavedRun) (file : SavedRun) → o ≡ Some file → (j : List Turn) → IsFrontOf p file j → (g : SavedRun) → o ≡ Some g → IsFrontOf p g j
of_file p None file is j front g other = cc
of_file p (Some f) file is j front g other =
    let one : f ≡ file = cc in
    let two : f ≡ g = cc in
    subst (λ (x : SavedRun). IsFrontOf p x j) (sym one ∙ two) front

-- a new run has none
pub new_without : (a : Action) (o : Option SavedRun) (source : Stream) (text : List ℕ) → IsTextOf a o source text → IsNew a → o ≡ None
new_without a None source text gave new = refl
new_without action.Check (Some file) source text gave new = absurd new
new_without action.Run (Some file) source text gave new = absurd gave
new_without action.Central (Some file) source text gave new = absurd gave
new_without action.Save (Some file) source text gave new = absurd gave
new_without (action.Gen size) (Some file) source text gave new = absurd gave

pub same_action : (file : Option SavedRun) (words : Options) → (options_with file words).action ≡ words.action
same_action None words = refl
same_action (Some file) words = refl

not_new : (seen : OzCall) (made : RunOutput) (given : HasProgram seen) → IsNew given.options.action → (file : SavedRun) → given.file ≡ Some file → IsFrontOf given.program file made.journal
not_new seen made given new =
    no_file (λ (file : SavedRun). IsFrontOf given.program file made.journal) given.file
    (new_without given.words.action given.file seen.source given.text given.is_text
    (subst IsNew (ap (λ (o : Options). o.action) given.with_file ∙ same_action given.file given.words) new))

-- work whose end line finds no memory
memory_cause : (seen : OzCall) (made : RunOutput) (status : Status) → HasNumbers status → Cause seen made status → Cause seen made Memory
memory_cause seen made (Quiescent ended waiting) has (given, (state, end, quiet)) = inr (given, (state, end.run), not_new seen made given end.is_new)
memory_cause seen made (StepLimit site) has (given, (state, end)) = inr (given, (state, end.run), not_new seen made given end.is_new)
memory_cause seen made MessageLimit has cause = absurd has
memory_cause seen made (NotUtf8 at) has ((words, says, (file, text, is_text, holds)), nothing) = text_stops seen made words file text says is_text nothing
memory_cause seen made (Refused fault) has ((words, says, (file, text, is_text, holds)), nothing) = text_stops seen made words file text says is_text nothing
memory_cause seen made (Checked entries picks) has (given, file, is, ran, found) = inr (given, ran, of_file given.program given.file file is made.journal (made_front given.program file made.journal found.0))
memory_cause seen made (Wrong at) has (given, file, is, ran, found) = inr (given, ran, of_file given.program given.file file is made.journal (wrong_front given.program file made.journal at found))
memory_cause seen made (BadFile at) has ((words, says, is, (bytes, gave, first)), nothing) =
    inl (inr (read_within seen words action.Check is says tt file_limit (λ n less. less) bytes gave), nothing)
memory_cause seen made Usage has cause = absurd has
memory_cause seen made TooLong has cause = absurd has
memory_cause seen made ReadFault has cause = absurd has
memory_cause seen made WriteFault has cause = absurd has
memory_cause seen made Memory has cause = absurd has

told_cause : (seen : OzCall) (made : RunOutput) (lines : RunLines) (status worked : Status) → IsReportedAs lines status worked → Cause seen made status → Cause seen made worked
told_cause seen made lines status worked (inl same) cause = subst (Cause seen made) (sym same) cause
told_cause seen made lines status worked (inr (plain, has, none)) cause = subst (Cause seen made) (sym none) (memory_cause seen made status has cause)

told_line : (lines : RunLines) (status worked : Status) → IsReportedAs lines status worked → HasLine status → HasLine worked
told_line lines status worked (inl same) has = subst HasLine (sym same) has
told_line lines status worked (inr (plain, numbers, none)) has = subst HasLine (sym none) tt

-- what is due of the work is what is due of the call
told_due : (seen : OzCall) (made : RunOutput) (lines : RunLines) (status worked : Status) → made.lines ≡ lines_of lines → IsReadyAs seen made status lines
    → IsReportedAs lines status worked → IsDue seen made worked (due_of lines worked)
told_due seen made (printed.Sites journal) status worked same ready told = (ap (lines_before worked) (sym same), refl, ready)
told_due seen made (printed.Machine lines) status worked same ready told = (ap (lines_before worked) (sym same), refl, ready)
told_due seen made (printed.Saved journal file) status worked same ready (inl is) = subst (λ (w : Status). IsDue seen made w (File file)) (sym is) ready
told_due seen made (printed.Saved journal file) status worked same ready (inr told) = absurd told.0

-- where the sink failed
fault_cause : (seen : OzCall) (made : RunOutput) (worked : Status) → HasFault seen.sink → Cause seen made worked → Cause seen made (after_fault worked)
fault_cause seen made Memory failed cause = cause
fault_cause seen made _ failed cause = failed

answered_cause : (seen : OzCall) (made : RunOutput) (bytes : List ℕ) (worked status : Status)
    → IsOutputTaken seen.sink bytes worked status → Cause seen made worked → Cause seen made status
answered_cause seen made bytes worked status (inl all) cause = subst (Cause seen made) (sym all.0) cause
answered_cause seen made bytes worked status (inr front) cause = subst (Cause seen made) (sym front.0) (fault_cause seen made worked front.1 cause)

-- the work, what was written of it, and by which pieces
pub headline : (seen : OzCall) (made : RunOutput) (lines : RunLines) (status worked final : Status) (journal : List Turn) (schedule : List Pick) (old new : Option (List (List ℕ)))
    → journal ≡ made.journal → schedule ≡ made.schedule → made.lines ≡ lines_of lines → Cause seen made status → IsReadyAs seen made status lines → HasLine status
    → IsReportedAs lines status worked → IsOutputTaken seen.sink (due_bytes (due_of lines worked)) worked final
    → HandsInOnly old new (IsRestOfDue (due_of lines worked)) → IsWrittenByLine seen journal schedule final old new
headline seen made lines status worked final journal schedule old new same_journal same_schedule same_lines cause ready has told wrote handed =
    let before = told_cause seen made lines status worked told cause in
    let whole : Headline seen made final = record {
      worked = worked;
      has_line = told_line lines status worked told has;
      cause = before;
      due = due_of lines worked;
      is_due = told_due seen made lines status worked same_lines ready told;
      written = wrote;
      answered = answered_cause seen made _ worked final wrote before;
    } in
    subst (λ (j : List Turn). IsWrittenByLine seen j schedule final old new) (sym same_journal)
    (subst (λ (picks : List Pick). IsWrittenByLine seen made.journal picks final old new) (sym same_schedule) (made.lines, whole, handed))

abbrev Told : (sink : Stream) (old new : Option (List (List ℕ))) (lines : RunLines) (status final : Status) → Type 0
Told sink old new lines status final =
    (worked : Status) × IsReportedAs lines status worked × IsOutputTaken sink (due_bytes (due_of lines worked)) worked final
    × HandsInOnly old new (IsRestOfDue (due_of lines worked))

told_lines : (sink : Stream) (old new : Option (List (List ℕ))) (ls : RunLines) (status : Status) (end : List ℕ) (final : Status) (lines : List (List ℕ))
    → end ≡ end_line status ++ 10 ∷ [] → due_of ls status ≡ Lines lines (end_line status) → IsOutputTaken sink (pieces_of lines ++ end) status final
    → HandsInOnly old new (IsRestOfOutput lines end) → Told sink old new ls status final
told_lines sink old new ls status end final lines is due wrote handed = (
  status,
  inl refl,
  subst (λ (d : Due). IsOutputTaken sink (due_bytes d) status final) (sym due) (subst (λ (b : List ℕ). IsOutputTaken sink (pieces_of lines ++ b) status final) is wrote),
  subst (λ (d : Due). HandsInOnly old new (IsRestOfDue d)) (sym due) (subst (λ (b : List ℕ). HandsInOnly old new (IsRestOfOutput lines b)) is handed),
)

-- what is due was written, with the piece of the end line
pub told_as : (sink : Stream) (old new : Option (List (List ℕ))) (lines : RunLines) (status : Status) (end : List ℕ) (final : Status)
    → end ≡ end_line status ++ 10 ∷ [] → IsOutputTaken sink (bytes_due lines status end) status final
    → HandsInOnly old new (IsRestOfWork lines status end) → Told sink old new lines status final
told_as sink old new (printed.Sites journal) status end final is wrote handed = told_lines sink old new (printed.Sites journal) status end final _ is refl wrote handed
told_as sink old new (printed.Machine lines) status end final is wrote handed = told_lines sink old new (printed.Machine lines) status end final _ is refl wrote handed
told_as sink old new (printed.Saved journal file) status end final is wrote handed = (status, inl refl, wrote, handed)

-- the saved run was written
pub told_file : (sink : Stream) (old new : Option (List (List ℕ))) (lines : RunLines) (status : Status) (end : List ℕ) (final : Status)
    → (IsPlain lines → ⊥) → IsOutputTaken sink (bytes_due lines status end) status final
    → HandsInOnly old new (IsRestOfWork lines status end) → Told sink old new lines status final
told_file sink old new (printed.Sites journal) status end final saved wrote handed = absurd (saved tt)
told_file sink old new (printed.Machine lines) status end final saved wrote handed = absurd (saved tt)
told_file sink old new (printed.Saved journal file) status end final saved wrote handed = (status, inl refl, wrote, handed)

-- the end line found no memory: the lines stay, and the status is Memory
pub told_memory : (sink : Stream) (old new : Option (List (List ℕ))) (lines kept : RunLines) (status stopped final : Status)
    → IsPlain lines → HasNumbers status → kept ≡ lines → stopped ≡ Memory → IsOutputTaken sink (bytes_due kept stopped (end_line Memory ++ 10 ∷ [])) stopped final
    → HandsInOnly old new (IsRestOfWork kept stopped (end_line Memory ++ 10 ∷ [])) → Told sink old new lines status final
told_memory sink old new lines kept status stopped final plain has same is wrote handed =
    let moved = told_as sink old new lines Memory (end_line Memory ++ 10 ∷ []) final refl
    (subst (λ (z : RunLines × Status). IsOutputTaken sink (bytes_due z.0 z.1 (end_line Memory ++ 10 ∷ [])) z.1 final) (λ i. (same i, is i)) wrote)
    (subst (λ (z : RunLines × Status). HandsInOnly old new (IsRestOfWork z.0 z.1 (end_line Memory ++ 10 ∷ []))) (λ i. (same i, is i)) handed) in
    memory_told sink old new lines status final plain has moved
  where
    memory_told : (sink : Stream) (old new : Option (List (List ℕ))) (lines : RunLines) (status final : Status) → IsPlain lines → HasNumbers status
        → Told sink old new lines Memory final → Told sink old new lines status final
    memory_told sink old new lines status final plain has (worked, inl is, wrote, handed) = (worked, inr (plain, has, is), wrote, handed)
    memory_told sink old new lines status final plain has (worked, inr told, wrote, handed) = absurd told.1

-- nothing ran for want of memory, and its line was written
pub told_without_run : (sink : Stream) (old new : Option (List (List ℕ))) (work : Work) (final : Status) → Told sink old new work.printed work.status final
    → work.status ≡ Memory → work.printed ≡ printed.Sites []
    → (final ≡ Memory) × IsOutputTaken sink (output [] (end_line Memory)) Memory Memory × HandsInOnly old new (IsRestOfOutput [] (end_line Memory ++ 10 ∷ []))
told_without_run sink old new work final (worked, told, wrote, handed) status lines =
    let is = reported_memory work.printed work.status worked status told in
    let all : IsOutputTaken sink (output [] (end_line Memory)) Memory final =
    subst (λ (z : RunLines × Status). IsOutputTaken sink (due_bytes (due_of z.0 z.1)) z.1 final) (λ i. (lines i, is i)) wrote in
    let ends = final_memory sink _ final all in
    let pieces : HandsInOnly old new (IsRestOfOutput [] (end_line Memory ++ 10 ∷ [])) =
    subst (λ (z : RunLines × Status). HandsInOnly old new (IsRestOfDue (due_of z.0 z.1))) (λ i. (lines i, is i)) handed in
    (ends, subst (IsOutputTaken sink (output [] (end_line Memory)) Memory) ends all, pieces)
  where
    reported_memory : (ls : RunLines) (status worked : Status) → status ≡ Memory → IsReportedAs ls status worked → worked ≡ Memory
    reported_memory ls status worked is (inl same) = same ∙ is
    reported_memory ls status worked is (inr (plain, has, memory)) = memory

    final_memory : (sink : Stream) (bytes : List ℕ) (final : Status) → IsOutputTaken sink bytes Memory final → final ≡ Memory
    final_memory sink bytes final (inl all) = all.0
    final_memory sink bytes final (inr front) = front.0
