-- From the text that is run to its program, and which work has no saved run.
use Rattle.std.proofs.Common.{◌≡◌, ◌∙◌, ap, sym, subst, refl, ℕ, List, None}
use Rattle.std.specs.Str.{IsUtf8}
use Rattle.kernel_syntax.specs.declared.stmt.Stmt.{Stmt}
use Rattle.kernel_syntax.specs.Program.{IsProgram}
use Rattle.large_run.specs.Text.{large_text}
use Rattle.oz_sugar.specs.Texts.{Reads}
use Rattle.oz_words.specs.Words.{InRange}
use Rattle.oz_words.specs.declared.options.Action.{Action}
use Rattle.oz_words.specs.declared.options.Action.TheVariants as action
use Rattle.oz_words.specs.declared.options.Options.{Options}
use Rattle.oz_runner.specs.Cause.{Cause, HasOptions, HasProgram, IsTextOf, IsUntouched, ReadsSource, ReadsText, byte_limit, text_limit}
use Rattle.oz_runner.specs.Checking.{status_after}
use Rattle.oz_runner.specs.Ends.{IsOverSites, journal_of, output_of_work}
use Rattle.oz_runner.specs.OzCall.{OzCall, Stream}
use Rattle.oz_runner.specs.Run.{IsStatusOfRun, limits_of}
use Rattle.oz_runner.specs.Saving.{IsPlain, IsReady, IsSavedAs}
use Rattle.oz_runner.specs.declared.work.Work.{Work}
use Rattle.oz_runner.proofs.ActionLemmas.{options_same}
use Rattle.oz_runner.proofs.SaveLemmas.{CameTo, SaveLaws, save_has_cause, save_is_due, unsaved_ready}

-- with `gen` it is the large text, and the source is not read
pub size_text : (a : Action) (size : ℕ) (source : Stream) (text : List ℕ) → a ≡ action.Gen size → text ≡ large_text size → IsUntouched source → IsTextOf a None source text
size_text a size source text is same untouched = subst (λ (b : Action). IsTextOf b None source text) (sym is) (same, untouched)

-- where the source is read, and what is read is no saved run, it is a text
pub text_read : (a : Action) → ReadsSource a → (a ≡ action.Check → ⊥) → ReadsText a × (byte_limit a ≡ text_limit)
text_read action.Run reads other = (tt, refl)
text_read action.Central reads other = (tt, refl)
text_read action.Save reads other = (tt, refl)
text_read (action.Gen size) reads other = absurd reads
text_read action.Check reads other = absurd (other refl)

pub source_read : (a : Action) → ReadsText a → ReadsSource a
source_read action.Run reads = tt
source_read action.Central reads = tt
source_read action.Save reads = tt
source_read (action.Gen size) reads = absurd reads
source_read action.Check reads = absurd reads

-- a program of a text that is run as the words say
abbrev pub program_given : (seen : OzCall) (words : Options) (text : List ℕ) (p : List Stmt) → HasOptions seen words → InRange words → IsTextOf words.action None seen.source text
    → IsUtf8 text → Reads text p → HasProgram seen
program_given seen words text p says range is_text utf8 reads = record {
  words = words;
  says = says;
  file = None;
  text = text;
  is_text = is_text;
  options = words;
  with_file = refl;
  range = range;
  utf8 = utf8;
  program = p;
  reads = reads;
}

-- with another word than `save` no run is to be saved
pub other_ready : (seen : OzCall) (words : Options) (work : Work) → HasOptions seen words → (words.action ≡ action.Save → ⊥) → IsPlain work.printed → IsReady seen work
other_ready seen words work says other plain =
    unsaved_ready seen work plain (λ saved.
    let options = saved.0 in
    other (ap (λ (o : Options). o.action) (options_same seen words options.0 says options.1) ∙ options.2))

-- with `save` the work has its cause, and its saved run where it is due
pub saved_work : SaveLaws → (seen : OzCall) (given : HasProgram seen) (old new : Work) → given.words.action ≡ action.Save → given.options.action ≡ action.Save → IsProgram given.program
    → IsStatusOfRun given.program given.options (output_of_work old) old.status → IsPlain old.printed
    → (IsOverSites given.options.action → old.status ≡ status_after (limits_of given.options) (journal_of old.printed))
    → IsSavedAs given.text given.options old new → Cause seen (output_of_work new) new.status × IsReady seen new
saved_work laws seen given old new says is program came plain after h =
    let ran : CameTo seen given old = record { save = says; program = program; came = came; after = after (subst IsOverSites (sym is) tt); plain = plain } in
    (save_has_cause laws seen given old new ran h, save_is_due laws seen given old new ran h)
