-- A saved run that one call had to write is right to another.
use Rattle.std.proofs.Common.{◌≡◌, ◌∙◌, ◌⊎◌, arith, ℕ, List, Option, Some, None, ap, sym, subst, inl, inr}
use Rattle.std.specs.Prelude.{unwrap_or}
use Rattle.std.specs.Str.{IsUtf8}
use Rattle.kernel_syntax.specs.declared.stmt.Stmt.{Stmt}
use Rattle.oz_grammar.specs.Laws.{AreOneOfBoth}
use Rattle.oz_sugar.specs.Texts.{Reads, FaultOf, TextsArePrograms}
use Rattle.site_message.specs.declared.limits.Limits.{Limits}
use Rattle.site_model.specs.Bundle.{bundle_limit}
use Rattle.site_model.specs.Run.{WorldRun}
use Rattle.site_model.specs.Site.{Site}
use Rattle.world_simulation.specs.Distributed.{RunsTakeRows}
use Rattle.run_file.specs.Laws.{NotBoth, SavesOne}
use Rattle.run_file.specs.Saved.{Saved, SavedRun}
use Rattle.run_file.specs.Writing.{run_of}
use Rattle.byte_fields.specs.declared.fault.FileFault.TheVariants.{Bad}
use Rattle.run_check.specs.Again.{AreMadeAgain}
use Rattle.run_check.specs.Laws.{RunsAreMadeAgain, RunsAreNotWrong}
use Rattle.run_check.specs.World.{limits_of as numbers_of}
use Rattle.oz_words.specs.declared.options.Action.{Action}
use Rattle.oz_words.specs.declared.options.Action.TheVariants as action
use Rattle.oz_words.specs.declared.options.Options.{Options}
use Rattle.oz_show.specs.Status.{end_line}
use Rattle.oz_show.specs.declared.status.Status.{Status}
use Rattle.oz_show.specs.declared.status.Status.TheVariants.{Quiescent, Usage, Refused, NotUtf8, TooLong, StepLimit, MessageLimit, ReadFault, WriteFault, Memory, Checked, Wrong, BadFile}
use Rattle.oz_runner.specs.OzCall.{OzCall, RunOutput}
use Rattle.oz_runner.specs.Cause.{Cause, HasOptions, HasProgram, IsTextOf, file_limit, options_with}
use Rattle.oz_runner.specs.Checking.{IsRight, IsWrongRun, status_after}
use Rattle.oz_runner.specs.Due.{IsDue, IsFileDue, IsToBeSaved}
use Rattle.oz_runner.specs.Laws.{IsMadeAgainOr, SavedRunsAreRight}
use Rattle.oz_runner.specs.Run.{IsMadeByMachine, IsMadeBySites, IsNew, limits_of}
use Rattle.oz_runner.proofs.ActionLemmas.{options_same}
use Rattle.oz_runner.proofs.BesideLemmas.{by_action}
use Rattle.oz_runner.proofs.TextLemmas.{told_same}

module _ (texts : AreOneOfBoth Reads FaultOf) (programs : TextsArePrograms) (saves : SavesOne) (apart : NotBoth) (same : RunsAreMadeAgain) (right : RunsAreNotWrong) (rows : RunsTakeRows)
    (saving checking : OzCall) (made again : RunOutput) (worked : Status) (bytes : List ℕ) (saved : IsToBeSaved saving made) (due : IsFileDue saving made worked bytes)
    (words : Options) (says : HasOptions checking words) (is_check : words.action ≡ action.Check) (told : checking.source.bytes_before ≡ Some bytes) where
  abbrev given : HasProgram saving
  given = due.given

  abbrev l : Limits
  l = limits_of given.options

  abbrev run : SavedRun
  run = run_of given.text l made.journal (end_line worked)

  -- the sites made it
  by_sites : IsMadeBySites given.program given.options made due.s
  by_sites = go (by_action given.options.action (IsMadeBySites given.program given.options made due.s) (IsMadeByMachine given.options made) due.run.made_by)
    where
      go : IsMadeByMachine given.options made ⊎ IsMadeBySites given.program given.options made due.s → IsMadeBySites given.program given.options made due.s
      go (inl alone) = absurd (saved.1 alone.0)
      go (inr sites) = sites

  world : WorldRun given.program l.sites bundle_limit made.journal by_sites.states
  world =
      (rows given.program given.options.sites bundle_limit made.journal by_sites.states (programs given.text given.program given.utf8 given.reads)
      given.range.sites.0 given.range.sites.1 (omega arith)).1 by_sites.run

  -- what the other call reads is that saved run
  its_file : (other : Options) → HasOptions checking other → (file : Option SavedRun) (text : List ℕ) → IsTextOf other.action file checking.source text
      → (file ≡ Some run) × (text ≡ given.text)
  its_file other says_too file text is = go file (subst (λ (a : Action). IsTextOf a file checking.source text) (ap (λ (o : Options). o.action) (options_same checking other words says_too says) ∙ is_check) is)
    where
      go : (f : Option SavedRun) → IsTextOf action.Check f checking.source text → (f ≡ Some run) × (text ≡ given.text)
      go None h = absurd h
      go (Some f) h =
          let whole : bytes ≡ h.0.0 = told_same checking.source bytes h.0.0 file_limit told h.0.1 in
          let one : f ≡ run = saves h.0.0 f run h.0.2 (subst (Saved run) whole due.saved) in
          (ap Some one, h.1 ∙ ap (λ (r : SavedRun). r.text) one)

  not_new : (g : HasProgram checking) → IsNew g.options.action → ⊥
  not_new g is_new = go g.file (subst (λ (o : Options). IsNew o.action) g.with_file is_new)
    where
      check : g.words.action ≡ action.Check
      check = ap (λ (o : Options). o.action) (options_same checking g.words words g.says says) ∙ is_check

      go : (f : Option SavedRun) → IsNew (options_with f g.words).action → ⊥
      go None h = subst IsNew check h
      go (Some f) h = subst IsNew check h

  -- it is of the same program
  its_program : (g : HasProgram checking) → g.program ≡ given.program
  its_program g =
      let text = (its_file g.words g.says g.file g.text g.is_text).1 in
      texts.program given.text g.program given.program (subst (λ (t : List ℕ). Reads t g.program) text g.reads) given.reads

  its_run : (g : HasProgram checking) (file : SavedRun) → g.file ≡ Some file → file ≡ run
  its_run g file is = ap (λ (o : Option SavedRun). unwrap_or o file) (sym is ∙ (its_file g.words g.says g.file g.text g.is_text).0)

  journals : (v : ℕ → Site) → AreMadeAgain given.program (numbers_of run) again.journal run.entries v → again.journal ≡ made.journal
  journals v h = (same given.program l made.journal again.journal by_sites.states v world h).0

  found_right : (g : HasProgram checking) (file : SavedRun) (entries picks : ℕ) → g.file ≡ Some file → IsRight g.program file again entries picks → again.journal ≡ made.journal
  found_right g file entries picks is h =
      let moved : IsRight given.program run again entries picks =
      subst (λ (z : List Stmt × SavedRun). IsRight z.0 z.1 again entries picks) (λ i. (its_program g i, its_run g file is i)) h in
      journals moved.0.0 moved.0.1

  not_wrong : (at : ℕ) → IsWrongRun given.program run again.journal at → ⊥
  not_wrong at (inl wrong) = right given.program l made.journal again.journal by_sites.states at world by_sites.went wrong
  not_wrong at (inr (all, is, other)) =
      let whole : end_line worked ≡ end_line (status_after l again.journal) =
      ap end_line (due.ends ∙ ap (status_after l) (sym (journals all.0 all.1))) in
      other whole

  found_wrong : (g : HasProgram checking) (file : SavedRun) (at : ℕ) → g.file ≡ Some file → IsWrongRun g.program file again.journal at → ⊥
  found_wrong g file at is h =
      not_wrong at (subst (λ (z : List Stmt × SavedRun). IsWrongRun z.0 z.1 again.journal at) (λ i. (its_program g i, its_run g file is i)) h)

  answers : (checked : Status) → Cause checking again checked → IsMadeAgainOr again.journal made.journal checked
  answers ReadFault cause = tt
  answers WriteFault cause = tt
  answers TooLong cause = tt
  answers Memory cause = tt
  answers Usage cause = absurd (cause.0 says.0)
  answers (BadFile at) ((other, says_too, is, (given_bytes, gave, first)), nothing) =
      absurd (apart given_bytes run (Bad at) (subst (Saved run) (told_same checking.source bytes given_bytes file_limit told gave) due.saved) first)
  answers (NotUtf8 at) ((other, says_too, (file, text, is_text, (reads, bad, up_to))), nothing) =
      absurd (bad (subst IsUtf8 (sym (its_file other says_too file text is_text).1) given.utf8))
  answers (Refused fault) ((other, says_too, (file, text, is_text, (utf8, applies))), nothing) =
      absurd (texts.never_both text given.program fault (subst (λ (t : List ℕ). Reads t given.program) (sym (its_file other says_too file text is_text).1) given.reads) applies)
  answers (Quiescent ended waiting) (g, (s, end, quiet)) = absurd (not_new g end.is_new)
  answers (StepLimit site) (g, (s, end)) = absurd (not_new g end.is_new)
  answers MessageLimit (g, (s, end)) = absurd (not_new g end.is_new)
  answers (Checked entries picks) (g, file, is, ran, found) = found_right g file entries picks is found
  answers (Wrong at) (g, file, is, ran, found) = absurd (found_wrong g file at is found)

pub saved_right : AreOneOfBoth Reads FaultOf → TextsArePrograms → SavesOne → NotBoth → RunsAreMadeAgain → RunsAreNotWrong → RunsTakeRows → SavedRunsAreRight
saved_right texts programs saves apart same right rows saving checking made again saved checked bytes whole is (words, says, is_check) told cause =
    let due = subst (IsDue saving made whole.worked) is whole.is_due in
    answers texts programs saves apart same right rows saving checking made again whole.worked bytes due.0 due.1 words says is_check told checked cause
