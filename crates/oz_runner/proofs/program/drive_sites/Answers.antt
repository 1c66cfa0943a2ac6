use Rattle.std.proofs.Common.{sym, subst, refl, inr, Some}
use Rattle.site_message.specs.Journal.{AreWithin}
use Rattle.site_message.specs.EarlierEnd.{HasNoEarlierEnd}
use Rattle.message_book.specs.Book.{IsReason}
use Rattle.world_core.specs.Laws.{HasRun}
use Rattle.world_core.proofs.WorldLemmas.{empty_run}
use Rattle.plain_run.specs.Progress.{HasReason}
use Rattle.oz_runner.proofs.BookLemmas.{reason_of_book}
use Rattle.oz_runner.proofs.program.drive_sites.Goals as goal

pub returns-in-Ok-clause-run : goal.returns-in-Ok-clause-run
returns-in-Ok-clause-run g c = subst (HasRun c.args.program.now c.args.limits.sites) (sym c.run_in_book.ensures.journal) c.in-Ok.ensures.run

pub returns-in-Ok-clause-reason : goal.returns-in-Ok-clause-reason
returns-in-Ok-clause-reason g c =
    let left = c.run_in_book.ensures in
    subst (λ j. HasReason c.args.limits j c.run_in_book.result.reason) (sym left.journal)
    (reason_of_book c.args.limits c.in-Ok.book.journal c.run_in_book.result.reason
    (subst (λ l. IsReason l c.in-Ok.book.journal (Some c.run_in_book.result.reason)) c.in-Ok.ensures.limits left.reason))

pub returns-in-Ok-clause-went : goal.returns-in-Ok-clause-went
returns-in-Ok-clause-went g c =
    let left = c.run_in_book.ensures in
    subst (HasNoEarlierEnd c.args.limits) (sym left.journal) (subst (λ l. HasNoEarlierEnd l c.in-Ok.book.journal) c.in-Ok.ensures.limits left.went)

pub returns-in-Ok-clause-within : goal.returns-in-Ok-clause-within
returns-in-Ok-clause-within g c =
    subst (AreWithin c.args.limits) (sym c.run_in_book.ensures.journal) (subst (λ l. AreWithin l c.in-Ok.book.journal) c.in-Ok.ensures.limits c.in-Ok.ensures.within)

pub returns-in-Err-clause-within : goal.returns-in-Err-clause-within
returns-in-Err-clause-within g c = subst (AreWithin c.args.limits) (sym c.new.ensures) tt

pub returns-in-Err-clause-went : goal.returns-in-Err-clause-went
returns-in-Err-clause-went g c = subst (HasNoEarlierEnd c.args.limits) (sym c.new.ensures) tt

pub returns-in-Err-clause-run : goal.returns-in-Err-clause-run
returns-in-Err-clause-run g c =
    subst (HasRun c.args.program.now c.args.limits.sites) (sym c.new.ensures) (empty_run c.args.program.now c.args.limits.sites)

pub returns-in-Err-clause-reason : goal.returns-in-Err-clause-reason
returns-in-Err-clause-reason g c = subst (λ j. HasReason c.args.limits j _) (sym c.new.ensures) (inr (refl, refl))
