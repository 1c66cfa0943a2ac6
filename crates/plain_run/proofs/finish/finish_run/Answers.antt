use Rattle.std.proofs.Common.{arith, ◌≡◌, ap, sym, subst, List, length}
use Rattle.site_message.specs.declared.turn.Turn.{Turn}
use Rattle.site_message.specs.Journal.{AreWithin}
use Rattle.world_model.specs.Schedule.{schedule, sum_to}
use Rattle.world_model.specs.Simulated.{last_ended, last_waiting}
use Rattle.world_core.specs.Laws.{AreMessagesFew}
use Rattle.plain_run.specs.Simulated.{HasMachineRun}
use Rattle.plain_run.proofs.TotalsLemmas.{totals_fit, machine_run, few_of}
use Rattle.plain_run.proofs.finish.finish_run.Goals as goal

pub last_totals-ended-requires-clause-ended : goal.last_totals-ended-requires-clause-ended
last_totals-ended-requires-clause-ended c =
    let j = c.args.driven.history in
    let fits = (totals_fit c.args.program.now c.args.limits.sites j c.is_program.ensures c.requires.limits.some_site c.requires.limits.most_sites c.requires.run).0 in
    let long : length c.into_parts-journal.result.1 ≡ length (schedule j) = ap length c.into_parts-journal.ensures.schedule in
    let same : sum_to c.args.limits.sites (last_ended c.into_parts-journal.result.0) ≡ sum_to c.args.limits.sites (last_ended j) = ap (λ (t : List Turn). sum_to c.args.limits.sites (last_ended t)) c.into_parts-journal.ensures.journal in
    let short = c.is_short.ensures in
    omega (arith, fits, long, same, short)

pub last_totals-ended-requires-clause-waiting : goal.last_totals-ended-requires-clause-waiting
last_totals-ended-requires-clause-waiting c =
    let j = c.args.driven.history in
    let fits = (totals_fit c.args.program.now c.args.limits.sites j c.is_program.ensures c.requires.limits.some_site c.requires.limits.most_sites c.requires.run).1 in
    let long : length c.into_parts-journal.result.1 ≡ length (schedule j) = ap length c.into_parts-journal.ensures.schedule in
    let same : sum_to c.args.limits.sites (last_waiting c.into_parts-journal.result.0) ≡ sum_to c.args.limits.sites (last_waiting j) = ap (λ (t : List Turn). sum_to c.args.limits.sites (last_waiting t)) c.into_parts-journal.ensures.journal in
    let short = c.is_short.ensures in
    omega (arith, fits, long, same, short)

pub returns-clause-simulated : goal.returns-clause-simulated
returns-clause-simulated c =
    subst (HasMachineRun c.args.program.now c.args.limits.sites) (sym c.into_parts-journal.ensures.journal)
    (machine_run c.args.program.now c.args.limits.sites c.args.driven.history c.is_program.ensures c.requires.limits.some_site c.requires.limits.most_sites c.requires.run)

pub returns-clause-few : goal.returns-clause-few
returns-clause-few c =
    subst (AreMessagesFew c.args.program.now c.args.limits.sites) (sym c.into_parts-journal.ensures.journal)
    (few_of c.args.program.now c.args.limits.sites c.args.driven.history c.is_program.ensures c.requires.limits.some_site c.requires.limits.most_sites c.requires.run)

pub returns-clause-within : goal.returns-clause-within
returns-clause-within c = λ within. subst (AreWithin c.args.limits) (sym c.into_parts-journal.ensures.journal) within
