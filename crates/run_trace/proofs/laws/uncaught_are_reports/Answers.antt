use Rattle.run_trace.proofs.ReportLemmas.{uncaught_are_all, raises_are_once}
use Rattle.run_trace.proofs.UncaughtLemmas.{uncaught_are_raised}
use Rattle.run_trace.proofs.laws.uncaught_are_reports.Goals as goal

pub returns : goal.returns
returns c = record { raised = uncaught_are_raised; all = uncaught_are_all; once = raises_are_once }
