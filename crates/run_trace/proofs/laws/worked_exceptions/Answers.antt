use Rattle.run_trace.proofs.RowLemmas.{integer_raises_nothing, failure_is_told, caught_is_told}
use Rattle.run_trace.proofs.laws.worked_exceptions.Goals as goal

pub returns : goal.returns
returns c = record { nothing = integer_raises_nothing; failure = failure_is_told; caught = caught_is_told }
