use Rattle.bind_protocol.proofs.EquationLemmas.{rows_keep_equations, equations_join}
use Rattle.bind_protocol.proofs.laws.rows_keep_equations.Goals as goal

pub returns : goal.returns
returns c = record { rows = rows_keep_equations; together = equations_join }
