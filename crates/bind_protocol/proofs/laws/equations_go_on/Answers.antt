use Rattle.bind_protocol.proofs.EquationLemmas.{equations_go_on}
use Rattle.bind_protocol.proofs.laws.equations_go_on.Goals as goal

pub returns : goal.returns
returns c = equations_go_on
