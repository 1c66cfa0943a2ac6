use Rattle.marshal.proofs.ImportLemmas.{bound_before}
use Rattle.marshal.proofs.importing.bind.Goals as goal

pub returns-in-Some-clause-equations : goal.returns-in-Some-clause-equations
returns-in-Some-clause-equations c = bound_before c.args.store.now.equations c.args.var c.args.term c.in-Some.field-0.now c.in-Some.ensures.some
