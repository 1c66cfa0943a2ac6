use Rattle.site_variables.proofs.FitLemmas.{equation_known, equation_new, not_own}
use Rattle.site_variables.proofs.variables.Variables.agrees.Goals as goal

pub returns-in-Some : goal.returns-in-Some
returns-in-Some c = equation_known c.args.self.now c.args.var c.args.term.now c.in-Some.known.now c.equal_term.result c.forest.ensures.forest c.requires c.in-Some.ensures.some c.equal_term.ensures

pub returns-in-None : goal.returns-in-None
returns-in-None c = equation_new c.args.self.now c.args.var c.args.term.now _ c.requires c.in-None.ensures.none (not_own c.args.self.now.binder c.args.var c.owns.result c.owns.ensures)
