use Rattle.site_variables.proofs.FitLemmas.{bundle_is}
use Rattle.site_variables.proofs.variables.Variables.bundle_fits.Goals as goal

pub returns : goal.returns
returns c = λ s. bundle_is s c.args.self.now c.args.bundle.now c.equations_fit.result c.equations_fit.ensures
