use Rattle.std.proofs.Common.{refl}
use Rattle.site_variables.proofs.LinkLemmas.{register_recorded}
use Rattle.site_variables.proofs.RowLemmas.{done_registered}
use Rattle.site_variables.proofs.variables.Variables.register.Goals as goal

pub returns-clause-linked : goal.returns-clause-linked
returns-clause-linked c = register_recorded _ _ c.args.self.now.binder _ c.args.var c.args.asking c.requires.linked c.requires.own c.in_ok-on_register.ensures.records

pub returns-clause-done : goal.returns-clause-done
returns-clause-done c = λ ts. done_registered _ _ c.args.var c.args.asking refl c.in_ok-on_register.ensures.records refl c.in_ok-on_register.ensures.sent
