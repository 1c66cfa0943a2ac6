use Rattle.site_variables.proofs.MakeLemmas.{none_owned, var_is_new}
use Rattle.site_variables.proofs.variables.Variables.make_name.Goals as goal

pub make-requires-clause-own : goal.make-requires-clause-own
make-requires-clause-own c = (var_is_new c.args.self.now.binder c.args.name c.in-Var.var c.in-Var.is c.requires).0

pub make-requires-clause-new : goal.make-requires-clause-new
make-requires-clause-new c =
    none_owned c.args.self.now.binder c.in-Var.var (var_is_new c.args.self.now.binder c.args.name c.in-Var.var c.in-Var.is c.requires).0
    (var_is_new c.args.self.now.binder c.args.name c.in-Var.var c.in-Var.is c.requires).1
