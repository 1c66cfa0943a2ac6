use Rattle.std.proofs.Common.{refl}
use Rattle.site_units.proofs.RowLemmas.{register_made}
use Rattle.thread_roster.proofs.BehindLemmas.{behind_same}
use Rattle.site_units.proofs.rows.register.Goals as goal

pub register-requires-clause-linked : goal.register-requires-clause-linked
register-requires-clause-linked c = c.requires.consistent.1.linked

pub returns-clause-row : goal.returns-clause-row
returns-clause-row c p h =
    register_made p c.args.core.now c.register.new.self c.args.output.now _ c.args.var c.args.asking c.in_ok-register.ensures.done c.in_ok-register.ensures.linked c.in_ok-register.ensures.store refl refl h

pub returns-clause-order : goal.returns-clause-order
returns-clause-order c = behind_same _ _ refl
