use Rattle.std.proofs.Common.{refl}
use Rattle.site_units.proofs.RowLemmas.{get_made}
use Rattle.thread_roster.proofs.BehindLemmas.{behind_same}
use Rattle.site_units.proofs.rows.pass_on.Goals as goal

pub returns-clause-row : goal.returns-clause-row
returns-clause-row c p h = get_made p c.args.core.now c.get.new.self c.args.output.now _ c.args.cell c.args.asking c.in_ok-get.ensures.row refl refl h

pub returns-clause-order : goal.returns-clause-order
returns-clause-order c = behind_same _ _ refl
