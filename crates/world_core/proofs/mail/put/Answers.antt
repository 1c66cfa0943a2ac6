use Rattle.std.proofs.Common.{◌∙◌}
use Rattle.std.specs.Prelude.{nat_eq}
use Rattle.indexmap.proofs.CallerLemmas.{insert_entry-new}
use Rattle.world_core.proofs.mail.put.Goals as goal

pub returns-clause-entries : goal.returns-clause-entries
returns-clause-entries c = c.in-Ok.ensures.entries ∙ insert_entry-new nat_eq c.args.messages.now c.args.number c.args.sent c.requires.new

pub returns-clause-numbers : goal.returns-clause-numbers
returns-clause-numbers c = c.in-Ok.ensures.updates.0
