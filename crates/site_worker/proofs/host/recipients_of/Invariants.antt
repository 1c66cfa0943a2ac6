use Rattle.std.proofs.Common.{take}
use Rattle.site_worker.specs.Waking.{AreRecipients}
use Rattle.site_worker.proofs.host.recipients_of.Given as goal

abbrev pub invariant-loop-one : goal.invariant-loop-one
invariant-loop-one l = AreRecipients l.recipients (take l.one-index l.sent)
