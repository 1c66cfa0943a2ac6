use Rattle.std.proofs.Common.{take, subst, sym, ap, arith, ◌∙◌, ◌++◌, ◌∷◌, ◌<◌, [], length}
use Rattle.std.specs.Int.Bits.{bit_or}
use Rattle.std.proofs.lemmas.List.{take_more, take_all}
use Rattle.site_message.specs.declared.message.Sent.{Sent}
use Rattle.site_worker.specs.Waking.{AreRecipients}
use Rattle.site_worker.proofs.Recipients.{none_sent, more_sent}
use Rattle.site_worker.proofs.host.recipients_of.Goals as goal

pub loop-one-init : goal.loop-one-init
loop-one-init c = none_sent

pub loop-one-preserved : goal.loop-one-preserved
loop-one-preserved c =
    let sent = c.args.sent.now in
    let i = c.loop-one.one-index in
    let s = c.one-item.result in
    let inside : i < length sent = omega arith in
    subst (AreRecipients (bit_or c.loop-one.recipients c.bit_of-recipients.result)) (ap (λ (t : Sent). take i sent ++ t ∷ []) c.one-item.is ∙ sym (take_more sent i s inside))
    (more_sent c.loop-one.recipients c.bit_of-recipients.result (take i sent) s c.bit_of-recipients.ensures.one c.bit_of-recipients.ensures.none c.loop-one.invariant)

pub returns : goal.returns
returns c = subst (AreRecipients c.loop-one.recipients) (take_all c.loop-one.one-index c.args.sent.now (omega arith)) c.loop-one.invariant
