use Rattle.std.proofs.Common.{refl, subst}
use Rattle.site_core.specs.Turns.{CanDeliver}
use Rattle.site_core.proofs.DeliverLemmas.{row_for, row_for_term, can_answer}
use Rattle.site_core.proofs.deliver.deliver.Goals as goal

pub returns-in-Register-clause-row : goal.returns-in-Register-clause-row
returns-in-Register-clause-row c =
    row_for c.register.result c.args.program.now c.args.msg _ c.args.core.now c.register.new.core c.args.output.now c.register.new.output c.register.ensures.row c.in-Register.is c.requires.consistent

pub returns-in-BindReq-clause-row : goal.returns-in-BindReq-clause-row
returns-in-BindReq-clause-row c =
    let can = subst (CanDeliver c.args.program.now c.args.core.now) c.in-BindReq.is c.requires.deliverable in
    row_for_term c.grant.result c.args.program.now c.args.msg _ c.in-BindReq.term c.args.core.now c.grant.new.core c.args.output.now c.grant.new.output c.grant.ensures.row c.in-BindReq.is c.requires.consistent can.4

pub returns-in-Binding-clause-row : goal.returns-in-Binding-clause-row
returns-in-Binding-clause-row c =
    let can = subst (CanDeliver c.args.program.now c.args.core.now) c.in-Binding.is c.requires.deliverable in
    row_for_term c.learn.result c.args.program.now c.args.msg _ c.in-Binding.term c.args.core.now c.learn.new.core c.args.output.now c.learn.new.output c.learn.ensures.row c.in-Binding.is c.requires.consistent can.4

pub returns-in-Get-clause-row : goal.returns-in-Get-clause-row
returns-in-Get-clause-row c =
    row_for c.pass_on.result c.args.program.now c.args.msg _ c.args.core.now c.pass_on.new.core c.args.output.now c.pass_on.new.output c.pass_on.ensures.row c.in-Get.is c.requires.consistent

pub returns-in-Forward-clause-row : goal.returns-in-Forward-clause-row
returns-in-Forward-clause-row c =
    row_for c.follow.result c.args.program.now c.args.msg _ c.args.core.now c.follow.new.core c.args.output.now c.follow.new.output c.follow.ensures.row c.in-Forward.is c.requires.consistent

pub deliver_request_or_answer-requires-clause-deliverable : goal.deliver_request_or_answer-requires-clause-deliverable
deliver_request_or_answer-requires-clause-deliverable c =
    let d = c.in_default in
    can_answer c.args.program.now c.args.core.now c.args.msg d.not-Spawn d.not-Register d.not-BindReq d.not-Binding d.not-Get d.not-Forward d.not-Put c.requires.deliverable

pub returns-in_default-clause-row : goal.returns-in_default-clause-row
returns-in_default-clause-row c =
    row_for c.deliver_request_or_answer.result c.args.program.now c.args.msg c.args.msg c.args.core.now c.deliver_request_or_answer.new.core c.args.output.now c.deliver_request_or_answer.new.output c.deliver_request_or_answer.ensures.row refl
    c.requires.consistent
