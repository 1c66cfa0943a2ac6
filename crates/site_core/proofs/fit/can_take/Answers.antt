use Rattle.std.proofs.Common.{inl, inr}
use Rattle.site_message.specs.declared.message.Msg.TheVariants as msg
use Rattle.site_units.specs.Core.{site_of}
use Rattle.site_core.proofs.FitLemmas.{variable_taken}
use Rattle.site_core.proofs.DeliverLemmas.{new_thread}
use Rattle.site_core.proofs.fit.can_take.Goals as goal

pub returns-in-Spawn : goal.returns-in-Spawn
returns-in-Spawn c = rw c.in-Spawn.is (new_thread c.args.core.now.threads.living c.in-Spawn.thread c.contains.result c.contains.ensures)

pub returns-in-Register : goal.returns-in-Register
returns-in-Register c =
    let site = site_of c.args.core.now in
    elim c.in-Register.is [
      | inl w ↦ variable_taken site c.args.msg.now (msg.Register w.0 w.1) c.can_take.result w.2 (λ k. k) (c.can_take.ensures site)
      | inr v ↦ elim v [
        | inl w ↦ variable_taken site c.args.msg.now (msg.BindReq w.0 w.1 w.2 w.3) c.can_take.result w.4 (λ k. k) (c.can_take.ensures site)
        | inr w ↦ variable_taken site c.args.msg.now (msg.Binding w.0 w.1 w.2) c.can_take.result w.3 (λ k. k) (c.can_take.ensures site)
      ]
    ]

pub returns-in-PortSend : goal.returns-in-PortSend
returns-in-PortSend c = rw c.in-PortSend.is c.has_port.ensures

pub returns-in-PortEnd : goal.returns-in-PortEnd
returns-in-PortEnd c = rw c.in-PortEnd.is c.waits_for_end.ensures

pub returns-in-CellMake : goal.returns-in-CellMake
returns-in-CellMake c = rw c.in-CellMake.is c.is_unheard.ensures

pub returns-in-CellAsk : goal.returns-in-CellAsk
returns-in-CellAsk c = rw c.in-CellAsk.is c.is_at_home.ensures

pub returns-in-CellOld : goal.returns-in-CellOld
returns-in-CellOld c = rw c.in-CellOld.is c.waits_for_content.ensures
