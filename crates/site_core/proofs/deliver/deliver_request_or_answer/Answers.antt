use Rattle.site_core.proofs.DeliverLemmas.{rows_for}
use Rattle.site_core.proofs.deliver.deliver_request_or_answer.Goals as goal

pub returns-in-PortSend-clause-row : goal.returns-in-PortSend-clause-row
returns-in-PortSend-clause-row c = rows_for c.move_end.result c.args.msg _ c.args.core.now c.move_end.new.core c.args.output.now c.move_end.new.output c.move_end.ensures.row c.in-PortSend.is

pub returns-in-PortEnd-clause-row : goal.returns-in-PortEnd-clause-row
returns-in-PortEnd-clause-row c = rows_for c.resume_sent.result c.args.msg _ c.args.core.now c.resume_sent.new.core c.args.output.now c.resume_sent.new.output c.resume_sent.ensures.row c.in-PortEnd.is

pub returns-in-CellMake-clause-row : goal.returns-in-CellMake-clause-row
returns-in-CellMake-clause-row c = rows_for c.hear.result c.args.msg _ c.args.core.now c.hear.new.core c.args.output.now c.hear.new.output c.hear.ensures.row c.in-CellMake.is

pub returns-in-CellAsk-clause-row : goal.returns-in-CellAsk-clause-row
returns-in-CellAsk-clause-row c = rows_for c.exchange_for.result c.args.msg _ c.args.core.now c.exchange_for.new.core c.args.output.now c.exchange_for.new.output c.exchange_for.ensures.row c.in-CellAsk.is

pub returns-in-CellOld-clause-row : goal.returns-in-CellOld-clause-row
returns-in-CellOld-clause-row c = rows_for c.resume_served.result c.args.msg _ c.args.core.now c.resume_served.new.core c.args.output.now c.resume_served.new.output c.resume_served.ensures.row c.in-CellOld.is
