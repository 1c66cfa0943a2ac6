use Rattle.std.proofs.Common.{arith}
use Rattle.wire_reader.proofs.DecodeLaws.{spelled, fitting, only, fault, first}
use Rattle.wire_reader.proofs.reading.decode.Goals as goal

pub returns-clause-spelled : goal.returns-clause-spelled
returns-clause-spelled c = spelled c.args.bytes.now c.whole.result (λ i. omega (arith, c.type_inv.bytes i)) c.whole.ensures

pub returns-clause-fits : goal.returns-clause-fits
returns-clause-fits c = fitting c.args.bytes.now c.whole.result (λ i. omega (arith, c.type_inv.bytes i)) c.whole.ensures

pub returns-clause-only : goal.returns-clause-only
returns-clause-only c = only c.args.bytes.now c.whole.result c.whole.ensures

pub returns-clause-fault : goal.returns-clause-fault
returns-clause-fault c = fault c.args.bytes.now c.whole.result (λ i. omega (arith, c.type_inv.bytes i)) c.whole.ensures

pub returns-clause-first : goal.returns-clause-first
returns-clause-first c = first c.args.bytes.now c.whole.result c.whole.ensures
