use Rattle.std.proofs.Common.{arith}
use Rattle.site_worker.proofs.Times.{length_same}
use Rattle.site_worker.proofs.Ending.{same_set, over_set}
use Rattle.site_worker.proofs.work.visit_each.Goals as goal

pub returns-in-Over-clause-same : goal.returns-in-Over-clause-same
returns-in-Over-clause-same g c = same_set _ c.args.hosts.now c.loop-i.hosts c.loop-i.i c.index-hosts-i.result c.visit_in_a_row.new.host c.loop-i-test.true c.loop-i.invariant c.visit_in_a_row.ensures.host

pub loop-i-preserved : goal.loop-i-preserved
loop-i-preserved g c = same_set _ c.args.hosts.now c.loop-i.hosts c.loop-i.i c.index-hosts-i.result c.visit_in_a_row.new.host c.loop-i-test.true c.loop-i.invariant c.visit_in_a_row.ensures.host

pub returns-in-Over-clause-over : goal.returns-in-Over-clause-over
returns-in-Over-clause-over g c is =
    let long = length_same c.loop-i.hosts c.args.hosts.now c.loop-i.invariant.0 in
    let inside = c.loop-i-test.true in
    over_set c.loop-i.hosts c.loop-i.i c.visit_in_a_row.new.host c.in-Over.field-0 (omega arith) c.in-Over.ensures.visited.3.0.0
