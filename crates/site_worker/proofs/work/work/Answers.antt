use Rattle.std.proofs.Common.{◌≡◌, ◌∙◌, ◌++◌, length, refl, sym, ap, subst, take, drop}
use Rattle.std.proofs.Math.Seq.{take-append_seam}
use Rattle.site_worker.specs.Hosts.{IsSomeOver}
use Rattle.site_worker.proofs.Ending.{written_back}
use Rattle.site_worker.proofs.Times.{length_same}
use Rattle.site_worker.proofs.work.work.Goals as goal

pub returns-in-Over-clause-over : goal.returns-in-Over-clause-over
returns-in-Over-clause-over g c some =
    let new = c.visit_each.new.hosts in
    let rest = drop (length new) c.loop.hosts.items in
    let long : c.loop.hosts.len ≡ length new = sym (length_same new c.as_mut_slice.result.now c.visit_each.ensures.same.0 ∙ c.as_mut_slice.ensures.len) in
    subst IsSomeOver (sym (ap (λ n. take n (new ++ rest)) long ∙ take-append_seam new rest)) (c.in-Over.ensures.over refl)

pub loop-preserved-in-Did : goal.loop-preserved-in-Did
loop-preserved-in-Did g c = (written_back _ c.args.group.hosts.items c.loop.hosts.items c.as_mut_slice.result.now c.visit_each.new.hosts c.loop.hosts.len c.as_mut_slice.ensures.value c.as_mut_slice.ensures.len c.loop.invariant.0 c.visit_each.ensures.same, c.loop.invariant.1)

pub loop-preserved : goal.loop-preserved
loop-preserved g c = (written_back _ c.args.group.hosts.items c.loop.hosts.items c.as_mut_slice.result.now c.visit_each.new.hosts c.loop.hosts.len c.as_mut_slice.ensures.value c.as_mut_slice.ensures.len c.loop.invariant.0 c.visit_each.ensures.same, c.loop.invariant.1)

pub returns-in-Over-clause-same : goal.returns-in-Over-clause-same
returns-in-Over-clause-same g c = written_back _ c.args.group.hosts.items c.loop.hosts.items c.as_mut_slice.result.now c.visit_each.new.hosts c.loop.hosts.len c.as_mut_slice.ensures.value c.as_mut_slice.ensures.len c.loop.invariant.0 c.visit_each.ensures.same
