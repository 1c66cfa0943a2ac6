use Rattle.std.proofs.Common.{arith, ◌≡◌, ◌∙◌, ap, subst, List, take}
use Rattle.tree_node.specs.declared.names.VarName.{VarName}
use Rattle.site_model.specs.Bundle.{insert_ascending}
use Rattle.marshal.specs.Marshal.{IsNext, equations_among}
use Rattle.marshal.proofs.GatherLemmas.{gathered_more, gathered_all, gathered_ascends}
use Rattle.marshal.proofs.exporting.gather.Goals as goal

pub returns-in-None : goal.returns-in-None
returns-in-None c =
    gathered_all c.args.store.now.equations c.args.queue.now.items c.loop-count.queue.items c.loop-count.from c.args.limit c.loop-count.count c.loop-count.taken.items c.loop-count.invariant
    (subst (λ (l : List VarName). equations_among c.args.store.now.equations l ≡ equations_among c.args.store.now.equations (take c.loop-count.from l)) c.deref.ensures.value c.in-None.ensures.none)
    (let more = c.loop-count-test.true in omega (arith, more))

pub loop-count-preserved : goal.loop-count-preserved
loop-count-preserved c =
    gathered_more c.args.store.now.equations c.args.queue.now.items c.loop-count.queue.items c.take.new.queue.items c.loop-count.from c.in-Some.place c.loop-count.count c.loop-count.taken.items c.take.new.taken.items
    c.in-Some.term.now c.index-var.result.now c.forest.ensures.forest c.loop-count.invariant next c.in_ok-take-in-Some.ensures.queue
    (c.in_ok-take-in-Some.ensures.taken ∙ ap (λ (x : VarName). insert_ascending (x, c.in-Some.term.now) c.loop-count.taken.items) c.index-var.ensures)
  where
    next : IsNext c.args.store.now.equations c.loop-count.queue.items c.loop-count.from c.loop-count.taken.items c.in-Some.place c.in-Some.term.now
    next =
        subst (λ (l : List VarName). IsNext c.args.store.now.equations l c.loop-count.from c.loop-count.taken.items c.in-Some.place c.in-Some.term.now) c.deref.ensures.value
        c.in-Some.ensures.some

pub next-requires-clause-ordered : goal.next-requires-clause-ordered
next-requires-clause-ordered c =
    gathered_ascends c.args.store.now.equations c.args.queue.now.items c.loop-count.queue.items c.loop-count.from c.loop-count.count c.loop-count.taken.items c.loop-count.invariant

pub take-requires : goal.take-requires
take-requires c = gathered_ascends c.args.store.now.equations c.args.queue.now.items c.loop-count.queue.items c.loop-count.from c.loop-count.count c.loop-count.taken.items c.loop-count.invariant
