use Rattle.std.proofs.Common.{arith, ◌≡◌, ◌<◌, ◌-◌, ◌∙◌, sym, Some}
use Rattle.tree_node.specs.Shown.{head_and_tail, show_var, show_node}
use Rattle.tree_store.specs.declared.walk.Found.TheVariants as found
use Rattle.tree_store.proofs.ShowLemmas.{IsAtNode, head_shown, front_cut, cut_waits, front_needs, front_ends, front_waits, head_waits, front_on}
use Rattle.tree_store.proofs.shows.show_on.Goals as goal

pub returns-then-must_stop-clause-found : goal.returns-then-must_stop-clause-found
returns-then-must_stop-clause-found g c =
    let f = c.tails.front in
    c.in_ok-found.ensures
    ∙ front_cut g.begun.0 g.begun.1 c.args.store.now.equations f.text.items f.bounds f.next c.forest.ensures.sound c.tails.invariant (c.must_stop.ensures.stops c.if-must_stop.true)

pub returns-then-must_stop-clause-front : goal.returns-then-must_stop-clause-front
returns-then-must_stop-clause-front g c =
    let f = c.tails.front in
    cut_waits g.begun.0 g.begun.1 c.args.store.now.equations _ f.bounds f.next c.in_ok-found.found _ _ _ c.in_ok-found.ensures

pub returns-in-Unbound-clause-found : goal.returns-in-Unbound-clause-found
returns-in-Unbound-clause-found g c =
    let f = c.tails.front in
    front_needs g.begun.0 g.begun.1 c.args.store.now.equations f.text.items f.bounds f.next c.forest.ensures.sound c.tails.invariant
    (c.must_stop.ensures.depth c.if-must_stop.false) (c.must_stop.ensures.cut c.if-must_stop.false) c.in-Unbound.ensures.0.1

pub returns-in-None-clause-found : goal.returns-in-None-clause-found
returns-in-None-clause-found g c =
    let f = c.tails.front in
    let deep : 0 < f.bounds.depth = c.must_stop.ensures.depth c.if-must_stop.false in
    let some : 0 < f.bounds.left = c.must_stop.ensures.left c.if-must_stop.false in
    let at : IsAtNode c.args.store.now.equations f.bounds (f.bounds.depth - 1) (f.bounds.left - 1) f.next c.in-Node.node.now =
    record { deep = omega arith; some = omega arith; on = c.must_stop.ensures.cut c.if-must_stop.false; is = c.in-Node.ensures } in
    front_ends g.begun.0 g.begun.1 c.args.store.now.equations f.text.items f.bounds f.next c.forest.ensures.sound c.tails.invariant
    (f.bounds.depth - 1) (f.bounds.left - 1) c.in-Node.node.now c.write_node.new.text.items c.in_ok-found-in-None.found at c.in_ok-found-in-None.ensures

pub returns-in-None-clause-front : goal.returns-in-None-clause-front
returns-in-None-clause-front g c =
    let f = c.tails.front in
    front_waits g.begun.0 g.begun.1 c.args.store.now.equations f.text.items f.bounds f.next c.forest.ensures.sound c.tails.invariant
    (show_node c.args.store.now.equations (show_var (f.bounds.depth - 1) c.args.store.now.equations) f.bounds.level (f.bounds.left - 1) c.in-Node.node.now)
    c.write_node.new.text.items c.in_ok-found-in-None.found c.in_ok-found-in-None.ensures

pub returns-in-Needs-clause-found : goal.returns-in-Needs-clause-found
returns-in-Needs-clause-found g c =
    let f = c.tails.front in
    let deep : 0 < f.bounds.depth = c.must_stop.ensures.depth c.if-must_stop.false in
    let some : 0 < f.bounds.left = c.must_stop.ensures.left c.if-must_stop.false in
    let at : IsAtNode c.args.store.now.equations f.bounds (f.bounds.depth - 1) (f.bounds.left - 1) f.next c.in-Node.node.now =
    record { deep = omega arith; some = omega arith; on = c.must_stop.ensures.cut c.if-must_stop.false; is = c.in-Node.ensures } in
    let ends : head_and_tail c.in-Node.node.now ≡ Some (c.in-Some.head, c.in-Some.tail) = sym c.list_ends.ensures ∙ c.in-Some.is in
    let added = rw c.in-Needs.is at c.in_ok-found-in-Some.ensures in
    head_waits g.begun.0 g.begun.1 c.args.store.now.equations f.text.items f.bounds f.next c.forest.ensures.sound c.tails.invariant
    (f.bounds.depth - 1) (f.bounds.left - 1) c.in-Node.node.now c.in-Some.head c.in-Some.tail c.in-Needs.var at ends added.0

pub returns-in-Needs-clause-front : goal.returns-in-Needs-clause-front
returns-in-Needs-clause-front g c =
    let f = c.tails.front in
    let added = rw c.in-Needs.is at c.in_ok-found-in-Some.ensures in
    front_waits g.begun.0 g.begun.1 c.args.store.now.equations f.text.items f.bounds f.next c.forest.ensures.sound c.tails.invariant
    (head_shown c.args.store.now.equations (f.bounds.depth - 1) f.bounds.level (f.bounds.left - 1) c.in-Some.head) c.write_head.new.text.items (found.Needs c.in-Needs.var) added

pub tails-preserved : goal.tails-preserved
tails-preserved g c =
    let f = c.tails.front in
    let deep : 0 < f.bounds.depth = c.must_stop.ensures.depth c.if-must_stop.false in
    let some : 0 < f.bounds.left = c.must_stop.ensures.left c.if-must_stop.false in
    let at : IsAtNode c.args.store.now.equations f.bounds (f.bounds.depth - 1) (f.bounds.left - 1) f.next c.in-Node.node.now =
    record { deep = omega arith; some = omega arith; on = c.must_stop.ensures.cut c.if-must_stop.false; is = c.in-Node.ensures } in
    let ends : head_and_tail c.in-Node.node.now ≡ Some (c.in-Some.head, c.in-Some.tail) = sym c.list_ends.ensures ∙ c.in-Some.is in
    let added = rw c.in-Left.is at c.in_ok-found-in-Some.ensures in
    front_on g.begun.0 g.begun.1 c.args.store.now.equations f.text.items f.bounds f.next c.forest.ensures.sound c.tails.invariant
    (f.bounds.depth - 1) (f.bounds.left - 1) c.in-Left.left c.in-Node.node.now c.in-Some.head c.in-Some.tail added.0 c.write_head.new.text.items at ends added.1 added.2

pub tails-smaller : goal.tails-smaller
tails-smaller g c = let deep : 0 < c.tails.front.bounds.depth = c.must_stop.ensures.depth c.if-must_stop.false in omega arith
