use Rattle.std.proofs.Common.{◌≡◌, ◌<◌, ◌-◌, ◌∙◌, sym, arith, Some}
use Rattle.tree_node.specs.Shown.{head_and_tail}
use Rattle.tree_store.proofs.WalkLemmas.{list_on, list_needs}
use Rattle.tree_store.proofs.walk.+walking.Goals as goal

pub walk-returns-in-Needs : goal.walk-returns-in-Needs
walk-returns-in-Needs t c =
    let deep : 0 < c.tails.bounds.depth = c.must_stop.ensures.depth c.if-must_stop.false in
    let some : 0 < c.tails.bounds.left = c.must_stop.ensures.left c.if-must_stop.false in
    let ends : head_and_tail c.in-Node.node.now ≡ Some (c.in-Some.head, c.in-Some.tail) = sym c.list_ends.ensures ∙ c.in-Some.is in
    list_needs c.tails.bounds.depth (c.tails.bounds.depth - 1) c.tails.bounds.level c.tails.bounds.left (c.tails.bounds.left - 1) c.args.store.now.equations c.tails.x
    c.in-Some.head c.in-Some.tail c.in-Needs.y c.in-Node.node.now c.tails.out.items (omega arith) (omega arith)
    (c.must_stop.ensures.cut c.if-must_stop.false) c.in-Node.ensures ends (rw c.in-Needs.is at c.in_ok-found-in-Some.ensures)
    ∙ c.tails.invariant.written

pub walk-tails-preserved : goal.walk-tails-preserved
walk-tails-preserved t c =
    let deep : 0 < c.tails.bounds.depth = c.must_stop.ensures.depth c.if-must_stop.false in
    let some : 0 < c.tails.bounds.left = c.must_stop.ensures.left c.if-must_stop.false in
    let ends : head_and_tail c.in-Node.node.now ≡ Some (c.in-Some.head, c.in-Some.tail) = sym c.list_ends.ensures ∙ c.in-Some.is in
    record {
      depth = omega arith;
      level = c.tails.invariant.level;
      written =
          list_on c.tails.bounds.depth (c.tails.bounds.depth - 1) c.tails.bounds.level c.tails.bounds.left (c.tails.bounds.left - 1) c.in-Left.left c.args.store.now.equations c.tails.x
          c.in-Some.head c.in-Some.tail c.in-Node.node.now c.tails.out.items c.walk_head.new.out.items (omega arith) (omega arith)
          (c.must_stop.ensures.cut c.if-must_stop.false) c.in-Node.ensures ends (rw c.in-Left.is at c.in_ok-found-in-Some.ensures)
          ∙ c.tails.invariant.written;
    }
