use Rattle.std.proofs.Common.{arith, refl, sym, subst, List, ◌≤◌}
use Rattle.tree_node.specs.Compare.{Pair}
use Rattle.tree_node.proofs.LookedLemmas.{added_begins}
use Rattle.tree_store.specs.Front.{IsMatchedFront}
use Rattle.tree_store.proofs.SearchLemmas.{next_found}
use Rattle.tree_store.proofs.FrontLemmas.{front_on, front_added, fewer_left, at_unmatched, past_unmatched, gone_on}
use Rattle.tree_store.proofs.front.pass_matched.Goals as goal

pub pairs-init : goal.pairs-init
pairs-init g c = record { matched = c.requires; place = let same : c.args.front.now.at ≤ c.args.front.now.at = omega arith in same; added = added_begins c.args.store.now.equations g.sides c.args.front.now.pairs }

pub pairs-smaller : goal.pairs-smaller
pairs-smaller g c =
    fewer_left c.args.store.now.equations g.sides c.args.front.now.pairs c.pairs.front.pairs c.pairs.front.at c.len.result c.pairs.invariant.added c.len.ensures c.pairs-test.true

pub pairs-preserved : goal.pairs-preserved
pairs-preserved g c =
    let next = next_found c.pairs.front.pairs c.pairs.front.at c.len.result c.key_at-pair.result c.len.ensures c.pairs-test.true c.key_at-pair.ensures in
    record {
      matched =
          front_on c.args.store.now.equations g.sides c.pairs.front.pairs c.pass.new.pairs c.pairs.front.at _ c.class_of-left.result c.class_of-right.result c.pairs.invariant.matched next
          (record { left = c.class_of-left.ensures; right = c.class_of-right.ensures }) (c.in_ok-matches.ensures.matches c.if-not-matches.false) c.in_ok-matches.ensures.pairs;
      place = let before = c.pairs.invariant.place in omega (arith, before);
      added =
          front_added c.args.store.now.equations g.sides c.args.front.now.pairs c.pairs.front.pairs c.pass.new.pairs c.pairs.front.at _ c.class_of-left.result c.class_of-right.result c.forest.ensures.sound
          c.pairs.invariant.matched c.pairs.invariant.added next (record { left = c.class_of-left.ensures; right = c.class_of-right.ensures }) (c.in_ok-matches.ensures.matches c.if-not-matches.false) c.in_ok-matches.ensures.pairs;
    }

pub returns-then-not-matches-clause-front : goal.returns-then-not-matches-clause-front
returns-then-not-matches-clause-front g c =
    subst (λ (l : List Pair). IsMatchedFront g.sides c.args.store.now.equations l c.pairs.front.at) (sym (c.in_ok-matches.ensures.same c.if-not-matches.true)) c.pairs.invariant.matched

pub returns-then-not-matches-clause-stops : goal.returns-then-not-matches-clause-stops
returns-then-not-matches-clause-stops g c =
    let next = next_found c.pairs.front.pairs c.pairs.front.at c.len.result c.key_at-pair.result c.len.ensures c.pairs-test.true c.key_at-pair.ensures in
    at_unmatched c.args.store.now.equations c.pairs.front.pairs c.pass.new.pairs c.pairs.front.at _ c.class_of-left.result c.class_of-right.result next
    (record { left = c.class_of-left.ensures; right = c.class_of-right.ensures }) (c.in_ok-matches.ensures.stops c.if-not-matches.true) (c.in_ok-matches.ensures.same c.if-not-matches.true)

pub returns-clause-stops : goal.returns-clause-stops
returns-clause-stops g c = past_unmatched c.args.store.now.equations c.pairs.front.pairs c.pairs.front.at c.len.result c.len.ensures (omega (arith, c.pairs-test.false))

pub returns-then-not-matches-clause-goes_on : goal.returns-then-not-matches-clause-goes_on
returns-then-not-matches-clause-goes_on g c =
    gone_on c.args.store.now.equations g.sides c.args.front.now.pairs c.pairs.front.pairs c.pass.new.pairs c.args.front.now.at c.pairs.front.at c.pairs.invariant.added (c.in_ok-matches.ensures.same c.if-not-matches.true) c.pairs.invariant.place

pub returns-clause-goes_on : goal.returns-clause-goes_on
returns-clause-goes_on g c =
    gone_on c.args.store.now.equations g.sides c.args.front.now.pairs c.pairs.front.pairs c.pairs.front.pairs c.args.front.now.at c.pairs.front.at c.pairs.invariant.added refl c.pairs.invariant.place
