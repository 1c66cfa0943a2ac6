use Rattle.std.proofs.Common.{◌∙◌, ap, List}
use Rattle.tree_node.specs.declared.node.Node.{Node}
use Rattle.tree_node.specs.Goal.{is_met_pair}
use Rattle.unify_steps.specs.MetPairs.{pairs_of}
use Rattle.unify_steps.proofs.MetLemmas.{found_met}
use Rattle.unify_steps.proofs.met_table.MetTable.contains.Goals as goal

pub returns-in-Some : goal.returns-in-Some
returns-in-Some c =
    let m = c.args.left.now in
    let n = c.args.right.now in
    let pairs = ap pairs_of (rw c.pair_hash.ensures at c.in-Some.ensures.value) in
    c.is_among.ensures ∙ ap (λ (l : List (Node × Node)). is_met_pair l m n) (c.as_slice.ensures.value ∙ pairs)
    ∙ found_met c.self.inside.pairs.items c.self.inside.index.entries m n c.self.invariant ∙ ap (λ (l : List (Node × Node)). is_met_pair l m n) c.self.view_is

pub returns-in-None : goal.returns-in-None
returns-in-None c =
    let m = c.args.left.now in
    let n = c.args.right.now in
    let pairs = ap pairs_of (rw c.pair_hash.ensures at c.in-None.ensures.value) in
    ap (λ (l : List (Node × Node)). is_met_pair l m n) pairs
    ∙ found_met c.self.inside.pairs.items c.self.inside.index.entries m n c.self.invariant ∙ ap (λ (l : List (Node × Node)). is_met_pair l m n) c.self.view_is
