use Rattle.std.proofs.Common.{arith, ◌≤◌, ap}
use Rattle.tree_store.specs.declared.links.ClassEntry.{ClassEntry}
use Rattle.tree_store.specs.Links.{entry_in}
use Rattle.tree_store.proofs.LinkLemmas.{sizes_fit, tree_after_union, entries_after_union, put_stays, attached_as}
use Rattle.tree_store.proofs.links.attach.Goals as goal

pub overflow_add-above : goal.overflow_add-above
overflow_add-above c =
    let fits = sizes_fit c.args.forest.now.entries c.args.child.parent c.args.top.parent c.requires.tree c.requires.apart c.requires.child.0 c.requires.top.0 c.requires.child_there c.requires.top_there in
    let small = ap (λ (p : ClassEntry). p.size) c.requires.child.1 in
    let great = ap (λ (p : ClassEntry). p.size) c.requires.top.1 in
    omega (arith, fits, small, great, c.len-count.ensures.small)

pub put-requires-2 : goal.put-requires-2
put-requires-2 c = rw c.put.ensures (put_stays c.args.forest.now.entries c.args.child.parent c.args.top.parent _ c.requires.top_there)

pub returns-clause-tree : goal.returns-clause-tree
returns-clause-tree c =
    let small = ap (λ (p : ClassEntry). p.size) c.requires.child.1 in
    let great = ap (λ (p : ClassEntry). p.size) c.requires.top.1 in
    let smaller : (entry_in c.args.forest.now.entries c.args.child.parent).size ≤ (entry_in c.args.forest.now.entries c.args.top.parent).size = omega (arith, small, great, c.requires.smaller) in
    rw (c.put-2.ensures, c.put.ensures, attached_as c.args.forest.now.entries c.args.child.parent c.args.top.parent c.args.end c.args.child c.args.top c.requires.child.1 c.requires.top.1)
    (tree_after_union c.args.forest.now.entries c.args.child.parent c.args.top.parent c.args.end c.requires.tree c.requires.apart c.requires.child.0 c.requires.top.0 c.requires.child_there c.requires.top_there smaller)

pub returns-clause-forest : goal.returns-clause-forest
returns-clause-forest c y =
    rw (c.put-2.ensures, c.put.ensures, attached_as c.args.forest.now.entries c.args.child.parent c.args.top.parent c.args.end c.args.child c.args.top c.requires.child.1 c.requires.top.1)
    (entries_after_union c.args.forest.now.entries c.args.child.parent c.args.top.parent c.args.end y c.requires.child_there c.requires.top_there)
