use Rattle.std.proofs.Common.{arith, ◌≡◌, ◌+◌, ◌∙◌, ap, List, length}
use Rattle.std.specs.Prelude.{reverse}
use Rattle.std.proofs.lemmas.List.{length-append}
use Rattle.tree_node.specs.declared.names.Name.{Name}
use Rattle.tree_node.specs.declared.names.Name.TheVariants as name
use Rattle.pick_list.specs.declared.names.NameRun.{NameRun}
use Rattle.pick_list.specs.Names.{names_in, row_of}
use Rattle.pick_list.proofs.NameLemmas.{row_length}
use Rattle.pick_list.proofs.names.NameColumn.push_row.Goals as goal

pub invariant_of-self-2 : goal.invariant_of-self-2
invariant_of-self-2 c =
    let same : length (names_in (reverse c.reserve.new.self.items)) ≡ length (names_in (reverse c.self.inside.runs.items)) = ap (λ (l : List NameRun). length (names_in (reverse l))) c.reserve.ensures.items in
    let count = c.self.invariant.1 in
    let few = c.self.invariant.2 in
    let row = row_length (name.Var c.args.first) c.args.count in
    let long : length (names_in (reverse c.put.new.runs.items)) ≡ length (names_in (reverse c.reserve.new.self.items)) + length (row_of (name.Var c.args.first) c.args.count) =
    ap (λ (l : List Name). length l) c.put.ensures.names ∙ length-append (names_in (reverse c.reserve.new.self.items)) (row_of (name.Var c.args.first) c.args.count) in
    (c.put.ensures.runs, omega (arith, same, count, long, row), omega (arith, few))
