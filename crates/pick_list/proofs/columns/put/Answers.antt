use Rattle.std.proofs.Common.{◌≡◌, sym, subst, List, length, arith}
use Rattle.std.specs.Prelude.{reverse}
use Rattle.std.proofs.lemmas.Grind.{common_steps}
use Rattle.tree_node.specs.declared.names.Name.{Name}
use Rattle.pick_list.specs.Columns.{IsNamingOn}
use Rattle.pick_list.specs.Namings.{namings_in}
use Rattle.pick_list.proofs.ColumnLemmas.{naming_none, empty_list}
use Rattle.pick_list.proofs.columns.put.Goals as goal

pub returns-then-is_last_thread-clause-fresh : goal.returns-then-is_last_thread-clause-fresh
returns-then-is_last_thread-clause-fresh c =
    let ts = reverse (namings_in c.args.namings.now) in
    let none : length c.args.fresh.now ≡ 0 = grind (arith, common_steps) in
    subst (λ (fresh : List Name). IsNamingOn c.args.pick fresh c.args.names.now ts ts) (sym (empty_list c.args.fresh.now none))
    (naming_none c.args.pick c.args.names.now ts c.requires.namings)
