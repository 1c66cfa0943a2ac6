use Rattle.std.proofs.Common.{◌≡◌, sym, subst, List, length, arith, ℕ}
use Rattle.std.specs.Prelude.{reverse}
use Rattle.std.proofs.lemmas.Grind.{common_steps}
use Rattle.tree_node.specs.declared.names.Name.{Name}
use Rattle.pick_list.specs.Columns.{IsNamingOn, AreNamings}
use Rattle.pick_list.specs.Namings.{namings_in}
use Rattle.pick_list.proofs.ColumnLemmas.{naming_none, empty_list}
use Rattle.pick_list.proofs.columns.add_naming.Goals as goal

pub returns-else-not-is_empty : goal.returns-else-not-is_empty
returns-else-not-is_empty c = λ before is.
    let ts = reverse (namings_in c.args.namings.now) in
    let none : length c.args.fresh.now ≡ 0 = grind (arith, common_steps) in
    subst (λ (fresh : List Name). IsNamingOn c.args.pick fresh before ts ts) (sym (empty_list c.args.fresh.now none))
    (naming_none c.args.pick before ts (subst (λ (n : ℕ). AreNamings c.args.pick n ts) (sym is) c.requires.namings))
