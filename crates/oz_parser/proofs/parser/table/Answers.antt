use Rattle.std.proofs.Common.{List, subst}
use Rattle.kernel_syntax.specs.declared.sugar.Statement.{Statement}
use Rattle.kernel_syntax.specs.SugarView.{statements_in}
use Rattle.sugar_rows.specs.Put.{Expand}
use Rattle.oz_parser.proofs.Parsing.{kernel_rows}
use Rattle.oz_parser.proofs.parser.table.Goals as goal

pub returns : goal.returns
returns c =
    kernel_rows c.args.symbols.now (statements_in c.in_ok-tree.tree.items) c.in_ok-rows_of.field-0.items c.requires.ends c.in_ok-check.ensures c.in_ok-tree.ensures
    (subst (λ (tree : List Statement). Expand (statements_in tree) c.in_ok-rows_of.field-0.items) c.as_slice.ensures.value c.in_ok-rows_of.ensures)
