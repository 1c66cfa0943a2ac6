use Rattle.std.proofs.Common.{sym, ap, ◌∙◌}
use Rattle.pick_list.specs.declared.columns.Bind.{Bind}
use Rattle.pick_list.proofs.ColumnLemmas.{no_last_bind}
use Rattle.pick_list.proofs.columns.last_bind.Goals as goal

pub returns-else-last-pick : goal.returns-else-last-pick
returns-else-last-pick c =
    sym (no_last_bind c.args.pick c.args.binds.now c.last-item.result c.requires c.in-len1-up.len_at_least (λ same. c.if-last-pick.false (ap (λ (b : Bind). b.pick) c.last-item.is ∙ same)))
