use Rattle.std.proofs.Common.{sym, ◌∙◌, length}
use Rattle.pick_list.proofs.ColumnLemmas.{no_last_naming}
use Rattle.pick_list.proofs.columns.last_fresh.Goals as goal

pub returns-else-last-pick : goal.returns-else-last-pick
returns-else-last-pick c =
    c.new-else-last-pick.ensures
    ∙ sym (no_last_naming c.args.pick (length c.args.names.now) c.args.namings.now c.args.names.now (record { pick = 0; first = 0 }) c.requires c.in-len1-up.len_at_least c.if-last-pick.false)
