use Rattle.std.proofs.Common.{sym, ap, ◌∙◌, length}
use Rattle.pick_list.proofs.ColumnLemmas.{length_picks}
use Rattle.pick_list.proofs.list.PickList.len.Goals as goal

pub returns : goal.returns
returns c = sym (length_picks _ c.self.inside.count) ∙ ap length c.self.view_is
