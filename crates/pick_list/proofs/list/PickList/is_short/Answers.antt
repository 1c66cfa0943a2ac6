use Rattle.std.proofs.Common.{◌<◌, ◌^◌, sym, ap, subst, ◌∙◌, length, ℕ}
use Rattle.pick_list.proofs.ColumnLemmas.{length_picks}
use Rattle.pick_list.proofs.list.PickList.is_short.Goals as goal

pub returns : goal.returns
returns c = subst (λ (n : ℕ). n < 2 ^ 63) (sym (length_picks _ c.self.inside.count) ∙ ap length c.self.view_is) c.self.invariant.1
