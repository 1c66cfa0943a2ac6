use Rattle.std.proofs.Common.{◌∷◌, [], sym, ap, ◌∙◌, length, map}
use Rattle.pick_list.specs.Columns.{columns_of}
use Rattle.pick_list.specs.Compact.{stretch_of, compact_names, picks_in, wide}
use Rattle.pick_list.proofs.ColumnLemmas.{length_picks}
use Rattle.pick_list.proofs.compact.CompactPicks.len.Goals as goal

pub returns-in-One : goal.returns-in-One
returns-in-One c =
    let l = c.in-One in
    sym (length_picks (columns_of (stretch_of (record { site = l.site; num = l.num }) ∷ []) (map wide l.namings.items) (compact_names l.names) l.binds.items) l.count)
    ∙ ap length (sym (ap picks_in l.is) ∙ c.self.view_is)

pub returns-in-Several : goal.returns-in-Several
returns-in-Several c =
    let l = c.in-Several in
    sym (length_picks (columns_of l.stretches.value.items (map wide l.namings.items) (compact_names l.names) l.binds.items) l.count)
    ∙ ap length (sym (ap picks_in l.is) ∙ c.self.view_is)
