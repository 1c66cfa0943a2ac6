use Rattle.std.proofs.Common.{sym, ap, ◌∙◌, map}
use Rattle.std.proofs.lemmas.List.{reverse-reverse}
use Rattle.pick_list.specs.Binds.{binds_of, equation_of}
use Rattle.pick_list.specs.Columns.{columns_of}
use Rattle.pick_list.specs.Namings.{namings_in}
use Rattle.pick_list.proofs.ColumnLemmas.{picks_bound}
use Rattle.pick_list.proofs.list.PickList.binds.Goals as goal

pub returns : goal.returns
returns c =
    let s = c.self.inside in
    ap (map equation_of) (c.as_slice.ensures.value ∙ sym (reverse-reverse s.binds.items))
    ∙ (picks_bound (columns_of s.stretches.items (namings_in s.namings) s.names s.binds.items) s.count c.self.invariant.0.binds
    ∙ ap binds_of c.self.view_is)
