use Rattle.std.proofs.Common.{◌≡◌, ◌-◌, sym, ap, subst, ◌∙◌, List, length, take, arith, ℕ}
use Rattle.std.specs.Prelude.{reverse}
use Rattle.tree_node.specs.declared.names.Name.{Name}
use Rattle.tree_node.specs.declared.pick.Pick.{Pick}
use Rattle.pick_list.specs.declared.columns.Stretch.{Stretch}
use Rattle.pick_list.specs.declared.columns.Bind.{Bind}
use Rattle.pick_list.specs.Columns.{columns_of, IsStretchBefore, IsNamingBefore, IsBindBefore}
use Rattle.pick_list.specs.Namings.{namings_in}
use Rattle.pick_list.proofs.ColumnLemmas.{length_picks, picks_before, picks_front}
use Rattle.pick_list.proofs.list.PickList.drop_last.Goals as goal

pub returns : goal.returns
returns c =
    let s = c.self.inside in
    let n = s.count - 1 in
    let old = columns_of s.stretches.items (namings_in s.namings) s.names s.binds.items in
    let new = columns_of c.truncate.new.self.items (namings_in c.cut_to-names.new.self) c.truncate-2.new.self c.truncate-3.new.self.items in
    let size : s.count ≡ length c.args.self.now = sym (length_picks old s.count) ∙ ap length c.self.view_is in
    let value = c.as_slice.ensures.value in
    let value-2 = c.as_slice-2.ensures.value in
    let stretches : IsStretchBefore n old.stretches new.stretches =
    subst (λ (l : List Stretch). IsStretchBefore n old.stretches (reverse l)) (sym c.truncate.ensures.items)
    (subst (λ (l : List Stretch). IsStretchBefore n (reverse l) (reverse (take c.stretches_before-stretches.result l))) value c.stretches_before-stretches.ensures.before) in
    let names : length s.names ≡ c.len.result = sym c.len.ensures.value in
    let namings : IsNamingBefore n old.names old.namings new.names new.namings =
    subst (λ (l : List Name). IsNamingBefore n old.names old.namings l new.namings) (sym c.truncate-2.ensures) (c.cut_to-names.ensures.before s.names names) in
    let binds : IsBindBefore n old.binds new.binds =
    subst (λ (l : List Bind). IsBindBefore n old.binds (reverse l)) (sym c.truncate-3.ensures.items)
    (subst (λ (l : List Bind). IsBindBefore n (reverse l) (reverse (take c.binds_before-binds.result l))) value-2 c.binds_before-binds.ensures.before) in
    picks_before old new n stretches namings binds
    ∙ (picks_front old s.count n (let some = c.requires in omega arith)
    ∙ (ap (λ (ks : List Pick). take n ks) c.self.view_is ∙ ap (λ (m : ℕ). take (m - 1) c.args.self.now) size))
