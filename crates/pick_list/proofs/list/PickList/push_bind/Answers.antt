use Rattle.std.proofs.Common.{◌≡◌, ◌∷◌, ◌++◌, [], Some, refl, ap, ◌∙◌, List, arith, ℕ, add-one}
use Rattle.std.specs.Prelude.{reverse}
use Rattle.tree_node.specs.declared.pick.Pick.{Pick}
use Rattle.pick_list.specs.declared.columns.Bind.{Bind}
use Rattle.pick_list.specs.Columns.{columns_of, picks_below, bind_at}
use Rattle.pick_list.specs.Namings.{namings_in}
use Rattle.pick_list.proofs.ColumnLemmas.{bind_here, bind_other, picks_put, reverse_push}
use Rattle.pick_list.proofs.list.PickList.push_bind.Goals as goal

pub returns-clause-ok : goal.returns-clause-ok
returns-clause-ok c =
    let s = c.self.inside in
    let n = s.count in
    let k : Pick = record { thread = c.args.thread; fresh = c.args.fresh.now; bind = Some (c.args.var, c.args.term) } in
    let b : Bind = record { pick = n; var = c.args.var; term = c.args.term } in
    let old = columns_of s.stretches.items (namings_in s.namings) s.names s.binds.items in
    let new = columns_of c.put.new.stretches.items (namings_in c.put.new.namings) c.put.new.names c.push_reserved.new.self.items in
    let binds : reverse c.push_reserved.new.self.items ≡ b ∷ reverse s.binds.items =
    ap reverse (c.push_reserved.ensures.items ∙ ap (λ (l : List Bind). l ++ b ∷ []) c.reserve.ensures.items) ∙ reverse_push s.binds.items b in
    ap (λ (m : ℕ). picks_below new m) (add-one n)
    ∙ (picks_put old new n k c.in_ok-put.ensures.threads c.in_ok-put.ensures.fresh c.in_ok-put.ensures.names
    (λ i below. ap (λ (l : List Bind). bind_at l i) binds ∙ bind_other b (reverse s.binds.items) i (λ same. absurd (omega arith)))
    (ap (λ (l : List Bind). bind_at l n) binds ∙ bind_here b (reverse s.binds.items) n refl)
    ∙ ap (λ (ks : List Pick). ks ++ k ∷ []) c.self.view_is)
