use Rattle.std.proofs.Common.{◌≡◌, ◌∷◌, ◌++◌, [], refl, ap, ◌∙◌, List, arith}
use Rattle.std.specs.Prelude.{reverse}
use Rattle.tree_node.specs.declared.pick.Pick.{Pick}
use Rattle.pick_list.specs.declared.columns.Bind.{Bind}
use Rattle.pick_list.specs.Tells.{tell_picks}
use Rattle.pick_list.specs.Namings.{namings_in}
use Rattle.pick_list.proofs.ColumnLemmas.{reverse_push}
use Rattle.pick_list.proofs.TellLemmas.{told_picks, told_columns}
use Rattle.pick_list.proofs.list.PickList.push_tell.Goals as goal

pub invariant_of-self-2 : goal.invariant_of-self-2
invariant_of-self-2 c =
    let s = c.self.inside in
    let b : Bind = record { pick = s.count; var = c.args.var; term = c.args.term } in
    let binds : reverse c.push_reserved.new.self.items ≡ b ∷ reverse s.binds.items =
    ap reverse (c.push_reserved.ensures.items ∙ ap (λ (l : List Bind). l ++ b ∷ []) c.reserve.ensures.items) ∙ reverse_push s.binds.items b in (
      told_columns s.count c.args.thread s.stretches.items c.put.new.stretches.items (namings_in s.namings) (namings_in c.put.new.namings) s.names c.put.new.names s.binds.items c.push_reserved.new.self.items b
          c.self.invariant.0 c.in_ok-put.ensures.threads c.in_ok-put.ensures.fresh c.in_ok-put.ensures.names binds refl,
      omega arith,
    )

pub returns-clause-ok : goal.returns-clause-ok
returns-clause-ok c =
    let s = c.self.inside in
    let b : Bind = record { pick = s.count; var = c.args.var; term = c.args.term } in
    let binds : reverse c.push_reserved.new.self.items ≡ b ∷ reverse s.binds.items =
    ap reverse (c.push_reserved.ensures.items ∙ ap (λ (l : List Bind). l ++ b ∷ []) c.reserve.ensures.items) ∙ reverse_push s.binds.items b in
    told_picks s.count c.args.thread s.stretches.items c.put.new.stretches.items (namings_in s.namings) (namings_in c.put.new.namings) s.names c.put.new.names s.binds.items c.push_reserved.new.self.items b
    c.self.invariant.0 c.in_ok-put.ensures.threads c.in_ok-put.ensures.fresh c.in_ok-put.ensures.names binds refl
    ∙ ap (λ (ks : List Pick). ks ++ tell_picks c.args.thread c.args.var c.args.term) c.self.view_is
