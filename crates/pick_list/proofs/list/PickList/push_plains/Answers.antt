use Rattle.std.proofs.Common.{◌++◌, ap, ◌∙◌, List, arith}
use Rattle.tree_node.specs.declared.pick.Pick.{Pick}
use Rattle.pick_list.specs.Tells.{plain, in_a_row}
use Rattle.pick_list.specs.Namings.{namings_in}
use Rattle.pick_list.proofs.TellLemmas.{plain_picks, plain_columns}
use Rattle.pick_list.proofs.list.PickList.push_plains.Goals as goal

pub invariant_of-self-2 : goal.invariant_of-self-2
invariant_of-self-2 c =
    let s = c.self.inside in (
      plain_columns s.count c.args.count c.args.thread s.stretches.items c.put.new.stretches.items (namings_in s.namings) (namings_in c.put.new.namings) s.names c.put.new.names s.binds.items
          c.self.invariant.0 c.in_ok-put.ensures.threads c.in_ok-put.ensures.fresh c.in_ok-put.ensures.names (omega arith),
      omega arith,
    )

pub returns-clause-ok : goal.returns-clause-ok
returns-clause-ok c =
    let s = c.self.inside in
    plain_picks s.count c.args.count c.args.thread s.stretches.items c.put.new.stretches.items (namings_in s.namings) (namings_in c.put.new.namings) s.names c.put.new.names s.binds.items
    c.self.invariant.0 c.in_ok-put.ensures.threads c.in_ok-put.ensures.fresh c.in_ok-put.ensures.names (omega arith)
    ∙ ap (λ (ks : List Pick). ks ++ in_a_row c.args.count (plain c.args.thread)) c.self.view_is
