use Rattle.std.proofs.Common.{◌-◌, ◌++◌, ap, ◌∙◌, List, take, arith, refl}
use Rattle.std.specs.Prelude.{reverse}
use Rattle.tree_node.specs.declared.pick.Pick.{Pick}
use Rattle.pick_list.specs.Columns.{columns_of, picks_below}
use Rattle.pick_list.proofs.ColumnLemmas.{picks_before, told_before}
use Rattle.pick_list.proofs.columns.picks_of.Goals as goal

pub picks-preserved : goal.picks-preserved
picks-preserved c =
    let l = c.picks in
    let n = l.pick - 1 in
    let all = picks_below (columns_of c.args.stretches.now c.args.namings.now c.args.names.now c.args.binds.now) c.args.count in
    let old = columns_of l.threads.now l.named.now l.fresh.now l.bound.now in
    let new = columns_of (take c.stretches_before.result l.threads.now) (take c.namings_before-taken.result.0 l.named.now) (take c.namings_before-taken.result.1 l.fresh.now) (take c.binds_before.result l.bound.now) in
    let stretches = c.stretches_before.ensures.before in
    let namings = c.namings_before-taken.ensures.before l.fresh.now refl in
    let binds = c.binds_before.ensures.before in
    record {
      columns = record { stretches = stretches.stretches; namings = namings.namings; binds = binds.binds };
      told =
          ap (λ (ks : List Pick). picks_below new n ++ reverse ks) c.in_ok-push.ensures.items
          ∙ told_before old new l.pick n l.picks.items c.in_ok-last.last all (let some = c.picks-test.true in omega arith) (picks_before old new n stretches namings binds) c.in_ok-last.ensures l.invariant.told;
    }
