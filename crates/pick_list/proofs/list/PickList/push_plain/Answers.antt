use Rattle.std.proofs.Common.{◌+◌, ◌∷◌, ◌++◌, [], None, refl, sym, ap, subst, ◌∙◌, List, length, arith, ℕ, add-one}
use Rattle.std.specs.Prelude.{reverse}
use Rattle.tree_node.specs.declared.names.Name.{Name}
use Rattle.tree_node.specs.declared.pick.Pick.{Pick}
use Rattle.pick_list.specs.Columns.{columns_of, picks_below, AreNamings}
use Rattle.pick_list.specs.Namings.{namings_in}
use Rattle.pick_list.proofs.ColumnLemmas.{binds_more, no_bind, picks_put}
use Rattle.pick_list.proofs.list.PickList.push_plain.Goals as goal

pub invariant_of-self-2 : goal.invariant_of-self-2
invariant_of-self-2 c =
    let n = c.self.inside.count in (
      record {
        stretches = c.in_ok-put.ensures.threads.stretches;
        namings = subst (λ (l : List Name). AreNamings (n + 1) (length l) (reverse (namings_in c.put.new.namings))) (sym c.in_ok-put.ensures.names) c.in_ok-put.ensures.fresh.namings;
        binds = binds_more n (n + 1) (reverse c.self.inside.binds.items) (omega arith) c.self.invariant.0.binds;
      },
      omega arith,
    )

pub returns-clause-ok : goal.returns-clause-ok
returns-clause-ok c =
    let s = c.self.inside in
    let n = s.count in
    let k : Pick = record { thread = c.args.thread; fresh = c.args.fresh.now; bind = None } in
    let old = columns_of s.stretches.items (namings_in s.namings) s.names s.binds.items in
    let new = columns_of c.put.new.stretches.items (namings_in c.put.new.namings) c.put.new.names s.binds.items in
    ap (λ (m : ℕ). picks_below new m) (add-one n)
    ∙ (picks_put old new n k c.in_ok-put.ensures.threads c.in_ok-put.ensures.fresh c.in_ok-put.ensures.names (λ i below. refl) (no_bind n (reverse s.binds.items) n c.self.invariant.0.binds (omega arith))
    ∙ ap (λ (ks : List Pick). ks ++ k ∷ []) c.self.view_is)
