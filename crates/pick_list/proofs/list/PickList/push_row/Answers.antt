use Rattle.std.proofs.Common.{◌+◌, ◌∷◌, ◌++◌, [], None, refl, sym, ap, subst, ◌∙◌, List, length, arith, ℕ, add-one}
use Rattle.std.specs.Prelude.{reverse}
use Rattle.tree_node.specs.declared.names.Name.{Name}
use Rattle.tree_node.specs.declared.names.Name.TheVariants as name
use Rattle.tree_node.specs.declared.pick.Pick.{Pick}
use Rattle.pick_list.specs.declared.columns.Naming.{Naming}
use Rattle.pick_list.specs.declared.columns.Stretch.{Stretch}
use Rattle.pick_list.specs.Columns.{columns_of, picks_below, AreNamings, IsNamingOn, IsStretchOn}
use Rattle.pick_list.specs.Names.{row_of}
use Rattle.pick_list.specs.Namings.{namings_in}
use Rattle.pick_list.proofs.ColumnLemmas.{binds_more, no_bind, picks_put, naming_some, reverse_push}
use Rattle.pick_list.proofs.list.PickList.push_row.Goals as goal

pub invariant_of-self-2 : goal.invariant_of-self-2
invariant_of-self-2 c =
    let s = c.self.inside in
    let n = s.count in
    let fresh = row_of (name.Var c.args.first) c.args.count in
    let t : Naming = record { pick = n; first = c.len-place.result } in
    let names = sym c.len-place.ensures.value in
    let put : IsNamingOn n fresh s.names (reverse (namings_in s.namings)) (reverse (namings_in c.push_reserved.new.self)) =
    subst (λ (l : List Naming). IsNamingOn n fresh s.names (reverse (namings_in s.namings)) l)
    (sym (ap reverse (c.push_reserved.ensures ∙ ap (λ (l : List Naming). l ++ t ∷ []) c.reserve-2.ensures.same) ∙ reverse_push (namings_in s.namings) t))
    (naming_some n c.len-place.result fresh s.names (reverse (namings_in s.namings)) names (subst (λ (m : ℕ). AreNamings n m (reverse (namings_in s.namings))) names c.self.invariant.0.namings)) in (
      record {
        stretches = c.add_stretch.ensures.stretches;
        namings = subst (λ (l : List Name). AreNamings (n + 1) (length l) (reverse (namings_in c.push_reserved.new.self))) (sym c.in_ok-push_row.ensures.ok) put.namings;
        binds = binds_more n (n + 1) (reverse s.binds.items) (omega arith) c.self.invariant.0.binds;
      },
      omega arith,
    )

pub returns-clause-ok : goal.returns-clause-ok
returns-clause-ok c =
    let s = c.self.inside in
    let n = s.count in
    let fresh = row_of (name.Var c.args.first) c.args.count in
    let k : Pick = record { thread = c.args.thread; fresh = fresh; bind = None } in
    let t : Naming = record { pick = n; first = c.len-place.result } in
    let names = sym c.len-place.ensures.value in
    let old = columns_of s.stretches.items (namings_in s.namings) s.names s.binds.items in
    let new = columns_of c.add_stretch.new.stretches.items (namings_in c.push_reserved.new.self) c.push_row.new.self s.binds.items in
    let put : IsNamingOn n fresh s.names (reverse (namings_in s.namings)) (reverse (namings_in c.push_reserved.new.self)) =
    subst (λ (l : List Naming). IsNamingOn n fresh s.names (reverse (namings_in s.namings)) l)
    (sym (ap reverse (c.push_reserved.ensures ∙ ap (λ (l : List Naming). l ++ t ∷ []) c.reserve-2.ensures.same) ∙ reverse_push (namings_in s.namings) t))
    (naming_some n c.len-place.result fresh s.names (reverse (namings_in s.namings)) names (subst (λ (m : ℕ). AreNamings n m (reverse (namings_in s.namings))) names c.self.invariant.0.namings)) in
    let stretches : IsStretchOn n c.args.thread (reverse s.stretches.items) (reverse c.add_stretch.new.stretches.items) =
    subst (λ (l : List Stretch). IsStretchOn n c.args.thread (reverse l) (reverse c.add_stretch.new.stretches.items)) c.reserve.ensures.items c.add_stretch.ensures in
    ap (λ (m : ℕ). picks_below new m) (add-one n)
    ∙ (picks_put old new n k stretches put c.in_ok-push_row.ensures.ok (λ i below. refl) (no_bind n (reverse s.binds.items) n c.self.invariant.0.binds (omega arith))
    ∙ ap (λ (ks : List Pick). ks ++ k ∷ []) c.self.view_is)
