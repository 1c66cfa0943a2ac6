use Rattle.std.proofs.Common.{arith, ◌≡◌, ◌∙◌, sym, refl, subst, length}
use Rattle.std.specs.Prelude.{Contains}
use Rattle.indexmap.proofs.CallerLemmas.{insert_entry-new}
use Rattle.tree_node.specs.Store.{equal_var}
use Rattle.tree_store.specs.declared.names.Entry.{Entry}
use Rattle.tree_store.specs.Names.{NameTable, names_in}
use Rattle.tree_store.proofs.FiledLemmas.{next_name, unknown_none, pushed_rising, pushed_names, pushed_ordinals, added_rising, added_names, added_ordinals}
use Rattle.tree_store.proofs.names.Names.push.Goals as goal

pub invariant_of-self-then-is_next : goal.invariant_of-self-then-is_next
invariant_of-self-then-is_next c =
    let f : NameTable = record { site = c.self.inside.site; first = c.self.inside.first; own = c.self.inside.own.items; others = c.self.inside.others.entries } in
    pushed_rising f c.push.new.self.items c.self.invariant c.in_ok-push.ensures.items

pub returns-then-is_next-clause-names : goal.returns-then-is_next-clause-names
returns-then-is_next-clause-names c =
    let f : NameTable = record { site = c.self.inside.site; first = c.self.inside.first; own = c.self.inside.own.items; others = c.self.inside.others.entries } in
    let next : c.args.var ≡ next_name f = subst (λ (k : NameTable). c.args.var ≡ next_name k) (sym c.self.view_is) (c.is_next.ensures c.if-is_next.true) in
    rw (← c.self.view_is) (pushed_names f c.args.var c.push.new.self.items c.self.invariant next c.in_ok-push.ensures.items)

pub returns-then-is_next-clause-ordinals : goal.returns-then-is_next-clause-ordinals
returns-then-is_next-clause-ordinals c y =
    let f : NameTable = record { site = c.self.inside.site; first = c.self.inside.first; own = c.self.inside.own.items; others = c.self.inside.others.entries } in
    let next : c.args.var ≡ next_name f = subst (λ (k : NameTable). c.args.var ≡ next_name k) (sym c.self.view_is) (c.is_next.ensures c.if-is_next.true) in
    let new : Contains (names_in f) c.args.var → ⊥ = subst (λ (k : NameTable). Contains (names_in k) c.args.var → ⊥) (sym c.self.view_is) c.requires in
    rw (← c.self.view_is) (pushed_ordinals f c.args.var y c.push.new.self.items next new c.in_ok-push.ensures.items)

pub invariant_of-self-2 : goal.invariant_of-self-2
invariant_of-self-2 c =
    let f : NameTable = record { site = c.self.inside.site; first = c.self.inside.first; own = c.self.inside.own.items; others = c.self.inside.others.entries } in
    let new : Contains (names_in f) c.args.var → ⊥ = subst (λ (k : NameTable). Contains (names_in k) c.args.var → ⊥) (sym c.self.view_is) c.requires in
    let e : Entry = record { before = c.len-before.result; ordinal = 0 } in
    let at : e.before ≡ length f.own = omega (arith, c.len-before.ensures, c.self.inside.own.ok.0) in
    let more = c.in_ok-insert.ensures.entries ∙ insert_entry-new equal_var c.self.inside.others c.args.var e (unknown_none f c.args.var new) in
    added_rising f c.args.var e c.insert.new.self.entries c.self.invariant at more

pub returns-clause-names : goal.returns-clause-names
returns-clause-names c =
    let f : NameTable = record { site = c.self.inside.site; first = c.self.inside.first; own = c.self.inside.own.items; others = c.self.inside.others.entries } in
    let new : Contains (names_in f) c.args.var → ⊥ = subst (λ (k : NameTable). Contains (names_in k) c.args.var → ⊥) (sym c.self.view_is) c.requires in
    let e : Entry = record { before = c.len-before.result; ordinal = 0 } in
    let at : e.before ≡ length f.own = omega (arith, c.len-before.ensures, c.self.inside.own.ok.0) in
    let more = c.in_ok-insert.ensures.entries ∙ insert_entry-new equal_var c.self.inside.others c.args.var e (unknown_none f c.args.var new) in
    rw (← c.self.view_is) (added_names f c.args.var e c.insert.new.self.entries at more)

pub returns-clause-ordinals : goal.returns-clause-ordinals
returns-clause-ordinals c y =
    let f : NameTable = record { site = c.self.inside.site; first = c.self.inside.first; own = c.self.inside.own.items; others = c.self.inside.others.entries } in
    let new : Contains (names_in f) c.args.var → ⊥ = subst (λ (k : NameTable). Contains (names_in k) c.args.var → ⊥) (sym c.self.view_is) c.requires in
    let e : Entry = record { before = c.len-before.result; ordinal = 0 } in
    rw (← c.self.view_is) (added_ordinals f c.args.var y e c.insert.new.self.entries new refl (c.in_ok-insert.ensures.updates.0 y))
