use Rattle.std.proofs.Common.{◌≡◌, ◌-◌, ◌∙◌, sym, ap, refl, subst, set, length-set, true, false}
use Rattle.std.specs.Prelude.{Contains}
use Rattle.tree_store.specs.Names.{NameTable, is_own, names_in}
use Rattle.tree_store.proofs.FiledLemmas.{other_some, set_own_names, set_own_ordinals, set_other_rising, set_other_names, set_other_ordinals}
use Rattle.tree_store.proofs.names.Names.set.Goals as goal

pub put-requires : goal.put-requires
put-requires c =
    let f : NameTable = record { site = c.self.inside.site; first = c.self.inside.first; own = c.self.inside.own.items; others = c.self.inside.others.entries } in
    let beside : is_own f c.args.var ≡ false = ap (λ (k : NameTable). is_own k c.args.var) c.self.view_is ∙ sym c.is_own.ensures ∙ c.if-is_own.false in
    let known : Contains (names_in f) c.args.var = subst (λ (k : NameTable). Contains (names_in k) c.args.var) (sym c.self.view_is) c.requires in
    other_some f c.args.var c.self.invariant beside known

pub invariant_of-self-else-is_own : goal.invariant_of-self-else-is_own
invariant_of-self-else-is_own c =
    let f : NameTable = record { site = c.self.inside.site; first = c.self.inside.first; own = c.self.inside.own.items; others = c.self.inside.others.entries } in
    set_other_rising f c.args.var c.args.ordinal c.put.new.others.entries c.self.invariant c.put.ensures

pub returns-then-is_own-clause-names : goal.returns-then-is_own-clause-names
returns-then-is_own-clause-names c =
    let f : NameTable = record { site = c.self.inside.site; first = c.self.inside.first; own = c.self.inside.own.items; others = c.self.inside.others.entries } in
    rw (← c.self.view_is) (set_own_names f (set f.own (c.args.var.num - f.first) c.args.ordinal) (length-set f.own (c.args.var.num - f.first) c.args.ordinal))

pub returns-then-is_own-clause-ordinals : goal.returns-then-is_own-clause-ordinals
returns-then-is_own-clause-ordinals c y =
    let f : NameTable = record { site = c.self.inside.site; first = c.self.inside.first; own = c.self.inside.own.items; others = c.self.inside.others.entries } in
    let own : is_own f c.args.var ≡ true = ap (λ (k : NameTable). is_own k c.args.var) c.self.view_is ∙ sym c.is_own.ensures ∙ c.if-is_own.true in
    rw (← c.self.view_is) (set_own_ordinals f c.args.var y c.args.ordinal (set f.own (c.args.var.num - f.first) c.args.ordinal) own refl)

pub returns-else-is_own-clause-names : goal.returns-else-is_own-clause-names
returns-else-is_own-clause-names c =
    let f : NameTable = record { site = c.self.inside.site; first = c.self.inside.first; own = c.self.inside.own.items; others = c.self.inside.others.entries } in
    rw (← c.self.view_is) (set_other_names f c.args.var c.args.ordinal c.put.new.others.entries c.put.ensures)

pub returns-else-is_own-clause-ordinals : goal.returns-else-is_own-clause-ordinals
returns-else-is_own-clause-ordinals c y =
    let f : NameTable = record { site = c.self.inside.site; first = c.self.inside.first; own = c.self.inside.own.items; others = c.self.inside.others.entries } in
    let beside : is_own f c.args.var ≡ false = ap (λ (k : NameTable). is_own k c.args.var) c.self.view_is ∙ sym c.is_own.ensures ∙ c.if-is_own.false in
    rw (← c.self.view_is) (set_other_ordinals f c.args.var y c.args.ordinal c.put.new.others.entries beside c.put.ensures)
