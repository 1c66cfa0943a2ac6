use Rattle.std.proofs.Common.{◌≡◌, ◌∙◌, sym, ap, false}
use Rattle.tree_store.specs.Names.{NameTable, is_own, entry_ordinal}
use Rattle.tree_store.proofs.FiledLemmas.{ordinal_other}
use Rattle.tree_store.proofs.names.Names.other_ordinal.Goals as goal

pub returns-in-Some : goal.returns-in-Some
returns-in-Some c =
    let f : NameTable = record { site = c.self.inside.site; first = c.self.inside.first; own = c.self.inside.own.items; others = c.self.inside.others.entries } in
    let beside : is_own f c.args.var ≡ false = ap (λ (k : NameTable). is_own k c.args.var) c.self.view_is ∙ c.requires in
    rw (← c.self.view_is) (ap entry_ordinal c.in-Some.ensures.value ∙ sym (ordinal_other f c.args.var beside))

pub returns-in-None : goal.returns-in-None
returns-in-None c =
    let f : NameTable = record { site = c.self.inside.site; first = c.self.inside.first; own = c.self.inside.own.items; others = c.self.inside.others.entries } in
    let beside : is_own f c.args.var ≡ false = ap (λ (k : NameTable). is_own k c.args.var) c.self.view_is ∙ c.requires in
    rw (← c.self.view_is) (ap entry_ordinal c.in-None.ensures.value ∙ sym (ordinal_other f c.args.var beside))
