use Rattle.std.proofs.Common.{◌≡◌, ◌∙◌, sym, ap, true}
use Rattle.tree_store.specs.Names.{NameTable, is_own}
use Rattle.tree_store.proofs.FiledLemmas.{own_read}
use Rattle.tree_store.proofs.names.Names.ordinal.Goals as goal

pub returns-then-is_own : goal.returns-then-is_own
returns-then-is_own c =
    let f : NameTable = record { site = c.self.inside.site; first = c.self.inside.first; own = c.self.inside.own.items; others = c.self.inside.others.entries } in
    let own : is_own f c.args.var ≡ true = ap (λ (k : NameTable). is_own k c.args.var) c.self.view_is ∙ sym c.is_own.ensures ∙ c.if-is_own.true in
    rw (← c.self.view_is) (own_read f c.args.var c.index.result.now own c.index.ensures)
