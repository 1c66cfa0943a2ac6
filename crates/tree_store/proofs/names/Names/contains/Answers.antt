use Rattle.std.proofs.Common.{◌≡◌, ◌∙◌, sym, ap, refl, false}
use Rattle.tree_store.specs.Names.{NameTable, is_own}
use Rattle.tree_store.proofs.FiledLemmas.{own_known, other_tells}
use Rattle.tree_store.proofs.names.Names.contains.Goals as goal

pub returns-then-is_own : goal.returns-then-is_own
returns-then-is_own c = (λ _. own_known c.args.self.now c.args.var (sym c.is_own.ensures ∙ c.if-is_own.true), λ _. refl)

pub returns : goal.returns
returns c =
    let f : NameTable = record { site = c.self.inside.site; first = c.self.inside.first; own = c.self.inside.own.items; others = c.self.inside.others.entries } in
    let beside : is_own f c.args.var ≡ false = ap (λ (k : NameTable). is_own k c.args.var) c.self.view_is ∙ sym c.is_own.ensures ∙ c.if-is_own.false in
    rw (← c.self.view_is) (other_tells f c.args.var c.contains_key.result c.self.invariant beside c.contains_key.ensures)
