use Rattle.std.proofs.Common.{◌≡◌, ◌∙◌, ap, []}
use Rattle.tree_store.specs.Names.{NameTable}
use Rattle.tree_store.proofs.FiledLemmas.{begun_names, begun_ordinals}
use Rattle.tree_store.proofs.names.Names.begin.Goals as goal

pub returns-clause-names : goal.returns-clause-names
returns-clause-names c =
    let f : NameTable = record { site = c.self.inside.site; first = c.self.inside.first; own = c.self.inside.own.items; others = c.self.inside.others.entries } in
    let empty : f.own ≡ [] = ap (λ (k : NameTable). k.own) c.self.view_is ∙ c.requires in
    rw (← c.self.view_is) (begun_names f c.args.var.site c.args.var.num c.self.invariant empty)

pub returns-clause-ordinals : goal.returns-clause-ordinals
returns-clause-ordinals c y =
    let f : NameTable = record { site = c.self.inside.site; first = c.self.inside.first; own = c.self.inside.own.items; others = c.self.inside.others.entries } in
    let empty : f.own ≡ [] = ap (λ (k : NameTable). k.own) c.self.view_is ∙ c.requires in
    rw (← c.self.view_is) (begun_ordinals f c.args.var.site c.args.var.num y empty)
