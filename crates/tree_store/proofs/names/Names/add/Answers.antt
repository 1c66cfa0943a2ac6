use Rattle.std.proofs.Common.{◌≡◌, ◌∙◌, sym, true, false}
use Rattle.tree_store.specs.Names.{names_in}
use Rattle.tree_store.proofs.NameLemmas.{name_added}
use Rattle.tree_store.proofs.names.Names.add.Goals as goal

both_ways : true ≡ false → ⊥
both_ways e = cc

pub returns-clause-names : goal.returns-clause-names
returns-clause-names c =
    rw (name_added (names_in c.args.self.now) c.args.var (λ k. both_ways (sym (c.contains.ensures.1 k) ∙ c.if-contains.false))) c.push.ensures.names
