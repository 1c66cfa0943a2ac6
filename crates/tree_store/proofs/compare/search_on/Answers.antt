use Rattle.std.proofs.Common.{◌≡◌, sym, subst, List}
use Rattle.std.specs.Prelude.{IfOk}
use Rattle.tree_node.specs.declared.names.VarName.{VarName}
use Rattle.tree_node.specs.Compare.{Comparison}
use Rattle.tree_node.specs.ClassPairs.{leads_to}
use Rattle.tree_node.proofs.LookedLemmas.{IsLooked}
use Rattle.tree_store.specs.Compared.{comparison_of}
use Rattle.tree_store.specs.declared.compare.Compared.{Compared}
use Rattle.tree_store.proofs.SearchLemmas.{next_found}
use Rattle.tree_store.proofs.FrontLemmas.{front_looked, search_looked, search_found, search_done, fewer_left, first_goes_on}
use Rattle.tree_store.proofs.compare.search_on.Goals as goal

pub pairs-init : goal.pairs-init
pairs-init g c =
    subst (λ (l : List VarName). IsLooked c.args.store.now.equations g.sides c.args.pairs.now c.args.pairs.now l c.args.at) (sym c.new-open_vars.ensures)
    (front_looked c.args.store.now.equations g.sides c.args.pairs.now c.args.at c.forest.ensures.sound c.requires)

pub returns-then-is_apart-clause-answer : goal.returns-then-is_apart-clause-answer
returns-then-is_apart-clause-answer g c =
    search_found c.args.store.now.equations g.sides c.args.pairs.now c.pairs.pairs c.pairs.open_vars c.pairs.at _ c.class_of-left.result c.class_of-right.result c.in_ok-is_apart.is_apart c.pairs.invariant
    (next_found c.pairs.pairs c.pairs.at c.len.result c.key_at-pair.result c.len.ensures c.pairs-test.true c.key_at-pair.ensures)
    (record { left = c.class_of-left.ensures; right = c.class_of-right.ensures }) c.in_ok-is_apart.ensures.apart c.if-is_apart.true

pub returns-then-is_apart-clause-front : goal.returns-then-is_apart-clause-front
returns-then-is_apart-clause-front g c =
    first_goes_on c.args.store.now.equations g.sides c.args.pairs.now c.pairs.pairs c.visit.new.pairs (leads_to c.args.store.now.equations (c.class_of-left.result, c.class_of-right.result)) c.pairs.invariant.added c.in_ok-is_apart.ensures.pairs

pub pairs-smaller : goal.pairs-smaller
pairs-smaller g c =
    fewer_left c.args.store.now.equations g.sides c.args.pairs.now c.pairs.pairs c.pairs.at c.len.result c.pairs.invariant.added c.len.ensures c.pairs-test.true

pub pairs-preserved : goal.pairs-preserved
pairs-preserved g c =
    search_looked c.args.store.now.equations g.sides c.args.pairs.now c.pairs.pairs c.visit.new.pairs c.pairs.open_vars c.visit.new.open_vars c.pairs.at _ c.class_of-left.result c.class_of-right.result
    c.in_ok-is_apart.is_apart c.pairs.invariant
    (next_found c.pairs.pairs c.pairs.at c.len.result c.key_at-pair.result c.len.ensures c.pairs-test.true c.key_at-pair.ensures)
    (record { left = c.class_of-left.ensures; right = c.class_of-right.ensures })
    c.in_ok-is_apart.ensures.apart c.if-is_apart.false c.in_ok-is_apart.ensures.pairs c.in_ok-is_apart.ensures.open_ones

pub returns-clause-answer : goal.returns-clause-answer
returns-clause-answer g c =
    subst (λ (v : Comparison). IfOk c.unless_open.result (λ (k : Compared). comparison_of k ≡ v))
    (search_done c.args.store.now.equations g.sides c.args.pairs.now c.pairs.pairs c.pairs.open_vars c.pairs.at c.len.result c.pairs.invariant c.len.ensures c.pairs-test.false)
    c.unless_open.ensures
