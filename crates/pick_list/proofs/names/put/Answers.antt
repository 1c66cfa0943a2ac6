use Rattle.std.proofs.Common.{arith, ◌+◌, ◌++◌, ◌∙◌, sym, ap, subst, List}
use Rattle.std.specs.Prelude.{reverse}
use Rattle.tree_node.specs.declared.names.Name.{Name}
use Rattle.pick_list.specs.declared.names.NameRun.{NameRun}
use Rattle.pick_list.specs.Names.{row_of, Follows}
use Rattle.pick_list.proofs.NameLemmas.{names_put, runs_put, runs_taken, last_followed, none_followed, run_longer, row_more, count_within}
use Rattle.pick_list.proofs.names.put.Goals as goal

pub returns-then-not-follows-clause-names : goal.returns-then-not-follows-clause-names
returns-then-not-follows-clause-names c =
    names_put c.args.runs.now.items c.push_reserved.new.self.items (record { first = c.args.first; count = c.args.count }) c.push_reserved.ensures.items

pub returns-then-not-follows-clause-runs : goal.returns-then-not-follows-clause-runs
returns-then-not-follows-clause-runs c =
    runs_put c.args.runs.now.items c.push_reserved.new.self.items (record { first = c.args.first; count = c.args.count }) c.push_reserved.ensures.items c.requires.run c.requires.runs

pub unreachable-requires : goal.unreachable-requires
unreachable-requires c =
    none_followed c.args.runs.now.items c.args.first (let none = c.in-None.ensures.cases in let ok = c.args.runs.now.ok in omega (arith, none, ok))
    (subst (λ (l : List NameRun). Follows (reverse l) c.args.first) c.as_slice.ensures.value (c.follows.ensures c.if-not-follows.false))

pub overflow_add-count : goal.overflow_add-count
overflow_add-count c =
    let within = count_within c.pop.new.self.items c.args.runs.now.items c.in-Some.last c.in-Some.ensures.items in
    let few = c.requires.few in
    omega (arith, within, few)

pub returns-clause-names : goal.returns-clause-names
returns-clause-names c =
    let last = c.in-Some.last in
    let longer : NameRun = record { first = last.first; count = last.count + c.args.count } in
    let after = last_followed c.pop.new.self.items c.args.runs.now.items last c.args.first c.in-Some.ensures.items (subst (λ (l : List NameRun). Follows (reverse l) c.args.first) c.as_slice.ensures.value (c.follows.ensures c.if-not-follows.false)) in
    names_put c.pop.new.self.items c.push_reserved-in-Some.new.self.items longer c.push_reserved-in-Some.ensures.items
    ∙ (run_longer last.first c.args.first last.count c.args.count (reverse c.pop.new.self.items) after
    ∙ ap (λ (l : List Name). l ++ row_of c.args.first c.args.count) (sym (names_put c.pop.new.self.items c.args.runs.now.items last c.in-Some.ensures.items)))

pub returns-clause-runs : goal.returns-clause-runs
returns-clause-runs c =
    let last = c.in-Some.last in
    let longer : NameRun = record { first = last.first; count = last.count + c.args.count } in
    let after = last_followed c.pop.new.self.items c.args.runs.now.items last c.args.first c.in-Some.ensures.items (subst (λ (l : List NameRun). Follows (reverse l) c.args.first) c.as_slice.ensures.value (c.follows.ensures c.if-not-follows.false)) in
    runs_put c.pop.new.self.items c.push_reserved-in-Some.new.self.items longer c.push_reserved-in-Some.ensures.items (row_more last.first c.args.first last.count c.args.count after c.requires.run)
    (runs_taken c.pop.new.self.items c.args.runs.now.items last c.in-Some.ensures.items c.requires.runs).1
