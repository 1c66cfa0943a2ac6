use Rattle.std.proofs.Common.{◌≡◌, ◌∙◌, sym, ap, inl, inr}
use Rattle.tree_node.specs.declared.names.VarName.{VarName}
use Rattle.tree_store.specs.Links.{ClassEntries, entry_in}
use Rattle.tree_store.proofs.LinkLemmas.{tells_same, join_tells, end_told, on_err}
use Rattle.tree_store.proofs.links.Links.union.Goals as goal

pub returns-in_err-make_set-clause-err : goal.returns-in_err-make_set-clause-err
returns-in_err-make_set-clause-err c =
    on_err c.from_residual.result (λ root t. tells_same root (entry_in c.args.self.now) (entry_in c.make_set.new.forest.entries)
    (λ y. c.make_set.ensures.same y ∙ ap (λ (es : ClassEntries). entry_in es y) c.self.view_is) t)

pub returns-in_err-make_set-2-clause-err : goal.returns-in_err-make_set-2-clause-err
returns-in_err-make_set-2-clause-err c =
    on_err c.from_residual-in_err-make_set-2.result (λ root t. tells_same root (entry_in c.args.self.now) (entry_in c.make_set-2.new.forest.entries)
    (λ y. c.make_set-2.ensures.same y ∙ c.make_set.ensures.same y ∙ ap (λ (es : ClassEntries). entry_in es y) c.self.view_is) t)

pub returns-then-above-below-clause-ok : goal.returns-then-above-below-clause-ok
returns-then-above-below-clause-ok c root t apart =
    let settled : (y : VarName) → entry_in c.make_set-2.new.forest.entries y ≡ entry_in c.args.self.now y =
    λ y. c.make_set-2.ensures.same y ∙ c.make_set.ensures.same y ∙ ap (λ (es : ClassEntries). entry_in es y) c.self.view_is in
    let upper = c.top-above.ensures.class root t in
    let lower = c.top-below.ensures.class root t in
    join_tells root (entry_in c.args.self.now) (entry_in c.make_set-2.new.forest.entries) (entry_in c.attach.new.forest.entries) c.args.var c.args.other
    c.top-above.result.parent c.top-below.result.parent c.top-below.result.end t settled c.top-above.ensures.top c.top-below.ensures.top
    (λ e. apart (sym upper ∙ ap root e ∙ lower)) apart (inl (upper, lower))
    (end_told root (entry_in c.args.self.now) (entry_in c.make_set-2.new.forest.entries) c.top-below.result.parent c.args.other c.top-below.result t settled c.top-below.ensures.top lower (c.top-below.ensures.entry ∙ sym (settled c.top-below.result.parent)))
    c.attach.ensures.forest

pub returns-else-above-below-clause-ok : goal.returns-else-above-below-clause-ok
returns-else-above-below-clause-ok c root t apart =
    let settled : (y : VarName) → entry_in c.make_set-2.new.forest.entries y ≡ entry_in c.args.self.now y =
    λ y. c.make_set-2.ensures.same y ∙ c.make_set.ensures.same y ∙ ap (λ (es : ClassEntries). entry_in es y) c.self.view_is in
    let upper = c.top-above.ensures.class root t in
    let lower = c.top-below.ensures.class root t in
    join_tells root (entry_in c.args.self.now) (entry_in c.make_set-2.new.forest.entries) (entry_in c.attach-else-above-below.new.forest.entries) c.args.var c.args.other
    c.top-below.result.parent c.top-above.result.parent c.top-below.result.end t settled c.top-below.ensures.top c.top-above.ensures.top
    (λ e. apart (sym upper ∙ ap root (sym e) ∙ lower)) apart (inr (lower, upper))
    (end_told root (entry_in c.args.self.now) (entry_in c.make_set-2.new.forest.entries) c.top-below.result.parent c.args.other c.top-below.result t settled c.top-below.ensures.top lower (c.top-below.ensures.entry ∙ sym (settled c.top-below.result.parent)))
    c.attach-else-above-below.ensures.forest
