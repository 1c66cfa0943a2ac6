use Rattle.std.proofs.Common.{◌≡◌, ◌-◌, ◌∙◌, ap, sym, ℕ, ◌<◌, List, [], ◌∷◌, ◌++◌, length, true, None}
use Rattle.std.specs.Prelude.{◌+◌}
use Rattle.std.proofs.lemmas.Result.{on_ok_weaker}
use Rattle.variable_owner.specs.declared.owners.Owner.TheVariants.{Open}
use Rattle.variable_owner.specs.Owners.{Owned, owner_of, with_owner}
use Rattle.variable_owner.specs.Row.{in_row}
use Rattle.variable_owner.proofs.RowLemmas.{none_filed, next_added, first_none, past_written}
use Rattle.variable_owner.proofs.table.Table.make.Goals as goal

pub returns-then-is_next-clause-ok : goal.returns-then-is_next-clause-ok
returns-then-is_next-clause-ok c =
    let new : owner_of (in_row c.self.inside.site c.self.inside.first c.self.inside.row ++ c.self.inside.others.entries) c.args.var ≡ None = ap (λ (l : List Owned). owner_of l c.args.var) (c.self.view_is ∙ c.begin.ensures) ∙ c.requires in
    let name : c.args.var ≡ record { site = c.self.inside.site; num = c.self.inside.first + length c.self.inside.row } = c.is_next.ensures c.if-is_next.true ∙ ap (λ (n : ℕ). record { site = c.self.inside.site; num = c.self.inside.first + n }) c.len.ensures in
    on_ok_weaker c.push.result
    (λ is. next_added c.self.inside.site c.self.inside.first c.self.inside.row _ c.self.inside.others.entries c.args.var (Open []) name (none_filed c.self.inside.others.entries (c.is_empty.ensures.0 c.if-is_empty.true)) is new
    ∙ ap (λ (l : List Owned). with_owner l c.args.var (Open [])) (c.self.view_is ∙ c.begin.ensures))
    c.push.ensures.ok

pub returns-else-is_empty-clause-ok : goal.returns-else-is_empty-clause-ok
returns-else-is_empty-clause-ok c =
    let new : owner_of (in_row c.self.inside.site c.self.inside.first c.self.inside.row ++ c.self.inside.others.entries) c.args.var ≡ None = ap (λ (l : List Owned). owner_of l c.args.var) (c.self.view_is ∙ c.begin.ensures) ∙ c.requires in
    on_ok_weaker c.add.result
    (λ is. ap (λ (l : List Owned). in_row c.self.inside.site c.self.inside.first c.self.inside.row ++ l) is
    ∙ (sym (past_written _ c.self.inside.others.entries c.args.var (Open c.new.result) (first_none _ c.self.inside.others.entries c.args.var new))
    ∙ (ap (λ (l : List Owned). with_owner l c.args.var (Open c.new.result)) (c.self.view_is ∙ c.begin.ensures) ∙ ap (λ (l : List ℕ). with_owner c.args.self.now c.args.var (Open l)) c.new.ensures)))
    c.add.ensures.ok
