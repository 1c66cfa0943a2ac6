use Rattle.std.proofs.Common.{◌≡◌, ◌-◌, ◌∙◌, ap, sym, ℕ, ◌<◌, List, [], ◌∷◌, ◌++◌, length, true, false, Some}
use Rattle.variable_owner.specs.Owners.{Owned, owner_of, binding_of}
use Rattle.variable_owner.specs.Row.{is_in_row, owner_in}
use Rattle.variable_owner.proofs.RowLemmas.{row_below, row_held, beside_none, past_owner}
use Rattle.variable_owner.proofs.table.Table.binding.Goals as goal

pub binding-requires : goal.binding-requires
binding-requires c =
    row_below c.self.inside.site c.self.inside.first (length c.self.inside.row) c.args.var (ap (λ (n : ℕ). is_in_row c.self.inside.site c.self.inside.first n c.args.var) (sym c.len.ensures) ∙ sym c.is_within.ensures ∙ c.if-is_within.true)

pub returns-then-is_within : goal.returns-then-is_within
returns-then-is_within c =
    let held : owner_of c.args.self.now c.args.var ≡ Some (owner_in c.self.inside.row (c.args.var.num - c.self.inside.first)) = ap (λ (l : List Owned). owner_of l c.args.var) (sym c.self.view_is) ∙ row_held c.self.inside.site c.self.inside.first c.self.inside.row c.self.inside.others.entries c.args.var (ap (λ (n : ℕ). is_in_row c.self.inside.site c.self.inside.first n c.args.var) (sym c.len.ensures) ∙ sym c.is_within.ensures ∙ c.if-is_within.true) in
    c.binding.ensures ∙ sym (ap binding_of held)

pub returns : goal.returns
returns c =
    let held : owner_of c.args.self.now c.args.var ≡ owner_of c.self.inside.others.entries c.args.var = ap (λ (l : List Owned). owner_of l c.args.var) (sym c.self.view_is) ∙ past_owner _ c.self.inside.others.entries c.args.var (beside_none c.self.inside.site c.self.inside.first c.self.inside.row c.args.var (ap (λ (n : ℕ). is_in_row c.self.inside.site c.self.inside.first n c.args.var) (sym c.len.ensures) ∙ sym c.is_within.ensures ∙ c.if-is_within.false)) in
    c.binding_of.ensures ∙ ap binding_of c.get.ensures.value ∙ sym (ap binding_of held)
