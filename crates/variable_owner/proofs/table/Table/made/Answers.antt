use Rattle.std.proofs.Common.{◌≡◌, ◌-◌, ◌∙◌, ap, sym, ℕ, ◌<◌, List, [], ◌∷◌, ◌++◌, true, false, Some}
use Rattle.std.specs.Prelude.{Option, is_some}
use Rattle.variable_owner.specs.declared.owners.Owner.{Owner}
use Rattle.variable_owner.specs.Owners.{Owned, owner_of}
use Rattle.variable_owner.specs.Row.{is_in_row, owner_in}
use Rattle.variable_owner.proofs.RowLemmas.{row_held, beside_none, past_owner}
use Rattle.variable_owner.proofs.table.Table.made.Goals as goal

pub returns-then-is_within : goal.returns-then-is_within
returns-then-is_within c =
    let held : owner_of c.args.self.now c.args.var ≡ Some (owner_in c.self.inside.row (c.args.var.num - c.self.inside.first)) = ap (λ (l : List Owned). owner_of l c.args.var) (sym c.self.view_is) ∙ row_held c.self.inside.site c.self.inside.first c.self.inside.row c.self.inside.others.entries c.args.var (ap (λ (n : ℕ). is_in_row c.self.inside.site c.self.inside.first n c.args.var) (sym c.len.ensures) ∙ sym c.is_within.ensures ∙ c.if-is_within.true) in
    (λ _. ap (λ (o : Option Owner). is_some o) held, λ _. c.if-is_within.true)

pub returns-else-is_within : goal.returns-else-is_within
returns-else-is_within c =
    let held : owner_of c.args.self.now c.args.var ≡ owner_of c.self.inside.others.entries c.args.var = ap (λ (l : List Owned). owner_of l c.args.var) (sym c.self.view_is) ∙ past_owner _ c.self.inside.others.entries c.args.var (beside_none c.self.inside.site c.self.inside.first c.self.inside.row c.args.var (ap (λ (n : ℕ). is_in_row c.self.inside.site c.self.inside.first n c.args.var) (sym c.len.ensures) ∙ sym c.is_within.ensures ∙ c.if-is_within.false)) in
    let e : c.contains_key.result ≡ is_some (owner_of c.args.self.now c.args.var) = c.contains_key.ensures ∙ ap (λ (o : Option Owner). is_some o) (sym held) in
    (λ h. sym e ∙ h, λ h. e ∙ h)
