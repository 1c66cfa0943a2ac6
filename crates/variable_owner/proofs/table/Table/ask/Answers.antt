use Rattle.std.proofs.Common.{◌≡◌, ◌↔◌, ◌-◌, ◌∙◌, ap, sym, subst, ℕ, List, length, true, false, Some}
use Rattle.std.specs.Prelude.{Option, IsSome}
use Rattle.variable_owner.specs.declared.owners.Owner.{Owner}
use Rattle.variable_owner.specs.declared.owners.Asked.TheVariants.{Late}
use Rattle.variable_owner.specs.Owners.{Owned, owner_of, binding_of, with_owner, after_ask}
use Rattle.variable_owner.specs.Row.{is_in_row, owner_in}
use Rattle.variable_owner.proofs.OwnerLemmas.{asked, unmade}
use Rattle.variable_owner.proofs.RowLemmas.{row_below, row_held, row_asked, other_held, other_written, past_owner, beside_none}
use Rattle.variable_owner.proofs.table.Table.ask.Goals as goal

pub bind-requires : goal.bind-requires
bind-requires c = row_below c.self.inside.site c.self.inside.first (length c.self.inside.row) c.args.var (ap (λ (n : ℕ). is_in_row c.self.inside.site c.self.inside.first n c.args.var) (sym c.len.ensures) ∙ sym c.is_within.ensures ∙ c.if-is_within.true)

pub returns-then-is_within-clause-late : goal.returns-then-is_within-clause-late
returns-then-is_within-clause-late c =
    let held : owner_of c.args.self.now c.args.var ≡ Some (owner_in c.self.inside.row (c.args.var.num - c.self.inside.first)) = ap (λ (l : List Owned). owner_of l c.args.var) (sym c.self.view_is) ∙ row_held c.self.inside.site c.self.inside.first c.self.inside.row c.self.inside.others.entries c.args.var (ap (λ (n : ℕ). is_in_row c.self.inside.site c.self.inside.first n c.args.var) (sym c.len.ensures) ∙ sym c.is_within.ensures ∙ c.if-is_within.true) in
    subst (λ (o : Option Owner). (c.bind.result ≡ Late) ↔ IsSome (binding_of o)) (sym held) c.bind.ensures.late

pub returns-then-is_within-clause-after : goal.returns-then-is_within-clause-after
returns-then-is_within-clause-after c =
    row_asked c.self.inside.site c.self.inside.first c.self.inside.row _ c.self.inside.others.entries c.args.var c.args.term (ap (λ (n : ℕ). is_in_row c.self.inside.site c.self.inside.first n c.args.var) (sym c.len.ensures) ∙ sym c.is_within.ensures ∙ c.if-is_within.true) c.bind.ensures.after ∙ ap (λ (l : List Owned). after_ask l c.args.var c.args.term) c.self.view_is

pub unreachable-requires : goal.unreachable-requires
unreachable-requires c =
    let test : is_in_row c.self.inside.site c.self.inside.first (length c.self.inside.row) c.args.var ≡ false = ap (λ (n : ℕ). is_in_row c.self.inside.site c.self.inside.first n c.args.var) (sym c.len.ensures) ∙ sym c.is_within.ensures ∙ c.if-is_within.false in
    unmade c.args.self.now c.args.var
    (ap (λ (l : List Owned). owner_of l c.args.var) (sym c.self.view_is) ∙ past_owner _ c.self.inside.others.entries c.args.var (beside_none c.self.inside.site c.self.inside.first c.self.inside.row c.args.var test) ∙ sym c.in-None.ensures.value) c.requires.made

pub returns-clause-late : goal.returns-clause-late
returns-clause-late c =
    let test : is_in_row c.self.inside.site c.self.inside.first (length c.self.inside.row) c.args.var ≡ false = ap (λ (n : ℕ). is_in_row c.self.inside.site c.self.inside.first n c.args.var) (sym c.len.ensures) ∙ sym c.is_within.ensures ∙ c.if-is_within.false in
    let held : owner_of c.args.self.now c.args.var ≡ Some c.in-Some.owner.now = ap (λ (l : List Owned). owner_of l c.args.var) (sym c.self.view_is) ∙ other_held c.self.inside.site c.self.inside.first c.self.inside.row c.self.inside.others.entries c.args.var c.in-Some.owner.now test c.in-Some.ensures.value in
    subst (λ (o : Option Owner). (c.bind-in-Some.result ≡ Late) ↔ IsSome (binding_of o)) (sym held) c.bind-in-Some.ensures.late

pub returns-clause-after : goal.returns-clause-after
returns-clause-after c =
    let test : is_in_row c.self.inside.site c.self.inside.first (length c.self.inside.row) c.args.var ≡ false = ap (λ (n : ℕ). is_in_row c.self.inside.site c.self.inside.first n c.args.var) (sym c.len.ensures) ∙ sym c.is_within.ensures ∙ c.if-is_within.false in
    let held : owner_of c.args.self.now c.args.var ≡ Some c.in-Some.owner.now = ap (λ (l : List Owned). owner_of l c.args.var) (sym c.self.view_is) ∙ other_held c.self.inside.site c.self.inside.first c.self.inside.row c.self.inside.others.entries c.args.var c.in-Some.owner.now test c.in-Some.ensures.value in
    asked c.args.self.now _ c.args.var c.args.term c.in-Some.owner.now c.bind-in-Some.new.self held
    (other_written c.self.inside.site c.self.inside.first c.self.inside.row c.self.inside.others.entries _ c.args.var c.in-Some.owner.now c.bind-in-Some.new.self test c.in-Some.ensures.value (c.get_mut.follows.holds c.bind-in-Some.new.self).0 ∙ ap (λ (l : List Owned). with_owner l c.args.var c.bind-in-Some.new.self) c.self.view_is) c.bind-in-Some.ensures.after
