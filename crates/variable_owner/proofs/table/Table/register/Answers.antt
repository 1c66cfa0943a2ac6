use Rattle.std.proofs.Common.{◌≡◌, ◌-◌, ◌∙◌, ap, sym, subst, ℕ, List, ◌++◌, length, true, false, Some}
use Rattle.std.specs.Prelude.{Option, IfSome, IfOk}
use Rattle.std.proofs.lemmas.Result.{on_ok_weaker, on_err_weaker}
use Rattle.variable_owner.specs.declared.owners.Owner.{Owner}
use Rattle.variable_owner.specs.Owners.{Owned, TellsRegistered, owner_of, with_owner, after_register}
use Rattle.variable_owner.specs.Row.{in_row, is_in_row, owner_in}
use Rattle.variable_owner.proofs.OwnerLemmas.{on_answer, registered, unregistered, unmade}
use Rattle.variable_owner.proofs.RowLemmas.{row_below, row_held, row_registered, other_held, other_written, past_owner, beside_none}
use Rattle.variable_owner.proofs.table.Table.register.Goals as goal

pub join-requires : goal.join-requires
join-requires c = row_below c.self.inside.site c.self.inside.first (length c.self.inside.row) c.args.var (ap (λ (n : ℕ). is_in_row c.self.inside.site c.self.inside.first n c.args.var) (sym c.len.ensures) ∙ sym c.is_within.ensures ∙ c.if-is_within.true)

pub returns-then-is_within-clause-answer : goal.returns-then-is_within-clause-answer
returns-then-is_within-clause-answer c =
    let held : owner_of c.args.self.now c.args.var ≡ Some (owner_in c.self.inside.row (c.args.var.num - c.self.inside.first)) = ap (λ (l : List Owned). owner_of l c.args.var) (sym c.self.view_is) ∙ row_held c.self.inside.site c.self.inside.first c.self.inside.row c.self.inside.others.entries c.args.var (ap (λ (n : ℕ). is_in_row c.self.inside.site c.self.inside.first n c.args.var) (sym c.len.ensures) ∙ sym c.is_within.ensures ∙ c.if-is_within.true) in
    subst (λ (o : Option Owner). IfOk c.join.result (λ r. IfSome o (λ p. TellsRegistered p r))) (sym held) c.join.ensures.answer

pub returns-then-is_within-clause-ok : goal.returns-then-is_within-clause-ok
returns-then-is_within-clause-ok c = on_ok_weaker c.join.result
    (λ is. row_registered c.self.inside.site c.self.inside.first c.self.inside.row _ c.self.inside.others.entries c.args.var c.args.site (ap (λ (n : ℕ). is_in_row c.self.inside.site c.self.inside.first n c.args.var) (sym c.len.ensures) ∙ sym c.is_within.ensures ∙ c.if-is_within.true) is ∙ ap (λ (l : List Owned). after_register l c.args.var c.args.site) c.self.view_is)
    c.join.ensures.ok

pub returns-then-is_within-clause-err : goal.returns-then-is_within-clause-err
returns-then-is_within-clause-err c = on_err_weaker c.join.result
    (λ is. ap (λ (l : List Owner). in_row c.self.inside.site c.self.inside.first l ++ c.self.inside.others.entries) is ∙ c.self.view_is)
    c.join.ensures.err

pub returns-then-is_within-clause-bound : goal.returns-then-is_within-clause-bound
returns-then-is_within-clause-bound c = on_answer c.join.result
    (λ is. ap (λ (l : List Owner). in_row c.self.inside.site c.self.inside.first l ++ c.self.inside.others.entries) is ∙ c.self.view_is)
    c.join.ensures.bound

pub unreachable-requires : goal.unreachable-requires
unreachable-requires c =
    let test : is_in_row c.self.inside.site c.self.inside.first (length c.self.inside.row) c.args.var ≡ false = ap (λ (n : ℕ). is_in_row c.self.inside.site c.self.inside.first n c.args.var) (sym c.len.ensures) ∙ sym c.is_within.ensures ∙ c.if-is_within.false in
    unmade c.args.self.now c.args.var
    (ap (λ (l : List Owned). owner_of l c.args.var) (sym c.self.view_is) ∙ past_owner _ c.self.inside.others.entries c.args.var (beside_none c.self.inside.site c.self.inside.first c.self.inside.row c.args.var test) ∙ sym c.in-None.ensures.value) c.requires.made

pub returns-clause-answer : goal.returns-clause-answer
returns-clause-answer c =
    let test : is_in_row c.self.inside.site c.self.inside.first (length c.self.inside.row) c.args.var ≡ false = ap (λ (n : ℕ). is_in_row c.self.inside.site c.self.inside.first n c.args.var) (sym c.len.ensures) ∙ sym c.is_within.ensures ∙ c.if-is_within.false in
    let held : owner_of c.args.self.now c.args.var ≡ Some c.in-Some.owner.now = ap (λ (l : List Owned). owner_of l c.args.var) (sym c.self.view_is) ∙ other_held c.self.inside.site c.self.inside.first c.self.inside.row c.self.inside.others.entries c.args.var c.in-Some.owner.now test c.in-Some.ensures.value in
    subst (λ (o : Option Owner). IfOk c.join-in-Some.result (λ r. IfSome o (λ p. TellsRegistered p r))) (sym held) c.join-in-Some.ensures.answer

pub returns-clause-ok : goal.returns-clause-ok
returns-clause-ok c =
    let test : is_in_row c.self.inside.site c.self.inside.first (length c.self.inside.row) c.args.var ≡ false = ap (λ (n : ℕ). is_in_row c.self.inside.site c.self.inside.first n c.args.var) (sym c.len.ensures) ∙ sym c.is_within.ensures ∙ c.if-is_within.false in
    let held : owner_of c.args.self.now c.args.var ≡ Some c.in-Some.owner.now = ap (λ (l : List Owned). owner_of l c.args.var) (sym c.self.view_is) ∙ other_held c.self.inside.site c.self.inside.first c.self.inside.row c.self.inside.others.entries c.args.var c.in-Some.owner.now test c.in-Some.ensures.value in
    on_ok_weaker c.join-in-Some.result
    (λ is. registered c.args.self.now _ c.args.var c.args.site c.in-Some.owner.now c.join-in-Some.new.self held (other_written c.self.inside.site c.self.inside.first c.self.inside.row c.self.inside.others.entries _ c.args.var c.in-Some.owner.now c.join-in-Some.new.self test c.in-Some.ensures.value (c.get_mut.follows.holds c.join-in-Some.new.self).0 ∙ ap (λ (l : List Owned). with_owner l c.args.var c.join-in-Some.new.self) c.self.view_is) is)
    c.join-in-Some.ensures.ok

pub returns-clause-err : goal.returns-clause-err
returns-clause-err c =
    let test : is_in_row c.self.inside.site c.self.inside.first (length c.self.inside.row) c.args.var ≡ false = ap (λ (n : ℕ). is_in_row c.self.inside.site c.self.inside.first n c.args.var) (sym c.len.ensures) ∙ sym c.is_within.ensures ∙ c.if-is_within.false in
    let held : owner_of c.args.self.now c.args.var ≡ Some c.in-Some.owner.now = ap (λ (l : List Owned). owner_of l c.args.var) (sym c.self.view_is) ∙ other_held c.self.inside.site c.self.inside.first c.self.inside.row c.self.inside.others.entries c.args.var c.in-Some.owner.now test c.in-Some.ensures.value in
    on_err_weaker c.join-in-Some.result
    (λ is. unregistered c.args.self.now _ c.args.var c.in-Some.owner.now c.join-in-Some.new.self held (other_written c.self.inside.site c.self.inside.first c.self.inside.row c.self.inside.others.entries _ c.args.var c.in-Some.owner.now c.join-in-Some.new.self test c.in-Some.ensures.value (c.get_mut.follows.holds c.join-in-Some.new.self).0 ∙ ap (λ (l : List Owned). with_owner l c.args.var c.join-in-Some.new.self) c.self.view_is) is)
    c.join-in-Some.ensures.err

pub returns-clause-bound : goal.returns-clause-bound
returns-clause-bound c =
    let test : is_in_row c.self.inside.site c.self.inside.first (length c.self.inside.row) c.args.var ≡ false = ap (λ (n : ℕ). is_in_row c.self.inside.site c.self.inside.first n c.args.var) (sym c.len.ensures) ∙ sym c.is_within.ensures ∙ c.if-is_within.false in
    let held : owner_of c.args.self.now c.args.var ≡ Some c.in-Some.owner.now = ap (λ (l : List Owned). owner_of l c.args.var) (sym c.self.view_is) ∙ other_held c.self.inside.site c.self.inside.first c.self.inside.row c.self.inside.others.entries c.args.var c.in-Some.owner.now test c.in-Some.ensures.value in
    on_answer c.join-in-Some.result
    (λ is. unregistered c.args.self.now _ c.args.var c.in-Some.owner.now c.join-in-Some.new.self held (other_written c.self.inside.site c.self.inside.first c.self.inside.row c.self.inside.others.entries _ c.args.var c.in-Some.owner.now c.join-in-Some.new.self test c.in-Some.ensures.value (c.get_mut.follows.holds c.join-in-Some.new.self).0 ∙ ap (λ (l : List Owned). with_owner l c.args.var c.join-in-Some.new.self) c.self.view_is) is)
    c.join-in-Some.ensures.bound
