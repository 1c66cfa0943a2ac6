use Rattle.std.proofs.Common.{◌∙◌, sym, refl}
use Rattle.site_core.proofs.ResultLemmas.{no_value, no_value_on, on_ok_given, on_err_given, no_error, not_spent}
use Rattle.site_core.proofs.guarded.guarded_turn.Goals as goal
use Rattle.tree_node.proofs.ResultLemmas.{of_made}

pub returns-then-is_err-clause-kept : goal.returns-then-is_err-clause-kept
returns-then-is_err-clause-kept c e = not_spent e

pub returns-then-is_err-clause-sites : goal.returns-then-is_err-clause-sites
returns-then-is_err-clause-sites c = c.give_up.ensures.sites

pub returns-then-is_err-clause-number : goal.returns-then-is_err-clause-number
returns-then-is_err-clause-number c = c.give_up.ensures.number ∙ c.site_in-number.ensures _ c.requires.consistent.site

pub returns-then-is_err-clause-turn : goal.returns-then-is_err-clause-turn
returns-then-is_err-clause-turn c = no_value c.recorded_turn-made.result _ (sym c.is_err.ensures.value ∙ c.if-is_err.true)

pub returns-then-is_err-clause-order : goal.returns-then-is_err-clause-order
returns-then-is_err-clause-order c = no_value c.recorded_turn-made.result _ (sym c.is_err.ensures.value ∙ c.if-is_err.true)

pub returns-then-is_err-clause-steps : goal.returns-then-is_err-clause-steps
returns-then-is_err-clause-steps c = no_value_on c.recorded_turn-made.result _ (sym c.is_err.ensures.value ∙ c.if-is_err.true)

pub returns-then-is_err-clause-live : goal.returns-then-is_err-clause-live
returns-then-is_err-clause-live c = no_value_on c.recorded_turn-made.result _ (sym c.is_err.ensures.value ∙ c.if-is_err.true)

pub returns-then-is_err-clause-over : goal.returns-then-is_err-clause-over
returns-then-is_err-clause-over c = on_err_given c.recorded_turn-made.result _ refl

pub returns-clause-kept : goal.returns-clause-kept
returns-clause-kept c e =
    let ok = sym c.is_err.ensures.value ∙ c.if-is_err.false in
    (of_made c.recorded_turn-made.result _ ok c.recorded_turn-made.ensures.consistent, of_made c.recorded_turn-made.result _ ok c.recorded_turn-made.ensures.empty)

pub returns-clause-sites : goal.returns-clause-sites
returns-clause-sites c = of_made c.recorded_turn-made.result _ (sym c.is_err.ensures.value ∙ c.if-is_err.false) c.recorded_turn-made.ensures.sites

pub returns-clause-number : goal.returns-clause-number
returns-clause-number c = of_made c.recorded_turn-made.result _ (sym c.is_err.ensures.value ∙ c.if-is_err.false) c.recorded_turn-made.ensures.number

pub returns-clause-turn : goal.returns-clause-turn
returns-clause-turn c = c.recorded_turn-made.ensures.turn

pub returns-clause-order : goal.returns-clause-order
returns-clause-order c = c.recorded_turn-made.ensures.order

pub returns-clause-steps : goal.returns-clause-steps
returns-clause-steps c = c.recorded_turn-made.ensures.steps

pub returns-clause-live : goal.returns-clause-live
returns-clause-live c = on_ok_given c.recorded_turn-made.result _ refl

pub returns-clause-over : goal.returns-clause-over
returns-clause-over c = no_error c.recorded_turn-made.result _ (sym c.is_err.ensures.value ∙ c.if-is_err.false)
