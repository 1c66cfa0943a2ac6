use Rattle.std.proofs.Common.{◌≡◌, ◌∙◌, sym, subst, Bool, true, false}
use Rattle.std.specs.Prelude.{is_some, nat_lt}
use Rattle.plain_run.specs.Progress.{IsProgress}
use Rattle.plain_run.proofs.ProgressLemmas.{as_chosen, made, took, went}
use Rattle.plain_run.proofs.drive.make_turn.Goals as goal

pub returns-then-is_some-clause-progress : goal.returns-then-is_some-clause-progress
returns-then-is_some-clause-progress c =
    let old = c.args.world.now in
    let new = c.turn.new.self in
    let choice = c.args.choice in
    let turn = as_chosen c.args.limits old new choice c.min-units.result c.steps-steps.result c.from.result c.min-units.ensures c.steps-steps.ensures c.from.ensures c.in-Ok.ensures.turn in
    let some : is_some choice.place ≡ true = sym c.is_some.ensures ∙ c.if-is_some.true in
    subst (λ (b : Bool). IsProgress c.args.limits old new b) (sym c.if-is_some.true)
    (took c.args.limits old.program old new choice c.requires.going c.requires.can turn c.in-Ok.ensures.run some)

pub returns-else-is_some-clause-progress : goal.returns-else-is_some-clause-progress
returns-else-is_some-clause-progress c =
    let old = c.args.world.now in
    let new = c.turn.new.self in
    let choice = c.args.choice in
    let turn = as_chosen c.args.limits old new choice c.min-units.result c.steps-steps.result c.from.result c.min-units.ensures c.steps-steps.ensures c.from.ensures c.in-Ok.ensures.turn in
    let none : is_some choice.place ≡ false = sym c.is_some.ensures ∙ c.if-is_some.false in
    subst (λ (b : Bool). IsProgress c.args.limits old new b) (λ i. nat_lt (sym c.steps-steps.ensures i) (sym c.steps.ensures i))
    (went c.args.limits old.program old new choice c.requires.going c.requires.can turn c.in-Ok.ensures.run none)

pub returns-then-is_some-clause-made : goal.returns-then-is_some-clause-made
returns-then-is_some-clause-made c =
    let old = c.args.world.now in
    let new = c.turn.new.self in
    let choice = c.args.choice in
    let turn = as_chosen c.args.limits old new choice c.min-units.result c.steps-steps.result c.from.result c.min-units.ensures c.steps-steps.ensures c.from.ensures c.in-Ok.ensures.turn in
    made c.args.limits old.program old new choice c.requires.going c.requires.can turn c.in-Ok.ensures.run c.turn.ensures.program.0 c.turn.ensures.program.1 c.in-Ok.ensures.live

pub returns-else-is_some-clause-made : goal.returns-else-is_some-clause-made
returns-else-is_some-clause-made c =
    let old = c.args.world.now in
    let new = c.turn.new.self in
    let choice = c.args.choice in
    let turn = as_chosen c.args.limits old new choice c.min-units.result c.steps-steps.result c.from.result c.min-units.ensures c.steps-steps.ensures c.from.ensures c.in-Ok.ensures.turn in
    made c.args.limits old.program old new choice c.requires.going c.requires.can turn c.in-Ok.ensures.run c.turn.ensures.program.0 c.turn.ensures.program.1 c.in-Ok.ensures.live

pub returns-then-is_some-clause-turn : goal.returns-then-is_some-clause-turn
returns-then-is_some-clause-turn c = (
  as_chosen c.args.limits c.args.world.now c.turn.new.self c.args.choice c.min-units.result c.steps-steps.result c.from.result c.min-units.ensures c.steps-steps.ensures c.from.ensures c.in-Ok.ensures.turn,
  c.in-Ok.ensures.order,
)

pub returns-else-is_some-clause-turn : goal.returns-else-is_some-clause-turn
returns-else-is_some-clause-turn c = (
  as_chosen c.args.limits c.args.world.now c.turn.new.self c.args.choice c.min-units.result c.steps-steps.result c.from.result c.min-units.ensures c.steps-steps.ensures c.from.ensures c.in-Ok.ensures.turn,
  c.in-Ok.ensures.order,
)
