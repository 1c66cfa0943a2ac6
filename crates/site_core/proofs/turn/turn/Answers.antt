use Rattle.std.proofs.Common.{subst, sym, ℕ}
use Rattle.std.specs.Prelude.{Option, Some}
use Rattle.std.proofs.lemmas.Result.{on_ok_weaker}
use Rattle.site_message.specs.declared.message.Msg.{Msg}
use Rattle.site_units.specs.Turns.{AreToldUnitsMade}
use Rattle.site_core.specs.Turns.{IsToldTurnMade}
use Rattle.site_core.specs.Site.{message_in}
use Rattle.site_core.proofs.TurnLemmas.{whole_turn, silent_turn}
use Rattle.site_core.proofs.turn.turn.Goals as goal

pub returns-in-None-clause-turn : goal.returns-in-None-clause-turn
returns-in-None-clause-turn c =
    on_ok_weaker c.units.result
    (λ (made : AreToldUnitsMade c.args.program.now c.args.quantum.0 c.args.told.now c.units.new.told c.args.core.now c.args.output.now c.units.new.core c.units.new.output).
    subst (λ (m : Option (ℕ × Msg)). IsToldTurnMade c.args.program.now c.args.quantum.0 c.args.told.now c.units.new.told (message_in m) c.args.core.now c.args.output.now c.units.new.core c.units.new.output) (sym c.in-None.is)
    (silent_turn c.args.program.now c.args.quantum.0 c.args.told.now c.units.new.told c.args.core.now c.units.new.core c.args.output.now c.units.new.output c.requires.consistent made))
    c.units.ensures.units

pub returns-in_ok-receive-in-Some-clause-turn : goal.returns-in_ok-receive-in-Some-clause-turn
returns-in_ok-receive-in-Some-clause-turn c =
    on_ok_weaker c.units-in-Some.result
    (λ (made : AreToldUnitsMade c.args.program.now c.args.quantum.0 c.args.told.now c.units-in-Some.new.told c.receive.new.core c.receive.new.output c.units-in-Some.new.core c.units-in-Some.new.output).
    subst (λ (m : Option (ℕ × Msg)). IsToldTurnMade c.args.program.now c.args.quantum.0 c.args.told.now c.units-in-Some.new.told (message_in m) c.args.core.now c.args.output.now c.units-in-Some.new.core c.units-in-Some.new.output) (sym c.in-Some.is)
    (whole_turn c.args.program.now c.args.quantum.0 c.args.told.now c.units-in-Some.new.told (Some c.in-Some.msg) c.args.core.now c.receive.new.core c.units-in-Some.new.core c.args.output.now c.receive.new.output c.units-in-Some.new.output c.in_ok-receive-in-Some.ensures.received c.in_ok-receive-in-Some.ensures.order made))
    c.units-in-Some.ensures.units
