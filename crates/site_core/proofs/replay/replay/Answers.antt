use Rattle.std.proofs.Common.{subst, sym, ℕ}
use Rattle.std.specs.Prelude.{Option, Some}
use Rattle.std.proofs.lemmas.Result.{on_ok_weaker}
use Rattle.site_message.specs.declared.message.Msg.{Msg}
use Rattle.site_units.specs.Core.{site_of}
use Rattle.site_units.specs.Replay.{AreTheseMade}
use Rattle.site_core.specs.Replay.{IsTheTurnMade, IsStuckTurn}
use Rattle.site_core.specs.Site.{message_in}
use Rattle.site_core.proofs.ReplayLemmas.{the_turn, silent_replay, silent_stuck, stuck_turn}
use Rattle.site_core.proofs.replay.replay.Goals as goal

pub returns-in-None-clause-turn : goal.returns-in-None-clause-turn
returns-in-None-clause-turn c =
    on_ok_weaker c.units_of.result
    (λ (made : AreTheseMade c.args.program.now c.args.threads.now c.args.core.now c.args.output.now c.units_of.new.core c.units_of.new.output).
    subst (λ (m : Option (ℕ × Msg)). IsTheTurnMade c.args.program.now c.args.threads.now (message_in m) c.args.core.now c.args.output.now c.units_of.new.core c.units_of.new.output) (sym c.in-None.is)
    (silent_replay c.args.program.now c.args.threads.now c.args.core.now c.units_of.new.core c.args.output.now c.units_of.new.output c.requires.consistent made))
    c.units_of.ensures.units

pub returns-in-None-clause-stuck : goal.returns-in-None-clause-stuck
returns-in-None-clause-stuck c at e =
    subst (λ (m : Option (ℕ × Msg)). IsStuckTurn c.args.program.now c.args.core.now.sites (site_of c.args.core.now) (message_in m) c.args.threads.now at) (sym c.in-None.is)
    (silent_stuck c.args.program.now c.args.threads.now c.args.core.now at (c.units_of.ensures.stuck at e))

pub returns-in_ok-receive-in-Some-clause-turn : goal.returns-in_ok-receive-in-Some-clause-turn
returns-in_ok-receive-in-Some-clause-turn c =
    on_ok_weaker c.units_of-in-Some.result
    (λ (made : AreTheseMade c.args.program.now c.args.threads.now c.receive.new.core c.receive.new.output c.units_of-in-Some.new.core c.units_of-in-Some.new.output).
    subst (λ (m : Option (ℕ × Msg)). IsTheTurnMade c.args.program.now c.args.threads.now (message_in m) c.args.core.now c.args.output.now c.units_of-in-Some.new.core c.units_of-in-Some.new.output) (sym c.in-Some.is)
    (the_turn c.args.program.now c.args.threads.now (Some c.in-Some.msg) c.args.core.now c.receive.new.core c.units_of-in-Some.new.core c.args.output.now c.receive.new.output c.units_of-in-Some.new.output c.in_ok-receive-in-Some.ensures.received made))
    c.units_of-in-Some.ensures.units

pub returns-in_ok-receive-in-Some-clause-stuck : goal.returns-in_ok-receive-in-Some-clause-stuck
returns-in_ok-receive-in-Some-clause-stuck c at e =
    subst (λ (m : Option (ℕ × Msg)). IsStuckTurn c.args.program.now c.args.core.now.sites (site_of c.args.core.now) (message_in m) c.args.threads.now at) (sym c.in-Some.is)
    (stuck_turn c.args.program.now c.args.threads.now (Some c.in-Some.msg) c.args.core.now c.receive.new.core c.args.output.now c.receive.new.output at c.in_ok-receive-in-Some.ensures.received (c.units_of-in-Some.ensures.stuck at e))
