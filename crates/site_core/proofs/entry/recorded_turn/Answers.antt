use Rattle.std.proofs.Common.{◌≡◌, ◌∙◌, refl}
use Rattle.site_message.specs.declared.turn.Turn.{Turn}
use Rattle.site_model.specs.Run.{IsRecordOf}
use Rattle.site_units.specs.Core.{site_of}
use Rattle.site_core.specs.Site.{IsTurnInOrder, IsTurnMade, message_in}
use Rattle.site_core.specs.Replay.{transition_of}
use Rattle.site_core.proofs.ResultLemmas.{on_ok_given, if_ok_two, if_ok_four}
use Rattle.site_core.proofs.EntryLemmas.{number_stays, turn_recorded, turn_in_order}
use Rattle.site_core.proofs.entry.recorded_turn.Goals as goal

pub returns-clause-turn : goal.returns-clause-turn
returns-clause-turn c =
    if_ok_four c.entry_of.result (λ (e : Turn). IsRecordOf e (transition_of c.turn.new.core c.turn.new.output)) (λ (e : Turn). e.units ≡ c.turn.new.told) (λ (e : Turn). e.site ≡ c.site_in-site.result) (λ (e : Turn). e.delivered ≡ c.number_of-delivered.result)
    (λ (e : Turn). IsTurnMade c.args.program.now c.args.core.now.sites (site_of c.args.core.now) c.args.message c.args.quantum.0 e (site_of c.turn.new.core))
    (λ e recorded units site delivered. turn_recorded c.args.program.now c.args.quantum.0 c.new-units.result c.turn.new.told c.args.message (message_in c.args.message) c.args.core.now c.turn.new.core c.args.output.now c.turn.new.output e
    c.requires.empty.0 c.requires.empty.1 c.requires.empty.2 refl c.new-units.ensures c.in_ok-turn.ensures.turn units (site ∙ c.site_in-site.ensures _ c.requires.consistent.site) (delivered ∙ c.number_of-delivered.ensures) recorded)
    c.entry_of.ensures.record c.entry_of.ensures.units c.entry_of.ensures.site c.entry_of.ensures.delivered

pub returns-clause-consistent : goal.returns-clause-consistent
returns-clause-consistent c = on_ok_given c.entry_of.result _ c.in_ok-turn.ensures.turn.2.3.consistent

pub returns-clause-sites : goal.returns-clause-sites
returns-clause-sites c = on_ok_given c.entry_of.result _ c.in_ok-turn.ensures.turn.2.3.sites

pub returns-clause-number : goal.returns-clause-number
returns-clause-number c =
    on_ok_given c.entry_of.result _ (number_stays c.args.program.now c.args.quantum.0 c.new-units.result c.turn.new.told (message_in c.args.message) c.args.core.now c.turn.new.core c.args.output.now c.turn.new.output c.in_ok-turn.ensures.turn)

pub returns-clause-order : goal.returns-clause-order
returns-clause-order c =
    if_ok_two c.entry_of.result (λ (e : Turn). IsRecordOf e (transition_of c.turn.new.core c.turn.new.output)) (λ (e : Turn). e.units ≡ c.turn.new.told)
    (λ (e : Turn). IsTurnInOrder c.args.program.now c.args.core.now.sites (site_of c.args.core.now) (message_in c.args.message) e (site_of c.turn.new.core) c.args.core.now.threads.order c.turn.new.core.threads.order)
    (λ e recorded units. turn_in_order c.args.program.now c.args.quantum.0 c.new-units.result c.turn.new.told c.args.message (message_in c.args.message) c.args.core.now c.turn.new.core c.args.output.now c.turn.new.output e
    c.requires.empty.0 c.requires.empty.1 c.requires.empty.2 refl c.new-units.ensures c.in_ok-turn.ensures.turn units recorded) c.entry_of.ensures.record c.entry_of.ensures.units

pub returns-clause-steps : goal.returns-clause-steps
returns-clause-steps c = on_ok_given c.entry_of.result _ c.in_ok-turn.ensures.steps
