-- The laws of units and messages.
use Rattle.oz_model.proofs.SoundLemmas.{runs_are_sound}
use Rattle.world_cells.specs.Laws.{UnitsAreReached, MessagesAreReached}
use Rattle.world_cells.proofs.MessageLemmas.{message_reached}
use Rattle.world_cells.proofs.UnitLemmas.{unit_reached}

pub units_are_reached : UnitsAreReached
units_are_reached p n limit i w ks th d real r unit other = unit_reached p n limit i real w ks r.centre r.run (runs_are_sound p ks r.centre r.run) r.parts r.numbers r.cells r.sums th d unit other

pub messages_are_reached : MessagesAreReached
messages_are_reached p limit w ks k i m real r stands far at = message_reached p limit w ks r k i m real stands far at
