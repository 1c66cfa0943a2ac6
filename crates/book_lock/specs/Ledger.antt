-- What the ledger of the tests shows.
use Rattle.std.specs.Prelude.{List, [], None}
use Rattle.site_message.specs.declared.story.Sight.{Sight}
use Rattle.site_message.specs.declared.turn.Turn.{Turn}

-- the turns alone
abbrev pub turns_alone : List Turn → Sight
turns_alone turns = record { entries = turns; hands = []; reason = None; fixed = [] }
