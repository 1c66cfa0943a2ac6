-- Runs that nothing ended before.
use Rattle.std.specs.Prelude.{◌≡◌, List, [], ◌∷◌, None}
use Rattle.site_message.specs.declared.turn.Turn.{Turn}
use Rattle.site_message.specs.declared.limits.Limits.{Limits}
use Rattle.site_message.specs.Journal.{end_of}

-- the run went on after each of its turns but the last one
abbrev pub HasNoEarlierEnd : Limits → List Turn → Type 0
HasNoEarlierEnd l [] = Unit {0}
HasNoEarlierEnd l (e ∷ j) = HasNoEarlierEnd l j × (end_of l j ≡ None)
