-- What a turn made.
use Rattle.std.specs.Prelude.{◌≡◌, []}
use Rattle.site_units.specs.declared.data.Output.{Output}

-- nothing so far
abbrev pub IsEmpty : Output → Type 0
IsEmpty o = (o.picks ≡ []) × (o.sent ≡ []) × (o.lines.items ≡ [])
