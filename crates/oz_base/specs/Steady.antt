-- What the source that never fails holds.
use Rattle.std.specs.Prelude.{ℕ, List}
use Rattle.oz_base.specs.declared.steady.SteadySource.{SteadySource}

-- the bytes that the source has left
abbrev pub steady_left : SteadySource → List ℕ
steady_left s = s.rest.now
