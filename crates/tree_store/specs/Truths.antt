-- Texts that are kept.
use Rattle.std.specs.Prelude.{◌≡◌, ℕ, List, Option, Some, None}

-- where a text is kept it is this one
abbrev pub IsKept : List ℕ → Option (List ℕ) → Type 0
IsKept bytes None = Unit {0}
IsKept bytes (Some text) = text ≡ bytes
