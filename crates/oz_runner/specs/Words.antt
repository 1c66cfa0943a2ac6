-- The words that a call is given.
use Rattle.std.specs.Prelude.{◌≡◌, ℕ, List, Some, None}
use Rattle.std.specs.declared.option.Option.{Option}

-- these are the words, where they are told
abbrev pub AreToldAs : Option (List (List ℕ)) → List (List ℕ) → Type 0
AreToldAs None words = Unit {0}
AreToldAs (Some told) words = words ≡ told
