-- What a list holds whose empty one takes no memory.
use Rattle.std.specs.Prelude.{◌≡◌, List, [], Option, Some, None}

-- nothing is the empty list
abbrev pub items_of : {X : Type 0} → Option (List X) → List X
items_of None = []
items_of (Some xs) = xs

-- the empty list is held as nothing
abbrev pub IsEmptyFree : {X : Type 0} → Option (List X) → Type 0
IsEmptyFree o = items_of o ≡ [] → o ≡ None
