-- Whose turn it was, by the order of turns before and after.
use Rattle.std.specs.Prelude.{◌≡◌, List, [], ◌∷◌, ◌++◌, Contains, Option, Some, None, if◌then◌else◌}
use Rattle.tree_node.specs.declared.names.ThreadName.{ThreadName}
use Rattle.tree_node.specs.State.{equal_thread}
use Rattle.thread_roster.specs.Order.{MayHaveLeft}

-- the thread of this name was the first in the order, where it stood once, and made a unit: the others stay as they stood, and
-- those that can go on since then came behind them
abbrev pub IsUnitOfFirst : ThreadName → List ThreadName → List ThreadName → Type 0
IsUnitOfFirst n old new = (rest : List ThreadName) × (old ≡ n ∷ rest) × (Contains rest n → ⊥) × MayHaveLeft n old new

-- the last of these, if there is one
abbrev pub last_of : List ThreadName → Option ThreadName
last_of [] = None
last_of (n ∷ []) = Some n
last_of (n ∷ m ∷ ns) = last_of (m ∷ ns)

-- the thread of this name goes behind the others, where it is the first in the order
abbrev pub passed_on : Option ThreadName → List ThreadName → List ThreadName
passed_on None order = order
passed_on (Some n) [] = []
passed_on (Some n) (m ∷ others) = if equal_thread m n then others ++ m ∷ [] else m ∷ others
