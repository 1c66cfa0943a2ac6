-- Proxies as a list, in the order in which the names were met: each name with the term that it is known to be bound
-- to, if it is.
use Rattle.std.specs.Prelude.{List, [], ◌∷◌, ◌++◌, Option, Some, None, is_some, IsTrue, if◌then◌else◌}
use Rattle.std.specs.Map.{lookup}
use Rattle.indexmap.specs.IndexMap.{insert_entry}
use Rattle.tree_node.specs.declared.names.VarName.{VarName}
use Rattle.tree_node.specs.declared.node.Term.{Term}
use Rattle.tree_node.specs.Store.{equal_var}

-- a name owned elsewhere, with the term that it is known to be bound to, if any
abbrev pub Proxy : Type 0
Proxy = VarName × Option Term

-- what is kept of a name: nothing where it was not met
abbrev pub entry_of : List Proxy → VarName → Option (Option Term)
entry_of es x = lookup (equal_var x) es

-- the site met the name
abbrev pub IsMet : List Proxy → VarName → Type 0
IsMet es x = IsTrue (is_some (entry_of es x))

-- the term that the name is known to be bound to
abbrev pub term_of : List Proxy → VarName → Option Term
term_of es x = held (entry_of es x)
  where
    held : Option (Option Term) → Option Term
    held None = None
    held (Some o) = o

-- a name that was not met goes last, unbound
abbrev pub after_meet : List Proxy → VarName → List Proxy
after_meet es x = if is_some (entry_of es x) then es else es ++ (x, None) ∷ []

-- the name is known to be bound to this term, and keeps its place
abbrev pub after_bound : List Proxy → VarName → Term → List Proxy
after_bound es x t = insert_entry equal_var es x (Some t)
