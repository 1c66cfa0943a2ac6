-- Owned variables as a list, in the order in which they were made: each name with its registered sites while it is
-- unbound, then with its binding.
use Rattle.std.specs.Prelude.{◌≡◌, ◌+◌, ℕ, length, List, [], ◌∷◌, ◌++◌, Option, Some, None, is_some, IsTrue}
use Rattle.std.specs.Map.{lookup}
use Rattle.indexmap.specs.IndexMap.{insert_entry}
use Rattle.tree_node.specs.declared.names.VarName.{VarName}
use Rattle.tree_node.specs.declared.node.Term.{Term}
use Rattle.tree_node.specs.Store.{equal_var}
use Rattle.variable_owner.specs.declared.owners.Owner.{Owner}
use Rattle.variable_owner.specs.declared.owners.Owner.TheVariants.{Open, Bound}
use Rattle.variable_owner.specs.declared.owners.Registered.{Registered}
use Rattle.variable_owner.specs.declared.owners.Registered.TheVariants.{Kept, Answer}

-- an own variable with its registered sites, or its term
abbrev pub Owned : Type 0
Owned = VarName × Owner

-- what is kept of a name: nothing where it was not made
abbrev pub owner_of : List Owned → VarName → Option Owner
owner_of es x = lookup (equal_var x) es

-- the owner made the variable
abbrev pub IsMade : List Owned → VarName → Type 0
IsMade es x = IsTrue (is_some (owner_of es x))

-- the sites that are registered for the variable; none where it is bound or was not made
abbrev pub sites_of : Option Owner → List ℕ
sites_of (Some (Open sites)) = sites
sites_of _ = []

-- the accepted binding
abbrev pub binding_of : Option Owner → Option Term
binding_of (Some (Bound t)) = Some t
binding_of _ = None

-- how many registrations are kept
abbrev pub registrations_in : List Owned → ℕ
registrations_in [] = 0
registrations_in (e ∷ es) = length (sites_of (Some e.1)) + registrations_in es

-- no site is registered for any of them
abbrev pub AreAlone : List Owned → Type 0
AreAlone es = (x : VarName) → sites_of (owner_of es x) ≡ []

-- this is kept of the variable
abbrev pub with_owner : List Owned → VarName → Owner → List Owned
with_owner es x o = insert_entry equal_var es x o

-- a Register comes: the site joins those of an unbound variable
abbrev pub with_registered : Owner → ℕ → Owner
with_registered (Open sites) k = Open (sites ++ k ∷ [])
with_registered (Bound t) k = Bound t

-- the same in the table; a Register of a variable that was not made changes nothing
abbrev pub after_register : List Owned → VarName → ℕ → List Owned
after_register es x k = registered (owner_of es x)
  where
    registered : Option Owner → List Owned
    registered None = es
    registered (Some o) = with_owner es x (with_registered o k)

-- and the binding of a bound one is the answer
abbrev pub TellsRegistered : Owner → Registered → Type 0
TellsRegistered (Open sites) Kept = Unit {0}
TellsRegistered (Bound t) (Answer r) = r ≡ t
TellsRegistered _ _ = ⊥

-- a fact for an answer
abbrev pub OnAnswer : Registered → Type 0 → Type 0
OnAnswer Kept P = Unit {0}
OnAnswer (Answer t) P = P

-- a bind is asked for: an unbound variable takes it, and its registrations end. A bound one keeps its binding
abbrev pub after_bind : Owner → Term → Owner
after_bind (Open sites) t = Bound t
after_bind (Bound r) t = Bound r

-- the same in the table; a request for a variable that was not made changes nothing
abbrev pub after_ask : List Owned → VarName → Term → List Owned
after_ask es x t = asked (owner_of es x)
  where
    asked : Option Owner → List Owned
    asked None = es
    asked (Some o) = with_owner es x (after_bind o t)
