-- What is known and reached, and what a store takes in.
use Rattle.std.specs.Prelude.{◌≡◌, ℕ, ◌<◌, List, [], ◌∷◌, ◌++◌, length, take, get_or, false, is_some, Contains, if◌then◌else◌}
use Rattle.std.specs.List.{list_any}
use Rattle.tree_node.specs.declared.names.VarName.{VarName}
use Rattle.tree_node.specs.declared.node.Term.{Term}
use Rattle.tree_node.specs.Assoc.{value_of}
use Rattle.tree_node.specs.Store.{Store, Equation, equal_var}
use Rattle.tree_store.specs.Contents.{Contents as Held}
use Rattle.site_message.specs.Vars.{vars_of}
use Rattle.site_model.specs.Bundle.{distinct_vars, known_equations}
use Rattle.site_model.specs.Laws.{left_names}

-- ---- what goes out

-- the variable is one of these, or stands in the term of one that is reached
pub data IsReached (s : Store) (xs : List VarName) : VarName → Type 0 where
  first : {x : VarName} → Contains xs x → IsReached s xs x
  onward : {x y : VarName} {t : Term} → IsReached s xs x → Contains s (x, t) → Contains (vars_of t) y → IsReached s xs y

-- an equation of the store, of a variable that is reached
abbrev pub IsReachedEquation : Store → List VarName → Equation → Type 0
IsReachedEquation s xs e = Contains s e × IsReached s xs e.0

-- the equations of the variables in a list, each once
abbrev pub equations_among : Store → List VarName → List Equation
equations_among s xs = known_equations s (distinct_vars [] xs)

-- The next equation to take stands at this place of the queue: the places before it add none to those that were taken from
-- the first places
pub record IsNext (s : Store) (queue : List VarName) (from : ℕ) (taken : List Equation) (place : ℕ) (t : Term) : Type 0 where
  pub there : place < length queue
  pub passed : equations_among s (take place queue) ≡ equations_among s (take from queue)
  pub known : (d : VarName) → Contains s (get_or queue place d, t)
  pub new : (d : VarName) → list_any (equal_var (get_or queue place d)) (left_names taken) ≡ false

-- ---- what comes in

-- an equation is taken in where its variable has none
abbrev pub with_equation : Store → Equation → Store
with_equation s e = if is_some (value_of equal_var s e.0) then s else e ∷ s

-- equations are taken in, one after another
abbrev pub with_equations : Store → List Equation → Store
with_equations s [] = s
with_equations s (e ∷ es) = with_equations (with_equation s e) es

-- these names are known besides, and those of them that are new stand behind the others that were new
pub record AreKnown (xs : List VarName) (s : Held) (before : List VarName) (t : Held) (after : List VarName) : Type 0 where
  pub known : t.known ≡ s.known ++ distinct_vars s.known xs
  pub names : after ≡ before ++ distinct_vars s.known xs
