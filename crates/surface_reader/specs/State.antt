-- What a reader of programs with sugar has around it, and what is left.
use Rattle.std.specs.Prelude.{◌≡◌, ℕ, ◌<◌, ◌≤◌, List, length, take}
use Rattle.oz_grammar.specs.declared.symbol.Symbol.{Symbol}
use Rattle.oz_grammar.specs.Scoping.{Scope}

-- the names declared around its place, and the symbols that are left
pub record State : Type 0 where
  pub scope : Scope
  pub rest : List Symbol

-- the state of these parts
abbrev pub state_of : Scope → List Symbol → State
state_of scope rest = record { scope = scope; rest = rest }

-- behind what is read: the same names, and fewer symbols
abbrev pub IsBehind : State → State → Type 0
IsBehind old new = (new.scope ≡ old.scope) × (length new.rest < length old.rest)

-- .. or no fewer
abbrev pub IsNotBefore : State → State → Type 0
IsNotBefore old new = (new.scope ≡ old.scope) × (length new.rest ≤ length old.rest)

-- names are declared behind so many of those before, and fewer symbols are left
abbrev pub IsDeclaring : ℕ → State → State → Type 0
IsDeclaring outer old new = (take outer new.scope ≡ take outer old.scope) × (outer ≤ length new.scope) × (length new.rest < length old.rest)

-- .. behind all of them
abbrev pub HasDeclared : State → State → Type 0
HasDeclared old new = (take (length old.scope) new.scope ≡ old.scope) × (length old.scope ≤ length new.scope) × (length new.rest < length old.rest)
