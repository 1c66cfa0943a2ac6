-- Which symbol stands at the front.
use Rattle.std.specs.Prelude.{List, ◌∷◌, Bool, true, false}
use Rattle.oz_grammar.specs.declared.symbol.Symbol.{Symbol}
use Rattle.oz_grammar.specs.declared.symbol.Symbol.TheVariants as t

-- a dot
abbrev pub is_dot : List Symbol → Bool
is_dot (t.Dot ∷ rest) = true
is_dot symbols = false

-- what begins another clause
abbrev pub is_clause : List Symbol → Bool
is_clause (t.Clause ∷ rest) = true
is_clause symbols = false

-- a variable
abbrev pub is_variable : List Symbol → Bool
is_variable (t.Variable x ∷ rest) = true
is_variable symbols = false

-- an integer
abbrev pub is_integer : List Symbol → Bool
is_integer (t.Integer n ∷ rest) = true
is_integer symbols = false

-- what begins a value by tests
abbrev pub is_if : List Symbol → Bool
is_if (t.If ∷ rest) = true
is_if symbols = false

-- .. by patterns
abbrev pub is_case : List Symbol → Bool
is_case (t.Case ∷ rest) = true
is_case symbols = false

-- what goes on with a value behind its first part: an operator, a test or a bar
abbrev pub goes_on : List Symbol → Bool
goes_on (t.Operator o ∷ rest) = true
goes_on (t.Test o ∷ rest) = true
goes_on (t.Bar ∷ rest) = true
goes_on symbols = false
