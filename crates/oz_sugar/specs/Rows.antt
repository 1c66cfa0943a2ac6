-- Worked examples: how deep programs with sugar are, computed by hand. A value whose first kernel statement has this depth is too deep
-- at this place, or not.
use Rattle.std.specs.Prelude.{◌≡◌, ℕ, Some, None, pos}
use Rattle.kernel_syntax.specs.declared.stmt.Op.TheVariants as op
use Rattle.kernel_syntax.specs.declared.sugar.Operation.TheVariants as operation
use Rattle.kernel_syntax.specs.Sugar.{Value, Values, Statement, Statements, Integer, Apply, Brackets, Skip, Finally, no_values, value_and, no_statements, statement_and}
use Rattle.oz_sugar.specs.Deep.{deep_value, deep_statement}

-- a statement alone
abbrev one : Statement → Statements
one s = statement_and s no_statements

-- two values
abbrev two : Value → Value → Values
two a b = value_and a (value_and b no_values)

-- an integer
abbrev int : ℕ → Value
int n = Integer 0 (pos n)

-- 1, at the last level; 1 + 2, whose parts are a level deeper each, in the `local` of the one before
abbrev pub LeafFits : Type 0
LeafFits = deep_value (int 1) 7 200 ≡ None

-- .. at the last level but one
abbrev pub PartsGoDeeper : Type 0
PartsGoDeeper = deep_value (Apply 7 (operation.Calc op.Add) (two (int 1) (int 2))) 7 199 ≡ Some 7

-- .. and at the one before
abbrev pub PartsFit : Type 0
PartsFit = deep_value (Apply 7 (operation.Calc op.Add) (two (int 1) (int 2))) 7 198 ≡ None

-- (1): brackets take no level of the program
abbrev pub BracketsTakeNoLevel : Type 0
BracketsTakeNoLevel = deep_value (Brackets 7 (int 1)) 7 200 ≡ None

-- try skip finally skip end: its handler's statements are two levels deeper
abbrev pub FinallyTakesTwoLevels : Type 0
FinallyTakesTwoLevels = deep_statement (Finally 7 (one (Skip 6)) (one (Skip 5))) 199 ≡ Some 7
