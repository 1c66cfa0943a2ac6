-- Worked examples: what programs with sugar stand for, computed by hand. Places are left out: all are 0.
use Rattle.std.specs.Prelude.{◌≡◌, ℕ, [], ◌∷◌, codes, pos}
use Rattle.tree_node.specs.declared.node.Feature.TheVariants as feature
use Rattle.kernel_syntax.specs.declared.stmt.Op.TheVariants as op
use Rattle.kernel_syntax.specs.declared.stmt.TestOp.TheVariants as test
use Rattle.kernel_syntax.specs.declared.stmt.Pattern.TheVariants as pattern
use Rattle.kernel_syntax.specs.declared.stmt.Stmt.TheVariants as stmt
use Rattle.kernel_syntax.specs.declared.built_in.BuiltIn.TheVariants as built
use Rattle.kernel_syntax.specs.declared.sugar.Field.TheVariants as field
use Rattle.kernel_syntax.specs.declared.sugar.Operation.TheVariants as operation
use Rattle.kernel_syntax.specs.declared.sugar.Action.TheVariants as action
use Rattle.kernel_syntax.specs.Sugar.{Value, Variable, Integer, Record, Apply, Fun, If, Brackets, Values, no_values, value_and, Statement, Skip, Tell, Acts, Local, CaseStatement, Finally, Statements, no_statements, statement_and, no_cases, case_and}
use Rattle.oz_grammar.specs.Table.{code_at}
use Rattle.sugar_rows.specs.Put.{expanded_rows}

-- one statement
abbrev one : Statement → Statements
one s = statement_and s no_statements

-- two values
abbrev two : Value → Value → Values
two a b = value_and a (value_and b no_values)

-- an integer
abbrev int : ℕ → Value
int n = Integer 0 (pos n)

-- local of so many identifiers around one statement
abbrev declare : ℕ → Statement → Statements
declare count s = one (Local 0 count (one s))

-- local X in X = 1 + 2 end: an identifier for each part, each in the one before
abbrev pub PartsAreNamed : Type 0
PartsAreNamed =
    expanded_rows (declare 1 (Tell 0 0 (Apply 0 (operation.Calc op.Add) (two (int 1) (int 2)))))
    ≡ stmt.Local 0 1 (code_at 1) ∷ stmt.Local 1 1 (code_at 2) ∷ stmt.Seq (code_at 3 ∷ code_at 4 ∷ []) ∷ stmt.TellInt 1 (pos 1) ∷ stmt.Local 2 1 (code_at 5) ∷ stmt.Seq (code_at 6 ∷ code_at 7 ∷ [])
    ∷ stmt.TellInt 2 (pos 2) ∷ stmt.Calc 0 op.Add 1 2 ∷ []

-- local X Y in X = Y + Y end: variables get none
abbrev pub VariablesStay : Type 0
VariablesStay = expanded_rows (declare 2 (Tell 0 0 (Apply 0 (operation.Calc op.Add) (two (Variable 0 1) (Variable 0 1))))) ≡ stmt.Local 0 2 (code_at 1) ∷ stmt.Calc 0 op.Add 1 1 ∷ []

-- local X in X = X == 1 end: of a test, too
abbrev pub TestsAreNamed : Type 0
TestsAreNamed =
    expanded_rows (declare 1 (Tell 0 0 (Apply 0 (operation.Test test.Equal) (two (Variable 0 0) (int 1)))))
    ≡ stmt.Local 0 1 (code_at 1) ∷ stmt.Local 1 1 (code_at 2) ∷ stmt.Seq (code_at 3 ∷ code_at 4 ∷ []) ∷ stmt.TellInt 1 (pos 1) ∷ stmt.Test 0 test.Equal 0 1 ∷ []

-- local X Y in X = (Y) + Y end: brackets are no variable
abbrev pub BracketsAreNamed : Type 0
BracketsAreNamed =
    expanded_rows (declare 2 (Tell 0 0 (Apply 0 (operation.Calc op.Add) (two (Brackets 0 (Variable 0 1)) (Variable 0 1)))))
    ≡ stmt.Local 0 2 (code_at 1) ∷ stmt.Local 2 1 (code_at 2) ∷ stmt.Seq (code_at 3 ∷ code_at 4 ∷ []) ∷ stmt.TellVar 2 1 ∷ stmt.Calc 0 op.Add 2 1 ∷ []

-- local X in X = 1|X end: an identifier for each field, all around the record and then the fields
abbrev pub FieldsAreNamed : Type 0
FieldsAreNamed =
    expanded_rows (declare 1 (Tell 0 0 (Record 0 (codes "|") ((feature.Int (pos 1), field.Value 0) ∷ (feature.Int (pos 2), field.Variable 0) ∷ []) (value_and (int 1) no_values))))
    ≡ stmt.Local 0 1 (code_at 1) ∷ stmt.Local 1 1 (code_at 2) ∷ stmt.Seq (code_at 3 ∷ code_at 4 ∷ [])
    ∷ stmt.TellRec 0 (codes "|") ((feature.Int (pos 1), 1) ∷ (feature.Int (pos 2), 0) ∷ []) ∷ stmt.TellInt 1 (pos 1) ∷ []

-- local F in fun {F N} N end end: the result is a formal more
abbrev pub ResultIsFormal : Type 0
ResultIsFormal = expanded_rows (declare 1 (Tell 0 0 (Fun 0 1 (Variable 0 1)))) ≡ stmt.Local 0 1 (code_at 1) ∷ stmt.TellProc 0 1 2 (code_at 2) ∷ stmt.TellVar 2 1 ∷ []

-- local X in X = if X then 1 else 2 end end: each branch tells
abbrev pub BranchesTell : Type 0
BranchesTell = expanded_rows (declare 1 (Tell 0 0 (If 0 (Variable 0 0) (int 1) (int 2)))) ≡ stmt.Local 0 1 (code_at 1) ∷ stmt.If 0 (code_at 2) (code_at 3) ∷ stmt.TellInt 0 (pos 1) ∷ stmt.TellInt 0 (pos 2) ∷ []

-- local X in case X of a then skip [] H|T then skip else {Browse X} end end: a clause stands in the `else` of the one before
abbrev pub ClausesNest : Type 0
ClausesNest =
    expanded_rows (declare 1 (CaseStatement 0 (Variable 0 0)
    (case_and (pattern.Atom (codes "a")) (one (Skip 0)) (case_and (pattern.Rec (codes "|") (feature.Int (pos 1) ∷ feature.Int (pos 2) ∷ [])) (one (Skip 0)) no_cases))
    (one (Acts 0 (action.BuiltIn built.Browse) (value_and (Variable 0 0) no_values)))))
    ≡ stmt.Local 0 1 (code_at 1) ∷ stmt.Case 0 (pattern.Atom (codes "a")) 1 (code_at 2) (code_at 3) ∷ stmt.Skip
    ∷ stmt.Case 0 (pattern.Rec (codes "|") (feature.Int (pos 1) ∷ feature.Int (pos 2) ∷ [])) 1 (code_at 4) (code_at 5) ∷ stmt.Skip ∷ stmt.Browse 0 ∷ []

-- try skip finally skip end
abbrev pub FinallyRuns : Type 0
FinallyRuns =
    expanded_rows (one (Finally 0 (one (Skip 0)) (one (Skip 0))))
    ≡ stmt.Local 0 1 (code_at 1) ∷ stmt.Seq (code_at 2 ∷ code_at 4 ∷ code_at 9 ∷ []) ∷ stmt.TellProc 0 1 0 (code_at 3) ∷ stmt.Skip ∷ stmt.Try (code_at 5) 1 (code_at 6) ∷ stmt.Skip
    ∷ stmt.Seq (code_at 7 ∷ code_at 8 ∷ []) ∷ stmt.Call 0 [] ∷ stmt.Raise 1 ∷ stmt.Call 0 [] ∷ []
