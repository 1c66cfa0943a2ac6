-- Worked examples: where symbols of texts with sugar are refused, or that they are not.
use Rattle.std.specs.Prelude.{◌≡◌, ℕ, List, [], ◌∷◌, ◌++◌, Option, Some, None, codes, pos}
use Rattle.kernel_syntax.specs.declared.stmt.Op.TheVariants as op
use Rattle.kernel_syntax.specs.declared.stmt.TestOp.TheVariants as test
use Rattle.oz_grammar.specs.declared.symbol.Symbol.{Symbol}
use Rattle.oz_grammar.specs.declared.symbol.Symbol.TheVariants as t
use Rattle.oz_grammar.specs.declared.fault.Fault.{Fault}
use Rattle.oz_grammar.specs.declared.fault.FaultKind.{FaultKind}
use Rattle.oz_grammar.specs.declared.fault.FaultKind.TheVariants.{Expected, Deep, Twice, Unbound}
use Rattle.oz_grammar.specs.declared.fault.What.TheVariants as what
use Rattle.oz_grammar.specs.declared.symbol.Sign.TheVariants as sign
use Rattle.surface_grammar.specs.Points.{Here, ValueOf, run, start}

-- names, a number, an atom, an operator, two tests
abbrev X : Symbol
X = t.Variable (codes "X")

abbrev Y : Symbol
Y = t.Variable (codes "Y")

abbrev F : Symbol
F = t.Variable (codes "F")

abbrev N : Symbol
N = t.Variable (codes "N")

abbrev Browse : Symbol
Browse = t.Variable (codes "Browse")

abbrev int : ℕ → Symbol
int n = t.Integer (Some (pos n))

abbrev a : Symbol
a = t.Atom (codes "a")

abbrev plus : Symbol
plus = t.Operator op.Add

abbrev equal : Symbol
equal = t.Test test.Equal

abbrev different : Symbol
different = t.Test test.NotEqual

-- the end of a `local` that is a program
abbrev end : List Symbol
end = t.End ∷ t.EndOfText ∷ []

-- local X in X = ..
abbrev tell : List Symbol → List Symbol
tell symbols = t.Local ∷ X ∷ t.In ∷ X ∷ t.Equals ∷ symbols

-- this kind of fault, at the symbol from which so many are left
abbrev at : FaultKind → ℕ → Option Fault
at kind left = Some (record { kind = kind; left = left })

-- a value in which X is declared, before `end`, with so many levels left: where it is refused, or not
abbrev value_fault : ℕ → List Symbol → Option Fault → Type 0
value_fault d symbols fault = run (symbols ++ t.End ∷ []) (ValueOf (codes "X" ∷ []) d ∷ Here sign.End ∷ []) ≡ fault

-- ---- what is expected

-- local X in X = fun
abbrev pub FunNeedsBrace : Type 0
FunNeedsBrace = run (tell (t.Fun ∷ t.EndOfText ∷ [])) start ≡ at (Expected what.OpenBrace) 1

-- local X in X = 5 {Browse
abbrev pub BrowseNeedsValue : Type 0
BrowseNeedsValue = run (tell (int 5 ∷ t.OpenCurly ∷ Browse ∷ t.EndOfText ∷ [])) start ≡ at (Expected what.Value) 1

-- local X in try X = 1 end
abbrev pub TryNeedsHandler : Type 0
TryNeedsHandler = run (t.Local ∷ X ∷ t.In ∷ t.Try ∷ X ∷ t.Equals ∷ int 1 ∷ end) start ≡ at (Expected what.StatementOrHandler) 2

-- local X in X = 1 + 2 + 3 end
abbrev pub OperatorsNeedBrackets : Type 0
OperatorsNeedBrackets = run (tell (int 1 ∷ plus ∷ int 2 ∷ plus ∷ int 3 ∷ end)) start ≡ at (Expected what.StatementOrEnd) 4

-- local X in X = 1 == 2 + 3 end
abbrev pub TestsNeedBrackets : Type 0
TestsNeedBrackets = run (tell (int 1 ∷ equal ∷ int 2 ∷ plus ∷ int 3 ∷ end)) start ≡ at (Expected what.StatementOrEnd) 4

-- local X in X = 1 \= end
abbrev pub TestNeedsValue : Type 0
TestNeedsValue = run (tell (int 1 ∷ different ∷ end)) start ≡ at (Expected what.Value) 2

-- local X in X = if X then 1 end
abbrev pub IfNeedsElse : Type 0
IfNeedsElse = run (tell (t.If ∷ X ∷ t.Then ∷ int 1 ∷ end)) start ≡ at (Expected what.Else) 2

-- local X in X = {X 1 end
abbrev pub CallNeedsClose : Type 0
CallNeedsClose = run (tell (t.OpenCurly ∷ X ∷ int 1 ∷ end)) start ≡ at (Expected what.ValueOrClose) 2

-- local X in X = case X of a then 1 end
abbrev pub CaseNeedsElse : Type 0
CaseNeedsElse = run (tell (t.Case ∷ X ∷ t.Of ∷ a ∷ t.Then ∷ int 1 ∷ end)) start ≡ at (Expected what.ClauseOrElse) 2

-- ---- what passes

-- local F in fun {F N} if N =< 1 then 1 else N * {F N - 1} end end {Browse {F 20}} end
abbrev pub FactorialPasses : Type 0
FactorialPasses =
    run (t.Local ∷ F ∷ t.In ∷ t.Fun ∷ t.OpenCurly ∷ F ∷ N ∷ t.CloseCurly ∷ t.If ∷ N ∷ t.Operator op.Le ∷ int 1 ∷ t.Then ∷ int 1 ∷ t.Else ∷ N ∷ t.Operator op.Mul
    ∷ t.OpenCurly ∷ F ∷ N ∷ t.Operator op.Sub ∷ int 1 ∷ t.CloseCurly ∷ t.End ∷ t.End ∷ t.OpenCurly ∷ Browse ∷ t.OpenCurly ∷ F ∷ int 20 ∷ t.CloseCurly ∷ t.CloseCurly ∷ end) start ≡ None

-- local X in X = a|a|a case X of a then skip [] F|Y then {Browse Y} else skip end end
abbrev pub ClausesPass : Type 0
ClausesPass =
    run (tell (a ∷ t.Bar ∷ a ∷ t.Bar ∷ a ∷ t.Case ∷ X ∷ t.Of ∷ a ∷ t.Then ∷ t.Skip ∷ t.Clause ∷ F ∷ t.Bar ∷ Y ∷ t.Then ∷ t.OpenCurly ∷ Browse ∷ Y ∷ t.CloseCurly
    ∷ t.Else ∷ t.Skip ∷ t.End ∷ end)) start ≡ None

-- local X in try X = 1 X = 2 catch Y then {Browse Y} finally {Browse X} end end
abbrev pub FinallyPasses : Type 0
FinallyPasses =
    run (t.Local ∷ X ∷ t.In ∷ t.Try ∷ X ∷ t.Equals ∷ int 1 ∷ X ∷ t.Equals ∷ int 2 ∷ t.Catch ∷ Y ∷ t.Then ∷ t.OpenCurly ∷ Browse ∷ Y ∷ t.CloseCurly ∷ t.Finally
    ∷ t.OpenCurly ∷ Browse ∷ X ∷ t.CloseCurly ∷ t.End ∷ end) start ≡ None

-- local X in X = (X == a) \= X.a end
abbrev pub TestsPass : Type 0
TestsPass = run (tell (t.OpenRound ∷ X ∷ equal ∷ a ∷ t.CloseRound ∷ different ∷ X ∷ t.Dot ∷ a ∷ end)) start ≡ None

-- local X in X = f(a(X) (1)) end: an atom before a round bracket is a label
abbrev pub LabelsPass : Type 0
LabelsPass = run (tell (a ∷ t.OpenRound ∷ a ∷ t.OpenRound ∷ X ∷ t.CloseRound ∷ t.OpenRound ∷ int 1 ∷ t.CloseRound ∷ t.CloseRound ∷ end)) start ≡ None

-- ---- fields: an atom or an integer is a feature where a colon stands behind it

-- local X in X = a(X 1) end
abbrev pub IntegerIsValue : Type 0
IntegerIsValue = run (tell (a ∷ t.OpenRound ∷ X ∷ int 1 ∷ t.CloseRound ∷ end)) start ≡ None

-- local X in X = a(1:X X) end
abbrev pub TwiceByPosition : Type 0
TwiceByPosition = run (tell (a ∷ t.OpenRound ∷ int 1 ∷ t.Colon ∷ X ∷ X ∷ t.CloseRound ∷ end)) start ≡ at Twice 4

-- local X in X = a(X 1:X) end
abbrev pub TwiceByFeature : Type 0
TwiceByFeature = run (tell (a ∷ t.OpenRound ∷ X ∷ int 1 ∷ t.Colon ∷ X ∷ t.CloseRound ∷ end)) start ≡ at Twice 6

-- local X in X = a(1:X a end: the fault of a value stands before what is refused behind it
abbrev pub TwiceBeforeRefusal : Type 0
TwiceBeforeRefusal = run (tell (a ∷ t.OpenRound ∷ int 1 ∷ t.Colon ∷ X ∷ a ∷ end)) start ≡ at Twice 3

-- local X in X = Y.a.b + {F} end
abbrev pub UnboundPrimary : Type 0
UnboundPrimary = run (tell (Y ∷ t.Dot ∷ a ∷ t.Dot ∷ a ∷ plus ∷ t.OpenCurly ∷ F ∷ t.CloseCurly ∷ end)) start ≡ at Unbound 11

-- ---- levels

-- X + X, at the last level: variables take none
abbrev pub VariablesTakeNoLevel : Type 0
VariablesTakeNoLevel = value_fault 1 (X ∷ plus ∷ X ∷ []) None

-- a + X: at the operator the atom is a part
abbrev pub PartsTakeLevel : Type 0
PartsTakeLevel = value_fault 1 (a ∷ plus ∷ X ∷ []) (at Deep 3)

-- a == X: at the test likewise
abbrev pub TestsTakeLevel : Type 0
TestsTakeLevel = value_fault 1 (a ∷ equal ∷ X ∷ []) (at Deep 3)

-- X.a.a: at the second dot X.a is a part
abbrev pub DotsTakeLevels : Type 0
DotsTakeLevels = value_fault 1 (X ∷ t.Dot ∷ a ∷ t.Dot ∷ a ∷ []) (at Deep 3)

-- X.a.a + X.a, with three levels
abbrev pub ThreeLevels : Type 0
ThreeLevels = value_fault 3 (X ∷ t.Dot ∷ a ∷ t.Dot ∷ a ∷ plus ∷ X ∷ t.Dot ∷ a ∷ []) None

-- .. at the operator X.a.a is a part two levels deep
abbrev pub TwoLevels : Type 0
TwoLevels = value_fault 2 (X ∷ t.Dot ∷ a ∷ t.Dot ∷ a ∷ plus ∷ X ∷ t.Dot ∷ a ∷ []) (at Deep 5)

-- X|X|X, with two levels
abbrev pub ListsTakeLevels : Type 0
ListsTakeLevels = value_fault 2 (X ∷ t.Bar ∷ X ∷ t.Bar ∷ X ∷ []) None

-- .. at the second bar X|X is a part
abbrev pub TailIsTooDeep : Type 0
TailIsTooDeep = value_fault 1 (X ∷ t.Bar ∷ X ∷ t.Bar ∷ X ∷ []) (at Deep 3)
