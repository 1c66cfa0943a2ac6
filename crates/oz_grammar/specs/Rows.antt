-- Worked examples: which program some symbols are, or where they are refused.
use Rattle.std.specs.Prelude.{◌≡◌, ℕ, List, [], ◌∷◌, Some, None, codes, pos}
use Rattle.tree_node.specs.declared.node.Feature.TheVariants as feature
use Rattle.kernel_syntax.specs.declared.stmt.Stmt.{Stmt}
use Rattle.kernel_syntax.specs.declared.stmt.Stmt.TheVariants as stmt
use Rattle.kernel_syntax.specs.declared.stmt.Pattern.TheVariants as pattern
use Rattle.oz_lexer.specs.declared.token.LexKind.TheVariants.{OpenQuote}
use Rattle.oz_grammar.specs.declared.symbol.Symbol.{Symbol}
use Rattle.oz_grammar.specs.declared.symbol.Symbol.TheVariants as t
use Rattle.oz_grammar.specs.declared.fault.What.TheVariants as what
use Rattle.oz_grammar.specs.declared.fault.FaultKind.{FaultKind}
use Rattle.oz_grammar.specs.declared.fault.FaultKind.TheVariants.{Lex, Expected, Number, Site, Twice, Unbound}
use Rattle.oz_grammar.specs.Table.{code_at}
use Rattle.oz_grammar.specs.Canonical.{canonical_symbols}
use Rattle.oz_grammar.specs.Points.{run, start}
use Rattle.oz_grammar.specs.Reads.{ReadsSymbols}

-- the variables X, Y and Browse, the last `end` of a program, an integer, and the atom f
abbrev X : Symbol
X = t.Variable (codes "X")

abbrev Y : Symbol
Y = t.Variable (codes "Y")

abbrev Browse : Symbol
Browse = t.Variable (codes "Browse")

abbrev end : List Symbol
end = t.End ∷ t.EndOfText ∷ []

abbrev int : ℕ → Symbol
int n = t.Integer (Some (pos n))

abbrev atom_f : Symbol
atom_f = t.Atom (codes "f")

-- these symbols are refused, with so many left
abbrev Refused : List Symbol → FaultKind → ℕ → Type 0
Refused symbols kind left = run symbols start ≡ Some (record { kind = kind; left = left })

-- no symbols
abbrev pub EmptyText : Type 0
EmptyText = Refused (t.EndOfText ∷ []) (Expected what.Statement) 1

-- skip, and an open quote
abbrev pub OpenQuoteAt : Type 0
OpenQuoteAt = Refused (t.Skip ∷ t.Bad OpenQuote ∷ []) (Lex OpenQuote) 1

-- {Browse X}
abbrev pub UndeclaredAt : Type 0
UndeclaredAt = Refused (t.OpenCurly ∷ Browse ∷ X ∷ t.CloseCurly ∷ t.EndOfText ∷ []) Unbound 3

-- local X in {Browse X X} end
abbrev pub BuiltInIsFull : Type 0
BuiltInIsFull = Refused (t.Local ∷ X ∷ t.In ∷ t.OpenCurly ∷ Browse ∷ X ∷ X ∷ t.CloseCurly ∷ end) (Expected what.Close) 4

-- local Browse X in {Browse X X} end
abbrev pub HiddenBuiltIn : Type 0
HiddenBuiltIn = ReadsSymbols (t.Local ∷ Browse ∷ X ∷ t.In ∷ t.OpenCurly ∷ Browse ∷ X ∷ X ∷ t.CloseCurly ∷ end) (stmt.Local 0 2 (code_at 1) ∷ stmt.Call 0 (1 ∷ 1 ∷ []) ∷ [])

-- local X in X = f(1:X X) end
abbrev pub TwiceByPosition : Type 0
TwiceByPosition = Refused (t.Local ∷ X ∷ t.In ∷ X ∷ t.Equals ∷ atom_f ∷ t.OpenRound ∷ int 1 ∷ t.Colon ∷ X ∷ X ∷ t.CloseRound ∷ end) Twice 4

-- local X in X = f(X 1) end
abbrev pub TwiceBeforeColon : Type 0
TwiceBeforeColon = Refused (t.Local ∷ X ∷ t.In ∷ X ∷ t.Equals ∷ atom_f ∷ t.OpenRound ∷ X ∷ int 1 ∷ t.CloseRound ∷ end) Twice 4

-- local X in case X of Y|Y then skip else skip end end
abbrev pub TwiceInPattern : Type 0
TwiceInPattern = Refused (t.Local ∷ X ∷ t.In ∷ t.Case ∷ X ∷ t.Of ∷ Y ∷ t.Bar ∷ Y ∷ t.Then ∷ t.Skip ∷ t.Else ∷ t.Skip ∷ t.End ∷ end) Twice 8

-- thread at 0 skip end
abbrev pub SiteBelow : Type 0
SiteBelow = Refused (t.Thread ∷ t.At ∷ int 0 ∷ t.Skip ∷ end) Site 4

-- thread at 00 skip end
abbrev pub NumberFirst : Type 0
NumberFirst = Refused (t.Thread ∷ t.At ∷ t.Integer None ∷ t.Skip ∷ end) Number 4

-- thread }
abbrev pub BehindThread : Type 0
BehindThread = Refused (t.Thread ∷ t.CloseCurly ∷ t.EndOfText ∷ []) (Expected what.StatementOrAt) 2

-- local X in local X in {Browse X} end end: the inner one counts, and the outer one is counted
abbrev pub HiddenCounts : Type 0
HiddenCounts =
    ReadsSymbols (t.Local ∷ X ∷ t.In ∷ t.Local ∷ X ∷ t.In ∷ t.OpenCurly ∷ Browse ∷ X ∷ t.CloseCurly ∷ t.End ∷ end)
    (stmt.Local 0 1 (code_at 1) ∷ stmt.Local 1 1 (code_at 2) ∷ stmt.Browse 1 ∷ [])

-- local X in case X of f(b:Y a:X) then {Browse Y} else {Browse X} end end: a pattern's variables in the order of features,
-- for the first branch
abbrev pub PatternOrder : Type 0
PatternOrder =
    ReadsSymbols
    (t.Local ∷ X ∷ t.In ∷ t.Case ∷ X ∷ t.Of ∷ atom_f ∷ t.OpenRound ∷ t.Atom (codes "b") ∷ t.Colon ∷ Y ∷ t.Atom (codes "a") ∷ t.Colon ∷ X ∷ t.CloseRound
    ∷ t.Then ∷ t.OpenCurly ∷ Browse ∷ Y ∷ t.CloseCurly ∷ t.Else ∷ t.OpenCurly ∷ Browse ∷ X ∷ t.CloseCurly ∷ t.End ∷ end)
    (stmt.Local 0 1 (code_at 1) ∷ stmt.Case 0 (pattern.Rec (codes "f") (feature.Atom (codes "a") ∷ feature.Atom (codes "b") ∷ [])) 1 (code_at 2) (code_at 3) ∷ stmt.Browse 2 ∷ stmt.Browse 0 ∷ [])

-- local X in if X then skip skip else skip end end: a body of several statements has a row
abbrev pub BodiesInPreorder : Type 0
BodiesInPreorder =
    ReadsSymbols (t.Local ∷ X ∷ t.In ∷ t.If ∷ X ∷ t.Then ∷ t.Skip ∷ t.Skip ∷ t.Else ∷ t.Skip ∷ t.End ∷ end)
    (stmt.Local 0 1 (code_at 1) ∷ stmt.If 0 (code_at 2) (code_at 5) ∷ stmt.Seq (code_at 3 ∷ code_at 4 ∷ []) ∷ stmt.Skip ∷ stmt.Skip ∷ stmt.Skip ∷ [])

-- the table of local P in proc {P X} X = f(b:P P) end end, and of the same in its canonical form:
-- local V0 in V0 = proc { $ V1 } V1 = f ( 1 : V0 b : V0 ) end end
abbrev example : List Stmt
example = stmt.Local 0 1 (code_at 1) ∷ stmt.TellProc 0 1 1 (code_at 2) ∷ stmt.TellRec 1 (codes "f") ((feature.Int (pos 1), 0) ∷ (feature.Atom (codes "b"), 0) ∷ []) ∷ []

-- its variable P
abbrev P : Symbol
P = t.Variable (codes "P")

-- the first text is the program with this table
abbrev pub ExampleReads : Type 0
ExampleReads =
    ReadsSymbols
    (t.Local ∷ P ∷ t.In ∷ t.Proc ∷ t.OpenCurly ∷ P ∷ X ∷ t.CloseCurly ∷ X ∷ t.Equals ∷ atom_f ∷ t.OpenRound ∷ t.Atom (codes "b") ∷ t.Colon ∷ P ∷ P ∷ t.CloseRound ∷ t.End ∷ end)
    example

-- the identifiers of the canonical form
abbrev V0 : Symbol
V0 = t.Variable (codes "V0")

abbrev V1 : Symbol
V1 = t.Variable (codes "V1")

-- the second text is canonical
abbrev pub ExampleIsCanonical : Type 0
ExampleIsCanonical =
    canonical_symbols example
    ≡ t.Local ∷ V0 ∷ t.In ∷ V0 ∷ t.Equals ∷ t.Proc ∷ t.OpenCurly ∷ t.Dollar ∷ V1 ∷ t.CloseCurly ∷ V1 ∷ t.Equals ∷ atom_f ∷ t.OpenRound
    ∷ int 1 ∷ t.Colon ∷ V0 ∷ t.Atom (codes "b") ∷ t.Colon ∷ V0 ∷ t.CloseRound ∷ t.End ∷ end
