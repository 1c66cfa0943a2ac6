-- The canonical text of a program: its symbols as they are spelled, with one blank between any two and a newline after the
-- last.
use Rattle.std.specs.Prelude.{ℕ, List, [], ◌∷◌, ◌++◌, Option, Some, None, ℤ, codes}
use Rattle.tree_node.specs.Spelling.{atom_text, int_text}
use Rattle.kernel_syntax.specs.declared.stmt.Stmt.{Stmt}
use Rattle.kernel_syntax.specs.declared.stmt.Op.{Op}
use Rattle.kernel_syntax.specs.declared.stmt.Op.TheVariants as op
use Rattle.kernel_syntax.specs.declared.stmt.TestOp.{TestOp}
use Rattle.kernel_syntax.specs.declared.stmt.TestOp.TheVariants as test
use Rattle.oz_grammar.specs.declared.symbol.Symbol.{Symbol}
use Rattle.oz_grammar.specs.declared.symbol.Symbol.TheVariants as t
use Rattle.oz_grammar.specs.Canonical.{canonical_symbols}

-- how an operator is spelled
abbrev pub operator_text : Op → List ℕ
operator_text op.Add = codes "+"
operator_text op.Sub = codes "-"
operator_text op.Mul = codes "*"
operator_text op.Div = codes "div"
operator_text op.Mod = codes "mod"
operator_text op.Le = codes "=<"
operator_text op.Lt = codes "<"
operator_text op.Ge = codes ">="
operator_text op.Gt = codes ">"

-- how a test is spelled
abbrev pub test_text : TestOp → List ℕ
test_text test.Equal = codes "=="
test_text test.NotEqual = codes "\\="

-- an integer, where the symbol has one
abbrev pub integer_text : Option ℤ → List ℕ
integer_text (Some z) = int_text z
integer_text None = []

-- reserved words and signs; no other symbol is one
abbrev pub word_text : Symbol → List ℕ
word_text t.Skip = codes "skip"
word_text t.Local = codes "local"
word_text t.In = codes "in"
word_text t.End = codes "end"
word_text t.If = codes "if"
word_text t.Then = codes "then"
word_text t.Else = codes "else"
word_text t.Case = codes "case"
word_text t.Of = codes "of"
word_text t.Thread = codes "thread"
word_text t.At = codes "at"
word_text t.Try = codes "try"
word_text t.Catch = codes "catch"
word_text t.Raise = codes "raise"
word_text t.Proc = codes "proc"
word_text t.Equals = codes "="
word_text t.OpenRound = codes "("
word_text t.CloseRound = codes ")"
word_text t.OpenCurly = codes "{"
word_text t.CloseCurly = codes "}"
word_text t.Dollar = codes "$"
word_text t.Colon = codes ":"
word_text t.Dot = codes "."
word_text t.Bar = codes "|"
word_text (t.Operator o) = operator_text o
word_text (t.Test o) = test_text o
word_text symbol = []

-- how a symbol is spelled; those without a spelling are in no canonical text
abbrev pub symbol_text : Symbol → List ℕ
symbol_text (t.Variable x) = x
symbol_text (t.Atom a) = atom_text a
symbol_text (t.Integer n) = integer_text n
symbol_text symbol = word_text symbol

-- what stands behind a symbol: these up to the end of the text, a blank before each, and a newline
abbrev pub text_behind : List Symbol → List ℕ
text_behind [] = 10 ∷ []
text_behind (t.EndOfText ∷ symbols) = 10 ∷ []
text_behind (symbol ∷ symbols) = 32 ∷ (symbol_text symbol ++ text_behind symbols)

-- the spelling of symbols up to the end of the text
abbrev pub symbols_text : List Symbol → List ℕ
symbols_text [] = 10 ∷ []
symbols_text (symbol ∷ symbols) = symbol_text symbol ++ text_behind symbols

-- the canonical text of a program
abbrev pub canonical_text : List Stmt → List ℕ
canonical_text p = symbols_text (canonical_symbols p)
