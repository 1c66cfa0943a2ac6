-- Which program of the kernel a text with sugar stands for, and which fault it has.
use Rattle.std.specs.Prelude.{◌≡◌, ◌⊎◌, ◌≤◌, ℕ, ◌-◌, ◌*◌, List, length, map, take, slice_index, Some, None}
use Rattle.std.specs.Str.{IsUtf8}
use Rattle.kernel_syntax.specs.declared.stmt.Stmt.{Stmt}
use Rattle.kernel_syntax.specs.Program.{IsProgram}
use Rattle.kernel_syntax.specs.Sugar.{Statements}
use Rattle.oz_lexer.specs.Tokens.{Lexeme}
use Rattle.oz_lexer.specs.Place.{place_of}
use Rattle.oz_grammar.specs.declared.fault.TextFault.{TextFault}
use Rattle.oz_grammar.specs.declared.fault.FaultKind.TheVariants.{Deep}
use Rattle.oz_grammar.specs.Reads as kernel
use Rattle.surface_grammar.specs.Texts as surface
use Rattle.sugar_rows.specs.Put.{Expand}
use Rattle.oz_sugar.specs.Deep.{deep}

-- the text is statements with sugar that stand for this program, and none of them is too deep
pub record Reads (text : List ℕ) (p : List Stmt) : Type 0 where
  pub statements : Statements
  pub reads : surface.Reads text statements
  pub shallow : deep statements ≡ None
  pub expands : Expand statements p

-- where the token begins at which so many are left
abbrev pub start_at : List Lexeme → ℕ → ℕ
start_at tokens left = slice_index (map (λ (l : Lexeme). l.start) tokens) (length tokens - left)

-- the text is statements with sugar of which this is the first statement or value that is too deep
pub record HasDeep (text : List ℕ) (f : TextFault) : Type 0 where
  pub statements : Statements
  pub reads : surface.Reads text statements
  pub left : ℕ
  pub first : deep statements ≡ Some left
  pub kind : f.kind ≡ Deep
  pub place : (f.line, f.column) ≡ place_of (take (start_at reads.tokens left) text)

-- the text has this fault first: one of the grammar with sugar, or else what it stands for is too deep
abbrev pub FaultOf : List ℕ → TextFault → Type 0
FaultOf text f = surface.FaultOf text f ⊎ HasDeep text f

-- what a text in UTF-8 stands for is a program
abbrev pub TextsArePrograms : Type 0
TextsArePrograms = (text : List ℕ) (p : List Stmt) → IsUtf8 text → Reads text p → IsProgram p

-- a text of the kernel is read as the same program with sugar
abbrev pub KernelTextsRead : Type 0
KernelTextsRead = (text : List ℕ) (p : List Stmt) → kernel.Reads text p → Reads text p

-- what a text stands for has at most three rows for each of its tokens, the end of the text counted as one
abbrev pub RowsAreFew : Type 0
RowsAreFew = (text : List ℕ) (p : List Stmt) → (r : Reads text p) → length p ≤ 3 * length r.reads.tokens
