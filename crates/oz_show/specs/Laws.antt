-- Programs are what texts are read as.
use Rattle.std.specs.Prelude.{◌↔◌, ℕ, List}
use Rattle.std.specs.Str.{IsUtf8}
use Rattle.kernel_syntax.specs.declared.stmt.Stmt.{Stmt}
use Rattle.kernel_syntax.specs.Program.{IsProgram}
use Rattle.oz_grammar.specs.Reads.{Reads}
use Rattle.oz_show.specs.CanonicalText.{canonical_text}

-- every program is what its canonical text is read as
abbrev pub CanonicalReadsBack : Type 0
CanonicalReadsBack = (p : List Stmt) → IsProgram p → Reads (canonical_text p) p

-- canonical texts are UTF-8
abbrev pub CanonicalIsUtf8 : Type 0
CanonicalIsUtf8 = (p : List Stmt) → IsProgram p → IsUtf8 (canonical_text p)

-- some text in UTF-8 is read as the table
pub record HasText (p : List Stmt) : Type 0 where
  pub text : List ℕ
  pub utf8 : IsUtf8 text
  pub reads : Reads text p

-- a table is a program exactly where a text in UTF-8 is read as it
abbrev pub ProgramsAreTexts : Type 0
ProgramsAreTexts = (p : List Stmt) → IsProgram p ↔ HasText p
