-- Every program is read of its canonical text.
use Rattle.std.proofs.Common.{List, IsUtf8, sym, subst}
use Rattle.kernel_syntax.specs.declared.stmt.Stmt.{Stmt}
use Rattle.kernel_syntax.specs.Program.{IsProgram}
use Rattle.oz_grammar.specs.declared.symbol.Symbol.{Symbol}
use Rattle.oz_grammar.specs.Canonical.{canonical_symbols}
use Rattle.oz_grammar.specs.Reads.{ReadsSymbols, Reads}
use Rattle.oz_grammar.proofs.Bodies.{programs_read}
use Rattle.oz_grammar.proofs.TextLaws.{texts_are_programs}
use Rattle.oz_show.specs.CanonicalText.{canonical_text}
use Rattle.oz_show.specs.Laws.{ProgramsAreTexts}
use Rattle.oz_show.proofs.SpelledTokens.{written_divides}
use Rattle.oz_show.proofs.CanonicalWritten.{program_writes}
use Rattle.oz_show.proofs.Utf8Texts.{spelled_utf8}

pub reads_back : (p : List Stmt) → IsProgram p → Reads (canonical_text p) p
reads_back p is =
    let divides = written_divides (canonical_symbols p) (program_writes p is) in
    record {
      tokens = divides.tokens;
      divided = divides.divided;
      reads = subst (λ (symbols : List Symbol). ReadsSymbols symbols p) (sym divides.are) (programs_read p is);
    }

pub text_utf8 : (p : List Stmt) → IsProgram p → IsUtf8 (canonical_text p)
text_utf8 p is = spelled_utf8 (canonical_symbols p) (program_writes p is)

-- a table is a program exactly where a text is read as it
pub programs_are_texts : ProgramsAreTexts
programs_are_texts = λ p. (λ is. record { text = canonical_text p; utf8 = text_utf8 p is; reads = reads_back p is }, λ h. texts_are_programs h.text p h.utf8 h.reads)
