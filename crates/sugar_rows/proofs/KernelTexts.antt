-- Programs of the kernel stand for themselves, so symbols and texts are one program of the kernel at most.
use Rattle.std.proofs.Common.{◌∙◌, sym, ap}
use Rattle.oz_lexer.specs.Laws.{TextsDivide, TextsDivideOnce}
use Rattle.oz_grammar.specs.Reads as kernel
use Rattle.oz_grammar.specs.Laws.{OneProgram, AreOneOfBoth}
use Rattle.oz_grammar.proofs.TextLaws.{SymbolLaws, symbol_laws, are_one_of_both}
use Rattle.surface_grammar.specs.Trees.{program_of}
use Rattle.surface_grammar.proofs.Lifting.{lift, lifted}
use Rattle.surface_grammar.proofs.ReadLaws.{one_tree}
use Rattle.sugar_rows.specs.Put.{expanded_rows}
use Rattle.sugar_rows.specs.Laws.{KernelStands}
use Rattle.sugar_rows.proofs.KernelExpansions.{table_is}

pub kernel_stands : KernelStands
kernel_stands symbols p r = (program_of (lift r.program), lifted symbols p r, r.table ∙ table_is r.program r.passes)

-- the tree of two programs is the same, and both are its expansion
pub one_program : OneProgram
one_program symbols p q r s =
    let a = kernel_stands symbols p r in
    let b = kernel_stands symbols q s in
    a.2 ∙ ap expanded_rows (one_tree symbols a.0 b.0 a.1 b.1) ∙ sym b.2

pub kernel_laws : SymbolLaws kernel.ReadsSymbols kernel.FaultOfSymbols
kernel_laws = symbol_laws one_program

pub kernel_texts : TextsDivide → TextsDivideOnce → AreOneOfBoth kernel.Reads kernel.FaultOf
kernel_texts some once = are_one_of_both kernel_laws some once
