-- The table of a derivation that passes is one of a program.
use Rattle.std.proofs.Common.{◌≡◌, None}
use Rattle.tree_node.specs.Each.{Each}
use Rattle.kernel_syntax.specs.Program.{IsProgram}
use Rattle.kernel_syntax.proofs.PreorderLemmas.{program_of}
use Rattle.oz_grammar.specs.Grammar.{Sequence, program_text}
use Rattle.oz_grammar.specs.Symbols.{IsSpelled}
use Rattle.oz_grammar.specs.Scoping.{IsDerivation}
use Rattle.oz_grammar.specs.Table.{program_table}
use Rattle.oz_grammar.specs.Check.{check}
use Rattle.oz_grammar.proofs.TableLimits.{program_limits}
use Rattle.oz_grammar.proofs.TableTexts.{program_texts}
use Rattle.oz_grammar.proofs.TableOrder.{program_order}

pub table_is_program : (q : Sequence) → IsDerivation q → check q ≡ None → Each IsSpelled (program_text q) → IsProgram (program_table q)
table_is_program q derives e spelled = program_of (program_table q) (program_limits q e) (program_texts q e spelled) (program_order q derives e)
