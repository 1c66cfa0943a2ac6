use Rattle.std.proofs.Common.{List}
use Rattle.kernel_syntax.specs.declared.stmt.Stmt.{Stmt}
use Rattle.oz_lexer.proofs.Dividing.{texts_divide, texts_divide_once}
use Rattle.oz_grammar.specs.Reads.{Reads}
use Rattle.sugar_rows.proofs.KernelTexts.{kernel_texts}
use Rattle.oz_parser.proofs.Parsing.{only_program, only_fault}
use Rattle.oz_parser.proofs.parser.parse.Goals as goal

pub returns-clause-program : goal.returns-clause-program
returns-clause-program c = only_program (kernel_texts texts_divide texts_divide_once) Reads (λ (p : List Stmt). p) c.args.text.now c.program.result (λ p given. given) c.program.ensures

pub returns-clause-fault : goal.returns-clause-fault
returns-clause-fault c = only_fault (kernel_texts texts_divide texts_divide_once) Reads (λ (p : List Stmt). p) c.args.text.now c.program.result (λ p given. given) c.program.ensures
