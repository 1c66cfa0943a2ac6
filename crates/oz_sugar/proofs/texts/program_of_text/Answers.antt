use Rattle.std.proofs.Common.{List}
use Rattle.kernel_syntax.specs.declared.stmt.Stmt.{Stmt}
use Rattle.oz_sugar.specs.Texts.{Reads}
use Rattle.oz_parser.proofs.Parsing.{only_program, only_fault}
use Rattle.oz_sugar.proofs.texts.program_of_text.Goals as goal

pub returns-clause-program : goal.returns-clause-program
returns-clause-program c = only_program c.texts_have_one_of_both.ensures.one_of_both Reads (λ (p : List Stmt). p) c.args.text.now c.read.result (λ p given. given) c.read.ensures

pub returns-clause-fault : goal.returns-clause-fault
returns-clause-fault c = only_fault c.texts_have_one_of_both.ensures.one_of_both Reads (λ (p : List Stmt). p) c.args.text.now c.read.result (λ p given. given) c.read.ensures
