use Rattle.std.proofs.Common.{subst, sym, rules}
use Rattle.oz_grammar.specs.Reads.{ReadsSymbols, FaultOfSymbols, Reads}
use Rattle.sugar_rows.proofs.KernelTexts.{kernel_laws}
use Rattle.oz_parser.specs.ParseAnswers.{IsFaultIn}
use Rattle.oz_parser.proofs.Parsing.{symbols_end, is_program, reads, refusal_stands, refusal_is}
use Rattle.oz_parser.proofs.parser.program.Goals as goal

pub table-requires-clause-ends : goal.table-requires-clause-ends
table-requires-clause-ends c = symbols_end c.args.text.now c.args.symbols.now c.args.starts.now c.requires.symbols

pub from_vec-requires : goal.from_vec-requires
from_vec-requires c =
    let found : ReadsSymbols c.args.symbols.now c.in-Ok.rows.items = search rules in
    is_program c.args.text.now c.utf8.text c.args.symbols.now c.args.starts.now c.in-Ok.rows.items c.requires.symbols found

pub error_of-requires-clause-stands : goal.error_of-requires-clause-stands
error_of-requires-clause-stands c =
    let told : IsFaultIn FaultOfSymbols c.args.symbols.now c.in-Err.stop = search rules in
    refusal_stands kernel_laws c.args.text.now c.args.symbols.now c.args.starts.now c.in-Err.stop c.requires.symbols told

pub returns-in_ok-from_vec-in-Ok : goal.returns-in_ok-from_vec-in-Ok
returns-in_ok-from_vec-in-Ok c =
    let found : ReadsSymbols c.args.symbols.now c.in-Ok.rows.items = search rules in
    subst (Reads c.args.text.now) (sym c.in_ok-from_vec-in-Ok.ensures) (reads c.args.text.now c.args.symbols.now c.args.starts.now c.in-Ok.rows.items c.requires.symbols found)

pub returns-in-Err : goal.returns-in-Err
returns-in-Err c =
    let told : IsFaultIn FaultOfSymbols c.args.symbols.now c.in-Err.stop = search rules in
    refusal_is kernel_laws c.args.text.now c.args.symbols.now c.args.starts.now c.in-Err.stop c.error_of.result c.requires.symbols told c.error_of.ensures
