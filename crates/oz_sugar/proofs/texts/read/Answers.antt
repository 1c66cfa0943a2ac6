use Rattle.std.proofs.Common.{Err, rules}
use Rattle.kernel_syntax.specs.Surfaces.{SurfaceParts}
use Rattle.surface_grammar.specs.Texts.{FaultOf}
use Rattle.oz_parser.specs.ParseAnswers.{IfFault, IsSurface}
use Rattle.oz_sugar.proofs.TextLaws.{expanded_is, refusal_is}
use Rattle.oz_sugar.proofs.texts.read.Goals as goal

pub returns-in-Ok : goal.returns-in-Ok
returns-in-Ok c =
    let told : IsSurface c.args.text.now c.in-Ok.surface = search rules in
    expanded_is c.args.text.now c.in-Ok.surface c.program_of.result told c.program_of.ensures.program c.program_of.ensures.shallow c.program_of.ensures.refused

pub returns-in-Err : goal.returns-in-Err
returns-in-Err c =
    let fault : IfFault {X = SurfaceParts} (Err c.in-Err.error) (FaultOf c.args.text.now) = search rules in
    refusal_is c.args.text.now c.in-Err.error fault
