use Rattle.kernel_syntax.specs.Surfaces.{SurfaceParts}
use Rattle.kernel_syntax.specs.SugarView.{statements_in}
use Rattle.oz_parser.specs.ParseAnswers.{IsSurface}
use Rattle.oz_parser.proofs.Parsing.{only_program, only_fault, surface_texts}
use Rattle.oz_parser.proofs.surface.parse_surface.Goals as goal

pub returns-clause-program : goal.returns-clause-program
returns-clause-program c = only_program surface_texts IsSurface (λ (s : SurfaceParts). statements_in s.tree) c.args.text.now c.surface.result (λ s told. told.reads) c.surface.ensures

pub returns-clause-fault : goal.returns-clause-fault
returns-clause-fault c = only_fault surface_texts IsSurface (λ (s : SurfaceParts). statements_in s.tree) c.args.text.now c.surface.result (λ s told. told.reads) c.surface.ensures
