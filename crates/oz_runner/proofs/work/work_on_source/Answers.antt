use Rattle.std.proofs.Common.{subst}
use Rattle.oz_runner.specs.Cause.{IsGiven}
use Rattle.oz_runner.specs.OzCall.{stream_of, oz_call_of}
use Rattle.oz_runner.proofs.work.work_on_source.Goals as goal

pub returns-in-Ok-clause-cause : goal.returns-in-Ok-clause-cause
returns-in-Ok-clause-cause g c =
    let source = stream_of g.S.Source.left g.S.Source.faults c.args.source.now c.read_text.new.source in
    let given = c.in-Ok.ensures in
    λ words sink says. c.work_on_bytes.ensures.cause (oz_call_of words source sink) says
    (subst (λ limit. IsGiven limit source c.in-Ok.bytes.items) c.byte_limit.ensures (given.text.0, given.text.1, given.text.2, given.cause))

pub returns-in-Ok-clause-due : goal.returns-in-Ok-clause-due
returns-in-Ok-clause-due g c =
    let source = stream_of g.S.Source.left g.S.Source.faults c.args.source.now c.read_text.new.source in
    let given = c.in-Ok.ensures in
    λ words sink says. c.work_on_bytes.ensures.due (oz_call_of words source sink) says
    (subst (λ limit. IsGiven limit source c.in-Ok.bytes.items) c.byte_limit.ensures (given.text.0, given.text.1, given.text.2, given.cause))
