use Rattle.site_core.proofs.CodeLemmas.{codes_same}
use Rattle.site_core.proofs.fit.codes_fit.Goals as goal

pub returns : goal.returns
returns c =
    let same = codes_same c.args.program.now c.is_program.ensures c.args.msg.now c.requires in
    (λ k. same.0 (c.parts_fit.ensures.0 k), λ k. c.parts_fit.ensures.1 (same.1 k))
