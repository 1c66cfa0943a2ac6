use Rattle.std.proofs.Common.{◌∙◌, ap, subst}
use Rattle.std.specs.Prelude.{◌↔◌, IsTrue}
use Rattle.oz_model.specs.Run.{AtRest}
use Rattle.central_machine.specs.Centre.{Centre}
use Rattle.run_trace.proofs.trace.Trace.at_rest.Goals as goal

pub returns : goal.returns
returns c =
    λ free.
    let traced = c.self.invariant.1 (ap (λ (v : Centre). v.spent) c.self.view_is ∙ free) in
    subst (λ (v : Centre). IsTrue c.at_rest.result ↔ AtRest v.program v.state) c.self.view_is (c.at_rest.ensures traced.goes_on)
