use Rattle.std.proofs.Common.{subst}
use Rattle.oz_model.specs.Step.{need_of}
use Rattle.central_machine.specs.Centre.{Centre}
use Rattle.central_machine.specs.Getters.{IsAwaitedBy}
use Rattle.run_trace.specs.Begun.{begun, begun_with}
use Rattle.run_trace.proofs.BegunLemmas.{last_thread}
use Rattle.run_trace.proofs.WaitLemmas.{waits_at}
use Rattle.run_trace.proofs.trace.Trace.waiting_at.Goals as goal

pub returns-clause-thread : goal.returns-clause-thread
returns-clause-thread c =
    last_thread (begun_with c.args.self.now.state c.args.thread (begun c.args.self.now.program c.args.self.now.picks)) c.args.thread c.in_ok-begun.begun c.in_ok-begun.ensures

pub returns-clause-waits : goal.returns-clause-waits
returns-clause-waits c =
    waits_at c.args.self.now.program c.args.self.now.picks c.args.self.now.state c.args.thread c.in_ok-begun.begun c.in_ok-awaited.awaited c.requires.rest c.requires.lives c.in_ok-begun.ensures
    (subst (λ (v : Centre). IsAwaitedBy v.state.equations (need_of v.program v.state c.args.thread) c.in_ok-awaited.awaited) c.self.view_is c.in_ok-awaited.ensures)
