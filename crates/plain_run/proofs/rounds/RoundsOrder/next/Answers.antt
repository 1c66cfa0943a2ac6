use Rattle.std.proofs.Common.{ℕ, subst}
use Rattle.world_core.specs.Travels.{AreTravels}
use Rattle.plain_run.specs.Progress.{IsNextBusy}
use Rattle.plain_run.proofs.PlainLemmas.{plain_follows}
use Rattle.plain_run.proofs.rounds.RoundsOrder.next.Goals as goal

pub returns-clause-follows : goal.returns-clause-follows
returns-clause-follows c =
    let w = c.args.world.now in
    let choice = c.next_in_rounds-choice in
    let travels = subst (AreTravels w.journal) c.travelling.ensures.value c.travelling.ensures.exact in
    let next = subst (λ (n : ℕ). IsNextBusy w c.args.limits.sites n choice.result.site) c.requires.recalls.0 choice.ensures.next in
    λ new made h. plain_follows c.args.limits w new choice.result c.requires.going choice.ensures.passed choice.ensures.units choice.ensures.can.some choice.ensures.can.among made travels choice.ensures.lowest next h
