use Rattle.std.proofs.Common.{refl, ◌∙◌}
use Rattle.site_core.proofs.IdleLemmas.{idle_is, waiting_stacks}
use Rattle.site_core.proofs.entry.entry_of.Goals as goal

pub returns-clause-record : goal.returns-clause-record
returns-clause-record c = record {
  picks = c.in_ok-picks.ensures.picks;
  sent = c.in_ok-picks.ensures.sent;
  lines = c.in_ok-picks.ensures.lines;
  idle = idle_is c.args.core.now c.is_idle.result c.is_idle.ensures;
  ended = c.ended.ensures;
  waiting = c.waiting.ensures ∙ waiting_stacks c.args.core.now.threads.living;
  steps = refl;
}
