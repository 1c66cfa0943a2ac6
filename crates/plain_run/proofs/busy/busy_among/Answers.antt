use Rattle.std.proofs.Common.{arith, ◌∙◌, sym, inl, inr}
use Rattle.plain_run.proofs.ProgressLemmas.{ease_more}
use Rattle.plain_run.proofs.busy.busy_among.Goals as goal
use Rattle.plain_run.proofs.busy.busy_among.Goals.{then-not-idle-via-then-not-idle, then-not-idle-via-else-not-idle+then-has_message}

pub returns-then-not-idle : goal.returns-then-not-idle
returns-then-not-idle c = (
  c.loop-site.auto.site,
  c.loop-site-test.true,
  elim c.then-not-idle.branch [
    | then-not-idle-via-then-not-idle w ↦ inl (sym c.idle.ensures ∙ w.if-not-idle.true)
    | then-not-idle-via-else-not-idle+then-has_message w ↦ inr (w.has_message.ensures.some w.if-has_message.true)
  ],
  c.loop-site.invariant,
)

pub loop-site-preserved : goal.loop-site-preserved
loop-site-preserved c =
    ease_more c.args.world.now c.args.from c.loop-site.site c.loop-site.invariant
    (sym c.idle.ensures ∙ c.if-not-idle.false, c.has_message.ensures.none c.if-has_message.false)

pub returns : goal.returns
returns c i low high = let past = c.loop-site-test.false in c.loop-site.invariant i low (omega arith)
