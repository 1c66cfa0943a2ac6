use Rattle.std.proofs.Common.{List, refl, sym, subst}
use Rattle.site_message.specs.declared.turn.Turn.{Turn}
use Rattle.site_message.specs.Journal.{AreWithin}
use Rattle.site_message.specs.EarlierEnd.{HasNoEarlierEnd}
use Rattle.site_model.specs.Site.{initial_site}
use Rattle.site_core.specs.Start.{first_order}
use Rattle.world_core.specs.Laws.{HasRun}
use Rattle.world_core.proofs.WorldLemmas.{empty_run}
use Rattle.plain_run.proofs.run.run_world.Goals as goal

pub returns-in-Err-clause-run : goal.returns-in-Err-clause-run
returns-in-Err-clause-run g c = subst (HasRun c.args.program.now c.args.limits.sites) (sym c.new-in-Err.ensures) (empty_run c.args.program.now c.args.limits.sites)

pub returns-in-Err-clause-went : goal.returns-in-Err-clause-went
returns-in-Err-clause-went g c = subst (HasNoEarlierEnd c.args.limits) (sym c.new-in-Err.ensures) tt

pub returns-in-Err-clause-within : goal.returns-in-Err-clause-within
returns-in-Err-clause-within g c = subst (AreWithin c.args.limits) (sym c.new-in-Err.ensures) tt

pub returns-in-Err-clause-follows : goal.returns-in-Err-clause-follows
returns-in-Err-clause-follows g c = (
  record { states = initial_site c.args.program.now c.args.limits.sites; orders = first_order },
  subst (λ (j : List Turn). g.O.Order.follows c.args.program.now c.args.limits j (record { states = initial_site c.args.program.now c.args.limits.sites; orders = first_order })) (sym c.new-in-Err.ensures)
      (c.requires.begins (record { states = initial_site c.args.program.now c.args.limits.sites; orders = first_order }) (λ i. (refl, refl))),
)
