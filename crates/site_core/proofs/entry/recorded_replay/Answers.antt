use Rattle.std.proofs.Common.{◌≡◌, ◌∙◌, refl, ap, Err}
use Rattle.std.proofs.lemmas.Result.{err_from_is_err_and}
use Rattle.site_model.specs.Site.{Site}
use Rattle.site_model.specs.Bundle.{bundle_limit}
use Rattle.site_units.specs.Core.{site_of}
use Rattle.site_units.specs.declared.replay.Replay.{Replay}
use Rattle.site_units.specs.declared.replay.Replay.TheVariants.{NotRunnable}
use Rattle.site_core.specs.Site.{message_in}
use Rattle.site_core.proofs.NumberLemmas.{turn_of_number}
use Rattle.site_core.proofs.ReplayLemmas.{replay_recorded}
use Rattle.site_core.proofs.entry.recorded_replay.Goals as goal

pub returns-clause-turn : goal.returns-clause-turn
returns-clause-turn c =
    let told = c.in_ok-entry.ensures in
    replay_recorded c.args.program.now c.args.threads.now c.args.message (message_in c.args.message) c.args.core.now c.replay.new.core c.args.output.now c.replay.new.output c.in_ok-entry.entry
    c.requires.empty.0 c.requires.empty.1 c.requires.empty.2 refl c.in_ok-replay.ensures.turn
    (told.site ∙ c.site_in-site.ensures _ c.requires.consistent.site) (told.delivered ∙ c.number_of-delivered.ensures) told.record (told.units ∙ c.in_ok-units.ensures)

pub returns-clause-number : goal.returns-clause-number
returns-clause-number c =
    let made = c.in_ok-replay.ensures.turn in
    ap (λ (s : Site). s.records.site) made.2.site ∙ turn_of_number c.args.program.now c.args.core.now.sites bundle_limit c.args.threads.now (site_of c.args.core.now) (message_in c.args.message) made.0 made.1.0

pub returns-in_err-replay-clause-stuck : goal.returns-in_err-replay-clause-stuck
returns-in_err-replay-clause-stuck c at q =
    let p = err_from_is_err_and c.from_residual.result c.from_residual.ensures.1 in
    let same : c.in_err-replay.field-0.0 ≡ NotRunnable at = cc in
    c.in_err-replay.ensures.stuck at (ap (λ (x : Replay). Err x) same)
