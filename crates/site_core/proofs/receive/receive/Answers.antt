use Rattle.std.proofs.Common.{◌≡◌, ◌∙◌, sym, refl, ◌++◌, take, drop, true, false}
use Rattle.std.proofs.lemmas.Result.{on_ok_weaker}
use Rattle.site_model.specs.Bundle.{bundle_limit, with_own_bundles}
use Rattle.site_units.proofs.PackLemmas.{row_packed}
use Rattle.site_core.proofs.CodeLemmas.{bundle_terms}
use Rattle.site_core.proofs.DeliverLemmas.{vars_made, deliverable}
use Rattle.site_core.proofs.TurnLemmas.{fit_received, unfit_received}
use Rattle.thread_roster.proofs.BehindLemmas.{behind_same, behind_then}
use Rattle.site_core.proofs.receive.receive.Goals as goal

pub returns-then-not-is_fit-clause-received : goal.returns-then-not-is_fit-clause-received
returns-then-not-is_fit-clause-received c =
    unfit_received c.args.program.now c.args.msg c.args.core.now c.args.output.now c.requires.consistent
    (λ fit. let both : true ≡ false = sym (c.is_fit.ensures.1 fit) ∙ c.if-not-is_fit.true in cc)

pub open_message-requires-clause-consistent : goal.open_message-requires-clause-consistent
open_message-requires-clause-consistent c =
    let fit = c.is_fit.ensures.0 c.if-not-is_fit.false in
    (c.args.program.now, c.requires.consistent, bundle_terms c.args.program.now c.is_program.ensures c.args.msg fit.wire fit.codes)

pub open_message-requires-clause-down : goal.open_message-requires-clause-down
open_message-requires-clause-down c = (c.is_fit.ensures.0 c.if-not-is_fit.false).bundle.down

pub open_message-requires-clause-made : goal.open_message-requires-clause-made
open_message-requires-clause-made c = vars_made c.args.program.now c.args.core.now c.args.msg c.requires.consistent (c.is_fit.ensures.0 c.if-not-is_fit.false)

pub deliver-requires-clause-consistent : goal.deliver-requires-clause-consistent
deliver-requires-clause-consistent c =
    let fit = c.is_fit.ensures.0 c.if-not-is_fit.false in
    (c.in_ok-open_message.ensures.row c.args.program.now c.requires.consistent (bundle_terms c.args.program.now c.is_program.ensures c.args.msg fit.wire fit.codes)).consistent

pub deliver-requires-clause-deliverable : goal.deliver-requires-clause-deliverable
deliver-requires-clause-deliverable c =
    let fit = c.is_fit.ensures.0 c.if-not-is_fit.false in
    let e = c.in_ok-open_message.ensures in
    deliverable c.args.program.now c.is_program.ensures c.tables_take_as_sites.ensures c.args.msg c.args.core.now c.open_message.new.core c.requires.consistent fit (record {
      consistent = (e.row c.args.program.now c.requires.consistent (bundle_terms c.args.program.now c.is_program.ensures c.args.msg fit.wire fit.codes)).consistent;
      known = e.known;
      grows = e.grows;
      lives = e.lives;
      waits = e.waits;
      owners = e.owners;
      site = e.site;
      cells = e.cells;
      ports = e.ports;
      homes = e.homes;
      counters = e.fresh;
    })

pub returns-clause-received : goal.returns-clause-received
returns-clause-received c =
    let fit = c.is_fit.ensures.0 c.if-not-is_fit.false in
    let opened = c.in_ok-open_message.ensures.row c.args.program.now c.requires.consistent (bundle_terms c.args.program.now c.is_program.ensures c.args.msg fit.wire fit.codes) in
    on_ok_weaker c.pack_sent.result
    (λ (sent : c.pack_sent.new.output.sent ≡ take c.len-before.result c.deliver.new.output.sent ++ with_own_bundles bundle_limit c.deliver.new.core.variables.store.equations (drop c.len-before.result c.deliver.new.output.sent)).
    fit_received c.args.program.now c.args.msg c.args.core.now c.open_message.new.core c.deliver.new.core c.args.output.now c.open_message.new.output c.pack_sent.new.output fit opened
    (row_packed c.bundles_come_last.ensures.rows c.args.program.now c.args.msg c.open_message.new.core c.deliver.new.core c.open_message.new.output c.deliver.new.output c.pack_sent.new.output c.len-before.result
    c.in_ok-deliver.ensures.row (sym c.len-before.ensures) sent c.pack_sent.ensures.picks c.pack_sent.ensures.lines))
    c.pack_sent.ensures.sent

pub returns-then-not-is_fit-clause-order : goal.returns-then-not-is_fit-clause-order
returns-then-not-is_fit-clause-order c = behind_same _ _ refl

pub returns-clause-order : goal.returns-clause-order
returns-clause-order c =
    on_ok_weaker c.pack_sent.result
    (λ (sent : c.pack_sent.new.output.sent ≡ take c.len-before.result c.deliver.new.output.sent ++ with_own_bundles bundle_limit c.deliver.new.core.variables.store.equations (drop c.len-before.result c.deliver.new.output.sent)).
    behind_then _ _ _ c.in_ok-open_message.ensures.order c.in_ok-deliver.ensures.order)
    c.pack_sent.ensures.sent
