use Rattle.std.proofs.Common.{sym, subst, List}
use Rattle.kernel_syntax.specs.declared.stmt.Stmt.{Stmt}
use Rattle.site_message.specs.declared.turn.Turn.{Turn}
use Rattle.world_core.specs.Laws.{HasRun, AreMessagesFew}
use Rattle.world_core.proofs.WorldLemmas.{empty_run}
use Rattle.run_check.specs.Again.{IsFrontMadeAgain, IsWrongAt}
use Rattle.run_check.specs.World.{limits_of}
use Rattle.run_check.proofs.WorldLemmas.{empty_few, none_made}
use Rattle.run_check.proofs.again.make_again.Goals as goal

pub returns-in-Ok-clause-wrong : goal.returns-in-Ok-clause-wrong
returns-in-Ok-clause-wrong c at q =
    let told = c.replay_all-made.ensures.wrong at q in
    let history = sym c.into_history.ensures.value in
    subst (λ (j : List Turn). IsWrongAt c.args.program.now (limits_of c.args.run.now) c.args.run.now.entries at j) history
    (subst (λ (p : List Stmt). IsWrongAt p (limits_of c.args.run.now) c.args.run.now.entries at c.replay_all-made.new.world.journal) c.in-Ok.ensures.program told)

pub returns-in-Ok-clause-memory : goal.returns-in-Ok-clause-memory
returns-in-Ok-clause-memory c q =
    let told = c.replay_all-made.ensures.memory q in
    let history = sym c.into_history.ensures.value in
    subst (λ (j : List Turn). IsFrontMadeAgain c.args.program.now (limits_of c.args.run.now) j c.args.run.now.entries) history
    (subst (λ (p : List Stmt). IsFrontMadeAgain p (limits_of c.args.run.now) c.replay_all-made.new.world.journal c.args.run.now.entries) c.in-Ok.ensures.program told)

pub returns-in-Err-clause-memory : goal.returns-in-Err-clause-memory
returns-in-Err-clause-memory c q =
    subst (λ (j : List Turn). IsFrontMadeAgain c.args.program.now (limits_of c.args.run.now) j c.args.run.now.entries) (sym c.new-in-Err.ensures)
    (none_made c.args.program.now (limits_of c.args.run.now) c.args.run.now.entries)

pub returns-in-Err-clause-run : goal.returns-in-Err-clause-run
returns-in-Err-clause-run c =
    subst (λ (j : List Turn). HasRun c.args.program.now c.args.run.now.sites j) (sym c.new-in-Err.ensures) (empty_run c.args.program.now c.args.run.now.sites)

pub returns-in-Err-clause-few : goal.returns-in-Err-clause-few
returns-in-Err-clause-few c =
    subst (λ (j : List Turn). AreMessagesFew c.args.program.now c.args.run.now.sites j) (sym c.new-in-Err.ensures)
    (empty_few c.args.program.now c.args.run.now.sites c.is_program.ensures c.requires.saved.sites.0 c.requires.saved.sites.1)
