use Rattle.plain_run.proofs.PassLemmas.{can_still, chosen_behind, going_still, journal_still, limited_behind, parts_still, progress_behind}
use Rattle.plain_run.proofs.drive.take_turn.Goals as goal

pub make_turn-requires-clause-going : goal.make_turn-requires-clause-going
make_turn-requires-clause-going c = going_still c.args.limits c.args.world.now c.pass_by.new.world c.pass_by.ensures.same c.requires.going

pub make_turn-requires-clause-can : goal.make_turn-requires-clause-can
make_turn-requires-clause-can c = can_still c.args.limits c.args.world.now c.pass_by.new.world c.pass_by.ensures.same c.args.choice c.requires.can

pub returns-clause-err : goal.returns-clause-err
returns-clause-err c = journal_still c.args.limits c.args.world.now c.pass_by.new.world c.pass_by.ensures.same c.make_turn.result c.make_turn.new.world c.make_turn.ensures.err

pub returns-clause-same : goal.returns-clause-same
returns-clause-same c = parts_still c.args.limits c.args.world.now c.pass_by.new.world c.pass_by.ensures.same c.make_turn.new.world c.make_turn.ensures.same

pub returns-clause-chosen : goal.returns-clause-chosen
returns-clause-chosen c =
    chosen_behind c.args.limits c.args.world.now c.pass_by.new.world c.pass_by.ensures.same c.make_turn.result c.make_turn.new.world c.args.choice c.pass_by.ensures.none c.make_turn.ensures.turn

pub returns-clause-made : goal.returns-clause-made
returns-clause-made c =
    limited_behind c.args.limits c.args.world.now c.pass_by.new.world c.pass_by.ensures.same c.make_turn.result c.make_turn.new.world c.args.choice.site c.make_turn.ensures.made

pub returns-clause-progress : goal.returns-clause-progress
returns-clause-progress c =
    progress_behind c.args.limits c.args.world.now c.pass_by.new.world c.pass_by.ensures.same c.make_turn.result c.make_turn.new.world c.make_turn.ensures.progress
