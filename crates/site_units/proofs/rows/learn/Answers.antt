use Rattle.site_units.proofs.LearnLemmas.{learn_made}
use Rattle.site_units.proofs.rows.learn.Goals as goal

pub learn-requires-clause-linked : goal.learn-requires-clause-linked
learn-requires-clause-linked c = c.requires.consistent.1.linked

pub returns-clause-row : goal.returns-clause-row
returns-clause-row c p h fits =
    let e = c.in_ok-learn.ensures in
    learn_made p c.args.core.now c.learn.new.self c.learn.new.threads c.args.output.now c.args.var c.args.term e.done e.ended e.linked e.grows e.owners e.site c.forest.ensures.sound c.requires.elsewhere c.requires.met c.requires.known fits h
