use Rattle.bind_protocol.specs.World.{new_world}
use Rattle.bind_protocol.proofs.HoldLemmas.{new_lawful, lawful_holds}
use Rattle.bind_protocol.proofs.laws.BindWorld.new.Goals as goal

pub invariant_of-result : goal.invariant_of-result
invariant_of-result c = rw (c.in_ok-binders.ensures, c.new.ensures, c.new-2.ensures.items) (new_lawful c.args.sites)

pub returns-clause-holds : goal.returns-clause-holds
returns-clause-holds c = rw (c.in_ok-binders.ensures, c.new.ensures, c.new-2.ensures.items) (lawful_holds (new_world c.args.sites) (new_lawful c.args.sites))
