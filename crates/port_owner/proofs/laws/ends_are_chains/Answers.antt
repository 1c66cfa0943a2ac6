use Rattle.port_owner.proofs.ChainLemmas.{ends_chain}
use Rattle.port_owner.proofs.laws.ends_are_chains.Goals as goal

pub returns : goal.returns
returns c es q x sends at = ends_chain sends es q x at
