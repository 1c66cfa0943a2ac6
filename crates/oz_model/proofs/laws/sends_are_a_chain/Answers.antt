use Rattle.oz_model.proofs.PortLemmas.{ports_are_chains, ports_have_ends, steps_find_ports}
use Rattle.oz_model.proofs.SendLemmas.{sends_are_in_order}
use Rattle.oz_model.proofs.laws.sends_are_a_chain.Goals as goal

pub returns : goal.returns
returns c = record { chains = ports_are_chains; order = sends_are_in_order; ends = ports_have_ends; steps = steps_find_ports }
