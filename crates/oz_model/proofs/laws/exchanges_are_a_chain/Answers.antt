use Rattle.oz_model.proofs.CellLemmas.{cells_are_chains, cells_have_contents, exchanges_end, steps_find_cells}
use Rattle.oz_model.proofs.ExchangeLemmas.{exchanges_chain}
use Rattle.oz_model.proofs.laws.exchanges_are_a_chain.Goals as goal

pub returns : goal.returns
returns c = record { held = exchanges_chain; end = exchanges_end; chains = cells_are_chains; contents = cells_have_contents; steps = steps_find_cells }
