use Rattle.tree_store.proofs.FiledLemmas.{none_names, none_ordinals}
use Rattle.tree_store.proofs.names.Names.new.Goals as goal

pub returns-clause-names : goal.returns-clause-names
returns-clause-names c = none_names _ c.new.ensures.items c.new-2.ensures.empty

pub returns-clause-ordinals : goal.returns-clause-ordinals
returns-clause-ordinals c y = none_ordinals _ y c.new.ensures.items c.new-2.ensures.empty
