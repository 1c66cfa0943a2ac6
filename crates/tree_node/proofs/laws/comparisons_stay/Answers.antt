use Rattle.tree_node.proofs.CompareLaws.{equal_stays, different_stays, different_is_never_same, open_stays, open_list_stays, more_is_within, agreeing_answer}
use Rattle.tree_node.proofs.laws.comparisons_stay.Goals as goal

pub returns : goal.returns
returns c = record { equal = equal_stays; different = different_stays; apart = different_is_never_same; open_stays = open_stays; list = open_list_stays; more = more_is_within; agreeing = agreeing_answer }
