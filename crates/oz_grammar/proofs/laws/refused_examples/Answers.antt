use Rattle.oz_grammar.proofs.WorkedRows.{empty_text, open_quote, undeclared, built_in_is_full, twice_by_position, twice_before_colon, twice_in_pattern, site_below, number_first, behind_thread}
use Rattle.oz_grammar.proofs.laws.refused_examples.Goals as goal

pub returns : goal.returns
returns c = record {
  empty = empty_text;
  open_quote = open_quote;
  undeclared = undeclared;
  built_in = built_in_is_full;
  position = twice_by_position;
  colon = twice_before_colon;
  pattern = twice_in_pattern;
  site = site_below;
  number = number_first;
  thread = behind_thread;
}
