use Rattle.wire_reader.proofs.RowsRead.{kind, place, cut, other_site, more, other_text, exchanged, other_width}
use Rattle.wire_reader.proofs.laws.worked_faults.Goals as goal

pub returns-clause-cut : goal.returns-clause-cut
returns-clause-cut c = cut

pub returns-clause-site : goal.returns-clause-site
returns-clause-site c = other_site

pub returns-clause-more : goal.returns-clause-more
returns-clause-more c = more

pub returns-clause-text : goal.returns-clause-text
returns-clause-text c = other_text

pub returns-clause-order : goal.returns-clause-order
returns-clause-order c = exchanged

pub returns-clause-width : goal.returns-clause-width
returns-clause-width c = other_width

pub returns-clause-kind : goal.returns-clause-kind
returns-clause-kind c = kind

pub returns-clause-place : goal.returns-clause-place
returns-clause-place c = place
