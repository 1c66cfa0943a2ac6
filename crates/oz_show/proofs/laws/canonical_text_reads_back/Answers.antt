use Rattle.oz_show.proofs.RoundTrip.{reads_back, text_utf8}
use Rattle.oz_show.proofs.laws.canonical_text_reads_back.Goals as goal

pub returns : goal.returns
returns c = record { reads = reads_back; utf8 = text_utf8 }
