use Rattle.oz_show.proofs.RoundTrip as trip
use Rattle.oz_show.proofs.laws.programs_are_texts.Goals as goal

pub returns : goal.returns
returns c = trip.programs_are_texts
