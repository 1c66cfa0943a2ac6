-- What is said of words, and of an end of the program.
use Rattle.std.proofs.Common.{◌≡◌, sym, subst, ℕ, List, Option, None, inl}
use Rattle.std.specs.Process.{exit_status}
use Rattle.std.specs.declared.process.ExitCode.{ExitCode}
use Rattle.oz_show.specs.Status.{status_number}
use Rattle.oz_show.specs.declared.status.Status.{Status}
use Rattle.world_journals.specs.Places.{ThreadsStayHome}
use Rattle.oz_runner.specs.OzCall.{Stream, RunOutput, oz_call_of}
use Rattle.oz_runner.specs.Words.{AreToldAs}
use Rattle.oz_runner.specs.Headline.{Headline}
use Rattle.oz_runner.specs.Besides.{AreMessagesBounded, AreTokensServed, AreExchangesAsked}
use Rattle.oz_runner.specs.Cells.{AreExchangesChained, AreSendsChained}
use Rattle.oz_runner.specs.Exit.{IsExit}

-- whatever the words, where none are told
pub untold : (told : Option (List (List ℕ))) (words : List (List ℕ)) → told ≡ None → AreToldAs told words
untold told words none = subst (λ (t : Option (List (List ℕ))). AreToldAs t words) (sym none) tt

-- a call was made with the words
pub call_ends : (told : Option (List (List ℕ))) (words : List (List ℕ)) (source sink : Stream) (made : RunOutput) (status : Status) (code : ExitCode)
    → AreToldAs told words → Headline (oz_call_of words source sink) made status → ThreadsStayHome made.journal
    → AreMessagesBounded (oz_call_of words source sink) made.journal made.schedule → AreTokensServed (oz_call_of words source sink) made.journal
    → AreExchangesAsked (oz_call_of words source sink) made.journal → AreExchangesChained made.schedule → AreSendsChained made.schedule → exit_status code ≡ status_number status → IsExit told source sink code
call_ends told words source sink made status code are whole homes few served asked chains sends ends =
    inl (words, are, made, status, whole, record { homes = homes; few = few; served = served; asked = asked; chains = chains; sends = sends }, ends)
