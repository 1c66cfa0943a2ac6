-- What the program does, and the number that it ends with.
use Rattle.std.specs.Prelude.{◌≡◌, ◌⊎◌, ℕ, List, []}
use Rattle.std.specs.declared.option.Option.{Option}
use Rattle.std.specs.Process.{exit_status}
use Rattle.std.specs.declared.process.ExitCode.{ExitCode}
use Rattle.oz_model.specs.Output.{output}
use Rattle.oz_show.specs.Status.{status_number, end_line}
use Rattle.oz_show.specs.declared.status.Status.{Status}
use Rattle.oz_show.specs.declared.status.Status.TheVariants.{Memory}
use Rattle.oz_runner.specs.OzCall.{Stream, RunOutput, oz_call_of}
use Rattle.oz_runner.specs.Words.{AreToldAs}
use Rattle.oz_runner.specs.Cause.{IsUntouched}
use Rattle.oz_runner.specs.Headline.{Headline}
use Rattle.oz_runner.specs.Besides.{IsAccounted}
use Rattle.oz_runner.specs.Writing.{IsOutputTaken}

-- The program ends with this number. A call of `oz` was made with the words, which are those told where they are told: the headline holds
-- of it, and what is said of its journal besides, and the number is that of its status. Or no memory was left for the words: nothing was
-- read, the line of want of memory was written, or the sink failed and took a front of it, and the number is that of want of memory
abbrev pub IsExit : Option (List (List ℕ)) → Stream → Stream → ExitCode → Type 0
IsExit told source sink code =
    ((words : List (List ℕ)) × AreToldAs told words × (made : RunOutput) × (status : Status)
    × Headline (oz_call_of words source sink) made status × IsAccounted (oz_call_of words source sink) made.journal made.schedule
    × (exit_status code ≡ status_number status))
    ⊎ (IsUntouched source × IsOutputTaken sink (output [] (end_line Memory)) Memory Memory × (exit_status code ≡ status_number Memory))
