-- What is told of a run that was driven.
use Rattle.std.specs.Prelude.{◌≡◌}
use Rattle.plain_run.specs.declared.out.DrivenRun.{DrivenRun}
use Rattle.plain_run.specs.declared.out.RunOut.{RunOut}

-- its turns, and why no more were made
abbrev pub IsOutputOf : DrivenRun → RunOut → Type 0
IsOutputOf driven out = (out.journal ≡ driven.history) × (out.reason ≡ driven.reason)
