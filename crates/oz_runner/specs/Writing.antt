-- What was written.
use Rattle.std.specs.Prelude.{◌≡◌, ◌⊎◌, ℕ, List}
use Rattle.std.specs.Io.KnownBytes.{Appends}
use Rattle.oz_base.specs.Streams.{TakesFront}
use Rattle.oz_show.specs.Status.{HasNumbers}
use Rattle.oz_show.specs.declared.status.Status.{Status}
use Rattle.oz_show.specs.declared.status.Status.TheVariants.{WriteFault, Memory}
use Rattle.oz_runner.specs.declared.work.RunLines.{RunLines}
use Rattle.oz_runner.specs.OzCall.{Stream}
use Rattle.oz_runner.specs.Cause.{HasFault, HasNoFault}
use Rattle.oz_runner.specs.Saving.{IsPlain}

-- a write that fails makes the status WriteFault, but Memory stays
abbrev pub after_fault : Status → Status
after_fault Memory = Memory
after_fault _ = WriteFault

-- all the bytes were taken and no call failed, or a call failed and a front of the bytes was taken, and not all of them.
-- `worked` is the status that stood before the writing
abbrev pub IsOutputTaken : Stream → List ℕ → Status → Status → Type 0
IsOutputTaken sink bytes worked status =
    ((status ≡ worked) × HasNoFault sink × Appends sink.bytes_before sink.bytes_after bytes)
    ⊎ ((status ≡ after_fault worked) × HasFault sink × TakesFront sink.bytes_before sink.bytes_after bytes)

-- the status that stands before the writing is that of the work, or Memory where no memory is left for the end line, which a saved run has
abbrev pub IsReportedAs : RunLines → Status → Status → Type 0
IsReportedAs lines status worked = (worked ≡ status) ⊎ (IsPlain lines × HasNumbers status × (worked ≡ Memory))
