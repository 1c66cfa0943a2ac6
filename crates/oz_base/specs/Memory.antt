-- What the source and the sink over memory hold.
use Rattle.std.specs.Prelude.{ℕ, List}
use Rattle.oz_base.specs.Steady.{steady_left}
use Rattle.oz_base.specs.declared.memory.MemSource.{MemSource}
use Rattle.oz_base.specs.declared.memory.MemSink.{MemSink}

-- the bytes that the source has left
abbrev pub source_left : MemSource → List ℕ
source_left s = steady_left s.bytes

-- the numbers of the source's calls that fail
abbrev pub source_failing : MemSource → List ℕ
source_failing s = s.failing.now

-- how many calls of the source there were
abbrev pub source_calls : MemSource → ℕ
source_calls s = s.calls

-- how many calls of the source have failed
abbrev pub source_faults : MemSource → ℕ
source_faults s = s.faults

-- the bytes that the sink has taken
abbrev pub sink_taken : MemSink → List ℕ
sink_taken s = s.taken.items

-- how many bytes the sink takes in all
abbrev pub sink_room : MemSink → ℕ
sink_room s = s.room

-- the numbers of the sink's calls that fail
abbrev pub sink_failing : MemSink → List ℕ
sink_failing s = s.failing.now

-- how many calls of the sink there were
abbrev pub sink_calls : MemSink → ℕ
sink_calls s = s.calls

-- how many calls of the sink have failed
abbrev pub sink_faults : MemSink → ℕ
sink_faults s = s.faults
