-- What a source and a sink over a reader and a writer of std hold.
use Rattle.std.specs.Prelude.{ℕ}
use Rattle.oz_base.specs.declared.system.StdSource.{StdSource}
use Rattle.oz_base.specs.declared.system.StdSink.{StdSink}

-- the reader that the source reads from
abbrev pub std_reader : {R : Type 0} → StdSource R → R
std_reader s = s.inner

-- how often the reader has failed
abbrev pub std_source_faults : {R : Type 0} → StdSource R → ℕ
std_source_faults s = s.faults

-- the writer that the sink writes to
abbrev pub std_writer : {W : Type 0} → StdSink W → W
std_writer s = s.inner

-- how often the writer has failed, or taken nothing
abbrev pub std_sink_faults : {W : Type 0} → StdSink W → ℕ
std_sink_faults s = s.faults
