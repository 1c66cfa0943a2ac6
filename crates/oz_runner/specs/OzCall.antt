-- What a call of `oz` saw, and what it made.
use Rattle.std.specs.Prelude.{ℕ, List}
use Rattle.std.specs.declared.option.Option.{Option}
use Rattle.site_message.specs.declared.turn.Turn.{Turn}
use Rattle.tree_node.specs.declared.pick.Pick.{Pick}

-- a source or a sink as the call found and left it: the bytes that the source has left, or the sink has taken, where it tells
-- them, and the count of its faults
pub record Stream : Type 0 where
  pub bytes_before : Option (List ℕ)
  pub bytes_after : Option (List ℕ)
  pub faults_before : ℕ
  pub faults_after : ℕ

-- the stream whose bytes and faults are told so, by what it was before the call and after it
abbrev pub stream_of : {X : Type 0} → (X → Option (List ℕ)) → (X → ℕ) → X → X → Stream
stream_of bytes faults old new =
    record { bytes_before = bytes old; bytes_after = bytes new; faults_before = faults old; faults_after = faults new }

-- the words, which are the program's name and those after it, the source and the sink
pub record OzCall : Type 0 where
  pub words : List (List ℕ)
  pub source : Stream
  pub sink : Stream

-- the words, with the streams as they were before the call and are after it
abbrev pub oz_call_of : List (List ℕ) → Stream → Stream → OzCall
oz_call_of words source sink = record { words = words; source = source; sink = sink }

-- the journal of the sites, the schedule of the run, and its lines; all are empty where nothing ran
pub record RunOutput : Type 0 where
  pub journal : List Turn
  pub schedule : List Pick
  pub lines : List (List ℕ)

-- the journal, the schedule and the lines of a run
abbrev pub run_output_of : List Turn → List Pick → List (List ℕ) → RunOutput
run_output_of journal schedule lines = record { journal = journal; schedule = schedule; lines = lines }
