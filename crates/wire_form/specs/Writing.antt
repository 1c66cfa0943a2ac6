-- What a part of the encoder does: it puts the spelling of a value behind the bytes before.
use Rattle.std.specs.Prelude.{◌≡◌, ℕ, List, ◌++◌, Result, OnOk}
use Rattle.byte_fields.specs.Field.{Field}

-- where the writer succeeds, the value is one of the field and the buffer has its spelling behind what it had
abbrev pub IsWritten : {E X D U : Type 0} → Field E X → X → List ℕ → List ℕ → Result U D → Type 0
IsWritten F x old new result = OnOk result (F.Has x × (new ≡ old ++ F.spelling x))
