-- What a part of a writer does.
use Rattle.std.specs.Prelude.{◌≡◌, ℕ, List, ◌++◌, Result, OnOk}

-- where the writer succeeds, this text stands behind what was there
abbrev pub IsPut : {E U : Type 0} → List ℕ → List ℕ → List ℕ → Result U E → Type 0
IsPut text old new result = OnOk result (new ≡ old ++ text)
