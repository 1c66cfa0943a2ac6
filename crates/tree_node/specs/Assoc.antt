-- Values by key, as association lists. The test of equal keys is handed down.
use Rattle.std.specs.Prelude.{List, [], ◌∷◌, Bool, Option, Some, None, if◌then◌else◌}

-- the value of a key: that of its first entry
abbrev pub value_of : {K V : Type 0} → (K → K → Bool) → List (K × V) → K → Option V
value_of same [] k = None
value_of same (e ∷ es) k = if same e.0 k then Some e.1 else value_of same es k

-- the first entry of the key with this value
abbrev pub with_value : {K V : Type 0} → (K → K → Bool) → List (K × V) → K → V → List (K × V)
with_value same [] k v = []
with_value same (e ∷ es) k v = if same e.0 k then (k, v) ∷ es else e ∷ with_value same es k v

-- no entry of the key
abbrev pub without_key : {K V : Type 0} → (K → K → Bool) → List (K × V) → K → List (K × V)
without_key same [] k = []
without_key same (e ∷ es) k = if same e.0 k then without_key same es k else e ∷ without_key same es k

-- the key goes on with this value, or without any
abbrev pub with_optional_value : {K V : Type 0} → (K → K → Bool) → List (K × V) → K → Option V → List (K × V)
with_optional_value same es k None = without_key same es k
with_optional_value same es k (Some v) = with_value same es k v
