-- Two and three positions in ascending order.
use Rattle.std.proofs.Common.{arith, ◌≡◌, ◌∙◌, ap, ℕ, ◌<◌, [], ◌∷◌}
use Rattle.kernel_syntax.specs.Free.{with_position, with_positions}

pub two_up : (a b : ℕ) → a < b → with_positions [] (a ∷ b ∷ []) ≡ a ∷ b ∷ []
two_up a b up = grind (arith, up)

pub two_same : (a b : ℕ) → a ≡ b → with_positions [] (a ∷ b ∷ []) ≡ a ∷ []
two_same a b same = grind (arith, same)

pub two_down : (a b : ℕ) → b < a → with_positions [] (a ∷ b ∷ []) ≡ b ∷ a ∷ []
two_down a b down = grind (arith, down)

-- three, by the order of the first two
pub first_up : (a b c : ℕ) → a < b → with_positions [] (a ∷ b ∷ c ∷ []) ≡ with_position c (a ∷ b ∷ [])
first_up a b c up = ap (with_position c) (two_up a b up)

pub first_same : (a b c : ℕ) → a ≡ b → with_positions [] (a ∷ b ∷ c ∷ []) ≡ with_positions [] (a ∷ c ∷ [])
first_same a b c same = ap (with_position c) (two_same a b same)

pub first_down : (a b c : ℕ) → b < a → with_positions [] (a ∷ b ∷ c ∷ []) ≡ with_position c (b ∷ a ∷ [])
first_down a b c down = ap (with_position c) (two_down a b down)

-- .. and where the third comes among them
pub third_above : (low high c : ℕ) → low < high → high < c → with_position c (low ∷ high ∷ []) ≡ low ∷ high ∷ c ∷ []
third_above low high c up above = grind (arith, up, above)

pub third_last : (low high c : ℕ) → low < high → high ≡ c → with_position c (low ∷ high ∷ []) ≡ low ∷ high ∷ []
third_last low high c up same = grind (arith, up, same)

pub third_between : (low high c : ℕ) → c < high → low < c → with_position c (low ∷ high ∷ []) ≡ low ∷ c ∷ high ∷ []
third_between low high c below above = grind (arith, below, above)

pub third_same : (low high c : ℕ) → low ≡ c → with_position c (low ∷ high ∷ []) ≡ low ∷ high ∷ []
third_same low high c same = grind (arith, same)

pub third_first : (low high c : ℕ) → c < low → with_position c (low ∷ high ∷ []) ≡ c ∷ low ∷ high ∷ []
third_first low high c below = grind (arith, below)
