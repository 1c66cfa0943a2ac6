-- What holds of each element of a list: std's definition by recursion on the list, under a short name.
use Rattle.std.specs.Prelude.{List, [], ◌∷◌, ◌≢◌}
pub use Rattle.std.specs.List.{AllByRecursion as Each}

-- no two of them are the same
abbrev pub AreDistinct : {X : Type 0} → List X → Type 0
AreDistinct [] = Unit {0}
AreDistinct (x ∷ xs) = Each (λ y. x ≢ y) xs × AreDistinct xs
