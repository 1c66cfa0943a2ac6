-- Declarations, and the positions of their names.
use Rattle.std.specs.Prelude.{◌≡◌, ℕ, zero, suc, List, [], ◌∷◌, ◌++◌, map, Option, Some, None, true, false}
use Rattle.std.specs.Global.{Vec}
use Rattle.std.specs.Map.{lookup}
use Rattle.std.specs.Str.{bytes_eq}
use Rattle.oz_grammar.specs.Scoping.{Scope, position_of}

-- names, each with the position of the declaration that it hides, and the place where its own position is kept
abbrev pub Declarations : Type 0
Declarations = List (List ℕ × Option ℕ × ℕ)

-- names, each with the position of its innermost declaration, if it still has one
abbrev pub Positions : Type 0
Positions = List (Vec ℕ × Option ℕ)

-- the names without those positions
abbrev pub declared_names : Declarations → Scope
declared_names ds = map (λ (d : List ℕ × Option ℕ × ℕ). d.0) ds

-- the position that is kept, where one is
abbrev pub option_join : Option (Option ℕ) → Option ℕ
option_join None = None
option_join (Some position) = position

-- the position that is kept for a name
abbrev pub position_named : Positions → List ℕ → Option ℕ
position_named positions x = option_join (lookup (λ (k : Vec ℕ). bytes_eq x k.items) positions)

-- the position of a name is kept at this place
abbrev pub IsKeptAt : Positions → List ℕ → ℕ → Type 0
IsKeptAt [] x n = ⊥
IsKeptAt (e ∷ es) x zero = bytes_eq x e.0.items ≡ true
IsKeptAt (e ∷ es) x (suc n) = (bytes_eq x e.0.items ≡ false) × IsKeptAt es x n

-- what is kept in the first is kept at the same place in the second
abbrev pub KeepsPlaces : Positions → Positions → Type 0
KeepsPlaces old new = (x : List ℕ) (n : ℕ) → IsKeptAt old x n → IsKeptAt new x n

-- the position of each name is kept at the place that stands beside it
abbrev pub AreKept : Positions → Declarations → Type 0
AreKept positions [] = Unit {0}
AreKept positions (d ∷ ds) = IsKeptAt positions d.0 d.2 × AreKept positions ds

-- each of these, which stand behind others, has the position of the declaration that it hides
abbrev pub HidesBehind : Scope → Declarations → Type 0
HidesBehind before [] = Unit {0}
HidesBehind before (d ∷ ds) = (d.1 ≡ position_of before d.0) × HidesBehind (before ++ d.0 ∷ []) ds

-- these are the positions of all names
pub record IsIndexed (ds : Declarations) (positions : Positions) : Type 0 where
  pub hides : HidesBehind [] ds
  pub kept : AreKept positions ds
  pub positions_are : (x : List ℕ) → position_named positions x ≡ position_of (declared_names ds) x
