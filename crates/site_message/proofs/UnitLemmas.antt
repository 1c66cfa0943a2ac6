-- One unit more, and one stint more.
use Rattle.std.proofs.Common.{◌≡◌, ℕ, zero, suc, ◌+◌, List, [], ◌∷◌, ◌++◌, refl, sym, ap, ◌∙◌, add-one}
use Rattle.std.specs.List.{flat_map}
use Rattle.std.proofs.lemmas.List.{append-nil}
use Rattle.std.proofs.lemmas.Grind.{flat_map-append}
use Rattle.tree_node.specs.declared.names.ThreadName.{ThreadName}
use Rattle.site_message.specs.declared.units.SmallStint.{SmallStint}
use Rattle.site_message.specs.declared.units.Stint.{Stint}
use Rattle.site_message.specs.Units.{in_a_row, units_of, small_units}

row_next : (n : ℕ) (th : ThreadName) → in_a_row (suc n) th ≡ in_a_row n th ++ th ∷ []
row_next zero th = refl
row_next (suc n) th = ap (λ (z : List ThreadName). th ∷ z) (row_next n th)

pub row_more : (n : ℕ) (th : ThreadName) → in_a_row (n + 1) th ≡ in_a_row n th ++ th ∷ []
row_more n th = ap (λ (k : ℕ). in_a_row k th) (add-one n) ∙ row_next n th

-- of the thread of the only stint
pub one_on : (count site num : ℕ) (th : ThreadName) → num ≡ th.num → site ≡ th.site
    → in_a_row (count + 1) (record { site = site; num = num }) ≡ in_a_row count (record { site = site; num = num }) ++ th ∷ []
one_on count site num th e f =
    let one : ThreadName = record { site = site; num = num } in
    let same : one ≡ th = λ i. record { site = f i; num = e i } in
    row_more count one ∙ ap (λ (t : ThreadName). in_a_row count one ++ t ∷ []) same

-- a stint behind others
pub large_more : (stints : List Stint) (s : Stint) → flat_map units_of (stints ++ s ∷ []) ≡ flat_map units_of stints ++ units_of s
large_more stints s = flat_map-append units_of stints (s ∷ []) ∙ ap (λ (z : List ThreadName). flat_map units_of stints ++ z) (append-nil (units_of s))

pub small_more : (stints : List SmallStint) (s : SmallStint) → flat_map small_units (stints ++ s ∷ []) ≡ flat_map small_units stints ++ small_units s
small_more stints s = flat_map-append small_units stints (s ∷ []) ∙ ap (λ (z : List ThreadName). flat_map small_units stints ++ z) (append-nil (small_units s))

-- the first stint
pub behind_none : (count site num : ℕ) (t : Stint) → count ≡ 0 → units_of t ≡ in_a_row count (record { site = site; num = num }) ++ units_of t
behind_none count site num t none = let one : ThreadName = record { site = site; num = num } in ap (λ (n : ℕ). in_a_row n one ++ units_of t) (sym none)

-- two stints
pub two_of : (s t : Stint) → flat_map units_of (s ∷ t ∷ []) ≡ units_of s ++ units_of t
two_of s t = ap (λ (z : List ThreadName). units_of s ++ z) (append-nil (units_of t))

pub two_small : (s t : SmallStint) → flat_map small_units (s ∷ t ∷ []) ≡ small_units s ++ small_units t
two_small s t = ap (λ (z : List ThreadName). small_units s ++ z) (append-nil (small_units t))
