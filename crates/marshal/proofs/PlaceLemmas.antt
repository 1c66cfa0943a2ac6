-- Where a name stands among equations whose names ascend.
use Rattle.std.proofs.Common.{rules, arith, ◌≡◌, ◌∙◌, ap, refl, ℕ, zero, suc, ◌≤◌, ◌<◌, List, [], ◌∷◌, length, get_or, Bool, true, false, cond, ◌||◌}
use Rattle.std.specs.List.{list_any, insert}
use Rattle.std.specs.List.Sorted.{IsPartitionedBy, IsPartitionPoint}
use Rattle.tree_node.specs.declared.names.VarName.{VarName}
use Rattle.tree_node.specs.Each.{Each}
use Rattle.tree_node.specs.Order.{IsBelow}
use Rattle.tree_node.specs.Store.{Equation, equal_var}
use Rattle.tree_node.proofs.NameLemmas.{below_trans}
use Rattle.kernel_syntax.proofs.OrderLemmas.{Each-at}
use Rattle.site_message.specs.Wire.{NamesAscend}
use Rattle.site_model.specs.Bundle.{is_below, insert_ascending}
use Rattle.site_model.specs.Laws.{left_names}
use Rattle.site_model.proofs.AscendingLemmas.{below_yes}

is_so : (a b : VarName) → IsBelow a b → is_below a b ≡ true
is_so a b h = search rules

below_differs : (a b : VarName) → is_below a b ≡ true → equal_var b a ≡ false
below_differs a b h = search rules

above_differs : (a b c : VarName) → IsBelow a b → is_below a c ≡ false → equal_var c b ≡ false
above_differs a b c h g = search rules

-- ---- names that ascend

above_more : (a b : VarName) → IsBelow a b → (es : List Equation) → Each (λ (e : Equation). IsBelow b e.0) es → Each (λ (e : Equation). IsBelow a e.0) es
above_more a b h [] g = tt
above_more a b h (e ∷ es) g = (below_trans a b e.0 h g.0, above_more a b h es g.1)

-- the names behind the first are above it, and ascend
ascend_rest : (e : Equation) (es : List Equation) → NamesAscend (e ∷ es) → Each (λ (d : Equation). IsBelow e.0 d.0) es × NamesAscend es
ascend_rest e [] h = (tt, tt)
ascend_rest e (d ∷ es) h = ((h.0, above_more e.0 d.0 h.0 es (ascend_rest d es h.1).0), h.1)

-- so those below a name come first
pub below_first : (es : List Equation) (x : VarName) → NamesAscend es → IsPartitionedBy (λ (e : Equation). is_below e.0 x) es
below_first [] x h i j d order inside low = absurd (omega arith)
below_first (e ∷ es) x h zero zero d order inside low = low
below_first (e ∷ es) x h zero (suc j) d order inside low =
    let above : IsBelow e.0 (get_or es j d).0 = Each-at (λ (c : Equation). IsBelow e.0 c.0) es j d (ascend_rest e es h).0 (omega arith) in
    is_so e.0 x (below_trans e.0 (get_or es j d).0 x above (below_yes (get_or es j d).0 x low))
below_first (e ∷ es) x h (suc i) zero d order inside low = absurd (omega arith)
below_first (e ∷ es) x h (suc i) (suc j) d order inside low = below_first es x (ascend_rest e es h).1 i j d (omega arith) (omega arith) low

-- ---- a name among them

-- so many have a name below x, and they come first
abbrev pub IsPlace : List Equation → VarName → ℕ → Type 0
IsPlace es x place = IsPartitionPoint (λ (e : Equation). is_below e.0 x ≡ true) (λ (e : Equation). is_below e.0 x ≡ false) es place

place_rest : (e : Equation) (es : List Equation) (x : VarName) (place : ℕ) → IsPlace (e ∷ es) x (suc place) → IsPlace es x place
place_rest e es x place h = (
  λ k d low high. h.0 (suc k) d (omega arith) (omega arith),
  λ k d low high. h.1 (suc k) d (omega arith) (omega arith),
)

absent : (es : List Equation) (e x : VarName) → Each (λ (d : Equation). IsBelow e d.0) es → is_below e x ≡ false → list_any (equal_var x) (left_names es) ≡ false
absent [] e x h above = refl
absent (d ∷ es) e x h above = ap (λ (b : Bool). b || list_any (equal_var x) (left_names es)) (above_differs e d.0 x h.0 above) ∙ absent es e x h.1 above

-- behind all of them it is none of theirs
pub place_behind : (es : List Equation) (x : VarName) (place : ℕ) → IsPlace es x place → length es ≤ place → list_any (equal_var x) (left_names es) ≡ false
place_behind [] x place h all = refl
place_behind (e ∷ es) x zero h all = absurd (omega arith)
place_behind (e ∷ es) x (suc place) h all =
    ap (λ (b : Bool). b || list_any (equal_var x) (left_names es)) (below_differs e.0 x (h.0 0 e (omega arith) (omega arith))) ∙ place_behind es x place (place_rest e es x place h) (omega arith)

or_none : (b c : Bool) → c ≡ false → (b || c) ≡ b
or_none true c e = refl
or_none false c e = e

-- else it is one of theirs exactly where it stands at its place
pub place_holds : (es : List Equation) (x : VarName) (place : ℕ) (d : Equation) → NamesAscend es → IsPlace es x place → place < length es → list_any (equal_var x) (left_names es) ≡ equal_var x (get_or es place d).0
place_holds [] x place d order h inside = absurd (omega arith)
place_holds (e ∷ es) x zero d order h inside =
    or_none (equal_var x e.0) (list_any (equal_var x) (left_names es)) (absent es e.0 x (ascend_rest e es order).0 (h.1 0 e (omega arith) (omega arith)))
place_holds (e ∷ es) x (suc place) d order h inside =
    ap (λ (b : Bool). b || list_any (equal_var x) (left_names es)) (below_differs e.0 x (h.0 0 e (omega arith) (omega arith)))
    ∙ place_holds es x place d (ascend_rest e es order).1 (place_rest e es x place h) (omega arith)

-- ---- an equation is put in at the place of its name

pub place_put : (es : List Equation) (e : Equation) (place : ℕ) → IsPlace es e.0 place → place ≤ length es → insert_ascending e es ≡ insert es place e
place_put [] e zero h inside = refl
place_put [] e (suc place) h inside = absurd (omega arith)
place_put (d ∷ es) e zero h inside = ap (λ (b : Bool). cond b (d ∷ insert_ascending e es) (e ∷ d ∷ es)) (h.1 0 d (omega arith) (omega arith))
place_put (d ∷ es) e (suc place) h inside =
    ap (λ (b : Bool). cond b (d ∷ insert_ascending e es) (e ∷ d ∷ es)) (h.0 0 d (omega arith) (omega arith))
    ∙ ap (λ (l : List Equation). d ∷ l) (place_put es e place (place_rest d es e.0 place h) (omega arith))
