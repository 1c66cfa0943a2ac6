-- How the seats are dealt, and gathered at the end.
use Rattle.std.proofs.Common.{◌≡◌, ◌≢◌, ℕ, zero, suc, ◌+◌, ◌-◌, ◌<◌, List, [], ◌∷◌, ◌++◌, length, map, Option, Some, refl, sym, ap, ◌∙◌, subst, arith}
use mathlib.Core.Option.{some, some-injective}
use lib.ListN.{get_elem?, length-map}
use Rattle.atomic_table.specs.Table.{Me, Splits, Joins, Final, Seen}
use Rattle.atomic_table.specs.Seated.{TableId}
use Rattle.site_message.specs.declared.story.Sight.{Sight}
use Rattle.book_lock.specs.declared.view.Part.{Part}
use Rattle.book_lock.specs.declared.view.View.{View}
use Rattle.book_lock.specs.declared.lock.SiteSeat.{SiteSeat}
use Rattle.book_lock.specs.Rule.{part, outside, AreInAgreement, parts_from, head_of, split_left, split_right, join_both, Each, LockRule}
use Rattle.book_lock.specs.Seats.{AreNewSeats, IsSeatOutside, IsOutsideOf, seat_part, last_seen, parts_of}
use Rattle.book_lock.proofs.Parts.{each_part_from}
use Rattle.book_lock.proofs.Steps.{deals, gathers, ends}

pub parts_step : (n k : ℕ) (x : Sight) → k < n → parts_from (n - k) (k + 1) x ≡ part (k + 1) x ∷ parts_from (n - (k + 1)) ((k + 1) + 1) x
parts_step n k x h = let e : n - k ≡ suc (n - (k + 1)) = omega arith in ap (λ m. parts_from m (k + 1) x) e

pub head_parts : (n k : ℕ) (x : Sight) → 0 < n → head_of (parts_from n k x) ≡ part k x
head_parts zero k x h = absurd (omega arith)
head_parts (suc n) k x h = refl

pub deals_as : {B : Type 0} (sight : B → Sight) (n id all k : ℕ) (m : Me (Option B) View) (x : Sight) → k < all → m ≡ (outside (parts_from (all - k) (k + 1) x), []) → Splits (LockRule sight n) id m.0 (split_left m.0) (split_right m.0)
deals_as sight n id all k m x h e =
    let v : m.0 ≡ outside (part (k + 1) x ∷ parts_from (all - (k + 1)) ((k + 1) + 1) x) = ap (λ z. z.0) e ∙ ap outside (parts_step all k x h) in
    subst (λ (z : View). Splits (LockRule sight n) id z (split_left z) (split_right z)) (sym v)
    (deals sight n id (k + 1) x (parts_from (all - (k + 1)) ((k + 1) + 1) x) (each_part_from (λ p. p.site ≢ k + 1) (all - (k + 1)) ((k + 1) + 1) x (λ j far same. absurd (omega arith))))

pub are_new_push : (table : TableId) (k : ℕ) (x : Sight) (ss : List SiteSeat) (s : SiteSeat) (j : ℕ) → AreNewSeats table k x ss → j ≡ k + length ss → s.site ≡ j → s.badge.table_id ≡ table → s.badge.views ≡ outside (part j x ∷ []) ∷ []
    → AreNewSeats table k x (ss ++ s ∷ [])
are_new_push table k x [] s j h at a b c = let e : j ≡ k = omega arith in ((a ∙ e, b, c ∙ ap (λ i. outside (part i x ∷ []) ∷ []) e), tt)
are_new_push table k x (y ∷ ys) s j h at a b c = (h.0, are_new_push table (k + 1) x ys s j h.1 (omega arith) a b c)

module _ {B : Type 0} (all k : ℕ) (m : Me (Option B) View) (x : Sight) (below : k < all) (e : m ≡ (outside (parts_from (all - k) (k + 1) x), [])) where
  cut : m.0 ≡ outside (part (k + 1) x ∷ parts_from (all - (k + 1)) ((k + 1) + 1) x)
  cut = ap (λ z. z.0) e ∙ ap outside (parts_step all k x below)

  pub left_after : ◌≡◌ {A = Me (Option B) View} (split_left m.0, m.1) (outside (parts_from (all - (k + 1)) ((k + 1) + 1) x), [])
  left_after = λ i. (split_left (cut i), (e i).1)

  pub right_after : split_right m.0 ≡ outside (part (k + 1) x ∷ [])
  right_after = ap split_right cut

pub gathers_as : {B : Type 0} (sight : B → Sight) (n id other : ℕ) (m w : Me (Option B) View) (ps qs : List Part) → m.0 ≡ outside ps → w.0 ≡ outside qs → Joins (LockRule sight n) id m.0 other w.0 (join_both m.0 w.0) (outside [])
gathers_as sight n id other m w ps qs e d = subst (λ (z : View × View). Joins (LockRule sight n) id z.0 other z.1 (join_both z.0 z.1) (outside [])) (λ i. (sym e i, sym d i)) (gathers sight n id other ps qs)

pub each_last : (P : SiteSeat → Type 0) (xs : List SiteSeat) (x : SiteSeat) → Each P (xs ++ x ∷ []) → Each P xs × P x
each_last P [] x h = (tt, h.0)
each_last P (y ∷ ys) x h = let t = each_last P ys x h.1 in ((h.0, t.0), t.1)

first_view : List View → View
first_view [] = outside []
first_view (v ∷ vs) = v

pub joined : {B : Type 0} (m m' : Me (Option B) View) (w : View) (s : SiteSeat) (gone : List SiteSeat) → m ≡ (outside (map seat_part gone), []) → s.badge.views ≡ w ∷ [] → IsSeatOutside s → m' ≡ (join_both m.0 w, m.1)
    → m' ≡ (outside (map seat_part (s ∷ gone)), [])
unfolding first_view
joined m m' w s gone e is out after =
    let p : seat_part s ≡ part s.site (last_seen s) = ap (λ vs. head_of (parts_of vs)) out in
    let u : w ≡ outside (seat_part s ∷ []) = ap first_view (sym is ∙ out) ∙ ap (λ q. outside (q ∷ [])) (sym p) in
    after ∙ (λ i. (join_both (e i).0 (u i), (e i).1))

pub view_is : (w : View) (s : SiteSeat) → s.badge.views ≡ w ∷ [] → IsSeatOutside s → w ≡ outside (part s.site (last_seen s) ∷ [])
unfolding first_view
view_is w s is out = ap first_view (sym is ∙ out)

pub ends_as : {B : Type 0} (sight : B → Sight) (n id : ℕ) (m : Me (Option B) View) (ps : List Part) (ws : List ℕ) (xs : List (Option B)) → m ≡ (outside ps, []) → length ps ≡ n → Final (Seen (LockRule sight n) id m.0) ws xs
    → (b : B) × (get_elem? xs 0 ≡ some (Some b)) × Each (λ p. AreInAgreement p.site (sight b) p.seen) ps
ends_as sight n id m ps ws xs e all f = ends sight n id ps ws xs all (subst (λ (z : View). Final (Seen (LockRule sight n) id z) ws xs) (ap (λ z. z.0) e) f)

pub each_seat : (x : Sight) (table : TableId) (ss : List SiteSeat) → Each (IsOutsideOf table) ss → Each (λ p. AreInAgreement p.site x p.seen) (map seat_part ss) → Each (λ s. AreInAgreement s.site x (last_seen s)) ss
each_seat x table [] out h = tt
each_seat x table (s ∷ ss) out h =
    let p : seat_part s ≡ part s.site (last_seen s) = ap (λ vs. head_of (parts_of vs)) out.0.1 in
    (subst (λ (q : Part). AreInAgreement q.site x q.seen) p h.0, each_seat x table ss out.1 h.1)

pub finished : {B : Type 0} (sight : B → Sight) (n id : ℕ) (m : Me (Option B) View) (table : TableId) (ss : List SiteSeat) (ws : List ℕ) (xs : List (Option B)) (o : Option B) → m ≡ (outside (map seat_part ss), []) → length ss ≡ n
    → Each (IsOutsideOf table) ss → Final (Seen (LockRule sight n) id m.0) ws xs → get_elem? xs 0 ≡ some o → (b : B) × (o ≡ Some b) × Each (λ s. AreInAgreement s.site (sight b) (last_seen s)) ss
finished sight n id m table ss ws xs o e all out f at =
    let t = ends_as sight n id m (map seat_part ss) ws xs e (length-map ss seat_part ∙ all) f in
    (t.0, some-injective _ _ (sym at ∙ t.1), each_seat (sight t.0) table ss out t.2)
