-- Lists of parts and views, and what a seat knows of the value.
use Rattle.std.proofs.Common.{◌≡◌, ◌≢◌, ◌⊎◌, ℕ, zero, suc, ◌+◌, ◌<◌, ◌≤◌, List, [], ◌∷◌, ◌++◌, length, set, get_or, eqb, Option, Some, None, refl, sym, ap, ◌∙◌, subst, inl, inr, ⊎_elim, arith, le_refl, append_assoc}
use mathlib.Core.Option.{some, some-ne-none, some-injective}
use lib.ListN.{get_elem?}
use Rattle.std.proofs.lemmas.List.Elements.{filter-append}
use Rattle.atomic_table.proofs.Lists.{at_set}
use Rattle.site_message.specs.declared.story.Sight.{Sight}
use Rattle.site_message.specs.declared.turn.Turn.{Turn}
use Rattle.site_message.specs.Story.{own}
use Rattle.book_lock.specs.declared.view.Part.{Part}
use Rattle.book_lock.specs.declared.view.View.{View}
use Rattle.book_lock.specs.Rule.{AreInAgreement, IsLawfulChange, part, parts_from, total, one_if_some, Each}

module _ {A : Type 0} where
  pub same_at : (l : List A) (i j : ℕ) (a b : A) → get_elem? l i ≡ some a → get_elem? l j ≡ some b → i ≡ j → a ≡ b
  same_at l i j a b e f same = some-injective a b (sym e ∙ (ap (get_elem? l) same ∙ f))

  pub at_inside : (l : List A) (i : ℕ) (a : A) → get_elem? l i ≡ some a → i < length l
  at_inside [] i a e = absurd (some-ne-none a (sym e))
  at_inside (x ∷ xs) zero a e = omega arith
  at_inside (x ∷ xs) (suc i) a e = let h = at_inside xs i a e in omega arith

  pub at_end : (l : List A) (a b : A) (j : ℕ) → get_elem? (l ++ a ∷ []) j ≡ some b → (get_elem? l j ≡ some b) ⊎ ((j ≡ length l) × (a ≡ b))
  at_end [] a b zero e = inr (refl, some-injective a b e)
  at_end [] a b (suc j) e = absurd (some-ne-none b (sym e))
  at_end (x ∷ xs) a b zero e = inl e
  at_end (x ∷ xs) a b (suc j) e = ⊎_elim inl (λ (t : (j ≡ length xs) × (a ≡ b)). inr (ap suc t.0, t.1)) (at_end xs a b j e)

  pub each_map : (P Q : A → Type 0) → ((x : A) → P x → Q x) → (xs : List A) → Each P xs → Each Q xs
  each_map P Q f [] h = tt
  each_map P Q f (x ∷ xs) h = (f x h.0, each_map P Q f xs h.1)

  pub each_append : (P : A → Type 0) (xs ys : List A) → Each P xs → Each P ys → Each P (xs ++ ys)
  each_append P [] ys h k = k
  each_append P (x ∷ xs) ys h k = (h.0, each_append P xs ys h.1 k)

  -- what holds of one place after a change, and of the others before it, holds of all after it
  pub all_set : (F : ℕ → A → Type 0) (l : List A) (i : ℕ) (w : A) → F i w → ((j : ℕ) (v : A) → j ≢ i → get_elem? l j ≡ some v → F j v) → (j : ℕ) (v : A) → get_elem? (set l i w) j ≡ some v → F j v
  all_set F l i w mine others j v e =
      ⊎_elim
      (λ (x : (j ≡ i) × (w ≡ v)). subst (λ (y : ℕ × A). F y.0 y.1) (λ k. (sym x.0 k, x.1 k)) mine)
      (λ (x : (j ≢ i) × (get_elem? l j ≡ some v)). others j v x.0 x.1)
      (at_set l i j w v e)

pub set_word : (l : List ℕ) (i : ℕ) → i < length l → set l i (get_or l i 0) ≡ l
set_word [] i h = absurd (omega arith)
set_word (x ∷ xs) zero h = refl
set_word (x ∷ xs) (suc i) h = ap (λ l. x ∷ l) (set_word xs i (omega arith))

pub total_set : (f : View → ℕ) (vs : List View) (i : ℕ) (v w : View) → get_elem? vs i ≡ some v → total f (set vs i w) + f v ≡ total f vs + f w
total_set f [] i v w e = absurd (some-ne-none v (sym e))
total_set f (x ∷ xs) zero v w e = let h : f x ≡ f v = ap f (some-injective x v e) in omega arith
total_set f (x ∷ xs) (suc i) v w e = let h = total_set f xs i v w e in omega arith

pub total_push : (f : View → ℕ) (vs : List View) (w : View) → total f (vs ++ w ∷ []) ≡ total f vs + f w
total_push f [] w = omega arith
total_push f (x ∷ xs) w = let h = total_push f xs w in omega arith

pub total_le : (f g : View → ℕ) (vs : List View) → ((i : ℕ) (v : View) → get_elem? vs i ≡ some v → f v ≤ g v) → total f vs ≤ total g vs
total_le f g [] h = le_refl 0
total_le f g (x ∷ xs) h = let a = h 0 x refl in let b = total_le f g xs (λ i v e. h (suc i) v e) in omega arith

pub total_one : (f : View → ℕ) (vs : List View) (i : ℕ) (v : View) → get_elem? vs i ≡ some v → f v ≤ total f vs
total_one f [] i v e = absurd (some-ne-none v (sym e))
total_one f (x ∷ xs) zero v e = let h : f x ≡ f v = ap f (some-injective x v e) in omega arith
total_one f (x ∷ xs) (suc i) v e = let h = total_one f xs i v e in omega arith

pub total_two : (f : View → ℕ) (vs : List View) (i j : ℕ) (v w : View) → i ≢ j → get_elem? vs i ≡ some v → get_elem? vs j ≡ some w → f v + f w ≤ total f vs
total_two f [] i j v w ne e d = absurd (some-ne-none v (sym e))
total_two f (x ∷ xs) zero zero v w ne e d = absurd (ne refl)
total_two f (x ∷ xs) zero (suc j) v w ne e d = let h : f x ≡ f v = ap f (some-injective x v e) in let k = total_one f xs j w d in omega arith
total_two f (x ∷ xs) (suc i) zero v w ne e d = let h : f x ≡ f w = ap f (some-injective x w d) in let k = total_one f xs i v e in omega arith
total_two f (x ∷ xs) (suc i) (suc j) v w ne e d = let h = total_two f xs i j v w (λ same. ne (ap suc same)) e d in omega arith

pub waits_le : (o : Option ℕ) (l : ℕ) → ((t : ℕ) → o ≡ Some t → 0 < l) → one_if_some o ≤ l
waits_le None l h = omega arith
waits_le (Some t) l h = let p = h t refl in omega arith

pub length_parts : (n k : ℕ) (x : Sight) → length (parts_from n k x) ≡ n
length_parts zero k x = refl
length_parts (suc n) k x = let h = length_parts n (k + 1) x in omega arith

pub each_part_from : (P : Part → Type 0) (n k : ℕ) (x : Sight) → ((j : ℕ) → k ≤ j → P (part j x)) → Each P (parts_from n k x)
each_part_from P zero k x h = tt
each_part_from P (suc n) k x h = (h k (le_refl k), each_part_from P n (k + 1) x (λ j l. h j (omega arith)))

pub agrees_refl : (k : ℕ) (x : Sight) → AreInAgreement k x x
agrees_refl k x = record { own_entries = refl; own_hands = refl; begins = ([], refl); reason = λ r e. e; fixed = refl }

-- what another seat does inside leaves a seat's knowledge true
pub moved : (j k : ℕ) (seen old new : Sight) → j ≢ k → IsLawfulChange k old new → AreInAgreement j old seen → AreInAgreement j new seen
moved j k seen old new other m a = let es = m.appended in record {
  own_entries = ap (own j) es.1 ∙ (filter-append (λ (e : Turn). eqb e.site j) es.0 old.entries ∙ (ap (λ l. l ++ own j old.entries) (es.2 j other) ∙ a.own_entries));
  own_hands = m.other_hands j other ∙ a.own_hands;
  begins = (es.0 ++ a.begins.0, es.1 ∙ (ap (λ l. es.0 ++ l) a.begins.1 ∙ sym (append_assoc es.0 a.begins.0 seen.entries)));
  reason = λ r e. m.reason r (a.reason r e);
  fixed = m.fixed ∙ a.fixed;
}

-- to do nothing is a lawful move
pub stays : (k : ℕ) (x : Sight) → IsLawfulChange k x x
stays k x = record { appended = ([], refl, λ j ne. refl); other_hands = λ j ne. refl; reason = λ r e. e; fixed = refl }
