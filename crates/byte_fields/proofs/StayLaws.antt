-- The first fault of bytes stays where what stands behind its place changes.
use Rattle.std.proofs.Common.{◌≡◌, ◌≢◌, ℕ, zero, suc, ◌+◌, ◌-◌, ◌*◌, ◌<◌, ◌≤◌, true, List, [], ◌∷◌, ◌++◌, length, take, drop, refl, sym, ap, subst, ◌∙◌, append_assoc, arith, ◌⊎◌, inl, inr}
use Rattle.std.specs.Char.{is_ascii_digit}
use Rattle.std.specs.List.{list_all, flat_map}
use Rattle.std.proofs.lemmas.Bool.{and_parts, and_from, cases_eq, cases_lt}
use Rattle.std.proofs.lemmas.List.{length-append, take-append-drop}
use Rattle.std.proofs.lemmas.List.Folds.{list_all-append}
use Rattle.byte_fields.specs.declared.fault.FileFault.{FileFault}
use Rattle.byte_fields.specs.declared.fault.FileFault.TheVariants.{Bad}
use Rattle.byte_fields.specs.Field.{Field, ◌then◌, part_field}
use Rattle.byte_fields.specs.Text.{IsOtherWord, ◌after◌, IsNoDigit, IsOutside, IsBadNumeral, number, value_after, value_of, zero_fault, line, bytes_of, BeginsWith, EachEnds, many}
use Rattle.byte_fields.specs.TextReading.{digit_count}
use Rattle.byte_fields.specs.Laws.{Stays, IsSteady}
use Rattle.byte_fields.proofs.FrontLaws.{front_passes, front_ends}
use Rattle.byte_fields.proofs.NumberLaws.{AreDigits}
use Rattle.byte_fields.proofs.LoopLaws.{grows}

-- ---- lists

pub bad_is : (i j : ℕ) → Bad i ≡ Bad j → i ≡ j
bad_is i j e = cc

tail_is : (x y : ℕ) (u v : List ℕ) → x ∷ u ≡ y ∷ v → u ≡ v
tail_is x y u v e = cc

-- of two ways to split a list the longer front begins with the shorter one
split : (a b c d : List ℕ) → a ++ b ≡ c ++ d → length c ≤ length a → (m : List ℕ) × (a ≡ c ++ m) × (d ≡ m ++ b)
split a b [] d e le = (a, refl, sym e)
split [] b (y ∷ ys) d e le = absurd (omega (arith, le))
split (x ∷ xs) b (y ∷ ys) d e le =
    let t = split xs b ys d (tail_is x y (xs ++ b) (ys ++ d) e) (omega (arith, le)) in
    let first : x ≡ y = cc e in
    (t.0, ap (λ (z : List ℕ). x ∷ z) t.1 ∙ ap (λ (k : ℕ). k ∷ (ys ++ t.0)) first, t.2)

pub some_front : (m part : List ℕ) → 0 < length part → 0 < length (m ++ part)
some_front m part some = omega (arith, some, length-append m part)

pub begins_same : (b : ℕ) (c u v : List ℕ) → 0 < length c → BeginsWith b (c ++ u) → BeginsWith b (c ++ v)
begins_same b [] u v some h = absurd (omega (arith, some))
begins_same b (x ∷ c) u v some h = h

pub stops_same : (c u v : List ℕ) → 0 < length c → IsNoDigit (c ++ u) → IsNoDigit (c ++ v)
stops_same [] u v some h = absurd (omega (arith, some))
stops_same (x ∷ c) u v some h = h

-- bytes behind which others may stand, in two parts
pub regrouped : (rest m tail part r : List ℕ) → rest ≡ m ++ tail → tail ≡ part ++ r → rest ≡ (m ++ part) ++ r
regrouped rest m tail part r e d = e ∙ ap (λ (z : List ℕ). m ++ z) d ∙ sym (append_assoc m part r)

-- a value still ends there
still_ends : {X : Type 0} (F : Field FileFault X) → IsSteady F → (x : X) (rest m tail part r other : List ℕ) → rest ≡ m ++ tail → tail ≡ part ++ r → 0 < length part → F.Ends x rest → F.Ends x (m ++ (part ++ other))
still_ends F s x rest m tail part r other e d some h =
    subst (λ (z : List ℕ). F.Ends x z) (append_assoc m part other)
    (s.ends x (m ++ part) r other (some_front m part some) (subst (λ (z : List ℕ). F.Ends x z) (regrouped rest m tail part r e d) h))

-- ---- words

word_low : (word : List ℕ) (at : ℕ) (bytes : List ℕ) (f : FileFault) (k : ℕ) → IsOtherWord word at bytes f → f ≡ Bad k → at ≤ k
word_low [] at bytes f k h e = absurd h
word_low (c ∷ word) at [] f k h e = let same = bad_is at k (sym h ∙ e) in omega (arith, same)
word_low (c ∷ word) at (b ∷ bytes) f k (inl h) e = let same = bad_is at k (sym h.1 ∙ e) in omega (arith, same)
word_low (c ∷ word) at (b ∷ bytes) f k (inr h) e = let more = word_low word (at + 1) bytes f k h.1 e in omega (arith, more)

word_stays : (word : List ℕ) (at : ℕ) (bytes front tail : List ℕ) (f : FileFault) → IsOtherWord word at bytes f → f ≡ Bad (at + length front) → bytes ≡ front ++ tail → 0 < length tail
    → (b : ℕ) × (rest : List ℕ) × (tail ≡ b ∷ rest) × ((other : List ℕ) → IsOtherWord word at (front ++ b ∷ other) f)
word_stays [] at bytes front tail f h e parts some = absurd h
word_stays (c ∷ word) at [] front tail f h e parts some = absurd (omega (arith, some, ap (λ (z : List ℕ). length z) parts, length-append front tail))
word_stays (c ∷ word) at (b ∷ bytes) [] tail f (inl h) e parts some = (b, bytes, sym parts, λ other. inl (h.0, h.1))
word_stays (c ∷ word) at (b ∷ bytes) (y ∷ ys) tail f (inl h) e parts some =
    let same = bad_is at (at + length (y ∷ ys)) (sym h.1 ∙ e) in absurd (omega (arith, same))
word_stays (c ∷ word) at (b ∷ bytes) [] tail f (inr h) e parts some =
    let more = word_low word (at + 1) bytes f (at + 0) h.1 e in absurd (omega (arith, more))
word_stays (c ∷ word) at (b ∷ bytes) (y ∷ ys) tail f (inr h) e parts some =
    let place : at + length (y ∷ ys) ≡ (at + 1) + length ys = omega arith in
    let t = word_stays word (at + 1) bytes ys tail f h.1 (e ∙ ap (λ (n : ℕ). Bad n) place) (tail_is b y bytes (ys ++ tail) parts) some in
    let first : b ≡ y = cc parts in
    (t.0, t.1, t.2, λ other. inr (sym first ∙ h.0, t.3 other))

pub after_steady : {X : Type 0} (word : List ℕ) (F : Field FileFault X) → IsSteady F → IsSteady (word after F)
after_steady {X = X} word F s = record { low = low; ends = s.ends; stays = stays }
  where
    low : (at : ℕ) (bytes : List ℕ) (f : FileFault) (k : ℕ) → (word after F).Fault at bytes f → f ≡ Bad k → at ≤ k
    low at bytes f k (inl h) e = word_low word at bytes f k h e
    low at bytes f k (inr h) e = let more = s.low (at + length word) h.0 f k h.2 e in omega (arith, more)

    stays : (at : ℕ) (bytes front tail : List ℕ) (f : FileFault) → (word after F).Fault at bytes f → f ≡ Bad (at + length front) → bytes ≡ front ++ tail → 0 < length tail → Stays (word after F) at front tail f
    stays at bytes front tail f (inl h) e parts some =
        let t = word_stays word at bytes front tail f h e parts some in
        (t.0 ∷ [], t.1, t.2, omega arith, inl refl, λ other. inl (t.3 other))
    stays at bytes front tail f (inr h) e parts some =
        let under = s.low (at + length word) h.0 f (at + length front) h.2 e in
        let m = split front tail word h.0 (sym parts ∙ h.1) (omega (arith, under)) in
        let place : at + length front ≡ (at + length word) + length m.0 = omega (arith, ap (λ (z : List ℕ). length z) m.1, length-append word m.0) in
        let t = s.stays (at + length word) h.0 m.0 tail f h.2 (e ∙ ap (λ (n : ℕ). Bad n) place) m.2 some in
        (t.0, t.1, t.2, t.3, t.4, λ other. inr (m.0 ++ (t.0 ++ other), ap (λ (z : List ℕ). z ++ (t.0 ++ other)) m.1 ∙ append_assoc word m.0 (t.0 ++ other), t.5 other))

-- ---- one after another, and a value made of a part

pub then_steady : {X Y : Type 0} (F : Field FileFault X) (G : X → Field FileFault Y) → IsSteady F → ((x : X) → IsSteady (G x)) → IsSteady (F then G)
then_steady {X = X} {Y = Y} F G s t = record { low = low; ends = ends; stays = stays }
  where
    low : (at : ℕ) (bytes : List ℕ) (f : FileFault) (k : ℕ) → (F then G).Fault at bytes f → f ≡ Bad k → at ≤ k
    low at bytes f k (inl h) e = s.low at bytes f k h e
    low at bytes f k (inr h) e = let more = (t h.0).low (at + length (F.spelling h.0)) h.1 f k h.5 e in omega (arith, more)

    ends : (p : X × Y) (c u v : List ℕ) → 0 < length c → (F then G).Ends p (c ++ u) → (F then G).Ends p (c ++ v)
    ends p c u v some h =
        let second = (G p.0).spelling p.1 in
        (still_ends F s p.0 (second ++ (c ++ u)) second (c ++ u) c u v refl refl some h.0, (t p.0).ends p.1 c u v some h.1)

    stays : (at : ℕ) (bytes front tail : List ℕ) (f : FileFault) → (F then G).Fault at bytes f → f ≡ Bad (at + length front) → bytes ≡ front ++ tail → 0 < length tail → Stays (F then G) at front tail f
    stays at bytes front tail f (inl h) e parts some =
        let q = s.stays at bytes front tail f h e parts some in
        (q.0, q.1, q.2, q.3, q.4, λ other. inl (q.5 other))
    stays at bytes front tail f (inr h) e parts some =
        let first = F.spelling h.0 in
        let under = (t h.0).low (at + length first) h.1 f (at + length front) h.5 e in
        let m = split front tail first h.1 (sym parts ∙ h.3) (omega (arith, under)) in
        let place : at + length front ≡ (at + length first) + length m.0 = omega (arith, ap (λ (z : List ℕ). length z) m.1, length-append first m.0) in
        let q = (t h.0).stays (at + length first) h.1 m.0 tail f h.5 (e ∙ ap (λ (n : ℕ). Bad n) place) m.2 some in (
          q.0,
          q.1,
          q.2,
          q.3,
          q.4,
          λ other. inr (
            h.0,
            m.0 ++ (q.0 ++ other),
            h.2,
            ap (λ (z : List ℕ). z ++ (q.0 ++ other)) m.1 ∙ append_assoc first m.0 (q.0 ++ other),
            still_ends F s h.0 h.1 m.0 tail q.0 q.1 other m.2 q.2 q.3 h.4,
            q.5 other,
          ),
        )

pub part_steady : {X Y : Type 0} (part : X → Y) (F : Field FileFault Y) → IsSteady F → IsSteady (part_field part F)
part_steady part F s = record { low = s.low; ends = λ x c u v some h. s.ends (part x) c u v some h; stays = s.stays }

-- ---- bytes

pub line_steady : IsSteady line
line_steady = record {
  low = λ at bytes f k h e. (let same = bad_is (at + length bytes) k (sym h.1 ∙ e) in omega (arith, same));
  ends = λ x c u v some h. tt;
  stays = λ at bytes front tail f h e parts some.
      (let same = bad_is (at + length bytes) (at + length front) (sym h.1 ∙ e) in absurd (omega (arith, same, some, ap (λ (z : List ℕ). length z) parts, length-append front tail)));
}

pub bytes_steady : (n : ℕ) → IsSteady (bytes_of n)
bytes_steady n = record {
  low = λ at bytes f k h e. (let same = bad_is (at + length bytes) k (sym h.1 ∙ e) in omega (arith, same));
  ends = λ x c u v some h. tt;
  stays = λ at bytes front tail f h e parts some.
      (let same = bad_is (at + length bytes) (at + length front) (sym h.1 ∙ e) in absurd (omega (arith, same, some, ap (λ (z : List ℕ). length z) parts, length-append front tail)));
}

-- ---- numbers

zero_low : (least at k : ℕ) → zero_fault least at ≡ Bad k → at ≤ k
zero_low zero at k e = let same = bad_is (at + 1) k e in omega (arith, same)
zero_low (suc least) at k e = let same = bad_is at k e in omega (arith, same)

numeral_low : (least most at : ℕ) (digits : List ℕ) (f : FileFault) (k : ℕ) → IsBadNumeral least most at digits f → f ≡ Bad k → at ≤ k
numeral_low least most at [] f k h e = let same = bad_is at k (sym h ∙ e) in omega (arith, same)
numeral_low least most at (c ∷ []) f k h e = let same = bad_is at k (sym h.1 ∙ e) in omega (arith, same)
numeral_low least most at (c ∷ d ∷ ds) f k (inl h) e = zero_low least at k (sym h.1 ∙ e)
numeral_low least most at (c ∷ d ∷ ds) f k (inr h) e = let same = bad_is at k (sym h.1.1 ∙ e) in omega (arith, same)

-- digits, and whatever comes behind them
digits_go_on : (least most at : ℕ) (ds other : List ℕ) (f : FileFault) → AreDigits ds → ((more : List ℕ) → IsBadNumeral least most at (ds ++ more) f) → (number least most).Fault at (ds ++ other) f
digits_go_on least most at ds other f all h =
    let n = digit_count other in
    let more = take n other in
    let rest = drop n other in (
      ds ++ more,
      rest,
      ap (λ (z : List ℕ). ds ++ z) (sym (take-append-drop n other)) ∙ sym (append_assoc ds more rest),
      list_all-append is_ascii_digit ds more ∙ and_from (list_all is_ascii_digit ds) (list_all is_ascii_digit more) all (front_passes is_ascii_digit other),
      front_ends is_ascii_digit other,
      h more,
    )

value_append : (n : ℕ) (ds more : List ℕ) → value_after n (ds ++ more) ≡ value_after (value_after n ds) more
value_append n [] more = refl
value_append n (d ∷ ds) more = value_append (10 * n + (d - 48)) ds more

-- a number whose first digit is no 0 is 1 at least, and no less with more digits
first_counts : (c : ℕ) (ds more : List ℕ) → is_ascii_digit c ≡ true → c ≢ 48 → (1 ≤ value_of (c ∷ ds)) × (value_of (c ∷ ds) ≤ value_of (c ∷ (ds ++ more)))
first_counts c ds more digit other =
    let one = grows ds (10 * 0 + (c - 48)) in
    let above : 48 < c = grind (arith, digit, other) in
    let longer = grows more (value_of (c ∷ ds)) in
    (omega (arith, one, above), omega (arith, longer, value_append (10 * 0 + (c - 48)) ds more))

outside_more : (least most at c : ℕ) (ds more : List ℕ) (f : FileFault) → least ≤ 1 → is_ascii_digit c ≡ true → c ≢ 48 → IsOutside least most (value_of (c ∷ ds)) at f → IsOutside least most (value_of (c ∷ (ds ++ more))) at f
outside_more least most at c ds more f low digit other h =
    let n = first_counts c ds more digit other in
    (λ w. h.0 (omega (arith, low, n.0), omega (arith, n.1, w.1)), h.1)

outside_bad : (least most at c : ℕ) (ds : List ℕ) (f : FileFault) → c ≢ 48 → IsOutside least most (value_of (c ∷ ds)) at f → IsBadNumeral least most at (c ∷ ds) f
outside_bad least most at c [] f other h = h
outside_bad least most at c (d ∷ ds) f other h = inr (other, h)

no_zero : (c : ℕ) (ds : List ℕ) → c ≢ 48 → BeginsWith 48 (c ∷ ds) → ⊥
no_zero c ds other h = other h

first_digit : (c : ℕ) (ds : List ℕ) → AreDigits (c ∷ ds) → is_ascii_digit c ≡ true
first_digit c ds all = (and_parts (is_ascii_digit c) (list_all is_ascii_digit ds) all).0

-- a number out of range that begins with no 0
number_outside : (least most at c : ℕ) (ds rest tail : List ℕ) (f : FileFault) → least ≤ 1 → c ≢ 48 → AreDigits (c ∷ ds) → IsNoDigit rest → IsOutside least most (value_of (c ∷ ds)) at f → (c ∷ ds) ++ rest ≡ tail
    → Stays (number least most) at [] tail f
number_outside least most at c ds rest tail f low other all none h parts =
    let digit = first_digit c ds all in (
      c ∷ ds,
      rest,
      sym parts,
      omega arith,
      inr (omega arith, all, none, no_zero c ds other),
      λ more. digits_go_on least most at (c ∷ ds) more f all (λ ms. outside_bad least most at c (ds ++ ms) f other (outside_more least most at c ds ms f low digit other h)),
    )

-- a 0 that is out of range, whatever comes behind it
zero_bad : (least most at c : ℕ) (more : List ℕ) (f : FileFault) → c ≡ 48 → f ≡ Bad at → 0 < least → IsBadNumeral least most at (c ∷ more) f
zero_bad zero most at c more f e h low = absurd (omega (arith, low))
zero_bad (suc least) most at c [] f e h low =
    let none : value_of (c ∷ []) ≡ 0 = omega (arith, e) in
    (λ w. omega (arith, w.0, none), h)
zero_bad (suc least) most at c (d ∷ ds) f e h low = inl (e, h)

zero_outside : (least most at c : ℕ) (behind tail : List ℕ) (f : FileFault) → c ≡ 48 → f ≡ Bad at → 0 < least → is_ascii_digit c ≡ true → c ∷ behind ≡ tail → Stays (number least most) at [] tail f
zero_outside least most at c behind tail f e h low digit parts = (
  c ∷ [],
  behind,
  sym parts,
  omega arith,
  inl refl,
  λ more. digits_go_on least most at (c ∷ []) more f (rw digit refl) (λ ms. zero_bad least most at c ms f e h low),
)

-- one digit out of range
single : (least most at c : ℕ) (rest tail : List ℕ) (f : FileFault) → least ≤ 1 → AreDigits (c ∷ []) → IsNoDigit rest → IsOutside least most (value_of (c ∷ [])) at f → (c ∷ []) ++ rest ≡ tail
    → Stays (number least most) at [] tail f
single least most at c rest tail f low all none h parts = elim (cases_eq c 48) [
  | inr other ↦ number_outside least most at c [] rest tail f low other all none h parts
  | inl e ↦
      let value : value_of (c ∷ []) ≡ 0 = omega (arith, e) in
      zero_outside least most at c rest tail f e h.1 (above (cases_lt 0 least) value) (first_digit c [] all) parts
]
  where
    above : (0 < least) ⊎ (least ≤ 0) → value_of (c ∷ []) ≡ 0 → 0 < least
    above (inl lt) value = lt
    above (inr le) value = absurd (h.0 (omega (arith, le), omega (arith, value)))

-- a 0 before other digits
leading : (least most at c d : ℕ) (ds rest front tail : List ℕ) (f : FileFault) → AreDigits (c ∷ d ∷ ds) → c ≡ 48 → f ≡ zero_fault least at → f ≡ Bad (at + length front) → (c ∷ d ∷ ds) ++ rest ≡ front ++ tail
    → Stays (number least most) at front tail f
leading zero most at c d ds rest [] tail f all zero_first h e parts = let same = bad_is (at + 1) (at + 0) (sym h ∙ e) in absurd (omega (arith, same))
leading zero most at c d ds rest (y ∷ []) tail f all zero_first h e parts =
    let first : c ≡ y = cc parts in
    let two = and_parts (is_ascii_digit c) (list_all is_ascii_digit (d ∷ ds)) all in
    let second = first_digit d ds two.1 in (
      d ∷ [],
      ds ++ rest,
      sym (tail_is c y (d ∷ (ds ++ rest)) tail parts),
      omega arith,
      inl refl,
      λ more. subst (λ (k : ℕ). (number zero most).Fault at (k ∷ d ∷ more) f) first (digits_go_on zero most at (c ∷ d ∷ []) more f (and_from (is_ascii_digit c) (list_all is_ascii_digit (d ∷ [])) two.0 (rw second refl)) (λ ms. inl (zero_first, h))),
    )
leading zero most at c d ds rest (y ∷ z ∷ zs) tail f all zero_first h e parts = let same = bad_is (at + 1) (at + length (y ∷ z ∷ zs)) (sym h ∙ e) in absurd (omega (arith, same))
leading (suc least) most at c d ds rest [] tail f all zero_first h e parts = zero_outside (suc least) most at c (d ∷ (ds ++ rest)) tail f zero_first h (omega arith) (first_digit c (d ∷ ds) all) parts
leading (suc least) most at c d ds rest (y ∷ ys) tail f all zero_first h e parts = let same = bad_is at (at + length (y ∷ ys)) (sym h ∙ e) in absurd (omega (arith, same))

no_digits : (least most at : ℕ) (rest tail : List ℕ) (f : FileFault) → IsNoDigit rest → f ≡ Bad at → rest ≡ tail → 0 < length tail → Stays (number least most) at [] tail f
no_digits least most at [] tail f none h parts some = absurd (omega (arith, some, ap (λ (z : List ℕ). length z) parts))
no_digits least most at (b ∷ rest) tail f none h parts some = (b ∷ [], rest, sym parts, omega arith, inl refl, λ other. ([], b ∷ other, refl, refl, none, h))

number_stays : (least most at : ℕ) (digits rest front tail : List ℕ) (f : FileFault) → least ≤ 1 → AreDigits digits → IsNoDigit rest → IsBadNumeral least most at digits f → f ≡ Bad (at + length front) → digits ++ rest ≡ front ++ tail
    → 0 < length tail → Stays (number least most) at front tail f
number_stays least most at [] rest [] tail f low all none h e parts some = no_digits least most at rest tail f none h parts some
number_stays least most at [] rest (y ∷ ys) tail f low all none h e parts some = let same = bad_is at (at + length (y ∷ ys)) (sym h ∙ e) in absurd (omega (arith, same))
number_stays least most at (c ∷ []) rest [] tail f low all none h e parts some = single least most at c rest tail f low all none h parts
number_stays least most at (c ∷ []) rest (y ∷ ys) tail f low all none h e parts some = let same = bad_is at (at + length (y ∷ ys)) (sym h.1 ∙ e) in absurd (omega (arith, same))
number_stays least most at (c ∷ d ∷ ds) rest front tail f low all none (inl h) e parts some = leading least most at c d ds rest front tail f all h.0 h.1 e parts
number_stays least most at (c ∷ d ∷ ds) rest [] tail f low all none (inr h) e parts some = number_outside least most at c (d ∷ ds) rest tail f low h.0 all none h.1 parts
number_stays least most at (c ∷ d ∷ ds) rest (y ∷ ys) tail f low all none (inr h) e parts some = let same = bad_is at (at + length (y ∷ ys)) (sym h.1.1 ∙ e) in absurd (omega (arith, same))

pub number_steady : (least most : ℕ) → least ≤ 1 → IsSteady (number least most)
number_steady least most small = record {
  low = λ at bytes f k h e. numeral_low least most at h.0 f k h.5 e;
  ends = λ x c u v some h. stops_same c u v some h;
  stays = λ at bytes front tail f h e parts some. number_stays least most at h.0 h.1 front tail f small h.3 h.4 h.5 e (sym h.2 ∙ parts) some;
}

-- ---- items one after another

pub many_steady : {X : Type 0} (c : ℕ) (item : Field FileFault X) (behind : List X → Field FileFault X) → IsSteady item → ((front : List X) → IsSteady (behind front)) → IsSteady (many c item behind)
many_steady {X = X} c item behind s t = record {
  low = λ at bytes f k h e. (let more = (t h.0).low (at + length (flat_map item.spelling h.0)) h.1 f k h.6 e in omega (arith, more));
  ends = λ xs d u v some h. (each_ends xs d u v some h.0, λ k. h.1 (begins_same c d v u some k));
  stays = stays;
}
  where
    each_ends : (xs : List X) (d u v : List ℕ) → 0 < length d → EachEnds item xs (d ++ u) → EachEnds item xs (d ++ v)
    each_ends [] d u v some h = tt
    each_ends (x ∷ xs) d u v some h =
        let others = flat_map item.spelling xs in
        (still_ends item s x (others ++ (d ++ u)) others (d ++ u) d u v refl refl some h.0, each_ends xs d u v some h.1)

    stays : (at : ℕ) (bytes front tail : List ℕ) (f : FileFault) → (many c item behind).Fault at bytes f → f ≡ Bad (at + length front) → bytes ≡ front ++ tail → 0 < length tail → Stays (many c item behind) at front tail f
    stays at bytes front tail f h e parts some =
        let first = flat_map item.spelling h.0 in
        let under = (t h.0).low (at + length first) h.1 f (at + length front) h.6 e in
        let m = split front tail first h.1 (sym parts ∙ h.3) (omega (arith, under)) in
        let place : at + length front ≡ (at + length first) + length m.0 = omega (arith, ap (λ (z : List ℕ). length z) m.1, length-append first m.0) in
        let q = (t h.0).stays (at + length first) h.1 m.0 tail f h.6 (e ∙ ap (λ (n : ℕ). Bad n) place) m.2 some in
        let whole = regrouped h.1 m.0 tail q.0 q.1 m.2 q.2 in
        let begun : (other : List ℕ) → BeginsWith c (m.0 ++ (q.0 ++ other)) =
        λ other. subst (λ (z : List ℕ). BeginsWith c z) (append_assoc m.0 q.0 other) (begins_same c (m.0 ++ q.0) q.1 other (some_front m.0 q.0 q.3) (subst (λ (z : List ℕ). BeginsWith c z) whole h.5)) in
        let ended : (other : List ℕ) → EachEnds item h.0 (m.0 ++ (q.0 ++ other)) =
        λ other. subst (λ (z : List ℕ). EachEnds item h.0 z) (append_assoc m.0 q.0 other) (each_ends h.0 (m.0 ++ q.0) q.1 other (some_front m.0 q.0 q.3) (subst (λ (z : List ℕ). EachEnds item h.0 z) whole h.4)) in (
          q.0,
          q.1,
          q.2,
          q.3,
          q.4,
          λ other. (
            h.0,
            m.0 ++ (q.0 ++ other),
            h.2,
            ap (λ (z : List ℕ). z ++ (q.0 ++ other)) m.1 ∙ append_assoc first m.0 (q.0 ++ other),
            ended other,
            begun other,
            q.5 other,
          ),
        )
