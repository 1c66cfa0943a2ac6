-- The bytes before the place of a first fault begin a value of the field.
use Rattle.std.proofs.Common.{◌≡◌, ℕ, zero, suc, ◌+◌, ◌-◌, ◌≤◌, List, [], ◌∷◌, ◌++◌, length, replicate, refl, sym, ap, subst, ◌∙◌, append_assoc, arith, ◌⊎◌, inl, inr}
use Rattle.std.specs.List.{flat_map}
use Rattle.std.proofs.lemmas.Fmt.{decimal_digit}
use Rattle.std.proofs.lemmas.List.{length-append, append-nil, length-replicate}
use Rattle.std.proofs.lemmas.Grind.{flat_map-append}
use Rattle.byte_fields.specs.declared.fault.FileFault.{FileFault}
use Rattle.byte_fields.specs.declared.fault.FileFault.TheVariants.{Bad}
use Rattle.byte_fields.specs.Field.{Field, ◌then◌, part_field, EachBehind}
use Rattle.byte_fields.specs.Text.{IsOtherWord, ◌after◌, IsBadNumeral, number, zero_fault, line, bytes_of, many}
use Rattle.byte_fields.specs.Laws.{Begins, Opens, IsOpen, AreOpen}

-- where a value is known the front of any begins one
pub begun : {X : Type 0} (F : Field FileFault X) → IsOpen F → (front : List ℕ) → (front ≡ []) ⊎ Begins F front → Begins F front
begun F o front (inr h) = h
begun F o front (inl h) = (o.value, F.spelling o.value, o.has, ap (λ (z : List ℕ). z ++ F.spelling o.value) (sym h))

-- none, where the fault stands where the field begins
pub at_begin : {X : Type 0} (F : Field FileFault X) (at : ℕ) (bytes : List ℕ) (f : FileFault) → f ≡ Bad at → Opens F at bytes f
at_begin F at bytes f h =
    let place : at ≡ at + 0 = omega arith in
    ([], bytes, refl, h ∙ ap (λ (n : ℕ). Bad n) place, inl refl)

-- ---- words

-- the front of the word that stands
record Common (word : List ℕ) (at : ℕ) (bytes : List ℕ) (f : FileFault) : Type 0 where
  front : List ℕ
  rest : List ℕ
  more : List ℕ
  parts : bytes ≡ front ++ rest
  word_parts : word ≡ front ++ more
  place : f ≡ Bad (at + length front)

common : (word : List ℕ) (at : ℕ) (bytes : List ℕ) (f : FileFault) → IsOtherWord word at bytes f → Common word at bytes f
common [] at bytes f h = absurd h
common (c ∷ word) at [] f h =
    let place : at ≡ at + 0 = omega arith in
    record { front = []; rest = []; more = c ∷ word; parts = refl; word_parts = refl; place = h ∙ ap (λ (n : ℕ). Bad n) place }
common (c ∷ word) at (b ∷ bytes) f (inl h) =
    let place : at ≡ at + 0 = omega arith in
    record { front = []; rest = b ∷ bytes; more = c ∷ word; parts = refl; word_parts = refl; place = h.1 ∙ ap (λ (n : ℕ). Bad n) place }
common (c ∷ word) at (b ∷ bytes) f (inr h) =
    let t = common word (at + 1) bytes f h.1 in
    let place : (at + 1) + length t.front ≡ at + length (c ∷ t.front) = omega arith in
    record {
      front = c ∷ t.front;
      rest = t.rest;
      more = t.more;
      parts = ap (λ (k : ℕ). k ∷ bytes) h.0 ∙ ap (λ (z : List ℕ). c ∷ z) t.parts;
      word_parts = ap (λ (z : List ℕ). c ∷ z) t.word_parts;
      place = t.place ∙ ap (λ (n : ℕ). Bad n) place;
    }

-- what begins behind a text that stands
behind_front : (text front rest bytes tail : List ℕ) → bytes ≡ text ++ tail → tail ≡ front ++ rest → bytes ≡ (text ++ front) ++ rest
behind_front text front rest bytes tail e d = e ∙ ap (λ (z : List ℕ). text ++ z) d ∙ sym (append_assoc text front rest)

behind_place : (at : ℕ) (text front : List ℕ) (f : FileFault) → f ≡ Bad ((at + length text) + length front) → f ≡ Bad (at + length (text ++ front))
behind_place at text front f e =
    let place : (at + length text) + length front ≡ at + length (text ++ front) = omega (arith, length-append text front) in
    e ∙ ap (λ (n : ℕ). Bad n) place

pub after_open : {X : Type 0} (word : List ℕ) (F : Field FileFault X) → IsOpen F → IsOpen (word after F)
after_open {X = X} word F o = record { value = o.value; has = o.has; opens = opens }
  where
    opens : (at : ℕ) (bytes : List ℕ) (f : FileFault) → (word after F).Fault at bytes f → Opens (word after F) at bytes f
    opens at bytes f (inl h) =
        let t = common word at bytes f h in
        let text = F.spelling o.value in (
          t.front,
          t.rest,
          t.parts,
          t.place,
          inr (o.value, t.more ++ text, o.has, ap (λ (z : List ℕ). z ++ text) t.word_parts ∙ append_assoc t.front t.more text),
        )
    opens at bytes f (inr h) =
        let t = o.opens (at + length word) h.0 f h.2 in
        let x = begun F o t.0 t.4 in (
          word ++ t.0,
          t.1,
          behind_front word t.0 t.1 bytes h.0 h.1 t.2,
          behind_place at word t.0 f t.3,
          inr (x.0, x.1, x.2, ap (λ (z : List ℕ). word ++ z) x.3 ∙ sym (append_assoc word t.0 x.1)),
        )

-- ---- one after another, and a value made of a part

pub then_open : {X Y : Type 0} (F : Field FileFault X) (G : X → Field FileFault Y) → IsOpen F → ((x : X) → F.Has x → IsOpen (G x)) → IsOpen (F then G)
then_open {X = X} {Y = Y} F G o p = record { value = (o.value, (p o.value o.has).value); has = (o.has, (p o.value o.has).has); opens = opens }
  where
    -- the front of a first value begins a pair
    first : (front : List ℕ) → (front ≡ []) ⊎ Begins F front → (front ≡ []) ⊎ Begins (F then G) front
    first front (inl h) = inl h
    first front (inr h) =
        let y = p h.0 h.2 in
        let text = (G h.0).spelling y.value in
        inr ((h.0, y.value), h.1 ++ text, (h.2, y.has), ap (λ (z : List ℕ). z ++ text) h.3 ∙ append_assoc front h.1 text)

    opens : (at : ℕ) (bytes : List ℕ) (f : FileFault) → (F then G).Fault at bytes f → Opens (F then G) at bytes f
    opens at bytes f (inl h) =
        let t = o.opens at bytes f h in
        (t.0, t.1, t.2, t.3, first t.0 t.4)
    opens at bytes f (inr h) =
        let text = F.spelling h.0 in
        let q = p h.0 h.2 in
        let t = q.opens (at + length text) h.1 f h.5 in
        let y = begun (G h.0) q t.0 t.4 in (
          text ++ t.0,
          t.1,
          behind_front text t.0 t.1 bytes h.1 h.3 t.2,
          behind_place at text t.0 f t.3,
          inr ((h.0, y.0), y.1, (h.2, y.2), ap (λ (z : List ℕ). text ++ z) y.3 ∙ sym (append_assoc text t.0 y.1)),
        )

pub made_open : {X Y : Type 0} (con : Y → X) (part : X → Y) (F : Field FileFault Y) → ((y : Y) → F.Has y → part (con y) ≡ y) → IsOpen F → IsOpen (part_field part F)
made_open {X = X} {Y = Y} con part F back o = record {
  value = con o.value;
  has = subst (λ (y : Y). F.Has y) (sym (back o.value o.has)) o.has;
  opens = opens;
}
  where
    made : (front : List ℕ) → (front ≡ []) ⊎ Begins F front → (front ≡ []) ⊎ Begins (part_field part F) front
    made front (inl h) = inl h
    made front (inr h) =
        let same = sym (back h.0 h.2) in
        inr (con h.0, h.1, subst (λ (y : Y). F.Has y) same h.2, subst (λ (y : Y). F.spelling y ≡ front ++ h.1) same h.3)

    opens : (at : ℕ) (bytes : List ℕ) (f : FileFault) → F.Fault at bytes f → Opens (part_field part F) at bytes f
    opens at bytes f h =
        let t = o.opens at bytes f h in
        (t.0, t.1, t.2, t.3, made t.0 t.4)

-- ---- numbers

zero_opens : (least most at c : ℕ) (behind : List ℕ) (f : FileFault) → least ≤ most → c ≡ 48 → f ≡ zero_fault least at → Opens (number least most) at (c ∷ behind) f
zero_opens zero most at c behind f le e h = (c ∷ [], behind, refl, h, inr (0, [], (omega arith, le), decimal_digit 0 (omega arith) ∙ ap (λ (k : ℕ). k ∷ []) (sym e)))
zero_opens (suc least) most at c behind f le e h = at_begin (number (suc least) most) at (c ∷ behind) f h

numeral_opens : (least most at : ℕ) (digits rest : List ℕ) (f : FileFault) → least ≤ most → IsBadNumeral least most at digits f → Opens (number least most) at (digits ++ rest) f
numeral_opens least most at [] rest f le h = at_begin (number least most) at rest f h
numeral_opens least most at (c ∷ []) rest f le h = at_begin (number least most) at (c ∷ rest) f h.1
numeral_opens least most at (c ∷ d ∷ ds) rest f le (inl h) = zero_opens least most at c (d ∷ (ds ++ rest)) f le h.0 h.1
numeral_opens least most at (c ∷ d ∷ ds) rest f le (inr h) = at_begin (number least most) at (c ∷ d ∷ (ds ++ rest)) f h.1.1

pub number_open : (least most : ℕ) → least ≤ most → IsOpen (number least most)
number_open least most le = record {
  value = least;
  has = (omega arith, le);
  opens = λ at bytes f h. subst (λ (z : List ℕ). Opens (number least most) at z f) (sym h.2) (numeral_opens least most at h.0 h.1 f le h.5);
}

-- ---- bytes

pub line_open : IsOpen line
line_open = record {
  value = [];
  has = refl;
  opens = λ at bytes f h. (bytes, [], sym (append-nil bytes), h.1, inr (bytes, 10 ∷ [], h.0, refl));
}

pub bytes_open : (n : ℕ) → IsOpen (bytes_of n)
bytes_open n = record {
  value = replicate n 0;
  has = length-replicate {A = ℕ} n 0;
  opens = λ at bytes f h.
      (let more = replicate (n - length bytes) 0 in
      let long : length (bytes ++ more) ≡ n = omega (arith, h.0, length-append bytes more, length-replicate {A = ℕ} (n - length bytes) 0) in
      (bytes, [], sym (append-nil bytes), h.1, inr (bytes ++ more, more, long, refl)));
}

-- ---- items one after another

each_more : {X : Type 0} (behind : List X → Field FileFault X) (front xs : List X) (x : X) → EachBehind behind front xs → (behind (front ++ xs)).Has x → EachBehind behind front (xs ++ x ∷ [])
each_more behind front [] x h k = (subst (λ (ys : List _). (behind ys).Has x) (append-nil front) k, tt)
each_more behind front (y ∷ ys) x h k = (h.0, each_more behind (front ++ y ∷ []) ys x h.1 (subst (λ (zs : List _). (behind zs).Has x) (sym (append_assoc front (y ∷ []) ys)) k))

pub many_open : {X : Type 0} (c : ℕ) (item : Field FileFault X) (behind : List X → Field FileFault X) → AreOpen item behind → IsOpen (many c item behind)
many_open {X = X} c item behind are = record { value = []; has = tt; opens = opens }
  where
    all : (xs : List X) → EachBehind behind [] xs → (front : List ℕ) → (front ≡ []) ⊎ Begins (behind xs) front → Begins (many c item behind) (flat_map item.spelling xs ++ front)
    all xs each front (inl h) =
        let text = flat_map item.spelling xs in
        (xs, [], each, sym (append-nil text) ∙ ap (λ (z : List ℕ). text ++ z) (sym h) ∙ sym (append-nil (text ++ front)))
    all xs each front (inr h) =
        let text = flat_map item.spelling xs in
        let one : flat_map item.spelling (h.0 ∷ []) ≡ front ++ h.1 = append-nil (item.spelling h.0) ∙ sym (are.spelling xs h.0) ∙ h.3 in (
          xs ++ h.0 ∷ [],
          h.1,
          each_more behind [] xs h.0 each h.2,
          flat_map-append item.spelling xs (h.0 ∷ []) ∙ ap (λ (z : List ℕ). text ++ z) one ∙ sym (append_assoc text front h.1),
        )

    opens : (at : ℕ) (bytes : List ℕ) (f : FileFault) → (many c item behind).Fault at bytes f → Opens (many c item behind) at bytes f
    opens at bytes f h =
        let text = flat_map item.spelling h.0 in
        let t = are.opens h.0 (at + length text) h.1 f h.6 in (
          text ++ t.0,
          t.1,
          behind_front text t.0 t.1 bytes h.1 h.3 t.2,
          behind_place at text t.0 f t.3,
          inr (all h.0 h.2 t.0 t.4),
        )
