-- What the reader's loops keep.
use Rattle.std.proofs.Common.{◌≡◌, ℕ, zero, suc, ◌+◌, ◌-◌, ◌*◌, ◌<◌, ◌≤◌, Bool, true, false, cond, eqb, List, [], ◌∷◌, ◌++◌, length, drop, get_or, drop-cons, add-one, Ok, Err, refl, sym, ap, ◌∙◌, arith, ◌⊎◌, inl, inr}
use Rattle.std.specs.Prelude.{nat_le}
use Rattle.std.proofs.Math.ListN.{drop_of_length-le}
use Rattle.byte_fields.specs.declared.fault.FileFault.{FileFault}
use Rattle.byte_fields.specs.declared.fault.FileFault.TheVariants.{Bad, Memory}
use Rattle.byte_fields.specs.Text.{value_after}
use Rattle.byte_fields.specs.Reading.{Left, Read, ◌>>=◌}
use Rattle.byte_fields.specs.TextReading.{word_at, begins_with, items_at, many_at}
use Rattle.byte_fields.proofs.ResultLaws.{done, ok_is, no_err, no_ok, chosen}

-- ---- numbers

pub grows : (digits : List ℕ) (n : ℕ) → n ≤ value_after n digits
grows [] n = omega arith
grows (c ∷ cs) n = let h = grows cs (10 * n + (c - 48)) in omega arith

-- a digit more, behind those before it
pub value_step : (digits : List ℕ) (i n d whole : ℕ) → i < length digits → value_after n (drop i digits) ≡ whole → value_after (10 * n + (get_or digits i d - 48)) (drop (i + 1) digits) ≡ whole
value_step digits i n d whole lt e =
    ap (λ (k : ℕ). value_after (10 * n + (get_or digits i d - 48)) (drop k digits)) (add-one i) ∙ sym (ap (λ (z : List ℕ). value_after n z) (drop-cons digits i d lt)) ∙ e

pub too_large : (digits : List ℕ) (i n d most whole : ℕ) → i < length digits → value_after n (drop i digits) ≡ whole → most < 10 * n + (get_or digits i d - 48) → nat_le whole most ≡ false
too_large digits i n d most whole lt e large =
    let step = value_step digits i n d whole lt e in
    let h = grows (drop (i + 1) digits) (10 * n + (get_or digits i d - 48)) in
    let above : most < whole = omega (arith, step, h, large) in
    grind (arith, above)

-- ---- words

-- a byte of a word, and then the others
pub word_step : (word : List ℕ) (i d : ℕ) (l m : Left) (total : Read FileFault (Unit {0})) → i < length word → word_at (get_or word i d ∷ []) l ≡ Ok (tt, m)
    → word_at (drop i word) l ≡ total → word_at (drop (i + 1) word) m ≡ total
unfolding word_at
word_step word i d (at, []) m total lt e so_far = absurd (no_ok (tt, m) (Bad at) e)
word_step word i d (at, b ∷ bytes) m total lt e so_far =
    let c = get_or word i d in
    elim (chosen (eqb b c) (done (tt, (at + 1, bytes))) (Err (Bad at)) (Ok (tt, m)) e) [
      | inr h ↦ absurd (no_ok (tt, m) (Bad at) h.1)
      | inl h ↦
          let left : (at + 1, bytes) ≡ m = ap (λ (q : Unit {0} × Left). q.1) (ok_is (tt, (at + 1, bytes)) (tt, m) h.1) in
          ap (λ (k : ℕ). word_at (drop k word) m) (add-one i) ∙ ap (λ (q : Left). word_at (drop (suc i) word) q) (sym left)
          ∙ sym (ap (λ (t : Bool). cond t (word_at (drop (suc i) word) (at + 1, bytes)) (Err (Bad at))) h.0)
          ∙ sym (ap (λ (z : List ℕ). word_at z (at, b ∷ bytes)) (drop-cons word i d lt)) ∙ so_far
    ]

-- a byte that is not there
pub word_stop : (word : List ℕ) (i d : ℕ) (l : Left) (f : FileFault) (total : Read FileFault (Unit {0})) → i < length word → (f ≡ Memory) ⊎ (word_at (get_or word i d ∷ []) l ≡ Err f)
    → word_at (drop i word) l ≡ total → (f ≡ Memory) ⊎ (total ≡ Err f)
unfolding word_at
word_stop word i d l f total lt (inl e) so_far = inl e
word_stop word i d (at, []) f total lt (inr e) so_far =
    inr (sym so_far ∙ ap (λ (z : List ℕ). word_at z (at, [])) (drop-cons word i d lt) ∙ e)
word_stop word i d (at, b ∷ bytes) f total lt (inr e) so_far =
    let c = get_or word i d in
    elim (chosen (eqb b c) (done (tt, (at + 1, bytes))) (Err (Bad at)) (Err f) e) [
      | inl h ↦ absurd (no_err (tt, (at + 1, bytes)) f h.1)
      | inr h ↦
          inr (sym so_far ∙ ap (λ (z : List ℕ). word_at z (at, b ∷ bytes)) (drop-cons word i d lt)
          ∙ ap (λ (t : Bool). cond t (word_at (drop (suc i) word) (at + 1, bytes)) (Err (Bad at))) h.0 ∙ h.1)
    ]

pub word_done : (word : List ℕ) (i : ℕ) (l : Left) (total : Read FileFault (Unit {0})) → length word ≤ i → word_at (drop i word) l ≡ total → total ≡ Ok (tt, l)
unfolding word_at
word_done word i l total le so_far = sym so_far ∙ ap (λ (z : List ℕ). word_at z l) (drop_of_length-le word le)

-- ---- items

-- these items were read, and reading goes on here
abbrev pub InItems : {X : Type 0} → ℕ → (List X → Left → Read FileFault X) → Read FileFault (List X) → List X → Left → Type 0
InItems c item total front l = (n : ℕ) × (length l.1 < n) × (items_at n c item front l ≡ total)

pub items_begin : {X : Type 0} (c : ℕ) (item : List X → Left → Read FileFault X) (l : Left) → InItems c item (many_at c item l) [] l
unfolding many_at
items_begin c item l = (suc (length l.1), omega arith, refl)

pub items_step : {X : Type 0} (c : ℕ) (item : List X → Left → Read FileFault X) (total : Read FileFault (List X)) (front : List X) (l : Left) (x : X) (m : Left) → begins_with c l.1 ≡ true
    → item front l ≡ Ok (x, m) → length m.1 < length l.1 → InItems c item total front l → InItems c item total (front ++ x ∷ []) m
unfolding items_at
items_step c item total front l x m here h shorter (zero, low, so_far) = absurd (omega (arith, low))
items_step c item total front l x m here h shorter (suc n, low, so_far) =
    let one : items_at (suc n) c item front l ≡ items_at n c item (front ++ x ∷ []) m =
    ap (λ (b : Bool). cond b (item front l >>= λ r. items_at n c item (front ++ r.0 ∷ []) r.1) (Ok (front, l))) here
    ∙ ap (λ (a : Read FileFault _). a >>= λ r. items_at n c item (front ++ r.0 ∷ []) r.1) h in
    (n, omega (arith, low, shorter), sym one ∙ so_far)

pub items_stop : {X : Type 0} (c : ℕ) (item : List X → Left → Read FileFault X) (total : Read FileFault (List X)) (front : List X) (l : Left) (f : FileFault) → begins_with c l.1 ≡ true
    → (f ≡ Memory) ⊎ (item front l ≡ Err f) → InItems c item total front l → (f ≡ Memory) ⊎ (total ≡ Err f)
unfolding items_at
items_stop c item total front l f here (inl h) p = inl h
items_stop c item total front l f here (inr h) (zero, low, so_far) = absurd (omega (arith, low))
items_stop c item total front l f here (inr h) (suc n, low, so_far) =
    let one : items_at (suc n) c item front l ≡ Err f =
    ap (λ (b : Bool). cond b (item front l >>= λ r. items_at n c item (front ++ r.0 ∷ []) r.1) (Ok (front, l))) here
    ∙ ap (λ (a : Read FileFault _). a >>= λ r. items_at n c item (front ++ r.0 ∷ []) r.1) h in
    inr (sym so_far ∙ one)

pub items_done : {X : Type 0} (c : ℕ) (item : List X → Left → Read FileFault X) (total : Read FileFault (List X)) (front : List X) (l : Left) → begins_with c l.1 ≡ false
    → InItems c item total front l → total ≡ Ok (front, l)
unfolding items_at
items_done c item total front l here (zero, low, so_far) = absurd (omega (arith, low))
items_done c item total front l here (suc n, low, so_far) =
    sym so_far ∙ ap (λ (b : Bool). cond b (item front l >>= λ r. items_at n c item (front ++ r.0 ∷ []) r.1) (Ok (front, l))) here
