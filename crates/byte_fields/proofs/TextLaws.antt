-- Words, lines and counted bytes are read.
use Rattle.std.proofs.Common.{◌≡◌, ℕ, ◌+◌, ◌<◌, ◌≤◌, Bool, false, cond, eqb, List, [], ◌∷◌, ◌++◌, length, take, drop, Ok, Err, refl, sym, ap, subst, ◌∙◌, append_assoc, arith, inl, inr}
use Rattle.std.specs.List.{prefix_len}
use Rattle.std.proofs.lemmas.Bool.{lt-ltb, le-ltb, cases_lt, eqb-true, eqb-false, ne_eqb, eq-eqb, not-false}
use Rattle.std.proofs.lemmas.List.{take_at, drop_at, take-append-drop, length-append, length-take, append-nil}
use Rattle.byte_fields.specs.declared.fault.FileFault.{FileFault}
use Rattle.byte_fields.specs.declared.fault.FileFault.TheVariants.{Bad}
use Rattle.byte_fields.specs.Field.{Field, IsCut}
use Rattle.byte_fields.specs.Text.{IsOtherWord, ◌after◌, StopsAt, is_in_line, IsLine, line, bytes_of}
use Rattle.byte_fields.specs.Reading.{Left, Read, ◌>>=◌, bytes_at}
use Rattle.byte_fields.specs.TextReading.{word_at, ◌behind◌, cut_line, line_at}
use Rattle.byte_fields.specs.Laws.{AnyBytes, Takes, IsRead, BytesAreRead}
use Rattle.byte_fields.proofs.FrontLaws.{front_passes, front_ends, front_counts}
use Rattle.byte_fields.proofs.ResultLaws.{done, failed, ok_is, err_is, no_err, no_ok, chosen, bind_ok, bind_err}

-- ---- words

pub word_takes : (word : List ℕ) (at : ℕ) (bytes : List ℕ) (u : Unit {0}) (m : Left) → word_at word (at, bytes) ≡ Ok (u, m) → (bytes ≡ word ++ m.1) × (m.0 ≡ at + length word)
unfolding word_at
word_takes [] at bytes u m e =
    let q = ok_is (tt, (at, bytes)) (u, m) e in
    (ap (λ (a : Unit {0} × Left). a.1.1) q, omega (arith, ap (λ (a : Unit {0} × Left). a.1.0) q))
word_takes (c ∷ word) at [] u m e = absurd (no_ok (u, m) (Bad at) e)
word_takes (c ∷ word) at (b ∷ bytes) u m e = elim (chosen (eqb b c) (word_at word (at + 1, bytes)) (Err (Bad at)) (Ok (u, m)) e) [
  | inl h ↦
      let t = word_takes word (at + 1) bytes u m h.1 in
      (ap (λ (k : ℕ). k ∷ bytes) (eqb-true b c h.0) ∙ ap (λ (z : List ℕ). c ∷ z) t.0, omega (arith, t.1))
  | inr h ↦ absurd (no_ok (u, m) (Bad at) h.1)
]

pub word_again : (word : List ℕ) (at : ℕ) (rest : List ℕ) → word_at word (at, word ++ rest) ≡ Ok (tt, (at + length word, rest))
unfolding word_at
word_again [] at rest = ap (λ (k : ℕ). done (tt, (k, rest))) (omega arith)
word_again (c ∷ word) at rest =
    let place : (at + 1) + length word ≡ at + length (c ∷ word) = omega arith in
    ap (λ (b : Bool). cond b (word_at word (at + 1, word ++ rest)) (Err (Bad at))) (eq-eqb c c refl) ∙ word_again word (at + 1) rest
    ∙ ap (λ (k : ℕ). done (tt, (k, rest))) place

pub word_fails : (word : List ℕ) (at : ℕ) (bytes : List ℕ) (f : FileFault) → word_at word (at, bytes) ≡ Err f → IsOtherWord word at bytes f
unfolding word_at
word_fails [] at bytes f e = no_err (tt, (at, bytes)) f e
word_fails (c ∷ word) at [] f e = sym (err_is {A = Unit {0} × Left} (Bad at) f e)
word_fails (c ∷ word) at (b ∷ bytes) f e = elim (chosen (eqb b c) (word_at word (at + 1, bytes)) (Err (Bad at)) (Err f) e) [
  | inl h ↦ inr (eqb-true b c h.0, word_fails word (at + 1) bytes f h.1)
  | inr h ↦ inl (eqb-false b c h.0, sym (err_is {A = Unit {0} × Left} (Bad at) f h.1))
]

pub word_failing : (word : List ℕ) (at : ℕ) (bytes : List ℕ) (f : FileFault) → IsOtherWord word at bytes f → word_at word (at, bytes) ≡ Err f
unfolding word_at
word_failing [] at bytes f h = absurd h
word_failing (c ∷ word) at [] f h = ap (λ (g : FileFault). failed g) (sym h)
word_failing (c ∷ word) at (b ∷ bytes) f (inl h) =
    ap (λ (t : Bool). cond t (word_at word (at + 1, bytes)) (Err (Bad at))) (ne_eqb b c h.0) ∙ ap (λ (g : FileFault). failed g) (sym h.1)
word_failing (c ∷ word) at (b ∷ bytes) f (inr h) =
    ap (λ (t : Bool). cond t (word_at word (at + 1, bytes)) (Err (Bad at))) (eq-eqb b c h.0) ∙ word_failing word (at + 1) bytes f h.1

pub after_read : {X : Type 0} (word : List ℕ) (F : Field FileFault X) (R : Left → Read FileFault X) → IsRead AnyBytes F R → IsRead AnyBytes (word after F) (word behind R)
after_read {X = X} word F R r = record { takes = takes; again = again; fails = fails; failing = failing }
  where
    takes : (at : ℕ) (bytes : List ℕ) (x : X) (m : Left) → AnyBytes bytes → (word behind R) (at, bytes) ≡ Ok (x, m) → Takes AnyBytes (word after F) at bytes x m
    takes at bytes x m fits e =
        let a = bind_ok (word_at word (at, bytes)) (λ u. R u.1) (x, m) e in
        let w = word_takes word at bytes a.0.0 a.0.1 a.1 in
        let t = r.takes a.0.1.0 a.0.1.1 x m tt a.2 in
        record {
          has = t.has;
          parts = w.0 ∙ ap (λ (z : List ℕ). word ++ z) t.parts ∙ sym (append_assoc word (F.spelling x) m.1);
          place = omega (arith, t.place, w.1, length-append word (F.spelling x));
          ends = t.ends;
          rest_fits = tt;
        }

    again : (at : ℕ) (x : X) (rest : List ℕ) → F.Has x → F.Ends x rest → (word behind R) (at, (word ++ F.spelling x) ++ rest) ≡ Ok (x, (at + length (word ++ F.spelling x), rest))
    again at x rest has ends =
        let place : (at + length word) + length (F.spelling x) ≡ at + length (word ++ F.spelling x) = omega (arith, length-append word (F.spelling x)) in
        ap (λ (z : List ℕ). (word behind R) (at, z)) (append_assoc word (F.spelling x) rest)
        ∙ ap (λ (a : Read FileFault (Unit {0})). a >>= λ u. R u.1) (word_again word at (F.spelling x ++ rest))
        ∙ r.again (at + length word) x rest has ends
        ∙ ap (λ (n : ℕ). done (x, (n, rest))) place

    fails : (at : ℕ) (bytes : List ℕ) (f : FileFault) → AnyBytes bytes → (word behind R) (at, bytes) ≡ Err f → (word after F).Fault at bytes f
    fails at bytes f fits e = elim (bind_err (word_at word (at, bytes)) (λ u. R u.1) f e) [
      | inl h ↦ inl (word_fails word at bytes f h)
      | inr h ↦
          let w = word_takes word at bytes h.0.0 h.0.1 h.1 in
          inr (h.0.1.1, w.0, subst (λ (n : ℕ). F.Fault n h.0.1.1 f) w.1 (r.fails h.0.1.0 h.0.1.1 f tt h.2))
    ]

    failing : (at : ℕ) (bytes : List ℕ) (f : FileFault) → (word after F).Fault at bytes f → (word behind R) (at, bytes) ≡ Err f
    failing at bytes f (inl h) = ap (λ (a : Read FileFault (Unit {0})). a >>= λ u. R u.1) (word_failing word at bytes f h)
    failing at bytes f (inr h) =
        ap (λ (z : List ℕ). (word behind R) (at, z)) h.1
        ∙ ap (λ (a : Read FileFault (Unit {0})). a >>= λ u. R u.1) (word_again word at h.0)
        ∙ r.failing (at + length word) h.0 f h.2

-- ---- lines

-- a byte that ends a line
newline : (b : ℕ) → is_in_line b ≡ false → b ≡ 10
newline b e = eqb-true b 10 (not-false (eqb b 10) e)

cut_whole : (at : ℕ) (front rest : List ℕ) → cut_line at front (10 ∷ rest) ≡ Ok (front, (at + length (front ++ 10 ∷ []), rest))
cut_whole at front rest = ap (λ (n : ℕ). done (front, (n, rest))) (omega (arith, length-append front (10 ∷ [])))

line_split : (at : ℕ) (front rest : List ℕ) → IsLine front → StopsAt is_in_line rest → line_at (at, front ++ rest) ≡ cut_line at front rest
unfolding line_at
line_split at front rest all stop =
    let count = front_counts is_in_line front rest all stop in
    rw (count, take_at front rest (length front) refl, drop_at front rest (length front) refl) refl

line_unfolded : (at : ℕ) (bytes : List ℕ) → line_at (at, bytes) ≡ cut_line at (take (prefix_len is_in_line bytes) bytes) (drop (prefix_len is_in_line bytes) bytes)
unfolding line_at
line_unfolded at bytes = refl

cut_ok : (at : ℕ) (front rest bs : List ℕ) (m : Left) → StopsAt is_in_line rest → cut_line at front rest ≡ Ok (bs, m)
    → (bs ≡ front) × (m.0 ≡ at + length (front ++ 10 ∷ [])) × (front ++ rest ≡ (front ++ 10 ∷ []) ++ m.1)
cut_ok at front [] bs m stop e = absurd (no_ok (bs, m) (Bad (at + length front)) e)
cut_ok at front (b ∷ rest) bs m stop e =
    let q = ok_is (front, (at + (length front + 1), rest)) (bs, m) e in
    let left : rest ≡ m.1 = ap (λ (a : List ℕ × Left). a.1.1) q in (
      ap (λ (a : List ℕ × Left). a.0) (sym q),
      omega (arith, ap (λ (a : List ℕ × Left). a.1.0) q, length-append front (10 ∷ [])),
      ap (λ (c : ℕ). front ++ c ∷ rest) (newline b stop) ∙ sym (append_assoc front (10 ∷ []) rest) ∙ ap (λ (z : List ℕ). (front ++ 10 ∷ []) ++ z) left,
    )

cut_err : (at : ℕ) (front rest : List ℕ) (f : FileFault) → cut_line at front rest ≡ Err f → (rest ≡ []) × (f ≡ Bad (at + length front))
cut_err at front [] f e = (refl, sym (err_is {A = List ℕ × Left} (Bad (at + length front)) f e))
cut_err at front (b ∷ rest) f e = absurd (no_err (front, (at + (length front + 1), rest)) f e)

pub line_read : IsRead AnyBytes line line_at
line_read = record { takes = takes; again = again; fails = fails; failing = failing }
  where
    takes : (at : ℕ) (bytes bs : List ℕ) (m : Left) → AnyBytes bytes → line_at (at, bytes) ≡ Ok (bs, m) → Takes AnyBytes line at bytes bs m
    takes at bytes bs m fits e =
        let n = prefix_len is_in_line bytes in
        let c = cut_ok at (take n bytes) (drop n bytes) bs m (front_ends is_in_line bytes) (sym (line_unfolded at bytes) ∙ e) in
        let one : Takes AnyBytes line at bytes (take n bytes) m = record { has = front_passes is_in_line bytes; parts = sym (take-append-drop n bytes) ∙ c.2; place = c.1; ends = tt; rest_fits = tt } in
        subst (λ (z : List ℕ). Takes AnyBytes line at bytes z m) (sym c.0) one

    again : (at : ℕ) (bs rest : List ℕ) → IsLine bs → Unit {0} → line_at (at, (bs ++ 10 ∷ []) ++ rest) ≡ Ok (bs, (at + length (bs ++ 10 ∷ []), rest))
    again at bs rest has ends =
        ap (λ (z : List ℕ). line_at (at, z)) (append_assoc bs (10 ∷ []) rest) ∙ line_split at bs (10 ∷ rest) has refl ∙ cut_whole at bs rest

    fails : (at : ℕ) (bytes : List ℕ) (f : FileFault) → AnyBytes bytes → line_at (at, bytes) ≡ Err f → line.Fault at bytes f
    fails at bytes f fits e =
        let n = prefix_len is_in_line bytes in
        let c = cut_err at (take n bytes) (drop n bytes) f (sym (line_unfolded at bytes) ∙ e) in
        let whole : take n bytes ≡ bytes = sym (append-nil (take n bytes)) ∙ ap (λ (z : List ℕ). take n bytes ++ z) (sym c.0) ∙ take-append-drop n bytes in
        (subst (λ (z : List ℕ). IsLine z) whole (front_passes is_in_line bytes), c.1 ∙ ap (λ (z : List ℕ). Bad (at + length z)) whole)

    failing : (at : ℕ) (bytes : List ℕ) (f : FileFault) → line.Fault at bytes f → line_at (at, bytes) ≡ Err f
    failing at bytes f h =
        ap (λ (z : List ℕ). line_at (at, z)) (sym (append-nil bytes)) ∙ line_split at bytes [] h.0 tt ∙ ap (λ (g : FileFault). failed g) (sym h.1)

-- ---- counted bytes, and what is cut off, whatever fault tells it

pub bytes_fewer : {E : Type 0} (fault : ℕ → E) (n at : ℕ) (bytes : List ℕ) → length bytes < n → bytes_at fault n (at, bytes) ≡ Err (fault (at + length bytes))
unfolding bytes_at
bytes_fewer fault n at bytes lt = ap (λ (b : Bool). cond b (failed (fault (at + length bytes))) (done (take n bytes, (at + n, drop n bytes)))) (lt-ltb _ _ lt)

pub bytes_enough : {E : Type 0} (fault : ℕ → E) (n at : ℕ) (bytes : List ℕ) → n ≤ length bytes → bytes_at fault n (at, bytes) ≡ Ok (take n bytes, (at + n, drop n bytes))
unfolding bytes_at
bytes_enough fault n at bytes le = ap (λ (b : Bool). cond b (failed (fault (at + length bytes))) (done (take n bytes, (at + n, drop n bytes)))) (le-ltb _ _ le)

-- so many bytes are cut off, or too few stand
pub bytes_take : {E : Type 0} (fault : ℕ → E) (n at : ℕ) (bytes bs : List ℕ) (m : Left) → bytes_at fault n (at, bytes) ≡ Ok (bs, m) → (n ≤ length bytes) × (bs ≡ take n bytes) × (m ≡ (at + n, drop n bytes))
bytes_take {E = E} fault n at bytes bs m e = elim (cases_lt (length bytes) n) [
  | inl lt ↦ absurd (no_ok (bs, m) (fault (at + length bytes)) (sym (bytes_fewer fault n at bytes lt) ∙ e))
  | inr le ↦
      let same = ok_is {E = E} (take n bytes, (at + n, drop n bytes)) (bs, m) (sym (bytes_enough fault n at bytes le) ∙ e) in
      (le, ap (λ (q : List ℕ × Left). q.0) (sym same), ap (λ (q : List ℕ × Left). q.1) (sym same))
]

pub bytes_fail : {E : Type 0} (fault : ℕ → E) (n at : ℕ) (bytes : List ℕ) (f : E) → bytes_at fault n (at, bytes) ≡ Err f → IsCut fault n at bytes f
bytes_fail fault n at bytes f e = elim (cases_lt (length bytes) n) [
  | inl lt ↦ (lt, sym (err_is {A = List ℕ × Left} (fault (at + length bytes)) f (sym (bytes_fewer fault n at bytes lt) ∙ e)))
  | inr le ↦ absurd (no_err (take n bytes, (at + n, drop n bytes)) f (sym (bytes_enough fault n at bytes le) ∙ e))
]

pub bytes_failing : {E : Type 0} (fault : ℕ → E) (n at : ℕ) (bytes : List ℕ) (f : E) → IsCut fault n at bytes f → bytes_at fault n (at, bytes) ≡ Err f
bytes_failing {E = E} fault n at bytes f h = bytes_fewer fault n at bytes h.0 ∙ ap (λ (g : E). failed g) (sym h.1)

pub bytes_again : {E : Type 0} (fault : ℕ → E) (at : ℕ) (bs rest : List ℕ) → bytes_at fault (length bs) (at, bs ++ rest) ≡ Ok (bs, (at + length bs, rest))
bytes_again {E = E} fault at bs rest =
    bytes_enough fault (length bs) at (bs ++ rest) (omega (arith, length-append bs rest))
    ∙ ap (λ (z : List ℕ). done (z, (at + length bs, drop (length bs) (bs ++ rest)))) (take_at bs rest (length bs) refl)
    ∙ ap (λ (z : List ℕ). done (bs, (at + length bs, z))) (drop_at bs rest (length bs) refl)

pub bytes_read : BytesAreRead
bytes_read n = record { takes = takes; again = again; fails = λ at bytes f fits e. bytes_fail Bad n at bytes f e; failing = λ at bytes f h. bytes_failing Bad n at bytes f h }
  where
    takes : (at : ℕ) (bytes bs : List ℕ) (m : Left) → AnyBytes bytes → bytes_at Bad n (at, bytes) ≡ Ok (bs, m) → Takes AnyBytes (bytes_of n) at bytes bs m
    takes at bytes bs m fits e =
        let t = bytes_take Bad n at bytes bs m e in
        let len : length (take n bytes) ≡ n = omega (arith, length-take n bytes, t.0) in
        let one : Takes AnyBytes (bytes_of n) at bytes (take n bytes) (at + n, drop n bytes) = record {
          has = len;
          parts = sym (take-append-drop n bytes);
          place = ap (λ (k : ℕ). at + k) (sym len);
          ends = tt;
          rest_fits = tt;
        } in
        subst (λ (l : Left). Takes AnyBytes (bytes_of n) at bytes bs l) (sym t.2) (subst (λ (z : List ℕ). Takes AnyBytes (bytes_of n) at bytes z (at + n, drop n bytes)) (sym t.1) one)

    again : (at : ℕ) (bs rest : List ℕ) → length bs ≡ n → Unit {0} → bytes_at Bad n (at, bs ++ rest) ≡ Ok (bs, (at + length bs, rest))
    again at bs rest has ends = subst (λ (k : ℕ). bytes_at Bad k (at, bs ++ rest) ≡ Ok (bs, (at + length bs, rest))) has (bytes_again Bad at bs rest)
