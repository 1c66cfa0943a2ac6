-- Bytes, numbers, integers and texts are read.
use Rattle.std.proofs.Common.{◌≡◌, ℕ, suc, ◌+◌, ◌^◌, ◌<◌, ◌%◌, true, false, List, [], ◌∷◌, ◌++◌, length, take, drop, ℤ, Ok, Err, IsUtf8, refl, sym, ap, subst, ◌∙◌, arith, inl, inr}
use Rattle.std.specs.Prelude.{FitsSigned, negsuc, pos}
use Rattle.std.proofs.Math.Facts.{sfits_to_z, Fits-of_lt}
use Rattle.std.specs.Int.{Width, w8, w16, w32, w64, w128, byte_len, from_be_bytes, to_be_bytes, cast_signed, cast_unsigned}
use Rattle.std.specs.Str.{is_utf8}
use Rattle.std.proofs.lemmas.Bool.{cases_lt, false≢true}
use Rattle.std.proofs.lemmas.List.{take-append-drop, length-take, get_or-drop, get_or-take, get_or_past}
use Rattle.std.proofs.lemmas.Nat.{be_bytes_2, be_bytes_4, be_bytes_8, from_be_bytes-to_be_bytes_2, from_be_bytes-to_be_bytes_4, from_be_bytes-to_be_bytes_8}
use Rattle.std.proofs.lemmas.Int.{to_z-of_z, of_z-to_z}
use Rattle.std.proofs.lemmas.Str.{is_utf8-from_IsUtf8, IsUtf8-from_is_utf8}
use Rattle.wire_reader.specs.declared.form.Form.{Form}
use Rattle.wire_reader.specs.declared.form.Form.TheVariants as forms
use Rattle.wire_reader.specs.declared.fault.WireFault.{WireFault}
use Rattle.wire_reader.specs.declared.fault.WireFault.TheVariants.{Short, Range, Utf8}
use Rattle.byte_fields.specs.Field.{Field, IsCut, EndsAnywhere, IsWithin}
use Rattle.wire_reader.specs.Field.{nothing, number, signed_number, short_bytes}
use Rattle.wire_reader.specs.Format.{within, text, integer}
use Rattle.byte_fields.specs.Reading.{Left, Read, ◌>>=◌, bytes_at, map_at, is_within}
use Rattle.wire_reader.specs.Reading.{nothing_at, byte_at, filter_at, number_at, signed_at, integer_at, short_bytes_at, byte_within_at, text_at}
use Rattle.wire_reader.proofs.WideBytes.{be_bytes_16, from_be_bytes-to_be_bytes_16, from_below_16}
use Rattle.byte_fields.specs.Laws.{Takes, IsRead}
use Rattle.byte_fields.proofs.ResultLaws.{done, failed, ok_is, err_is, no_err, no_ok, bind_ok, bind_err}
use Rattle.wire_reader.proofs.FieldLaws.{IsBytes, tested_read}
use Rattle.byte_fields.proofs.NumberLaws.{within_yes, within_no}
use Rattle.byte_fields.proofs.TextLaws.{bytes_take, bytes_fail, bytes_failing, bytes_again}

pub IsBytes-drop : (n : ℕ) (bytes : List ℕ) → IsBytes bytes → IsBytes (drop n bytes)
IsBytes-drop n bytes h i = rw get_or-drop (h (n + i))

IsBytes-take : (n : ℕ) (bytes : List ℕ) → IsBytes bytes → IsBytes (take n bytes)
IsBytes-take n bytes h i =
    elim (cases_lt i n) [
      | inl lt ↦ rw (get_or-take n bytes i 0 lt) (h i)
      | inr le ↦ rw (get_or_past (take n bytes) i 0 (omega (arith, length-take n bytes))) (omega arith)
    ]

pub IsBytes-rest : (b : ℕ) (bytes : List ℕ) → IsBytes (b ∷ bytes) → IsBytes bytes
IsBytes-rest b bytes h i = h (suc i)

-- ---- what a cursor gives

pub byte_left : (l m : Left) (b : ℕ) → l.1 ≡ b ∷ m.1 → m.0 ≡ l.0 + 1 → byte_at l ≡ Ok (b, m)
byte_left (at, []) m b parts place = absurd cc
byte_left (at, c ∷ bytes) m b parts place =
    let first : c ≡ b = cc parts in
    let others : bytes ≡ m.1 = cc parts in
    ap (λ (k : ℕ). done (k, (at + 1, bytes))) first ∙ ap (λ (z : List ℕ). done (b, (at + 1, z))) others ∙ ap (λ (k : ℕ). done (b, (k, m.1))) (sym place)

pub byte_cut : (l : Left) → l.1 ≡ [] → byte_at l ≡ Err (Short l.0)
byte_cut (at, []) none = refl
byte_cut (at, b ∷ bytes) none = absurd cc

-- ---- nothing

pub nothing_read : IsRead IsBytes nothing nothing_at
nothing_read = record { takes = takes; again = again; fails = fails; failing = failing }
  where
    takes : (at : ℕ) (bytes : List ℕ) (x : ℕ) (m : Left) → IsBytes bytes → nothing_at (at, bytes) ≡ Ok (x, m) → Takes IsBytes nothing at bytes x m
    takes at bytes x m fits e =
        let place : at ≡ at + 0 = omega arith in
        subst (λ (q : ℕ × Left). Takes IsBytes nothing at bytes q.0 q.1) (ok_is (0, (at, bytes)) (x, m) e)
        (record { has = refl; parts = refl; place = place; ends = tt; rest_fits = fits })

    again : (at : ℕ) (x : ℕ) (rest : List ℕ) → x ≡ 0 → Unit {0} → nothing_at (at, rest) ≡ Ok (x, (at + 0, rest))
    again at x rest has ends =
        let place : at ≡ at + 0 = omega arith in
        ap (λ (n : ℕ). done (n, (at, rest))) (sym has) ∙ ap (λ (n : ℕ). done (x, (n, rest))) place

    fails : (at : ℕ) (bytes : List ℕ) (f : WireFault) → IsBytes bytes → nothing_at (at, bytes) ≡ Err f → ⊥
    fails at bytes f fits e = no_err (0, (at, bytes)) f e

    failing : (at : ℕ) (bytes : List ℕ) (f : WireFault) → ⊥ → nothing_at (at, bytes) ≡ Err f
    failing at bytes f h = absurd h

-- ---- one byte

pub byte_read : IsRead IsBytes (number w8) byte_at
byte_read = record { takes = takes; again = again; fails = fails; failing = failing }
  where
    takes : (at : ℕ) (bytes : List ℕ) (x : ℕ) (m : Left) → IsBytes bytes → byte_at (at, bytes) ≡ Ok (x, m) → Takes IsBytes (number w8) at bytes x m
    takes at [] x m fits e = absurd (no_ok (x, m) (Short at) e)
    takes at (b ∷ bytes) x m fits e =
        let small : b < 256 = fits 0 in
        let whole : b % 256 ≡ b = omega (arith, small) in
        let one : Takes IsBytes (number w8) at (b ∷ bytes) b (at + 1, bytes) = record {
          has = small;
          parts = ap (λ (k : ℕ). k ∷ bytes) (sym whole);
          place = refl;
          ends = tt;
          rest_fits = IsBytes-rest b bytes fits;
        } in
        subst (λ (q : ℕ × Left). Takes IsBytes (number w8) at (b ∷ bytes) q.0 q.1) (ok_is (b, (at + 1, bytes)) (x, m) e) one

    again : (at : ℕ) (x : ℕ) (rest : List ℕ) → (number w8).Has x → Unit {0} → byte_at (at, (number w8).spelling x ++ rest) ≡ Ok (x, (at + length ((number w8).spelling x), rest))
    again at x rest has ends =
        let whole : x % 256 ≡ x = omega (arith, has) in
        ap (λ (k : ℕ). done (k, (at + 1, rest))) whole

    fails : (at : ℕ) (bytes : List ℕ) (f : WireFault) → IsBytes bytes → byte_at (at, bytes) ≡ Err f → IsCut Short 1 at bytes f
    fails at [] f fits e = (omega arith, sym (err_is (Short at) f e) ∙ ap (λ (k : ℕ). Short k) (omega arith))
    fails at (b ∷ bytes) f fits e = absurd (no_err (b, (at + 1, bytes)) f e)

    failing : (at : ℕ) (bytes : List ℕ) (f : WireFault) → IsCut Short 1 at bytes f → byte_at (at, bytes) ≡ Err f
    failing at [] f h = let place : at ≡ at + 0 = omega arith in ap (λ (k : ℕ). failed (Short k)) place ∙ ap (λ (g : WireFault). failed g) (sym h.1)
    failing at (b ∷ bytes) f h = absurd (omega (arith, h.0))

-- ---- numbers

pub record IsWide (w : Width) : Type 0 where
  pub len : (n : ℕ) → length (to_be_bytes w n) ≡ byte_len w
  pub back : (bytes : List ℕ) → length bytes ≡ byte_len w → IsBytes bytes → to_be_bytes w (from_be_bytes w bytes) ≡ bytes
  pub again : (n : ℕ) → n < 256 ^ byte_len w → from_be_bytes w (to_be_bytes w n) ≡ n
  pub below : (bytes : List ℕ) → IsBytes bytes → from_be_bytes w bytes < 256 ^ byte_len w

pub wide16 : IsWide w16
wide16 = record {
  len = λ n. refl;
  back = λ bytes len fits. be_bytes_2 bytes _ len fits refl;
  again = λ n lt. from_be_bytes-to_be_bytes_2 n lt;
  below = λ bytes fits. omega (arith, fits 0, fits 1);
}

pub wide32 : IsWide w32
wide32 = record {
  len = λ n. refl;
  back = λ bytes len fits. be_bytes_4 bytes _ len fits refl;
  again = λ n lt. from_be_bytes-to_be_bytes_4 n lt;
  below = λ bytes fits. omega (arith, fits 0, fits 1, fits 2, fits 3);
}

pub wide64 : IsWide w64
wide64 = record {
  len = λ n. refl;
  back = λ bytes len fits. be_bytes_8 bytes _ len fits refl;
  again = λ n lt. from_be_bytes-to_be_bytes_8 n lt;
  below = λ bytes fits. omega (arith, fits 0, fits 1, fits 2, fits 3, fits 4, fits 5, fits 6, fits 7);
}

pub wide128 : IsWide w128
wide128 = record {
  len = λ n. refl;
  back = λ bytes len fits. be_bytes_16 bytes _ len fits refl;
  again = λ n lt. from_be_bytes-to_be_bytes_16 n lt;
  below = λ bytes fits. from_below_16 bytes fits;
}

-- a number and its bytes, whatever is made of the number: what is spelled is the number of a value
pub wide_read : {X : Type 0} (w : Width) → IsWide w → (F : Field WireFault X) (con : ℕ → X) (num : X → ℕ)
    → ((x : X) → F.spelling x ≡ to_be_bytes w (num x)) → ((x : X) → F.Has x → (num x < 256 ^ byte_len w) × (con (num x) ≡ x))
    → ((n : ℕ) → n < 256 ^ byte_len w → F.Has (con n) × (num (con n) ≡ n))
    → ((at : ℕ) (bytes : List ℕ) (f : WireFault) → (F.Fault at bytes f → IsCut Short (byte_len w) at bytes f) × (IsCut Short (byte_len w) at bytes f → F.Fault at bytes f)) → EndsAnywhere F
    → IsRead IsBytes F (map_at (λ bs. con (from_be_bytes w bs)) (bytes_at Short (byte_len w)))
wide_read {X = X} w wide F con num spelled has made_has cut free = record { takes = takes; again = again; fails = fails; failing = failing }
  where
    takes : (at : ℕ) (bytes : List ℕ) (x : X) (m : Left) → IsBytes bytes → map_at (λ bs. con (from_be_bytes w bs)) (bytes_at Short (byte_len w)) (at, bytes) ≡ Ok (x, m) → Takes IsBytes F at bytes x m
    takes at bytes x m fits e =
        let a = bind_ok (bytes_at Short (byte_len w) (at, bytes)) (λ a. Ok (con (from_be_bytes w a.0), a.1)) (x, m) e in
        let t = bytes_take Short (byte_len w) at bytes a.0.0 a.0.1 a.1 in
        let front = take (byte_len w) bytes in
        let rest = drop (byte_len w) bytes in
        let n = from_be_bytes w front in
        let len : length front ≡ byte_len w = omega (arith, length-take (byte_len w) bytes, t.0) in
        let front_fits = IsBytes-take (byte_len w) bytes fits in
        let h = made_has n (wide.below front front_fits) in
        let written : F.spelling (con n) ≡ front = spelled (con n) ∙ ap (λ (k : ℕ). to_be_bytes w k) h.1 ∙ wide.back front len front_fits in
        let one : Takes IsBytes F at bytes (con n) (at + byte_len w, rest) = record {
          has = h.0;
          parts = sym (ap (λ (z : List ℕ). z ++ rest) written ∙ take-append-drop (byte_len w) bytes);
          place = ap (λ (k : ℕ). at + k) (sym (ap (λ (z : List ℕ). length z) written ∙ len));
          ends = free (con n) rest;
          rest_fits = IsBytes-drop (byte_len w) bytes fits;
        } in
        let same : ◌≡◌ {A = X × Left} (con n, (at + byte_len w, rest)) (x, m) =
        ap (λ (bs : List ℕ). (con (from_be_bytes w bs), (at + byte_len w, rest))) (sym t.1) ∙ ap (λ (l : Left). (con (from_be_bytes w a.0.0), l)) (sym t.2) ∙ ok_is (con (from_be_bytes w a.0.0), a.0.1) (x, m) a.2 in
        subst (λ (q : X × Left). Takes IsBytes F at bytes q.0 q.1) same one

    again : (at : ℕ) (x : X) (rest : List ℕ) → F.Has x → F.Ends x rest → map_at (λ bs. con (from_be_bytes w bs)) (bytes_at Short (byte_len w)) (at, F.spelling x ++ rest) ≡ Ok (x, (at + length (F.spelling x), rest))
    again at x rest hx ends =
        let h = has x hx in
        let bs = to_be_bytes w (num x) in
        let len = wide.len (num x) in
        let read : bytes_at Short (byte_len w) (at, bs ++ rest) ≡ Ok (bs, (at + length bs, rest)) = subst (λ (k : ℕ). bytes_at Short k (at, bs ++ rest) ≡ Ok (bs, (at + length bs, rest))) len (bytes_again Short at bs rest) in
        ap (λ (z : List ℕ). map_at (λ bs. con (from_be_bytes w bs)) (bytes_at Short (byte_len w)) (at, z ++ rest)) (spelled x)
        ∙ ap (λ (a : Read WireFault (List ℕ)). a >>= λ a. Ok (con (from_be_bytes w a.0), a.1)) read
        ∙ ap (λ (k : ℕ). done (con k, (at + length bs, rest))) (wide.again (num x) h.0)
        ∙ ap (λ (y : X). done (y, (at + length bs, rest))) h.1
        ∙ ap (λ (z : List ℕ). done (x, (at + length z, rest))) (sym (spelled x))

    fails : (at : ℕ) (bytes : List ℕ) (f : WireFault) → IsBytes bytes → map_at (λ bs. con (from_be_bytes w bs)) (bytes_at Short (byte_len w)) (at, bytes) ≡ Err f → F.Fault at bytes f
    fails at bytes f fits e = elim (bind_err (bytes_at Short (byte_len w) (at, bytes)) (λ a. Ok (con (from_be_bytes w a.0), a.1)) f e) [
      | inl h ↦ (cut at bytes f).1 (bytes_fail Short (byte_len w) at bytes f h)
      | inr h ↦ absurd (no_err (con (from_be_bytes w h.0.0), h.0.1) f h.2)
    ]

    failing : (at : ℕ) (bytes : List ℕ) (f : WireFault) → F.Fault at bytes f → map_at (λ bs. con (from_be_bytes w bs)) (bytes_at Short (byte_len w)) (at, bytes) ≡ Err f
    failing at bytes f h = ap (λ (a : Read WireFault (List ℕ)). a >>= λ a. Ok (con (from_be_bytes w a.0), a.1)) (bytes_failing Short (byte_len w) at bytes f ((cut at bytes f).0 h))

pub number_read : (w : Width) → IsWide w → IsRead IsBytes (number w) (number_at w)
unfolding number_at
number_read w wide = wide_read w wide (number w) (λ n. n) (λ n. n) (λ x. refl) (λ x h. (h, refl)) (λ n h. (h, refl)) (λ at bytes f. ((λ h. h), (λ h. h))) (λ x rest. tt)

-- ---- integers

below_64 : (z : ℤ) → FitsSigned w64 z → cast_unsigned w64 z < 256 ^ 8
below_64 (pos n) fits = omega (arith, fits.sfits)
below_64 (negsuc n) fits = omega arith

below_128 : (z : ℤ) → FitsSigned w128 z → cast_unsigned w128 z < 256 ^ 16
below_128 (pos n) fits = omega (arith, fits.sfits)
below_128 (negsuc n) fits = omega arith

made_64 : (n : ℕ) → n < 256 ^ 8 → FitsSigned w64 (cast_signed w64 n) × (cast_unsigned w64 (cast_signed w64 n) ≡ n)
made_64 n lt = (sfits_to_z {w = w64} {n = n} (Fits-of_lt {w = w64} {n = n} lt), of_z-to_z w64 n lt)

made_128 : (n : ℕ) → n < 256 ^ 16 → FitsSigned w128 (cast_signed w128 n) × (cast_unsigned w128 (cast_signed w128 n) ≡ n)
made_128 n lt = (sfits_to_z {w = w128} {n = n} (Fits-of_lt {w = w128} {n = n} lt), of_z-to_z w128 n lt)

pub integer_read : (form : Form) → IsRead IsBytes (integer form) (integer_at form)
unfolding signed_at
integer_read forms.One =
    wide_read w64 wide64 (signed_number w64) (cast_signed w64) (cast_unsigned w64) (λ x. refl) (λ z fits. (below_64 z fits, to_z-of_z w64 z fits)) made_64 (λ at bytes f. ((λ h. h), (λ h. h))) (λ x rest. tt)
integer_read forms.Two =
    wide_read w128 wide128 (signed_number w128) (cast_signed w128) (cast_unsigned w128) (λ x. refl) (λ z fits. (below_128 z fits, to_z-of_z w128 z fits)) made_128 (λ at bytes f. ((λ h. h), (λ h. h))) (λ x rest. tt)

-- ---- numbers within a range

pub within_read : (least most : ℕ) (F : Field WireFault ℕ) (R : Left → Read WireFault ℕ) → IsRead IsBytes F R → IsRead IsBytes (within least most F) (filter_at (is_within least most) Range R)
within_read least most F R r =
    tested_read F R (IsWithin least most) (is_within least most) (λ at. Range at) (within_yes least most) (within_no least most) r

pub byte_within_read : (least most : ℕ) → IsRead IsBytes (within least most (number w8)) (byte_within_at least most)
unfolding byte_within_at
byte_within_read least most = within_read least most (number w8) byte_at byte_read

-- ---- a byte of length and that many bytes

pub short_bytes_read : IsRead IsBytes short_bytes short_bytes_at
unfolding short_bytes_at
short_bytes_read = record { takes = takes; again = again; fails = fails; failing = failing }
  where
    takes : (at : ℕ) (bytes bs : List ℕ) (m : Left) → IsBytes bytes → short_bytes_at (at, bytes) ≡ Ok (bs, m) → Takes IsBytes short_bytes at bytes bs m
    takes at [] bs m fits e = absurd (no_ok (bs, m) (Short at) e)
    takes at (n ∷ rest) bs m fits e =
        let t = bytes_take Short n (at + 1) rest bs m e in
        let front = take n rest in
        let len : length front ≡ n = omega (arith, length-take n rest, t.0) in
        let small : n < 256 = fits 0 in
        let one : Takes IsBytes short_bytes at (n ∷ rest) front (at + 1 + n, drop n rest) = record {
          has = omega (arith, len, small);
          parts = ap (λ (k : ℕ). k ∷ rest) (sym len) ∙ ap (λ (z : List ℕ). length front ∷ z) (sym (take-append-drop n rest));
          place = omega (arith, len);
          ends = tt;
          rest_fits = IsBytes-drop n rest (IsBytes-rest n rest fits);
        } in
        subst (λ (l : Left). Takes IsBytes short_bytes at (n ∷ rest) bs l) (sym t.2) (subst (λ (z : List ℕ). Takes IsBytes short_bytes at (n ∷ rest) z (at + 1 + n, drop n rest)) (sym t.1) one)

    again : (at : ℕ) (bs rest : List ℕ) → length bs < 256 → Unit {0} → short_bytes_at (at, (length bs ∷ bs) ++ rest) ≡ Ok (bs, (at + length (length bs ∷ bs), rest))
    again at bs rest has ends = bytes_again Short (at + 1) bs rest ∙ ap (λ (k : ℕ). done (bs, (k, rest))) (omega arith)

    fails : (at : ℕ) (bytes : List ℕ) (f : WireFault) → IsBytes bytes → short_bytes_at (at, bytes) ≡ Err f → short_bytes.Fault at bytes f
    fails at [] f fits e = sym (err_is {A = List ℕ × Left} (Short at) f e)
    fails at (n ∷ rest) f fits e = bytes_fail Short n (at + 1) rest f e

    failing : (at : ℕ) (bytes : List ℕ) (f : WireFault) → short_bytes.Fault at bytes f → short_bytes_at (at, bytes) ≡ Err f
    failing at [] f h = ap (λ (g : WireFault). failed g) (sym h)
    failing at (n ∷ rest) f h = bytes_failing Short n (at + 1) rest f h

pub text_read : IsRead IsBytes text text_at
unfolding text_at
text_read =
    tested_read short_bytes short_bytes_at IsUtf8 is_utf8 (λ at. Utf8 (at + 1)) IsUtf8-from_is_utf8 (λ bs e u. false≢true (sym e ∙ is_utf8-from_IsUtf8 bs u)) short_bytes_read
