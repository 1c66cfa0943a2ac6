-- Sixteen bytes are two times eight.
use Rattle.std.specs.Prelude.{nat_lt}
use Rattle.std.proofs.lemmas.Bool.Decides.{nat_tests}
use Rattle.std.proofs.Common.{Bool, true, false, arith, ◌≡◌, ◌∙◌, sym, ap, refl, ℕ, ◌+◌, ◌*◌, ◌/◌, ◌%◌, ◌<◌, ◌≤◌, List, [], ◌∷◌, ◌++◌, length, take, drop, get_or}
use Rattle.std.specs.Int.{w64, w128, to_be_bytes, from_be_bytes}
use Rattle.std.proofs.lemmas.Nat.{be_bytes_8, from_be_bytes-to_be_bytes_8}
use Rattle.std.proofs.lemmas.List.{length-take, length-take-le, length-drop, get_or_past, take-append-drop, get_or-take, get_or-drop}

byte_15 : (hi lo : ℕ) → lo < 18446744073709551616 → (hi * 18446744073709551616 + lo) / 1329227995784915872903807060280344576 % 256 ≡ hi / 72057594037927936 % 256
byte_15 hi lo h = omega (arith, h)

byte_14 : (hi lo : ℕ) → lo < 18446744073709551616 → (hi * 18446744073709551616 + lo) / 5192296858534827628530496329220096 % 256 ≡ hi / 281474976710656 % 256
byte_14 hi lo h = omega (arith, h)

byte_13 : (hi lo : ℕ) → lo < 18446744073709551616 → (hi * 18446744073709551616 + lo) / 20282409603651670423947251286016 % 256 ≡ hi / 1099511627776 % 256
byte_13 hi lo h = omega (arith, h)

byte_12 : (hi lo : ℕ) → lo < 18446744073709551616 → (hi * 18446744073709551616 + lo) / 79228162514264337593543950336 % 256 ≡ hi / 4294967296 % 256
byte_12 hi lo h = omega (arith, h)

byte_11 : (hi lo : ℕ) → lo < 18446744073709551616 → (hi * 18446744073709551616 + lo) / 309485009821345068724781056 % 256 ≡ hi / 16777216 % 256
byte_11 hi lo h = omega (arith, h)

byte_10 : (hi lo : ℕ) → lo < 18446744073709551616 → (hi * 18446744073709551616 + lo) / 1208925819614629174706176 % 256 ≡ hi / 65536 % 256
byte_10 hi lo h = omega (arith, h)

byte_9 : (hi lo : ℕ) → lo < 18446744073709551616 → (hi * 18446744073709551616 + lo) / 4722366482869645213696 % 256 ≡ hi / 256 % 256
byte_9 hi lo h = omega (arith, h)

byte_8 : (hi lo : ℕ) → lo < 18446744073709551616 → (hi * 18446744073709551616 + lo) / 18446744073709551616 % 256 ≡ hi % 256
byte_8 hi lo h = omega (arith, h)

byte_7 : (hi lo : ℕ) → lo < 18446744073709551616 → (hi * 18446744073709551616 + lo) / 72057594037927936 % 256 ≡ lo / 72057594037927936 % 256
byte_7 hi lo h = omega (arith, h)

byte_6 : (hi lo : ℕ) → lo < 18446744073709551616 → (hi * 18446744073709551616 + lo) / 281474976710656 % 256 ≡ lo / 281474976710656 % 256
byte_6 hi lo h = omega (arith, h)

byte_5 : (hi lo : ℕ) → lo < 18446744073709551616 → (hi * 18446744073709551616 + lo) / 1099511627776 % 256 ≡ lo / 1099511627776 % 256
byte_5 hi lo h = omega (arith, h)

byte_4 : (hi lo : ℕ) → lo < 18446744073709551616 → (hi * 18446744073709551616 + lo) / 4294967296 % 256 ≡ lo / 4294967296 % 256
byte_4 hi lo h = omega (arith, h)

byte_3 : (hi lo : ℕ) → lo < 18446744073709551616 → (hi * 18446744073709551616 + lo) / 16777216 % 256 ≡ lo / 16777216 % 256
byte_3 hi lo h = omega (arith, h)

byte_2 : (hi lo : ℕ) → lo < 18446744073709551616 → (hi * 18446744073709551616 + lo) / 65536 % 256 ≡ lo / 65536 % 256
byte_2 hi lo h = omega (arith, h)

byte_1 : (hi lo : ℕ) → lo < 18446744073709551616 → (hi * 18446744073709551616 + lo) / 256 % 256 ≡ lo / 256 % 256
byte_1 hi lo h = omega (arith, h)

byte_0 : (hi lo : ℕ) → lo < 18446744073709551616 → (hi * 18446744073709551616 + lo) % 256 ≡ lo % 256
byte_0 hi lo h = omega (arith, h)

pub halves : (hi lo : ℕ) → lo < 18446744073709551616 → to_be_bytes w128 (hi * 18446744073709551616 + lo) ≡ to_be_bytes w64 hi ++ to_be_bytes w64 lo
halves hi lo h = rw (byte_15 hi lo h, byte_14 hi lo h, byte_13 hi lo h, byte_12 hi lo h, byte_11 hi lo h, byte_10 hi lo h, byte_9 hi lo h, byte_8 hi lo h, byte_7 hi lo h, byte_6 hi lo h, byte_5 hi lo h, byte_4 hi lo h, byte_3 hi lo h, byte_2 hi lo h, byte_1 hi lo h, byte_0 hi lo h) refl

joined : (a b c d e f g h i j k l m n o p : ℕ) → from_be_bytes w128 (a ∷ b ∷ c ∷ d ∷ e ∷ f ∷ g ∷ h ∷ i ∷ j ∷ k ∷ l ∷ m ∷ n ∷ o ∷ p ∷ []) ≡ from_be_bytes w64 (a ∷ b ∷ c ∷ d ∷ e ∷ f ∷ g ∷ h ∷ []) * 18446744073709551616 + from_be_bytes w64 (i ∷ j ∷ k ∷ l ∷ m ∷ n ∷ o ∷ p ∷ [])
joined a b c d e f g h i j k l m n o p = omega arith

from_small : (bs : List ℕ) → ((i : ℕ) → get_or bs i 0 < 256) → from_be_bytes w64 bs < 18446744073709551616
from_small bs fits = omega (arith, fits 0, fits 1, fits 2, fits 3, fits 4, fits 5, fits 6, fits 7)

-- the bytes of a list, as its first eight and the others
whole : (bs : List ℕ) → from_be_bytes w128 bs ≡ from_be_bytes w64 (take 8 bs) * 18446744073709551616 + from_be_bytes w64 (drop 8 bs)
whole bs = omega (
  arith,
  get_or-take 8 bs 0 0 (omega arith),
  get_or-take 8 bs 1 0 (omega arith),
  get_or-take 8 bs 2 0 (omega arith),
  get_or-take 8 bs 3 0 (omega arith),
  get_or-take 8 bs 4 0 (omega arith),
  get_or-take 8 bs 5 0 (omega arith),
  get_or-take 8 bs 6 0 (omega arith),
  get_or-take 8 bs 7 0 (omega arith),
  get_or-drop 8 bs 0 0,
  get_or-drop 8 bs 1 0,
  get_or-drop 8 bs 2 0,
  get_or-drop 8 bs 3 0,
  get_or-drop 8 bs 4 0,
  get_or-drop 8 bs 5 0,
  get_or-drop 8 bs 6 0,
  get_or-drop 8 bs 7 0,
)

front_fits : (bs : List ℕ) → ((i : ℕ) → get_or bs i 0 < 256) → (i : ℕ) → get_or (take 8 bs) i 0 < 256
front_fits bs fits i = go (nat_lt i 8) refl
  where
    go : (b : Bool) → nat_lt i 8 ≡ b → get_or (take 8 bs) i 0 < 256
    go true e = let h = get_or-take 8 bs i 0 (grind (arith, nat_tests)) in let g = fits i in omega (arith, h, g)
    go false e = let long : length (take 8 bs) ≤ i = let l = length-take 8 bs in grind (arith, nat_tests, l) in let h = get_or_past (take 8 bs) i 0 long in omega (arith, h)

back_fits : (bs : List ℕ) → ((i : ℕ) → get_or bs i 0 < 256) → (i : ℕ) → get_or (drop 8 bs) i 0 < 256
back_fits bs fits i = let h = get_or-drop 8 bs i 0 in let g = fits (8 + i) in omega (arith, h, g)

pub be_bytes_16 : (bs : List ℕ) (n : ℕ) → length bs ≡ 16 → ((i : ℕ) → get_or bs i 0 < 256) → n ≡ from_be_bytes w128 bs → to_be_bytes w128 n ≡ bs
be_bytes_16 bs n l fits is =
    let hi : ℕ = from_be_bytes w64 (take 8 bs) in
    let lo : ℕ = from_be_bytes w64 (drop 8 bs) in
    let small : lo < 18446744073709551616 = from_small (drop 8 bs) (back_fits bs fits) in
    let front : length (take 8 bs) ≡ 8 = length-take-le 8 bs (omega (arith, l)) in
    let back : length (drop 8 bs) ≡ 8 = let h = length-drop 8 bs in omega (arith, h, l) in
    ap (λ (m : ℕ). to_be_bytes w128 m) (is ∙ whole bs)
    ∙ (halves hi lo small
    ∙ (ap (λ (xs : List ℕ). xs ++ to_be_bytes w64 lo) (be_bytes_8 (take 8 bs) hi front (front_fits bs fits) refl)
    ∙ (ap (λ (xs : List ℕ). take 8 bs ++ xs) (be_bytes_8 (drop 8 bs) lo back (back_fits bs fits) refl) ∙ take-append-drop 8 bs)))

pub from_be_bytes-to_be_bytes_16 : (n : ℕ) → n < 340282366920938463463374607431768211456 → from_be_bytes w128 (to_be_bytes w128 n) ≡ n
from_be_bytes-to_be_bytes_16 n h =
    let hi : ℕ = n / 18446744073709551616 in
    let lo : ℕ = n % 18446744073709551616 in
    let below : lo < 18446744073709551616 = omega arith in
    let above : hi < 18446744073709551616 = omega (arith, h) in
    let split : n ≡ hi * 18446744073709551616 + lo = omega arith in
    let high : from_be_bytes w64 (to_be_bytes w64 hi) ≡ hi = from_be_bytes-to_be_bytes_8 hi above in
    let low : from_be_bytes w64 (to_be_bytes w64 lo) ≡ lo = from_be_bytes-to_be_bytes_8 lo below in
    ap (λ (m : ℕ). from_be_bytes w128 (to_be_bytes w128 m)) split
    ∙ (ap (λ (xs : List ℕ). from_be_bytes w128 xs) (halves hi lo below)
    ∙ (joined _ _ _ _ _ _ _ _ _ _ _ _ _ _ _ _ ∙ (ap (λ (m : ℕ). m * 18446744073709551616 + from_be_bytes w64 (to_be_bytes w64 lo)) high ∙ (ap (λ (m : ℕ). hi * 18446744073709551616 + m) low ∙ sym split))))

pub from_below_16 : (bs : List ℕ) → ((i : ℕ) → get_or bs i 0 < 256) → from_be_bytes w128 bs < 340282366920938463463374607431768211456
from_below_16 bs fits =
    let high = from_small (take 8 bs) (front_fits bs fits) in
    let low = from_small (drop 8 bs) (back_fits bs fits) in
    omega (arith, whole bs, high, low)
