-- Words of four and of five letters by their letters.
use Rattle.std.proofs.Common.{◌≡◌, ℕ, List, [], ◌∷◌, length, true, refl}
use Rattle.std.specs.Prelude.{slice_index, codes}
use Rattle.tree_node.specs.Words.{reserved_words, is_reserved}

four : (text : List ℕ) (v w x y : ℕ) → length text ≡ 4 → slice_index text 0 ≡ v → slice_index text 1 ≡ w → slice_index text 2 ≡ x → slice_index text 3 ≡ y → text ≡ v ∷ w ∷ x ∷ y ∷ []
four [] v w x y n p q r s = absurd cc
four (a ∷ []) v w x y n p q r s = absurd cc
four (a ∷ b ∷ []) v w x y n p q r s = absurd cc
four (a ∷ b ∷ c ∷ []) v w x y n p q r s = absurd cc
four (a ∷ b ∷ c ∷ d ∷ []) v w x y n p q r s =
    let first : a ≡ v = p in
    let second : b ≡ w = q in
    let third : c ≡ x = r in
    let fourth : d ≡ y = s in
    cc
four (a ∷ b ∷ c ∷ d ∷ e ∷ more) v w x y n p q r s = absurd cc

five : (text : List ℕ) (v w x y z : ℕ) → length text ≡ 5 → slice_index text 0 ≡ v → slice_index text 1 ≡ w → slice_index text 2 ≡ x → slice_index text 3 ≡ y → slice_index text 4 ≡ z → text ≡ v ∷ w ∷ x ∷ y ∷ z ∷ []
five [] v w x y z n p q r s t = absurd cc
five (a ∷ []) v w x y z n p q r s t = absurd cc
five (a ∷ b ∷ []) v w x y z n p q r s t = absurd cc
five (a ∷ b ∷ c ∷ []) v w x y z n p q r s t = absurd cc
five (a ∷ b ∷ c ∷ d ∷ []) v w x y z n p q r s t = absurd cc
five (a ∷ b ∷ c ∷ d ∷ e ∷ []) v w x y z n p q r s t =
    let first : a ≡ v = p in
    let second : b ≡ w = q in
    let third : c ≡ x = r in
    let fourth : d ≡ y = s in
    let fifth : e ≡ z = t in
    cc
five (a ∷ b ∷ c ∷ d ∷ e ∷ f ∷ more) v w x y z n p q r s t = absurd cc

word_of : (text word : List ℕ) → text ≡ word → is_reserved word ≡ true → is_reserved text ≡ true
word_of text word same is = rw same is

then_is_word : is_reserved (codes "then") ≡ true
unfolding reserved_words
then_is_word = refl

else_is_word : is_reserved (codes "else") ≡ true
unfolding reserved_words
else_is_word = refl

local_is_word : is_reserved (codes "local") ≡ true
unfolding reserved_words
local_is_word = refl

pub then_is : (text : List ℕ) → length text ≡ 4 → slice_index text 0 ≡ 116 → slice_index text 1 ≡ 104 → slice_index text 2 ≡ 101 → slice_index text 3 ≡ 110 → is_reserved text ≡ true
then_is text n p q r s = word_of text (codes "then") (four text 116 104 101 110 n p q r s) then_is_word

pub else_is : (text : List ℕ) → length text ≡ 4 → slice_index text 0 ≡ 101 → slice_index text 1 ≡ 108 → slice_index text 2 ≡ 115 → slice_index text 3 ≡ 101 → is_reserved text ≡ true
else_is text n p q r s = word_of text (codes "else") (four text 101 108 115 101 n p q r s) else_is_word

pub local_is : (text : List ℕ) → length text ≡ 5 → slice_index text 0 ≡ 108 → slice_index text 1 ≡ 111 → slice_index text 2 ≡ 99 → slice_index text 3 ≡ 97 → slice_index text 4 ≡ 108 → is_reserved text ≡ true
local_is text n p q r s t = word_of text (codes "local") (five text 108 111 99 97 108 n p q r s t) local_is_word
