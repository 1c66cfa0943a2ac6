-- Blanks and comments, which stand between tokens.
use Rattle.std.specs.Prelude.{◌≡◌, ℕ, List, ◌∷◌, drop, Bool, true, false, not, ◌&&◌, ◌||◌, ◌==◌, nat_le, slice_index}
use Rattle.std.specs.List.{prefix_len}

-- the bytes 9 to 13, the blank, and ?, which only marks output arguments
abbrev pub is_blank : ℕ → Bool
is_blank b = (nat_le 9 b && nat_le b 13) || ((b == 32) || (b == 63))

-- no newline
abbrev pub is_in_line : ℕ → Bool
is_in_line b = not (b == 10)

-- the text from its first newline on
abbrev pub from_newline : List ℕ → List ℕ
from_newline text = drop (prefix_len is_in_line text) text

-- /* or */
abbrev pub is_comment_sign : ℕ → ℕ → Bool
is_comment_sign b c = ((b == 47) && (c == 42)) || ((b == 42) && (c == 47))

-- a text behind /* closes this comment with the */ before rest: comments inside close first. Pairs are read from the left
pub data IsBehindComment : List ℕ → List ℕ → Type 0 where
  closed : {rest : List ℕ} → IsBehindComment (42 ∷ 47 ∷ rest) rest
  nested : {text middle rest : List ℕ} → IsBehindComment text middle → IsBehindComment middle rest → IsBehindComment (47 ∷ 42 ∷ text) rest
  other : {b : ℕ} {text rest : List ℕ} → is_comment_sign b (slice_index text 0) ≡ false → IsBehindComment text rest → IsBehindComment (b ∷ text) rest

-- a text is blanks, comments to the end of a line, and comments in brackets, before rest
pub data IsBehindBlanks : List ℕ → List ℕ → Type 0 where
  here : {text : List ℕ} → IsBehindBlanks text text
  blank : {b : ℕ} {text rest : List ℕ} → is_blank b ≡ true → IsBehindBlanks text rest → IsBehindBlanks (b ∷ text) rest
  line : {text rest : List ℕ} → IsBehindBlanks (from_newline text) rest → IsBehindBlanks (37 ∷ text) rest
  comment : {text middle rest : List ℕ} → IsBehindComment text middle → IsBehindBlanks middle rest → IsBehindBlanks (47 ∷ 42 ∷ text) rest
