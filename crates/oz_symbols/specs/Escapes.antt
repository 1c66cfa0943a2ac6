-- How the private functions go through what is spelled between quotes.
use Rattle.std.specs.Prelude.{ℕ, List, [], ◌∷◌, ◌++◌, Bool, true, false, ◌==◌, if◌then◌else◌}

-- what an escape of this byte stands for
abbrev pub meaning_of : ℕ → ℕ
meaning_of b = if b == 110 then 10 else b

-- what a byte between quotes adds, behind a \ that escapes or not
abbrev pub meaning_in_quotes : Bool → ℕ → List ℕ
meaning_in_quotes true b = meaning_of b ∷ []
meaning_in_quotes false b = if b == 92 then [] else b ∷ []

-- the byte is such a \
abbrev pub is_escape_sign : Bool → ℕ → Bool
is_escape_sign true b = false
is_escape_sign false b = b == 92

-- each escape as what it stands for, behind a \ that escapes or not
abbrev pub text_in_quotes_from : Bool → List ℕ → List ℕ
text_in_quotes_from true [] = 92 ∷ []
text_in_quotes_from false [] = []
text_in_quotes_from escaping (b ∷ bs) = meaning_in_quotes escaping b ++ text_in_quotes_from (is_escape_sign escaping b) bs
