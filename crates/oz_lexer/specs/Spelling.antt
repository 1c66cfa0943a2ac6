-- How tokens are spelled (CTM appendix C, the lexical syntax of Oz).
use Rattle.std.specs.Prelude.{ℕ, List, [], ◌∷◌, length, drop, Bool, true, false, not, ◌&&◌, ◌||◌, ◌==◌, nat_le, if◌then◌else◌, Option, Some, None, slice_index, codes}
use Rattle.std.specs.Char.{is_ascii_lowercase, is_ascii_uppercase, is_ascii_digit}
use Rattle.std.specs.List.{list_all, list_any}
use Rattle.std.specs.Str.{bytes_eq}
use Rattle.tree_node.specs.Spelling.{is_word_byte}
use Rattle.tree_node.specs.Words.{is_reserved}
use Rattle.oz_lexer.specs.declared.token.TokenKind.{TokenKind}
use Rattle.oz_lexer.specs.declared.token.TokenKind.TheVariants.{Variable, Atom, Quoted, Integer, Word, Sign}

-- an upper-case letter, then letters, digits and _
abbrev pub is_variable : List ℕ → Bool
is_variable bytes = is_ascii_uppercase (slice_index bytes 0) && list_all is_word_byte bytes

-- a lower-case letter, then letters, digits and _
abbrev pub is_lower_word : List ℕ → Bool
is_lower_word bytes = is_ascii_lowercase (slice_index bytes 0) && list_all is_word_byte bytes

-- decimal digits, at least one
abbrev pub are_digits : List ℕ → Bool
are_digits [] = false
are_digits (b ∷ bs) = is_ascii_digit b && list_all is_ascii_digit bs

-- an integer without the ~ before a negative one
abbrev pub digits_of : List ℕ → List ℕ
digits_of bytes = if slice_index bytes 0 == 126 then drop 1 bytes else bytes

-- a control character of ASCII: the bytes 0 to 31 and 127
abbrev pub is_control : ℕ → Bool
is_control b = nat_le b 31 || (b == 127)

-- what may stand in a quoted atom as it is: all but ', \ and control characters
abbrev pub is_character : ℕ → Bool
is_character b = not ((b == 39) || ((b == 92) || is_control b))

-- what may stand behind \ in a quoted atom: ', \ and n
abbrev pub is_escape : ℕ → Bool
is_escape b = (b == 39) || ((b == 92) || (b == 110))

-- characters and escapes
abbrev pub is_quotable : List ℕ → Bool
is_quotable [] = true
is_quotable (b ∷ []) = is_character b
is_quotable (b ∷ c ∷ bs) = if b == 92 then is_escape c && is_quotable bs else (is_character b && is_quotable (c ∷ bs))

-- characters and escapes, then the closing quote
abbrev pub closes_quote : List ℕ → Bool
closes_quote [] = false
closes_quote (b ∷ []) = b == 39
closes_quote (b ∷ c ∷ bs) = if b == 92 then is_escape c && closes_quote bs else (is_character b && closes_quote (c ∷ bs))

-- an atom in single quotes
abbrev pub is_quoted : List ℕ → Bool
is_quoted bytes = (slice_index bytes 0 == 39) && closes_quote (drop 1 bytes)

-- all signs
abbrev pub signs : List (List ℕ)
signs =
    codes "=" ∷ codes "(" ∷ codes ")" ∷ codes "{" ∷ codes "}" ∷ codes "$" ∷ codes ":" ∷ codes "." ∷ codes "|"
    ∷ codes "+" ∷ codes "-" ∷ codes "*" ∷ codes "<" ∷ codes ">" ∷ codes "=<" ∷ codes ">=" ∷ codes "==" ∷ codes "\\="
    ∷ codes "[]" ∷ []

-- the bytes are those of one of the signs
abbrev pub is_sign : List ℕ → Bool
is_sign bytes = list_any (λ sign. bytes_eq bytes sign) signs

-- the kind of token that these bytes spell
unfoldable pub token_kind_of : List ℕ → Option TokenKind
token_kind_of bytes =
    if is_variable bytes then Some Variable
    else (if is_lower_word bytes then (if is_reserved bytes then Some Word else Some Atom)
    else (if is_quoted bytes then Some Quoted
    else (if are_digits (digits_of bytes) then Some Integer
    else (if is_sign bytes then Some Sign
    else None))))

-- the kinds that have at most 255 bytes
abbrev pub is_name : TokenKind → Bool
is_name Variable = true
is_name Atom = true
is_name Quoted = true
is_name _ = false

-- a name too long
abbrev pub is_long : TokenKind → List ℕ → Bool
is_long kind bytes = is_name kind && not (nat_le (length bytes) 255)

-- the text of an atom, spelled between its quotes: each escape as what it stands for
abbrev pub text_in_quotes : List ℕ → List ℕ
text_in_quotes [] = []
text_in_quotes (b ∷ []) = b ∷ []
text_in_quotes (b ∷ c ∷ bs) = if b == 92 then (if c == 110 then 10 else c) ∷ text_in_quotes bs else b ∷ text_in_quotes (c ∷ bs)
