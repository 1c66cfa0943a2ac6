-- How a text is scanned from the left, as the private functions do it. That this gives the tokens of the text is proved from
-- here.
use Rattle.std.specs.Prelude.{ℕ, ◌+◌, ◌-◌, List, [], ◌∷◌, take, Bool, true, false, not, ◌&&◌, ◌||◌, ◌==◌, nat_le, if◌then◌else◌, Option, Some, None, Result, Ok, Err}
use Rattle.std.specs.Borrow.{Bor}
use Rattle.std.specs.Char.{is_ascii_lowercase, is_ascii_uppercase, is_ascii_digit}
use Rattle.std.specs.List.{prefix_len}
use Rattle.tree_node.specs.Spelling.{is_word_byte}
use Rattle.tree_node.specs.Words.{is_reserved}
use Rattle.oz_lexer.specs.declared.token.TokenKind.{TokenKind}
use Rattle.oz_lexer.specs.declared.token.TokenKind.TheVariants.{Variable, Atom, Quoted, Integer, Word, Sign, End}
use Rattle.oz_lexer.specs.declared.token.LexKind.{LexKind}
use Rattle.oz_lexer.specs.declared.token.LexKind.TheVariants.{BadChar, OpenQuote, BadEscape, OpenComment, LongName}
use Rattle.oz_lexer.specs.Spelling.{is_control, is_escape, is_name}
use Rattle.oz_lexer.specs.Blanks.{is_blank, from_newline}

-- ---- blanks

-- the text behind the comment that is open so many times more than once, where it closes; last is the byte before the text,
-- 0 where that belongs to a pair
abbrev pub behind_comment : ℕ → ℕ → List ℕ → Option (List ℕ)
behind_comment depth last [] = None
behind_comment depth last (b ∷ bs) =
    if (last == 47) && (b == 42) then behind_comment (depth + 1) 0 bs
    else (if (last == 42) && (b == 47) then (if depth == 0 then Some bs else behind_comment (depth - 1) 0 bs)
    else behind_comment depth b bs)

-- the text behind a comment, or the fault that it stays open
abbrev pub closed_or : Option (List ℕ) → Result (Option (List ℕ)) LexKind
closed_or (Some rest) = Ok (Some rest)
closed_or None = Err OpenComment

-- the same behind a /: none where that begins no comment
abbrev pub behind_slash : List ℕ → Result (Option (List ℕ)) LexKind
behind_slash [] = Ok None
behind_slash (c ∷ cs) = if c == 42 then closed_or (behind_comment 0 0 cs) else Ok None

-- the text behind the blank or comment at the front, where there is one
abbrev pub behind_blank : List ℕ → Result (Option (List ℕ)) LexKind
behind_blank [] = Ok None
behind_blank (b ∷ bs) =
    if is_blank b then Ok (Some bs)
    else (if b == 37 then Ok (Some (from_newline bs))
    else (if b == 47 then behind_slash bs
    else Ok None))

-- a text that a function lends, as its bytes are now
abbrev pub seen_text : Option (Bor (List ℕ)) → Option (List ℕ)
seen_text None = None
seen_text (Some b) = Some b.now

-- the same of the text behind a blank or comment, or of its fault
abbrev pub seen_blank : Result (Option (Bor (List ℕ))) LexKind → Result (Option (List ℕ)) LexKind
seen_blank (Ok o) = Ok (seen_text o)
seen_blank (Err kind) = Err kind

-- ---- tokens

-- the signs of one byte
abbrev pub is_one_byte_sign : ℕ → Bool
is_one_byte_sign b =
    (b == 61) || ((b == 40) || ((b == 41) || ((b == 123) || ((b == 125) || ((b == 36) || ((b == 58) || ((b == 46) || ((b == 124)
    || ((b == 43) || ((b == 45) || ((b == 42) || ((b == 60) || (b == 62)))))))))))))

-- the signs of two bytes
abbrev pub is_two_byte_sign : ℕ → ℕ → Bool
is_two_byte_sign b c =
    ((b == 61) && (c == 60)) || (((b == 62) && (c == 61)) || (((b == 61) && (c == 61)) || (((b == 92) && (c == 61)) || ((b == 91) && (c == 93)))))

-- how many bytes the longest sign has that this byte begins before others, 0 where it begins none
abbrev pub sign_length : ℕ → List ℕ → ℕ
sign_length b [] = if is_one_byte_sign b then 1 else 0
sign_length b (c ∷ cs) = if is_two_byte_sign b c then 2 else (if is_one_byte_sign b then 1 else 0)

-- how many bytes the integer that ~ begins has
abbrev pub minus_length : ℕ → ℕ
minus_length digits = if digits == 0 then 0 else digits + 1

-- how many bytes the longest token without quotes has that this byte begins before others, 0 where it begins none
abbrev pub token_length : ℕ → List ℕ → ℕ
token_length b bs =
    if is_ascii_uppercase b || is_ascii_lowercase b then prefix_len is_word_byte bs + 1
    else (if is_ascii_digit b then prefix_len is_ascii_digit bs + 1
    else (if b == 126 then minus_length (prefix_len is_ascii_digit bs)
    else sign_length b bs))

-- the kind of the token without quotes that this byte begins
abbrev pub token_kind : ℕ → List ℕ → TokenKind
token_kind b bytes =
    if is_ascii_uppercase b then Variable
    else (if is_ascii_lowercase b then (if is_reserved bytes then Word else Atom)
    else (if is_ascii_digit b || (b == 126) then Integer
    else Sign))

-- how many bytes a quoted atom has, or its fault and how many bytes stand before that: behind so many of its bytes, the last
-- of which may be a \ that escapes
abbrev pub quote_from : Bool → List ℕ → ℕ → Result ℕ (LexKind × ℕ)
quote_from escaping [] n = Err (OpenQuote, 0)
quote_from true (b ∷ bs) n = if is_escape b then quote_from false bs (n + 1) else Err (BadEscape, n - 1)
quote_from false (b ∷ bs) n =
    if b == 39 then Ok (n + 1)
    else (if b == 92 then quote_from true bs (n + 1)
    else (if is_control b then Err (BadChar, n)
    else quote_from false bs (n + 1)))

-- a token of so many bytes, if it is no name too long
abbrev pub within_name_limit : TokenKind → ℕ → Result (TokenKind × ℕ) (LexKind × ℕ)
within_name_limit kind n = if is_name kind && not (nat_le n 255) then Err (LongName, 0) else Ok (kind, n)

-- a quoted atom of so many bytes, if it is no name too long, or the fault in it
abbrev pub quoted_token : Result ℕ (LexKind × ℕ) → Result (TokenKind × ℕ) (LexKind × ℕ)
quoted_token (Ok n) = within_name_limit Quoted n
quoted_token (Err e) = Err e

-- a token without quotes of so many bytes, if it is no name too long; of none where this byte begins no token, which is a fault
abbrev pub plain_token : ℕ → List ℕ → ℕ → Result (TokenKind × ℕ) (LexKind × ℕ)
plain_token b bs n = if n == 0 then Err (BadChar, 0) else within_name_limit (token_kind b (take n (b ∷ bs))) n

-- the token at the front of a text that begins with no blank and no comment, and how many bytes it has, or the fault there
-- and how many bytes stand before it
abbrev pub front_of : List ℕ → Result (TokenKind × ℕ) (LexKind × ℕ)
front_of [] = Ok (End, 0)
front_of (b ∷ bs) = if b == 39 then quoted_token (quote_from false bs 1) else plain_token b bs (token_length b bs)
