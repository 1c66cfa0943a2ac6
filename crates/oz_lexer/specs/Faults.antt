-- Lexical faults.
use Rattle.std.specs.Prelude.{◌≡◌, ℕ, ◌+◌, ◌<◌, List, [], ◌∷◌, ◌++◌, length, true, false, Some, None, slice_index}
use Rattle.oz_lexer.specs.declared.token.TokenKind.{TokenKind}
use Rattle.oz_lexer.specs.declared.token.LexKind.{LexKind}
use Rattle.oz_lexer.specs.declared.token.LexKind.TheVariants.{BadChar, OpenQuote, BadEscape, OpenComment, LongName}
use Rattle.oz_lexer.specs.Spelling.{is_control, is_escape, is_quotable, token_kind_of, is_long}
use Rattle.oz_lexer.specs.Blanks.{is_blank, IsBehindComment}

-- the longest token at the front of a text, and what stands behind it: no more of the text than its bytes is a token
pub record IsLongestToken (text : List ℕ) (kind : TokenKind) (bytes rest : List ℕ) : Type 0 where
  pub is : text ≡ bytes ++ rest
  pub spells : token_kind_of bytes ≡ Some kind
  pub longest : (more behind : List ℕ) → rest ≡ more ++ behind → 0 < length more → token_kind_of (bytes ++ more) ≡ None

-- no token, blank or comment begins here, and no quote opens
pub record NothingBegins (b : ℕ) (text : List ℕ) : Type 0 where
  pub no_token : (bytes rest : List ℕ) → b ∷ text ≡ bytes ++ rest → token_kind_of bytes ≡ None
  pub no_blank : is_blank b ≡ false
  pub no_line : b ≡ 37 → ⊥
  pub no_comment : b ≡ 47 → slice_index text 0 ≡ 42 → ⊥
  pub no_quote : b ≡ 39 → ⊥

-- the first lexical fault of a text that begins with no blank or closed comment, and how many bytes stand before its place
pub data FaultAt : List ℕ → LexKind → ℕ → Type 0 where
  bad_char : (b : ℕ) (text : List ℕ) → NothingBegins b text → FaultAt (b ∷ text) BadChar 0
  control : (b : ℕ) (inside rest : List ℕ) → is_quotable inside ≡ true → is_control b ≡ true → FaultAt (39 ∷ (inside ++ b ∷ rest)) BadChar (length inside + 1)
  bad_escape : (b : ℕ) (inside rest : List ℕ) → is_quotable inside ≡ true → is_escape b ≡ false → FaultAt (39 ∷ (inside ++ 92 ∷ b ∷ rest)) BadEscape (length inside + 1)
  open_quote : (inside : List ℕ) → is_quotable inside ≡ true → FaultAt (39 ∷ inside) OpenQuote 0
  open_escape : (inside : List ℕ) → is_quotable inside ≡ true → FaultAt (39 ∷ (inside ++ 92 ∷ [])) OpenQuote 0
  open_comment : (text : List ℕ) → ((rest : List ℕ) → IsBehindComment text rest → ⊥) → FaultAt (47 ∷ 42 ∷ text) OpenComment 0
  long_name : (text : List ℕ) (kind : TokenKind) (bytes rest : List ℕ) → IsLongestToken text kind bytes rest → is_long kind bytes ≡ true → FaultAt text LongName 0
