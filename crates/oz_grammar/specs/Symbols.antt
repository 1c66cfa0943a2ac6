-- The symbols of the grammar: what stands for each token, and the limits of lists of them.
use Rattle.std.specs.Prelude.{ℕ, zero, suc, ◌+◌, ◌-◌, ◌*◌, List, [], ◌∷◌, length, drop, take, Bool, true, false, not, ◌||◌, ◌==◌, nat_le, nat_lt, if◌then◌else◌, Result, Ok, Err, Option, Some, None, slice_index, codes, ℤ, pos, negsuc}
use Rattle.std.specs.Str.{bytes_eq}
use Rattle.oz_lexer.specs.declared.token.TokenKind.{TokenKind}
use Rattle.oz_lexer.specs.declared.token.TokenKind.TheVariants as kind
use Rattle.oz_lexer.specs.declared.token.LexKind.{LexKind}
use Rattle.oz_lexer.specs.Spelling.{digits_of, text_in_quotes}
use Rattle.oz_lexer.specs.Tokens.{Lexeme}
use Rattle.kernel_syntax.specs.declared.stmt.Op.TheVariants as op
use Rattle.kernel_syntax.specs.declared.stmt.TestOp.TheVariants as test
use Rattle.kernel_syntax.specs.Texts.{IsText, IsIntegerIfSome}
use Rattle.oz_grammar.specs.declared.symbol.Symbol.{Symbol}
use Rattle.oz_grammar.specs.declared.symbol.Symbol.TheVariants as t

-- the number that digits name in decimal, behind those that name n
abbrev pub number_after : ℕ → List ℕ → ℕ
number_after n [] = n
number_after n (c ∷ cs) = number_after (10 * n + (c - 48)) cs

-- the number that digits name in decimal
abbrev pub number_of : List ℕ → ℕ
number_of digits = number_after 0 digits

-- no first digit 0 before others
abbrev pub is_plain : List ℕ → Bool
is_plain digits = not (slice_index digits 0 == 48) || nat_le (length digits) 1

-- minus this number
abbrev pub negation : ℕ → ℤ
negation zero = pos zero
negation (suc n) = negsuc n

-- the integer of this sign and size: from -2^127 to 2^127 - 1
abbrev pub signed_integer : Bool → ℕ → Option ℤ
signed_integer true n = if nat_le n 170141183460469231731687303715884105728 then Some (negation n) else None
signed_integer _ n = if nat_lt n 170141183460469231731687303715884105728 then Some (pos n) else None

-- the integer that is spelled so, if it is a good one
unfoldable pub integer_of : List ℕ → Option ℤ
integer_of bytes =
    if is_plain (digits_of bytes) then signed_integer (slice_index bytes 0 == 126) (number_of (digits_of bytes)) else None

-- the text of an atom in quotes
abbrev pub quoted_text : List ℕ → List ℕ
quoted_text bytes = text_in_quotes (take (length bytes - 2) (drop 1 bytes))

-- a reserved word
unfoldable pub word_symbol : List ℕ → Symbol
word_symbol bytes =
    if bytes_eq bytes (codes "skip") then t.Skip
    else (if bytes_eq bytes (codes "local") then t.Local
    else (if bytes_eq bytes (codes "in") then t.In
    else (if bytes_eq bytes (codes "end") then t.End
    else (if bytes_eq bytes (codes "if") then t.If
    else (if bytes_eq bytes (codes "then") then t.Then
    else (if bytes_eq bytes (codes "else") then t.Else
    else (if bytes_eq bytes (codes "case") then t.Case
    else (if bytes_eq bytes (codes "of") then t.Of
    else (if bytes_eq bytes (codes "thread") then t.Thread
    else (if bytes_eq bytes (codes "at") then t.At
    else (if bytes_eq bytes (codes "try") then t.Try
    else (if bytes_eq bytes (codes "catch") then t.Catch
    else (if bytes_eq bytes (codes "raise") then t.Raise
    else (if bytes_eq bytes (codes "proc") then t.Proc
    else (if bytes_eq bytes (codes "div") then t.Operator op.Div
    else (if bytes_eq bytes (codes "mod") then t.Operator op.Mod
    else (if bytes_eq bytes (codes "fun") then t.Fun
    else (if bytes_eq bytes (codes "finally") then t.Finally
    else t.Unused))))))))))))))))))

-- a sign
unfoldable pub sign_symbol : List ℕ → Symbol
sign_symbol bytes =
    if bytes_eq bytes (codes "=") then t.Equals
    else (if bytes_eq bytes (codes "(") then t.OpenRound
    else (if bytes_eq bytes (codes ")") then t.CloseRound
    else (if bytes_eq bytes (codes "{") then t.OpenCurly
    else (if bytes_eq bytes (codes "}") then t.CloseCurly
    else (if bytes_eq bytes (codes "$") then t.Dollar
    else (if bytes_eq bytes (codes ":") then t.Colon
    else (if bytes_eq bytes (codes ".") then t.Dot
    else (if bytes_eq bytes (codes "|") then t.Bar
    else (if bytes_eq bytes (codes "+") then t.Operator op.Add
    else (if bytes_eq bytes (codes "-") then t.Operator op.Sub
    else (if bytes_eq bytes (codes "*") then t.Operator op.Mul
    else (if bytes_eq bytes (codes "=<") then t.Operator op.Le
    else (if bytes_eq bytes (codes "<") then t.Operator op.Lt
    else (if bytes_eq bytes (codes ">=") then t.Operator op.Ge
    else (if bytes_eq bytes (codes ">") then t.Operator op.Gt
    else (if bytes_eq bytes (codes "==") then t.Test test.Equal
    else (if bytes_eq bytes (codes "\\=") then t.Test test.NotEqual
    else (if bytes_eq bytes (codes "[]") then t.Clause
    else t.Unused))))))))))))))))))

-- the symbol of a token of this kind, spelled so
abbrev pub symbol_at : Result TokenKind LexKind → List ℕ → Symbol
symbol_at (Ok kind.Variable) bytes = t.Variable bytes
symbol_at (Ok kind.Atom) bytes = t.Atom bytes
symbol_at (Ok kind.Quoted) bytes = t.Atom (quoted_text bytes)
symbol_at (Ok kind.Integer) bytes = t.Integer (integer_of bytes)
symbol_at (Ok kind.Word) bytes = word_symbol bytes
symbol_at (Ok kind.Sign) bytes = sign_symbol bytes
symbol_at (Ok kind.End) bytes = t.EndOfText
symbol_at (Err fault) bytes = t.Bad fault

-- the symbol of a token, of the end of the text, or of a fault
abbrev pub symbol_of : Lexeme → Symbol
symbol_of l = symbol_at l.what l.bytes

-- the last of these symbols, and no other, is the end of the text or a lexical fault
abbrev pub ends_once : List Symbol → Bool
ends_once [] = false
ends_once (t.EndOfText ∷ []) = true
ends_once (t.EndOfText ∷ rest) = false
ends_once (t.Bad fault ∷ []) = true
ends_once (t.Bad fault ∷ rest) = false
ends_once (symbol ∷ rest) = ends_once rest

-- an atom's text, and an integer of 128 bits where it is a good one
abbrev pub IsSpelled : Symbol → Type 0
IsSpelled (t.Atom text) = IsText text
IsSpelled (t.Integer n) = IsIntegerIfSome n
IsSpelled symbol = Unit {0}
