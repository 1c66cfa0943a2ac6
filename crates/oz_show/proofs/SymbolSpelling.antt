-- Each symbol of a canonical text is spelled as a token, which is read as the symbol.
use Rattle.std.proofs.Common.{◌≡◌, ◌⊎◌, inl, inr, ℕ, ◌<◌, ◌≤◌, ◌^◌, List, [], ◌∷◌, ◌++◌, length, eqb, Bool, true, false, Option, Some, None, Ok, refl, ap, arith}
use Rattle.std.specs.Prelude.{◌&&◌, nat_le, slice_index, ℤ}
use Rattle.std.specs.Str.{IsUtf8}
use Rattle.std.specs.Char.{is_ascii_digit, is_ascii_lowercase, is_ascii_uppercase}
use Rattle.std.specs.List.{list_all}
use Rattle.tree_node.specs.Spelling.{is_bare, escaped_text, atom_text, int_text, is_word_byte}
use Rattle.tree_node.specs.Words.{reserved_words}
use Rattle.kernel_syntax.specs.declared.stmt.Op.{Op}
use Rattle.kernel_syntax.specs.declared.stmt.Op.TheVariants as op
use Rattle.kernel_syntax.specs.declared.stmt.TestOp.{TestOp}
use Rattle.kernel_syntax.specs.declared.stmt.TestOp.TheVariants as test
use Rattle.oz_lexer.specs.declared.token.TokenKind.{TokenKind}
use Rattle.oz_lexer.specs.declared.token.TokenKind.TheVariants as kind
use Rattle.oz_lexer.specs.Spelling.{token_kind_of, is_long, is_variable, is_lower_word, is_quoted}
use Rattle.oz_lexer.specs.Faults.{IsLongestToken}
use Rattle.oz_grammar.specs.declared.symbol.Symbol.{Symbol}
use Rattle.oz_grammar.specs.declared.symbol.Symbol.TheVariants as t
use Rattle.oz_grammar.specs.Symbols.{symbol_at, word_symbol, sign_symbol}
use Rattle.oz_grammar.specs.Canonical.{name_at}
use Rattle.oz_show.specs.CanonicalText.{symbol_text}
use Rattle.oz_show.proofs.Spaced.{IsSpace, longest_spaced, longest_quoted}
use Rattle.oz_grammar.proofs.Digits.{short_decimal, word_bytes, FitsInteger, integer}
use Rattle.oz_grammar.proofs.Atoms.{is_atom_byte, quoted, bare}
use Rattle.std.proofs.lemmas.Bool.{and_parts}

-- an atom that can be written: its spelling is no longer than a name may be
abbrev pub IsAtom : List ℕ → Type 0
IsAtom a = (list_all is_atom_byte a ≡ true) × (length (atom_text a) ≤ 255) × IsUtf8 a

abbrev pub IsInteger : Option ℤ → Type 0
IsInteger (Some z) = FitsInteger z
IsInteger None = ⊥

-- a symbol that can be written
abbrev pub IsWritten : Symbol → Type 0
IsWritten (t.Variable x) = (is_variable x ≡ true) × (length x ≤ 255)
IsWritten (t.Atom a) = IsAtom a
IsWritten (t.Integer n) = IsInteger n
IsWritten t.Fun = ⊥
IsWritten t.Finally = ⊥
IsWritten t.Clause = ⊥
IsWritten t.Unused = ⊥
IsWritten t.EndOfText = ⊥
IsWritten (t.Bad k) = ⊥
IsWritten symbol = Unit {0}

-- the token that a symbol is spelled as
pub record Token (symbol : Symbol) : Type 0 where
  pub what : TokenKind
  pub no_end : what ≡ kind.End → ⊥
  pub spells : token_kind_of (symbol_text symbol) ≡ Some what
  pub short : is_long what (symbol_text symbol) ≡ false
  pub back : symbol_at (Ok what) (symbol_text symbol) ≡ symbol
  pub longest : (b : ℕ) (tail : List ℕ) → IsSpace b → IsLongestToken (symbol_text symbol ++ b ∷ tail) what (symbol_text symbol) (b ∷ tail)

-- a symbol that is spelled without quotes
unquoted : (symbol : Symbol) (k : TokenKind) → (k ≡ kind.End → ⊥) → token_kind_of (symbol_text symbol) ≡ Some k → is_long k (symbol_text symbol) ≡ false → symbol_at (Ok k) (symbol_text symbol) ≡ symbol
    → eqb (slice_index (symbol_text symbol) 0) 39 ≡ false → 0 < length (symbol_text symbol) → Token symbol
unquoted symbol k no_end spells short back first some = record {
  what = k;
  no_end = no_end;
  spells = spells;
  short = short;
  back = back;
  longest = λ b tail s. longest_spaced (symbol_text symbol) k b tail spells first some s;
}

word : (symbol : Symbol) → token_kind_of (symbol_text symbol) ≡ Some kind.Word → word_symbol (symbol_text symbol) ≡ symbol → eqb (slice_index (symbol_text symbol) 0) 39 ≡ false → 0 < length (symbol_text symbol) → Token symbol
word symbol spells back first some = unquoted symbol kind.Word (λ e. cc) spells refl back first some

sign : (symbol : Symbol) → token_kind_of (symbol_text symbol) ≡ Some kind.Sign → sign_symbol (symbol_text symbol) ≡ symbol → eqb (slice_index (symbol_text symbol) 0) 39 ≡ false → 0 < length (symbol_text symbol) → Token symbol
sign symbol spells back first some = unquoted symbol kind.Sign (λ e. cc) spells refl back first some

at_most : (n : ℕ) → n ≤ 255 → nat_le n 255 ≡ true
at_most n le = grind arith

variable_token : (x : List ℕ) → is_variable x ≡ true → length x ≤ 255 → Token (t.Variable x)
unfolding token_kind_of
variable_token [] is le = cc
variable_token (c ∷ cs) is le =
    let upper = (and_parts (is_ascii_uppercase c) (list_all is_word_byte (c ∷ cs)) is).0 in
    unquoted (t.Variable (c ∷ cs)) kind.Variable (λ e. cc) (rw is refl) (rw (at_most (length (c ∷ cs)) le) refl) refl (grind arith) (omega arith)

pub name_written : (k : ℕ) → k < 2 ^ 32 → IsWritten (t.Variable (name_at k))
name_written k small =
    let fits : k < 2 ^ 64 = omega (arith, small) in
    let short = short_decimal k fits in
    (rw (word_bytes k (omega (arith, fits))) refl, omega (arith, short))

integer_token : (z : ℤ) → FitsInteger z → Token (t.Integer (Some z))
unfolding token_kind_of
integer_token z fits =
    let i = integer z fits in
    let other = apart (int_text z) i.some i.first in
    unquoted (t.Integer (Some z)) kind.Integer (λ e. cc) (rw (other.0, other.1, other.2, i.digits) refl) refl (ap t.Integer i.value) other.3 i.some
  where
    apart : (bytes : List ℕ) → 0 < length bytes → (is_ascii_digit (slice_index bytes 0) ≡ true) ⊎ (slice_index bytes 0 ≡ 126)
        → (is_variable bytes ≡ false) × (is_lower_word bytes ≡ false) × (is_quoted bytes ≡ false) × (eqb (slice_index bytes 0) 39 ≡ false)
    apart [] some first = absurd (omega (arith, some))
    apart (c ∷ cs) some first =
        let upper : is_ascii_uppercase c ≡ false = elim first [ inl d ↦ grind arith | inr s ↦ grind arith ] in
        let lower : is_ascii_lowercase c ≡ false = elim first [ inl d ↦ grind arith | inr s ↦ grind arith ] in
        let quote : eqb c 39 ≡ false = elim first [ inl d ↦ grind arith | inr s ↦ grind arith ] in
        (ap (λ (b : Bool). b && list_all is_word_byte (c ∷ cs)) upper, ap (λ (b : Bool). b && list_all is_word_byte (c ∷ cs)) lower, rw quote refl, quote)

atom_token : (a : List ℕ) → IsAtom a → Token (t.Atom a)
atom_token a is = go (is_bare a) refl
  where
    go : (b : Bool) → is_bare a ≡ b → Token (t.Atom a)
    go true e =
        let known = bare a e in
        let same : atom_text a ≡ a = rw e refl in
        let least : nat_le (length a) 255 ≡ true = at_most (length a) (omega (arith, ap length same, is.1)) in
        unquoted (t.Atom a) kind.Atom (λ h. cc) (rw same known.kind) (rw (same, least) refl) (rw same refl) (rw same known.first) (rw same known.some)
    go false e =
        let known = quoted a is.0 in
        let same : atom_text a ≡ 39 ∷ (escaped_text a ++ 39 ∷ []) = rw e refl in
        let least : nat_le (length (39 ∷ (escaped_text a ++ 39 ∷ []))) 255 ≡ true = at_most (length (39 ∷ (escaped_text a ++ 39 ∷ []))) (omega (arith, ap length same, is.1)) in
        record {
          what = kind.Quoted;
          no_end = λ h. cc;
          spells = rw same known.kind;
          short = rw (same, least) refl;
          back = rw same (ap t.Atom known.text);
          longest = λ b tail s. rw same (longest_quoted (escaped_text a ++ 39 ∷ []) b tail known.kind known.closed s);
        }

operator_token : (o : Op) → Token (t.Operator o)
unfolding token_kind_of word_symbol sign_symbol reserved_words
operator_token op.Add = sign (t.Operator op.Add) refl refl refl (omega arith)
operator_token op.Sub = sign (t.Operator op.Sub) refl refl refl (omega arith)
operator_token op.Mul = sign (t.Operator op.Mul) refl refl refl (omega arith)
operator_token op.Div = word (t.Operator op.Div) refl refl refl (omega arith)
operator_token op.Mod = word (t.Operator op.Mod) refl refl refl (omega arith)
operator_token op.Le = sign (t.Operator op.Le) refl refl refl (omega arith)
operator_token op.Lt = sign (t.Operator op.Lt) refl refl refl (omega arith)
operator_token op.Ge = sign (t.Operator op.Ge) refl refl refl (omega arith)
operator_token op.Gt = sign (t.Operator op.Gt) refl refl refl (omega arith)

test_token : (o : TestOp) → Token (t.Test o)
unfolding token_kind_of word_symbol sign_symbol reserved_words
test_token test.Equal = sign (t.Test test.Equal) refl refl refl (omega arith)
test_token test.NotEqual = sign (t.Test test.NotEqual) refl refl refl (omega arith)

integer_or_none : (n : Option ℤ) → IsInteger n → Token (t.Integer n)
integer_or_none (Some z) fits = integer_token z fits
integer_or_none None fits = absurd fits

pub token_of : (symbol : Symbol) → IsWritten symbol → Token symbol
unfolding token_kind_of word_symbol sign_symbol reserved_words
token_of (t.Variable x) w = variable_token x w.0 w.1
token_of (t.Atom a) w = atom_token a w
token_of (t.Integer n) w = integer_or_none n w
token_of t.Skip w = word t.Skip refl refl refl (omega arith)
token_of t.Local w = word t.Local refl refl refl (omega arith)
token_of t.In w = word t.In refl refl refl (omega arith)
token_of t.End w = word t.End refl refl refl (omega arith)
token_of t.If w = word t.If refl refl refl (omega arith)
token_of t.Then w = word t.Then refl refl refl (omega arith)
token_of t.Else w = word t.Else refl refl refl (omega arith)
token_of t.Case w = word t.Case refl refl refl (omega arith)
token_of t.Of w = word t.Of refl refl refl (omega arith)
token_of t.Thread w = word t.Thread refl refl refl (omega arith)
token_of t.At w = word t.At refl refl refl (omega arith)
token_of t.Try w = word t.Try refl refl refl (omega arith)
token_of t.Catch w = word t.Catch refl refl refl (omega arith)
token_of t.Raise w = word t.Raise refl refl refl (omega arith)
token_of t.Proc w = word t.Proc refl refl refl (omega arith)
token_of t.Equals w = sign t.Equals refl refl refl (omega arith)
token_of t.OpenRound w = sign t.OpenRound refl refl refl (omega arith)
token_of t.CloseRound w = sign t.CloseRound refl refl refl (omega arith)
token_of t.OpenCurly w = sign t.OpenCurly refl refl refl (omega arith)
token_of t.CloseCurly w = sign t.CloseCurly refl refl refl (omega arith)
token_of t.Dollar w = sign t.Dollar refl refl refl (omega arith)
token_of t.Colon w = sign t.Colon refl refl refl (omega arith)
token_of t.Dot w = sign t.Dot refl refl refl (omega arith)
token_of t.Bar w = sign t.Bar refl refl refl (omega arith)
token_of (t.Operator o) w = operator_token o
token_of (t.Test o) w = test_token o
token_of t.Fun w = absurd w
token_of t.Finally w = absurd w
token_of t.Clause w = absurd w
token_of t.Unused w = absurd w
token_of t.EndOfText w = absurd w
token_of (t.Bad k) w = absurd w
