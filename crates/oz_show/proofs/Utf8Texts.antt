-- Canonical texts are UTF-8.
use Rattle.std.proofs.Common.{◌≡◌, ◌∙◌, ◌⊎◌, inl, inr, ℕ, suc, ◌<◌, ◌≤◌, List, [], ◌∷◌, ◌++◌, eqb, Bool, true, false, cond, Some, None, IsUtf8, refl, sym, ap, subst, arith}
use Rattle.std.specs.Prelude.{◌&&◌, ◌||◌, nat_lt, decimal, ℤ, pos, negsuc}
use Rattle.std.specs.Char.{is_ascii_uppercase}
use Rattle.std.specs.List.{list_all}
use Rattle.std.proofs.lemmas.Bool.{cases_lt, and_parts}
use Rattle.std.proofs.lemmas.Str.{IsUtf8-append, IsUtf8-nil, IsUtf8-encode, encode_ascii}
use lib.Utf8.{scalar, scalars, encodes, encode}
use Rattle.tree_node.specs.Spelling.{is_word_byte, is_bare, escaped_text, atom_text}
use Rattle.kernel_syntax.specs.declared.stmt.Op.{Op}
use Rattle.kernel_syntax.specs.declared.stmt.Op.TheVariants as op
use Rattle.kernel_syntax.specs.declared.stmt.TestOp.{TestOp}
use Rattle.kernel_syntax.specs.declared.stmt.TestOp.TheVariants as test
use Rattle.oz_grammar.specs.declared.symbol.Symbol.{Symbol}
use Rattle.oz_grammar.specs.declared.symbol.Symbol.TheVariants as t
use Rattle.oz_grammar.proofs.Digits.{word_bytes, FitsInteger}
use Rattle.oz_grammar.proofs.TextInQuotes.{AreHigh, encode_high, ascii_before}
use Rattle.oz_show.specs.CanonicalText.{operator_text, test_text, symbol_text, text_behind, symbols_text}
use Rattle.oz_show.proofs.SymbolSpelling.{IsWritten}
use Rattle.oz_show.proofs.SpelledTokens.{Written, ends, more, behind_is}
use Rattle.oz_lexer.proofs.Boundaries.{word_ascii}

-- ---- atoms in quotes

high_escaped : (xs rest : List ℕ) → AreHigh xs → escaped_text (xs ++ rest) ≡ xs ++ escaped_text rest
high_escaped [] rest h = refl
high_escaped (x ∷ xs) rest h =
    let newline : eqb x 10 ≡ false = grind (arith, h.0) in
    let quote : eqb x 39 ≡ false = grind (arith, h.0) in
    let backslash : eqb x 92 ≡ false = grind (arith, h.0) in
    rw (newline, quote, backslash) (ap (λ (ys : List ℕ). x ∷ ys) (high_escaped xs rest h.1))

ascii_escaped : (c : ℕ) (bs : List ℕ) → c < 128 → IsUtf8 (escaped_text bs) → IsUtf8 (escaped_text (c ∷ bs))
ascii_escaped c bs low behind = go (eqb c 10) (eqb c 39) (eqb c 92)
  where
    go : (n q b : Bool) → IsUtf8 (cond n (92 ∷ 110 ∷ []) (cond (q || b) (92 ∷ c ∷ []) (c ∷ [])) ++ escaped_text bs)
    go true q b = ascii_before 92 (110 ∷ escaped_text bs) (omega arith) (ascii_before 110 (escaped_text bs) (omega arith) behind)
    go false true b = ascii_before 92 (c ∷ escaped_text bs) (omega arith) (ascii_before c (escaped_text bs) low behind)
    go false false true = ascii_before 92 (c ∷ escaped_text bs) (omega arith) (ascii_before c (escaped_text bs) low behind)
    go false false false = ascii_before c (escaped_text bs) low behind

first_escaped : (c : ℕ) (bs : List ℕ) → scalar c ≡ true → (c < 128) ⊎ (128 ≤ c) → IsUtf8 (escaped_text bs) → IsUtf8 (escaped_text (encode c ++ bs))
first_escaped c bs is (inl low) behind = subst (λ (xs : List ℕ). IsUtf8 (escaped_text (xs ++ bs))) (sym (encode_ascii c low)) (ascii_escaped c bs low behind)
first_escaped c bs is (inr high) behind = subst IsUtf8 (sym (high_escaped (encode c) bs (encode_high c high))) (IsUtf8-append (encode c) (escaped_text bs) (IsUtf8-encode c is) behind)

all_escaped : (cs : List ℕ) → scalars cs ≡ true → IsUtf8 (escaped_text (encodes cs))
all_escaped [] e = IsUtf8-nil
all_escaped (c ∷ cs) e =
    let two = and_parts (scalar c) (scalars cs) e in first_escaped c (encodes cs) two.0 (cases_lt c 128) (all_escaped cs two.1)

escaped_utf8 : (bs : List ℕ) → IsUtf8 bs → IsUtf8 (escaped_text bs)
escaped_utf8 bs utf8 = subst (λ (xs : List ℕ). IsUtf8 (escaped_text xs)) utf8.1.1 (all_escaped utf8.0 utf8.1.0)

atom_utf8 : (a : List ℕ) → IsUtf8 a → IsUtf8 (atom_text a)
atom_utf8 a utf8 = go (is_bare a)
  where
    go : (b : Bool) → IsUtf8 (cond b a (39 ∷ (escaped_text a ++ 39 ∷ [])))
    go true = utf8
    go false = ascii_before 39 (escaped_text a ++ 39 ∷ []) (omega arith) (IsUtf8-append (escaped_text a) (39 ∷ []) (escaped_utf8 a utf8) (ascii_before 39 [] (omega arith) IsUtf8-nil))

-- ---- other symbols

all_ascii : (bs : List ℕ) → list_all (λ b. nat_lt b 128) bs ≡ true → IsUtf8 bs
all_ascii [] all = IsUtf8-nil
all_ascii (b ∷ bs) all =
    let two = and_parts (nat_lt b 128) (list_all (λ c. nat_lt c 128) bs) all in
    ascii_before b bs (grind (arith, two.0)) (all_ascii bs two.1)

words_utf8 : (bs : List ℕ) → list_all is_word_byte bs ≡ true → IsUtf8 bs
words_utf8 [] all = IsUtf8-nil
words_utf8 (b ∷ bs) all =
    let two = and_parts (is_word_byte b) (list_all is_word_byte bs) all in ascii_before b bs (word_ascii b two.0) (words_utf8 bs two.1)

integer_utf8 : (z : ℤ) → FitsInteger z → IsUtf8 (symbol_text (t.Integer (Some z)))
integer_utf8 (pos n) fits = words_utf8 (decimal n) (word_bytes n (omega (arith, fits)))
integer_utf8 (negsuc n) fits = ascii_before 126 (decimal (suc n)) (omega arith) (words_utf8 (decimal (suc n)) (word_bytes (suc n) (omega (arith, fits))))

operator_utf8 : (o : Op) → IsUtf8 (operator_text o)
operator_utf8 op.Add = all_ascii _ refl
operator_utf8 op.Sub = all_ascii _ refl
operator_utf8 op.Mul = all_ascii _ refl
operator_utf8 op.Div = all_ascii _ refl
operator_utf8 op.Mod = all_ascii _ refl
operator_utf8 op.Le = all_ascii _ refl
operator_utf8 op.Lt = all_ascii _ refl
operator_utf8 op.Ge = all_ascii _ refl
operator_utf8 op.Gt = all_ascii _ refl

test_utf8 : (o : TestOp) → IsUtf8 (test_text o)
test_utf8 test.Equal = all_ascii _ refl
test_utf8 test.NotEqual = all_ascii _ refl

symbol_utf8 : (x : Symbol) → IsWritten x → IsUtf8 (symbol_text x)
symbol_utf8 (t.Variable x) w = words_utf8 x (name_bytes x w.0)
  where
    name_bytes : (bs : List ℕ) → (is_ascii_uppercase (Rattle.std.specs.Prelude.slice_index bs 0) && list_all is_word_byte bs) ≡ true → list_all is_word_byte bs ≡ true
    name_bytes bs e = (and_parts (is_ascii_uppercase (Rattle.std.specs.Prelude.slice_index bs 0)) (list_all is_word_byte bs) e).1
symbol_utf8 (t.Atom a) w = atom_utf8 a w.2
symbol_utf8 (t.Integer (Some z)) w = integer_utf8 z w
symbol_utf8 (t.Integer None) w = absurd w
symbol_utf8 t.Skip w = all_ascii _ refl
symbol_utf8 t.Local w = all_ascii _ refl
symbol_utf8 t.In w = all_ascii _ refl
symbol_utf8 t.End w = all_ascii _ refl
symbol_utf8 t.If w = all_ascii _ refl
symbol_utf8 t.Then w = all_ascii _ refl
symbol_utf8 t.Else w = all_ascii _ refl
symbol_utf8 t.Case w = all_ascii _ refl
symbol_utf8 t.Of w = all_ascii _ refl
symbol_utf8 t.Thread w = all_ascii _ refl
symbol_utf8 t.At w = all_ascii _ refl
symbol_utf8 t.Try w = all_ascii _ refl
symbol_utf8 t.Catch w = all_ascii _ refl
symbol_utf8 t.Raise w = all_ascii _ refl
symbol_utf8 t.Proc w = all_ascii _ refl
symbol_utf8 t.Equals w = all_ascii _ refl
symbol_utf8 t.OpenRound w = all_ascii _ refl
symbol_utf8 t.CloseRound w = all_ascii _ refl
symbol_utf8 t.OpenCurly w = all_ascii _ refl
symbol_utf8 t.CloseCurly w = all_ascii _ refl
symbol_utf8 t.Dollar w = all_ascii _ refl
symbol_utf8 t.Colon w = all_ascii _ refl
symbol_utf8 t.Dot w = all_ascii _ refl
symbol_utf8 t.Bar w = all_ascii _ refl
symbol_utf8 (t.Operator o) w = operator_utf8 o
symbol_utf8 (t.Test o) w = test_utf8 o
symbol_utf8 t.Fun w = absurd w
symbol_utf8 t.Finally w = absurd w
symbol_utf8 t.Clause w = absurd w
symbol_utf8 t.Unused w = absurd w
symbol_utf8 t.EndOfText w = absurd w
symbol_utf8 (t.Bad k) w = absurd w

-- ---- texts

newline_utf8 : IsUtf8 (10 ∷ [])
newline_utf8 = ascii_before 10 [] (omega arith) IsUtf8-nil

behind_utf8 : (symbols : List Symbol) → Written symbols → IsUtf8 (text_behind symbols)
behind_utf8 [] w = elim w [ ]
behind_utf8 (t.EndOfText ∷ []) ends = newline_utf8
behind_utf8 (x ∷ symbols) (more w ws) =
    subst IsUtf8 (sym (behind_is x symbols w)) (ascii_before 32 (symbol_text x ++ text_behind symbols) (omega arith) (IsUtf8-append (symbol_text x) (text_behind symbols) (symbol_utf8 x w) (behind_utf8 symbols ws)))

pub spelled_utf8 : (symbols : List Symbol) → Written symbols → IsUtf8 (symbols_text symbols)
spelled_utf8 [] w = elim w [ ]
spelled_utf8 (t.EndOfText ∷ []) ends = newline_utf8
spelled_utf8 (x ∷ symbols) (more w ws) = IsUtf8-append (symbol_text x) (text_behind symbols) (symbol_utf8 x w) (behind_utf8 symbols ws)
