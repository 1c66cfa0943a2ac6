-- The atoms and integers of a text in UTF-8 are spelled.
use Rattle.std.proofs.Common.{◌≡◌, ◌∙◌, ◌⊎◌, inl, inr, ℕ, zero, suc, ◌+◌, ◌-◌, ◌≤◌, List, [], ◌∷◌, ◌++◌, length, take, drop, map, append_assoc, codes, IsTrue, IsUtf8, eqb, Bool, true, false, cond, Some, None, Result, Ok, Err, refl, sym, ap, subst, arith, length-append}
use Rattle.std.specs.Prelude.{◌&&◌, ◌||◌, not, nat_le, nat_lt, slice_index, pos}
use Rattle.std.specs.List.{list_all}
use Rattle.std.specs.Str.{bytes_eq}
use Rattle.std.proofs.lemmas.List.{take-append-drop}
use Rattle.std.proofs.lemmas.Str.{IsUtf8-nil, IsUtf8-drop, IsUtf8-between}
use Rattle.tree_node.specs.Each.{Each}
use Rattle.tree_node.specs.Spelling.{is_word_byte, is_bare, escaped_text, atom_text}
use Rattle.tree_node.specs.Words.{is_reserved}
use Rattle.kernel_syntax.specs.declared.stmt.Op.TheVariants as op
use Rattle.kernel_syntax.specs.declared.stmt.TestOp.TheVariants as test
use Rattle.kernel_syntax.specs.Arithmetic.{is_integer as is_number}
use Rattle.kernel_syntax.specs.Texts.{is_text_byte, IsText, IsIntegerIfSome}
use Rattle.oz_lexer.specs.declared.token.TokenKind.{TokenKind}
use Rattle.oz_lexer.specs.declared.token.TokenKind.TheVariants as kind
use Rattle.oz_lexer.specs.declared.token.LexKind.{LexKind}
use Rattle.oz_lexer.specs.Spelling.{is_character, is_escape, closes_quote, is_quoted, is_variable, is_lower_word, is_sign, are_digits, digits_of, token_kind_of, is_long, text_in_quotes}
use Rattle.oz_lexer.specs.Faults.{IsLongestToken}
use Rattle.oz_lexer.specs.Tokens.{Lexeme, IsLexemeAt, EndOrMore, TokensFrom, Tokens}
use Rattle.oz_grammar.specs.declared.symbol.Symbol.{Symbol}
use Rattle.oz_grammar.specs.declared.symbol.Symbol.TheVariants as t
use Rattle.oz_lexer.proofs.Boundaries.{token_cut}
use Rattle.oz_lexer.proofs.Skipping.{skips_tail}
use Rattle.oz_grammar.specs.Symbols.{IsSpelled, is_plain, number_of, negation, signed_integer, integer_of, quoted_text, word_symbol, sign_symbol, symbol_at, symbol_of}
use Rattle.oz_grammar.proofs.TextInQuotes.{unescaped_utf8, quoted_inside}
use Rattle.oz_grammar.proofs.Atoms.{is_atom_byte, spelt, front, plain_unescaped, inside}
use Rattle.std.proofs.lemmas.Bool.{and_parts}

-- an atom that quotes can spell
abbrev IsAtom : List ℕ → Type 0
IsAtom a = (list_all is_atom_byte a ≡ true) × (length (atom_text a) ≤ 255)

text_byte : (b : ℕ) → is_atom_byte b ≡ true → is_text_byte b ≡ true
text_byte b e = grind arith

text_bytes : (a : List ℕ) → list_all is_atom_byte a ≡ true → list_all is_text_byte a ≡ true
text_bytes [] all = refl
text_bytes (b ∷ bs) all =
    let two = and_parts (is_atom_byte b) (list_all is_atom_byte bs) all in
    ap (λ (x : Bool). x && list_all is_text_byte bs) (text_byte b two.0) ∙ text_bytes bs two.1

is_text : (a : List ℕ) → IsUtf8 a → IsAtom a → IsText a
is_text a utf8 is = (utf8, text_bytes a is.0, is.1)

-- ---- lengths

escaped_once : (c : ℕ) (cs : List ℕ) → is_atom_byte c ≡ true → (length (escaped_text (c ∷ cs)) ≡ suc (length (escaped_text cs))) ⊎ (length (escaped_text (c ∷ cs)) ≡ suc (suc (length (escaped_text cs))))
escaped_once c cs e = elim (front c cs (spelt c e)) [
  | inl h ↦ inr (ap length h.0)
  | inr (inl h) ↦ inr (ap length h.0)
  | inr (inr h) ↦ inl (ap length h.0)
]

no_shorter : (a : List ℕ) → list_all is_atom_byte a ≡ true → length a ≤ length (escaped_text a)
no_shorter [] all = omega arith
no_shorter (c ∷ cs) all =
    let two = and_parts (is_atom_byte c) (list_all is_atom_byte cs) all in
    let more = no_shorter cs two.1 in
    elim (escaped_once c cs two.0) [ inl h ↦ omega (arith, more, h) | inr h ↦ omega (arith, more, h) ]

text_length : (a : List ℕ) → list_all is_atom_byte a ≡ true → length (atom_text a) ≤ length (escaped_text a) + 2
text_length a all = go (is_bare a) refl
  where
    go : (b : Bool) → is_bare a ≡ b → length (atom_text a) ≤ length (escaped_text a) + 2
    go true e = let same : atom_text a ≡ a = rw e refl in omega (arith, ap length same, no_shorter a all)
    go false e = let same : atom_text a ≡ 39 ∷ (escaped_text a ++ 39 ∷ []) = rw e refl in omega (arith, ap length same, length-append (escaped_text a) (39 ∷ []))

at_most : (k : TokenKind) (n : ℕ) → not (nat_le n 255) ≡ false → n ≤ 255
at_most k n e = grind arith

-- ---- atoms

character : (b : ℕ) → is_word_byte b ≡ true → is_atom_byte b ≡ true
character b e = grind arith

word_atoms : (bytes : List ℕ) → list_all is_word_byte bytes ≡ true → list_all is_atom_byte bytes ≡ true
word_atoms [] all = refl
word_atoms (b ∷ bytes) all =
    let two = and_parts (is_word_byte b) (list_all is_word_byte bytes) all in
    ap (λ (x : Bool). x && list_all is_atom_byte bytes) (character b two.0) ∙ word_atoms bytes two.1

-- which kind it is
atom_case : (v w r q d s : Bool) → cond v (Some kind.Variable) (cond w (cond r (Some kind.Word) (Some kind.Atom)) (cond q (Some kind.Quoted) (cond d (Some kind.Integer) (cond s (Some kind.Sign) None)))) ≡ Some kind.Atom → (w ≡ true) × (r ≡ false)
atom_case true w r q d s e = absurd cc
atom_case false true true q d s e = absurd cc
atom_case false true false q d s e = (refl, refl)
atom_case false false r true d s e = absurd cc
atom_case false false r false true s e = absurd cc
atom_case false false r false false true e = absurd cc
atom_case false false r false false false e = absurd cc

quoted_case : (v w r q d s : Bool) → cond v (Some kind.Variable) (cond w (cond r (Some kind.Word) (Some kind.Atom)) (cond q (Some kind.Quoted) (cond d (Some kind.Integer) (cond s (Some kind.Sign) None)))) ≡ Some kind.Quoted → q ≡ true
quoted_case true w r q d s e = absurd cc
quoted_case false true true q d s e = absurd cc
quoted_case false true false q d s e = absurd cc
quoted_case false false r true d s e = refl
quoted_case false false r false true s e = absurd cc
quoted_case false false r false false true e = absurd cc
quoted_case false false r false false false e = absurd cc

atom_good : (bytes : List ℕ) → token_kind_of bytes ≡ Some kind.Atom → is_long kind.Atom bytes ≡ false → IsAtom bytes
unfolding token_kind_of
atom_good bytes e short =
    let is = atom_case (is_variable bytes) (is_lower_word bytes) (is_reserved bytes) (is_quoted bytes) (are_digits (digits_of bytes)) (is_sign bytes) e in
    let two = and_parts _ (list_all is_word_byte bytes) is.0 in
    let all = word_atoms bytes two.1 in
    let bare : is_bare bytes ≡ true = rw (two.0, two.1, is.1) refl in
    let same : atom_text bytes ≡ bytes = rw bare refl in
    (all, omega (arith, ap length same, at_most kind.Atom (length bytes) short))

-- what stands in the quotes of an atom
record Inside (cs : List ℕ) : Type 0 where
  text : List ℕ
  is : cs ≡ text ++ 39 ∷ []
  good : list_all is_atom_byte (text_in_quotes text) ≡ true
  short : length (escaped_text (text_in_quotes text)) ≤ length text

-- a byte that an escape stands for, and one that is a character
escape_byte : (c : ℕ) → is_escape c ≡ true → is_atom_byte (cond (eqb c 110) 10 c) ≡ true
escape_byte c e = grind arith

character_byte : (b : ℕ) → is_character b ≡ true → is_atom_byte b ≡ true
character_byte b e = ap (λ (x : Bool). x || (eqb b 39 || (eqb b 92 || eqb b 10))) e

character_once : (b : ℕ) (cs : List ℕ) → is_character b ≡ true → eqb b 92 ≡ false → escaped_text (b ∷ cs) ≡ b ∷ escaped_text cs
character_once b cs e plain =
    let newline : eqb b 10 ≡ false = grind arith in
    let quote : eqb b 39 ≡ false = grind arith in
    rw (newline, quote, plain) refl

inside_of : (cs : List ℕ) → closes_quote cs ≡ true → Inside cs
inside_of [] e = cc
inside_of (b ∷ []) e =
    let quote : b ≡ 39 = grind arith in
    record { text = []; is = ap (λ (x : ℕ). x ∷ []) quote; good = refl; short = omega arith }
inside_of (b ∷ c ∷ bs) e = go (eqb b 92) refl (λ h. inside_of bs h) (λ h. inside_of (c ∷ bs) h) e
  where
    go : (k : Bool) → eqb b 92 ≡ k → (closes_quote bs ≡ true → Inside bs) → (closes_quote (c ∷ bs) ≡ true → Inside (c ∷ bs)) → cond k (is_escape c && closes_quote bs) (is_character b && closes_quote (c ∷ bs)) ≡ true → Inside (b ∷ c ∷ bs)
    go true k short_one long_one h =
        let both_of = and_parts (is_escape c) (closes_quote bs) h in
        let i = short_one both_of.1 in
        let unit : text_in_quotes (b ∷ c ∷ i.text) ≡ cond (eqb c 110) 10 c ∷ text_in_quotes i.text = rw k refl in
        let byte = escape_byte c both_of.0 in
        record {
          text = b ∷ c ∷ i.text;
          is = ap (λ (xs : List ℕ). b ∷ c ∷ xs) i.is;
          good = ap (list_all is_atom_byte) unit ∙ (ap (λ (x : Bool). x && list_all is_atom_byte (text_in_quotes i.text)) byte ∙ i.good);
          short =
              let l : length (escaped_text (text_in_quotes (b ∷ c ∷ i.text))) ≡ length (escaped_text (cond (eqb c 110) 10 c ∷ text_in_quotes i.text)) = ap (λ (xs : List ℕ). length (escaped_text xs)) unit in
              elim (escaped_once (cond (eqb c 110) 10 c) (text_in_quotes i.text) byte) [ inl n ↦ omega (arith, l, n, i.short) | inr n ↦ omega (arith, l, n, i.short) ];
        }
    go false k short_one long_one h =
        let both_of = and_parts (is_character b) (closes_quote (c ∷ bs)) h in
        let i = long_one both_of.1 in
        let unit = plain_unescaped b i.text k in
        let once = character_once b (text_in_quotes i.text) both_of.0 k in
        record {
          text = b ∷ i.text;
          is = ap (λ (xs : List ℕ). b ∷ xs) i.is;
          good = ap (list_all is_atom_byte) unit ∙ (ap (λ (x : Bool). x && list_all is_atom_byte (text_in_quotes i.text)) (character_byte b both_of.0) ∙ i.good);
          short = let l : length (escaped_text (text_in_quotes (b ∷ i.text))) ≡ suc (length (escaped_text (text_in_quotes i.text))) = ap (λ (xs : List ℕ). length (escaped_text xs)) unit ∙ ap length once in omega (arith, l, i.short);
        }

quoted_good : (bytes : List ℕ) → IsUtf8 bytes → token_kind_of bytes ≡ Some kind.Quoted → is_long kind.Quoted bytes ≡ false → IsText (quoted_text bytes)
unfolding token_kind_of
quoted_good [] utf8 e short = absurd cc
quoted_good (b ∷ cs) utf8 e short =
    let is = quoted_case (is_variable (b ∷ cs)) (is_lower_word (b ∷ cs)) (is_reserved (b ∷ cs)) (is_quoted (b ∷ cs)) (are_digits (digits_of (b ∷ cs))) (is_sign (b ∷ cs)) e in
    let two = and_parts (eqb b 39) (closes_quote cs) is in
    let i = inside_of cs two.1 in
    let text : quoted_text (b ∷ cs) ≡ text_in_quotes i.text = ap (λ (xs : List ℕ). text_in_quotes (take (length (b ∷ xs) - 2) xs)) i.is ∙ ap text_in_quotes (inside i.text) in
    let long = at_most kind.Quoted (length (b ∷ cs)) short in
    let l : length cs ≡ length i.text + 1 = ap length i.is ∙ length-append i.text (39 ∷ []) in
    let quote : b ≡ 39 = grind (arith, two.0) in
    let spelled : IsUtf8 (39 ∷ (i.text ++ 39 ∷ [])) = subst (λ (xs : List ℕ). IsUtf8 (39 ∷ xs)) i.is (subst (λ (x : ℕ). IsUtf8 (x ∷ cs)) quote utf8) in
    let inner = unescaped_utf8 i.text (quoted_inside i.text spelled) in
    subst IsText (sym text) (is_text (text_in_quotes i.text) inner (i.good, omega (arith, text_length (text_in_quotes i.text) i.good, i.short, l, long)))

-- ---- integers

signed_fits : (minus : Bool) (n : ℕ) → IsIntegerIfSome (signed_integer minus n)
signed_fits true n = go (nat_le n 170141183460469231731687303715884105728) refl
  where
    negative_fits : (m : ℕ) → m ≤ 170141183460469231731687303715884105728 → IsTrue (is_number (negation m))
    negative_fits zero le = refl
    negative_fits (suc m) le = grind arith

    go : (b : Bool) → nat_le n 170141183460469231731687303715884105728 ≡ b → IsIntegerIfSome (cond b (Some (negation n)) None)
    go true e = negative_fits n (grind arith)
    go false e = tt
signed_fits false n = go (nat_lt n 170141183460469231731687303715884105728) refl
  where
    go : (b : Bool) → nat_lt n 170141183460469231731687303715884105728 ≡ b → IsIntegerIfSome (cond b (Some (pos n)) None)
    go true e = grind arith
    go false e = tt

integer_good : (bytes : List ℕ) → IsIntegerIfSome (integer_of bytes)
unfolding integer_of
integer_good bytes = go (is_plain (digits_of bytes))
  where
    go : (b : Bool) → IsIntegerIfSome (cond b (signed_integer (eqb (slice_index bytes 0) 126) (number_of (digits_of bytes))) None)
    go true = signed_fits (eqb (slice_index bytes 0) 126) (number_of (digits_of bytes))
    go false = tt

-- ---- tokens

either : (b : Bool) (x y : Symbol) → IsSpelled x → IsSpelled y → IsSpelled (cond b x y)
either true x y p q = p
either false x y p q = q

word_good : (text : List ℕ) → IsSpelled (word_symbol text)
unfolding word_symbol
word_good text = (either (bytes_eq text (codes "skip")) t.Skip _ tt (either (bytes_eq text (codes "local")) t.Local _ tt (either (bytes_eq text (codes "in")) t.In _ tt (either (bytes_eq text (codes "end")) t.End _ tt (either (bytes_eq text (codes "if")) t.If _ tt (either (bytes_eq text (codes "then")) t.Then _ tt (either (bytes_eq text (codes "else")) t.Else _ tt (either (bytes_eq text (codes "case")) t.Case _ tt (either (bytes_eq text (codes "of")) t.Of _ tt (either (bytes_eq text (codes "thread")) t.Thread _ tt (either (bytes_eq text (codes "at")) t.At _ tt (either (bytes_eq text (codes "try")) t.Try _ tt (either (bytes_eq text (codes "catch")) t.Catch _ tt (either (bytes_eq text (codes "raise")) t.Raise _ tt (either (bytes_eq text (codes "proc")) t.Proc _ tt (either (bytes_eq text (codes "div")) (t.Operator op.Div) _ tt (either (bytes_eq text (codes "mod")) (t.Operator op.Mod) _ tt (either (bytes_eq text (codes "fun")) t.Fun _ tt (either (bytes_eq text (codes "finally")) t.Finally _ tt tt)))))))))))))))))))

sign_good : (text : List ℕ) → IsSpelled (sign_symbol text)
unfolding sign_symbol
sign_good text = (either (bytes_eq text (codes "=")) t.Equals _ tt (either (bytes_eq text (codes "(")) t.OpenRound _ tt (either (bytes_eq text (codes ")")) t.CloseRound _ tt (either (bytes_eq text (codes "{")) t.OpenCurly _ tt (either (bytes_eq text (codes "}")) t.CloseCurly _ tt (either (bytes_eq text (codes "$")) t.Dollar _ tt (either (bytes_eq text (codes ":")) t.Colon _ tt (either (bytes_eq text (codes ".")) t.Dot _ tt (either (bytes_eq text (codes "|")) t.Bar _ tt (either (bytes_eq text (codes "+")) (t.Operator op.Add) _ tt (either (bytes_eq text (codes "-")) (t.Operator op.Sub) _ tt (either (bytes_eq text (codes "*")) (t.Operator op.Mul) _ tt (either (bytes_eq text (codes "=<")) (t.Operator op.Le) _ tt (either (bytes_eq text (codes "<")) (t.Operator op.Lt) _ tt (either (bytes_eq text (codes ">=")) (t.Operator op.Ge) _ tt (either (bytes_eq text (codes ">")) (t.Operator op.Gt) _ tt (either (bytes_eq text (codes "==")) (t.Test test.Equal) _ tt (either (bytes_eq text (codes "\\=")) (t.Test test.NotEqual) _ tt (either (bytes_eq text (codes "[]")) t.Clause _ tt tt)))))))))))))))))))

token_good : (k : TokenKind) (bytes : List ℕ) → IsUtf8 bytes → token_kind_of bytes ≡ Some k → is_long k bytes ≡ false → IsSpelled (symbol_at (Ok k) bytes)
token_good kind.Variable bytes utf8 e short = tt
token_good kind.Atom bytes utf8 e short = is_text bytes utf8 (atom_good bytes e short)
token_good kind.Quoted bytes utf8 e short = quoted_good bytes utf8 e short
token_good kind.Integer bytes utf8 e short = integer_good bytes
token_good kind.Word bytes utf8 e short = word_good bytes
token_good kind.Sign bytes utf8 e short = sign_good bytes
token_good kind.End bytes utf8 e short = tt

-- the bytes of a token, and what stands behind it, are UTF-8
pub record Cut (bytes rest : List ℕ) : Type 0 where
  pub token : IsUtf8 bytes
  pub behind : IsUtf8 rest

cut_out : (text pre bytes rest : List ℕ) (k : TokenKind) → IsUtf8 text → text ≡ pre ++ (bytes ++ rest) → token_kind_of bytes ≡ Some k → Cut bytes rest
cut_out text pre bytes rest k utf8 is spells =
    let front : drop (length pre) text ≡ bytes ++ rest = ap (λ (xs : List ℕ). drop (length pre) xs) is ∙ drop_front pre (bytes ++ rest) in
    let l : length text ≡ length pre + (length bytes + length rest) = ap length is ∙ (length-append pre (bytes ++ rest) ∙ ap (λ (n : ℕ). length pre + n) (length-append bytes rest)) in
    let cut = token_cut text (length pre) bytes rest k (omega arith) utf8 front spells in
    let between = IsUtf8-between text (length pre) (length pre + length bytes) utf8 (omega arith) cut.0 cut.1 in
    let n : length pre + length bytes - length pre ≡ length bytes = omega arith in
    let token : take (length pre + length bytes - length pre) (drop (length pre) text) ≡ bytes = rw n (ap (take (length bytes)) front ∙ take_front bytes rest) in
    let again : text ≡ (pre ++ bytes) ++ rest = is ∙ sym (append_assoc pre bytes rest) in
    let past : drop (length pre + length bytes) text ≡ rest = rw (← (length-append pre bytes)) (ap (λ (xs : List ℕ). drop (length (pre ++ bytes)) xs) again ∙ drop_front (pre ++ bytes) rest) in
    record { token = subst IsUtf8 token between; behind = subst IsUtf8 past (IsUtf8-drop text (length pre + length bytes) utf8 cut.1) }
  where
    drop_front : (xs ys : List ℕ) → drop (length xs) (xs ++ ys) ≡ ys
    drop_front [] ys = refl
    drop_front (x ∷ xs) ys = drop_front xs ys

    take_front : (xs ys : List ℕ) → take (length xs) (xs ++ ys) ≡ xs
    take_front [] ys = refl
    take_front (x ∷ xs) ys = ap (λ (zs : List ℕ). x ∷ zs) (take_front xs ys)

-- of a token: its symbol is spelled, and what stands behind it is UTF-8
abbrev Leaves : Result TokenKind LexKind → List ℕ → List ℕ → Type 0
Leaves (Ok k) bytes rest = IsSpelled (symbol_at (Ok k) bytes) × IsUtf8 rest
Leaves (Err fault) bytes rest = Unit {0}

leaves : (text pre front bytes rest : List ℕ) (k : TokenKind) → IsUtf8 text → text ≡ pre ++ front → IsLongestToken front k bytes rest → is_long k bytes ≡ false → Leaves (Ok k) bytes rest
leaves text pre front bytes rest k utf8 is l short =
    let cut = cut_out text pre bytes rest k utf8 (is ∙ ap (λ (xs : List ℕ). pre ++ xs) l.is) l.spells in (token_good k bytes cut.token l.spells short, cut.behind)

begins_good : (place : ℕ) (text pre front : List ℕ) (what : Result TokenKind LexKind) (start : ℕ) (bytes rest : List ℕ) → IsUtf8 text → text ≡ pre ++ front → IsLexemeAt place front what start bytes rest → Leaves what bytes rest
begins_good place text pre front (Ok kind.End) start bytes rest utf8 is b = (tt, subst IsUtf8 (sym b.3) IsUtf8-nil)
begins_good place text pre front (Ok kind.Variable) start bytes rest utf8 is b = leaves text pre front bytes rest kind.Variable utf8 is b.0 b.1
begins_good place text pre front (Ok kind.Atom) start bytes rest utf8 is b = leaves text pre front bytes rest kind.Atom utf8 is b.0 b.1
begins_good place text pre front (Ok kind.Quoted) start bytes rest utf8 is b = leaves text pre front bytes rest kind.Quoted utf8 is b.0 b.1
begins_good place text pre front (Ok kind.Integer) start bytes rest utf8 is b = leaves text pre front bytes rest kind.Integer utf8 is b.0 b.1
begins_good place text pre front (Ok kind.Word) start bytes rest utf8 is b = leaves text pre front bytes rest kind.Word utf8 is b.0 b.1
begins_good place text pre front (Ok kind.Sign) start bytes rest utf8 is b = leaves text pre front bytes rest kind.Sign utf8 is b.0 b.1
begins_good place text pre front (Err fault) start bytes rest utf8 is b = tt

spelled_here : (what : Result TokenKind LexKind) (bytes rest : List ℕ) → Leaves what bytes rest → IsSpelled (symbol_at what bytes)
spelled_here (Ok k) bytes rest l = l.0
spelled_here (Err fault) bytes rest l = tt

-- the tokens behind, if there are some
others : (what : Result TokenKind LexKind) (on : Type 0) (P : List Lexeme → Type 0) (ls : List Lexeme) (bytes rest : List ℕ) → EndOrMore what (ls ≡ []) on → Leaves what bytes rest → P [] → (IsUtf8 rest → on → P ls) → P ls
others (Ok kind.End) on P ls bytes rest h l nothing more = subst P (sym h) nothing
others (Ok kind.Variable) on P ls bytes rest h l nothing more = more l.1 h
others (Ok kind.Atom) on P ls bytes rest h l nothing more = more l.1 h
others (Ok kind.Quoted) on P ls bytes rest h l nothing more = more l.1 h
others (Ok kind.Integer) on P ls bytes rest h l nothing more = more l.1 h
others (Ok kind.Word) on P ls bytes rest h l nothing more = more l.1 h
others (Ok kind.Sign) on P ls bytes rest h l nothing more = more l.1 h
others (Err fault) on P ls bytes rest h l nothing more = subst P (sym h) nothing

tokens_good : (ls : List Lexeme) (place : ℕ) (text : List ℕ) → IsUtf8 text → TokensFrom place text ls → Each IsSpelled (map symbol_of ls)
tokens_good [] place text utf8 d = absurd d
tokens_good (l ∷ ls) place text utf8 d =
    let tail = skips_tail d.1.blanks in
    let n : ℕ = length text - length d.1.front in
    let is : text ≡ take n text ++ d.1.front = sym (take-append-drop n text) ∙ ap (λ (xs : List ℕ). take n text ++ xs) tail.is in
    let here = begins_good _ text (take n text) d.1.front l.what l.start l.bytes d.0 utf8 is d.1.begins in (
      spelled_here l.what l.bytes d.0 here,
      others l.what (TokensFrom (l.start + length l.bytes) d.0 ls) (λ (ms : List Lexeme). Each IsSpelled (map symbol_of ms)) ls l.bytes d.0 d.2 here tt (λ rest on. tokens_good ls (l.start + length l.bytes) d.0 rest on),
    )

-- the symbols of a text
pub text_spelled : (text : List ℕ) (ls : List Lexeme) → IsUtf8 text → Tokens text ls → Each IsSpelled (map symbol_of ls)
text_spelled text ls utf8 d = tokens_good ls 0 text utf8 d
