-- Tokens begin and end with ASCII bytes, so that they can be cut out of a text.
use Rattle.std.proofs.Common.{◌≡◌, ℕ, zero, suc, ◌+◌, ◌-◌, ◌<◌, ◌≤◌, List, [], ◌∷◌, ◌++◌, length, take, drop, get_or, Bool, true, false, cond, eqb, Some, None, Result, Ok, Err, IsUtf8, refl, sym, subst, ap, ◌∙◌, arith, length-append, length-drop}
use Rattle.std.specs.Prelude.{◌||◌, ◌&&◌, not, nat_le}
use Rattle.std.specs.Str.{IsCharBoundary}
use Rattle.std.specs.Char.{is_ascii_lowercase, is_ascii_uppercase, is_ascii_digit}
use Rattle.std.specs.List.{list_all}
use Rattle.std.proofs.lemmas.List.{get_or-drop}
use Rattle.std.proofs.lemmas.Str.{IsCharBoundary-before_ascii, IsCharBoundary-after_ascii}
use Rattle.tree_node.specs.Spelling.{is_word_byte}
use Rattle.oz_lexer.specs.declared.token.TokenKind.{TokenKind}
use Rattle.oz_lexer.specs.declared.token.TokenKind.TheVariants.{Quoted, End}
use Rattle.oz_lexer.specs.declared.token.LexKind.{LexKind}
use Rattle.oz_lexer.specs.declared.token.LexKind.TheVariants.{BadChar, LongName}
use Rattle.oz_lexer.specs.Spelling.{are_digits, is_control, is_escape, is_name, token_kind_of}
use Rattle.oz_lexer.specs.Faults.{FaultAt, bad_char, control, bad_escape, open_quote, open_escape, open_comment, long_name}
use Rattle.oz_lexer.specs.Scan.{is_one_byte_sign, is_two_byte_sign, quote_from, within_name_limit, quoted_token, plain_token, token_length, token_kind, front_of}
use Rattle.oz_lexer.proofs.Signs.{behind_sign}
use Rattle.oz_lexer.proofs.TokenBytes.{behind_first, spelled}
use Rattle.oz_lexer.proofs.Quotes.{ends, is_nil, quote_kind}
use Rattle.oz_lexer.proofs.Fronts.{within, quote_within, nothing_spelled}
use Rattle.std.proofs.lemmas.Bool.{and_parts}

-- ---- the bytes of tokens

digit_ascii : (b : ℕ) → is_ascii_digit b ≡ true → b < 128
digit_ascii b e = grind arith

upper_ascii : (b : ℕ) → is_ascii_uppercase b ≡ true → b < 128
upper_ascii b e = grind arith

lower_ascii : (b : ℕ) → is_ascii_lowercase b ≡ true → b < 128
lower_ascii b e = grind arith

pub word_ascii : (b : ℕ) → is_word_byte b ≡ true → b < 128
word_ascii b e = grind arith

eq_ascii : (b k : ℕ) → k < 128 → eqb b k ≡ true → b < 128
eq_ascii b k lt e = grind arith

one_ascii : (b : ℕ) → is_one_byte_sign b ≡ true → b < 128
one_ascii b e =
    either (eq_ascii b 61 (omega arith)) (either (eq_ascii b 40 (omega arith)) (either (eq_ascii b 41 (omega arith)) (either (eq_ascii b 123 (omega arith)) (either (eq_ascii b 125 (omega arith))
    (either (eq_ascii b 36 (omega arith)) (either (eq_ascii b 58 (omega arith)) (either (eq_ascii b 46 (omega arith)) (either (eq_ascii b 124 (omega arith)) (either (eq_ascii b 43 (omega arith))
    (either (eq_ascii b 45 (omega arith)) (either (eq_ascii b 42 (omega arith)) (either (eq_ascii b 60 (omega arith)) (eq_ascii b 62 (omega arith)))))))))))))) e
  where
    either : {x y : Bool} → (x ≡ true → b < 128) → (y ≡ true → b < 128) → (x || y) ≡ true → b < 128
    either {x = true} f g e = f refl
    either {x = false} f g e = g e

two_ascii : (b c : ℕ) → is_two_byte_sign b c ≡ true → (b < 128) × (c < 128)
two_ascii b c e = grind arith

all_ascii : (p : ℕ → Bool) → ((b : ℕ) → p b ≡ true → b < 128) → (cs : List ℕ) → list_all p cs ≡ true → (i : ℕ) → get_or cs i 0 < 128
all_ascii p h [] e i = omega arith
all_ascii p h (c ∷ cs) e zero = h c (and_parts (p c) (list_all p cs) e).0
all_ascii p h (c ∷ cs) e (suc i) = all_ascii p h cs (and_parts (p c) (list_all p cs) e).1 i

digits_ascii : (cs : List ℕ) → are_digits cs ≡ true → (i : ℕ) → get_or cs i 0 < 128
digits_ascii [] e i = omega arith
digits_ascii (c ∷ cs) e i = all_ascii is_ascii_digit digit_ascii (c ∷ cs) e i

before : (b : ℕ) (cs : List ℕ) → b < 128 → ((i : ℕ) → get_or cs i 0 < 128) → (i : ℕ) → get_or (b ∷ cs) i 0 < 128
before b cs lt h zero = lt
before b cs lt h (suc i) = h i

sign_ascii : (b : ℕ) (cs : List ℕ) → behind_sign b cs ≡ true → (i : ℕ) → get_or (b ∷ cs) i 0 < 128
sign_ascii b [] e i = before b [] (one_ascii b e) (λ j. omega arith) i
sign_ascii b (c ∷ []) e i = let p = two_ascii b c e in before b (c ∷ []) p.0 (before c [] p.1 (λ j. omega arith)) i
sign_ascii b (c ∷ d ∷ cs) e i = absurd cc

plain_ascii : (b : ℕ) (cs : List ℕ) → behind_first b cs ≡ true → (i : ℕ) → get_or (b ∷ cs) i 0 < 128
plain_ascii b cs e i =
    let chosen : (u l d m : Bool) → is_ascii_uppercase b ≡ u → is_ascii_lowercase b ≡ l → is_ascii_digit b ≡ d → eqb b 126 ≡ m
    → cond (u || l) (list_all is_word_byte cs) (cond d (list_all is_ascii_digit cs) (cond m (are_digits cs) (behind_sign b cs))) ≡ true → get_or (b ∷ cs) i 0 < 128 = elim [
      | true ↦ λ l d m eu el ed em e. before b cs (upper_ascii b eu) (all_ascii is_word_byte word_ascii cs e) i
      | false ↦ elim [
        | true ↦ λ d m eu el ed em e. before b cs (lower_ascii b el) (all_ascii is_word_byte word_ascii cs e) i
        | false ↦ elim [
          | true ↦ λ m eu el ed em e. before b cs (digit_ascii b ed) (all_ascii is_ascii_digit digit_ascii cs e) i
          | false ↦ elim [
            | true ↦ λ eu el ed em e. before b cs (eq_ascii b 126 (omega arith) em) (digits_ascii cs e) i
            | false ↦ λ eu el ed em e. sign_ascii b cs e i
          ]
        ]
      ]
    ] in chosen (is_ascii_uppercase b) (is_ascii_lowercase b) (is_ascii_digit b) (eqb b 126) refl refl refl refl e

later : (c : ℕ) (t : Bool) (xs : List ℕ) (j : ℕ) → ((k : ℕ) → k + 1 ≡ length xs → get_or xs k 0 ≡ 39) → ends t xs ≡ true → j + 1 ≡ length (c ∷ xs) → get_or (c ∷ xs) j 0 ≡ 39
later c t [] j h e at = absurd cc
later c t (x ∷ xs) zero h e at = absurd (omega arith)
later c t (x ∷ xs) (suc j) h e at = h j (omega arith)

-- the last byte of what closes a quote
quote_last : (escaping : Bool) (cs : List ℕ) (i : ℕ) → ends escaping cs ≡ true → i + 1 ≡ length cs → get_or cs i 0 ≡ 39
quote_last escaping [] i e at = absurd cc
quote_last true (c ∷ []) i e at = absurd (let p = and_parts (is_escape c) false e in let q = p.1 in cc)
quote_last true (c ∷ d ∷ cs) zero e at = absurd (omega arith)
quote_last true (c ∷ d ∷ cs) (suc i) e at = quote_last false (d ∷ cs) i (and_parts (is_escape c) (ends false (d ∷ cs)) e).1 (omega arith)
quote_last false (c ∷ cs) i e at =
    let chosen : (q s k : Bool) → eqb c 39 ≡ q → eqb c 92 ≡ s → is_control c ≡ k → cond q (is_nil cs) (cond s (ends true cs) (not k && ends false cs)) ≡ true → get_or (c ∷ cs) i 0 ≡ 39 = elim [
      | true ↦ λ s k eq es ek e. first cs i (grind arith) e at
      | false ↦ elim [
        | true ↦ λ k eq es ek e. later c true cs i (λ j h. quote_last true cs j e h) e at
        | false ↦ elim [
          | true ↦ λ eq es ek e. absurd cc
          | false ↦ λ eq es ek e. later c false cs i (λ j h. quote_last false cs j e h) e at
        ]
      ]
    ] in chosen (eqb c 39) (eqb c 92) (is_control c) refl refl refl e
  where
    first : (xs : List ℕ) (j : ℕ) → c ≡ 39 → is_nil xs ≡ true → j + 1 ≡ length (c ∷ xs) → get_or (c ∷ xs) j 0 ≡ 39
    first [] zero is e at = is
    first [] (suc j) is e at = absurd (omega arith)
    first (x ∷ xs) j is e at = absurd cc

-- a token's first and last bytes are ASCII
pub record IsAsciiAtEnds (bytes : List ℕ) : Type 0 where
  pub some : 0 < length bytes
  pub first : get_or bytes 0 0 < 128
  pub last : (i : ℕ) → i + 1 ≡ length bytes → get_or bytes i 0 < 128

quote_ends : (cs : List ℕ) (t : Bool) (kind : TokenKind) → ends false cs ≡ t → cond t (Some Quoted) None ≡ Some kind → IsAsciiAtEnds (39 ∷ cs)
quote_ends cs false kind e spells = absurd cc
quote_ends cs true kind e spells = record {
  some = omega arith;
  first = omega arith;
  last = λ i at. let q = later 39 false cs i (λ k h. quote_last false cs k e h) e at in omega arith;
}

plain_ends : (b : ℕ) (cs : List ℕ) (t : Bool) (kind made : TokenKind) → behind_first b cs ≡ t → cond t (Some made) None ≡ Some kind → IsAsciiAtEnds (b ∷ cs)
plain_ends b cs false kind made e spells = absurd cc
plain_ends b cs true kind made e spells = record { some = omega arith; first = plain_ascii b cs e 0; last = λ i at. plain_ascii b cs e i }

pub token_ends : (bytes : List ℕ) (kind : TokenKind) → token_kind_of bytes ≡ Some kind → IsAsciiAtEnds bytes
token_ends [] kind e = let no = nothing_spelled in absurd cc
token_ends (b ∷ cs) kind e =
    let chosen : (t : Bool) → eqb b 39 ≡ t → IsAsciiAtEnds (b ∷ cs) = elim [
      | true ↦ λ q. let is : 39 ≡ b = grind arith in subst (λ (x : ℕ). IsAsciiAtEnds (x ∷ cs)) is (quote_ends cs (ends false cs) kind refl (sym (quote_kind cs) ∙ subst (λ (x : ℕ). token_kind_of (x ∷ cs) ≡ Some kind) (sym is) e))
      | false ↦ λ q. plain_ends b cs (behind_first b cs) kind (token_kind b (b ∷ cs)) refl (sym (spelled b cs q) ∙ e)
    ] in chosen (eqb b 39) refl

-- ---- cuts

fitting_within : (kind made : TokenKind) (n m : ℕ) (t : Bool) → cond {A = Result (TokenKind × ℕ) (LexKind × ℕ)} t (Err (LongName, 0)) (Ok (made, m)) ≡ Ok (kind, n) → n ≡ m
fitting_within kind made n m true e = absurd cc
fitting_within kind made n m false e = let p : ◌≡◌ {A = TokenKind × ℕ} (made, m) (kind, n) = cc in ap (λ (q : TokenKind × ℕ). q.1) (sym p)

quoted_within : (cs : List ℕ) (kind : TokenKind) (n : ℕ) (r : Result ℕ (LexKind × ℕ)) → quote_from false cs 1 ≡ r → quoted_token r ≡ Ok (kind, n) → n ≤ length (39 ∷ cs)
quoted_within cs kind n (Ok m) e f = let w = quote_within cs m e in let same = fitting_within kind Quoted n m (is_name Quoted && not (nat_le m 255)) f in omega arith
quoted_within cs kind n (Err g) e f = absurd cc

plain_within : (b : ℕ) (cs : List ℕ) (kind : TokenKind) (n : ℕ) (t : Bool) → cond t (Err (BadChar, 0)) (within_name_limit (token_kind b (take (token_length b cs) (b ∷ cs))) (token_length b cs)) ≡ Ok (kind, n) → n ≤ length (b ∷ cs)
plain_within b cs kind n true e = absurd cc
plain_within b cs kind n false e =
    let made = token_kind b (take (token_length b cs) (b ∷ cs)) in
    let same = fitting_within kind (token_kind b (take (token_length b cs) (b ∷ cs))) n (token_length b cs) (is_name (token_kind b (take (token_length b cs) (b ∷ cs))) && not (nat_le (token_length b cs) 255)) e in
    omega (arith, within b cs)

-- a token ends in the text
pub ok_within : (text : List ℕ) (kind : TokenKind) (n : ℕ) → front_of text ≡ Ok (kind, n) → n ≤ length text
ok_within [] kind n e = let p : ◌≡◌ {A = TokenKind × ℕ} (End, 0) (kind, n) = cc in let z : 0 ≡ n = ap (λ (q : TokenKind × ℕ). q.1) p in omega arith
ok_within (b ∷ cs) kind n e =
    let chosen : (t : Bool) → cond t (quoted_token (quote_from false cs 1)) (plain_token b cs (token_length b cs)) ≡ Ok (kind, n) → n ≤ length (b ∷ cs) = elim [
      | true ↦ λ f. quoted_within cs kind n (quote_from false cs 1) refl f
      | false ↦ λ f. plain_within b cs kind n (eqb (token_length b cs) 0) f
    ] in chosen (eqb b 39) e

-- and so does a fault begin there
pub err_within : {text : List ℕ} {kind : LexKind} {n : ℕ} → FaultAt text kind n → n ≤ length text
err_within (bad_char b text nb) = omega arith
err_within (control b inside rest q c) = omega (arith, length-append inside (b ∷ rest))
err_within (bad_escape b inside rest q c) = omega (arith, length-append inside (92 ∷ b ∷ rest))
err_within (open_quote inside q) = omega arith
err_within (open_escape inside q) = omega arith
err_within (open_comment text h) = omega arith
err_within (long_name text kind bytes rest l e) = omega arith

-- a longest token is cut between characters
pub token_cut : (text : List ℕ) (start : ℕ) (bytes rest : List ℕ) (kind : TokenKind) → start ≤ length text → IsUtf8 text → drop start text ≡ bytes ++ rest → token_kind_of bytes ≡ Some kind
    → IsCharBoundary text start × IsCharBoundary text (start + length bytes)
token_cut text start bytes rest kind le utf8 is spells =
    let ends = token_ends bytes kind spells in
    let some = ends.some in
    let behind : length (drop start text) ≡ length (bytes ++ rest) = ap (λ (xs : List ℕ). length xs) is in
    let room : start + (length bytes + length rest) ≡ length text = omega (arith, length-append bytes rest, length-drop start text) in
    let first : get_or text (start + 0) 0 < 128 = rw (← (get_or-drop start text 0 0), is, front_byte bytes rest 0 some) (ends.first) in
    let last : get_or text (start + (length bytes - 1)) 0 < 128 = rw (← (get_or-drop start text (length bytes - 1) 0), is, front_byte bytes rest (length bytes - 1) (omega arith)) (ends.last (length bytes - 1) (omega arith)) in
    let at : start + 0 ≡ start = omega arith in
    let end_ : start + (length bytes - 1) + 1 ≡ start + length bytes = omega arith in
    (IsCharBoundary-before_ascii text start (omega arith) (rw at at first), subst (IsCharBoundary text) end_ (IsCharBoundary-after_ascii text (start + (length bytes - 1)) utf8 (omega arith) last))
  where
    front_byte : (xs ys : List ℕ) (i : ℕ) → i < length xs → get_or (xs ++ ys) i 0 ≡ get_or xs i 0
    front_byte [] ys i lt = absurd (omega arith)
    front_byte (x ∷ xs) ys zero lt = refl
    front_byte (x ∷ xs) ys (suc i) lt = front_byte xs ys i (omega arith)
