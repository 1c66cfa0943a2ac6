-- Which bytes are a token without quotes, by the first of them.
use Rattle.std.proofs.Common.{◌≡◌, ℕ, List, [], ◌∷◌, Bool, true, false, cond, eqb, Some, None, refl, subst, ◌∙◌, arith}
use Rattle.std.specs.Prelude.{◌||◌}
use Rattle.std.specs.Char.{is_ascii_lowercase, is_ascii_uppercase, is_ascii_digit}
use Rattle.std.specs.List.{list_all}
use Rattle.tree_node.specs.Spelling.{is_word_byte}
use Rattle.tree_node.specs.Words.{is_reserved}
use Rattle.oz_lexer.specs.declared.token.TokenKind.TheVariants.{Variable, Atom, Integer, Word, Sign}
use Rattle.oz_lexer.specs.Spelling.{are_digits, is_sign, token_kind_of}
use Rattle.oz_lexer.specs.Blanks.{is_blank}
use Rattle.oz_lexer.specs.Scan.{is_one_byte_sign, is_two_byte_sign, token_kind}
use Rattle.oz_lexer.proofs.Signs.{behind_sign, sign_spells}

-- what may stand behind the first byte
abbrev pub behind_first : ℕ → List ℕ → Bool
behind_first b cs =
    cond (is_ascii_uppercase b || is_ascii_lowercase b) (list_all is_word_byte cs)
    (cond (is_ascii_digit b) (list_all is_ascii_digit cs)
    (cond (eqb b 126) (are_digits cs)
    (behind_sign b cs)))

-- no sign begins with this byte
record NoSign (b : ℕ) : Type 0 where
  one : is_one_byte_sign b ≡ false
  two : (c : ℕ) → is_two_byte_sign b c ≡ false

not_two : (b c : ℕ) → eqb b 61 ≡ false → eqb b 62 ≡ false → eqb b 92 ≡ false → eqb b 91 ≡ false → is_two_byte_sign b c ≡ false
not_two b c e f g h = rw (e, f, g, h) refl

not_one : (b : ℕ) → eqb b 61 ≡ false → eqb b 40 ≡ false → eqb b 41 ≡ false → eqb b 123 ≡ false → eqb b 125 ≡ false → eqb b 36 ≡ false → eqb b 58 ≡ false → eqb b 46 ≡ false → eqb b 124 ≡ false → eqb b 43 ≡ false → eqb b 45 ≡ false → eqb b 42 ≡ false → eqb b 60 ≡ false → eqb b 62 ≡ false → is_one_byte_sign b ≡ false
not_one b e61 e40 e41 e123 e125 e36 e58 e46 e124 e43 e45 e42 e60 e62 = rw (e61, e40, e41, e123, e125, e36, e58, e46, e124, e43, e45, e42, e60, e62) refl

upper_sign : (b : ℕ) → is_ascii_uppercase b ≡ true → NoSign b
upper_sign b e = record { one = not_one b (grind arith) (grind arith) (grind arith) (grind arith) (grind arith) (grind arith) (grind arith) (grind arith) (grind arith) (grind arith) (grind arith) (grind arith) (grind arith) (grind arith); two = λ c. not_two b c (grind arith) (grind arith) (grind arith) (grind arith) }

lower_sign : (b : ℕ) → is_ascii_lowercase b ≡ true → NoSign b
lower_sign b e = record { one = not_one b (grind arith) (grind arith) (grind arith) (grind arith) (grind arith) (grind arith) (grind arith) (grind arith) (grind arith) (grind arith) (grind arith) (grind arith) (grind arith) (grind arith); two = λ c. not_two b c (grind arith) (grind arith) (grind arith) (grind arith) }

digit_sign : (b : ℕ) → is_ascii_digit b ≡ true → NoSign b
digit_sign b e = record { one = not_one b (grind arith) (grind arith) (grind arith) (grind arith) (grind arith) (grind arith) (grind arith) (grind arith) (grind arith) (grind arith) (grind arith) (grind arith) (grind arith) (grind arith); two = λ c. not_two b c (grind arith) (grind arith) (grind arith) (grind arith) }

no_sign : (b : ℕ) (cs : List ℕ) → NoSign b → is_sign (b ∷ cs) ≡ false
no_sign b [] n = sign_spells b [] ∙ n.one
no_sign b (c ∷ []) n = sign_spells b (c ∷ []) ∙ n.two c
no_sign b (c ∷ d ∷ cs) n = sign_spells b (c ∷ d ∷ cs)

upper_part : (b : ℕ) → is_ascii_uppercase b ≡ true → is_word_byte b ≡ true
upper_part b e = grind arith

lower_part : (b : ℕ) → is_ascii_lowercase b ≡ true → is_word_byte b ≡ true
lower_part b e = grind arith

-- ---- by the first byte

upper_spells : (b : ℕ) (cs : List ℕ) → is_ascii_uppercase b ≡ true → token_kind_of (b ∷ cs) ≡ cond (list_all is_word_byte cs) (Some Variable) None
unfolding token_kind_of
upper_spells b cs up =
    let part = upper_part b up in
    let low : is_ascii_lowercase b ≡ false = grind arith in
    let digit : is_ascii_digit b ≡ false = grind arith in
    let tilde : eqb b 126 ≡ false = grind arith in
    let quote : eqb b 39 ≡ false = grind arith in
    let sign = no_sign b cs (upper_sign b up) in
    let chosen : (t : Bool) → list_all is_word_byte cs ≡ t → token_kind_of (b ∷ cs) ≡ cond t (Some Variable) None = elim [
      | true ↦ λ e. rw (part, up, e) refl
      | false ↦ λ e. rw (part, up, e, low, quote, tilde, digit, sign) refl
    ] in chosen (list_all is_word_byte cs) refl

lower_spells : (b : ℕ) (cs : List ℕ) → is_ascii_lowercase b ≡ true → token_kind_of (b ∷ cs) ≡ cond (list_all is_word_byte cs) (cond (is_reserved (b ∷ cs)) (Some Word) (Some Atom)) None
unfolding token_kind_of
lower_spells b cs low =
    let part = lower_part b low in
    let up : is_ascii_uppercase b ≡ false = grind arith in
    let digit : is_ascii_digit b ≡ false = grind arith in
    let tilde : eqb b 126 ≡ false = grind arith in
    let quote : eqb b 39 ≡ false = grind arith in
    let sign = no_sign b cs (lower_sign b low) in
    let chosen : (t : Bool) → list_all is_word_byte cs ≡ t → token_kind_of (b ∷ cs) ≡ cond t (cond (is_reserved (b ∷ cs)) (Some Word) (Some Atom)) None = elim [
      | true ↦ λ e. rw (part, up, low, e) refl
      | false ↦ λ e. rw (part, up, low, e, quote, tilde, digit, sign) refl
    ] in chosen (list_all is_word_byte cs) refl

digit_spells : (b : ℕ) (cs : List ℕ) → is_ascii_digit b ≡ true → token_kind_of (b ∷ cs) ≡ cond (list_all is_ascii_digit cs) (Some Integer) None
unfolding token_kind_of
digit_spells b cs digit =
    let up : is_ascii_uppercase b ≡ false = grind arith in
    let low : is_ascii_lowercase b ≡ false = grind arith in
    let tilde : eqb b 126 ≡ false = grind arith in
    let quote : eqb b 39 ≡ false = grind arith in
    let sign = no_sign b cs (digit_sign b digit) in
    let chosen : (t : Bool) → list_all is_ascii_digit cs ≡ t → token_kind_of (b ∷ cs) ≡ cond t (Some Integer) None = elim [
      | true ↦ λ e. rw (up, low, quote, tilde, digit, e) refl
      | false ↦ λ e. rw (up, low, quote, tilde, digit, e, sign) refl
    ] in chosen (list_all is_ascii_digit cs) refl

tilde_spells : (cs : List ℕ) → token_kind_of (126 ∷ cs) ≡ cond (are_digits cs) (Some Integer) None
unfolding token_kind_of
tilde_spells cs =
    let chosen : (t : Bool) → are_digits cs ≡ t → token_kind_of (126 ∷ cs) ≡ cond t (Some Integer) None = elim [
      | true ↦ λ e. rw e refl
      | false ↦ λ e. rw e refl
    ] in chosen (are_digits cs) refl

sign_kind : (b : ℕ) (cs : List ℕ) → is_ascii_uppercase b ≡ false → is_ascii_lowercase b ≡ false → is_ascii_digit b ≡ false → eqb b 126 ≡ false → eqb b 39 ≡ false → token_kind_of (b ∷ cs) ≡ cond (behind_sign b cs) (Some Sign) None
unfolding token_kind_of
sign_kind b cs up low digit tilde quote = rw (up, low, quote, tilde, digit, sign_spells b cs) refl

same : (b k : ℕ) → eqb b k ≡ true → k ≡ b
same b k e = grind arith

-- the bytes are a token where the others may stand behind the first, and then it tells the kind
pub spelled : (b : ℕ) (cs : List ℕ) → eqb b 39 ≡ false → token_kind_of (b ∷ cs) ≡ cond (behind_first b cs) (Some (token_kind b (b ∷ cs))) None
spelled b cs quote =
    let chosen : (u l d m : Bool) → is_ascii_uppercase b ≡ u → is_ascii_lowercase b ≡ l → is_ascii_digit b ≡ d → eqb b 126 ≡ m
    → token_kind_of (b ∷ cs) ≡ cond (cond (u || l) (list_all is_word_byte cs) (cond d (list_all is_ascii_digit cs) (cond m (are_digits cs) (behind_sign b cs))))
    (Some (cond u Variable (cond l (cond (is_reserved (b ∷ cs)) Word Atom) (cond (d || m) Integer Sign)))) None = elim [
      | true ↦ λ l d m up low digit tilde. upper_spells b cs up
      | false ↦ elim [
        | true ↦ λ d m up low digit tilde. lower_spells b cs low ∙ words (is_reserved (b ∷ cs)) (list_all is_word_byte cs)
        | false ↦ elim [
          | true ↦ λ m up low digit tilde. digit_spells b cs digit
          | false ↦ elim [
            | true ↦ λ up low digit tilde. subst (λ (n : ℕ). token_kind_of (n ∷ cs) ≡ cond (are_digits cs) (Some Integer) None) (same b 126 tilde) (tilde_spells cs)
            | false ↦ λ up low digit tilde. sign_kind b cs up low digit tilde quote
          ]
        ]
      ]
    ] in chosen (is_ascii_uppercase b) (is_ascii_lowercase b) (is_ascii_digit b) (eqb b 126) refl refl refl refl
  where
    words : (r t : Bool) → cond t (cond r (Some Word) (Some Atom)) None ≡ cond t (Some (cond r Word Atom)) None
    words true true = refl
    words true false = refl
    words false true = refl
    words false false = refl

-- ---- what no token begins with

none_spelled : (b : ℕ) (bs : List ℕ) → is_ascii_uppercase b ≡ false → is_ascii_lowercase b ≡ false → is_ascii_digit b ≡ false → eqb b 126 ≡ false → eqb b 39 ≡ false → NoSign b → token_kind_of (b ∷ bs) ≡ None
none_spelled b bs up low digit tilde quote sign = sign_kind b bs up low digit tilde quote ∙ rw (behind b bs sign) refl
  where
    behind : (c : ℕ) (cs : List ℕ) → NoSign c → behind_sign c cs ≡ false
    behind c [] n = n.one
    behind c (d ∷ []) n = n.two d
    behind c (d ∷ e ∷ cs) n = refl

blank_sign : (b : ℕ) → is_blank b ≡ true → NoSign b
blank_sign b e = record { one = not_one b (grind arith) (grind arith) (grind arith) (grind arith) (grind arith) (grind arith) (grind arith) (grind arith) (grind arith) (grind arith) (grind arith) (grind arith) (grind arith) (grind arith); two = λ c. not_two b c (grind arith) (grind arith) (grind arith) (grind arith) }

pub blank_spelled : (b : ℕ) (bs : List ℕ) → is_blank b ≡ true → token_kind_of (b ∷ bs) ≡ None
blank_spelled b bs e = none_spelled b bs (grind arith) (grind arith) (grind arith) (grind arith) (grind arith) (blank_sign b e)

pub line_spelled : (bs : List ℕ) → token_kind_of (37 ∷ bs) ≡ None
line_spelled bs = none_spelled 37 bs refl refl refl refl refl (record { one = refl; two = λ c. refl })

pub slash_spelled : (bs : List ℕ) → token_kind_of (47 ∷ bs) ≡ None
slash_spelled bs = none_spelled 47 bs refl refl refl refl refl (record { one = refl; two = λ c. refl })
