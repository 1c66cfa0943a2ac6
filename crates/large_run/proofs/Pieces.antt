-- The tokens of a line, which is cut into words, signs and blanks.
use Rattle.std.proofs.Common.{◌≡◌, ◌∙◌, ℕ, suc, ◌+◌, ◌-◌, ◌<◌, ◌≤◌, ◌^◌, List, [], ◌∷◌, ◌++◌, length, take, drop, map, Bool, true, false, cond, eqb, Some, Ok, refl, ap, subst, arith}
use Rattle.std.specs.Prelude.{◌&&◌, ◌||◌, ◌==◌, not, if◌then◌else◌, decimal, pos}
use Rattle.std.specs.Char.{is_ascii_lowercase, is_ascii_uppercase, is_ascii_digit}
use Rattle.std.specs.List.{list_all, prefix_len}
use Rattle.std.proofs.lemmas.Bool.{and_parts}
use Rattle.tree_node.specs.Spelling.{is_word_byte}
use Rattle.oz_lexer.specs.declared.token.TokenKind.{TokenKind}
use Rattle.oz_lexer.specs.declared.token.TokenKind.TheVariants.{Integer, End}
use Rattle.oz_lexer.specs.Spelling.{is_long}
use Rattle.oz_lexer.specs.Blanks.{is_blank, here, blank}
use Rattle.oz_lexer.specs.Faults.{IsLongestToken}
use Rattle.oz_lexer.specs.Tokens.{Lexeme, IsLexemeAt, EndOrMore, TokensFrom}
use Rattle.oz_lexer.specs.Scan.{is_one_byte_sign, is_two_byte_sign, sign_length, minus_length, token_length, token_kind}
use Rattle.oz_lexer.proofs.Skipping.{skips_tail}
use Rattle.oz_lexer.proofs.TokenLength.{is_longest}
use Rattle.oz_lexer.proofs.Fronts.{front_part, back_part}
use Rattle.oz_grammar.specs.declared.symbol.Symbol.{Symbol}
use Rattle.oz_grammar.specs.declared.symbol.Symbol.TheVariants as t
use Rattle.oz_grammar.specs.Symbols.{symbol_at, symbol_of, integer_of}
use Rattle.oz_grammar.proofs.Digits.{decimal_of, integer}

-- the tokens of a text that begins at this place are these symbols
pub record TokensAre (place : ℕ) (text : List ℕ) (symbols : List Symbol) : Type 0 where
  pub tokens : List Lexeme
  pub divided : TokensFrom place text tokens
  pub are : map symbol_of tokens ≡ symbols

-- .. wherever it begins
abbrev pub Spells : List ℕ → List Symbol → Type 0
Spells text symbols = (place : ℕ) → TokensAre place text symbols

-- ---- a blank or a token before what is spelled

blank_first : (b : ℕ) (text : List ℕ) (symbols : List Symbol) → is_blank b ≡ true → Spells text symbols → Spells (b ∷ text) symbols
blank_first b text symbols e h place = let d = h (place + 1) in behind d.tokens d.divided d.are
  where
    behind : (tokens : List Lexeme) → TokensFrom (place + 1) text tokens → map symbol_of tokens ≡ symbols → TokensAre place (b ∷ text) symbols
    behind [] divided are = absurd divided
    behind (l ∷ ls) divided are =
        let n = divided.1 in
        let within : length n.front ≤ length text = (skips_tail n.blanks).within in
        let at : place + 1 + (length text - length n.front) ≡ place + (length (b ∷ text) - length n.front) = omega arith in
        record {
          tokens = l ∷ ls;
          divided = (divided.0, record { front = n.front; blanks = blank e n.blanks; begins = subst (λ (k : ℕ). IsLexemeAt k n.front l.what l.start l.bytes divided.0) at n.begins }, divided.2);
          are = are;
        }

-- no end of the text
abbrev is_token : TokenKind → Bool
is_token End = false
is_token kind = true

token_here : (kind : TokenKind) (place : ℕ) (text bytes rest : List ℕ) → is_token kind ≡ true → IsLongestToken text kind bytes rest → is_long kind bytes ≡ false → IsLexemeAt place text (Ok kind) place bytes rest
token_here End place text bytes rest is longest short = absurd cc
token_here kind place text bytes rest is longest short = (longest, short, refl)

more_follow : (kind : TokenKind) (last on : Type 0) → is_token kind ≡ true → on → EndOrMore (Ok kind) last on
more_follow End last on is h = absurd cc
more_follow kind last on is h = h

token_first : (kind : TokenKind) (bytes rest : List ℕ) (symbols : List Symbol) → is_token kind ≡ true → is_long kind bytes ≡ false → IsLongestToken (bytes ++ rest) kind bytes rest → Spells rest symbols → Spells (bytes ++ rest) (symbol_at (Ok kind) bytes ∷ symbols)
token_first kind bytes rest symbols is short longest h place =
    let d = h (place + length bytes) in
    let at : place ≡ place + (length (bytes ++ rest) - length (bytes ++ rest)) = omega arith in
    record {
      tokens = record { what = Ok kind; start = place; bytes = bytes } ∷ d.tokens;
      divided = (
        rest,
        record { front = bytes ++ rest; blanks = here; begins = subst (λ (k : ℕ). IsLexemeAt k (bytes ++ rest) (Ok kind) place bytes rest) at (token_here kind place (bytes ++ rest) bytes rest is longest short) },
        more_follow kind _ _ is d.divided,
      );
      are = ap (λ (xs : List Symbol). symbol_at (Ok kind) bytes ∷ xs) d.are;
    }

pub nothing_spells : Spells [] (t.EndOfText ∷ [])
nothing_spells place = record {
  tokens = record { what = Ok End; start = place + 0; bytes = [] } ∷ [];
  divided = ([], record { front = []; blanks = here; begins = (refl, refl, refl, refl) }, refl);
  are = refl;
}

-- ---- bytes that are a token before a byte

-- all pass, and the byte behind them does not
abbrev run_fits : (ℕ → Bool) → List ℕ → ℕ → Bool
run_fits test bs c = list_all test bs && not (test c)

abbrev sign_fits : ℕ → List ℕ → ℕ → Bool
sign_fits b [] c = is_one_byte_sign b && not (is_two_byte_sign b c)
sign_fits b (d ∷ []) c = is_two_byte_sign b d
sign_fits b bs c = false

-- a word, a number without a sign, or a sign, that the byte behind it does not go on with
abbrev fits : ℕ → List ℕ → ℕ → Bool
fits b bs c =
    if is_ascii_uppercase b || is_ascii_lowercase b then run_fits is_word_byte bs c
    else (if is_ascii_digit b then run_fits is_ascii_digit bs c
    else (if b == 126 then false
    else sign_fits b bs c))

run_reaches : (test : ℕ → Bool) (bs : List ℕ) (c : ℕ) (rest : List ℕ) → run_fits test bs c ≡ true → prefix_len test (bs ++ c ∷ rest) ≡ length bs
run_reaches test [] c rest e =
    let chosen : (u : Bool) → not u ≡ true → cond u (1 + prefix_len test rest) 0 ≡ 0 = elim [
      | true ↦ λ h. absurd cc
      | false ↦ λ h. refl
    ] in chosen (test c) e
run_reaches test (b ∷ bs) c rest e =
    let chosen : (u : Bool) → ((u && list_all test bs) && not (test c)) ≡ true → cond u (1 + prefix_len test (bs ++ c ∷ rest)) 0 ≡ suc (length bs) = elim [
      | true ↦ λ h. let r = run_reaches test bs c rest h in omega (arith, r)
      | false ↦ λ h. absurd cc
    ] in chosen (test b) e

sign_reaches : (b : ℕ) (bs : List ℕ) (c : ℕ) (rest : List ℕ) → sign_fits b bs c ≡ true → sign_length b (bs ++ c ∷ rest) ≡ suc (length bs)
sign_reaches b [] c rest e = one (is_one_byte_sign b) (is_two_byte_sign b c) e
  where
    one : (o two : Bool) → (o && not two) ≡ true → ◌≡◌ {A = ℕ} (cond two 2 (cond o 1 0)) 1
    one true true h = absurd cc
    one true false h = refl
    one false two h = absurd cc
sign_reaches b (d ∷ []) c rest e = rw e refl
sign_reaches b (d ∷ f ∷ fs) c rest e = absurd cc

reaches : (b : ℕ) (bs : List ℕ) (c : ℕ) (rest : List ℕ) → fits b bs c ≡ true → token_length b (bs ++ c ∷ rest) ≡ suc (length bs)
reaches b bs c rest e = choose (is_ascii_uppercase b || is_ascii_lowercase b) (is_ascii_digit b) (eqb b 126) e
  where
    choose : (u d m : Bool) → cond u (run_fits is_word_byte bs c) (cond d (run_fits is_ascii_digit bs c) (cond m false (sign_fits b bs c))) ≡ true
        → cond u (prefix_len is_word_byte (bs ++ c ∷ rest) + 1) (cond d (prefix_len is_ascii_digit (bs ++ c ∷ rest) + 1) (cond m (minus_length (prefix_len is_ascii_digit (bs ++ c ∷ rest))) (sign_length b (bs ++ c ∷ rest)))) ≡ suc (length bs)
    choose true d m h = let r = run_reaches is_word_byte bs c rest h in omega (arith, r)
    choose false true m h = let r = run_reaches is_ascii_digit bs c rest h in omega (arith, r)
    choose false false true h = absurd cc
    choose false false false h = sign_reaches b bs c rest h

longest_here : (b : ℕ) (bs : List ℕ) (c : ℕ) (rest : List ℕ) → fits b bs c ≡ true → eqb b 39 ≡ false → IsLongestToken (b ∷ (bs ++ c ∷ rest)) (token_kind b (b ∷ bs)) (b ∷ bs) (c ∷ rest)
longest_here b bs c rest f quote =
    let n = reaches b bs c rest f in
    let some : 0 < token_length b (bs ++ c ∷ rest) = omega (arith, n) in
    let long = is_longest b (bs ++ c ∷ rest) quote some in
    let taken : take (token_length b (bs ++ c ∷ rest)) (b ∷ (bs ++ c ∷ rest)) ≡ b ∷ bs = ap (λ (k : ℕ). take k (b ∷ (bs ++ c ∷ rest))) n ∙ front_part (b ∷ bs) (c ∷ rest) in
    let left : drop (token_length b (bs ++ c ∷ rest)) (b ∷ (bs ++ c ∷ rest)) ≡ c ∷ rest = ap (λ (k : ℕ). drop k (b ∷ (bs ++ c ∷ rest))) n ∙ back_part (b ∷ bs) (c ∷ rest) in
    subst (λ (ys : List ℕ). IsLongestToken (b ∷ (bs ++ c ∷ rest)) (token_kind b (b ∷ bs)) (b ∷ bs) ys) left
    (subst (λ (xs : List ℕ). IsLongestToken (b ∷ (bs ++ c ∷ rest)) (token_kind b xs) xs (drop (token_length b (bs ++ c ∷ rest)) (b ∷ (bs ++ c ∷ rest)))) taken long)

-- ---- pieces

-- a blank alone
abbrev is_space : ℕ → List ℕ → Bool
is_space b [] = is_blank b
is_space b bs = false

-- a token, no name too long, before this byte
abbrev is_token_before : ℕ → List ℕ → ℕ → Bool
is_token_before b bs c = fits b bs c && (not (b == 39) && (is_token (token_kind b (b ∷ bs)) && not (is_long (token_kind b (b ∷ bs)) (b ∷ bs))))

-- .. before the first byte of these pieces
abbrev is_token_in : ℕ → List ℕ → List (List ℕ) → Bool
is_token_in b bs ((c ∷ cs) ∷ pieces) = is_token_before b bs c
is_token_in b bs pieces = false

-- each is a blank or a token before the next, and the last a blank
abbrev pub are_pieces : List (List ℕ) → Bool
are_pieces [] = true
are_pieces ([] ∷ pieces) = false
are_pieces ((b ∷ bs) ∷ pieces) = (is_space b bs || is_token_in b bs pieces) && are_pieces pieces

-- one symbol more, unless it is a blank
abbrev unless : Bool → Symbol → List Symbol → List Symbol
unless true x xs = xs
unless false x xs = x ∷ xs

-- the symbols of the pieces that are tokens
abbrev pub symbols_in : List (List ℕ) → List Symbol
symbols_in [] = []
symbols_in ([] ∷ pieces) = symbols_in pieces
symbols_in ((b ∷ bs) ∷ pieces) = unless (is_space b bs) (symbol_at (Ok (token_kind b (b ∷ bs))) (b ∷ bs)) (symbols_in pieces)

-- the text of pieces before what follows them
abbrev text_in : List (List ℕ) → List ℕ → List ℕ
text_in [] rest = rest
text_in (piece ∷ pieces) rest = piece ++ text_in pieces rest

is_not : (u : Bool) → not u ≡ true → u ≡ false
is_not true e = cc
is_not false e = refl

token_before : (b : ℕ) (bs : List ℕ) (c : ℕ) (rest : List ℕ) (symbols : List Symbol) → is_token_before b bs c ≡ true → Spells (c ∷ rest) symbols
    → Spells (b ∷ (bs ++ c ∷ rest)) (symbol_at (Ok (token_kind b (b ∷ bs))) (b ∷ bs) ∷ symbols)
token_before b bs c rest symbols e h =
    let kind : TokenKind = token_kind b (b ∷ bs) in
    let all = and_parts (fits b bs c) (not (eqb b 39) && (is_token kind && not (is_long kind (b ∷ bs)))) e in
    let others = and_parts (not (eqb b 39)) (is_token kind && not (is_long kind (b ∷ bs))) all.1 in
    let last = and_parts (is_token kind) (not (is_long kind (b ∷ bs))) others.1 in
    token_first (token_kind b (b ∷ bs)) (b ∷ bs) (c ∷ rest) symbols last.0 (is_not _ last.1) (longest_here b bs c rest all.0 (is_not _ others.0)) h

token_in : (b : ℕ) (bs : List ℕ) (pieces : List (List ℕ)) (rest : List ℕ) (symbols : List Symbol) → is_token_in b bs pieces ≡ true → Spells (text_in pieces rest) symbols
    → Spells (b ∷ (bs ++ text_in pieces rest)) (symbol_at (Ok (token_kind b (b ∷ bs))) (b ∷ bs) ∷ symbols)
token_in b bs [] rest symbols e h = absurd cc
token_in b bs ([] ∷ pieces) rest symbols e h = absurd cc
token_in b bs ((c ∷ cs) ∷ pieces) rest symbols e h = token_before b bs c (cs ++ text_in pieces rest) symbols e h

space_first : (b : ℕ) (bs text : List ℕ) (symbols : List Symbol) → is_space b bs ≡ true → Spells text symbols → Spells (b ∷ (bs ++ text)) symbols
space_first b [] text symbols e h = blank_first b text symbols e h
space_first b (c ∷ cs) text symbols e h = absurd cc

piece_first : (b : ℕ) (bs : List ℕ) (pieces : List (List ℕ)) (rest : List ℕ) (symbols : List Symbol) (u : Bool) → is_space b bs ≡ u → (u || is_token_in b bs pieces) ≡ true → Spells (text_in pieces rest) (symbols_in pieces ++ symbols)
    → Spells (b ∷ (bs ++ text_in pieces rest)) (unless u (symbol_at (Ok (token_kind b (b ∷ bs))) (b ∷ bs)) (symbols_in pieces) ++ symbols)
piece_first b bs pieces rest symbols true space is h = space_first b bs (text_in pieces rest) (symbols_in pieces ++ symbols) space h
piece_first b bs pieces rest symbols false space is h = token_in b bs pieces rest (symbols_in pieces ++ symbols) is h

pieces_spell : (pieces : List (List ℕ)) (rest : List ℕ) (symbols : List Symbol) → are_pieces pieces ≡ true → Spells rest symbols → Spells (text_in pieces rest) (symbols_in pieces ++ symbols)
pieces_spell [] rest symbols are h = h
pieces_spell ([] ∷ pieces) rest symbols are h = absurd cc
pieces_spell ((b ∷ bs) ∷ pieces) rest symbols are h =
    let both = and_parts (is_space b bs || is_token_in b bs pieces) (are_pieces pieces) are in
    piece_first b bs pieces rest symbols (is_space b bs) refl both.0 (pieces_spell pieces rest symbols both.1 h)

-- ---- lines

-- two bytes stand in one piece
abbrev goes_with : ℕ → ℕ → Bool
goes_with b c = (is_word_byte b && is_word_byte c) || is_two_byte_sign b c

abbrev joined : Bool → ℕ → List ℕ → List (List ℕ) → List (List ℕ)
joined true b piece pieces = (b ∷ piece) ∷ pieces
joined false b piece pieces = (b ∷ []) ∷ piece ∷ pieces

abbrev before_pieces : ℕ → List (List ℕ) → List (List ℕ)
before_pieces b [] = (b ∷ []) ∷ []
before_pieces b ([] ∷ pieces) = (b ∷ []) ∷ pieces
before_pieces b ((c ∷ cs) ∷ pieces) = joined (goes_with b c) b (c ∷ cs) pieces

-- the pieces of a line
abbrev pub cut : List ℕ → List (List ℕ)
cut [] = []
cut (b ∷ bs) = before_pieces b (cut bs)

joined_is : (u : Bool) (b : ℕ) (piece : List ℕ) (pieces : List (List ℕ)) (rest : List ℕ) → text_in (joined u b piece pieces) rest ≡ b ∷ (piece ++ text_in pieces rest)
joined_is true b piece pieces rest = refl
joined_is false b piece pieces rest = refl

before_is : (b : ℕ) (pieces : List (List ℕ)) (rest : List ℕ) → text_in (before_pieces b pieces) rest ≡ b ∷ text_in pieces rest
before_is b [] rest = refl
before_is b ([] ∷ pieces) rest = refl
before_is b ((c ∷ cs) ∷ pieces) rest = joined_is (goes_with b c) b (c ∷ cs) pieces rest

cut_is : (bs rest : List ℕ) → text_in (cut bs) rest ≡ bs ++ rest
cut_is [] rest = refl
cut_is (b ∷ bs) rest = before_is b (cut bs) rest ∙ ap (λ (xs : List ℕ). b ∷ xs) (cut_is bs rest)

-- a line that ends in a blank spells its pieces, whatever stands behind it
pub line_spells : (line rest : List ℕ) (symbols : List Symbol) → are_pieces (cut line) ≡ true → Spells rest symbols → Spells (line ++ rest) (symbols_in (cut line) ++ symbols)
line_spells line rest symbols are h = subst (λ (text : List ℕ). Spells text (symbols_in (cut line) ++ symbols)) (cut_is line rest) (pieces_spell (cut line) rest symbols are h)

-- ---- numbers

digits_spell : (ds rest : List ℕ) (symbols : List Symbol) → 0 < length ds → list_all is_ascii_digit ds ≡ true → Spells (32 ∷ rest) symbols → Spells (ds ++ 32 ∷ rest) (t.Integer (integer_of ds) ∷ symbols)
digits_spell [] rest symbols some all h = absurd (omega arith)
digits_spell (d ∷ ds) rest symbols some all h =
    let both = and_parts (is_ascii_digit d) (list_all is_ascii_digit ds) all in
    let digit : is_ascii_digit d ≡ true = both.0 in
    let upper : is_ascii_uppercase d ≡ false = grind arith in
    let lower : is_ascii_lowercase d ≡ false = grind arith in
    let quote : eqb d 39 ≡ false = grind arith in
    let fit : fits d ds 32 ≡ true = rw (upper, lower, digit, both.1) refl in
    let kind : token_kind d (d ∷ ds) ≡ Integer = rw (upper, lower, digit) refl in
    let long : IsLongestToken (d ∷ (ds ++ 32 ∷ rest)) Integer (d ∷ ds) (32 ∷ rest) = subst (λ (k : TokenKind). IsLongestToken (d ∷ (ds ++ 32 ∷ rest)) k (d ∷ ds) (32 ∷ rest)) kind (longest_here d ds 32 rest fit quote) in
    token_first Integer (d ∷ ds) (32 ∷ rest) symbols refl refl long h

-- a number in decimal before a blank spells its symbol
pub number_spells : (n : ℕ) (rest : List ℕ) (symbols : List Symbol) → n < 2 ^ 127 → Spells (32 ∷ rest) symbols → Spells (decimal n ++ 32 ∷ rest) (t.Integer (Some (pos n)) ∷ symbols)
number_spells n rest symbols fit h =
    let known = decimal_of n (omega (arith, fit)) in
    let value = (integer (pos n) fit).value in
    subst (λ (x : Symbol). Spells (decimal n ++ 32 ∷ rest) (x ∷ symbols)) (ap t.Integer value) (digits_spell (decimal n) rest symbols known.some known.digits h)
