-- What begins at the front of a text, behind blanks.
use Rattle.std.proofs.Common.{◌≡◌, ℕ, suc, ◌+◌, ◌<◌, ◌≤◌, List, [], ◌∷◌, ◌++◌, length, take, drop, Bool, true, false, cond, eqb, Some, None, Ok, Err, refl, sym, subst, ap, ◌∙◌, arith, length-append, inl, inr, ◌⊎◌}
use Rattle.std.specs.Prelude.{◌||◌}
use Rattle.std.specs.List.{prefix_len}
use Rattle.std.specs.Char.{is_ascii_lowercase, is_ascii_uppercase, is_ascii_digit}
use Rattle.std.proofs.lemmas.List.Sums.{prefix_len-le-length}
use Rattle.tree_node.specs.Spelling.{is_word_byte}
use Rattle.std.proofs.lemmas.List.{length-take, append-nil}
use Rattle.oz_lexer.specs.declared.token.TokenKind.{TokenKind}
use Rattle.oz_lexer.specs.declared.token.TokenKind.TheVariants.{Quoted}
use Rattle.oz_lexer.specs.declared.token.LexKind.TheVariants.{BadChar}
use Rattle.oz_lexer.specs.Spelling.{token_kind_of}
use Rattle.oz_lexer.specs.Faults.{IsLongestToken}
use Rattle.oz_lexer.specs.Scan.{is_one_byte_sign, is_two_byte_sign, sign_length, minus_length, quote_from, within_name_limit, quoted_token, plain_token, token_length, token_kind, front_of}
use Rattle.oz_lexer.proofs.Quotes.{ends, quote_kind, closes, closed, no_longer}
use Rattle.oz_lexer.proofs.TokenLength.{is_longest, no_token}

-- ---- at most one longest token

-- of two fronts of a list one goes on with the other
record GoesOn (xs ys a b : List ℕ) : Type 0 where
  more : List ℕ
  is : ys ≡ xs ++ more
  behind : a ≡ more ++ b

fronts : (xs ys a b : List ℕ) → xs ++ a ≡ ys ++ b → GoesOn xs ys a b ⊎ GoesOn ys xs b a
fronts [] ys a b e = inl (record { more = ys; is = refl; behind = e })
fronts (x ∷ xs) [] a b e = inr (record { more = x ∷ xs; is = refl; behind = sym e })
fronts (x ∷ xs) (y ∷ ys) a b e =
    let first : x ≡ y = cc in
    let others : xs ++ a ≡ ys ++ b = cc in
    elim (fronts xs ys a b others) [
      | inl g ↦ let i = g.is in inl (record { more = g.more; is = cc; behind = g.behind })
      | inr g ↦ let i = g.is in inr (record { more = g.more; is = cc; behind = g.behind })
    ]

pub record SameToken (k l : TokenKind) (xs ys a b : List ℕ) : Type 0 where
  pub kind : k ≡ l
  pub bytes : xs ≡ ys
  pub rest : a ≡ b

none_more : (bytes more rest behind : List ℕ) (l : TokenKind) → ((m b : List ℕ) → rest ≡ m ++ b → 0 < length m → token_kind_of (bytes ++ m) ≡ None) → rest ≡ more ++ behind → token_kind_of (bytes ++ more) ≡ Some l → more ≡ []
none_more bytes [] rest behind l longest e spells = refl
none_more bytes (m ∷ ms) rest behind l longest e spells = let no = longest (m ∷ ms) behind e (omega arith) in absurd cc

longer_same : (text : List ℕ) (k l : TokenKind) (xs ys a b : List ℕ) → GoesOn xs ys a b → IsLongestToken text k xs a → IsLongestToken text l ys b → SameToken k l xs ys a b
longer_same text k l xs ys a b g p q =
    let none = none_more xs g.more a b l p.longest g.behind (subst (λ (zs : List ℕ). token_kind_of zs ≡ Some l) g.is q.spells) in
    let again : ys ≡ xs = g.is ∙ ap (λ (zs : List ℕ). xs ++ zs) none ∙ append-nil xs in
    let kinds : Some k ≡ Some l = sym p.spells ∙ ap token_kind_of (sym again) ∙ q.spells in
    record { kind = cc; bytes = sym again; rest = g.behind ∙ ap (λ (zs : List ℕ). zs ++ b) none }

pub one_longest : (text : List ℕ) (k l : TokenKind) (xs ys a b : List ℕ) → IsLongestToken text k xs a → IsLongestToken text l ys b → SameToken k l xs ys a b
one_longest text k l xs ys a b p q =
    elim (fronts xs ys a b (sym p.is ∙ q.is)) [
      | inl g ↦ longer_same text k l xs ys a b g p q
      | inr g ↦ let s = longer_same text l k ys xs b a g q p in record { kind = sym s.kind; bytes = sym s.bytes; rest = sym s.rest }
    ]

-- ---- a longest token is found

pub nothing_spelled : token_kind_of [] ≡ None
unfolding token_kind_of
nothing_spelled = refl

pub front_part : (xs ys : List ℕ) → take (length xs) (xs ++ ys) ≡ xs
front_part [] ys = refl
front_part (x ∷ xs) ys = ap (λ (zs : List ℕ). x ∷ zs) (front_part xs ys)

pub back_part : (xs ys : List ℕ) → drop (length xs) (xs ++ ys) ≡ ys
back_part [] ys = refl
back_part (x ∷ xs) ys = back_part xs ys

longest_quote : (bytes rest cs : List ℕ) (n : ℕ) → ends false bytes ≡ true → cs ≡ bytes ++ rest → n ≡ suc (length bytes) → IsLongestToken (39 ∷ cs) Quoted (take n (39 ∷ cs)) (drop n (39 ∷ cs))
longest_quote bytes rest cs n e is long =
    rw (is, long, front_part bytes rest, back_part bytes rest) (record {
      is = refl;
      spells = quote_kind bytes ∙ rw e refl;
      longest = λ more behind is some. quote_kind (bytes ++ more) ∙ rw (no_longer false bytes more e some) refl;
    })

pub quote_longest : (cs : List ℕ) (n : ℕ) → quote_from false cs 1 ≡ Ok n → IsLongestToken (39 ∷ cs) Quoted (take n (39 ∷ cs)) (drop n (39 ∷ cs))
quote_longest cs n e = let c = closed false cs 1 n e in longest_quote c.bytes c.rest cs n c.ends c.is (omega (arith, c.long))

pub quote_within : (cs : List ℕ) (n : ℕ) → quote_from false cs 1 ≡ Ok n → n ≤ length (39 ∷ cs)
quote_within cs n e =
    let c = closed false cs 1 n e in
    let whole : length cs ≡ length (c.bytes ++ c.rest) = ap (λ (xs : List ℕ). length xs) c.is in
    omega (arith, c.long, length-append c.bytes c.rest)

-- a quoted atom at the front
quote_front : (cs bytes rest : List ℕ) (kind : TokenKind) → 39 ∷ cs ≡ bytes ++ rest → token_kind_of bytes ≡ Some kind → quoted_token (quote_from false cs 1) ≡ within_name_limit kind (length bytes)
quote_front cs [] rest kind is spells = let no = nothing_spelled in absurd cc
quote_front cs (b ∷ bs) rest kind is spells =
    let first : 39 ≡ b = cc in
    let others : cs ≡ bs ++ rest = cc in
    let as_quote : token_kind_of (39 ∷ bs) ≡ Some kind = subst (λ (x : ℕ). token_kind_of (x ∷ bs) ≡ Some kind) (sym first) spells in
    let q = choose (ends false bs) (sym (quote_kind bs) ∙ as_quote) in
    let k = q.1 in
    let m : 1 + length bs ≡ length (b ∷ bs) = omega arith in
    rw (others, closes false bs rest 1 q.0, m, ← k) refl
  where
    choose : (t : Bool) → cond t (Some Quoted) None ≡ Some kind → (t ≡ true) × (Quoted ≡ kind)
    choose true e = (refl, cc)
    choose false e = absurd cc

pub taken_length : (n : ℕ) (xs : List ℕ) → n ≤ length xs → length (take n xs) ≡ n
taken_length n xs le = omega (arith, length-take n xs)

pub is_zero : (n : ℕ) → eqb n 0 ≡ true → n ≡ 0
is_zero n e = grind arith

pub is_some_more : (n : ℕ) → eqb n 0 ≡ false → 0 < n
is_some_more n e = grind arith

-- a token without quotes at the front
pub within : (b : ℕ) (cs : List ℕ) → token_length b cs ≤ length (b ∷ cs)
within b cs = choose (is_ascii_uppercase b || is_ascii_lowercase b) (is_ascii_digit b) (eqb b 126) (prefix_len-le-length is_word_byte cs) (prefix_len-le-length is_ascii_digit cs)
  where
    minus : (n : ℕ) → n ≤ length cs → minus_length n ≤ length (b ∷ cs)
    minus n le = below (eqb n 0)
      where
        below : (t : Bool) → cond t 0 (n + 1) ≤ length (b ∷ cs)
        below true = omega arith
        below false = omega arith

    sign : (xs : List ℕ) → sign_length b xs ≤ length (b ∷ xs)
    sign [] = below (is_one_byte_sign b)
      where
        below : (t : Bool) → cond t 1 0 ≤ 1
        below true = omega arith
        below false = omega arith
    sign (x ∷ xs) = below (is_two_byte_sign b x) (is_one_byte_sign b)
      where
        below : (t u : Bool) → cond t 2 (cond u 1 0) ≤ length (b ∷ x ∷ xs)
        below true u = omega arith
        below false true = omega arith
        below false false = omega arith

    choose : (u d m : Bool) → prefix_len is_word_byte cs ≤ length cs → prefix_len is_ascii_digit cs ≤ length cs
        → cond u (prefix_len is_word_byte cs + 1) (cond d (prefix_len is_ascii_digit cs + 1) (cond m (minus_length (prefix_len is_ascii_digit cs)) (sign_length b cs))) ≤ length (b ∷ cs)
    choose true d m p q = omega arith
    choose false true m p q = omega arith
    choose false false true p q = minus (prefix_len is_ascii_digit cs) q
    choose false false false p q = sign cs

plain_front : (b : ℕ) (cs bytes rest : List ℕ) (kind : TokenKind) → eqb b 39 ≡ false → IsLongestToken (b ∷ cs) kind bytes rest → plain_token b cs (token_length b cs) ≡ within_name_limit kind (length bytes)
plain_front b cs bytes rest kind quote l =
    let chosen : (t : Bool) → eqb (token_length b cs) 0 ≡ t → cond t (Err (BadChar, 0)) (within_name_limit (token_kind b (take (token_length b cs) (b ∷ cs))) (token_length b cs)) ≡ within_name_limit kind (length bytes) = elim [
      | true ↦ λ e. let z = is_zero (token_length b cs) e in let none = no_token b cs bytes rest quote z l.is in let s = l.spells in absurd cc
      | false ↦ λ e.
          let some = is_some_more (token_length b cs) e in
          let s = one_longest (b ∷ cs) (token_kind b (take (token_length b cs) (b ∷ cs))) kind (take (token_length b cs) (b ∷ cs)) bytes (drop (token_length b cs) (b ∷ cs)) rest (is_longest b cs quote some) l in
          let n : token_length b cs ≡ length bytes = sym (taken_length (token_length b cs) (b ∷ cs) (within b cs)) ∙ ap (λ (xs : List ℕ). length xs) s.bytes in
          ap (λ (k : TokenKind). within_name_limit k (token_length b cs)) s.kind ∙ ap (within_name_limit kind) n
    ] in chosen (eqb (token_length b cs) 0) refl

pub token_front : (text : List ℕ) (kind : TokenKind) (bytes rest : List ℕ) → IsLongestToken text kind bytes rest → front_of text ≡ within_name_limit kind (length bytes)
token_front [] kind [] rest l = let s = l.spells in let no = nothing_spelled in absurd cc
token_front [] kind (b ∷ bs) rest l = let i = l.is in absurd cc
token_front (b ∷ cs) kind bytes rest l =
    let chosen : (t : Bool) → eqb b 39 ≡ t → cond t (quoted_token (quote_from false cs 1)) (plain_token b cs (token_length b cs)) ≡ within_name_limit kind (length bytes) = elim [
      | true ↦ λ e. let q : b ≡ 39 = grind arith in quote_front cs bytes rest kind (ap (λ (x : ℕ). x ∷ cs) (sym q) ∙ l.is) l.spells
      | false ↦ λ e. plain_front b cs bytes rest kind e l
    ] in chosen (eqb b 39) refl
