-- What begins at the front of a text, behind blanks, is found.
use Rattle.std.proofs.Common.{◌≡◌, ℕ, ◌+◌, ◌≤◌, List, [], ◌∷◌, length, take, drop, Bool, true, false, cond, eqb, Option, Some, None, Result, Ok, Err, refl, subst, ap, arith, inl, inr, ◌⊎◌}
use Rattle.std.specs.Prelude.{◌&&◌, not, nat_le}
use Rattle.oz_lexer.specs.declared.token.TokenKind.{TokenKind}
use Rattle.oz_lexer.specs.declared.token.TokenKind.TheVariants.{Variable, Atom, Quoted, Integer, Word, Sign, End}
use Rattle.oz_lexer.specs.declared.token.LexKind.{LexKind}
use Rattle.oz_lexer.specs.declared.token.LexKind.TheVariants.{BadChar, LongName}
use Rattle.oz_lexer.specs.Spelling.{is_variable, is_lower_word, is_quoted, are_digits, digits_of, is_sign, is_long, is_name, token_kind_of}
use Rattle.tree_node.specs.Words.{is_reserved}
use Rattle.oz_lexer.specs.Faults.{IsLongestToken, bad_char, long_name}
use Rattle.oz_lexer.specs.Tokens.{IsLexemeAt}
use Rattle.oz_lexer.specs.Scan.{behind_blank, quote_from, within_name_limit, quoted_token, plain_token, token_length, token_kind, front_of}
use Rattle.oz_lexer.proofs.QuoteFaults.{quote_fault}
use Rattle.oz_lexer.proofs.TokenLength.{is_longest, no_token}
use Rattle.oz_lexer.proofs.Skipping.{NoBlank, blank_found}
use Rattle.oz_lexer.proofs.Fronts.{is_zero, is_some_more, within, taken_length, quote_longest, quote_within}

-- ---- what is found begins there

no_end : (bytes : List ℕ) → token_kind_of bytes ≡ Some End → ⊥
unfolding token_kind_of
no_end bytes e = choose (is_variable bytes) (is_lower_word bytes) (is_reserved bytes) (is_quoted bytes) (are_digits (digits_of bytes)) (is_sign bytes) e
  where
    choose : (v w r q d s : Bool) → cond v (Some Variable) (cond w (cond r (Some Word) (Some Atom)) (cond q (Some Quoted) (cond d (Some Integer) (cond s (Some Sign) None)))) ≡ Some End → ⊥
    choose true w r q d s e = cc
    choose false true true q d s e = cc
    choose false true false q d s e = cc
    choose false false r true d s e = cc
    choose false false r false true s e = cc
    choose false false r false false true e = cc
    choose false false r false false false e = cc

-- what the scan of a front tells of it
abbrev pub Found : ℕ → List ℕ → Result (TokenKind × ℕ) (LexKind × ℕ) → Type 0
Found place text (Ok t) = IsLexemeAt place text (Ok t.0) place (take t.1 text) (drop t.1 text)
Found place text (Err e) = IsLexemeAt place text (Err e.0) (place + e.1) [] text

token_begins : (place : ℕ) (text bytes rest : List ℕ) (kind : TokenKind) → IsLongestToken text kind bytes rest → is_long kind bytes ≡ false → IsLexemeAt place text (Ok kind) place bytes rest
token_begins place text bytes rest Variable l s = (l, s, refl)
token_begins place text bytes rest Atom l s = (l, s, refl)
token_begins place text bytes rest Quoted l s = (l, s, refl)
token_begins place text bytes rest Integer l s = (l, s, refl)
token_begins place text bytes rest Word l s = (l, s, refl)
token_begins place text bytes rest Sign l s = (l, s, refl)
token_begins place text bytes rest End l s = absurd (no_end bytes l.spells)

-- a token of so many bytes
fitting_found : (place : ℕ) (text : List ℕ) (kind : TokenKind) (n : ℕ) → n ≤ length text → IsLongestToken text kind (take n text) (drop n text) → Found place text (within_name_limit kind n)
fitting_found place text kind n le l =
    let m = taken_length n text le in
    let same : is_long kind (take n text) ≡ (is_name kind && not (nat_le n 255)) = ap (λ (k : ℕ). is_name kind && not (nat_le k 255)) m in
    let chosen : (t : Bool) → is_long kind (take n text) ≡ t → Found place text (cond t (Err (LongName, 0)) (Ok (kind, n))) = elim [
      | true ↦ λ e. (0, long_name text kind (take n text) (drop n text) l e, refl, refl, refl)
      | false ↦ λ e. token_begins place text (take n text) (drop n text) kind l e
    ] in chosen (is_name kind && not (nat_le n 255)) same

quote_found : (place : ℕ) (cs : List ℕ) (r : Result ℕ (LexKind × ℕ)) → quote_from false cs 1 ≡ r → Found place (39 ∷ cs) (quoted_token r)
quote_found place cs (Ok n) e = fitting_found place (39 ∷ cs) Quoted n (quote_within cs n e) (quote_longest cs n e)
quote_found place cs (Err (kind, m)) e = (m, quote_fault cs kind m e, refl, refl, refl)

plain_found : (place : ℕ) (b : ℕ) (cs : List ℕ) → eqb b 39 ≡ false → NoBlank (b ∷ cs) → Found place (b ∷ cs) (plain_token b cs (token_length b cs))
plain_found place b cs quote none =
    let chosen : (t : Bool) → eqb (token_length b cs) 0 ≡ t → Found place (b ∷ cs) (cond t (Err (BadChar, 0)) (within_name_limit (token_kind b (take (token_length b cs) (b ∷ cs))) (token_length b cs))) = elim [
      | true ↦ λ e. (
        0,
        bad_char b cs (record {
          no_token = λ bytes rest is. no_token b cs bytes rest quote (is_zero (token_length b cs) e) is;
          no_blank = none.blank b cs refl;
          no_line = λ is. none.line cs (ap (λ (x : ℕ). x ∷ cs) is);
          no_comment = λ is star. none.comment cs (ap (λ (x : ℕ). x ∷ cs) is) star;
          no_quote = λ is. absurd (let f : eqb b 39 ≡ true = grind arith in cc);
        }),
        refl,
        refl,
        refl,
      )
      | false ↦ λ e. fitting_found place (b ∷ cs) (token_kind b (take (token_length b cs) (b ∷ cs))) (token_length b cs) (within b cs) (is_longest b cs quote (is_some_more (token_length b cs) e))
    ] in chosen (eqb (token_length b cs) 0) refl

pub front_found : (place : ℕ) (text : List ℕ) → behind_blank text ≡ Ok None → Found place text (front_of text)
front_found place [] none = (refl, refl, refl, refl)
front_found place (b ∷ cs) none =
    let chosen : (t : Bool) → eqb b 39 ≡ t → Found place (b ∷ cs) (cond t (quoted_token (quote_from false cs 1)) (plain_token b cs (token_length b cs))) = elim [
      | true ↦ λ e. let is : 39 ≡ b = grind arith in subst (λ (x : ℕ). Found place (x ∷ cs) (quoted_token (quote_from false cs 1))) is (quote_found place cs (quote_from false cs 1) refl)
      | false ↦ λ e. plain_found place b cs e (blank_found (b ∷ cs) (Ok None) none)
    ] in chosen (eqb b 39) refl

-- the end, or a longest token
pub end_or_token : (place : ℕ) (text : List ℕ) (kind : TokenKind) (start : ℕ) (bytes rest : List ℕ) → IsLexemeAt place text (Ok kind) start bytes rest → (text ≡ []) ⊎ IsLongestToken text kind bytes rest
end_or_token place text Variable start bytes rest b = inr b.0
end_or_token place text Atom start bytes rest b = inr b.0
end_or_token place text Quoted start bytes rest b = inr b.0
end_or_token place text Integer start bytes rest b = inr b.0
end_or_token place text Word start bytes rest b = inr b.0
end_or_token place text Sign start bytes rest b = inr b.0
end_or_token place text End start bytes rest b = inl b.0

pub ok_begins : (place : ℕ) (text : List ℕ) (kind : TokenKind) (n : ℕ) → behind_blank text ≡ Ok None → front_of text ≡ Ok (kind, n) → IsLexemeAt place text (Ok kind) place (take n text) (drop n text)
ok_begins place text kind n none e = subst (Found place text) e (front_found place text none)

pub err_begins : (place : ℕ) (text : List ℕ) (kind : LexKind) (n : ℕ) → behind_blank text ≡ Ok None → front_of text ≡ Err (kind, n) → IsLexemeAt place text (Err kind) (place + n) [] text
err_begins place text kind n none e = subst (Found place text) e (front_found place text none)

-- ---- what begins there is found

abbrev pub after_blank : List ℕ → Result (Option (List ℕ)) LexKind → Result (TokenKind × ℕ) (LexKind × ℕ)
after_blank text (Ok o) = front_of text
after_blank text (Err kind) = Err (kind, 0)

-- what the scan finds at the front of a text that begins with no blank and no closed comment
abbrev pub front_at : List ℕ → Result (TokenKind × ℕ) (LexKind × ℕ)
front_at text = after_blank text (behind_blank text)

-- a token or fault as its place and its bytes, and the text behind it
pub record Seen : Type 0 where
  pub what : Result TokenKind LexKind
  pub start : ℕ
  pub bytes : List ℕ
  pub rest : List ℕ

abbrev pub seen : ℕ → List ℕ → Result (TokenKind × ℕ) (LexKind × ℕ) → Seen
seen place text (Ok t) = record { what = Ok t.0; start = place; bytes = take t.1 text; rest = drop t.1 text }
seen place text (Err e) = record { what = Err e.0; start = place + e.1; bytes = []; rest = text }
