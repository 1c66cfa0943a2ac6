-- At most one token, end or fault begins at a place.
use Rattle.std.proofs.Common.{◌≡◌, ℕ, List, [], ◌∷◌, ◌++◌, length, take, drop, Bool, true, false, cond, eqb, Option, Some, None, Result, Ok, Err, refl, subst, ap, ◌∙◌, arith}
use Rattle.std.specs.Prelude.{slice_index}
use Rattle.oz_lexer.specs.declared.token.TokenKind.{TokenKind}
use Rattle.oz_lexer.specs.declared.token.TokenKind.TheVariants.{Variable, Atom, Quoted, Integer, Word, Sign, End}
use Rattle.oz_lexer.specs.declared.token.LexKind.{LexKind}
use Rattle.oz_lexer.specs.declared.token.LexKind.TheVariants.{BadChar, OpenComment, LongName}
use Rattle.oz_lexer.specs.Spelling.{is_long, token_kind_of}
use Rattle.oz_lexer.specs.Blanks.{is_blank, IsBehindComment}
use Rattle.oz_lexer.specs.Faults.{IsLongestToken, NothingBegins, FaultAt, bad_char, control, bad_escape, open_quote, open_escape, open_comment, long_name}
use Rattle.oz_lexer.specs.Tokens.{IsLexemeAt}
use Rattle.oz_lexer.specs.Scan.{behind_comment, closed_or, behind_slash, behind_blank, quote_from, within_name_limit, quoted_token, token_length, token_kind, front_of}
use Rattle.oz_lexer.proofs.TokenBytes.{blank_spelled, line_spelled, slash_spelled}
use Rattle.oz_lexer.proofs.QuoteFaults.{finds_control, finds_escape, finds_open, finds_last}
use Rattle.oz_lexer.proofs.TokenLength.{is_longest}
use Rattle.oz_lexer.proofs.Comments.{closes_there}
use Rattle.oz_lexer.proofs.Skipping.{Stuck}
use Rattle.oz_lexer.proofs.Fronts.{is_some_more, nothing_spelled, front_part, back_part, token_front}
use Rattle.oz_lexer.proofs.FrontLemmas.{front_at, after_blank, Seen, seen}

none_stuck : (text : List ℕ) → behind_blank text ≡ Ok None → Stuck text
none_stuck text e rest f = cc

no_blank_at : (b : ℕ) (cs : List ℕ) → is_blank b ≡ false → eqb b 37 ≡ false → eqb b 47 ≡ false → behind_blank (b ∷ cs) ≡ Ok None
no_blank_at b cs e f g = rw (e, f, g) refl

-- no blank stands where a token begins
first_none : (b : ℕ) (bs cs : List ℕ) (kind : TokenKind) → token_kind_of (b ∷ bs) ≡ Some kind → behind_blank (b ∷ cs) ≡ Ok None
first_none b bs cs kind spells =
    let chosen : (t p s : Bool) → is_blank b ≡ t → eqb b 37 ≡ p → eqb b 47 ≡ s → behind_blank (b ∷ cs) ≡ Ok None = elim [
      | true ↦ λ p s et ep es. let no = blank_spelled b bs et in absurd cc
      | false ↦ elim [
        | true ↦ λ s et ep es. let is : 37 ≡ b = grind arith in let no : token_kind_of (b ∷ bs) ≡ None = subst (λ (x : ℕ). token_kind_of (x ∷ bs) ≡ None) is (line_spelled bs) in absurd cc
        | false ↦ elim [
          | true ↦ λ et ep es. let is : 47 ≡ b = grind arith in let no : token_kind_of (b ∷ bs) ≡ None = subst (λ (x : ℕ). token_kind_of (x ∷ bs) ≡ None) is (slash_spelled bs) in absurd cc
          | false ↦ λ et ep es. no_blank_at b cs et ep es
        ]
      ]
    ] in chosen (is_blank b) (eqb b 37) (eqb b 47) refl refl refl

longest_none : (text bytes rest : List ℕ) (kind : TokenKind) → text ≡ bytes ++ rest → token_kind_of bytes ≡ Some kind → behind_blank text ≡ Ok None
longest_none text [] rest kind is spells = let no = nothing_spelled in absurd cc
longest_none text (b ∷ bs) rest kind is spells = rw is (first_none b bs (bs ++ rest) kind spells)

-- ---- faults

pub record IsFound (text : List ℕ) (r : Result (TokenKind × ℕ) (LexKind × ℕ)) : Type 0 where
  pub stuck : Stuck text
  pub found : front_at text ≡ r

found_none : (text : List ℕ) (r : Result (TokenKind × ℕ) (LexKind × ℕ)) → behind_blank text ≡ Ok None → front_of text ≡ r → IsFound text r
found_none text r e f = record { stuck = none_stuck text e; found = rw e f }

slash_none : (text : List ℕ) → (slice_index text 0 ≡ 42 → ⊥) → behind_slash text ≡ Ok None
slash_none [] h = refl
slash_none (c ∷ cs) h =
    let chosen : (t : Bool) → eqb c 42 ≡ t → cond t (closed_or (behind_comment 0 0 cs)) (Ok None) ≡ Ok None = elim [
      | true ↦ λ e. absurd (h (grind arith))
      | false ↦ λ e. refl
    ] in chosen (eqb c 42) refl

is_it : (b k : ℕ) → eqb b k ≡ true → b ≡ k
is_it b k e = grind arith

nothing_none : (b : ℕ) (text : List ℕ) → NothingBegins b text → behind_blank (b ∷ text) ≡ Ok None
nothing_none b text n =
    let chosen : (p s : Bool) → eqb b 37 ≡ p → eqb b 47 ≡ s → behind_blank (b ∷ text) ≡ Ok None = elim [
      | true ↦ λ s ep es. absurd (n.no_line (is_it b 37 ep))
      | false ↦ elim [
        | true ↦ λ ep es. rw (n.no_blank, ep, es) (slash_none text (λ h. n.no_comment (is_it b 47 es) h))
        | false ↦ λ ep es. no_blank_at b text n.no_blank ep es
      ]
    ] in chosen (eqb b 37) (eqb b 47) refl refl

nothing_front : (b : ℕ) (text : List ℕ) → NothingBegins b text → front_of (b ∷ text) ≡ Err (BadChar, 0)
nothing_front b text n =
    let chosen : (q z : Bool) → eqb b 39 ≡ q → eqb (token_length b text) 0 ≡ z → cond q (quoted_token (quote_from false text 1)) (cond z (Err (BadChar, 0)) (within_name_limit (token_kind b (take (token_length b text) (b ∷ text))) (token_length b text))) ≡ Err (BadChar, 0) = elim [
      | true ↦ λ z eq ez. absurd (n.no_quote (is_it b 39 eq))
      | false ↦ elim [
        | true ↦ λ eq ez. refl
        | false ↦ λ eq ez.
            let l = is_longest b text eq (is_some_more (token_length b text) ez) in
            let no = n.no_token (take (token_length b text) (b ∷ text)) (drop (token_length b text) (b ∷ text)) l.is in
            let spells = l.spells in
            absurd cc
      ]
    ] in chosen (eqb b 39) (eqb (token_length b text) 0) refl refl

comment_found : (text : List ℕ) → ((rest : List ℕ) → IsBehindComment text rest → ⊥) → IsFound (47 ∷ 42 ∷ text) (Err (OpenComment, 0))
comment_found text h =
    let chosen : (o : Option (List ℕ)) → behind_comment 0 0 text ≡ o → behind_blank (47 ∷ 42 ∷ text) ≡ Err OpenComment = elim [
      | None ↦ λ e. ap closed_or e
      | Some rest ↦ λ e. absurd (h rest (closes_there text rest e))
    ] in
    let is = chosen (behind_comment 0 0 text) refl in
    record { stuck = λ rest f. cc; found = ap (after_blank (47 ∷ 42 ∷ text)) is }

fitting_is : (kind : TokenKind) (bytes : List ℕ) (t : Bool) → is_long kind bytes ≡ t → within_name_limit kind (length bytes) ≡ cond t (Err (LongName, 0)) (Ok (kind, length bytes))
fitting_is kind bytes t e = rw e refl

token_found : (text : List ℕ) (kind : TokenKind) (bytes rest : List ℕ) (t : Bool) → IsLongestToken text kind bytes rest → is_long kind bytes ≡ t → IsFound text (cond t (Err (LongName, 0)) (Ok (kind, length bytes)))
token_found text kind bytes rest t l e = found_none text _ (longest_none text bytes rest kind l.is l.spells) (token_front text kind bytes rest l ∙ fitting_is kind bytes t e)

fault_found : {text : List ℕ} {kind : LexKind} {n : ℕ} → FaultAt text kind n → IsFound text (Err (kind, n))
fault_found (bad_char b text nb) = found_none (b ∷ text) _ (nothing_none b text nb) (nothing_front b text nb)
fault_found (control b inside rest q c) = found_none (39 ∷ (inside ++ b ∷ rest)) _ refl (ap quoted_token (finds_control b inside rest q c))
fault_found (bad_escape b inside rest q c) = found_none (39 ∷ (inside ++ 92 ∷ b ∷ rest)) _ refl (ap quoted_token (finds_escape b inside rest q c))
fault_found (open_quote inside q) = found_none (39 ∷ inside) _ refl (ap quoted_token (finds_open inside q))
fault_found (open_escape inside q) = found_none (39 ∷ (inside ++ 92 ∷ [])) _ refl (ap quoted_token (finds_last inside q))
fault_found (open_comment text h) = comment_found text h
fault_found (long_name text kind bytes rest l e) = token_found text kind bytes rest true l e

-- ---- all

pub record OneFront (place : ℕ) (text : List ℕ) (s : Seen) : Type 0 where
  pub stuck : Stuck text
  pub same : s ≡ seen place text (front_at text)

of_token : (place : ℕ) (text : List ℕ) (kind : TokenKind) (start : ℕ) (bytes rest : List ℕ) → IsLongestToken text kind bytes rest → is_long kind bytes ≡ false → start ≡ place
    → OneFront place text (record { what = Ok kind; start = start; bytes = bytes; rest = rest })
of_token place text kind start bytes rest l e at =
    let f = token_found text kind bytes rest false l e in
    let front : take (length bytes) text ≡ bytes = rw (l.is) (front_part bytes rest) in
    let back : drop (length bytes) text ≡ rest = rw (l.is) (back_part bytes rest) in
    record { stuck = f.stuck; same = rw (f.found, front, back, at) refl }

pub one_front : (place : ℕ) (text : List ℕ) (what : Result TokenKind LexKind) (start : ℕ) (bytes rest : List ℕ) → IsLexemeAt place text what start bytes rest
    → OneFront place text (record { what = what; start = start; bytes = bytes; rest = rest })
one_front place text (Ok Variable) start bytes rest b = of_token place text Variable start bytes rest b.0 b.1 b.2
one_front place text (Ok Atom) start bytes rest b = of_token place text Atom start bytes rest b.0 b.1 b.2
one_front place text (Ok Quoted) start bytes rest b = of_token place text Quoted start bytes rest b.0 b.1 b.2
one_front place text (Ok Integer) start bytes rest b = of_token place text Integer start bytes rest b.0 b.1 b.2
one_front place text (Ok Word) start bytes rest b = of_token place text Word start bytes rest b.0 b.1 b.2
one_front place text (Ok Sign) start bytes rest b = of_token place text Sign start bytes rest b.0 b.1 b.2
one_front place text (Ok End) start bytes rest b = record { stuck = rw (b.0) (λ rest e. cc); same = rw (b.0, b.1, b.2, b.3) refl }
one_front place text (Err kind) start bytes rest b =
    let f = fault_found b.1 in
    record { stuck = f.stuck; same = rw (f.found, b.2, b.3, b.4) refl }
