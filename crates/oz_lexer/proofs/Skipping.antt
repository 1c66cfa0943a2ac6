-- Blanks and comments, one after the other.
use Rattle.std.proofs.Common.{◌≡◌, ℕ, zero, suc, ◌-◌, ◌<◌, ◌≤◌, List, [], ◌∷◌, ◌++◌, length, take, drop, Bool, true, false, cond, eqb, Option, Some, None, Result, Ok, Err, refl, sym, subst, ap, ◌∙◌, arith, append_assoc, length-append, length-drop}
use Rattle.std.proofs.lemmas.List.{take-append-drop}
use Rattle.std.specs.Prelude.{slice_index}
use Rattle.std.specs.List.{prefix_len}
use Rattle.oz_lexer.specs.declared.token.LexKind.{LexKind}
use Rattle.oz_lexer.specs.declared.token.LexKind.TheVariants.{OpenComment}
use Rattle.oz_lexer.specs.Blanks.{is_blank, is_in_line, from_newline, IsBehindComment, closed, nested, other, IsBehindBlanks, here, blank, line, comment}
use Rattle.oz_lexer.specs.Faults.{FaultAt, open_comment}
use Rattle.oz_lexer.specs.Scan.{behind_comment, closed_or, behind_slash, behind_blank}
use Rattle.oz_lexer.proofs.Comments.{found, closes_there, stays_open}

closes_shorter : {text rest : List ℕ} → IsBehindComment text rest → length rest < length text
closes_shorter closed = omega arith
closes_shorter (nested c d) = let m = closes_shorter c in let n = closes_shorter d in omega arith
closes_shorter (other e c) = let m = closes_shorter c in omega arith

newline_shorter : (text : List ℕ) → length (from_newline text) ≤ length text
newline_shorter text = omega (arith, length-drop (prefix_len is_in_line text) text)

-- one behind the other
pub both_skip : {text middle rest : List ℕ} → IsBehindBlanks text middle → IsBehindBlanks middle rest → IsBehindBlanks text rest
both_skip here t = t
both_skip (blank e s) t = blank e (both_skip s t)
both_skip (line s) t = line (both_skip s t)
both_skip (comment c s) t = comment c (both_skip s t)

-- what stands before the rest
pub record Before (text rest : List ℕ) : Type 0 where
  pub front : List ℕ
  pub is : text ≡ front ++ rest

more_before : (b : ℕ) {text rest : List ℕ} → Before text rest → Before (b ∷ text) rest
more_before b f = record { front = b ∷ f.front; is = ap (λ (xs : List ℕ). b ∷ xs) f.is }

all_before : {text middle rest : List ℕ} → Before text middle → Before middle rest → Before text rest
all_before f g = record { front = f.front ++ g.front; is = f.is ∙ ap (λ (xs : List ℕ). f.front ++ xs) g.is ∙ sym (append_assoc f.front g.front _) }

closes_before : {text rest : List ℕ} → IsBehindComment text rest → Before text rest
closes_before closed = record { front = 42 ∷ 47 ∷ []; is = refl }
closes_before (nested c d) = more_before 47 (more_before 42 (all_before (closes_before c) (closes_before d)))
closes_before (other {b} e c) = more_before b (closes_before c)

skips_before : {text rest : List ℕ} → IsBehindBlanks text rest → Before text rest
skips_before here = record { front = []; is = refl }
skips_before (blank {b} e s) = more_before b (skips_before s)
skips_before (line {text} s) = more_before 37 (all_before (record { front = take (prefix_len is_in_line text) text; is = sym (take-append-drop (prefix_len is_in_line text) text) }) (skips_before s))
skips_before (comment c s) = more_before 47 (more_before 42 (all_before (closes_before c) (skips_before s)))

drop_front : (front rest : List ℕ) → drop (length (front ++ rest) - length rest) (front ++ rest) ≡ rest
drop_front [] rest = let z : length rest - length rest ≡ 0 = omega arith in rw z refl
drop_front (b ∷ front) rest =
    let le : length rest ≤ length (front ++ rest) = omega (arith, length-append front rest) in
    let n : length (b ∷ front ++ rest) - length rest ≡ suc (length (front ++ rest) - length rest) = omega arith in
    rw n (drop_front front rest)

-- the rest is the end of the text
pub record Tail (text rest : List ℕ) : Type 0 where
  pub within : length rest ≤ length text
  pub is : drop (length text - length rest) text ≡ rest

pub skips_tail : {text rest : List ℕ} → IsBehindBlanks text rest → Tail text rest
skips_tail {text} {rest} s =
    let f = skips_before s in
    let whole : length text ≡ length (f.front ++ rest) = ap (λ (xs : List ℕ). length xs) f.is in
    record { within = omega (arith, length-append f.front rest); is = tail text f.front f.is }
  where
    tail : (xs front : List ℕ) → xs ≡ front ++ rest → drop (length xs - length rest) xs ≡ rest
    tail xs front is = rw is (drop_front front rest)

-- ---- one of them

-- a blank or comment at the front, before rest
pub record Blank (text rest : List ℕ) : Type 0 where
  pub skips : {more : List ℕ} → IsBehindBlanks rest more → IsBehindBlanks text more
  pub shorter : length rest < length text

-- a comment that stays open at the front
pub record Open (text : List ℕ) (kind : LexKind) : Type 0 where
  pub is : kind ≡ OpenComment
  pub fault : FaultAt text OpenComment 0

-- none of them at the front
pub record NoBlank (text : List ℕ) : Type 0 where
  pub blank : (b : ℕ) (bs : List ℕ) → text ≡ b ∷ bs → is_blank b ≡ false
  pub line : (bs : List ℕ) → text ≡ 37 ∷ bs → ⊥
  pub comment : (bs : List ℕ) → text ≡ 47 ∷ bs → slice_index bs 0 ≡ 42 → ⊥

abbrev pub IsBlank : List ℕ → Result (Option (List ℕ)) LexKind → Type 0
IsBlank text (Ok (Some rest)) = Blank text rest
IsBlank text (Ok None) = NoBlank text
IsBlank text (Err kind) = Open text kind

no_slash : (c : ℕ) (cs : List ℕ) → eqb c 42 ≡ false → NoBlank (47 ∷ c ∷ cs)
no_slash c cs e = record {
  blank = λ b bs is. let f : 47 ≡ b = cc in subst (λ (x : ℕ). is_blank x ≡ false) f refl;
  line = λ bs is. absurd cc;
  comment = λ bs is star. let f : c ∷ cs ≡ bs = cc in let g : slice_index (c ∷ cs) 0 ≡ 42 = subst (λ (xs : List ℕ). slice_index xs 0 ≡ 42) (sym f) star in absurd (let h : c ≡ 42 = g in let k : eqb c 42 ≡ true = grind arith in cc);
}

slash_end : NoBlank (47 ∷ [])
slash_end = record {
  blank = λ b bs is. let f : 47 ≡ b = cc in subst (λ (x : ℕ). is_blank x ≡ false) f refl;
  line = λ bs is. absurd cc;
  comment = λ bs is star. let f : [] ≡ bs = cc in absurd (let g : slice_index [] 0 ≡ 42 = subst (λ (xs : List ℕ). slice_index xs 0 ≡ 42) (sym f) star in omega arith);
}

nothing : (b : ℕ) (bs : List ℕ) → is_blank b ≡ false → eqb b 37 ≡ false → eqb b 47 ≡ false → NoBlank (b ∷ bs)
nothing b bs e f g = record {
  blank = λ c cs is. let h : b ≡ c = cc in subst (λ (x : ℕ). is_blank x ≡ false) h e;
  line = λ cs is. absurd (let h : b ≡ 37 = cc in let k : eqb b 37 ≡ true = grind arith in cc);
  comment = λ cs is star. absurd (let h : b ≡ 47 = cc in let k : eqb b 47 ≡ true = grind arith in cc);
}

comment_is : (cs : List ℕ) (o : Option (List ℕ)) → behind_comment 0 0 cs ≡ o → IsBlank (47 ∷ 42 ∷ cs) (closed_or o)
comment_is cs (Some rest) e =
    let c = closes_there cs rest e in
    record { skips = λ s. comment c s; shorter = let m = closes_shorter c in omega arith }
comment_is cs None e = record { is = refl; fault = open_comment cs (stays_open cs e) }

slash_is : (bs : List ℕ) → IsBlank (47 ∷ bs) (behind_slash bs)
slash_is [] = slash_end
slash_is (c ∷ cs) =
    let chosen : (t : Bool) → eqb c 42 ≡ t → IsBlank (47 ∷ c ∷ cs) (cond t (closed_or (behind_comment 0 0 cs)) (Ok None)) = elim [
      | true ↦ λ e. let is : 42 ≡ c = grind arith in subst (λ (x : ℕ). IsBlank (47 ∷ x ∷ cs) (closed_or (behind_comment 0 0 cs))) is (comment_is cs (behind_comment 0 0 cs) refl)
      | false ↦ λ e. no_slash c cs e
    ] in chosen (eqb c 42) refl

-- what is found at the front stands there
pub blank_is : (text : List ℕ) → IsBlank text (behind_blank text)
blank_is [] = record { blank = λ b bs is. absurd cc; line = λ bs is. absurd cc; comment = λ bs is. absurd cc }
blank_is (b ∷ bs) =
    let chosen : (t p s : Bool) → is_blank b ≡ t → eqb b 37 ≡ p → eqb b 47 ≡ s → IsBlank (b ∷ bs) (cond t (Ok (Some bs)) (cond p (Ok (Some (from_newline bs))) (cond s (behind_slash bs) (Ok None)))) = elim [
      | true ↦ λ p s et ep es. record { skips = λ k. blank et k; shorter = omega arith }
      | false ↦ elim [
        | true ↦ λ s et ep es. let is : 37 ≡ b = grind arith in subst (λ (x : ℕ). Blank (x ∷ bs) (from_newline bs)) is (record { skips = λ k. line k; shorter = omega (arith, newline_shorter bs) })
        | false ↦ elim [
          | true ↦ λ et ep es. let is : 47 ≡ b = grind arith in subst (λ (x : ℕ). IsBlank (x ∷ bs) (behind_slash bs)) is (slash_is bs)
          | false ↦ λ et ep es. nothing b bs et ep es
        ]
      ]
    ] in chosen (is_blank b) (eqb b 37) (eqb b 47) refl refl refl

pub blank_found : (text : List ℕ) (r : Result (Option (List ℕ)) LexKind) → behind_blank text ≡ r → IsBlank text r
blank_found text r e = subst (IsBlank text) e (blank_is text)

-- ---- all of them

-- no blank and no closed comment at the front
abbrev pub Stuck : List ℕ → Type 0
Stuck text = (rest : List ℕ) → behind_blank text ≡ Ok (Some rest) → ⊥

abbrev skip_on : (List ℕ → List ℕ) → List ℕ → Result (Option (List ℕ)) LexKind → List ℕ
skip_on go text (Ok (Some rest)) = go rest
skip_on go text (Ok None) = text
skip_on go text (Err kind) = text

-- the text behind at most so many
abbrev pub skip_all : ℕ → List ℕ → List ℕ
skip_all zero text = text
skip_all (suc n) text = skip_on (skip_all n) text (behind_blank text)

stays : (n : ℕ) (text : List ℕ) → Stuck text → skip_all n text ≡ text
stays zero text stuck = refl
stays (suc n) text stuck =
    let chosen : (r : Result (Option (List ℕ)) LexKind) → behind_blank text ≡ r → skip_on (skip_all n) text r ≡ text = elim [
      | Ok (Some rest) ↦ λ e. absurd (stuck rest e)
      | Ok None ↦ λ e. refl
      | Err kind ↦ λ e. refl
    ] in chosen (behind_blank text) refl

one_more : (n : ℕ) (text rest : List ℕ) → behind_blank text ≡ Ok (Some rest) → skip_all (suc n) text ≡ skip_all n rest
one_more n text rest e = rw e refl

-- the text behind all of them is found
ends_at : {text rest : List ℕ} → IsBehindBlanks text rest → Stuck rest → (n : ℕ) → length text ≤ n → skip_all n text ≡ rest
ends_at {text} here stuck n le = stays n text stuck
ends_at (blank {b} {text} e s) stuck zero le = absurd (omega arith)
ends_at (blank {b} {text} e s) stuck (suc n) le = one_more n (b ∷ text) text (rw e refl) ∙ ends_at s stuck n (omega arith)
ends_at (line {text} s) stuck zero le = absurd (omega arith)
ends_at (line {text} s) stuck (suc n) le = one_more n (37 ∷ text) (from_newline text) refl ∙ ends_at s stuck n (omega (arith, newline_shorter text))
ends_at (comment {text} {middle} c s) stuck zero le = absurd (omega arith)
ends_at (comment {text} {middle} c s) stuck (suc n) le =
    one_more n (47 ∷ 42 ∷ text) middle (ap closed_or (found c 0)) ∙ ends_at s stuck n (let m = closes_shorter c in omega arith)

-- they end at one place
pub one_end : {text a b : List ℕ} → IsBehindBlanks text a → Stuck a → IsBehindBlanks text b → Stuck b → a ≡ b
one_end {text} s p t q = sym (ends_at s p (length text) (omega arith)) ∙ ends_at t q (length text) (omega arith)

-- they end somewhere
pub record Ends (text : List ℕ) : Type 0 where
  pub rest : List ℕ
  pub skips : IsBehindBlanks text rest
  pub stuck : Stuck rest
  pub within : length rest ≤ length text

pub they_end : (n : ℕ) (text : List ℕ) → length text ≤ n → Ends text
they_end zero [] le = record { rest = []; skips = here; stuck = λ rest e. absurd cc; within = omega arith }
they_end zero (b ∷ bs) le = absurd (omega arith)
they_end (suc n) text le =
    let chosen : (r : Result (Option (List ℕ)) LexKind) → behind_blank text ≡ r → Ends text = elim [
      | Ok (Some rest) ↦ λ e.
          let b : Blank text rest = blank_found text (Ok (Some rest)) e in
          let s = b.shorter in
          let more = they_end n rest (omega arith) in
          record { rest = more.rest; skips = b.skips more.skips; stuck = more.stuck; within = let w = more.within in omega arith }
      | Ok None ↦ λ e. record { rest = text; skips = here; stuck = λ rest f. absurd cc; within = omega arith }
      | Err kind ↦ λ e. record { rest = text; skips = here; stuck = λ rest f. absurd cc; within = omega arith }
    ] in chosen (behind_blank text) refl
