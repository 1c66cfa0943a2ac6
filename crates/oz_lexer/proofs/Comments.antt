-- Comments in brackets, a byte at a time.
use Rattle.std.proofs.Common.{◌≡◌, ℕ, zero, suc, ◌+◌, ◌-◌, List, [], ◌∷◌, Bool, true, false, cond, eqb, Option, Some, None, refl, subst, ap, ◌∙◌, arith}
use Rattle.std.specs.Prelude.{◌||◌, ◌&&◌, slice_index}
use Rattle.oz_lexer.specs.Blanks.{is_comment_sign, IsBehindComment, closed, nested, other}
use Rattle.oz_lexer.specs.Scan.{behind_comment}

-- what the scan finds behind a comment that stands in so many others
abbrev after : ℕ → List ℕ → Option (List ℕ)
after zero rest = Some rest
after (suc depth) rest = behind_comment depth 0 rest

-- the byte before makes no pair with the next one
no_pair : (depth b : ℕ) (text : List ℕ) → is_comment_sign b (slice_index text 0) ≡ false → behind_comment depth b text ≡ behind_comment depth 0 text
no_pair depth b [] e = refl
no_pair depth b (c ∷ cs) e = choose (eqb b 47) (eqb c 42) (eqb b 42) (eqb c 47) e
  where
    choose : (p q r s : Bool) → ((p && q) || (r && s)) ≡ false
        → cond (p && q) (behind_comment (depth + 1) 0 cs) (cond (r && s) (cond (eqb depth 0) (Some cs) (behind_comment (depth - 1) 0 cs)) (behind_comment depth c cs)) ≡ behind_comment depth c cs
    choose true true r s e = absurd cc
    choose true false true true e = absurd cc
    choose true false true false e = refl
    choose true false false s e = refl
    choose false q true true e = absurd cc
    choose false q true false e = refl
    choose false q false s e = refl

-- a comment that closes is found
pub found : {text rest : List ℕ} → IsBehindComment text rest → (depth : ℕ) → behind_comment depth 0 text ≡ after depth rest
found closed zero = refl
found closed (suc depth) = let z : eqb (suc depth) 0 ≡ false = grind arith in let e : suc depth - 1 ≡ depth = omega arith in rw (z, e) refl
found {rest = rest} (nested {text} {middle} inner outer) depth =
    let e : depth + 1 ≡ suc depth = omega arith in
    found inner (depth + 1) ∙ ap (λ (d : ℕ). after d middle) e ∙ found outer depth
found (other {b} {text} e c) depth = no_pair depth b text e ∙ found c depth

-- so many comments close, one behind the other
abbrev CloseAll : ℕ → List ℕ → List ℕ → Type 0
CloseAll zero text rest = IsBehindComment text rest
CloseAll (suc depth) text rest = (middle : List ℕ) × IsBehindComment text middle × CloseAll depth middle rest

pass : (depth b : ℕ) (text rest : List ℕ) → is_comment_sign b (slice_index text 0) ≡ false → CloseAll depth text rest → CloseAll depth (b ∷ text) rest
pass zero b text rest e c = other e c
pass (suc depth) b text rest e c = (c.0, other e c.1, c.2)

open_pair : (depth : ℕ) (text rest : List ℕ) → CloseAll (suc depth) text rest → CloseAll depth (47 ∷ 42 ∷ text) rest
open_pair zero text rest c = nested c.1 c.2
open_pair (suc depth) text rest c = (c.2.0, nested c.1 c.2.1, c.2.2)

close_pair : (depth : ℕ) (text rest : List ℕ) → cond (eqb depth 0) (Some text) (behind_comment (depth - 1) 0 text) ≡ Some rest → ((d : ℕ) → behind_comment d 0 text ≡ Some rest → CloseAll d text rest) → CloseAll depth (42 ∷ 47 ∷ text) rest
close_pair zero text rest e closes = let is : text ≡ rest = cc in subst (λ (xs : List ℕ). IsBehindComment (42 ∷ 47 ∷ text) xs) is closed
close_pair (suc depth) text rest e closes = let z : eqb (suc depth) 0 ≡ false = grind arith in let m : suc depth - 1 ≡ depth = omega arith in (text, closed, closes depth (rw (z, m) at e))

-- what the scan finds is where they close: with the byte before, or without one
mutual
  sound : (depth : ℕ) (text rest : List ℕ) → behind_comment depth 0 text ≡ Some rest → CloseAll depth text rest
  sound depth [] rest e = absurd cc
  sound depth (b ∷ bs) rest e = sound_at depth b bs rest e

  sound_at : (depth last : ℕ) (text rest : List ℕ) → behind_comment depth last text ≡ Some rest → CloseAll depth (last ∷ text) rest
  sound_at depth last [] rest e = absurd cc
  sound_at depth last (b ∷ bs) rest e =
      let chosen : (p q r s : Bool) → eqb last 47 ≡ p → eqb b 42 ≡ q → eqb last 42 ≡ r → eqb b 47 ≡ s
      → cond (p && q) (behind_comment (depth + 1) 0 bs) (cond (r && s) (cond (eqb depth 0) (Some bs) (behind_comment (depth - 1) 0 bs)) (behind_comment depth b bs)) ≡ Some rest → CloseAll depth (last ∷ b ∷ bs) rest = elim [
        | true ↦ elim [
          | true ↦ λ r s ep eq er es e.
              let m : depth + 1 ≡ suc depth = omega arith in
              let x : 47 ≡ last = grind arith in let y : 42 ≡ b = grind arith in
              rw (← x, ← y) (open_pair depth bs rest (sound (suc depth) bs rest (rw m at e)))
          | false ↦ elim [
            | true ↦ λ s ep eq er es e. absurd (let x : 47 ≡ last = grind arith in let y : 42 ≡ last = grind arith in omega arith)
            | false ↦ λ s ep eq er es e. pass depth last (b ∷ bs) rest (rw (ep, eq, er) refl) (sound_at depth b bs rest e)
          ]
        ]
        | false ↦ λ q. elim [
          | true ↦ elim [
            | true ↦ λ ep eq er es e.
                let x : 42 ≡ last = grind arith in let y : 47 ≡ b = grind arith in
                rw (← x, ← y) (close_pair depth bs rest e (λ d f. sound d bs rest f))
            | false ↦ λ ep eq er es e. pass depth last (b ∷ bs) rest (rw (ep, er, es) refl) (sound_at depth b bs rest e)
          ]
          | false ↦ λ s ep eq er es e. pass depth last (b ∷ bs) rest (rw (ep, er) refl) (sound_at depth b bs rest e)
        ]
      ] in chosen (eqb last 47) (eqb b 42) (eqb last 42) (eqb b 47) refl refl refl refl e

-- a comment's end that is found closes it
pub closes_there : (text rest : List ℕ) → behind_comment 0 0 text ≡ Some rest → IsBehindComment text rest
closes_there text rest e = sound 0 text rest e

-- where none is found it stays open
pub stays_open : (text : List ℕ) → behind_comment 0 0 text ≡ None → (rest : List ℕ) → IsBehindComment text rest → ⊥
stays_open text e rest c = let f = found c 0 in cc
