-- The sites that messages go to, as bits.
use Rattle.std.proofs.Common.{◌≡◌, ◌≢◌, ◌⊎◌, ℕ, ◌+◌, ◌-◌, ◌^◌, ◌<◌, ◌≤◌, List, [], ◌∷◌, ◌++◌, length, length-append, get_or, inl, inr, ⊎_elim, sym, ap, ◌∙◌, subst, arith, rules}
use Rattle.std.specs.Prelude.{◌↔◌}
use Rattle.std.specs.List.{Any}
use Rattle.std.specs.Int.{bit_at}
use Rattle.std.specs.Int.Bits.{bit_or}
use Rattle.std.proofs.lemmas.Bool.{cases_lt}
use Rattle.std.proofs.lemmas.List.{get_or_append_left}
use Rattle.std.proofs.lemmas.List.Quantifiers.{Any-push}
use Rattle.std.proofs.lemmas.Nat.Bits.{bit_at-zero, bit_at-lt, bit_at_or, bit_at-pow_same, bit_at-pow_other}
use Rattle.std.proofs.Math.Seq.{get_or-append_seam}
use Rattle.site_message.specs.declared.message.Sent.{Sent}
use Rattle.message_book.specs.Book.{IsSiteOf}
use Rattle.site_worker.specs.Waking.{AreRecipients, IsSentTo}
use Rattle.site_worker.proofs.Ending.{site_or_not}

module _ {X : Type 0} (P : X → Type 0) (xs : List X) (x : X) where
  any_more : Any P xs → Any P (xs ++ x ∷ [])
  any_more (k, y, low, at, holds) = (k, y, (let l = length-append xs (x ∷ []) in omega arith), get_or_append_left xs (x ∷ []) y k low ∙ at, holds)

  any_split : Any P (xs ++ x ∷ []) → Any P xs ⊎ P x
  any_split (k, y, low, at, holds) =
      let l = length-append xs (x ∷ []) in
      ⊎_elim
      (λ (before : k < length xs). inl (k, y, before, sym (get_or_append_left xs (x ∷ []) y k before) ∙ at, holds))
      (λ (last : length xs ≤ k).
      let here : k ≡ length xs = omega arith in
      let is : y ≡ x = sym at ∙ (ap (λ i. get_or (xs ++ x ∷ []) i y) here ∙ get_or-append_seam xs x [] y) in
      inr (subst P is holds))
      (cases_lt k (length xs))

-- the bit of one site, or none where there is no such site
module _ (b x k : ℕ) (one : IsSiteOf 64 x → b ≡ 2 ^ (x - 1)) (none : (IsSiteOf 64 x → ⊥) → b ≡ 0) (is : IsSiteOf 64 k) where
  bit_same : x ≡ k → bit_at b (k - 1) ≡ 1
  bit_same same = ap (λ n. bit_at n (k - 1)) (one (subst (IsSiteOf 64) (sym same) is) ∙ ap (λ n. 2 ^ (n - 1)) same) ∙ bit_at-pow_same (k - 1)

  bit_other : x ≢ k → bit_at b (k - 1) ≡ 0
  bit_other other =
      ⊎_elim
      (λ (at : IsSiteOf 64 x).
      let low = at.0 in
      let first = is.0 in
      let apart : k - 1 ≢ x - 1 = λ (e : k - 1 ≡ x - 1). other (omega arith) in
      ap (λ n. bit_at n (k - 1)) (one at) ∙ bit_at-pow_other (x - 1) (k - 1) apart)
      (λ (out : IsSiteOf 64 x → ⊥). ap (λ n. bit_at n (k - 1)) (none out) ∙ bit_at-zero (k - 1))
      (site_or_not 64 x)

either : (a b : ℕ) → (a ≡ b) ⊎ (a ≢ b)
either a b = search rules

pub none_sent : AreRecipients 0 []
none_sent k is = ((λ (e : bit_at 0 (k - 1) ≡ 1). let z = bit_at-zero (k - 1) in absurd (omega arith)), (λ (some : IsSentTo k []). let low = some.2 in absurd (omega arith)))

-- one message more
pub more_sent : (w b : ℕ) (sent : List Sent) (s : Sent) → (IsSiteOf 64 s.to → b ≡ 2 ^ (s.to - 1)) → ((IsSiteOf 64 s.to → ⊥) → b ≡ 0) → AreRecipients w sent → AreRecipients (bit_or w b) (sent ++ s ∷ [])
more_sent w b sent s one none all k is =
    let both = bit_at_or w b (k - 1) in
    let low_w = bit_at-lt w (k - 1) in
    let low_b = bit_at-lt b (k - 1) in (
      (λ (set : bit_at (bit_or w b) (k - 1) ≡ 1).
          ⊎_elim
          (λ (same : s.to ≡ k). Any-push (λ (t : Sent). t.to ≡ k) sent s same)
          (λ (other : s.to ≢ k).
          let off = bit_other b s.to k one none is other in
          let was : bit_at w (k - 1) ≡ 1 = omega arith in
          any_more (λ (t : Sent). t.to ≡ k) sent s ((all k is).0 was))
          (either s.to k)),
      (λ (some : IsSentTo k (sent ++ s ∷ [])).
          ⊎_elim
          (λ (before : IsSentTo k sent). let was = (all k is).1 before in omega arith)
          (λ (same : s.to ≡ k). let on = bit_same b s.to k one none is same in omega arith)
          (any_split (λ (t : Sent). t.to ≡ k) sent s some)),
    )
