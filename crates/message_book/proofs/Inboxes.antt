-- One place of a list of inboxes changes at a time.
use Rattle.std.proofs.Common.{◌≡◌, ◌≢◌, ℕ, zero, suc, ◌+◌, ◌<◌, ◌≤◌, List, [], ◌∷◌, ◌++◌, length, set, get_or, Bool, true, false, cond, eqb, eqb-true, eq-eqb, refl, sym, ap, ◌∙◌, subst, arith, length-set, get_or-set_same, get_or-set_other, append_assoc}
use mathlib.Core.Logic.{dite}
use native.Mathlib.Decide.{ℕ_discrete}
use Rattle.message_book.specs.Inbox.{InboxState}
use Rattle.message_book.specs.Inboxes.{place, no_inbox, inbox_at, new_messages, HasRoom}

pub inbox_get : (bs : List InboxState) (p : ℕ) (b : InboxState) → p < length bs → get_or bs p b ≡ inbox_at bs p
inbox_get [] p b inside = absurd (omega arith)
inbox_get (x ∷ xs) zero b inside = refl
inbox_get (x ∷ xs) (suc p) b inside = inbox_get xs p b (omega arith)

pub inbox_set_here : (bs : List InboxState) (p i : ℕ) (b : InboxState) → p < length bs → p ≡ i → inbox_at (set bs p b) i ≡ b
inbox_set_here bs p i b inside same = subst (λ (k : ℕ). inbox_at (set bs p b) k ≡ b) same (get_or-set_same bs p b no_inbox inside)

pub inbox_set_other : (bs : List InboxState) (p i : ℕ) (b : InboxState) → i ≢ p → inbox_at (set bs p b) i ≡ inbox_at bs i
inbox_set_other bs p i b other = get_or-set_other bs p i b no_inbox other

-- where one inbox_at has changed in a way that every inbox_at is in with itself
pub inbox_related : (R : InboxState → InboxState → Type 0) (bs : List InboxState) (p : ℕ) (b : InboxState) → ((x : InboxState) → R x x) → p < length bs → R (inbox_at bs p) b → (i : ℕ) → R (inbox_at bs i) (inbox_at (set bs p b) i)
inbox_related R bs p b same inside here i = dite (ℕ_discrete p i)
    (λ is. subst (λ (y : InboxState). R (inbox_at bs i) y) (sym (inbox_set_here bs p i b inside is)) (subst (λ (k : ℕ). R (inbox_at bs k) b) is here))
    (λ no. subst (λ (y : InboxState). R (inbox_at bs i) y) (sym (inbox_set_other bs p i b (λ e. no (sym e)))) (same (inbox_at bs i)))

module _ (z : ℕ) (bs : List InboxState) (to n : ℕ) (m : List ℕ) (b : InboxState) (cs : List (ℕ × List ℕ)) (room : HasRoom z bs (suc (length cs)) ((to, m) ∷ cs)) where
  abbrev p : ℕ
  p = place z to

  inside : p < length bs
  inside = (room 0 (to, m) (omega arith)).0

  pub room_left : (inbox_at bs p).room ≤ b.room + 1 → HasRoom z (set bs p b) (length cs) cs
  room_left shrinks k d below =
      let c = get_or cs k d in
      let old = room (suc k) d (omega arith) in
      let len = length-set bs p b in
      let left : (place z c.0 < length (set bs p b)) = let o = old.0 in omega arith in
      let h = inbox_related (λ x y. x.room ≤ y.room + 1) bs p b (λ x. omega arith) inside shrinks (place z c.0) in
      let o = old.1 in
      (left, omega arith)

  pub hands_left : b.hand ≡ (inbox_at bs p).hand → (i : ℕ) → (inbox_at (set bs p b) i).hand ≡ (inbox_at bs i).hand
  hands_left e = inbox_related (λ x y. y.hand ≡ x.hand) bs p b (λ x. refl) inside e

  pub idle_left : b.idle ≡ (inbox_at bs p).idle → (i : ℕ) → (inbox_at (set bs p b) i).idle ≡ (inbox_at bs i).idle
  idle_left e = inbox_related (λ x y. y.idle ≡ x.idle) bs p b (λ x. refl) inside e

  pub waiting_left : b.waiting ≡ (inbox_at bs p).waiting ++ (n, m) ∷ [] → (i : ℕ) → (inbox_at (set bs p b) i).waiting ++ new_messages z i (n + 1) cs ≡ (inbox_at bs i).waiting ++ new_messages z i n ((to, m) ∷ cs)
  waiting_left e i = go (eqb p i) refl
    where
      go : (t : Bool) → eqb p i ≡ t → (inbox_at (set bs p b) i).waiting ++ new_messages z i (n + 1) cs ≡ (inbox_at bs i).waiting ++ new_messages z i n ((to, m) ∷ cs)
      go true is =
          let same : p ≡ i = eqb-true p i is in
          let here : (inbox_at (set bs p b) i).waiting ≡ (inbox_at bs i).waiting ++ (n, m) ∷ [] =
          ap (λ (x : InboxState). x.waiting) (inbox_set_here bs p i b inside same) ∙ (e ∙ ap (λ (k : ℕ). (inbox_at bs k).waiting ++ (n, m) ∷ []) same) in
          ap (λ l. l ++ new_messages z i (n + 1) cs) here
          ∙ (append_assoc (inbox_at bs i).waiting ((n, m) ∷ []) (new_messages z i (n + 1) cs)
          ∙ sym (ap (λ t. (inbox_at bs i).waiting ++ cond t ((n, m) ∷ new_messages z i (n + 1) cs) (new_messages z i (n + 1) cs)) is))
      go false is =
          ap (λ (x : InboxState). x.waiting ++ new_messages z i (n + 1) cs) (inbox_set_other bs p i b (λ same. let yes = eq-eqb p i (sym same) in let contrary : true ≡ false = sym yes ∙ is in cc))
          ∙ sym (ap (λ t. (inbox_at bs i).waiting ++ cond t ((n, m) ∷ new_messages z i (n + 1) cs) (new_messages z i (n + 1) cs)) is)
