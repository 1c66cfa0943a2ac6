-- Journals: where each site's entries are its turns, the centre follows them all.
use Rattle.std.proofs.Common.{arith, ◌≡◌, ◌∙◌, sym, ap, refl, ℕ, ◌+◌, ◌<◌, ◌≤◌, List, [], ◌∷◌, ◌++◌, Bool, true, false, cond, Some, None, length, length-append}
use Rattle.std.specs.Prelude.{Option, ◌==◌, ◌||◌, not}
use Rattle.std.specs.List.{filter, enumerate_from}
use Rattle.site_message.specs.declared.message.Sent.{Sent}
use Rattle.site_message.specs.declared.turn.Turn.{Turn}
use Rattle.site_message.specs.Journal.{sent_of, was_delivered, is_number, travelling, Wired}
use Rattle.site_model.specs.Transition.{Transition}
use Rattle.world_model.specs.World.{World, Mail, put, after_transition, after_receipt, mail_from, without_number}
use Rattle.world_model.proofs.PutLemmas.{nat_decides}
use Rattle.world_model.proofs.MailLemmas.{numbered_append}
use Rattle.std.proofs.lemmas.Option.{slice_get_within}

filter_append : {X : Type 0} (p : X → Bool) (xs ys : List X) → filter p (xs ++ ys) ≡ filter p xs ++ filter p ys
filter_append p [] ys = refl
filter_append {X} p (x ∷ xs) ys = go (p x) (filter_append p xs ys)
  where
    go : (b : Bool) → filter p (xs ++ ys) ≡ filter p xs ++ filter p ys → cond b (x ∷ filter p (xs ++ ys)) (filter p (xs ++ ys)) ≡ cond b (x ∷ filter p xs) (filter p xs) ++ filter p ys
    go true e = ap (λ (zs : List X). x ∷ zs) e
    go false e = e

-- numbers that all pass
filter_numbers : {X : Type 0} (p : ℕ → Bool) (n : ℕ) (ys : List X) → ((k : ℕ) → n ≤ k → p k ≡ true) → filter (λ (q : ℕ × X). p q.0) (enumerate_from n ys) ≡ enumerate_from n ys
filter_numbers p n [] h = refl
filter_numbers {X} p n (y ∷ ys) h = rw (h n (omega arith)) (ap (λ (zs : List (ℕ × X)). (n, y) ∷ zs) (filter_numbers p (n + 1) ys (λ k low. h k (omega (arith, low)))))

filter_twice : (k : ℕ) (d : ℕ → Bool) (ms : Mail) → without_number k (filter (λ (q : ℕ × Sent). not (d q.0)) ms) ≡ filter (λ (q : ℕ × Sent). not ((k == q.0) || d q.0)) ms
filter_twice k d [] = refl
filter_twice k d (m ∷ ms) = go (k == m.0) refl (d m.0) (filter_twice k d ms)
  where
    go : (a : Bool) → (k == m.0) ≡ a → (b : Bool) → without_number k (filter (λ (q : ℕ × Sent). not (d q.0)) ms) ≡ filter (λ (q : ℕ × Sent). not ((k == q.0) || d q.0)) ms →
        without_number k (cond (not b) (m ∷ filter (λ (q : ℕ × Sent). not (d q.0)) ms) (filter (λ (q : ℕ × Sent). not (d q.0)) ms)) ≡ cond (not (a || b)) (m ∷ filter (λ (q : ℕ × Sent). not ((k == q.0) || d q.0)) ms) (filter (λ (q : ℕ × Sent). not ((k == q.0) || d q.0)) ms)
    go true at true e = e
    go false at true e = e
    go true at false e = rw at e
    go false at false e = rw at (ap (λ (zs : Mail). m ∷ zs) e)

-- what was not sent was not delivered
undelivered : (j : List Turn) (k : ℕ) → Wired j → length (sent_of j) ≤ k → was_delivered j k ≡ false
undelivered [] k w h = refl
undelivered (e ∷ j) k w h = go e.delivered refl (undelivered j k w.0 low)
  where
    sum : length (sent_of j ++ e.sent) ≡ length (sent_of j) + length e.sent
    sum = length-append (sent_of j) e.sent

    low : length (sent_of j) ≤ k
    low = omega (arith, h, sum)

    go : (o : Option ℕ) → e.delivered ≡ o → was_delivered j k ≡ false → (is_number o k || was_delivered j k) ≡ false
    go None q rest = rest
    go (Some n) q rest = one (n == k) refl
      where
        one : (b : Bool) → (n == k) ≡ b → (b || was_delivered j k) ≡ false
        one false at = rest
        one true at =
            let t = w.1 n q in
            let place = slice_get_within (sent_of j) n t.0 t.1.0 in
            let same : n ≡ k = (nat_decides n k).0 at in absurd (omega (arith, place, low, same))

-- the messages that travel after one more turn
travels_on : (j : List Turn) (out : List Sent) → Wired j → filter (λ (q : ℕ × Sent). not (was_delivered j q.0)) (enumerate_from 0 (sent_of j ++ out)) ≡ travelling j ++ mail_from (length (sent_of j)) out
travels_on j out w =
    let zero_left : 0 + length (sent_of j) ≡ length (sent_of j) = omega arith in
    rw (numbered_append 0 (sent_of j) out, zero_left, filter_append (λ (q : ℕ × Sent). not (was_delivered j q.0)) (enumerate_from 0 (sent_of j)) (enumerate_from (length (sent_of j)) out))
    (ap (λ (zs : Mail). travelling j ++ zs) (filter_numbers (λ (k : ℕ). not (was_delivered j k)) (length (sent_of j)) out (λ k low. ap not (undelivered j k w low))))

abbrev pub mail_of : Option ℕ → Mail → Mail
mail_of None ms = ms
mail_of (Some k) ms = without_number k ms

pub came_is : (o : Option ℕ) (w : World) → after_receipt o w ≡ record { sites = w.sites; sent = w.sent; mail = mail_of o w.mail; lines = w.lines }
came_is None w = refl
came_is (Some k) w = refl

pub mail_after : (j : List Turn) (e : Turn) → Wired j → mail_of e.delivered (travelling j ++ mail_from (length (sent_of j)) e.sent) ≡ travelling (e ∷ j)
mail_after j e w = go e.delivered
  where
    go : (o : Option ℕ) → mail_of o (travelling j ++ mail_from (length (sent_of j)) e.sent) ≡ filter (λ (q : ℕ × Sent). not (is_number o q.0 || was_delivered j q.0)) (enumerate_from 0 (sent_of j ++ e.sent))
    go None = sym (travels_on j e.sent w)
    go (Some k) = ap (without_number k) (sym (travels_on j e.sent w)) ∙ filter_twice k (was_delivered j) (enumerate_from 0 (sent_of j ++ e.sent))

-- a message that was sent before a part of a turn may come before or after it
pub came_acts : (w : World) (i : ℕ) (d : Transition) (k : ℕ) → k < w.sent → after_receipt (Some k) (after_transition w i d) ≡ after_transition (after_receipt (Some k) w) i d
came_acts w i d k low = ap (λ (ms : Mail). record { sites = put w.sites i d.site; sent = w.sent + length d.sent; mail = ms; lines = w.lines ++ d.lines })
    (filter_append (λ (q : ℕ × Sent). not (k == q.0)) w.mail (mail_from w.sent d.sent) ∙ ap (λ (zs : Mail). without_number k w.mail ++ zs) (filter_numbers (λ (n : ℕ). not (k == n)) w.sent d.sent other))
  where
    other : (n : ℕ) → w.sent ≤ n → not (k == n) ≡ true
    other n high = go (k == n) refl
      where
        go : (b : Bool) → (k == n) ≡ b → not b ≡ true
        go true q = let same : k ≡ n = (nat_decides k n).0 q in absurd (omega (arith, low, high, same))
        go false q = refl
