-- Each message that was sent was delivered once or travels.
use Rattle.std.proofs.Common.{arith, ◌≡◌, ◌∙◌, sym, ap, refl, subst, ℕ, ◌+◌, ◌<◌, ◌≤◌, List, [], ◌∷◌, ◌++◌, length, Bool, true, false, cond, Some, None}
use Rattle.std.specs.Prelude.{Option, Contains, ◌==◌, ◌||◌, not, slice_get}
use Rattle.std.specs.List.{count_by, filter, enumerate_from}
use Rattle.tree_node.proofs.ClassLemmas.{Contains-head, Contains-tail}
use Rattle.site_message.specs.declared.message.Sent.{Sent}
use Rattle.site_message.specs.declared.turn.Turn.{Turn}
use Rattle.site_message.specs.Journal.{Wired, IsTravelling, sent_of, travelling, was_delivered, is_number}
use Rattle.site_message.proofs.JournalLemmas.{travelling_tells, sent_more}
use Rattle.bind_protocol.proofs.ListLemmas.{one, count_append, count_cons}
use Rattle.world_model.specs.World.{Mail, mail_from}
use Rattle.world_model.specs.Chain.{messages}
use Rattle.world_model.proofs.PutLemmas.{nat_decides}
use Rattle.world_variables.proofs.JournalLemmas.{mail_after}
use Rattle.world_messages.proofs.WireLemmas.{is_left, left_over, travel_after, travel_less, travel_one}

-- ---- what turns deliver

abbrev pub passes : (Sent → Bool) → Option Sent → ℕ
passes P None = 0
passes P (Some m) = one (P m)

-- 1 where the turn delivers a message that P tells
abbrev pub came_of : (Sent → Bool) → List Turn → Option ℕ → ℕ
came_of P j None = 0
came_of P j (Some k) = passes P (slice_get (sent_of j) k)

abbrev pub came : (Sent → Bool) → List Turn → ℕ
came P [] = 0
came P (e ∷ j) = came P j + came_of P j e.delivered

abbrev pub under_way : (Sent → Bool) → List Turn → ℕ
under_way P j = count_by P (messages (travelling j))

module _ (P : Sent → Bool) where
  -- ---- no message twice

  pub no_more : (j : List Turn) → Wired j → came P j + under_way P j ≤ count_by P (sent_of j)
  no_more [] wired = omega arith
  no_more (e ∷ j) wired = by e.delivered refl (no_more j wired.0)
    where
      sum : count_by P (sent_of j ++ e.sent) ≡ count_by P (sent_of j) + count_by P e.sent
      sum = count_append P (sent_of j) e.sent

      left : count_by P (messages (left_over e j) ++ e.sent) ≡ count_by P (messages (left_over e j)) + count_by P e.sent
      left = count_append P (messages (left_over e j)) e.sent

      by : (o : Option ℕ) → e.delivered ≡ o → came P j + under_way P j ≤ count_by P (sent_of j) → came P j + came_of P j e.delivered + under_way P (e ∷ j) ≤ count_by P (sent_of j ++ e.sent)
      by None q ih = let none : came_of P j e.delivered ≡ 0 = ap (came_of P j) q in omega (arith, none, sum, left, ih, travel_after P j e, travel_less P j e)
      by (Some k) q ih = go (wired.1 k q)
        where
          go : (m : Sent) × IsTravelling j k m × (m.to ≡ e.site) → came P j + came_of P j e.delivered + under_way P (e ∷ j) ≤ count_by P (sent_of j ++ e.sent)
          go (m, t, to) =
              let some : came_of P j e.delivered ≡ one (P m) = ap (came_of P j) q ∙ ap (passes P) t.0 in
              omega (arith, some, sum, left, count_cons P m (messages (left_over e j)), ih, travel_after P j e, travel_one P j e k m q t)

  -- ---- and none is lost

  count_map_cons : (y : ℕ × Sent) (ys : Mail) → count_by P (messages (y ∷ ys)) ≡ one (P y.1) + count_by P (messages ys)
  count_map_cons y ys = count_cons P y.1 (messages ys)

  -- behind number k all are kept
  later : (f g : ℕ × Sent → Bool) (k n : ℕ) (xs : List Sent) → ((y : ℕ × Sent) → (k == y.0) ≡ false → f y ≡ true → g y ≡ true) → k < n → count_by P (messages (filter f (enumerate_from n xs))) ≤ count_by P (messages (filter g (enumerate_from n xs)))
  later f g k n [] h low = omega arith
  later f g k n (x ∷ xs) h low = go (f (n, x)) refl (g (n, x)) refl (later f g k (n + 1) xs h (omega (arith, low)))
    where
      other : (b : Bool) → (k == n) ≡ b → (k == n) ≡ false
      other true q = let same : k ≡ n = (nat_decides k n).0 q in absurd (omega (arith, low, same))
      other false q = q

      go : (b : Bool) → f (n, x) ≡ b → (c : Bool) → g (n, x) ≡ c → count_by P (messages (filter f (enumerate_from (n + 1) xs))) ≤ count_by P (messages (filter g (enumerate_from (n + 1) xs))) →
          count_by P (messages (cond b ((n, x) ∷ filter f (enumerate_from (n + 1) xs)) (filter f (enumerate_from (n + 1) xs)))) ≤ count_by P (messages (cond c ((n, x) ∷ filter g (enumerate_from (n + 1) xs)) (filter g (enumerate_from (n + 1) xs))))
      go true q true r ih = omega (arith, ih, count_map_cons (n, x) (filter f (enumerate_from (n + 1) xs)), count_map_cons (n, x) (filter g (enumerate_from (n + 1) xs)))
      go true q false r ih = let yes = h (n, x) (other (k == n) refl) q in cc
      go false q true r ih = omega (arith, ih, count_map_cons (n, x) (filter g (enumerate_from (n + 1) xs)))
      go false q false r ih = ih

  -- without number k one is lost at most
  loses : (f g : ℕ × Sent → Bool) (k : ℕ) (m : Sent) (n : ℕ) (xs : List Sent) → ((y : ℕ × Sent) → (k == y.0) ≡ false → f y ≡ true → g y ≡ true) → ((o : Sent) → Contains (filter f (enumerate_from n xs)) (k, o) → o ≡ m) →
      count_by P (messages (filter f (enumerate_from n xs))) ≤ count_by P (messages (filter g (enumerate_from n xs))) + one (P m)
  loses f g k m n [] h only = omega arith
  loses f g k m n (x ∷ xs) h only = go (f (n, x)) refl (g (n, x)) refl only (λ q. loses f g k m (n + 1) xs h q)
    where
      -- at number k
      at : (c : Bool) → k ≡ n → x ≡ m → count_by P (messages ((n, x) ∷ (filter f (enumerate_from (n + 1) xs)))) ≤ count_by P (messages (cond c ((n, x) ∷ (filter g (enumerate_from (n + 1) xs))) (filter g (enumerate_from (n + 1) xs)))) + one (P m)
      at true q same = let is : one (P x) ≡ one (P m) = ap (λ (z : Sent). one (P z)) same in omega (arith, is, count_map_cons (n, x) (filter f (enumerate_from (n + 1) xs)), count_map_cons (n, x) (filter g (enumerate_from (n + 1) xs)), later f g k (n + 1) xs h (omega (arith, q)))
      at false q same = let is : one (P x) ≡ one (P m) = ap (λ (z : Sent). one (P z)) same in omega (arith, is, count_map_cons (n, x) (filter f (enumerate_from (n + 1) xs)), later f g k (n + 1) xs h (omega (arith, q)))

      go : (b : Bool) → f (n, x) ≡ b → (c : Bool) → g (n, x) ≡ c → ((o : Sent) → Contains (cond b ((n, x) ∷ (filter f (enumerate_from (n + 1) xs))) (filter f (enumerate_from (n + 1) xs))) (k, o) → o ≡ m) → (((o : Sent) → Contains (filter f (enumerate_from (n + 1) xs)) (k, o) → o ≡ m) → count_by P (messages (filter f (enumerate_from (n + 1) xs))) ≤ count_by P (messages (filter g (enumerate_from (n + 1) xs))) + one (P m)) →
          count_by P (messages (cond b ((n, x) ∷ (filter f (enumerate_from (n + 1) xs))) (filter f (enumerate_from (n + 1) xs)))) ≤ count_by P (messages (cond c ((n, x) ∷ (filter g (enumerate_from (n + 1) xs))) (filter g (enumerate_from (n + 1) xs)))) + one (P m)
      go false q true r o ih = omega (arith, ih o, count_map_cons (n, x) (filter g (enumerate_from (n + 1) xs)))
      go false q false r o ih = ih o
      go true q c r o ih = by (k == n) refl c r
        where
          rest : count_by P (messages (filter f (enumerate_from (n + 1) xs))) ≤ count_by P (messages (filter g (enumerate_from (n + 1) xs))) + one (P m)
          rest = ih (λ z there. o z (Contains-tail (n, x) (k, z) (filter f (enumerate_from (n + 1) xs)) there))

          by : (b : Bool) → (k == n) ≡ b → (c : Bool) → g (n, x) ≡ c → count_by P (messages ((n, x) ∷ (filter f (enumerate_from (n + 1) xs)))) ≤ count_by P (messages (cond c ((n, x) ∷ (filter g (enumerate_from (n + 1) xs))) (filter g (enumerate_from (n + 1) xs)))) + one (P m)
          by true s c r =
              let same : k ≡ n = (nat_decides k n).0 s in
              at c same (o x (subst (λ (z : ℕ). Contains ((n, x) ∷ (filter f (enumerate_from (n + 1) xs))) (z, x)) (sym same) (Contains-head (n, x) (filter f (enumerate_from (n + 1) xs)))))
          by false s true r = omega (arith, rest, count_map_cons (n, x) (filter f (enumerate_from (n + 1) xs)), count_map_cons (n, x) (filter g (enumerate_from (n + 1) xs)))
          by false s false r = let yes = h (n, x) s q in cc

  messages_append : (ms os : Mail) → messages (ms ++ os) ≡ messages ms ++ messages os
  messages_append [] os = refl
  messages_append (x ∷ ms) os = ap (λ (l : List Sent). x.1 ∷ l) (messages_append ms os)

  messages_numbered : (k : ℕ) (os : List Sent) → messages (mail_from k os) ≡ os
  messages_numbered k [] = refl
  messages_numbered k (s ∷ os) = ap (λ (l : List Sent). s ∷ l) (messages_numbered (k + 1) os)

  module _ (j : List Turn) (e : Turn) (wired : Wired j) where
    -- before what comes is taken away
    abbrev whole : Mail
    whole = filter (is_left j) (enumerate_from 0 (sent_of j ++ e.sent))

    whole_is : travelling j ++ mail_from (length (sent_of j)) e.sent ≡ whole
    whole_is = mail_after j (record e { delivered = None }) wired

    whole_counts : count_by P (messages whole) ≡ under_way P j + count_by P e.sent
    whole_counts =
        ap (λ (ms : Mail). count_by P (messages ms)) (sym whole_is) ∙ ap (count_by P) (messages_append (travelling j) (mail_from (length (sent_of j)) e.sent))
        ∙ count_append P (messages (travelling j)) (messages (mail_from (length (sent_of j)) e.sent)) ∙ ap (λ (ms : List Sent). under_way P j + count_by P ms) (messages_numbered (length (sent_of j)) e.sent)

    abbrev Balance : Type 0
    Balance = under_way P j + count_by P e.sent ≤ under_way P (e ∷ j) + came_of P j e.delivered

    none_comes : e.delivered ≡ None → Balance
    none_comes q =
        let same : travelling (e ∷ j) ≡ whole = ap (λ (o : Option ℕ). filter (λ (p : ℕ × Sent). not (is_number o p.0 || was_delivered j p.0)) (enumerate_from 0 (sent_of j ++ e.sent))) q in
        let is : under_way P (e ∷ j) ≡ count_by P (messages whole) = ap (λ (ms : Mail). count_by P (messages ms)) same in
        omega (arith, is, whole_counts)

    one_comes : (k : ℕ) (m : Sent) → e.delivered ≡ Some k → IsTravelling j k m → Balance
    one_comes k m q t =
        let some : came_of P j e.delivered ≡ one (P m) = ap (came_of P j) q ∙ ap (passes P) t.0 in
        let less = loses (is_left j) (is_left (e ∷ j)) k m 0 (sent_of j ++ e.sent) stays only in
        omega (arith, some, less, whole_counts)
      where
        stays : (y : ℕ × Sent) → (k == y.0) ≡ false → is_left j y ≡ true → is_left (e ∷ j) y ≡ true
        stays y other left = rw (q, other) left

        only : (o : Sent) → Contains whole (k, o) → o ≡ m
        only o at =
            let there : slice_get (sent_of j ++ e.sent) k ≡ Some o = ((travelling_tells (record e { delivered = None } ∷ j) k o).0 at).0 in
            let is : slice_get (sent_of j ++ e.sent) k ≡ Some m = sent_more (sent_of j) e.sent k m t.0 in
            let both : ◌≡◌ {A = Option Sent} (Some o) (Some m) = sym there ∙ is in cc

  pub none_lost : (j : List Turn) → Wired j → count_by P (sent_of j) ≤ came P j + under_way P j
  none_lost [] wired = omega arith
  none_lost (e ∷ j) wired = by e.delivered refl (none_lost j wired.0)
    where
      after : under_way P j + count_by P e.sent ≤ under_way P (e ∷ j) + came_of P j e.delivered → count_by P (sent_of j) ≤ came P j + under_way P j → count_by P (sent_of j ++ e.sent) ≤ came P j + came_of P j e.delivered + under_way P (e ∷ j)
      after h ih = omega (arith, h, ih, count_append P (sent_of j) e.sent)

      by : (o : Option ℕ) → e.delivered ≡ o → count_by P (sent_of j) ≤ came P j + under_way P j → count_by P (sent_of j ++ e.sent) ≤ came P j + came_of P j e.delivered + under_way P (e ∷ j)
      by None q ih = after (none_comes j e wired.0 q) ih
      by (Some k) q ih = let t = wired.1 k q in after (one_comes j e wired.0 k t.0 q t.1) ih
