-- When a book is quiet, and what an empty one holds.
use Rattle.std.proofs.Common.{◌≡◌, ℕ, zero, suc, ◌+◌, ◌<◌, ◌≤◌, List, [], ◌∷◌, ◌++◌, length, map, Bool, true, false, cond, None, refl, sym, ap, ◌∙◌, subst, arith, ⊎_elim, nat_le}
use Rattle.std.specs.Prelude.{◌↔◌, IsTrue, Contains}
use Rattle.std.proofs.lemmas.Bool.{cases_lt, leb-true}
use Rattle.tree_node.proofs.ClassLemmas.{Contains-head}
use Rattle.tree_node.proofs.OrderLemmas.{none as none_in}
use Rattle.site_message.specs.declared.turn.Turn.{Turn}
use Rattle.site_message.specs.Journal.{is_idle, is_quiet}
use Rattle.site_message.specs.Story.{hand}
use Rattle.site_message.proofs.JournalLemmas.{quiet_tells}
use Rattle.message_book.specs.Inbox.{InboxState}
use Rattle.message_book.specs.Book.{without_delivered}
use Rattle.message_book.specs.Inboxes.{AllHoldTravelling, IsQuietInbox, IsNewInbox, place, messages_at, number_of, hand_of, inbox_at, no_inbox, idle_at}
use Rattle.wire_reader.specs.declared.form.Form.TheVariants as forms
use Rattle.wire_reader.specs.Format.{spelling}
use Rattle.message_book.proofs.Posts.{in_messages, to_messages, hand_at}

past : (bs : List InboxState) (i : ℕ) → length bs ≤ i → inbox_at bs i ≡ no_inbox
past [] i above = refl
past (b ∷ bs) zero above = absurd (omega arith)
past (b ∷ bs) (suc i) above = past bs i (omega arith)

pub empty_hands : (n : ℕ) (bs : List InboxState) → length bs ≡ n + 1 → ((i : ℕ) → i ≤ n → IsNewInbox i (inbox_at bs i)) → (i : ℕ) → hand i (map hand_of bs) ≡ []
empty_hands n bs len empty i = hand_at bs i ∙ ⊎_elim (λ (above : n < i). ap hand_of (past bs i (omega arith))) (λ (below : i ≤ n). (empty i below).0) (cases_lt n i)

pub without_none : (ks : List ℕ) → without_delivered None ks ≡ ks
without_none [] = refl
without_none (k ∷ ks) = ap (λ l. k ∷ l) (without_none ks)

pub place_below : (n to : ℕ) → place n to ≤ n
place_below n to = go (nat_le to n) refl
  where
    go : (t : Bool) → nat_le to n ≡ t → cond (nat_le to n) to 0 ≤ n
    go true e = let h = leb-true to n e in rw e h
    go false e = rw e (omega arith)

both_empty : {A : Type 0} (xs ys : List A) → xs ++ ys ≡ [] → (xs ≡ []) × (ys ≡ [])
both_empty [] ys e = (refl, e)
both_empty (x ∷ xs) ys e = absurd (cc)

no_numbers : (xs : List (ℕ × List ℕ)) → map number_of xs ≡ [] → xs ≡ []
no_numbers [] e = refl
no_numbers (x ∷ xs) e = absurd (cc)

none_there : {A : Type 0} (xs : List A) → ((x : A) → Contains xs x → ⊥) → xs ≡ []
none_there [] h = refl
none_there (x ∷ xs) h = absurd (h x (Contains-head x xs))

same_truth : (s t : Bool) → IsTrue s ↔ IsTrue t → s ≡ t
same_truth true true h = refl
same_truth false false h = refl
same_truth true false h = sym (h.0 refl)
same_truth false true h = h.1 refl

module _ (n : ℕ) (j : List Turn) (bs : List InboxState) (places : length bs ≡ n + 1) (inboxes : AllHoldTravelling n j bs) where
  Done : Type 0
  Done = (i : ℕ) → i < length bs → IsQuietInbox (inbox_at bs i)

  no_messages : (i : ℕ) → i ≤ n → Done → messages_at n j i ≡ []
  unfolding Done
  no_messages i below done =
      let b = inboxes i below in
      let m = places in
      let d = done i (omega arith) in
      let in_hand = no_numbers b.in_hand (sym b.hand ∙ d.0) in
      sym b.messages ∙ (λ t. in_hand t ++ d.1 t)

  to_quiet : Done → IsTrue (is_quiet n j)
  unfolding Done
  to_quiet done = (quiet_tells n j).1 (
    (λ m s travels.
        let p = place n s.to in
        let at = to_messages n j p m s travels refl in
        none_in (m, spelling forms.Two s.msg) (subst (λ w. Contains w (m, spelling forms.Two s.msg)) (no_messages p (place_below n s.to) done) at)),
    (λ i low high. idle i low high),
  )
    where
      idle : (i : ℕ) → 1 ≤ i → i ≤ n → IsTrue (is_idle j i)
      idle zero low high = absurd (omega arith)
      idle (suc i) low high = let m = places in sym ((inboxes (suc i) high).idle) ∙ (done (suc i) (omega arith)).2

  from_quiet : IsTrue (is_quiet n j) → Done
  unfolding Done
  from_quiet q i inside =
      let m = places in
      let b = inboxes i (omega arith) in
      let two = (quiet_tells n j).0 q in
      let none : messages_at n j i ≡ [] = none_there (messages_at n j i) (λ x at. let t = in_messages n j i x.0 x.1 at in two.0 x.0 t.0 t.1) in
      let split = both_empty b.in_hand (inbox_at bs i).waiting (b.messages ∙ none) in
      (b.hand ∙ ap (map number_of) split.0, split.1, b.idle ∙ idle i (omega arith) two.1)
    where
      idle : (i : ℕ) → i ≤ n → ((i : ℕ) → 1 ≤ i → i ≤ n → IsTrue (is_idle j i)) → idle_at j i ≡ true
      idle zero high h = refl
      idle (suc i) high h = h (suc i) (omega arith) high

  pub quiet_is : (t : Bool) → IsTrue t ↔ ((i : ℕ) → i < length bs → IsQuietInbox (inbox_at bs i)) → t ≡ is_quiet n j
  unfolding Done
  quiet_is t h = same_truth t (is_quiet n j) ((λ e. to_quiet (h.0 e)), (λ q. h.1 (from_quiet q)))
