use Rattle.std.proofs.Common.{◌≡◌, ℕ, ◌+◌, ◌++◌, ◌≤◌, ◌∷◌, [], List, length, get_or, ap, sym, ◌∙◌, subst, suc, arith, length-set}
use Rattle.message_book.specs.Inbox.{InboxState}
use Rattle.message_book.specs.Inboxes.{place, inbox_at, new_messages, HasRoom}
use Rattle.message_book.proofs.Inboxes.{inbox_get, room_left, hands_left, idle_left, waiting_left}
use Rattle.message_book.proofs.outgoing.enqueue_all.Goals as goal

pub loop-to-preserved : goal.loop-to-preserved
loop-to-preserved c =
    let v = c.loop-to.invariant in
    let z = c.args.sites in
    let bs = c.loop-to.inboxes in
    let to = c.in-Some.to in
    let m = c.in-Some.bytes in
    let n = c.loop-to.number in
    let b = c.enqueue.new.self in
    let cs = c.pop_front.new.self.items in
    let items : c.loop-to.letters.items ≡ (to, m) ∷ cs = c.in-Some.ensures.items in
    let room : HasRoom z bs (suc (length cs)) ((to, m) ∷ cs) = subst (λ (l : List (ℕ × List ℕ)). HasRoom z bs (length l) l) items v.room in
    let at : c.place_of.result ≡ place z to = c.place_of.ensures.place in
    let x = get_or bs c.place_of.result c.index-inboxes-place_of.result in
    let here : x ≡ inbox_at bs (place z to) = ap (λ (k : ℕ). get_or bs k c.index-inboxes-place_of.result) at ∙ inbox_get bs (place z to) c.index-inboxes-place_of.result (room 0 (to, m) (omega arith)).0 in
    let r : x.room ≤ b.room + 1 = c.enqueue.ensures.room in
    let h : b.hand ≡ x.hand = c.enqueue.ensures.others.0 in
    let i : b.idle ≡ x.idle = c.enqueue.ensures.others.1 in
    let w : b.waiting ≡ x.waiting ++ (n, m) ∷ [] = c.enqueue.ensures.waiting in
    rw at (record {
      many = length-set bs (place z to) b ∙ v.many;
      room = room_left z bs to n m b cs room (subst (λ (y : InboxState). y.room ≤ b.room + 1) here r);
      few = let f = v.few in let l = ap (λ (l : List (ℕ × List ℕ)). length l) items in omega arith;
      hands = λ k. hands_left z bs to n m b cs room (h ∙ ap (λ (y : InboxState). y.hand) here) k ∙ v.hands k;
      idle = λ k. idle_left z bs to n m b cs room (i ∙ ap (λ (y : InboxState). y.idle) here) k ∙ v.idle k;
      waiting = λ k. waiting_left z bs to n m b cs room (w ∙ ap (λ (y : InboxState). y.waiting ++ (n, m) ∷ []) here) k
          ∙ (sym (ap (λ (l : List (ℕ × List ℕ)). (inbox_at bs k).waiting ++ new_messages z k n l) items) ∙ v.waiting k);
    })
