-- A book after a turn.
use Rattle.std.proofs.Common.{◌≡◌, ◌≢◌, ℕ, zero, suc, ◌+◌, ◌≤◌, List, [], ◌∷◌, ◌++◌, length, map, Bool, true, false, not, cond, eq-eqb, ne_eqb, Option, Some, None, refl, sym, ap, ◌∙◌, subst, arith, append_assoc, length-append, inl, ⊎_elim, nat_lt, nat_le, ltb-false}
use Rattle.std.specs.Prelude.{Contains, slice_get, Result, Ok, Err, OnErr}
use mathlib.Core.Logic.{dite}
use native.Mathlib.Decide.{ℕ_discrete}
use Rattle.site_message.specs.declared.message.Sent.{Sent}
use Rattle.site_message.specs.declared.turn.Turn.{Turn}
use Rattle.site_message.specs.declared.reason.Reason.{Reason}
use Rattle.site_message.specs.declared.reason.Reason.TheVariants.{Memory, Messages, Steps, Quiet}
use Rattle.std.specs.Prelude.{◌&&◌}
use Rattle.site_message.specs.declared.limits.Limits.{Limits}
use Rattle.site_message.specs.Journal.{Wired, DeliversOnce, sent_of, is_number, is_idle, is_quiet, end_by, end_of}
use Rattle.site_message.specs.Story.{hand}
use Rattle.tree_node.proofs.ClassLemmas.{Contains-head, Contains-tail}
use Rattle.std.proofs.lemmas.List.Elements.{Contains-append_left, filter-append}
use Rattle.message_book.specs.Inbox.{InboxState, HoldsSame}
use Rattle.message_book.specs.Book.{BookState, IsSiteOf, IsReason, without_delivered}
use Rattle.message_book.specs.Inboxes.{HoldsTravelling, AllHoldTravelling, IsConsistent, IsAfterTurn, place, messages_at, number_of, hand_of, new_messages, letter_of, AllOfFormat, inbox_at, idle_at}
use Rattle.message_book.proofs.Travels.{messages_step, without_message, messages_ascend, LacksNumber, after_low, without_none_there, map_filter, right}
use Rattle.site_message.specs.Laws.{IsAscending}
use Rattle.tree_node.proofs.EachLemmas.{each_append}
use Rattle.wire_reader.specs.declared.form.Form.TheVariants as forms
use Rattle.wire_reader.specs.Format.{message}
use Rattle.message_book.proofs.Posts.{has_number, spelling_at, in_messages, placed, place_is, state_of, hand_at, same_hands}

same_inbox : (n : ℕ) (j : List Turn) (i : ℕ) (old new : InboxState) → HoldsSame old new → HoldsTravelling n j i old → HoldsTravelling n j i new
same_inbox n j i old new s b = record { in_hand = b.in_hand; hand = s.0 ∙ b.hand; messages = ap (λ w. b.in_hand ++ w) s.1 ∙ b.messages; idle = s.2 ∙ b.idle }

-- room alone was made
pub kept_same : (l : Limits) (j : List Turn) (sent : ℕ) (bs cs : List InboxState) (r : Option Reason) → length cs ≡ length bs → ((i : ℕ) → HoldsSame (inbox_at bs i) (inbox_at cs i)) → IsConsistent l j sent bs r → IsConsistent l j sent cs r
kept_same l j sent bs cs r len same k = record {
  ranges = k.ranges;
  places = len ∙ k.places;
  count = k.count;
  wired = k.wired;
  are_sites = k.are_sites;
  inboxes = λ i below. same_inbox l.sites j i (inbox_at bs i) (inbox_at cs i) (same i) (k.inboxes i below);
  spelled = k.spelled;
  reason = k.reason;
  went = k.went;
}

pub shown_same : (l : Limits) (j : List Turn) (bs cs : List InboxState) (r : Option Reason) (v : BookState) → length cs ≡ length bs → ((i : ℕ) → HoldsSame (inbox_at bs i) (inbox_at cs i)) → state_of l j bs r ≡ v → state_of l j cs r ≡ v
shown_same l j bs cs r v len same is = ap (λ (h : List (List ℕ)). record { limits = l; journal = j; hands = h; reason = r }) (same_hands cs bs len (λ i. (same i).0)) ∙ is

without_no_message : (xs : List (ℕ × List ℕ)) → without_message None xs ≡ xs
without_no_message [] = refl
without_no_message (x ∷ xs) = ap (λ l. x ∷ l) (without_no_message xs)

away : (k : ℕ) (xs : List (ℕ × List ℕ)) → ((p : ℕ × List ℕ) → Contains xs p → k ≢ p.0) → LacksNumber k xs
away k [] h = tt
away k (p ∷ ps) h = (h p (Contains-head p ps), away k ps (λ q at. h q (Contains-tail p q ps at)))

left : (k : ℕ) (xs ys : List (ℕ × List ℕ)) → LacksNumber k (xs ++ ys) → LacksNumber k xs
left k [] ys h = tt
left k (x ∷ xs) ys h = (h.0, left k xs ys h.1)

-- fewer messages were sent than the limit, where there is no reason
pub few_sent : (l : Limits) (j : List Turn) → IsReason l j None → length (sent_of j) ≤ l.messages
few_sent l [] h = omega arith
few_sent l (e ∷ j) h = go (nat_lt l.messages (length (sent_of (e ∷ j)))) refl
  where
    go : (t : Bool) → nat_lt l.messages (length (sent_of (e ∷ j))) ≡ t → length (sent_of (e ∷ j)) ≤ l.messages
    go true is = absurd (⊎_elim (λ (x : None ≡ end_of l (e ∷ j)). let y = x ∙ ap (λ b. cond b (Some Messages) (cond (nat_le l.steps e.steps && not e.idle) (Some (Steps e.site)) (cond (is_quiet l.sites (e ∷ j)) (Some Quiet) None))) is in cc) (λ (x : (None ≡ Some Memory) × (end_of l (e ∷ j) ≡ None)). let y = x.0 in cc) h)
    go false is = let h = ltb-false l.messages (length (sent_of (e ∷ j))) is in omega arith

-- a journal goes on where there is no reason
goes_on : (l : Limits) (j : List Turn) (r : Option Reason) → IsReason l j r → ((x : Reason) → r ≡ Some x → ⊥) → end_of l j ≡ None
goes_on l j (Some x) is none = absurd (none x refl)
goes_on l j None is none = ⊎_elim (λ (x : None ≡ end_of l j). sym x) (λ (x : (None ≡ Some Memory) × (end_of l j ≡ None)). x.1) is

module _ (l : Limits) (j : List Turn) (sent : ℕ) (bs : List InboxState) (r : Option Reason) (kept : IsConsistent l j sent bs r) (e : Turn) (site : IsSiteOf l.sites e.site)
    (given : (k : ℕ) → e.delivered ≡ Some k → Contains (inbox_at bs e.site).hand k) where
  mine : HoldsTravelling l.sites j e.site (inbox_at bs e.site)
  mine = kept.inboxes e.site site.1

  -- what is delivered is on its way to this site
  pub delivers : DeliversOnce j e
  delivers k is =
      let has = has_number k mine.in_hand (subst (λ h. Contains h k) mine.hand (given k is)) in
      let m = spelling_at k mine.in_hand has in
      let t = in_messages l.sites j e.site k m.0 (subst (λ w. Contains w (k, m.0)) mine.messages (Contains-append_left mine.in_hand (inbox_at bs e.site).waiting (k, m.0) m.1)) in
      (t.0, t.1, placed l.sites t.0.to e.site t.3 site.0)

  pub wired : Wired (e ∷ j)
  wired = (kept.wired, delivers)

  -- no other place has it
  elsewhere : (k i : ℕ) → e.delivered ≡ Some k → i ≢ e.site → LacksNumber k (messages_at l.sites j i)
  elsewhere k i is other = away k (messages_at l.sites j i) (λ p at same.
      let d = delivers k is in
      let t = in_messages l.sites j i p.0 p.1 at in
      let one : ◌≡◌ {A = Option Sent} (Some d.0) (Some t.0) = sym d.1.0 ∙ (ap (slice_get (sent_of j)) same ∙ t.1.0) in
      let to : d.0.to ≡ t.0.to = ap (λ o. to_of o) one in
      other (sym t.3 ∙ (ap (place l.sites) (sym to ∙ d.2) ∙ place_is l.sites e.site site.1)))
    where
      to_of : Option Sent → ℕ
      to_of None = 0
      to_of (Some s) = s.to

  -- the delivered message is none of those that wait, and at another place none of those in hand
  stays : (i : ℕ) → i ≤ l.sites → (o : Option ℕ) → e.delivered ≡ o → without_message o (inbox_at bs i).waiting ≡ (inbox_at bs i).waiting
  stays i below None is = without_no_message (inbox_at bs i).waiting
  stays i below (Some k) is = without_none_there k (inbox_at bs i).waiting (dite (ℕ_discrete i e.site)
      (λ same.
      let has = has_number k mine.in_hand (subst (λ h. Contains h k) mine.hand (given k is)) in
      let rise = subst (IsAscending 0) (sym mine.messages) (messages_ascend l.sites j e.site) in
      subst (λ (p : ℕ). LacksNumber k (inbox_at bs p).waiting) (sym same) (after_low 0 k mine.in_hand (inbox_at bs e.site).waiting rise has))
      (λ other. let b = kept.inboxes i below in right k b.in_hand (inbox_at bs i).waiting (subst (LacksNumber k) (sym b.messages) (elsewhere k i is other))))

  gone_stays : (i : ℕ) (b : HoldsTravelling l.sites j i (inbox_at bs i)) → i ≢ e.site → (o : Option ℕ) → e.delivered ≡ o → without_message o b.in_hand ≡ b.in_hand
  gone_stays i b other None is = without_no_message b.in_hand
  gone_stays i b other (Some k) is = without_none_there k b.in_hand (left k b.in_hand (inbox_at bs i).waiting (subst (LacksNumber k) (sym b.messages) (elsewhere k i is other)))

  module _ (cs : List InboxState) (s : IsAfterTurn l.sites e.site e.delivered e.idle sent (map letter_of e.sent) bs cs) where
    hand_after : (i : ℕ) (b : HoldsTravelling l.sites j i (inbox_at bs i)) → (inbox_at cs i).hand ≡ map number_of (without_message e.delivered b.in_hand)
    hand_after i b = dite (ℕ_discrete i e.site)
        (λ same. subst (λ (p : ℕ). (inbox_at cs p).hand ≡ without_delivered e.delivered (inbox_at bs p).hand) (sym same) s.here.0
        ∙ (ap (without_delivered e.delivered) b.hand ∙ sym (map_filter number_of (λ (p : ℕ × List ℕ). not (is_number e.delivered p.0)) (λ (k : ℕ). not (is_number e.delivered k)) (λ p. refl) b.in_hand)))
        (λ other. (s.others i other).0 ∙ (b.hand ∙ ap (map number_of) (sym (gone_stays i b other e.delivered refl))))

    idle_after : (i : ℕ) → (inbox_at bs i).idle ≡ idle_at j i → (inbox_at cs i).idle ≡ idle_at (e ∷ j) i
    idle_after zero is = (s.others zero (λ z. let low = site.0 in absurd (omega arith))).1 ∙ is
    idle_after (suc i) is = dite (ℕ_discrete e.site (suc i))
        (λ same. subst (λ (p : ℕ). (inbox_at cs p).idle ≡ e.idle) same s.here.1 ∙ sym (ap (λ b. cond b e.idle (is_idle j (suc i))) (eq-eqb e.site (suc i) same)))
        (λ other. (s.others (suc i) (λ z. other (sym z))).1 ∙ (is ∙ sym (ap (λ b. cond b e.idle (is_idle j (suc i))) (ne_eqb e.site (suc i) other))))

    pub inboxes_after : AllHoldTravelling l.sites (e ∷ j) cs
    inboxes_after i below =
        let b = kept.inboxes i below in
        let o = e.delivered in
        let new = new_messages l.sites i sent (map letter_of e.sent) in record {
          in_hand = without_message o b.in_hand;
          hand = hand_after i b;
          messages = ap (λ w. without_message o b.in_hand ++ w) (s.waiting i)
              ∙ (sym (append_assoc (without_message o b.in_hand) (inbox_at bs i).waiting new)
              ∙ (ap (λ w. (without_message o b.in_hand ++ w) ++ new) (sym (stays i below o refl))
              ∙ (ap (λ w. w ++ new) (sym (filter-append (λ (p : ℕ × List ℕ). not (is_number o p.0)) b.in_hand (inbox_at bs i).waiting) ∙ ap (without_message o) b.messages)
              ∙ (ap (λ n. without_message o (messages_at l.sites j i) ++ new_messages l.sites i n (map letter_of e.sent)) kept.count
              ∙ sym (messages_step l.sites j e i wired)))));
          idle = idle_after i b.idle;
        }

    pub kept_after : (n : ℕ) → n ≡ sent + length e.sent → AllOfFormat e.sent → ((x : Reason) → r ≡ Some x → ⊥) → IsConsistent l (e ∷ j) n cs (end_of l (e ∷ j))
    kept_after n is spelled none = record {
      ranges = kept.ranges;
      places = s.places ∙ kept.places;
      count = is ∙ (ap (λ m. m + length e.sent) kept.count ∙ sym (length-append (sent_of j) e.sent));
      wired = wired;
      are_sites = (site, kept.are_sites);
      inboxes = inboxes_after;
      spelled = each_append (λ (s : Sent). (message forms.Two).Has s.msg) (sent_of j) e.sent kept.spelled spelled;
      reason = inl refl;
      went = (kept.went, goes_on l j r kept.reason none);
    }

    pub reason_after : (n : ℕ) (t : Option Reason) → n ≡ sent + length e.sent
        → t ≡ end_by (nat_lt l.messages n) (nat_le l.steps e.steps && not e.idle) e.site (is_quiet l.sites (e ∷ j)) → t ≡ end_of l (e ∷ j)
    reason_after n t is found = found ∙ ap (λ k. end_by (nat_lt l.messages k) (nat_le l.steps e.steps && not e.idle) e.site (is_quiet l.sites (e ∷ j)))
        (is ∙ (ap (λ m. m + length e.sent) kept.count ∙ sym (length-append (sent_of j) e.sent)))

    pub hand_here : (v : BookState) → hand e.site (map hand_of bs) ≡ hand e.site v.hands → hand e.site (map hand_of cs) ≡ without_delivered e.delivered (hand e.site v.hands)
    hand_here v is = hand_at cs e.site ∙ (s.here.0 ∙ ap (without_delivered e.delivered) (sym (hand_at bs e.site) ∙ is))

    pub hand_there : (v : BookState) (i : ℕ) → i ≢ e.site → hand i (map hand_of bs) ≡ hand i v.hands → hand i (map hand_of cs) ≡ hand i v.hands
    hand_there v i other is = hand_at cs i ∙ ((s.others i other).0 ∙ (sym (hand_at bs i) ∙ is))

pub on_err : {X E : Type 0} (r : Result X E) (P : Type 0) → P → OnErr r P
on_err (Ok x) P p = tt
on_err (Err e) P p = p
