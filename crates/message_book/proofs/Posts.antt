-- What a posted turn and a handed out message leave of a book.
use Rattle.std.proofs.Common.{◌≡◌, ◌≢◌, ℕ, zero, suc, ◌<◌, ◌≤◌, List, [], ◌∷◌, ◌++◌, length, map, set, Bool, true, false, cond, eqb, eqb-true, eq-eqb, Option, Some, None, refl, sym, ap, ◌∙◌, subst, arith, append_assoc, append-nil, inl, inr, ⊎_elim, length-set, nat_le}
use Rattle.std.specs.Prelude.{Contains, MatchOption}
use Rattle.std.specs.List.{filter}
use mathlib.Core.Logic.{dite}
use native.Mathlib.Decide.{ℕ_discrete}
use Rattle.tree_node.proofs.ClassLemmas.{Contains-head, Contains-tail, Contains-cons_cases}
use Rattle.site_message.specs.declared.message.Msg.{Msg}
use Rattle.site_message.specs.declared.message.Sent.{Sent}
use Rattle.site_message.specs.declared.turn.Turn.{Turn}
use Rattle.site_message.specs.declared.reason.Reason.{Reason}
use Rattle.site_message.specs.declared.limits.Limits.{Limits}
use Rattle.site_message.specs.Journal.{IsTravelling, sent_of, travelling}
use Rattle.site_message.specs.Story.{hand}
use Rattle.site_message.proofs.JournalLemmas.{travelling_tells, kept}
use Rattle.tree_node.proofs.CompareLemmas.{filter_from}
use Rattle.std.proofs.lemmas.Bool.{le-leb}
use Rattle.std.proofs.lemmas.List.Elements.{Contains-append_right}
use Rattle.message_book.specs.Inbox.{InboxState}
use Rattle.message_book.specs.Book.{BookState, IsUntaken, IsUntakenSpelling, IsSiteOf}
use Rattle.wire_reader.specs.declared.form.Form.TheVariants as forms
use Rattle.wire_reader.specs.Format.{message, spelling, IsSpelling}
use Rattle.message_book.specs.Inboxes.{HoldsTravelling, AllHoldTravelling, IsConsistent, place, spelling_of, messages_at, number_of, hand_of, inbox_at}
use Rattle.message_book.proofs.Travels.{messages_ascend, HasNumber, after_low}
use Rattle.site_message.specs.Laws.{IsAscending}
use Rattle.message_book.proofs.Inboxes.{inbox_set_here, inbox_set_other, inbox_related}
use Rattle.tree_node.proofs.EachLemmas.{each_at_place}
use Rattle.std.proofs.lemmas.List.{map-append}

-- a list and membership
pub has_number : (k : ℕ) (xs : List (ℕ × List ℕ)) → Contains (map number_of xs) k → HasNumber k xs
has_number k [] (i, below, is) = absurd (omega arith)
has_number k (p ∷ ps) at = ⊎_elim (λ (e : p.0 ≡ k). inl (sym e)) (λ (r : Contains (map number_of ps) k). inr (has_number k ps r)) (Contains-cons_cases p.0 k (map number_of ps) at)

pub spelling_at : (k : ℕ) (xs : List (ℕ × List ℕ)) → HasNumber k xs → (m : List ℕ) × Contains xs (k, m)
spelling_at k [] at = absurd at
spelling_at k (p ∷ ps) at = ⊎_elim
    (λ (e : k ≡ p.0). (p.1, subst (λ (i : ℕ). Contains (p ∷ ps) (i, p.1)) (sym e) (Contains-head p ps)))
    (λ (r : HasNumber k ps). let t = spelling_at k ps r in (t.0, Contains-tail p (k, t.0) ps t.1))
    at

contains_map : {A B : Type 0} (f : A → B) (xs : List A) (y : B) → Contains (map f xs) y → (x : A) × Contains xs x × (f x ≡ y)
contains_map f [] y (i, below, is) = absurd (omega arith)
contains_map f (x ∷ xs) y at = ⊎_elim
    (λ (e : f x ≡ y). (x, Contains-head x xs, e))
    (λ (r : Contains (map f xs) y). let t = contains_map f xs y r in (t.0, Contains-tail x t.0 xs t.1, t.2))
    (Contains-cons_cases (f x) y (map f xs) at)

pub map_contains : {A B : Type 0} (f : A → B) (xs : List A) (x : A) → Contains xs x → Contains (map f xs) (f x)
map_contains f [] x (i, below, is) = absurd (omega arith)
map_contains f (y ∷ xs) x at = ⊎_elim
    (λ (e : y ≡ x). subst (λ z. Contains (f y ∷ map f xs) (f z)) e (Contains-head (f y) (map f xs)))
    (λ (r : Contains xs x). Contains-tail (f y) (f x) (map f xs) (map_contains f xs x r))
    (Contains-cons_cases y x xs at)

-- a message of a place travels
pub in_messages : (n : ℕ) (j : List Turn) (i k : ℕ) (m : List ℕ) → Contains (messages_at n j i) (k, m) → (s : Sent) × IsTravelling j k s × (spelling forms.Two s.msg ≡ m) × (place n s.to ≡ i)
in_messages n j i k m at =
    let q : ℕ × Sent → Bool = λ p. eqb (place n p.1.to) i in
    let t = contains_map spelling_of (filter q (travelling j)) (k, m) at in
    let p = t.0 in
    let f = filter_from q (travelling j) p t.1 in
    let number : p.0 ≡ k = ap (λ (x : ℕ × List ℕ). x.0) t.2 in
    let travels = (travelling_tells j p.0 p.1).0 f.0 in
    (p.1, subst (λ (i : ℕ). IsTravelling j i p.1) number travels, ap (λ (x : ℕ × List ℕ). x.1) t.2, eqb-true (place n p.1.to) i f.1)

-- and what travels to a place is there
pub to_messages : (n : ℕ) (j : List Turn) (i k : ℕ) (s : Sent) → IsTravelling j k s → place n s.to ≡ i → Contains (messages_at n j i) (k, spelling forms.Two s.msg)
to_messages n j i k s travels at =
    let q : ℕ × Sent → Bool = λ p. eqb (place n p.1.to) i in
    map_contains spelling_of (filter q (travelling j)) (k, s) (kept q (travelling j) (k, s) ((travelling_tells j k s).1 travels) (eq-eqb (place n s.to) i at))

pub place_is : (n i : ℕ) → i ≤ n → place n i ≡ i
place_is n i below = ap (λ b. cond b i 0) (le-leb i n below)

-- only a site's own messages lie at its place
pub placed : (n to i : ℕ) → place n to ≡ i → 1 ≤ i → to ≡ i
placed n to i e low = go (nat_le to n) refl
  where
    go : (t : Bool) → nat_le to n ≡ t → to ≡ i
    go true is = sym (ap (λ b. cond b to 0) is) ∙ e
    go false is = let z : 0 ≡ i = sym (ap (λ b. cond b to 0) is) ∙ e in absurd (omega arith)

-- what `take` of an inbox does
abbrev pub IsTaken : InboxState → InboxState → Option (ℕ × List ℕ) → Type 0
IsTaken old new o = MatchOption o ((old.waiting ≡ []) × (new ≡ old)) (λ x. (old.waiting ≡ x ∷ new.waiting) × (new.hand ≡ old.hand ++ x.0 ∷ []) × (new.idle ≡ old.idle))

pub take_inbox : (n : ℕ) (j : List Turn) (i : ℕ) (old new : InboxState) (o : Option (ℕ × List ℕ)) → IsTaken old new o → HoldsTravelling n j i old → HoldsTravelling n j i new
take_inbox n j i old new None t b = subst (HoldsTravelling n j i) (sym t.1) b
take_inbox n j i old new (Some x) t b = record {
  in_hand = b.in_hand ++ x ∷ [];
  hand = t.1 ∙ (ap (λ l. l ++ x.0 ∷ []) b.hand ∙ sym (map-append number_of b.in_hand (x ∷ [])));
  messages = append_assoc b.in_hand (x ∷ []) new.waiting ∙ (ap (λ l. b.in_hand ++ l) (sym t.0) ∙ b.messages);
  idle = t.2 ∙ b.idle;
}

pub inboxes_set : (n : ℕ) (j : List Turn) (bs : List InboxState) (p : ℕ) (b : InboxState) → p < length bs → AllHoldTravelling n j bs → HoldsTravelling n j p b → AllHoldTravelling n j (set bs p b)
inboxes_set n j bs p b inside all mine i below = dite (ℕ_discrete p i)
    (λ is. subst (λ (y : InboxState). HoldsTravelling n j i y) (sym (inbox_set_here bs p i b inside is)) (subst (λ (k : ℕ). HoldsTravelling n j k b) is mine))
    (λ other. subst (λ (y : InboxState). HoldsTravelling n j i y) (sym (inbox_set_other bs p i b (λ e. other (sym e)))) (all i below))

pub take_kept : (l : Limits) (j : List Turn) (sent : ℕ) (bs : List InboxState) (r : Option Reason) (p : ℕ) (b : InboxState) (o : Option (ℕ × List ℕ)) → IsConsistent l j sent bs r → p ≤ l.sites → IsTaken (inbox_at bs p) b o → IsConsistent l j sent (set bs p b) r
take_kept l j sent bs r p b o k below t = let many = k.places in record {
  ranges = k.ranges;
  places = length-set bs p b ∙ k.places;
  count = k.count;
  wired = k.wired;
  are_sites = k.are_sites;
  inboxes = inboxes_set l.sites j bs p b (omega arith) k.inboxes (take_inbox l.sites j p (inbox_at bs p) b o t (k.inboxes p below));
  spelled = k.spelled;
  reason = k.reason;
  went = k.went;
}

-- the hands as the lock sees them
pub hand_at : (bs : List InboxState) (i : ℕ) → hand i (map hand_of bs) ≡ (inbox_at bs i).hand
hand_at [] i = refl
hand_at (b ∷ bs) zero = refl
hand_at (b ∷ bs) (suc i) = hand_at bs i

pub hand_set : (bs : List InboxState) (p : ℕ) (b : InboxState) → p < length bs → hand p (map hand_of (set bs p b)) ≡ b.hand
hand_set bs p b inside = hand_at (set bs p b) p ∙ ap (λ (x : InboxState). x.hand) (inbox_set_here bs p p b inside refl)

pub hand_other : (bs : List InboxState) (p i : ℕ) (b : InboxState) → i ≢ p → hand i (map hand_of (set bs p b)) ≡ hand i (map hand_of bs)
hand_other bs p i b other = hand_at (set bs p b) i ∙ (ap (λ (x : InboxState). x.hand) (inbox_set_other bs p i b other) ∙ sym (hand_at bs i))

pub same_hands : (xs ys : List InboxState) → length xs ≡ length ys → ((i : ℕ) → (inbox_at xs i).hand ≡ (inbox_at ys i).hand) → map hand_of xs ≡ map hand_of ys
same_hands [] [] len same = refl
same_hands [] (y ∷ ys) len same = absurd (omega arith)
same_hands (x ∷ xs) [] len same = absurd (omega arith)
same_hands (x ∷ xs) (y ∷ ys) len same = λ i. same 0 i ∷ same_hands xs ys (omega arith) (λ k. same (suc k)) i

-- what was handed out is a message that no site had taken
module _ (l : Limits) (j : List Turn) (sent : ℕ) (bs : List InboxState) (r : Option Reason) (k : IsConsistent l j sent bs r) (p : ℕ) (site : IsSiteOf l.sites p) where
  b : HoldsTravelling l.sites j p (inbox_at bs p)
  b = k.inboxes p site.1

  pub was_untaken : (x : ℕ × List ℕ) (rest : List (ℕ × List ℕ)) → (inbox_at bs p).waiting ≡ x ∷ rest → (m : Msg) × IsTravelling j x.0 (record { to = p; msg = m }) × (Contains (inbox_at bs p).hand x.0 → ⊥) × IsSpelling forms.Two x.1 m
  was_untaken x rest e =
      let all : b.in_hand ++ x ∷ rest ≡ messages_at l.sites j p = ap (λ w. b.in_hand ++ w) (sym e) ∙ b.messages in
      let t = in_messages l.sites j p x.0 x.1 (subst (λ w. Contains w x) all (Contains-append_right b.in_hand (x ∷ rest) x (Contains-head x rest))) in
      let s = t.0 in
      let is : ◌≡◌ {A = Sent} s (record { to = p; msg = s.msg }) = λ i. record { to = placed l.sites s.to p t.3 site.0 i; msg = s.msg } in (
        s.msg,
        subst (λ (m : Sent). IsTravelling j x.0 m) is t.1,
        λ held.
            let has = has_number x.0 b.in_hand (subst (λ h. Contains h x.0) b.hand held) in
            let apart = after_low 0 x.0 b.in_hand (x ∷ rest) (subst (IsAscending 0) (sym all) (messages_ascend l.sites j p)) has in
            apart.0 refl,
        (each_at_place (λ (m : Sent). (message forms.Two).Has m.msg) (sent_of j) x.0 s k.spelled t.1.0, sym t.2),
      )

  pub none_untaken : (inbox_at bs p).waiting ≡ [] → (n : ℕ) (m : Msg) → IsTravelling j n (record { to = p; msg = m }) → Contains (inbox_at bs p).hand n
  none_untaken e n m travels =
      let all : b.in_hand ≡ messages_at l.sites j p = sym (append-nil b.in_hand) ∙ (ap (λ w. b.in_hand ++ w) (sym e) ∙ b.messages) in
      let at = to_messages l.sites j p n (record { to = p; msg = m }) travels (place_is l.sites p site.1) in
      subst (λ h. Contains h n) (sym b.hand) (map_contains number_of b.in_hand (n, spelling forms.Two m) (subst (λ w. Contains w (n, spelling forms.Two m)) (sym all) at))

abbrev pub state_of : Limits → List Turn → List InboxState → Option Reason → BookState
state_of l j bs r = record { limits = l; journal = j; hands = map hand_of bs; reason = r }

pub take_tells : (l : Limits) (j : List Turn) (sent : ℕ) (bs : List InboxState) (r : Option Reason) (v : BookState) (k : IsConsistent l j sent bs r) (p : ℕ) (site : IsSiteOf l.sites p) (b : InboxState) (o : Option (ℕ × List ℕ)) → IsTaken (inbox_at bs p) b o → state_of l j bs r ≡ v
    → MatchOption o ((state_of l j (set bs p b) r ≡ v) × ((n : ℕ) (m : Msg) → IsUntaken v p n m → ⊥)) (λ x. IsUntakenSpelling v p x.0 x.1 × (hand p (map hand_of (set bs p b)) ≡ hand p v.hands ++ x.0 ∷ []))
take_tells l j sent bs r v k p site b None t is = (
  ap (λ (h : List (List ℕ)). record { limits = l; journal = j; hands = h; reason = r }) (same_hands (set bs p b) bs (length-set bs p b) (λ i. same i)) ∙ is,
  subst (λ (w : BookState). (n : ℕ) (m : Msg) → IsUntaken w p n m → ⊥) is (λ n m u. u.1 (subst (λ h. Contains h n) (sym (hand_at bs p)) (none_untaken l j sent bs r k p site t.0 n m u.0))),
)
  where
    same : (i : ℕ) → (inbox_at (set bs p b) i).hand ≡ (inbox_at bs i).hand
    same = inbox_related (λ x y. y.hand ≡ x.hand) bs p b (λ x. refl) (let m = k.places in let s = site.1 in omega arith) (ap (λ (x : InboxState). x.hand) t.1)
take_tells l j sent bs r v k p site b (Some x) t is =
    let u = was_untaken l j sent bs r k p site x b.waiting t.0 in
    subst (λ (w : BookState). IsUntakenSpelling w p x.0 x.1 × (hand p (map hand_of (set bs p b)) ≡ hand p w.hands ++ x.0 ∷ [])) is (
      (u.0, (u.1, λ held. u.2 (subst (λ h. Contains h x.0) (hand_at bs p) held)), u.3),
      hand_set bs p b (let m = k.places in let s = site.1 in omega arith) ∙ (t.1 ∙ ap (λ h. h ++ x.0 ∷ []) (sym (hand_at bs p))),
    )
