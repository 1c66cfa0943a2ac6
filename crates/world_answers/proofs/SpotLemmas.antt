-- Which claims there are, as messages are sent and come and as homes keep and take up requests.
use Rattle.std.proofs.Common.{arith, ◌≡◌, sym, ap, refl, subst, ℕ, ◌+◌, List, [], ◌∷◌, ◌++◌, ◌⊎◌, inl, inr}
use Rattle.std.specs.Prelude.{Contains, ◌≢◌, ◌≤◌, ◌<◌}
use Rattle.std.proofs.lemmas.List.Elements.{Contains-append_left, Contains-append_right, Contains-append_cases}
use Rattle.tree_node.specs.declared.names.VarName.{VarName}
use Rattle.tree_node.specs.declared.names.CellName.{CellName}
use Rattle.tree_node.specs.declared.names.ThreadName.{ThreadName}
use Rattle.tree_node.specs.Each.{AreDistinct}
use Rattle.tree_node.specs.Store.{Equation}
use Rattle.tree_node.proofs.ClassLemmas.{Contains-cons_cases, Contains-head, Contains-tail}
use Rattle.tree_node.proofs.OrderLemmas.{Each-member}
use Rattle.site_message.specs.declared.message.Msg.{Msg}
use Rattle.site_message.specs.declared.message.Msg.TheVariants as msg
use Rattle.site_message.specs.declared.message.Sent.{Sent}
use Rattle.oz_model.proofs.KindLemmas.{cell_cases}
use Rattle.site_model.specs.Requests.{Answer, NewEnd, OldContent}
use Rattle.site_model.specs.Site.{EarlyRequest}
use Rattle.world_model.specs.Claims.{Asking, EndOf, ContentOf, request, answer, Claim, Asked, Answered, Listed, IsClaim}
use Rattle.world_model.specs.World.{Mail, IsOnItsWay, mail_from, without_number}
use Rattle.world_model.proofs.MailLemmas.{nothing, sent_to, gone, from_number}

-- ---- messages

-- messages before and after: some are lost, some came
pub record Turned (mail more : Mail) (lost : ℕ → Type 0) (came : ℕ → ℕ → Msg → Type 0) : Type 0 where
  pub from : (k to : ℕ) (m : Msg) → IsOnItsWay more k to m → (IsOnItsWay mail k to m × (lost k → ⊥)) ⊎ came k to m
  pub kept : (k to : ℕ) (m : Msg) → IsOnItsWay mail k to m → (lost k → ⊥) → IsOnItsWay more k to m
  pub new : (k to : ℕ) (m : Msg) → came k to m → IsOnItsWay more k to m

-- this one, of this number to this site
abbrev pub IsLetter : ℕ → ℕ → Msg → ℕ → ℕ → Msg → Type 0
IsLetter n to x k a m = (k ≡ n) × (a ≡ to) × (m ≡ x)

-- a message is sent
pub sends : (mail : Mail) (n to : ℕ) (x : Msg) → Turned mail (mail ++ mail_from n (sent_to to x ∷ [])) (λ k. ⊥) (IsLetter n to x)
sends mail n to x = record {
  from = λ k a m h. from k a m (from_number mail n (sent_to to x ∷ []) k a m h);
  kept = λ k a m h other. Contains-append_left mail (mail_from n (sent_to to x ∷ [])) _ h;
  new = λ k a m e. rw (e.0, e.1, e.2) (Contains-append_right mail (mail_from n (sent_to to x ∷ [])) _ (Contains-head _ []));
}
  where
    from : (k a : ℕ) (m : Msg) → IsOnItsWay mail k a m ⊎ (Contains (sent_to to x ∷ []) (sent_to a m) × (n ≤ k) × (k < n + 1)) → (IsOnItsWay mail k a m × (⊥ → ⊥)) ⊎ IsLetter n to x k a m
    from k a m (inl h) = inl (h, λ y. y)
    from k a m (inr (h, low, high)) = inr (omega (arith, low, high), (is h).0, (is h).1)
      where
        is : Contains (sent_to to x ∷ []) (sent_to a m) → (a ≡ to) × (m ≡ x)
        is h = go (Contains-cons_cases _ _ [] h)
          where
            go : (sent_to to x ≡ sent_to a m) ⊎ Contains [] (sent_to a m) → (a ≡ to) × (m ≡ x)
            go (inl e) = (sym (ap (λ (o : Sent). o.to) e), sym (ap (λ (o : Sent). o.msg) e))
            go (inr q) = absurd (nothing _ q)

-- a message has come
pub comes : (mail : Mail) (n : ℕ) → Turned mail (without_number n mail) (λ k. k ≡ n) (λ k a m. ⊥)
comes mail n = record {
  from = λ k a m h. inl ((gone n mail).old k a m h);
  kept = λ k a m h other. (gone n mail).kept k a m h other;
  new = λ k a m h. absurd h;
}

-- none of these
pub stays : (mail : Mail) → Turned mail mail (λ k. ⊥) (λ k a m. ⊥)
stays mail = record { from = λ k a m h. inl (h, λ y. y); kept = λ k a m h other. h; new = λ k a m h. absurd h }

-- ---- claims

-- the message of a claim is lost
abbrev pub IsLost : (ℕ → Type 0) → Claim → Type 0
IsLost lost (Asked k to a n f) = lost k
IsLost lost (Answered k to n x) = lost k
IsLost lost (Listed c r) = ⊥

-- a message that came makes it
abbrev pub IsNewClaim : (ℕ → ℕ → Msg → Type 0) → Claim → Type 0
IsNewClaim came (Asked k to a n f) = (bundle : List Equation) × came k to (request a n f bundle)
IsNewClaim came (Answered k to n x) = (bundle : List Equation) × came k to (answer n x bundle)
IsNewClaim came (Listed c r) = ⊥

module _ (mail more : Mail) (early : CellName → List EarlyRequest) (lost : ℕ → Type 0) (came : ℕ → ℕ → Msg → Type 0) (t : Turned mail more lost came) where
  pub claims_from : (y : Claim) → IsClaim more early y → (IsClaim mail early y × (IsLost lost y → ⊥)) ⊎ IsNewClaim came y
  claims_from (Listed c r) h = inl (h, λ x. x)
  claims_from (Asked k to a n f) (bundle, at) = go (t.from k to (request a n f bundle) at)
    where
      go : (IsOnItsWay mail k to (request a n f bundle) × (lost k → ⊥)) ⊎ came k to (request a n f bundle) → (IsClaim mail early (Asked k to a n f) × (lost k → ⊥)) ⊎ IsNewClaim came (Asked k to a n f)
      go (inl h) = inl ((bundle, h.0), h.1)
      go (inr h) = inr (bundle, h)
  claims_from (Answered k to n x) (bundle, at) = go (t.from k to (answer n x bundle) at)
    where
      go : (IsOnItsWay mail k to (answer n x bundle) × (lost k → ⊥)) ⊎ came k to (answer n x bundle) → (IsClaim mail early (Answered k to n x) × (lost k → ⊥)) ⊎ IsNewClaim came (Answered k to n x)
      go (inl h) = inl ((bundle, h.0), h.1)
      go (inr h) = inr (bundle, h)

  pub claims_kept : (y : Claim) → IsClaim mail early y → (IsLost lost y → ⊥) → IsClaim more early y
  claims_kept (Listed c r) h other = h
  claims_kept (Asked k to a n f) (bundle, at) other = (bundle, t.kept k to (request a n f bundle) at other)
  claims_kept (Answered k to n x) (bundle, at) other = (bundle, t.kept k to (answer n x bundle) at other)

  pub claims_new : (y : Claim) → IsNewClaim came y → IsClaim more early y
  claims_new (Asked k to a n f) (bundle, at) = (bundle, t.new k to (request a n f bundle) at)
  claims_new (Answered k to n x) (bundle, at) = (bundle, t.new k to (answer n x bundle) at)
  claims_new (Listed c r) h = absurd h

-- ---- which message makes which claim

pub request_same : (a b : Asking) (n m : ThreadName) (f g : ℕ) (x y : List Equation) → request a n f x ≡ request b m g y → (a ≡ b) × (n ≡ m) × (f ≡ g)
request_same (EndOf q) (EndOf r) n m f g x y e =
    let port : q ≡ r = cc in
    let thread : n ≡ m = cc in
    let site : f ≡ g = cc in (ap EndOf port, thread, site)
request_same (ContentOf c u) (ContentOf d v) n m f g x y e =
    let cell : c ≡ d = cc in
    let new : u ≡ v = cc in
    let thread : n ≡ m = cc in
    let site : f ≡ g = cc in (rw (cell, new) refl, thread, site)
request_same (EndOf q) (ContentOf d v) n m f g x y e = absurd (cc)
request_same (ContentOf c u) (EndOf r) n m f g x y e = absurd (cc)

answer_same : (n m : ThreadName) (a b : Answer) (x y : List Equation) → answer n a x ≡ answer m b y → (n ≡ m) × (a ≡ b)
answer_same n m (NewEnd o u) (NewEnd q v) x y e =
    let thread : n ≡ m = cc in
    let old : o ≡ q = cc in
    let new : u ≡ v = cc in (thread, rw (old, new) refl)
answer_same n m (OldContent u) (OldContent v) x y e =
    let thread : n ≡ m = cc in
    let old : u ≡ v = cc in (thread, ap OldContent old)
answer_same n m (NewEnd o u) (OldContent v) x y e = absurd (cc)
answer_same n m (OldContent u) (NewEnd q v) x y e = absurd (cc)

request_answer : (a : Asking) (n m : ThreadName) (f : ℕ) (b : Answer) (x y : List Equation) → request a n f x ≡ answer m b y → ⊥
request_answer (EndOf q) n m f (NewEnd o u) x y e = cc
request_answer (EndOf q) n m f (OldContent v) x y e = cc
request_answer (ContentOf c w) n m f (NewEnd o u) x y e = cc
request_answer (ContentOf c w) n m f (OldContent v) x y e = cc

-- what tells a home is no request and no answer
pub request_tells : (a : Asking) (n : ThreadName) (f : ℕ) (x : List Equation) (c : CellName) (v : VarName) (y : List Equation) → request a n f x ≡ msg.CellMake c v y → ⊥
request_tells (EndOf q) n f x c v y e = cc
request_tells (ContentOf d w) n f x c v y e = cc

pub answer_tells : (n : ThreadName) (a : Answer) (x : List Equation) (c : CellName) (v : VarName) (y : List Equation) → answer n a x ≡ msg.CellMake c v y → ⊥
answer_tells n (NewEnd o u) x c v y e = cc
answer_tells n (OldContent w) x c v y e = cc

-- a request that is sent makes one claim
pub request_claims : (k to : ℕ) (a : Asking) (n : ThreadName) (f : ℕ) (bundle : List Equation) (y : Claim) → IsNewClaim (IsLetter k to (request a n f bundle)) y → y ≡ Asked k to a n f
request_claims k to a n f bundle (Asked l b d m g) (x, (e, h, q)) = let same = request_same d a m n g f x bundle q in rw (e, h, same.0, same.1, same.2) refl
request_claims k to a n f bundle (Answered l b m y) (x, (e, h, q)) = absurd (request_answer a n m f y bundle x (sym q))
request_claims k to a n f bundle (Listed c r) h = absurd h

-- so does an answer
pub answer_claims : (k to : ℕ) (n : ThreadName) (a : Answer) (bundle : List Equation) (y : Claim) → IsNewClaim (IsLetter k to (answer n a bundle)) y → y ≡ Answered k to n a
answer_claims k to n a bundle (Answered l b m d) (x, (e, h, q)) = let same = answer_same m n d a x bundle q in rw (e, h, same.0, same.1) refl
answer_claims k to n a bundle (Asked l b d m g) (x, (e, h, q)) = absurd (request_answer d m n g a x bundle q)
answer_claims k to n a bundle (Listed c r) h = absurd h

-- and what tells a home makes none
pub tell_claims : (k to : ℕ) (c : CellName) (v : VarName) (bundle : List Equation) (y : Claim) → IsNewClaim (IsLetter k to (msg.CellMake c v bundle)) y → ⊥
tell_claims k to c v bundle (Asked l b d m g) (x, (e, h, q)) = request_tells d m g x c v bundle q
tell_claims k to c v bundle (Answered l b m d) (x, (e, h, q)) = answer_tells m d x c v bundle q
tell_claims k to c v bundle (Listed d r) h = h

-- the message of this number is lost exactly where the claim is its
module _ (mail : Mail) (early : CellName → List EarlyRequest) (numbers : (k a b : ℕ) (m o : Msg) → IsOnItsWay mail k a m → IsOnItsWay mail k b o → (a ≡ b) × (m ≡ o)) where
  pub lost_request : (k to : ℕ) (a : Asking) (n : ThreadName) (f : ℕ) (bundle : List Equation) → IsOnItsWay mail k to (request a n f bundle) → (y : Claim) → IsClaim mail early y → y ≢ Asked k to a n f → IsLost (λ l. l ≡ k) y → ⊥
  lost_request k to a n f bundle at (Listed c r) h other e = e
  lost_request k to a n f bundle at (Asked l b d m g) (x, here) other e =
      let same = numbers k b to (request d m g x) (request a n f bundle) (subst (λ (o : ℕ). IsOnItsWay mail o b (request d m g x)) e here) at in
      let is = request_same d a m n g f x bundle same.1 in
      other (rw (e, same.0, is.0, is.1, is.2) refl)
  lost_request k to a n f bundle at (Answered l b m y) (x, here) other e =
      request_answer a n m f y bundle x (sym (numbers k b to (answer m y x) (request a n f bundle) (subst (λ (o : ℕ). IsOnItsWay mail o b (answer m y x)) e here) at).1)

  pub lost_answer : (k to : ℕ) (n : ThreadName) (a : Answer) (bundle : List Equation) → IsOnItsWay mail k to (answer n a bundle) → (y : Claim) → IsClaim mail early y → y ≢ Answered k to n a → IsLost (λ l. l ≡ k) y → ⊥
  lost_answer k to n a bundle at (Listed c r) h other e = e
  lost_answer k to n a bundle at (Answered l b m d) (x, here) other e =
      let same = numbers k b to (answer m d x) (answer n a bundle) (subst (λ (o : ℕ). IsOnItsWay mail o b (answer m d x)) e here) at in
      let is = answer_same m n d a x bundle same.1 in
      other (rw (e, same.0, is.0, is.1) refl)
  lost_answer k to n a bundle at (Asked l b d m g) (x, here) other e =
      request_answer d m n g a x bundle (numbers k b to (request d m g x) (answer n a bundle) (subst (λ (o : ℕ). IsOnItsWay mail o b (request d m g x)) e here) at).1

  pub lost_told : (k to : ℕ) (c : CellName) (v : VarName) (bundle : List Equation) → IsOnItsWay mail k to (msg.CellMake c v bundle) → (y : Claim) → IsClaim mail early y → IsLost (λ l. l ≡ k) y → ⊥
  lost_told k to c v bundle at (Listed d r) h e = e
  lost_told k to c v bundle at (Asked l b d m g) (x, here) e =
      request_tells d m g x c v bundle (numbers k b to (request d m g x) (msg.CellMake c v bundle) (subst (λ (o : ℕ). IsOnItsWay mail o b (request d m g x)) e here) at).1
  lost_told k to c v bundle at (Answered l b m d) (x, here) e =
      answer_tells m d x c v bundle (numbers k b to (answer m d x) (msg.CellMake c v bundle) (subst (λ (o : ℕ). IsOnItsWay mail o b (answer m d x)) e here) at).1

-- ---- lists of homes

module _ (mail : Mail) (early now : CellName → List EarlyRequest) where
  pub relisted : ((d : CellName) → now d ≡ early d) → (y : Claim) → IsClaim mail now y → IsClaim mail early y
  relisted same (Listed d q) h = subst (λ (rs : List EarlyRequest). Contains rs q) (same d) h
  relisted same (Asked k to a n f) h = h
  relisted same (Answered k to n x) h = h

  module _ (c : CellName) (r : EarlyRequest) (others : (d : CellName) → c ≢ d → now d ≡ early d) where
    -- a request more
    pub appended_from : now c ≡ early c ++ r ∷ [] → (y : Claim) → IsClaim mail now y → IsClaim mail early y ⊎ (y ≡ Listed c r)
    appended_from at (Asked k to a n f) h = inl h
    appended_from at (Answered k to n x) h = inl h
    appended_from at (Listed d q) h = go (cell_cases c d)
      where
        last : Contains (early c) q ⊎ Contains (r ∷ []) q → Contains (early c) q ⊎ (Listed c q ≡ Listed c r)
        last (inl g) = inl g
        last (inr g) = one (Contains-cons_cases r q [] g)
          where
            one : (r ≡ q) ⊎ Contains [] q → Contains (early c) q ⊎ (Listed c q ≡ Listed c r)
            one (inl e) = inr (ap (Listed c) (sym e))
            one (inr e) = absurd (nothing _ e)

        go : (c ≡ d) ⊎ (c ≢ d) → Contains (early d) q ⊎ (Listed d q ≡ Listed c r)
        go (inr other) = inl (subst (λ (rs : List EarlyRequest). Contains rs q) (others d other) h)
        go (inl e) = subst (λ (y : CellName). Contains (early y) q ⊎ (Listed y q ≡ Listed c r)) e
            (last (Contains-append_cases (early c) (r ∷ []) q (subst (λ (rs : List EarlyRequest). Contains rs q) at (subst (λ (y : CellName). Contains (now y) q) (sym e) h))))

    pub appended_old : now c ≡ early c ++ r ∷ [] → (y : Claim) → IsClaim mail early y → IsClaim mail now y
    appended_old at (Asked k to a n f) h = h
    appended_old at (Answered k to n x) h = h
    appended_old at (Listed d q) h = go (cell_cases c d)
      where
        go : (c ≡ d) ⊎ (c ≢ d) → Contains (now d) q
        go (inr other) = subst (λ (rs : List EarlyRequest). Contains rs q) (sym (others d other)) h
        go (inl e) = subst (λ (y : CellName). Contains (now y) q) e (subst (λ (rs : List EarlyRequest). Contains rs q) (sym at) (Contains-append_left (early c) (r ∷ []) q (subst (λ (y : CellName). Contains (early y) q) (sym e) h)))

    pub appended_new : now c ≡ early c ++ r ∷ [] → IsClaim mail now (Listed c r)
    appended_new at = subst (λ (rs : List EarlyRequest). Contains rs r) (sym at) (Contains-append_right (early c) (r ∷ []) r (Contains-head r []))

    -- the first one is taken up
    pub first_from : early c ≡ r ∷ now c → AreDistinct (early c) → (y : Claim) → IsClaim mail now y → IsClaim mail early y × (y ≢ Listed c r)
    first_from at distinct (Asked k to a n f) h = (h, λ e. cc)
    first_from at distinct (Answered k to n x) h = (h, λ e. cc)
    first_from at distinct (Listed d q) h = go (cell_cases c d)
      where
        go : (c ≡ d) ⊎ (c ≢ d) → Contains (early d) q × (Listed d q ≢ Listed c r)
        go (inr other) = (subst (λ (rs : List EarlyRequest). Contains rs q) (others d other) h, λ e. let cell : d ≡ c = cc in other (sym cell))
        go (inl e) =
            let here : Contains (now c) q = subst (λ (y : CellName). Contains (now y) q) (sym e) h in (
              subst (λ (y : CellName). Contains (early y) q) e (subst (λ (rs : List EarlyRequest). Contains rs q) (sym at) (Contains-tail r q (now c) here)),
              λ f. let same : q ≡ r = cc in Each-member (λ (y : EarlyRequest). r ≢ y) (now c) q (subst AreDistinct at distinct).0 here (sym same),
            )

    pub first_old : early c ≡ r ∷ now c → (y : Claim) → IsClaim mail early y → y ≢ Listed c r → IsClaim mail now y
    first_old at (Asked k to a n f) h other = h
    first_old at (Answered k to n x) h other = h
    first_old at (Listed d q) h other = go (cell_cases c d)
      where
        go : (c ≡ d) ⊎ (c ≢ d) → Contains (now d) q
        go (inr far) = subst (λ (rs : List EarlyRequest). Contains rs q) (sym (others d far)) h
        go (inl e) = rest (Contains-cons_cases r q (now c) (subst (λ (rs : List EarlyRequest). Contains rs q) at (subst (λ (y : CellName). Contains (early y) q) (sym e) h)))
          where
            rest : (r ≡ q) ⊎ Contains (now c) q → Contains (now d) q
            rest (inl f) = absurd (other (subst (λ (y : CellName). Listed y q ≡ Listed c r) e (ap (Listed c) (sym f))))
            rest (inr g) = subst (λ (y : CellName). Contains (now y) q) e g

-- ---- an answer in place of a request

module _ (mail : Mail) (early : CellName → List EarlyRequest) (k number to : ℕ) (n : ThreadName) (y : Answer) (bundle : List Equation) where
  abbrev pub swap_mail : Mail
  swap_mail = without_number k mail ++ mail_from number (sent_to to (answer n y bundle) ∷ [])

  abbrev letter : ℕ → ℕ → Msg → Type 0
  letter = IsLetter number to (answer n y bundle)

  sent : Turned (without_number k mail) swap_mail (λ l. ⊥) letter
  sent = sends (without_number k mail) number to (answer n y bundle)

  never : (z : Claim) → IsLost (λ l. ⊥) z → ⊥
  never (Asked l b a m f) h = h
  never (Answered l b m x) h = h
  never (Listed c r) h = h

  never_new : (z : Claim) → IsNewClaim (λ l b m. ⊥) z → ⊥
  never_new (Asked l b a m f) (es, h) = h
  never_new (Answered l b m x) (es, h) = h
  never_new (Listed c r) h = h

  -- the request of the claim x has come
  module _ (x : Claim) (lost : IsLost (λ l. l ≡ k) x) (others : (z : Claim) → IsClaim mail early z → z ≢ x → IsLost (λ l. l ≡ k) z → ⊥) where
    pub swap_from : (z : Claim) → IsClaim swap_mail early z → (IsClaim mail early z × (z ≢ x)) ⊎ (z ≡ Answered number to n y)
    swap_from z h = go (claims_from (without_number k mail) swap_mail early (λ l. ⊥) letter sent z h)
      where
        here : (IsClaim mail early z × (IsLost (λ l. l ≡ k) z → ⊥)) ⊎ IsNewClaim (λ l b m. ⊥) z → IsClaim mail early z × (z ≢ x)
        here (inl g) = (g.0, λ e. g.1 (subst (IsLost (λ l. l ≡ k)) (sym e) lost))
        here (inr g) = absurd (never_new z g)

        go : (IsClaim (without_number k mail) early z × (IsLost (λ l. ⊥) z → ⊥)) ⊎ IsNewClaim letter z → (IsClaim mail early z × (z ≢ x)) ⊎ (z ≡ Answered number to n y)
        go (inl g) = inl (here (claims_from mail (without_number k mail) early (λ l. l ≡ k) (λ l b m. ⊥) (comes mail k) z g.0))
        go (inr g) = inr (answer_claims number to n y bundle z g)

    pub swap_old : (z : Claim) → IsClaim mail early z → z ≢ x → IsClaim swap_mail early z
    swap_old z h other = claims_kept (without_number k mail) swap_mail early (λ l. ⊥) letter sent z (claims_kept mail (without_number k mail) early (λ l. l ≡ k) (λ l b m. ⊥) (comes mail k) z h (others z h other)) (never z)

  pub swap_there : IsClaim swap_mail early (Answered number to n y)
  swap_there = (bundle, sent.new number to (answer n y bundle) (refl, refl, refl))

  -- which homes are told stays
  module _ (i : ℕ) (m : Msg) (at : IsOnItsWay mail k i m) (numbers : (l a b : ℕ) (x o : Msg) → IsOnItsWay mail l a x → IsOnItsWay mail l b o → (a ≡ b) × (x ≡ o)) (tells_not : (c : CellName) (v : VarName) (es : List Equation) → m ≡ msg.CellMake c v es → ⊥) where
    pub swap_told_from : (l a : ℕ) (c : CellName) (v : VarName) (es : List Equation) → IsOnItsWay swap_mail l a (msg.CellMake c v es) → IsOnItsWay mail l a (msg.CellMake c v es)
    swap_told_from l a c v es h = go (sent.from l a (msg.CellMake c v es) h)
      where
        go : (IsOnItsWay (without_number k mail) l a (msg.CellMake c v es) × (⊥ → ⊥)) ⊎ letter l a (msg.CellMake c v es) → IsOnItsWay mail l a (msg.CellMake c v es)
        go (inl g) = ((gone k mail).old l a (msg.CellMake c v es) g.0).0
        go (inr g) = absurd (answer_tells n y bundle c v es (sym g.2))

    pub swap_told_old : (l a : ℕ) (c : CellName) (v : VarName) (es : List Equation) → IsOnItsWay mail l a (msg.CellMake c v es) → IsOnItsWay swap_mail l a (msg.CellMake c v es)
    swap_told_old l a c v es h = sent.kept l a (msg.CellMake c v es) ((gone k mail).kept l a (msg.CellMake c v es) h (λ e. tells_not c v es (sym (numbers k a i (msg.CellMake c v es) m (subst (λ (o : ℕ). IsOnItsWay mail o a (msg.CellMake c v es)) e h) at).1))) (λ q. q)
