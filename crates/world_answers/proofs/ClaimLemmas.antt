-- Claims: a thread begins to wait, its claim becomes another one, and it goes on.
use Rattle.std.proofs.Common.{◌≡◌, ◌∙◌, sym, ap, refl, subst, ℕ, List, [], ◌∷◌, ◌⊎◌, inl, inr, Bool, true, false, cond, Some, None}
use Rattle.std.specs.Prelude.{Option, ◌≢◌}
use Rattle.tree_node.specs.declared.names.ThreadName.{ThreadName}
use Rattle.tree_node.specs.declared.names.Name.TheVariants as name
use Rattle.tree_node.specs.Assoc.{value_of}
use Rattle.tree_node.specs.State.{Stack, equal_thread}
use Rattle.tree_node.specs.Store.{Store, IsSound}
use Rattle.tree_node.proofs.NameLemmas.{same_thread_decides}
use Rattle.kernel_syntax.specs.declared.stmt.Stmt.{Stmt}
use Rattle.oz_model.specs.Answers.{IsPartOf}
use Rattle.oz_model.specs.Need.{variable_kinds}
use Rattle.oz_model.specs.Effect.{Effect}
use Rattle.oz_model.proofs.KeepLemmas.{steps_stay}
use Rattle.oz_model.proofs.WithinLemmas.{more_is_within}
use Rattle.thread_roster.specs.declared.mode.Awaited.{Awaited}
use Rattle.thread_roster.specs.declared.mode.Awaited.TheVariants.{Cell}
use Rattle.thread_roster.specs.declared.mode.Mode.TheVariants.{Runs}
use Rattle.thread_roster.proofs.NameLemmas.{name_cases as threads_decide}
use Rattle.site_model.specs.Cells.{exchange_stack}
use Rattle.site_model.specs.Requests.{Answer, NewEnd, OldContent, send_stack}
use Rattle.site_model.specs.Site.{Threads, ThreadState}
use Rattle.world_model.specs.Claims.{Asking, EndOf, ContentOf, awaited, Asks, IsAnswerTo, answered, Claim, Asked, Answered, Listed, claimant, Waiting, FitsClaim, IsGrounded, AskingMatch}

-- ---- tables of threads

pub front_own : (ts : Threads) (n : ThreadName) (v : ThreadState) → value_of equal_thread ((n, v) ∷ ts) n ≡ Some v
front_own ts n v = rw ((same_thread_decides n n).1 refl) refl

pub front_far : (ts : Threads) (n o : ThreadName) (v : ThreadState) → n ≢ o → value_of equal_thread ((n, v) ∷ ts) o ≡ value_of equal_thread ts o
front_far ts n o v other = go (equal_thread n o) refl
  where
    go : (b : Bool) → equal_thread n o ≡ b → cond b (Some v) (value_of equal_thread ts o) ≡ value_of equal_thread ts o
    go true e = absurd (other ((same_thread_decides n o).0 e))
    go false e = refl

pub some_same : (v u : ThreadState) → Some v ≡ Some u → v ≡ u
some_same v u e = cc

pub front_is : (ts : Threads) (n o : ThreadName) (v u : ThreadState) → value_of equal_thread ((n, v) ∷ ts) o ≡ Some u → ((o ≡ n) × (u ≡ v)) ⊎ ((n ≢ o) × (value_of equal_thread ts o ≡ Some u))
front_is ts n o v u h = go (threads_decide n o)
  where
    go : (n ≡ o) ⊎ (n ≢ o) → ((o ≡ n) × (u ≡ v)) ⊎ ((n ≢ o) × (value_of equal_thread ts o ≡ Some u))
    go (inl e) = inl (sym e, some_same u v (sym h ∙ subst (λ (x : ThreadName). value_of equal_thread ((n, v) ∷ ts) x ≡ Some v) e (front_own ts n v)))
    go (inr other) = inr (other, sym (front_far ts n o v other) ∙ h)

-- ---- sites know more

module _ (p : List Stmt) (s t : Store) (sound : IsSound t) (more : IsPartOf s t) (st : Stack) where
  pub asks_grow : (a : Asking) → Asks p s st a → Asks p t st a
  asks_grow (EndOf q) (need, (value, sends)) =
      let kept = steps_stay p s t st (variable_kinds 1) sound (more_is_within s t more) need in
      (kept.0, (value, λ new. ap (λ (e : Effect). e.port) (sym (kept.1 (name.Var new ∷ []) None)) ∙ sends new))
  asks_grow (ContentOf c new) (need, told, is) =
      let kept = steps_stay p s t st [] sound (more_is_within s t more) need in
      (kept.0, told, ap (λ (e : Effect). e.cell) (sym (kept.1 [] None)) ∙ is)

  pub answered_grow : (a : Asking) (x : Answer) → Asks p s st a → IsAnswerTo a x → answered p s x st ≡ answered p t x st
  answered_grow (EndOf q) (NewEnd old new) (need, (value, sends)) h =
      let kept = steps_stay p s t st (variable_kinds 1) sound (more_is_within s t more) need in
      ap (λ (e : Effect). send_stack old e.port e.stack) (kept.1 (name.Var new ∷ []) None)
  answered_grow (ContentOf c new) (OldContent v) (need, told, is) h =
      let kept = steps_stay p s t st [] sound (more_is_within s t more) need in
      ap (λ (e : Effect). exchange_stack v e.cell e.stack) (kept.1 [] None)
  answered_grow (EndOf q) (OldContent v) k h = absurd h
  answered_grow (ContentOf c new) (NewEnd old end) k h = absurd h

-- ---- claims

-- who claims waits somewhere
claimant_waits : (p : List Stmt) (eqs : ℕ → Store) (waits : Waiting) (x : Claim) → IsGrounded p eqs waits x → (j : ℕ) × (a : Awaited) × (su : Stack) × waits j (claimant x) a su
claimant_waits p eqs waits (Asked k to a n from) (e, far, st, at, asks) = (from, awaited a, st, at)
claimant_waits p eqs waits (Answered k to n x) (a, st, at, far) = (to, a, st, at)
claimant_waits p eqs waits (Listed c r) (st, at, asks) = (r.asking, Cell c, st, at)

-- others wait as well
ground_more : (p : List Stmt) (eqs : ℕ → Store) (waits more : Waiting) (x : Claim) → ((j : ℕ) (a : Awaited) (su : Stack) → waits j (claimant x) a su → more j (claimant x) a su) → IsGrounded p eqs waits x → IsGrounded p eqs more x
ground_more p eqs waits more (Asked k to a n from) f (e, far, st, at, asks) = (e, far, st, f from (awaited a) st at, asks)
ground_more p eqs waits more (Answered k to n x) f (a, st, at, far) = (a, st, f to a st at, far)
ground_more p eqs waits more (Listed c r) f (st, at, asks) = (st, f r.asking (Cell c) st at, asks)

-- the same threads wait with the same claims, and each site may know more
pub asking_alike : (p : List Stmt) (eqs more : ℕ → Store) (waits now : Waiting) (claims claims_now : Claim → Type 0) (transit : Threads) → ((i : ℕ) → IsSound (more i)) → ((i : ℕ) → IsPartOf (eqs i) (more i)) →
    ((i : ℕ) (n : ThreadName) (a : Awaited) (st : Stack) → now i n a st → waits i n a st) → ((i : ℕ) (n : ThreadName) (a : Awaited) (st : Stack) → waits i n a st → now i n a st) →
    ((y : Claim) → claims_now y → claims y) → ((y : Claim) → claims y → claims_now y) → AskingMatch p eqs waits claims transit → AskingMatch p more now claims_now transit
asking_alike p eqs more waits now claims claims_now transit sound part from_wait old_wait from old m = record {
  stands = λ i n a st h. (let r = m.stands i n a st (from_wait i n a st h) in (r.0, r.1, r.2, old r.2 r.3, r.4, fits i a st r.0 r.2 r.5));
  known = λ n v h. (let r = m.known n v h in (r.0, r.1, r.2, r.3, old_wait r.1 n r.2 r.3 r.4));
  alone = λ i j n a b st su h g. m.alone i j n a b st su (from_wait i n a st h) (from_wait j n b su g);
  grounded = λ x h. ground_more p more waits now x (λ j a su g. old_wait j (claimant x) a su g) (ground x (m.grounded x (from x h)));
  once = λ x y h g e. m.once x y (from x h) (from y g) e;
}
  where
    fits : (i : ℕ) (a : Awaited) (st z : Stack) (x : Claim) → FitsClaim p (eqs i) i a st z x → FitsClaim p (more i) i a st z x
    fits i a st z (Asked k to b n f) h = h
    fits i a st z (Listed c r) h = h
    fits i a st z (Answered k to n x) (e, b, is, asks, fit, stack) =
        (e, b, is, asks_grow p (eqs i) (more i) (sound i) (part i) st b asks, fit, stack ∙ answered_grow p (eqs i) (more i) (sound i) (part i) st b x asks fit)

    ground : (x : Claim) → IsGrounded p eqs waits x → IsGrounded p more waits x
    ground (Asked k to a n f) (e, far, st, at, asks) = (e, far, st, at, asks_grow p (eqs f) (more f) (sound f) (part f) st a asks)
    ground (Answered k to n x) h = h
    ground (Listed c r) (st, at, asks) = (st, at, asks_grow p (eqs r.asking) (more r.asking) (sound r.asking) (part r.asking) st (ContentOf c r.new) asks)

module _ (p : List Stmt) (eqs : ℕ → Store) (waits : Waiting) (claims : Claim → Type 0) (transit : Threads) (m : AskingMatch p eqs waits claims transit) where
  -- who has no claim waits for no answer, and who waits is at number 0
  pub nobody_claims : (n : ThreadName) → ((j : ℕ) (a : Awaited) (su : Stack) → waits j n a su → ⊥) → (y : Claim) → claims y → claimant y ≢ n
  nobody_claims n none y h e =
      let q = claimant_waits p eqs waits y (m.grounded y h) in
      none q.0 q.1 q.2 (subst (λ (o : ThreadName). waits q.0 o q.1 q.2) e q.3)

  -- a thread of site i begins to wait, with this claim
  module _ (i : ℕ) (n : ThreadName) (a : Awaited) (st : Stack) (x : Claim) (more : Waiting) (now : Claim → Type 0)
      (none : (j : ℕ) (b : Awaited) (su : Stack) → waits j n b su → ⊥)
      (from_wait : (j : ℕ) (o : ThreadName) (b : Awaited) (su : Stack) → more j o b su → ((j ≡ i) × (o ≡ n) × (b ≡ a) × (su ≡ st)) ⊎ waits j o b su)
      (old_wait : (j : ℕ) (o : ThreadName) (b : Awaited) (su : Stack) → waits j o b su → more j o b su) (new_wait : more i n a st)
      (is : claimant x ≡ n) (fits : FitsClaim p (eqs i) i a st st x) (ground : IsGrounded p eqs more x)
      (from : (y : Claim) → now y → claims y ⊎ (y ≡ x)) (old : (y : Claim) → claims y → now y) (there : now x) where
    pub goes_away : AskingMatch p eqs more now ((n, (st, Runs)) ∷ transit)
    goes_away = record {
      stands = λ j o b su h. stand j o b su (from_wait j o b su h);
      known = λ o v h. knows o v (front_is transit n o (st, Runs) v h);
      alone = λ j k o b d su sv h g. one j k o b d su sv (from_wait j o b su h) (from_wait k o d sv g);
      grounded = λ y h. grounds y (from y h);
      once = λ y z h g e. single y z (from y h) (from z g) e;
    }
      where
        other : (j : ℕ) (o : ThreadName) (b : Awaited) (su : Stack) → waits j o b su → n ≢ o
        other j o b su h e = none j b su (subst (λ (y : ThreadName). waits j y b su) (sym e) h)

        stand : (j : ℕ) (o : ThreadName) (b : Awaited) (su : Stack) → ((j ≡ i) × (o ≡ n) × (b ≡ a) × (su ≡ st)) ⊎ waits j o b su →
            (z : Stack) × (value_of equal_thread ((n, (st, Runs)) ∷ transit) o ≡ Some (z, Runs)) × (y : Claim) × now y × (claimant y ≡ o) × FitsClaim p (eqs j) j b su z y
        stand j o b su (inl (e, f, g, h)) = rw (e, f, g, h) (st, front_own transit n (st, Runs), x, there, is, fits)
        stand j o b su (inr h) = let r = m.stands j o b su h in (r.0, front_far transit n o (st, Runs) (other j o b su h) ∙ r.1, r.2, old r.2 r.3, r.4, r.5)

        knows : (o : ThreadName) (v : ThreadState) → ((o ≡ n) × (v ≡ (st, Runs))) ⊎ ((n ≢ o) × (value_of equal_thread transit o ≡ Some v)) → (v.1 ≡ Runs) × (j : ℕ) × (b : Awaited) × (su : Stack) × more j o b su
        knows o v (inl (e, f)) = (ap (λ (u : ThreadState). u.1) f, i, a, st, subst (λ (y : ThreadName). more i y a st) (sym e) new_wait)
        knows o v (inr (far, h)) = let r = m.known o v h in (r.0, r.1, r.2, r.3, old_wait r.1 o r.2 r.3 r.4)

        one : (j k : ℕ) (o : ThreadName) (b d : Awaited) (su sv : Stack) → ((j ≡ i) × (o ≡ n) × (b ≡ a) × (su ≡ st)) ⊎ waits j o b su → ((k ≡ i) × (o ≡ n) × (d ≡ a) × (sv ≡ st)) ⊎ waits k o d sv → j ≡ k
        one j k o b d su sv (inl e) (inl f) = e.0 ∙ sym f.0
        one j k o b d su sv (inl e) (inr f) = absurd (other k o d sv f (sym e.1))
        one j k o b d su sv (inr e) (inl f) = absurd (other j o b su e (sym f.1))
        one j k o b d su sv (inr e) (inr f) = m.alone j k o b d su sv e f

        grounds : (y : Claim) → claims y ⊎ (y ≡ x) → IsGrounded p eqs more y
        grounds y (inl h) = ground_more p eqs waits more y (λ j b su q. old_wait j (claimant y) b su q) (m.grounded y h)
        grounds y (inr e) = subst (IsGrounded p eqs more) (sym e) ground

        single : (y z : Claim) → claims y ⊎ (y ≡ x) → claims z ⊎ (z ≡ x) → claimant y ≡ claimant z → y ≡ z
        single y z (inl h) (inl g) e = m.once y z h g e
        single y z (inr h) (inr g) e = h ∙ sym g
        single y z (inl h) (inr g) e = absurd (nobody_claims n none y h (e ∙ ap claimant g ∙ is))
        single y z (inr h) (inl g) e = absurd (nobody_claims n none z g (sym e ∙ ap claimant h ∙ is))

  -- the claim of a thread that waits
  module _ (i : ℕ) (n : ThreadName) (a : Awaited) (st : Stack) (x : Claim) (one_state : (b : Awaited) (su : Stack) → waits i n b su → (b ≡ a) × (su ≡ st)) (waits_now : waits i n a st) (holds : claims x) (is : claimant x ≡ n) where
    -- others have other claims
    differs : (y : Claim) (o : ThreadName) → claimant y ≡ o → n ≢ o → y ≢ x
    differs y o e other same = other (sym is ∙ (sym (ap claimant same) ∙ e))

    own_only : (y : Claim) → claims y → y ≢ x → claimant y ≢ n
    own_only y h other e = other (m.once y x h holds (e ∙ sym is))

    pub own_found : (z : Stack) × (value_of equal_thread transit n ≡ Some (z, Runs)) × FitsClaim p (eqs i) i a st z x
    own_found = let r = m.stands i n a st waits_now in (r.0, r.1, subst (λ (y : Claim). FitsClaim p (eqs i) i a st r.0 y) (m.once r.2 x r.3 holds (r.4 ∙ sym is)) r.5)

    -- it has another claim, and maybe another stack
    module _ (x1 : Claim) (z1 : Stack) (now : Claim → Type 0) (transit2 : Threads) (is1 : claimant x1 ≡ n) (found : value_of equal_thread transit2 n ≡ Some (z1, Runs)) (others : (o : ThreadName) → n ≢ o → value_of equal_thread transit2 o ≡ value_of equal_thread transit o)
        (fits : FitsClaim p (eqs i) i a st z1 x1) (ground : IsGrounded p eqs waits x1) (from : (y : Claim) → now y → (claims y × (y ≢ x)) ⊎ (y ≡ x1)) (old : (y : Claim) → claims y → y ≢ x → now y) (there : now x1) where
      pub turns_away : AskingMatch p eqs waits now transit2
      turns_away = record {
        stands = λ j o b su h. stand j o b su h (threads_decide n o);
        known = λ o v h. knows o v h (threads_decide n o);
        alone = m.alone;
        grounded = λ y h. grounds y (from y h);
        once = λ y z h g e. single y z (from y h) (from z g) e;
      }
        where
          stand : (j : ℕ) (o : ThreadName) (b : Awaited) (su : Stack) → waits j o b su → (n ≡ o) ⊎ (n ≢ o) → (z : Stack) × (value_of equal_thread transit2 o ≡ Some (z, Runs)) × (y : Claim) × now y × (claimant y ≡ o) × FitsClaim p (eqs j) j b su z y
          stand j o b su h (inl e) =
              let own : waits j n b su = subst (λ (y : ThreadName). waits j y b su) (sym e) h in
              let place : j ≡ i = m.alone j i n b a su st own waits_now in
              let state = one_state b su (subst (λ (k : ℕ). waits k n b su) place own) in
              rw (← e, place, state.0, state.1) (z1, found, x1, there, is1, fits)
          stand j o b su h (inr other) =
              let r = m.stands j o b su h in
              (r.0, others o other ∙ r.1, r.2, old r.2 r.3 (differs r.2 o r.4 other), r.4, r.5)

          knows : (o : ThreadName) (v : ThreadState) → value_of equal_thread transit2 o ≡ Some v → (n ≡ o) ⊎ (n ≢ o) → (v.1 ≡ Runs) × (j : ℕ) × (b : Awaited) × (su : Stack) × waits j o b su
          knows o v h (inl e) =
              let same : ◌≡◌ {A = ThreadState} (z1, Runs) v = some_same (z1, Runs) v (sym found ∙ subst (λ (y : ThreadName). value_of equal_thread transit2 y ≡ Some v) (sym e) h) in
              (sym (ap (λ (u : ThreadState). u.1) same), i, a, st, subst (λ (y : ThreadName). waits i y a st) e waits_now)
          knows o v h (inr other) = m.known o v (sym (others o other) ∙ h)

          grounds : (y : Claim) → (claims y × (y ≢ x)) ⊎ (y ≡ x1) → IsGrounded p eqs waits y
          grounds y (inl h) = m.grounded y h.0
          grounds y (inr e) = subst (IsGrounded p eqs waits) (sym e) ground

          single : (y z : Claim) → (claims y × (y ≢ x)) ⊎ (y ≡ x1) → (claims z × (z ≢ x)) ⊎ (z ≡ x1) → claimant y ≡ claimant z → y ≡ z
          single y z (inl h) (inl g) e = m.once y z h.0 g.0 e
          single y z (inr h) (inr g) e = h ∙ sym g
          single y z (inl h) (inr g) e = absurd (own_only y h.0 h.1 (e ∙ ap claimant g ∙ is1))
          single y z (inr h) (inl g) e = absurd (own_only z g.0 g.1 (sym e ∙ ap claimant h ∙ is1))

    -- its claim is settled, and it stands at its site again
    module _ (less : Waiting) (now : Claim → Type 0) (transit2 : Threads) (others : (o : ThreadName) → n ≢ o → value_of equal_thread transit2 o ≡ value_of equal_thread transit o) (gone : value_of equal_thread transit2 n ≡ None)
        (from_wait : (j : ℕ) (o : ThreadName) (b : Awaited) (su : Stack) → less j o b su → (n ≢ o) × waits j o b su) (old_wait : (j : ℕ) (o : ThreadName) (b : Awaited) (su : Stack) → n ≢ o → waits j o b su → less j o b su)
        (from : (y : Claim) → now y → claims y × (y ≢ x)) (old : (y : Claim) → claims y → y ≢ x → now y) where
      pub comes_back : AskingMatch p eqs less now transit2
      comes_back = record {
        stands = λ j o b su h. (let q = from_wait j o b su h in stand j o b su q.0 (m.stands j o b su q.1));
        known = λ o v h. knows o v h (threads_decide n o);
        alone = λ j k o b d su sv h g. m.alone j k o b d su sv (from_wait j o b su h).1 (from_wait k o d sv g).1;
        grounded = λ y h. (let q = from y h in ground_more p eqs waits less y (λ j b su g. old_wait j (claimant y) b su (λ e. own_only y q.0 q.1 (sym e)) g) (m.grounded y q.0));
        once = λ y z h g e. m.once y z (from y h).0 (from z g).0 e;
      }
        where
          stand : (j : ℕ) (o : ThreadName) (b : Awaited) (su : Stack) → n ≢ o → (z : Stack) × (value_of equal_thread transit o ≡ Some (z, Runs)) × (y : Claim) × claims y × (claimant y ≡ o) × FitsClaim p (eqs j) j b su z y →
              (z : Stack) × (value_of equal_thread transit2 o ≡ Some (z, Runs)) × (y : Claim) × now y × (claimant y ≡ o) × FitsClaim p (eqs j) j b su z y
          stand j o b su other (z, at, y, h, e, f) = (z, others o other ∙ at, y, old y h (differs y o e other), e, f)

          knows : (o : ThreadName) (v : ThreadState) → value_of equal_thread transit2 o ≡ Some v → (n ≡ o) ⊎ (n ≢ o) → (v.1 ≡ Runs) × (j : ℕ) × (b : Awaited) × (su : Stack) × less j o b su
          knows o v h (inl e) =
              let none : value_of equal_thread transit2 o ≡ None = subst (λ (y : ThreadName). value_of equal_thread transit2 y ≡ None) e gone in
              let both : ◌≡◌ {A = Option ThreadState} None (Some v) = sym none ∙ h in absurd (cc)
          knows o v h (inr other) =
              let r = m.known o v (sym (others o other) ∙ h) in
              (r.0, r.1, r.2, r.3, old_wait r.1 o r.2 r.3 other r.4)
