-- A thread for which an answer comes asks for it, and those of a home that asked for a cell early exchange it next, where the world is joined
-- with the machine.
use Rattle.std.proofs.Common.{◌≡◌, ◌≢◌, ◌∙◌, sym, ap, refl, subst, ℕ, List, [], ◌∷◌, Bool, true, false, cond, inl, inr, ◌⊎◌, Some}
use Rattle.std.specs.Prelude.{Option, Contains, ◌==◌}
use Rattle.tree_node.specs.declared.names.VarName.{VarName}
use Rattle.tree_node.specs.declared.names.CellName.{CellName}
use Rattle.tree_node.specs.declared.names.PortName.{PortName}
use Rattle.tree_node.specs.declared.names.ThreadName.{ThreadName}
use Rattle.tree_node.specs.declared.pick.Pick.{Pick}
use Rattle.tree_node.specs.Assoc.{value_of}
use Rattle.tree_node.specs.Each.{Each, AreDistinct}
use Rattle.tree_node.specs.State.{Stack, equal_thread}
use Rattle.tree_node.specs.Store.{Equation}
use Rattle.tree_node.proofs.ClassLemmas.{Contains-cons_cases, Contains-head, Contains-tail}
use Rattle.kernel_syntax.specs.declared.stmt.Stmt.{Stmt}
use Rattle.thread_roster.specs.declared.mode.Awaited.{Awaited}
use Rattle.thread_roster.specs.declared.mode.Awaited.TheVariants.{Cell}
use Rattle.thread_roster.specs.declared.mode.Mode.{Mode}
use Rattle.thread_roster.specs.declared.mode.Mode.TheVariants.{Runs, WaitsFor}
use Rattle.site_model.specs.Requests.{Answer, NewEnd, OldContent}
use Rattle.site_model.specs.Site.{ThreadState, EarlyRequest, thread_state, home_record}
use Rattle.world_model.specs.Claims.{Asking, EndOf, ContentOf, Asks, IsAnswerTo, answer, Claim, Answered, Listed, IsClaim, FitsClaim, IsAsking, claimant, keeper_of}
use Rattle.world_model.specs.Keepers.{homes, early_at}
use Rattle.world_model.specs.World.{World, IsOnItsWay, eqs, threads}
use Rattle.world_model.proofs.MailLemmas.{nothing}
use Rattle.world_model.proofs.PutLemmas.{nat_decides}
use Rattle.world_answers.specs.Joined.{Joined}
use Rattle.world_messages.specs.Fitting.{IsSending, IsExchanging, AreTaking, own_threads}

-- ---- the threads of a site among those that asked

own_apart : (i : ℕ) (r : EarlyRequest) (rs : List EarlyRequest) → Each (λ (b : EarlyRequest). r ≢ b) rs → ((b : EarlyRequest) → Contains rs b → r.thread ≡ b.thread → r ≡ b) → Each (λ (n : ThreadName). r.thread ≢ n) (own_threads i rs)
own_apart i r [] h f = tt
own_apart i r (b ∷ rs) h f = go (b.asking == i) (own_apart i r rs h.1 (λ a at. f a (Contains-tail b a rs at)))
  where
    go : (x : Bool) → Each (λ (n : ThreadName). r.thread ≢ n) (own_threads i rs) → Each (λ (n : ThreadName). r.thread ≢ n) (cond x (b.thread ∷ own_threads i rs) (own_threads i rs))
    go true ih = (λ e. h.0 (f b (Contains-head b rs) e), ih)
    go false ih = ih

-- requests that differ are of threads that differ, where a thread has one
own_distinct : (i : ℕ) (rs : List EarlyRequest) → AreDistinct rs → ((a b : EarlyRequest) → Contains rs a → Contains rs b → a.thread ≡ b.thread → a ≡ b) → AreDistinct (own_threads i rs)
own_distinct i [] h f = tt
own_distinct i (r ∷ rs) h f = go (r.asking == i) (own_distinct i rs h.1 (λ a b p q. f a b (Contains-tail r a rs p) (Contains-tail r b rs q)))
  where
    go : (x : Bool) → AreDistinct (own_threads i rs) → AreDistinct (cond x (r.thread ∷ own_threads i rs) (own_threads i rs))
    go true ih = (own_apart i r rs h.0 (λ b at e. f r b (Contains-head r rs) (Contains-tail r b rs at) e), ih)
    go false ih = ih

own_in : (i : ℕ) (rs : List EarlyRequest) (n : ThreadName) → Contains (own_threads i rs) n → (r : EarlyRequest) × Contains rs r × (r.asking ≡ i) × (r.thread ≡ n)
own_in i [] n at = absurd (nothing n at)
own_in i (r ∷ rs) n at = go (r.asking == i) refl at (λ k. later (own_in i rs n k))
  where
    later : (b : EarlyRequest) × Contains rs b × (b.asking ≡ i) × (b.thread ≡ n) → (b : EarlyRequest) × Contains (r ∷ rs) b × (b.asking ≡ i) × (b.thread ≡ n)
    later (b, k, own, is) = (b, Contains-tail r b rs k, own, is)

    by : r.asking ≡ i → (r.thread ≡ n) ⊎ Contains (own_threads i rs) n → (Contains (own_threads i rs) n → (b : EarlyRequest) × Contains (r ∷ rs) b × (b.asking ≡ i) × (b.thread ≡ n)) → (b : EarlyRequest) × Contains (r ∷ rs) b × (b.asking ≡ i) × (b.thread ≡ n)
    by own (inl e) ih = (r, Contains-head r rs, own, e)
    by own (inr k) ih = ih k

    go : (x : Bool) → (r.asking == i) ≡ x → Contains (cond x (r.thread ∷ own_threads i rs) (own_threads i rs)) n → (Contains (own_threads i rs) n → (b : EarlyRequest) × Contains (r ∷ rs) b × (b.asking ≡ i) × (b.thread ≡ n)) → (b : EarlyRequest) × Contains (r ∷ rs) b × (b.asking ≡ i) × (b.thread ≡ n)
    go true q k ih = by ((nat_decides r.asking i).0 q) (Contains-cons_cases r.thread n (own_threads i rs) k) ih
    go false q k ih = ih k

-- ---- who waits

module _ (p : List Stmt) (w : World) (ks : List Pick) (j : Joined p w ks) where
  same_stack : (i : ℕ) (n : ThreadName) (a : Awaited) (st su : Stack) (m : Mode) → IsAsking (threads w.sites) i n a st → thread_state (w.sites i) n ≡ Some (su, m) → st ≡ su
  same_stack i n a st su m waits at =
      let both : ◌≡◌ {A = Option ThreadState} (Some (st, WaitsFor a)) (Some (su, m)) = sym waits.0 ∙ at in
      let pair : ◌≡◌ {A = ThreadState} (st, WaitsFor a) (su, m) = cc in ap (λ (x : ThreadState). x.0) pair

  -- the thread for which an answer comes asks for such a thing
  asks_answer : (k i : ℕ) (n : ThreadName) (x : Answer) (bundle : List Equation) → IsOnItsWay w.mail k i (answer n x bundle) → (su : Stack) (m : Mode) → thread_state (w.sites i) n ≡ Some (su, m) → (b : Asking) × Asks p (eqs w.sites i) su b × IsAnswerTo b x
  asks_answer k i n x bundle way su m at = (b.1, subst (λ (z : Stack). Asks p (eqs w.sites i) z b.1) (same_stack i n ground.0 ground.1 su m ground.2 at) b.3, b.4)
    where
      claim : IsClaim w.mail (early_at (homes w.sites)) (Answered k i n x)
      claim = (bundle, way)

      ground : (a : Awaited) × (st : Stack) × IsAsking (threads w.sites) i n a st × (keeper_of a ≢ i)
      ground = j.answers.asking.grounded (Answered k i n x) claim

      found : (z : Stack) × (value_of equal_thread j.transit n ≡ Some (z, Runs)) × (y : Claim) × IsClaim w.mail (early_at (homes w.sites)) y × (claimant y ≡ n) × FitsClaim p (eqs w.sites i) i ground.0 ground.1 z y
      found = j.answers.asking.stands i n ground.0 ground.1 ground.2

      b : FitsClaim p (eqs w.sites i) i ground.0 ground.1 found.0 (Answered k i n x)
      b = subst (λ (y : Claim). FitsClaim p (eqs w.sites i) i ground.0 ground.1 found.0 y) (j.answers.asking.once found.2 (Answered k i n x) found.3 claim found.4) found.5

  -- a request that is kept is what its thread asks for
  asks_early : (c : CellName) (r : EarlyRequest) → Contains (early_at (homes w.sites) c) r → (su : Stack) (m : Mode) → thread_state (w.sites r.asking) r.thread ≡ Some (su, m) → Asks p (eqs w.sites r.asking) su (ContentOf c r.new)
  asks_early c r listed su m at =
      let ground = j.answers.asking.grounded (Listed c r) listed in
      subst (λ (z : Stack). Asks p (eqs w.sites r.asking) z (ContentOf c r.new)) (same_stack r.asking r.thread (Cell c) ground.0 su m ground.1 at) ground.2

  -- a thread keeps one
  early_same : (c : CellName) (a b : EarlyRequest) → Contains (early_at (homes w.sites) c) a → Contains (early_at (homes w.sites) c) b → a.thread ≡ b.thread → a ≡ b
  early_same c a b p q e = request (j.answers.asking.once (Listed c a) (Listed c b) p q e)
    where
      request : Listed c a ≡ Listed c b → a ≡ b
      request h = cc

  -- ---- what the fitting of messages wants

  pub sends_next : (k i : ℕ) (n : ThreadName) (old new : VarName) (bundle : List Equation) → IsOnItsWay w.mail k i (answer n (NewEnd old new) bundle) → IsSending p n (w.sites i)
  sends_next k i n old new bundle way su m at = go (asks_answer k i n (NewEnd old new) bundle way su m at)
    where
      go : (b : Asking) × Asks p (eqs w.sites i) su b × IsAnswerTo b (NewEnd old new) → (q : PortName) × Asks p (eqs w.sites i) su (EndOf q)
      go (EndOf q, asks, fits) = (q, asks)
      go (ContentOf c x, asks, fits) = absurd fits

  pub exchanges_next : (k i : ℕ) (n : ThreadName) (v : VarName) (bundle : List Equation) → IsOnItsWay w.mail k i (answer n (OldContent v) bundle) → IsExchanging p n (w.sites i)
  exchanges_next k i n v bundle way su m at = go (asks_answer k i n (OldContent v) bundle way su m at)
    where
      go : (b : Asking) × Asks p (eqs w.sites i) su b × IsAnswerTo b (OldContent v) → (c : CellName) × (new : VarName) × Asks p (eqs w.sites i) su (ContentOf c new)
      go (EndOf q, asks, fits) = absurd fits
      go (ContentOf c x, asks, fits) = (c, x, asks)

  -- at the home of a cell of which it hears
  pub takes_next : (i : ℕ) (c : CellName) → c.at ≡ i → AreTaking p (own_threads i (home_record (w.sites i) c).early) (w.sites i)
  takes_next i c home = (own_distinct i (home_record (w.sites i) c).early distinct (λ a b at bt e. early_same c a b (there a at) (there b bt) e), λ n at. takes n (own_in i (home_record (w.sites i) c).early n at))
    where
      distinct : AreDistinct (home_record (w.sites i) c).early
      distinct = subst (λ (l : ℕ). AreDistinct (home_record (w.sites l) c).early) home (j.answers.contents.lists c)

      there : (r : EarlyRequest) → Contains (home_record (w.sites i) c).early r → Contains (early_at (homes w.sites) c) r
      there r at = subst (λ (l : ℕ). Contains (home_record (w.sites l) c).early r) (sym home) at

      takes : (n : ThreadName) → (r : EarlyRequest) × Contains (home_record (w.sites i) c).early r × (r.asking ≡ i) × (r.thread ≡ n) → IsExchanging p n (w.sites i)
      takes n (r, at, own, is) su m stands = (
        c,
        r.new,
        subst (λ (l : ℕ). Asks p (eqs w.sites l) su (ContentOf c r.new)) own
            (asks_early c r (there r at) su m (subst (λ (l : ℕ). thread_state (w.sites l) r.thread ≡ Some (su, m)) (sym own) (subst (λ (z : ThreadName). thread_state (w.sites i) z ≡ Some (su, m)) (sym is) stands))),
      )
