-- A site learns an equation, and wakes who waited: of its own variable when it is bound, or of another's.
use Rattle.std.proofs.Common.{◌≡◌, ◌∙◌, sym, ap, refl, subst, ℕ, List, [], ◌∷◌, ◌⊎◌, inl, inr, Bool, true, false, Some, None}
use Rattle.std.specs.Prelude.{Option, pos, Contains, ◌≢◌}
use Rattle.tree_node.specs.declared.names.VarName.{VarName}
use Rattle.tree_node.specs.declared.names.CellName.{CellName}
use Rattle.tree_node.specs.declared.names.ThreadName.{ThreadName}
use Rattle.tree_node.specs.declared.names.CodeId.{CodeId}
use Rattle.tree_node.specs.declared.names.Name.{Name}
use Rattle.tree_node.specs.declared.node.Node.{Node}
use Rattle.tree_node.specs.declared.node.Node.TheVariants as node
use Rattle.tree_node.specs.declared.node.Term.{Term}
use Rattle.tree_node.specs.declared.node.Term.TheVariants as term
use Rattle.tree_node.specs.Assoc.{value_of}
use Rattle.tree_node.specs.Classes.{HasOneEach}
use Rattle.tree_node.specs.Each.{Each}
use Rattle.tree_node.specs.Names.{EachOfEquation}
use Rattle.tree_node.specs.Order.{IsLower}
use Rattle.tree_node.specs.State.{Stack, equal_thread}
use Rattle.tree_node.specs.Store.{Store, Equation, IsFree, IsSound, equal_var, node_of}
use Rattle.tree_node.proofs.ClassLemmas.{same_name_decides, Contains-cons_cases, Contains-head, Contains-tail}
use Rattle.kernel_syntax.specs.declared.stmt.Stmt.{Stmt}
use Rattle.site_message.specs.declared.message.Msg.{Msg}
use Rattle.site_message.specs.declared.message.Msg.TheVariants as msg
use Rattle.site_message.specs.declared.message.Sent.{Sent}
use Rattle.oz_model.specs.Answers.{IsPartOf, LinksGoDown}
use Rattle.oz_model.specs.Effect.{Effect}
use Rattle.oz_model.proofs.DownLemmas.{lower_binds}
use Rattle.oz_model.proofs.WithinLemmas.{more_is_within}
use Rattle.oz_model.proofs.KeepLemmas.{steps_stay, need_stays, binds_stay}
use Rattle.oz_model.proofs.WaitLemmas.{needed_none}
use Rattle.oz_model.proofs.TestLemmas.{open_waits_stay}
use Rattle.oz_model.proofs.NameLemmas.{Each-weaker}
use Rattle.bind_protocol.specs.Records.{Records, knowledge, IsKnown, sites_in}
use Rattle.site_model.specs.Site.{Threads}
use Rattle.thread_roster.specs.declared.mode.Awaited.TheVariants.{Cell}
use Rattle.thread_roster.specs.declared.mode.Mode.{Mode}
use Rattle.thread_roster.specs.declared.mode.Mode.TheVariants.{WaitsFor}
use Rattle.thread_roster.specs.Binds.{goes_on}
use Rattle.thread_roster.specs.Threads.{wake_where}
use Rattle.thread_roster.proofs.NodeLemmas.{left_none}
use Rattle.thread_roster.proofs.ThreadLemmas.{woken_by}
use Rattle.thread_roster.specs.declared.mode.Mode.TheVariants as site
use Rattle.world_model.specs.World.{Mail, IsOnItsWay, at_put}
use Rattle.world_model.specs.Placed.{IsPlaced}
use Rattle.world_model.specs.Names.{IsHere, IsHome, AreHome}
use Rattle.world_model.specs.Matches.{equations_in, EquationsMatch, RecordsMatch, AllRecordsMatch, ThreadsMatch, IsTold, AreTold, IsAddressed, AreAddressed, IsBound, HasAllowedBind, IsWaiting, IsNeeding, IsWaitingAny, IsOpenOn, NeedsFirst, IsAsked, IsExchange, IsAwaited, WaitersMatch}
use Rattle.world_model.proofs.PutLemmas.{two_all, at_all, at_here}
use Rattle.world_model.proofs.MailLemmas.{sent_to, Posts}
use Rattle.world_model.proofs.KeyLemmas.{woken_new, woken_old, wake_waits, wake_needs, wake_several, wake_other, wake_cell}
use Rattle.bind_protocol.specs.Learn.{HasLearned}

-- ---- stores

pub part_one : (s c : Store) → IsPartOf s c → HasOneEach c → HasOneEach s
part_one s c more one x t r h k = one x t r (more (x, t) h) (more (x, r) k)

pub part_down : (s c : Store) → IsPartOf s c → LinksGoDown c → LinksGoDown s
part_down s c more down x t h = down x t (more (x, t) h)

-- one more equation of a variable without one, which leads down
pub sound_more : (s : Store) (x : VarName) (t : Term) → IsSound s → HasOneEach s → LinksGoDown s → IsFree s x → IsLower t x → IsSound ((x, t) ∷ s)
sound_more s x (term.Var v) sound one down free low = let h = lower_binds s x (term.Var v) one down free low in (sound, h.1, inl h.0)
sound_more s x (term.Node n) sound one down free low = let h = lower_binds s x (term.Node n) one down free low in (sound, h.0)

pub head_or_tail : (x y : VarName) (t r : Term) (s : Store) → Contains ((x, t) ∷ s) (y, r) → Contains s (y, r) ⊎ ((y ≡ x) × (r ≡ t))
head_or_tail x y t r s h = go (Contains-cons_cases _ _ s h)
  where
    go : (◌≡◌ {A = Equation} (x, t) (y, r)) ⊎ Contains s (y, r) → Contains s (y, r) ⊎ ((y ≡ x) × (r ≡ t))
    go (inl e) = inr (sym (ap (λ (p : Equation). p.0) e), sym (ap (λ (p : Equation). p.1) e))
    go (inr g) = inl g

-- ---- what stays where more is known

-- a request that a site allows, where it is still free
pub wants_more : (p : List Stmt) (s c : Store) (st : Stack) (x : VarName) (t : Term) → IsSound c → HasOneEach c → LinksGoDown c → IsPartOf s c → IsFree c x → HasAllowedBind p s st x t → HasAllowedBind p c st x t
wants_more p s c st x t sound one down more free (a, b, need, allows, low) =
    let lower = lower_binds c x t one down free low in
    let kept = binds_stay p s c st a b x t sound (more_is_within s c more) need allows lower.0 lower.1 in
    (a, b, kept.0, kept.1, low)

-- what is free is of a class without a node
pub free_none : (c : Store) (x : VarName) → HasOneEach c → LinksGoDown c → IsFree c x → node_of c x ≡ None
free_none c x one down free = (lower_binds c x (term.Node (node.Int (pos 0))) one down free tt).0

-- a wait for the node of a class that has none still
pub needs_more : (p : List Stmt) (s c : Store) (st : Stack) (x : VarName) → IsSound c → IsPartOf s c → node_of c x ≡ None → NeedsFirst p s st x → NeedsFirst p c st x
needs_more p s c st x sound more none (z, need, same) =
    let kept = need_stays p s c st z x sound (more_is_within s c more) need same none in
    (z, kept.0, kept.1)

-- variables that are open in a comparison, and still free
pub open_more : (p : List Stmt) (s c : Store) (st : Stack) (xs : List VarName) → IsSound c → HasOneEach c → LinksGoDown c → IsPartOf s c → ((x : VarName) → Contains xs x → IsFree c x) → IsOpenOn p s st xs → IsOpenOn p c st xs
open_more p s c st xs sound one down more free (q, need, open_on) =
    let kept = open_waits_stay p s c st q xs sound (more_is_within s c more) one need open_on (λ x h. (free x h, free_none c x one down (free x h))) in
    (q, kept.0, kept.1)

exchange_more : (p : List Stmt) (s c : Store) (st : Stack) (d : CellName) → IsSound c → IsPartOf s c → IsExchange p s st d → IsExchange p c st d
exchange_more p s c st d sound more (new, told, need, is) =
    let kept = steps_stay p s c st [] sound (more_is_within s c more) need in
    (new, told, kept.0, sym (ap (λ (e : Effect). e.cell) (kept.1 [] None)) ∙ is)

-- ---- the same places

pub placed_alike : {K V : Type 0} (at at2 comes comes2 : ℕ → K → V → Type 0) (centre : K → Option V) →
    ((i : ℕ) (k : K) (v : V) → at i k v → at2 i k v) → ((i : ℕ) (k : K) (v : V) → at2 i k v → at i k v) →
    ((i : ℕ) (k : K) (v : V) → comes i k v → comes2 i k v) → ((i : ℕ) (k : K) (v : V) → comes2 i k v → comes i k v) →
    IsPlaced at comes centre → IsPlaced at2 comes2 centre
placed_alike {K} {V} at at2 comes comes2 centre a b c d p = record {
  up = λ i k v h. p.up i k v (b i k v h);
  flies = λ i k v h. p.flies i k v (d i k v h);
  down = λ k v h. go k v (p.down k v h);
  home = λ i j k v u h g. p.home i j k v u (b i k v h) (b j k u g);
  apart = λ i m k v u h g. p.apart i m k v u (b i k v h) (d m k u g);
  once = λ m o k v u h g. p.once m o k v u (d m k v h) (d o k u g);
  sole = λ m k l v u h g. p.sole m k l v u (d m k v h) (d m l u g);
}
  where
    go : (k : K) (v : V) → ((i : ℕ) × at i k v) ⊎ ((m : ℕ) × comes m k v) → ((i : ℕ) × at2 i k v) ⊎ ((m : ℕ) × comes2 m k v)
    go k v (inl h) = inl (h.0, a h.0 k v h.1)
    go k v (inr h) = inr (h.0, c h.0 k v h.1)

-- ---- the change

-- site j learns x = t: its records are b from then on, messages are sent, and the central equations go from c to d
pub record IsLearnt (eqs : ℕ → Store) (records : ℕ → Records) (mail more : Mail) (out : List Sent) (c d : Store) (j : ℕ) (b : Records) (x : VarName) (t : Term) : Type 0 where
  pub free : IsFree (eqs j) x
  pub knows : HasLearned (records j) b x (Some (Some t))
  pub one : HasOneEach d
  pub down : LinksGoDown d
  pub grows : IsPartOf c d
  pub has : Contains d (x, t)
  pub new : (y : VarName) (r : Term) → Contains d (y, r) → Contains c (y, r) ⊎ ((j ≡ x.site) × (y ≡ x) × (r ≡ t))
  pub kept : (y : VarName) (k : ℕ) → Contains (sites_in (records j) y) k → Contains (sites_in b y) k ⊎ ((r : Term) × (bundle : List Equation) × Contains out (sent_to k (msg.Binding y r bundle)))
  pub posts : Posts mail more out
  pub told : (to : ℕ) (m : Msg) → Contains out (sent_to to m) → (bundle : List Equation) × (m ≡ msg.Binding x t bundle) × Each (Contains d) bundle

abbrev learns : (ℕ → Store) → ℕ → VarName → Term → ℕ → Store
learns eqs j x t = at_put eqs j ((x, t) ∷ eqs j)

-- those that wait for x at site j, or need a node that its class has by that, go on
abbrev woken_at : Store → VarName → Term → Threads → Threads
woken_at s x t ts = wake_where (goes_on ((x, t) ∷ s) x) ts

module _ (p : List Stmt) (eqs : ℕ → Store) (records : ℕ → Records) (threads : ℕ → Threads) (mail more : Mail) (out : List Sent) (c d : Store) (j : ℕ) (b : Records) (x : VarName) (t : Term)
    (l : IsLearnt eqs records mail more out c d j b x t) where
  abbrev eqs' : ℕ → Store
  eqs' = learns eqs j x t

  abbrev records' : ℕ → Records
  records' = at_put records j b

  abbrev threads' : ℕ → Threads
  threads' = at_put threads j (woken_at (eqs j) x t (threads j))

  -- how a thread of site j stands then
  abbrev stand : Mode → Mode
  stand = woken_by (goes_on ((x, t) ∷ eqs j) x)

  grow : (i : ℕ) → IsPartOf (eqs i) (eqs' i)
  grow = at_all eqs j ((x, t) ∷ eqs j) (λ i (s : Store). IsPartOf (eqs i) s) (λ e h. Contains-tail _ _ (eqs j) h) (λ i other e h. h)

  eqs_at : (i : ℕ) (y : VarName) (r : Term) → Contains (eqs' i) (y, r) → Contains (eqs i) (y, r) ⊎ ((i ≡ j) × (y ≡ x) × (r ≡ t))
  eqs_at = at_all eqs j ((x, t) ∷ eqs j) (λ i (s : Store). (y : VarName) (r : Term) → Contains s (y, r) → Contains (eqs i) (y, r) ⊎ ((i ≡ j) × (y ≡ x) × (r ≡ t)))
      (λ y r h. go y r (head_or_tail x y t r (eqs j) h)) (λ i other y r h. inl h)
    where
      go : (y : VarName) (r : Term) → Contains (eqs j) (y, r) ⊎ ((y ≡ x) × (r ≡ t)) → Contains (eqs j) (y, r) ⊎ ((j ≡ j) × (y ≡ x) × (r ≡ t))
      go y r (inl h) = inl h
      go y r (inr e) = inr (refl, e.0, e.1)

  free_new : (i : ℕ) (y : VarName) → (i ≡ j → y ≢ x) → IsFree (eqs i) y → IsFree (eqs' i) y
  free_new i y other free r h = go (eqs_at i y r h)
    where
      go : Contains (eqs i) (y, r) ⊎ ((i ≡ j) × (y ≡ x) × (r ≡ t)) → ⊥
      go (inl k) = free r k
      go (inr e) = other e.0 e.1

  -- what the sites know
  know_more : (i : ℕ) (y : VarName) → IsKnown (records i) y → IsKnown (records' i) y
  know_more = at_all records j b (λ i (o : Records). (y : VarName) → IsKnown (records i) y → IsKnown o y)
      (λ y h. go y h (equal_var y x) refl) (λ i other y h. h)
    where
      go : (y : VarName) → IsKnown (records j) y → (q : Bool) → equal_var y x ≡ q → IsKnown b y
      go y h true q = let e : y ≡ x = (same_name_decides y x).0 q in subst (λ (z : VarName). IsKnown b z) (sym e) (rw l.knows.here refl)
      go y h false q =
          let other : y ≢ x = λ (e : y ≡ x). let yes : equal_var y x ≡ true = (same_name_decides y x).1 e in cc in
          rw (l.knows.others y other) h

  know_unbound : (i : ℕ) (y : VarName) → knowledge (records' i) y ≡ Some None → knowledge (records i) y ≡ Some None
  know_unbound = at_all records j b (λ i (o : Records). (y : VarName) → knowledge o y ≡ Some None → knowledge (records i) y ≡ Some None)
      (λ y h. go y h (equal_var y x) refl) (λ i other y h. h)
    where
      go : (y : VarName) → knowledge b y ≡ Some None → (q : Bool) → equal_var y x ≡ q → knowledge (records j) y ≡ Some None
      go y h true q =
          let e : y ≡ x = (same_name_decides y x).0 q in
          let known : knowledge b y ≡ Some (Some t) = rw e l.knows.here in
          let both = sym h ∙ known in cc
      go y h false q =
          let other : y ≢ x = λ (e : y ≡ x). let yes : equal_var y x ≡ true = (same_name_decides y x).1 e in cc in
          sym (l.knows.others y other) ∙ h

  here_more : (i : ℕ) (y : VarName) → IsHere (records i) y → IsHere (records' i) y
  here_more i y (inl h) = inl h
  here_more i y (inr h) = inr (know_more i y h)

  -- threads
  threads_old : (i : ℕ) (n : ThreadName) (st : Stack) (o : Mode) → value_of equal_thread (threads' i) n ≡ Some (st, o) → (m : Mode) × (value_of equal_thread (threads i) n ≡ Some (st, m)) × ((o ≡ m) ⊎ ((i ≡ j) × (stand m ≡ o)))
  threads_old = at_all threads j (woken_at (eqs j) x t (threads j)) (λ i (ts : Threads). (n : ThreadName) (st : Stack) (o : Mode) → value_of equal_thread ts n ≡ Some (st, o) → (m : Mode) × (value_of equal_thread (threads i) n ≡ Some (st, m)) × ((o ≡ m) ⊎ ((i ≡ j) × (stand m ≡ o))))
      (λ n st o h. let r = woken_old (goes_on ((x, t) ∷ eqs j) x) (threads j) n st o h in (r.0, r.1, inr (refl, r.2))) (λ i other n st o h. (o, h, inl refl))

  threads_new : (i : ℕ) (n : ThreadName) (st : Stack) (m : Mode) → value_of equal_thread (threads i) n ≡ Some (st, m) → (o : Mode) × (value_of equal_thread (threads' i) n ≡ Some (st, o))
  threads_new = at_all threads j (woken_at (eqs j) x t (threads j)) (λ i (ts : Threads). (n : ThreadName) (st : Stack) (m : Mode) → value_of equal_thread (threads i) n ≡ Some (st, m) → (o : Mode) × (value_of equal_thread ts n ≡ Some (st, o)))
      (λ n st m h. (stand m, woken_new (goes_on ((x, t) ∷ eqs j) x) (threads j) n st m h)) (λ i other n st m h. (m, h))

  waits_old : (i : ℕ) (n : ThreadName) (st : Stack) (y : VarName) → IsWaiting threads' i n st y → IsWaiting threads i n st y × (i ≡ j → y ≢ x)
  waits_old = at_all threads j (woken_at (eqs j) x t (threads j)) (λ i (ts : Threads). (n : ThreadName) (st : Stack) (y : VarName) → value_of equal_thread ts n ≡ Some (st, site.Waits y) → IsWaiting threads i n st y × (i ≡ j → y ≢ x))
      (λ n st y h. back n st y (woken_old (goes_on ((x, t) ∷ eqs j) x) (threads j) n st (site.Waits y) h)) (λ i other n st y h. (h, λ e. absurd (other e)))
    where
      back : (n : ThreadName) (st : Stack) (y : VarName) → (m : Mode) × (value_of equal_thread (threads j) n ≡ Some (st, m)) × (stand m ≡ site.Waits y) → IsWaiting threads j n st y × (j ≡ j → y ≢ x)
      back n st y (m, at, e) =
          let modes = wake_waits ((x, t) ∷ eqs j) x y m e in
          (subst (λ (o : Mode). value_of equal_thread (threads j) n ≡ Some (st, o)) modes.0 at, λ e. modes.1)

  -- who still needs the node of a class has none of it by what the site knows then
  needs_old : (i : ℕ) (n : ThreadName) (st : Stack) (y : VarName) → IsNeeding threads' i n st y → IsNeeding threads i n st y × (NeedsFirst p (eqs i) st y → node_of (eqs' i) y ≡ None)
  needs_old = two_all threads eqs j (woken_at (eqs j) x t (threads j)) ((x, t) ∷ eqs j) (λ i (ts : Threads) (s : Store). (n : ThreadName) (st : Stack) (y : VarName) → value_of equal_thread ts n ≡ Some (st, site.Needs y) → IsNeeding threads i n st y × (NeedsFirst p (eqs i) st y → node_of s y ≡ None))
      (λ n st y h. back n st y (woken_old (goes_on ((x, t) ∷ eqs j) x) (threads j) n st (site.Needs y) h)) (λ i other n st y h. (h, none i st y))
    where
      none : (i : ℕ) (st : Stack) (y : VarName) → NeedsFirst p (eqs i) st y → node_of (eqs i) y ≡ None
      none i st y (z, need, same) = needed_none p (eqs i) st z y need same

      back : (n : ThreadName) (st : Stack) (y : VarName) → (m : Mode) × (value_of equal_thread (threads j) n ≡ Some (st, m)) × (stand m ≡ site.Needs y) →
          IsNeeding threads j n st y × (NeedsFirst p (eqs j) st y → node_of ((x, t) ∷ eqs j) y ≡ None)
      back n st y (m, at, e) =
          let modes = wake_needs ((x, t) ∷ eqs j) x y m e in
          (subst (λ (o : Mode). value_of equal_thread (threads j) n ≡ Some (st, o)) modes.0 at, λ needs. left_none (eqs j) x y t (none j st y needs) modes.1)

  several_old : (i : ℕ) (n : ThreadName) (st : Stack) (ys : List VarName) → IsWaitingAny threads' i n st ys → IsWaitingAny threads i n st ys × (i ≡ j → (y : VarName) → Contains ys y → y ≢ x)
  several_old = at_all threads j (woken_at (eqs j) x t (threads j)) (λ i (ts : Threads). (n : ThreadName) (st : Stack) (ys : List VarName) → value_of equal_thread ts n ≡ Some (st, site.WaitsAny ys) → IsWaitingAny threads i n st ys × (i ≡ j → (y : VarName) → Contains ys y → y ≢ x))
      (λ n st ys h. back n st ys (woken_old (goes_on ((x, t) ∷ eqs j) x) (threads j) n st (site.WaitsAny ys) h)) (λ i other n st ys h. (h, λ e. absurd (other e)))
    where
      back : (n : ThreadName) (st : Stack) (ys : List VarName) → (m : Mode) × (value_of equal_thread (threads j) n ≡ Some (st, m)) × (stand m ≡ site.WaitsAny ys) → IsWaitingAny threads j n st ys × (j ≡ j → (y : VarName) → Contains ys y → y ≢ x)
      back n st ys (m, at, e) =
          let modes = wake_several ((x, t) ∷ eqs j) x ys m e in
          (subst (λ (o : Mode). value_of equal_thread (threads j) n ≡ Some (st, o)) modes.0 at, λ e. modes.1)

  waits_new : (i : ℕ) (n : ThreadName) (st : Stack) (y : VarName) → y ≢ x → IsWaiting threads i n st y → IsWaiting threads' i n st y
  waits_new i n st y other = at_all threads j (woken_at (eqs j) x t (threads j)) (λ i (ts : Threads). IsWaiting threads i n st y → value_of equal_thread ts n ≡ Some (st, site.Waits y))
      (λ h. subst (λ (o : Mode). value_of equal_thread (woken_at (eqs j) x t (threads j)) n ≡ Some (st, o)) (wake_other ((x, t) ∷ eqs j) x y other) (woken_new (goes_on ((x, t) ∷ eqs j) x) (threads j) n st (site.Waits y) h)) (λ i other h. h) i

  cell_old : (i : ℕ) (n : ThreadName) (st : Stack) (e : CellName) → value_of equal_thread (threads' i) n ≡ Some (st, WaitsFor (Cell e)) → value_of equal_thread (threads i) n ≡ Some (st, WaitsFor (Cell e))
  cell_old = at_all threads j (woken_at (eqs j) x t (threads j)) (λ i (ts : Threads). (n : ThreadName) (st : Stack) (e : CellName) → value_of equal_thread ts n ≡ Some (st, WaitsFor (Cell e)) → value_of equal_thread (threads i) n ≡ Some (st, WaitsFor (Cell e)))
      (λ n st e h. back n st e (woken_old (goes_on ((x, t) ∷ eqs j) x) (threads j) n st (WaitsFor (Cell e)) h)) (λ i other n st e h. h)
    where
      back : (n : ThreadName) (st : Stack) (e : CellName) → (m : Mode) × (value_of equal_thread (threads j) n ≡ Some (st, m)) × (stand m ≡ WaitsFor (Cell e)) → value_of equal_thread (threads j) n ≡ Some (st, WaitsFor (Cell e))
      back n st e (m, at, q) = subst (λ (o : Mode). value_of equal_thread (threads j) n ≡ Some (st, o)) (wake_cell ((x, t) ∷ eqs j) x (Cell e) m q) at

  -- messages
  only_bindings : (to : ℕ) (m : Msg) → ((bundle : List Equation) → m ≢ msg.Binding x t bundle) → Contains out (sent_to to m) → ⊥
  only_bindings to m other h = let r = l.told to m h in other r.0 r.1

  -- ---- the parts

  pub learnt_knowledge : EquationsMatch eqs mail c → EquationsMatch eqs' more d
  learnt_knowledge k = record {
    one = l.one;
    down = l.down;
    owned = λ y r h. own y r (l.new y r h);
    known = λ i e h. now i e.0 e.1 (eqs_at i e.0 e.1 h);
    told = λ i to m h. says i to m (l.posts.from i to m h);
  }
    where
      own : (y : VarName) (r : Term) → Contains c (y, r) ⊎ ((j ≡ x.site) × (y ≡ x) × (r ≡ t)) → Contains (eqs' y.site) (y, r)
      own y r (inl h) = grow y.site (y, r) (k.owned y r h)
      own y r (inr (at, same, is)) =
          rw (same, is) (subst (λ (i : ℕ). Contains (eqs' i) (x, t)) at
          (subst (λ (s : Store). Contains s (x, t)) (sym (at_here eqs j ((x, t) ∷ eqs j))) (Contains-head _ (eqs j))))

      now : (i : ℕ) (y : VarName) (r : Term) → Contains (eqs i) (y, r) ⊎ ((i ≡ j) × (y ≡ x) × (r ≡ t)) → Contains d (y, r)
      now i y r (inl h) = l.grows (y, r) (k.known i (y, r) h)
      now i y r (inr (at, same, is)) = rw (same, is) l.has

      says : (i to : ℕ) (m : Msg) → IsOnItsWay mail i to m ⊎ Contains out (sent_to to m) → Each (Contains d) (equations_in m)
      says i to m (inl h) = Each-weaker (Contains c) (Contains d) l.grows (equations_in m) (k.told i to m h)
      says i to m (inr h) =
          let r = l.told to m h in
          subst (λ (o : Msg). Each (Contains d) (equations_in o)) (sym r.1) (l.has, r.2)

  learnt_part : EquationsMatch eqs mail c → (i : ℕ) → HasOneEach (eqs' i) × LinksGoDown (eqs' i)
  learnt_part k i = let more = (learnt_knowledge k).known i in (part_one (eqs' i) d more l.one, part_down (eqs' i) d more l.down)

  pub learnt_kept : EquationsMatch eqs mail c → AllRecordsMatch records eqs → AllRecordsMatch records' eqs'
  learnt_kept k kept = two_all records eqs j b ((x, t) ∷ eqs j) RecordsMatch here (λ i other. kept i)
    where
      old : RecordsMatch j (records j) (eqs j)
      old = kept j

      bound : (y : VarName) (r : Term) → (q : Bool) → equal_var y x ≡ q → knowledge b y ≡ Some (Some r) → Contains ((x, t) ∷ eqs j) (y, r)
      bound y r true q h =
          let e : y ≡ x = (same_name_decides y x).0 q in
          let known : knowledge b y ≡ Some (Some t) = rw e l.knows.here in
          let both : Some (Some r) ≡ Some (Some t) = sym h ∙ known in
          let same : r ≡ t = cc in
          rw (e, same) (Contains-head _ (eqs j))
      bound y r false q h =
          let other : y ≢ x = λ (e : y ≡ x). let yes : equal_var y x ≡ true = (same_name_decides y x).1 e in cc in
          Contains-tail _ _ (eqs j) (old.bound y r (sym (l.knows.others y other) ∙ h))

      held : (y : VarName) (r : Term) → Contains (eqs j) (y, r) ⊎ ((y ≡ x) × (r ≡ t)) → knowledge b y ≡ Some (Some r)
      held y r (inr e) = rw (e.0, e.1) l.knows.here
      held y r (inl h) =
          let other : y ≢ x = λ (e : y ≡ x). l.free r (subst (λ (z : VarName). Contains (eqs j) (z, r)) e h) in
          l.knows.others y other ∙ old.held y r h

      here : RecordsMatch j b ((x, t) ∷ eqs j)
      here = record {
        site = l.knows.site ∙ old.site;
        bound = λ y r h. bound y r (equal_var y x) refl h;
        held = λ y r h. held y r (head_or_tail x y t r (eqs j) h);
        sound = sound_more (eqs j) x t old.sound (part_one (eqs j) d sees l.one) (part_down (eqs j) d sees l.down) l.free (l.down x t l.has);
      }
        where
          sees : IsPartOf (eqs j) d
          sees e h = l.grows e (k.known j e h)

  no_spawn : (i to : ℕ) (n : ThreadName) (code : CodeId) (vars : List VarName) (bundle : List Equation) → IsOnItsWay more i to (msg.Spawn n code vars bundle) → IsOnItsWay mail i to (msg.Spawn n code vars bundle)
  no_spawn i to n code vars bundle h = go (l.posts.from i to _ h)
    where
      go : IsOnItsWay mail i to (msg.Spawn n code vars bundle) ⊎ Contains out (sent_to to (msg.Spawn n code vars bundle)) → IsOnItsWay mail i to (msg.Spawn n code vars bundle)
      go (inl q) = q
      go (inr q) = absurd (only_bindings to _ (λ bs e. cc) q)

  pub learnt_placed : (ts : List (ThreadName × Stack)) → ThreadsMatch p threads mail ts → ThreadsMatch p threads' more ts
  learnt_placed ts k = placed_alike _ _ _ _ (value_of equal_thread ts)
      (λ i n st h. let r = threads_new i n st h.0 h.1 in (r.0, r.1)) (λ i n st h. let r = threads_old i n st h.0 h.1 in (r.0, r.1))
      (λ i n st h. (h.0, h.1, h.2, h.3, l.posts.old i h.0 _ h.4, h.5)) (λ i n st h. (h.0, h.1, h.2, h.3, no_spawn i h.0 n h.1 h.2 h.3 h.4, h.5)) k

  pub learnt_told : AreTold records mail → AreTold records' more
  learnt_told k i y unbound elsewhere = go (k i y (know_unbound i y unbound) elsewhere)
    where
      listed : Contains (sites_in (records y.site) y) i → IsTold records' more i y
      listed h = tell (at_all records j b (λ m (o : Records). Contains (sites_in (records m) y) i → Contains (sites_in o y) i ⊎ ((r : Term) × (bundle : List Equation) × Contains out (sent_to i (msg.Binding y r bundle))))
          (λ h. l.kept y i h) (λ m other h. inl h) y.site h)
        where
          tell : Contains (sites_in (records' y.site) y) i ⊎ ((r : Term) × (bundle : List Equation) × Contains out (sent_to i (msg.Binding y r bundle))) → IsTold records' more i y
          tell (inl q) = inl q
          tell (inr (r, bundle, q)) = let m = l.posts.new i _ q in inr (inr (m.0, r, bundle, m.1))

      go : IsTold records mail i y → IsTold records' more i y
      go (inl h) = listed h
      go (inr (inl h)) = inr (inl (h.0, l.posts.old h.0 _ _ h.1))
      go (inr (inr h)) = inr (inr (h.0, h.1, h.2, l.posts.old h.0 _ _ h.3))

  pub learnt_addressed : AreAddressed records mail → AreAddressed records' more
  learnt_addressed k i to m h = go (l.posts.from i to m h)
    where
      still : (m : Msg) → IsAddressed records to m → IsAddressed records' to m
      still (msg.Register y o) q = (q.0, here_more y.site y q.1)
      still (msg.BindReq y n r bundle) q = (q.0, here_more y.site y q.1, q.2)
      still (msg.Spawn n code vars bundle) q = tt
      still (msg.Binding y r bundle) q = tt
      still (msg.Get e o) q = tt
      still (msg.Forward e o) q = tt
      still (msg.Put e o bundle) q = tt
      still (msg.PortSend q n o) z = tt
      still (msg.PortEnd n old new bundle) z = tt
      still (msg.CellMake e v bundle) z = tt
      still (msg.CellAsk e n o v bundle) z = tt
      still (msg.CellOld n v bundle) z = tt

      go : IsOnItsWay mail i to m ⊎ Contains out (sent_to to m) → IsAddressed records' to m
      go (inl q) = still m (k i to m q)
      go (inr q) = let r = l.told to m q in subst (λ (o : Msg). IsAddressed records' to o) (sym r.1) tt

  pub learnt_waiting : EquationsMatch eqs mail c → AllRecordsMatch records' eqs' → WaitersMatch p eqs records threads mail c → WaitersMatch p eqs' records' threads' more d
  learnt_waiting k kept w = record {
    asks = λ i to y r n bundle h. asked i to y r n bundle (l.posts.from i to _ h);
    waits = λ i n st y h. let old = waits_old i n st y h in waiting i n y old.1 (w.waits i n st y old.0);
    needs = λ i n st y h. let old = needs_old i n st y h in needing i st y old.1 (w.needs i n st y old.0);
    compares = λ i n st ys h. let old = several_old i n st ys h in open_vars i n st ys old.1 (w.compares i n st ys old.0);
    exchanges = λ i n st e h. exchange_more p (eqs i) (eqs' i) st e (kept i).sound (grow i) (w.exchanges i n st e (cell_old i n st e h));
  }
    where
      grown : (y : VarName) → IsBound c y → IsBound d y
      grown y (r, h) = (r, l.grows (y, r) h)

      decide : (y : VarName) (r : Term) (n : ThreadName) (q : Bool) → equal_var y x ≡ q → (i : ℕ) × (st : Stack) × IsWaiting threads i n st y × HasAllowedBind p (eqs i) st y r → IsAwaited p eqs' threads' d y r n
      decide y r n true q h = inl (subst (λ (z : VarName). IsBound d z) (sym ((same_name_decides y x).0 q)) (t, l.has))
      decide y r n false q (i, st, at, wants) =
          let other : y ≢ x = λ (e : y ≡ x). let yes : equal_var y x ≡ true = (same_name_decides y x).1 e in cc in
          let free : IsFree (eqs' i) y = free_new i y (λ e. other) (w.waits i n st y at).0 in
          inr (i, st, waits_new i n st y other at, wants_more p (eqs i) (eqs' i) st y r (kept i).sound (learnt_part k i).0 (learnt_part k i).1 (grow i) free wants)

      asked : (i to : ℕ) (y : VarName) (r : Term) (n : ThreadName) (bundle : List Equation) → IsOnItsWay mail i to (msg.BindReq y n r bundle) ⊎ Contains out (sent_to to (msg.BindReq y n r bundle)) → IsAwaited p eqs' threads' d y r n
      asked i to y r n bundle (inl h) = old (w.asks i to y r n bundle h)
        where
          old : IsAwaited p eqs threads c y r n → IsAwaited p eqs' threads' d y r n
          old (inl q) = inl (grown y q)
          old (inr q) = decide y r n (equal_var y x) refl q
      asked i to y r n bundle (inr h) = absurd (only_bindings to _ (λ bs e. cc) h)

      waiting : (i : ℕ) (n : ThreadName) (y : VarName) → (i ≡ j → y ≢ x) → IsFree (eqs i) y × IsHere (records i) y × IsAsked mail c n y → IsFree (eqs' i) y × IsHere (records' i) y × IsAsked more d n y
      waiting i n y other (free, here, why) = (free_new i y other free, here_more i y here, go why)
        where
          go : IsAsked mail c n y → IsAsked more d n y
          go (inl h) = inl (h.0, h.1, h.2, l.posts.old h.0 _ _ h.3)
          go (inr q) = inr (grown y q)

      needing : (i : ℕ) (st : Stack) (y : VarName) → (NeedsFirst p (eqs i) st y → node_of (eqs' i) y ≡ None) → (i ≢ 0) × NeedsFirst p (eqs i) st y → (i ≢ 0) × NeedsFirst p (eqs' i) st y
      needing i st y none (real, needs) = (real, needs_more p (eqs i) (eqs' i) st y (kept i).sound (grow i) (none needs) needs)

      open_vars : (i : ℕ) (n : ThreadName) (st : Stack) (ys : List VarName) → (i ≡ j → (y : VarName) → Contains ys y → y ≢ x) → IsOpenOn p (eqs i) st ys × ((y : VarName) → Contains ys y → IsFree (eqs i) y × IsHere (records i) y) →
          IsOpenOn p (eqs' i) st ys × ((y : VarName) → Contains ys y → IsFree (eqs' i) y × IsHere (records' i) y)
      open_vars i n st ys other (open_on, each) =
          (open_more p (eqs i) (eqs' i) st ys (kept i).sound (learnt_part k i).0 (learnt_part k i).1 (grow i) (λ y h. free_now y h) open_on, λ y h. (free_now y h, here_more i y (each y h).1))
        where
          free_now : (y : VarName) → Contains ys y → IsFree (eqs' i) y
          free_now y h = free_new i y (λ e. other e y h) (each y h).0

  pub learnt_homes : (here : ℕ → Name → Type 0) → EachOfEquation (here j) (x, t) → AreHome here eqs threads → AreHome here eqs' threads'
  learnt_homes here is k = two_all eqs threads j ((x, t) ∷ eqs j) (woken_at (eqs j) x t (threads j)) (λ i (s : Store) (ts : Threads). IsHome (here i) s ts) home (λ i other. k i)
    where
      home : IsHome (here j) ((x, t) ∷ eqs j) (woken_at (eqs j) x t (threads j))
      home = record {
        equations = (is, (k j).equations);
        stacks = λ n v h. let r = woken_old (goes_on ((x, t) ∷ eqs j) x) (threads j) n v.0 v.1 h in (k j).stacks n (v.0, r.0) r.1;
      }
