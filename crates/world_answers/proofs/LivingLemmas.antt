-- How many threads live: those of the sites, whatever they wait for, and those that travel.
use Rattle.std.proofs.Common.{arith, ◌≡◌, ◌∙◌, sym, ap, refl, subst, ℕ, zero, suc, ◌+◌, ◌≤◌, List, [], ◌∷◌, ◌⊎◌, inl, inr, Bool, true, false, cond, Some, None, length}
use Rattle.std.specs.Prelude.{Option, ◌≢◌, ◌==◌, unwrap_or, if◌then◌else◌}
use Rattle.tree_node.specs.declared.names.ThreadName.{ThreadName}
use Rattle.tree_node.specs.Assoc.{value_of}
use Rattle.tree_node.specs.Each.{AreDistinct}
use Rattle.tree_node.specs.State.{Stack, State, equal_thread}
use Rattle.tree_node.proofs.NameLemmas.{same_thread_decides}
use Rattle.kernel_syntax.specs.declared.stmt.Stmt.{Stmt}
use Rattle.thread_roster.specs.declared.mode.Awaited.{Awaited}
use Rattle.thread_roster.specs.declared.mode.Mode.{Mode}
use Rattle.thread_roster.specs.declared.mode.Mode.TheVariants as mode
use Rattle.site_model.specs.Site.{Threads, ThreadState}
use Rattle.world_model.specs.Claims.{IsAsking}
use Rattle.world_model.specs.Keepers.{AnswersMatch}
use Rattle.world_model.specs.Matches.{IsThreadAt, IsInSpawn, ThreadsMatch, living, spawn_count}
use Rattle.world_model.specs.Schedule.{sum_to}
use Rattle.world_model.specs.Shown.{is_asking, shown}
use Rattle.world_model.specs.World.{World, Sites, threads}
use Rattle.world_model.proofs.PutLemmas.{nat_decides}
use Rattle.world_variables.specs.Sums.{names}
use Rattle.world_variables.proofs.LivingLemmas.{numbers, all_living}
use Rattle.world_answers.proofs.ShownLemmas.{stands_from, stands_to, shown_threads_real}
use Rattle.world_answers.proofs.StandLemmas.{asks_for}

-- what the machine has of a thread of a site
abbrev pub told_state : Threads → ThreadName → ThreadState → ThreadState
told_state t n v = if is_asking v.1 then unwrap_or (value_of equal_thread t n) v else v

abbrev pub told_threads : Threads → Threads → Threads
told_threads t [] = []
told_threads t (x ∷ ts) = (x.0, told_state t x.0 x.1) ∷ told_threads t ts

told_names : (t ts : Threads) → names (told_threads t ts) ≡ names ts
told_names t [] = refl
told_names t (x ∷ ts) = ap (λ (ns : List ThreadName). x.0 ∷ ns) (told_names t ts)

told_length : (t ts : Threads) → length (told_threads t ts) ≡ length ts
told_length t [] = refl
told_length t (x ∷ ts) = ap suc (told_length t ts)

abbrev pub told_option : Threads → ThreadName → Option ThreadState → Option ThreadState
told_option t n None = None
told_option t n (Some v) = Some (told_state t n v)

pub told_found : (t ts : Threads) (n : ThreadName) → value_of equal_thread (told_threads t ts) n ≡ told_option t n (value_of equal_thread ts n)
told_found t [] n = refl
told_found t ((m, v) ∷ ts) n = go (equal_thread m n) refl (told_found t ts n)
  where
    go : (b : Bool) → equal_thread m n ≡ b → value_of equal_thread (told_threads t ts) n ≡ told_option t n (value_of equal_thread ts n) → cond b (Some (told_state t m v)) (value_of equal_thread (told_threads t ts) n) ≡ told_option t n (cond b (Some v) (value_of equal_thread ts n))
    go true e ih = ap (λ (x : ThreadName). Some (told_state t x v)) ((same_thread_decides m n).0 e)
    go false e ih = ih

abbrev pub told_sites : Sites → Threads → Sites
told_sites f t i = record (f i) { threads = told_threads t (f i).threads }

module _ (p : List Stmt) (n : ℕ) (w : World) (t : Threads) (s : State) (placed : ThreadsMatch p (threads (shown w.sites t)) w.mail s.threads) (m : AnswersMatch p w t s) (inside : (i : ℕ) (o : ThreadName) (v : ThreadState) → value_of equal_thread (w.sites i).threads o ≡ Some v → (1 ≤ i) × (i ≤ n)) where
  real : (i : ℕ) (o : ThreadName) (v : ThreadState) → value_of equal_thread (w.sites i).threads o ≡ Some v → i ≢ 0
  real i o v h none = let q = inside i o v h in absurd (omega (arith, q.0, none))

  -- where a thread of a site is shown, with the stack that the machine has
  record Seen (i : ℕ) (o : ThreadName) (st : Stack) (asks : Bool) : Type 0 where
    place : ℕ
    is : place ≡ cond asks 0 i
    at : IsThreadAt (threads (shown w.sites t)) place o st
    own : asks ≡ false → i ≢ 0
    waits : asks ≡ true → (a : Awaited) × (su : Stack) × IsAsking (threads w.sites) i o a su

  seen : (i : ℕ) (o : ThreadName) (st : Stack) → IsThreadAt (threads (told_sites w.sites t)) i o st → (b : Bool) × Seen i o st b
  seen i o st (c, h) = go (value_of equal_thread (w.sites i).threads o) refl (sym (told_found t (w.sites i).threads o) ∙ h)
    where
      go : (r : Option ThreadState) → value_of equal_thread (w.sites i).threads o ≡ r → told_option t o r ≡ Some (st, c) → (b : Bool) × Seen i o st b
      go None e k = let both : ◌≡◌ {A = Option ThreadState} None (Some (st, c)) = k in absurd (cc)
      go (Some v) e k = one (is_asking v.1) refl k
        where
          one : (b : Bool) → is_asking v.1 ≡ b → Some (cond b (unwrap_or (value_of equal_thread t o) v) v) ≡ Some (st, c) → (b : Bool) × Seen i o st b
          one false q k =
              let same : ◌≡◌ {A = ThreadState} v (st, c) = cc in (
                false,
                record {
                  place = i;
                  is = refl;
                  at = (v.1, ap (λ (ts : Threads). value_of equal_thread ts o) (shown_threads_real w.sites t i (real i o v e)) ∙ stands_to (w.sites i).threads o v e q ∙ ap (λ (x : Stack). Some (x, v.1)) (ap (λ (x : ThreadState). x.0) same));
                  own = λ z. real i o v e;
                  waits = λ z. absurd (cc);
                },
              )
          one true q k =
              let a = asks_for v.1 q in
              let asking : IsAsking (threads w.sites) i o a.0 v.0 = (e ∙ ap (λ (x : Mode). Some (v.0, x)) a.1, subst (λ (x : Mode). is_asking x ≡ true) a.1 q) in
              let r = m.asking.stands i o a.0 v.0 asking in
              let same : ◌≡◌ {A = ThreadState} (r.0, mode.Runs) (st, c) = ap (λ (x : Option ThreadState). unwrap_or x v) (sym r.1) ∙ ap (λ (x : Option ThreadState). unwrap_or x v) k in (
                true,
                record {
                  place = 0;
                  is = refl;
                  at = (mode.Runs, r.1 ∙ ap (λ (x : Stack). Some (x, mode.Runs)) (ap (λ (x : ThreadState). x.0) same));
                  own = λ z. absurd (cc);
                  waits = λ z. (a.0, v.0, asking);
                },
              )

  pub told_placed : ThreadsMatch p (threads (told_sites w.sites t)) w.mail s.threads
  told_placed = record {
    up = λ i o st h. (let r = seen i o st h in placed.up r.1.place o st r.1.at);
    flies = placed.flies;
    down = λ o st h. down o st (placed.down o st h);
    home = λ i j o st su h g. (let x = seen i o st h in let y = seen j o su g in home i j o st su x.0 y.0 x.1 y.1);
    apart = λ i k o st su h g. (let x = seen i o st h in placed.apart x.1.place k o st su x.1.at g);
    once = placed.once;
    sole = placed.sole;
  }
    where
      down : (o : ThreadName) (st : Stack) → ((i : ℕ) × IsThreadAt (threads (shown w.sites t)) i o st) ⊎ ((k : ℕ) × IsInSpawn p w.mail k o st) → ((i : ℕ) × IsThreadAt (threads (told_sites w.sites t)) i o st) ⊎ ((k : ℕ) × IsInSpawn p w.mail k o st)
      down o st (inr h) = inr h
      down o st (inl (i, (c, h))) = inl (go (i == 0) refl)
        where
          go : (b : Bool) → (i == 0) ≡ b → (i : ℕ) × IsThreadAt (threads (told_sites w.sites t)) i o st
          go true e =
              let away : value_of equal_thread t o ≡ Some (st, c) = subst (λ (k : ℕ). value_of equal_thread (shown w.sites t k).threads o ≡ Some (st, c)) ((nat_decides i 0).0 e) h in
              let r = m.asking.known o (st, c) away in
              (r.1, (c, told_found t (w.sites r.1).threads o ∙ ap (told_option t o) r.4.0 ∙ rw r.4.1 (ap (λ (x : Option ThreadState). Some (unwrap_or x (r.3, mode.WaitsFor r.2))) away)))
          go false e =
              let far : i ≢ 0 = (λ z. let yes : (i == 0) ≡ true = (nat_decides i 0).1 z in cc) in
              let r = stands_from (w.sites i).threads o (st, c) (ap (λ (ts : Threads). value_of equal_thread ts o) (sym (shown_threads_real w.sites t i far)) ∙ h) in
              (i, (c, told_found t (w.sites i).threads o ∙ ap (told_option t o) r.0 ∙ rw r.1 refl))

      apart_places : (i : ℕ) (o : ThreadName) (st : Stack) → Seen i o st false → i ≡ 0 → ⊥
      apart_places i o st x none = x.own refl none

      home : (i j : ℕ) (o : ThreadName) (st su : Stack) (a b : Bool) → Seen i o st a → Seen j o su b → i ≡ j
      home i j o st su false false x y = sym x.is ∙ placed.home x.place y.place o st su x.at y.at ∙ y.is
      home i j o st su true true x y = let q = x.waits refl in let r = y.waits refl in m.asking.alone i j o q.0 r.0 q.1 r.1 q.2 r.2
      home i j o st su true false x y =
          let q = x.waits refl in
          let none : j ≡ 0 = sym y.is ∙ placed.home y.place x.place o su st y.at x.at ∙ x.is in
          absurd (apart_places j o su y none)
      home i j o st su false true x y =
          let none : i ≡ 0 = sym x.is ∙ placed.home x.place y.place o st su x.at y.at ∙ y.is in
          absurd (apart_places i o st x none)

  pub living_joined : AreDistinct (names s.threads) → ((i : ℕ) → AreDistinct (names (threads w.sites i))) → AreDistinct (numbers w.mail) → length s.threads ≡ sum_to n (living w.sites) + spawn_count w.mail
  living_joined central once numbered =
      let all = all_living p n (told_sites w.sites t) w.mail s told_placed central (λ i. subst (λ (ns : List ThreadName). AreDistinct ns) (sym (told_names t (w.sites i).threads)) (once i)) numbered inside_told in
      let same : sum_to n (living (told_sites w.sites t)) ≡ sum_to n (living w.sites) = sums n in
      omega (arith, all, same)
    where
      inside_told : (i : ℕ) (o : ThreadName) (v : ThreadState) → value_of equal_thread (told_threads t (w.sites i).threads) o ≡ Some v → (1 ≤ i) × (i ≤ n)
      inside_told i o v h = go (value_of equal_thread (w.sites i).threads o) refl (sym (told_found t (w.sites i).threads o) ∙ h)
        where
          go : (r : Option ThreadState) → value_of equal_thread (w.sites i).threads o ≡ r → told_option t o r ≡ Some v → (1 ≤ i) × (i ≤ n)
          go None e k = let both : ◌≡◌ {A = Option ThreadState} None (Some v) = k in absurd (cc)
          go (Some u) e k = inside i o u e

      sums : (k : ℕ) → sum_to k (living (told_sites w.sites t)) ≡ sum_to k (living w.sites)
      sums zero = refl
      sums (suc k) =
          let ih : sum_to k (living (told_sites w.sites t)) ≡ sum_to k (living w.sites) = sums k in
          let last : length (told_threads t (w.sites (suc k)).threads) ≡ length (w.sites (suc k)).threads = told_length t (w.sites (suc k)).threads in
          omega (arith, ih, last)
