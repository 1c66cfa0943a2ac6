-- A thread that waited for an answer goes on at its site.
use Rattle.std.proofs.Common.{◌≡◌, ◌∙◌, sym, ap, refl, subst, ℕ, List, ◌∷◌, ◌⊎◌, inl, inr, Bool, true, false, Some, None}
use Rattle.std.specs.Prelude.{Option, ◌≢◌, ◌==◌}
use Rattle.tree_node.specs.declared.names.ThreadName.{ThreadName}
use Rattle.tree_node.specs.declared.names.Name.{Name}
use Rattle.tree_node.specs.Assoc.{value_of, with_value, without_key}
use Rattle.tree_node.specs.Names.{EachOfStack}
use Rattle.tree_node.specs.State.{Stack, State, equal_thread}
use Rattle.tree_node.specs.Store.{Store}
use Rattle.tree_node.proofs.AssocLemmas.{value_of-without_key, value_of-without_key-other}
use Rattle.tree_node.proofs.NameLemmas.{same_thread_decides}
use Rattle.kernel_syntax.specs.declared.stmt.Stmt.{Stmt}
use Rattle.bind_protocol.specs.Records.{Records}
use Rattle.thread_roster.specs.declared.mode.Awaited.{Awaited}
use Rattle.thread_roster.specs.declared.mode.Mode.TheVariants as mode
use Rattle.thread_roster.proofs.NameLemmas.{name_cases as threads_decide}
use Rattle.site_model.specs.Site.{Site, Threads, ThreadState, Counters}
use Rattle.world_model.specs.Claims.{IsAsking}
use Rattle.world_model.specs.Matches.{PartsMatch}
use Rattle.world_model.specs.Shown.{is_asking, standing, shown}
use Rattle.world_model.specs.World.{Sites, Mail, put, threads}
use Rattle.world_model.proofs.KeyLemmas.{with_here, with_there}
use Rattle.world_model.proofs.PutLemmas.{nat_decides, at_all, at_here, at_other}
use Rattle.world_variables.specs.Sums.{names}
use Rattle.world_variables.proofs.PlaceLemmas.{fronted, gone_on}
use Rattle.world_variables.proofs.SumLemmas.{with_names}
use Rattle.world_cells.proofs.QueueLemmas.{SameWaiters, goes_waiters, running_not}
use Rattle.world_answers.proofs.ClaimLemmas.{front_own, front_far}
use Rattle.world_answers.proofs.MoveLemmas.{moves_parts, alike_parts}
use Rattle.world_answers.proofs.ShownLemmas.{standing_found, asks_away, shown_threads_real}

-- the threads of a site where this one, which waited for an answer, can go on with this stack
module _ (ts : Threads) (n : ThreadName) (st q : Stack) (a : Awaited) (at : value_of equal_thread ts n ≡ Some (st, mode.WaitsFor a)) (asks : is_asking (mode.WaitsFor a) ≡ true) where
  abbrev us : Threads
  us = with_value equal_thread ts n (q, mode.Runs)

  own : value_of equal_thread us n ≡ Some (q, mode.Runs)
  own = with_here equal_thread same_thread_decides ts n (q, mode.Runs) (st, mode.WaitsFor a) at

  pub others : (o : ThreadName) → n ≢ o → value_of equal_thread us o ≡ value_of equal_thread ts o
  others o far = with_there equal_thread same_thread_decides ts n o (q, mode.Runs) far

  not_there : value_of equal_thread (standing ts) n ≡ None
  not_there = asks_away ts n (st, mode.WaitsFor a) at asks

  -- it stands with the others
  pub returned_found : (o : ThreadName) → value_of equal_thread (standing us) o ≡ value_of equal_thread ((n, (q, mode.Runs)) ∷ standing ts) o
  returned_found o = go (threads_decide n o)
    where
      go : (n ≡ o) ⊎ (n ≢ o) → value_of equal_thread (standing us) o ≡ value_of equal_thread ((n, (q, mode.Runs)) ∷ standing ts) o
      go (inl e) = subst (λ (x : ThreadName). value_of equal_thread (standing us) x ≡ value_of equal_thread ((n, (q, mode.Runs)) ∷ standing ts) x) e
          (standing_found us n ∙ rw own refl ∙ sym (front_own (standing ts) n (q, mode.Runs)))
      go (inr far) = standing_found us o ∙ rw (others o far) refl ∙ sym (standing_found ts o) ∙ sym (front_far (standing ts) n o (q, mode.Runs) far)

  pub returned_waiters : (b : Awaited) → SameWaiters (standing ts) (standing us) b
  returned_waiters b = record { old = λ o su h. old o su h (threads_decide n o); new = λ o su h. new o su h (threads_decide n o) }
    where
      old : (o : ThreadName) (su : Stack) → value_of equal_thread (standing us) o ≡ Some (su, mode.WaitsFor b) → (n ≡ o) ⊎ (n ≢ o) → value_of equal_thread (standing ts) o ≡ Some (su, mode.WaitsFor b)
      old o su h (inr far) = sym (front_far (standing ts) n o (q, mode.Runs) far) ∙ sym (returned_found o) ∙ h
      old o su h (inl e) = absurd (running_not q su b (sym (front_own (standing ts) n (q, mode.Runs)) ∙ sym (returned_found n) ∙ subst (λ (x : ThreadName). value_of equal_thread (standing us) x ≡ Some (su, mode.WaitsFor b)) (sym e) h))

      new : (o : ThreadName) (su : Stack) → value_of equal_thread (standing ts) o ≡ Some (su, mode.WaitsFor b) → (n ≡ o) ⊎ (n ≢ o) → value_of equal_thread (standing us) o ≡ Some (su, mode.WaitsFor b)
      new o su h (inr far) = returned_found o ∙ front_far (standing ts) n o (q, mode.Runs) far ∙ h
      new o su h (inl e) =
          let none : value_of equal_thread (standing ts) o ≡ None = subst (λ (x : ThreadName). value_of equal_thread (standing ts) x ≡ None) e not_there in
          let both : ◌≡◌ {A = Option ThreadState} None (Some (su, mode.WaitsFor b)) = sym none ∙ h in absurd (cc)

  pub returned_names : names us ≡ names ts
  returned_names = with_names ts n (q, mode.Runs)

-- who waits then: all others
module _ (f : Sites) (i : ℕ) (s : Site) (n : ThreadName) (st q : Stack) (a : Awaited) (at : value_of equal_thread (f i).threads n ≡ Some (st, mode.WaitsFor a)) (is : s.threads ≡ with_value equal_thread (f i).threads n (q, mode.Runs))
    (alone : (k : ℕ) (b : Awaited) (su : Stack) → IsAsking (threads f) k n b su → k ≡ i) where
  pub returned_from : (k : ℕ) (o : ThreadName) (b : Awaited) (su : Stack) → IsAsking (threads (put f i s)) k o b su → (n ≢ o) × IsAsking (threads f) k o b su
  returned_from = at_all f i s (λ k (x : Site). (o : ThreadName) (b : Awaited) (su : Stack) → (value_of equal_thread x.threads o ≡ Some (su, mode.WaitsFor b)) × (is_asking (mode.WaitsFor b) ≡ true) → (n ≢ o) × IsAsking (threads f) k o b su)
      (λ o b su h. here o b su h (threads_decide n o)) (λ k far o b su h. (λ e. far (alone k b su (subst (λ (x : ThreadName). IsAsking (threads f) k x b su) (sym e) h)), h))
    where
      here : (o : ThreadName) (b : Awaited) (su : Stack) → (value_of equal_thread s.threads o ≡ Some (su, mode.WaitsFor b)) × (is_asking (mode.WaitsFor b) ≡ true) → (n ≡ o) ⊎ (n ≢ o) → (n ≢ o) × IsAsking (threads f) i o b su
      here o b su h (inr far) = (far, (sym (with_there equal_thread same_thread_decides (f i).threads n o (q, mode.Runs) far) ∙ ap (λ (ts : Threads). value_of equal_thread ts o) (sym is) ∙ h.0, h.1))
      here o b su h (inl e) = absurd (running_not q su b (sym (with_here equal_thread same_thread_decides (f i).threads n (q, mode.Runs) (st, mode.WaitsFor a) at) ∙ ap (λ (ts : Threads). value_of equal_thread ts n) (sym is) ∙ subst (λ (x : ThreadName). value_of equal_thread s.threads x ≡ Some (su, mode.WaitsFor b)) (sym e) h.0))

  pub returned_old : (k : ℕ) (o : ThreadName) (b : Awaited) (su : Stack) → n ≢ o → IsAsking (threads f) k o b su → IsAsking (threads (put f i s)) k o b su
  returned_old k o b su far h = at_all f i s (λ l (x : Site). IsAsking (threads f) l o b su → (value_of equal_thread x.threads o ≡ Some (su, mode.WaitsFor b)) × (is_asking (mode.WaitsFor b) ≡ true))
      (λ g. (ap (λ (ts : Threads). value_of equal_thread ts o) is ∙ with_there equal_thread same_thread_decides (f i).threads n o (q, mode.Runs) far ∙ g.0, g.1)) (λ l other g. g) k h

-- ---- the parts

module _ (p : List Stmt) (here : ℕ → Name → Type 0) (eqs : ℕ → Store) (records : ℕ → Records) (made : ℕ → Counters) (mail : Mail) (z : State) (f : Sites) (t : Threads) (i : ℕ) (real : i ≢ 0) (s : Site) (n : ThreadName) (st q : Stack) (a : Awaited)
    (at : value_of equal_thread (f i).threads n ≡ Some (st, mode.WaitsFor a)) (asks : is_asking (mode.WaitsFor a) ≡ true) (is : s.threads ≡ with_value equal_thread (f i).threads n (q, mode.Runs))
    (g : ℕ → Threads) (own : value_of equal_thread (g 0) n ≡ Some (q, mode.Runs)) (zero : (o : ThreadName) → n ≢ o → value_of equal_thread (g 0) o ≡ value_of equal_thread t o) (rest : (k : ℕ) → k ≢ 0 → g k ≡ standing (f k).threads) where
  abbrev moved : ℕ → Threads
  moved = fronted (gone_on g 0 n None) i n q

  -- it is at its site in place of number 0
  pub returned_parts : EachOfStack (here i) q → PartsMatch p here eqs records g made mail z → PartsMatch p here eqs records (threads (shown (put f i s) (without_key equal_thread t n))) made mail z
  returned_parts names_are parts = alike_parts p here eqs records moved (threads (shown (put f i s) (without_key equal_thread t n))) made mail z
      (moves_parts p here eqs records g made mail z parts 0 i n q own names_are) same
    where
      same : (k : ℕ) (o : ThreadName) → value_of equal_thread (threads (shown (put f i s) (without_key equal_thread t n)) k) o ≡ value_of equal_thread (moved k) o
      same k o = go (k == 0) refl (k == i) refl
        where
          gone_zero : moved 0 ≡ without_key equal_thread (g 0) n
          gone_zero = at_other (gone_on g 0 n None) i _ 0 (λ e. real (sym e)) ∙ at_here g 0 _

          at_zero : value_of equal_thread (without_key equal_thread t n) o ≡ value_of equal_thread (without_key equal_thread (g 0) n) o
          at_zero = one (threads_decide n o)
            where
              one : (n ≡ o) ⊎ (n ≢ o) → value_of equal_thread (without_key equal_thread t n) o ≡ value_of equal_thread (without_key equal_thread (g 0) n) o
              one (inl e) = subst (λ (x : ThreadName). value_of equal_thread (without_key equal_thread t n) x ≡ value_of equal_thread (without_key equal_thread (g 0) n) x) e (value_of-without_key equal_thread same_thread_decides t n ∙ sym (value_of-without_key equal_thread same_thread_decides (g 0) n))
              one (inr far) = value_of-without_key-other equal_thread same_thread_decides t n o far ∙ sym (zero o far) ∙ sym (value_of-without_key-other equal_thread same_thread_decides (g 0) n o far)

          moved_own : moved i ≡ (n, (q, mode.Runs)) ∷ standing (f i).threads
          moved_own = at_here (gone_on g 0 n None) i _ ∙ ap (λ (ts : Threads). (n, (q, mode.Runs)) ∷ ts) (at_other g 0 _ i real ∙ rest i real)

          at_own : value_of equal_thread (standing s.threads) o ≡ value_of equal_thread (moved i) o
          at_own = ap (λ (ts : Threads). value_of equal_thread (standing ts) o) is ∙ returned_found (f i).threads n st q a at asks o ∙ ap (λ (ts : Threads). value_of equal_thread ts o) (sym moved_own)

          go : (x : Bool) → (k == 0) ≡ x → (y : Bool) → (k == i) ≡ y → value_of equal_thread (threads (shown (put f i s) (without_key equal_thread t n)) k) o ≡ value_of equal_thread (moved k) o
          go true e y h = subst (λ (l : ℕ). value_of equal_thread (threads (shown (put f i s) (without_key equal_thread t n)) l) o ≡ value_of equal_thread (moved l) o) (sym ((nat_decides k 0).0 e)) (at_zero ∙ ap (λ (ts : Threads). value_of equal_thread ts o) (sym gone_zero))
          go false e true h =
              let place : k ≡ i = (nat_decides k i).0 h in
              subst (λ (l : ℕ). value_of equal_thread (threads (shown (put f i s) (without_key equal_thread t n)) l) o ≡ value_of equal_thread (moved l) o) (sym place)
              (ap (λ (ts : Threads). value_of equal_thread ts o) (shown_threads_real (put f i s) (without_key equal_thread t n) i real ∙ ap (λ (x : Site). standing x.threads) (at_here f i s)) ∙ at_own)
          go false e false h =
              let far : k ≢ 0 = (λ x. let yes : (k == 0) ≡ true = (nat_decides k 0).1 x in cc) in
              let other : k ≢ i = (λ x. let yes : (k == i) ≡ true = (nat_decides k i).1 x in cc) in
              ap (λ (ts : Threads). value_of equal_thread ts o) (shown_threads_real (put f i s) (without_key equal_thread t n) k far ∙ ap (λ (x : Site). standing x.threads) (at_other f i s k other)
              ∙ sym (at_other (gone_on g 0 n None) i _ k other ∙ at_other g 0 _ k far ∙ rest k far))

-- ---- those at number 0

pub gone_waiters : (t : Threads) (n : ThreadName) (z : Stack) → value_of equal_thread t n ≡ Some (z, mode.Runs) → (b : Awaited) → SameWaiters t (without_key equal_thread t n) b
gone_waiters t n z at b = goes_waiters t n None (z, mode.Runs) b at (λ su q. running_not z su b q) (λ su q. cc)
