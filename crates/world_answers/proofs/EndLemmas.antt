-- Quiet journals: nothing travels, and the machine rests.
use Rattle.std.proofs.Common.{arith, ◌≡◌, ◌∙◌, sym, refl, subst, ℕ, suc, ◌<◌, ◌≤◌, List, [], ◌∷◌, ◌⊎◌, inl, inr, ap, Bool, true, false, cond, Some, None, length}
use Rattle.std.specs.Prelude.{Option, Contains, ◌≢◌, ◌==◌, not, IsTrue}
use Rattle.std.specs.List.{filter}
use Rattle.tree_node.specs.declared.names.VarName.{VarName}
use Rattle.tree_node.specs.declared.names.CellName.{CellName}
use Rattle.tree_node.specs.declared.names.ThreadName.{ThreadName}
use Rattle.tree_node.specs.declared.pick.Pick.{Pick}
use Rattle.tree_node.specs.Goal.{equal_cell}
use Rattle.tree_node.specs.Assoc.{value_of}
use Rattle.tree_node.specs.Each.{Each}
use Rattle.tree_node.specs.State.{Stack, equal_thread}
use Rattle.kernel_syntax.specs.declared.stmt.Stmt.{Stmt}
use Rattle.site_message.specs.declared.message.Msg.{Msg}
use Rattle.site_message.specs.declared.message.Msg.TheVariants as msg
use Rattle.site_message.specs.declared.turn.Turn.{Turn}
use Rattle.site_message.specs.Journal.{is_quiet}
use Rattle.site_message.specs.Journal as journal
use Rattle.site_message.proofs.JournalLemmas.{travelling_tells, quiet_tells}
use Rattle.oz_model.proofs.SoundLemmas.{runs_are_sound}
use Rattle.site_model.specs.Site.{Site, ThreadState, Threads, EarlyRequest, is_idle}
use Rattle.thread_roster.specs.declared.mode.Mode.TheVariants.{Runs, WaitsFor}
use Rattle.thread_roster.specs.declared.mode.Awaited.{Awaited}
use Rattle.thread_roster.specs.declared.mode.Awaited.TheVariants.{Cell, Port}
use Rattle.site_model.specs.Run.{IsReachedBy, IsSiteIn}
use Rattle.site_model.specs.Run as Run
use Rattle.world_model.specs.Schedule as Schedule
use Rattle.oz_model.specs.Run.{AtRest}
use Rattle.world_answers.specs.FitRuns.{IsFitEntry, SiteFitRun}
use Rattle.world_model.specs.Claims.{Claim, Asked, Answered, Listed, IsClaim, IsAsking, request, answer}
use Rattle.world_model.specs.Keepers.{IsTold, homes, content_at, early_at}
use Rattle.world_model.specs.Shown.{shown, shown_world}
use Rattle.world_model.specs.World.{World, Sites, Mail, IsOnItsWay, world_of, eqs, records, threads, counters}
use Rattle.world_model.proofs.PutLemmas.{nat_decides}
use Rattle.world_variables.proofs.QuietLemmas.{waits}
use Rattle.world_answers.specs.Joined.{Joined}
use Rattle.world_answers.proofs.OwnJoinLemmas.{unlisted}
use Rattle.world_answers.proofs.ShownLemmas.{stands_from, shown_threads_real}
use Rattle.world_cells.proofs.CellFitLemmas.{nobody_waits}
use Rattle.tree_node.proofs.ClassLemmas.{Contains-head}
use Rattle.world_variables.proofs.StartLemmas.{start_thread}
use Rattle.world_variables.proofs.QuietLemmas.{quiet_rests}
use Rattle.world_variables.proofs.SumLemmas.{in_or}

fewer : (ts : Threads) → length (filter waits ts) ≤ length ts
fewer [] = omega arith
fewer (t ∷ ts) = go (waits t) (fewer ts)
  where
    go : (b : Bool) → length (filter waits ts) ≤ length ts → length (cond b (t ∷ filter waits ts) (filter waits ts)) ≤ suc (length ts)
    go true h = omega (arith, h)
    go false h = omega (arith, h)

one_fewer : (ts : Threads) (n : ThreadName) (st : Stack) → value_of equal_thread ts n ≡ Some (st, Runs) → length (filter waits ts) < length ts
one_fewer [] n st e = cc
one_fewer ((m, v) ∷ ts) n st e = go (equal_thread m n) e (fewer ts) (λ q. one_fewer ts n st q)
  where
    go : (b : Bool) → cond b (Some v) (value_of equal_thread ts n) ≡ Some (st, Runs) → length (filter waits ts) ≤ length ts → (value_of equal_thread ts n ≡ Some (st, Runs) → length (filter waits ts) < length ts) →
        length (filter waits ((m, v) ∷ ts)) < suc (length ts)
    go true q low ih =
        let same : ◌≡◌ {A = ThreadState} v (st, Runs) = cc in
        subst (λ (u : ThreadState). length (filter waits ((m, u) ∷ ts)) < suc (length ts)) (sym same) (omega (arith, low))
    go false q low ih = two (waits (m, v)) (ih q)
      where
        two : (b : Bool) → length (filter waits ts) < length ts → length (cond b ((m, v) ∷ filter waits ts) (filter waits ts)) < suc (length ts)
        two true h = omega (arith, h)
        two false h = omega (arith, h)

idle_waits : (s : Site) (n : ThreadName) (st : Stack) → is_idle s ≡ true → value_of equal_thread s.threads n ≡ Some (st, Runs) → ⊥
idle_waits s n st idle h =
    let few = one_fewer s.threads n st h in
    let same : length (filter waits s.threads) ≡ length s.threads = (nat_decides (length (filter waits s.threads)) (length s.threads)).0 idle in
    absurd (omega (arith, few, same))

-- a site that is idle by its last entry has no thread that can go on
last_idle : (p : List Stmt) (n limit i : ℕ) (j : List Turn) (s : Site) → SiteFitRun p n limit i j s → journal.is_idle j i ≡ true → (m : ThreadName) (st : Stack) → value_of equal_thread s.threads m ≡ Some (st, Runs) → ⊥
last_idle p n limit i [] s run idle m st h = go (i == 1) refl idle
  where
    at_one : i ≡ 1
    at_one = (start_thread p n i m (st, Runs) (subst (λ (t : Site). value_of equal_thread t.threads m ≡ Some (st, Runs)) run h)).0

    go : (b : Bool) → (i == 1) ≡ b → not b ≡ true → ⊥
    go true q k = cc
    go false q k = let yes : (i == 1) ≡ true = (nat_decides i 1).1 at_one in cc
last_idle p n limit i (e ∷ j) s run idle m st h = go (e.site == i) run idle (λ q k. last_idle p n limit i j s q k m st h)
  where
    go : (b : Bool) → IsReachedBy b (λ old. SiteFitRun p n limit i j old) (λ old new. IsFitEntry p n limit j e old new) s → cond b e.idle (journal.is_idle j i) ≡ true → (SiteFitRun p n limit i j s → journal.is_idle j i ≡ true → ⊥) → ⊥
    go false run idle ih = ih run idle
    go true (old, before, entry) idle ih = one entry.turn
      where
        one : Run.IsEntry p n limit j e old s → ⊥
        one (d, turn, tells, is) = idle_waits d.site m st (sym tells.idle ∙ idle) (subst (λ (t : Site). value_of equal_thread t.threads m ≡ Some (st, Runs)) is h)

-- a site that is none of the world's has no thread
pub no_site : (p : List Stmt) (n limit i : ℕ) (j : List Turn) (s : Site) → 1 ≤ n → Each (IsSiteIn n) j → ((1 ≤ i) × (i ≤ n) → ⊥) → SiteFitRun p n limit i j s → (m : ThreadName) (v : ThreadState) → value_of equal_thread s.threads m ≡ Some v → ⊥
no_site p n limit i [] s some inside out run m v h =
    let one = (start_thread p n i m v (subst (λ (t : Site). value_of equal_thread t.threads m ≡ Some v) run h)).0 in
    out (omega (arith, one), omega (arith, one, some))
no_site p n limit i (e ∷ j) s some inside out run m v h = go (e.site == i) refl run (λ q. no_site p n limit i j s some inside.1 out q m v h)
  where
    go : (b : Bool) → (e.site == i) ≡ b → IsReachedBy b (λ old. SiteFitRun p n limit i j old) (λ old new. IsFitEntry p n limit j e old new) s → (SiteFitRun p n limit i j s → ⊥) → ⊥
    go true q run ih = let same : e.site ≡ i = (nat_decides e.site i).0 q in out (subst (λ (k : ℕ). (1 ≤ k) × (k ≤ n)) same inside.0)
    go false q run ih = ih run

no_mail : (mail : Mail) → ((k to : ℕ) (m : Msg) → IsOnItsWay mail k to m → ⊥) → mail ≡ []
no_mail [] h = refl
no_mail (x ∷ mail) h = absurd (h x.0 x.1.to x.1.msg (Contains-head x mail))

-- where the run is quiet no message travels
pub quiet_mail : (n : ℕ) (j : List Turn) → IsTrue (is_quiet n j) → journal.travelling j ≡ []
quiet_mail n j q = no_mail (journal.travelling j) (λ k to m h. ((quiet_tells n j).0 q).0 k (record { to = to; msg = m }) ((travelling_tells j k (record { to = to; msg = m })).0 h))

-- nobody waits for an answer
nobody_asks : (p : List Stmt) (w : World) (ks : List Pick) (j : Joined p w ks) → ((k to : ℕ) (m : Msg) → IsOnItsWay w.mail k to m → ⊥) → (i : ℕ) (n : ThreadName) (a : Awaited) (st : Stack) → IsAsking (threads w.sites) i n a st → ⊥
nobody_asks p w ks j none i n a st h = let r = j.answers.asking.stands i n a st h in no_claim r.2 r.3
  where
    listed : (c : CellName) (q : EarlyRequest) → Contains (early_at (homes w.sites) c) q → (o : Option VarName) → value_of equal_cell j.reached.centre.cells c ≡ o → ⊥
    listed c q g None e = unlisted p w ks j c e q g
    listed c q g (Some v) e =
        let r = j.answers.early c q g in
        one r.1 (j.answers.contents.kept c v r.0 e)
      where
        one : content_at (homes w.sites) c ≡ None → (content_at (homes w.sites) c ≡ Some v) ⊎ ((content_at (homes w.sites) c ≡ None) × (k : ℕ) × IsTold w.mail k c.at c v) → ⊥
        one f (inl here) = let both : ◌≡◌ {A = Option VarName} None (Some v) = sym f ∙ here in cc
        one f (inr (z, k, (es, told))) = none k c.at (msg.CellMake c v es) told

    no_claim : (y : Claim) → IsClaim w.mail (early_at (homes w.sites)) y → ⊥
    no_claim (Asked k to b m f) (es, g) = none k to (request b m f es) g
    no_claim (Answered k to m x) (es, g) = none k to (answer m x es) g
    no_claim (Listed c q) g = listed c q g (value_of equal_cell j.reached.centre.cells c) refl

-- and the machine rests
pub rests : (p : List Stmt) (n limit : ℕ) (j : List Turn) (f : Sites) → 1 ≤ n → Each (IsSiteIn n) j → ((i : ℕ) → SiteFitRun p n limit i j (f i)) → (r : Joined p (world_of j f) (Schedule.schedule j)) → IsTrue (is_quiet n j) → AtRest p r.reached.centre
rests p n limit j f some inside runs r q = quiet_rests p (eqs f) (records f) (threads (shown f r.transit)) (counters f) (world_of j f).mail r.reached.centre r.reached.parts (record {
  none = none;
  waits = λ i m st h. runs_not i m st h (i == 0) refl;
  cells = λ i m st a h. waits_not i m st a h (i == 0) refl;
}) (runs_are_sound p (Schedule.schedule j) r.reached.centre r.reached.run)
  where
    none : (k to : ℕ) (m : Msg) → IsOnItsWay (world_of j f).mail k to m → ⊥
    none k to m h = ((quiet_tells n j).0 q).0 k (record { to = to; msg = m }) ((travelling_tells j k (record { to = to; msg = m })).0 h)

    -- nobody is at number 0
    away : (m : ThreadName) (v : ThreadState) → value_of equal_thread r.transit m ≡ Some v → ⊥
    away m v h = let g = r.answers.asking.known m v h in nobody_asks p (world_of j f) (Schedule.schedule j) r none g.1 m g.2 g.3 g.4

    far : (i : ℕ) → (i == 0) ≡ false → i ≢ 0
    far i e h = let yes : (i == 0) ≡ true = (nat_decides i 0).1 h in cc

    stands : (i : ℕ) (m : ThreadName) (st : Stack) → value_of equal_thread (f i).threads m ≡ Some (st, Runs) → ((1 ≤ i) × (i ≤ n)) ⊎ (((1 ≤ i) × (i ≤ n)) → ⊥) → ⊥
    stands i m st h (inl z) = last_idle p n limit i j (f i) (runs i) (((quiet_tells n j).0 q).1 i z.0 z.1) m st h
    stands i m st h (inr z) = no_site p n limit i j (f i) some inside z (runs i) m (st, Runs) h

    runs_not : (i : ℕ) (m : ThreadName) (st : Stack) → value_of equal_thread (shown f r.transit i).threads m ≡ Some (st, Runs) → (b : Bool) → (i == 0) ≡ b → ⊥
    runs_not i m st h true e = away m (st, Runs) (subst (λ (k : ℕ). value_of equal_thread (shown f r.transit k).threads m ≡ Some (st, Runs)) ((nat_decides i 0).0 e) h)
    runs_not i m st h false e = stands i m st (stands_from (f i).threads m (st, Runs) (ap (λ (ts : Threads). value_of equal_thread ts m) (sym (shown_threads_real f r.transit i (far i e))) ∙ h)).0 (in_or i n)

    waits_not : (i : ℕ) (m : ThreadName) (st : Stack) (a : Awaited) → value_of equal_thread (shown f r.transit i).threads m ≡ Some (st, WaitsFor a) → (b : Bool) → (i == 0) ≡ b → ⊥
    waits_not i m st a h true e = away m (st, WaitsFor a) (subst (λ (k : ℕ). value_of equal_thread (shown f r.transit k).threads m ≡ Some (st, WaitsFor a)) ((nat_decides i 0).0 e) h)
    waits_not i m st (Cell d) h false e = nobody_waits (shown_world (world_of j f) r.transit) r.reached.centre r.reached.cells (no_mail (world_of j f).mail none) i m st d h
    waits_not i m st (Port s) h false e =
        let g = stands_from (f i).threads m (st, WaitsFor (Port s)) (ap (λ (ts : Threads). value_of equal_thread ts m) (sym (shown_threads_real f r.transit i (far i e))) ∙ h) in
        let both : true ≡ false = g.1 in cc
