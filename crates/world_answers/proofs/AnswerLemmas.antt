-- An answer comes: its thread goes on at its site.
use Rattle.world_model.proofs.KeyLemmas.{with_there}
use Rattle.std.proofs.Common.{◌≡◌, ◌∙◌, sym, ap, refl, subst, ℕ, List, [], ◌∷◌, ◌++◌, append-nil, ◌⊎◌, inl, inr, Some, None, true}
use Rattle.std.specs.Prelude.{Option, ◌≢◌}
use Rattle.tree_node.specs.declared.names.VarName.{VarName}
use Rattle.tree_node.specs.declared.names.CellName.{CellName}
use Rattle.tree_node.specs.declared.names.ThreadName.{ThreadName}
use Rattle.tree_node.specs.declared.names.Name.{Name}
use Rattle.tree_node.specs.declared.names.Name.TheVariants as name
use Rattle.tree_node.specs.declared.pick.Pick.{Pick}
use Rattle.tree_node.specs.Assoc.{value_of, with_value, without_key}
use Rattle.tree_node.specs.Each.{Each, AreDistinct}
use Rattle.tree_node.specs.Names.{EachOfEquation, EachOfStack}
use Rattle.tree_node.specs.State.{Stack, State, equal_thread}
use Rattle.tree_node.specs.Store.{Store, Equation}
use Rattle.kernel_syntax.specs.declared.stmt.Stmt.{Stmt}
use Rattle.site_message.specs.declared.message.Msg.TheVariants as msg
use Rattle.oz_model.specs.Effect.{CellChange, PortChange, stack_effect}
use Rattle.oz_model.specs.EffectNames.{EachOfChange, EachOfPortChange}
use Rattle.oz_model.specs.Laws.{nobody}
use Rattle.oz_model.specs.Need.{Need, kinds_of}
use Rattle.oz_model.specs.Step.{AreOfKinds, IsBindFor}
use Rattle.oz_model.proofs.EffectNames.{stack_effect_names}
use Rattle.bind_protocol.specs.Records.{Records}
use Rattle.thread_roster.specs.declared.mode.Awaited.{Awaited}
use Rattle.thread_roster.specs.declared.mode.Mode.TheVariants as mode
use Rattle.site_model.specs.Cells.{exchange_stack}
use Rattle.site_model.specs.Requests.{Answer, NewEnd, OldContent, answered_stack, after_answer, send_stack}
use Rattle.site_model.specs.Site.{Site, Threads, ThreadState, Counters, HomeRecord, EarlyRequest, thread_state}
use Rattle.site_model.specs.Transition.{Transition, without_output}
use Rattle.world_model.specs.Claims.{Asking, EndOf, ContentOf, Asks, IsAnswerTo, answer, answered, Claim, Asked, Answered, Listed, IsClaim, IsAsking, FitsClaim, AskingMatch, keeper_of}
use Rattle.world_model.specs.Keepers.{IsTold, homes, ports, early_at}
use Rattle.world_model.specs.Matches.{PartsMatch}
use Rattle.world_model.specs.Names.{IsHere, IsHereName, IsMade, here_at}
use Rattle.world_model.specs.Shown.{standing, shown, shown_world, is_asking}
use Rattle.world_model.specs.World.{World, Mail, IsOnItsWay, put, eqs, records, threads, counters, after_transition, after_receipt, without_number}
use Rattle.world_model.proofs.MailLemmas.{gone, sent_to}
use Rattle.world_model.proofs.PutLemmas.{at_all, field_kept}
use Rattle.world_variables.specs.Sums.{names}
use Rattle.world_variables.proofs.RegisterLemmas.{parts_posts}
use Rattle.world_cells.specs.Reached.{Reached}
use Rattle.world_cells.proofs.QueueLemmas.{SameWaiters}
use Rattle.world_answers.specs.Joined.{Joined}
use Rattle.world_answers.proofs.AskJoinLemmas.{ports_same, early_same}
use Rattle.world_answers.proofs.ClaimLemmas.{own_found, comes_back}
use Rattle.world_answers.proofs.HomeLemmas.{same_homes}
use Rattle.world_answers.proofs.LeaveLemmas.{Leaves, leaves_none}
use Rattle.world_answers.proofs.BalanceLemmas.{Balances, came_of}
use Rattle.world_answers.proofs.BalanceRowLemmas.{still_balances}
use Rattle.world_answers.proofs.OwedLemmas.{Owes, owes_none}
use Rattle.world_answers.proofs.PackLemmas.{ReachedAt, whole, packed, came, same_parts}
use Rattle.world_answers.proofs.ReturnLemmas.{returned_waiters, returned_names, returned_from, returned_old, returned_parts, gone_waiters}
use Rattle.world_answers.proofs.SayLemmas.{none_sent}
use Rattle.world_answers.proofs.ShownLemmas.{standing_distinct, shown_threads_real, less_distinct}
use Rattle.world_answers.proofs.SpotLemmas.{Turned, IsLost, IsNewClaim, comes, claims_from, claims_kept, lost_answer, answer_tells}
use Rattle.world_answers.proofs.StandLemmas.{EachOfStack-weaker, answer_not}
use Rattle.tree_node.proofs.AssocLemmas.{value_of-without_key, value_of-without_key-other}
use Rattle.tree_node.proofs.NameLemmas.{same_thread_decides}

-- ---- the names of an answer

abbrev pub EachOfAnswer : (Name → Type 0) → Answer → Type 0
EachOfAnswer P (NewEnd old new) = P (name.Var old) × P (name.Var new)
EachOfAnswer P (OldContent v) = P (name.Var v)

module _ (P : Name → Type 0) (anon : P (name.Var nobody)) (p : List Stmt) (s : Store) (st : Stack) (all : Each (EachOfEquation P) s) (names_are : EachOfStack P st) where
  pub answered_names : (b : Asking) (x : Answer) → Asks p s st b → IsAnswerTo b x → EachOfAnswer P x → EachOfStack P (answered p s x st)
  answered_names (EndOf q) (NewEnd old new) (need, (value, sends)) fits h =
      let e = stack_effect_names P anon p s (name.Var new ∷ []) None st all names_are (h.1, tt) (subst (λ (d : Need). AreOfKinds (name.Var new ∷ []) (kinds_of d)) (sym need) (tt, tt)) (subst (λ (d : Need). IsBindFor s d None) (sym need) tt) in
      let f = subst (EachOfPortChange P) (sends new) e.port in
      subst (λ (r : PortChange). EachOfStack P (send_stack old r (stack_effect p s (name.Var new ∷ []) None st).stack)) (sym (sends new)) ((((h.0, (f.1, (f.2, tt))), tt), tt), e.stack)
  answered_names (ContentOf c new) (OldContent v) (need, told, is) fits h =
      let e = stack_effect_names P anon p s [] None st all names_are tt (subst (λ (d : Need). AreOfKinds [] (kinds_of d)) (sym need) tt) (subst (λ (d : Need). IsBindFor s d None) (sym need) tt) in
      let f = subst (EachOfChange P) is e.cell in
      subst (λ (r : CellChange). EachOfStack P (exchange_stack v r (stack_effect p s [] None st).stack)) (sym is) ((((f.2, h), tt), tt), e.stack)
  answered_names (EndOf q) (OldContent v) asks fits h = absurd fits
  answered_names (ContentOf c new) (NewEnd old end) asks fits h = absurd fits

answered_same : (p : List Stmt) (s : Site) (x : Answer) (st : Stack) → answered_stack p s x st ≡ answered p s.equations x st
answered_same p s (NewEnd old new) st = refl
answered_same p s (OldContent v) st = refl

pub after_answer_is : (p : List Stmt) (s : Site) (n : ThreadName) (x : Answer) (st : Stack) (a : Awaited) → thread_state s n ≡ Some (st, mode.WaitsFor a) → after_answer p n x s ≡ record s { threads = with_value equal_thread s.threads n (answered p s.equations x st, mode.Runs) }
after_answer_is p s n x st a at = rw at (ap (λ (q : Stack). record s { threads = with_value equal_thread s.threads n (q, mode.Runs) }) (answered_same p s x st))

pub asking_one : (threads : ℕ → Threads) (i : ℕ) (n : ThreadName) (a : Awaited) (st : Stack) → IsAsking threads i n a st → (b : Awaited) (su : Stack) → IsAsking threads i n b su → (b ≡ a) × (su ≡ st)
asking_one threads i n a st h b su g =
    let both : ◌≡◌ {A = Option ThreadState} (Some (su, mode.WaitsFor b)) (Some (st, mode.WaitsFor a)) = sym g.0 ∙ h.0 in
    let pair : ◌≡◌ {A = ThreadState} (su, mode.WaitsFor b) (st, mode.WaitsFor a) = cc in
    let modes : mode.WaitsFor b ≡ mode.WaitsFor a = ap (λ (v : ThreadState). v.1) pair in
    let same : b ≡ a = cc in (same, ap (λ (v : ThreadState). v.0) pair)

-- ---- the answer

module _ (p : List Stmt) (i : ℕ) (real : i ≢ 0) (w : World) (ks : List Pick) (j : Joined p w ks) (k : ℕ) (n : ThreadName) (x : Answer) (bundle : List Equation) (at : IsOnItsWay w.mail k i (answer n x bundle)) (known : EachOfAnswer (here_at (records w.sites) i) x) where
  abbrev s : Site
  s = w.sites i

  abbrev c : State
  c = j.reached.centre

  abbrev t : Threads
  t = j.transit

  abbrev early : CellName → List EarlyRequest
  early = early_at (homes w.sites)

  ground : (a : Awaited) × (st : Stack) × IsAsking (threads w.sites) i n a st × (keeper_of a ≢ i)
  ground = j.answers.asking.grounded (Answered k i n x) (bundle, at)

  one : (b : Awaited) (su : Stack) → IsAsking (threads w.sites) i n b su → (b ≡ ground.0) × (su ≡ ground.1)
  one b su h = asking_one (threads w.sites) i n ground.0 ground.1 ground.2 b su h

  found : (z : Stack) × (value_of equal_thread t n ≡ Some (z, mode.Runs)) × FitsClaim p (eqs w.sites i) i ground.0 ground.1 z (Answered k i n x)
  found = own_found p (eqs w.sites) (IsAsking (threads w.sites)) (IsClaim w.mail early) t j.answers.asking i n ground.0 ground.1 (Answered k i n x) one ground.2 (bundle, at) refl

  q_is : found.0 ≡ answered p (eqs w.sites i) x ground.1
  q_is = found.2.5

  abbrev d : Transition
  d = without_output (after_answer p n x s)

  site_is : d.site ≡ record s { threads = with_value equal_thread s.threads n (found.0, mode.Runs) }
  site_is = after_answer_is p s n x ground.1 ground.0 ground.2.0 ∙ ap (λ (y : Stack). record s { threads = with_value equal_thread s.threads n (y, mode.Runs) }) (sym q_is)

  threads_are : d.site.threads ≡ with_value equal_thread s.threads n (found.0, mode.Runs)
  threads_are = ap (λ (y : Site). y.threads) site_is

  abbrev less : World
  less = after_receipt (Some k) w

  abbrev v : World
  v = after_transition less i d

  abbrev u : Threads
  u = without_key equal_thread t n

  abbrev r : Reached p (shown_world less t) ks
  r = whole (came p w ks t j.reached k i (answer n x bundle) (answer_not n x bundle) at)

  names_are : EachOfStack (here_at (records w.sites) i) found.0
  names_are = subst (EachOfStack (here_at (records w.sites) i)) (sym q_is) (answered_names (here_at (records w.sites) i) (inl (inl refl)) p (eqs w.sites i) ground.1 (j.reached.parts.homes i).equations
      (EachOfStack-weaker (IsHereName (records w.sites i)) (here_at (records w.sites) i) (λ y h. inl h) ground.1 (j.answers.named i n ground.0 ground.1 ground.2).1) found.2.1 x found.2.3 found.2.4 known)

  parts : PartsMatch p (here_at (records w.sites)) (eqs w.sites) (records w.sites) (threads (shown v.sites u)) (counters w.sites) v.mail c
  parts = parts_posts p (here_at (records w.sites)) (eqs w.sites) (records w.sites) (threads (shown v.sites u)) (counters w.sites) less.mail c
      (returned_parts p (here_at (records w.sites)) (eqs w.sites) (records w.sites) (counters w.sites) less.mail c w.sites t i real d.site n ground.1 found.0 ground.0 ground.2.0 ground.2.1 threads_are
      (threads (shown w.sites t)) found.1 (λ o far. refl) (λ l far. shown_threads_real w.sites t l far) names_are r.parts)
      less.sent [] (none_sent p (eqs w.sites) (records w.sites) (threads (shown v.sites u)) (counters w.sites) c.equations)

  pub once_back : AreDistinct (names d.site.threads)
  once_back = subst (λ (ts : Threads). AreDistinct (names ts)) (sym threads_are) (subst (λ (xs : List ThreadName). AreDistinct xs) (sym (returned_names s.threads n ground.1 found.0 ground.0 ground.2.0 ground.2.1)) (j.once i))

  reached : ReachedAt p (shown_world v u) (ks ++ []) c
  reached = packed p less ks t r i d u c real (record {
    run = refl;
    parts = same_parts p less i d u c (ap (λ (y : Site). y.equations) site_is) (ap (λ (y : Site). y.records) site_is) (ap (λ (y : Site). y.counters) site_is) parts;
    still = record { cell_records = ap (λ (y : Site). y.cell_records) site_is; managers = ap (λ (y : Site). y.managers) site_is; site = ap (λ (y : Site). y.records.site) site_is; silent = tt };
    cells = refl;
    here = λ b. subst (λ (ts : Threads). SameWaiters (standing s.threads) (standing ts) b) (sym threads_are) (returned_waiters s.threads n ground.1 found.0 ground.0 ground.2.0 ground.2.1 b);
    away = λ b. gone_waiters t n found.0 found.1 b;
    wider = λ y h. subst (λ (b : Records). IsHere b y) (sym (ap (λ (z : Site). z.records) site_is)) h;
    lines = (refl, refl);
    ended = (refl, ap (λ (y : Site). y.ended) site_is);
    once = (standing_distinct d.site.threads once_back, less_distinct t n (j.reached.sums.once 0));
  })

  -- ---- the rest

  alone : (l : ℕ) (b : Awaited) (su : Stack) → IsAsking (threads w.sites) l n b su → l ≡ i
  alone l b su h = j.answers.asking.alone l i n b ground.0 su ground.1 h ground.2

  abbrev early_now : CellName → List EarlyRequest
  early_now = early_at (homes v.sites)

  homes_same : ◌≡◌ {A = ℕ → List (CellName × HomeRecord)} (homes v.sites) (homes w.sites)
  homes_same = field_kept (λ (y : Site). y.homes) w.sites i d.site (ap (λ (y : Site). y.homes) site_is)

  mail_same : ◌≡◌ {A = Mail} v.mail (without_number k w.mail)
  mail_same = append-nil (without_number k w.mail)

  turned : Turned w.mail (without_number k w.mail) (λ l. l ≡ k) (λ l b m. ⊥)
  turned = comes w.mail k

  never : (y : Claim) → IsNewClaim (λ l b m. ⊥) y → ⊥
  never (Asked l b o m f) (es, h) = h
  never (Answered l b m y) (es, h) = h
  never (Listed b y) h = h

  from : (y : Claim) → IsClaim (without_number k w.mail) early y → IsClaim w.mail early y × (y ≢ Answered k i n x)
  from y h = go (claims_from w.mail (without_number k w.mail) early (λ l. l ≡ k) (λ l b m. ⊥) turned y h)
    where
      go : (IsClaim w.mail early y × (IsLost (λ l. l ≡ k) y → ⊥)) ⊎ IsNewClaim (λ l b m. ⊥) y → IsClaim w.mail early y × (y ≢ Answered k i n x)
      go (inl g) = (g.0, λ e. g.1 (subst (IsLost (λ l. l ≡ k)) (sym e) refl))
      go (inr g) = absurd (never y g)

  old : (y : Claim) → IsClaim w.mail early y → y ≢ Answered k i n x → IsClaim (without_number k w.mail) early y
  old y h other = claims_kept w.mail (without_number k w.mail) early (λ l. l ≡ k) (λ l b m. ⊥) turned y h (lost_answer w.mail early j.reached.numbers.once k i n x bundle at y h other)

  asking : AskingMatch p (eqs v.sites) (IsAsking (threads v.sites)) (IsClaim v.mail early_now) u
  asking = subst (λ (f : ℕ → Store). AskingMatch p f (IsAsking (threads v.sites)) (IsClaim v.mail early_now) u) (sym (field_kept (λ (y : Site). y.equations) w.sites i d.site (ap (λ (y : Site). y.equations) site_is)))
      (subst (λ (f : ℕ → List (CellName × HomeRecord)). AskingMatch p (eqs w.sites) (IsAsking (threads v.sites)) (IsClaim v.mail (early_at f)) u) (sym homes_same)
      (subst (λ (m : Mail). AskingMatch p (eqs w.sites) (IsAsking (threads v.sites)) (IsClaim m early) u) (sym mail_same)
      (comes_back p (eqs w.sites) (IsAsking (threads w.sites)) (IsClaim w.mail early) t j.answers.asking i n ground.0 ground.1 (Answered k i n x) one ground.2 (bundle, at) refl
      (IsAsking (threads v.sites)) (IsClaim (without_number k w.mail) early) u
      (λ o far. value_of-without_key-other equal_thread same_thread_decides t n o far) (value_of-without_key equal_thread same_thread_decides t n)
      (returned_from w.sites i d.site n ground.1 found.0 ground.0 ground.2.0 threads_are alone) (returned_old w.sites i d.site n ground.1 found.0 ground.0 ground.2.0 threads_are alone) from old)))

  records_are : ◌≡◌ {A = ℕ → Records} (records v.sites) (records w.sites)
  records_are = field_kept (λ (y : Site). y.records) w.sites i d.site (ap (λ (y : Site). y.records) site_is)

  wide : (l : ℕ) (y : VarName) → IsHere (records w.sites l) y → IsHere (records v.sites l) y
  wide l y h = subst (λ (f : ℕ → Records). IsHere (f l) y) (sym records_are) h

  told_from : (l to : ℕ) (b : CellName) (y : VarName) → IsTold v.mail l to b y → IsTold w.mail l to b y
  told_from l to b y (es, h) = (es, ((gone k w.mail).old l to (msg.CellMake b y es) (subst (λ (m : Mail). IsOnItsWay m l to (msg.CellMake b y es)) mail_same h)).0)

  told_old : (l to : ℕ) (b : CellName) (y : VarName) → IsTold w.mail l to b y → IsTold v.mail l to b y
  told_old l to b y (es, h) = (
    es,
    subst (λ (m : Mail). IsOnItsWay m l to (msg.CellMake b y es)) (sym mail_same) ((gone k w.mail).kept l to (msg.CellMake b y es) h
        (λ e. answer_tells n x bundle b y es (sym (j.reached.numbers.once k to i (msg.CellMake b y es) (answer n x bundle) (subst (λ (o : ℕ). IsOnItsWay w.mail o to (msg.CellMake b y es)) e h) at).1))),
  )

  -- it has to do with no mobile cell
  pub answer_leaves : Leaves p s c d c
  answer_leaves = leaves_none p s c d (record { cell_records = ap (λ (y : Site). y.cell_records) site_is; managers = ap (λ (y : Site). y.managers) site_is; site = ap (λ (y : Site). y.records.site) site_is; silent = tt }) refl

  -- it answers nobody, and the thread comes back
  pub answer_owes : Owes p s c d [] (λ m. m ≡ n)
  answer_owes = owes_none p s c d (λ m. m ≡ n) tt waits
    where
      waits : (a : Awaited) → is_asking (mode.WaitsFor a) ≡ true → keeper_of a ≢ s.records.site → (m : ThreadName) → (m ≡ n → ⊥) → (su : Stack) → value_of equal_thread s.threads m ≡ Some (su, mode.WaitsFor a) → value_of equal_thread d.site.threads m ≡ Some (su, mode.WaitsFor a)
      waits a asks far m other su h = ap (λ (ts : Threads). value_of equal_thread ts m) threads_are ∙ with_there equal_thread same_thread_decides s.threads n m (found.0, mode.Runs) (λ e. other (sym e)) ∙ h

  -- it has to do with no stationary cell
  pub answer_balances : (R : ℕ → ThreadName → Type 0) → Balances p R (came_of (sent_to i (answer n x bundle))) w.sites (put w.sites i d.site) c d
  answer_balances R = still_balances p R w.sites (put w.sites i d.site) c d (came_of (sent_to i (answer n x bundle))) (no_request x) (λ b. ap (λ (hs : ℕ → List (CellName × HomeRecord)). early_at hs b) homes_same) (λ f vanishes. refl) refl refl
    where
      no_request : (y : Answer) (b : CellName) (th : ThreadName) → came_of (sent_to i (answer n y bundle)) b th ≡ 0
      no_request (NewEnd old new) b th = refl
      no_request (OldContent u) b th = refl

  pub answer_joined : Joined p v (ks ++ [])
  answer_joined = record {
    transit = u;
    reached = whole reached;
    answers = record {
      asking = asking;
      named = λ l o b su h. (let g = j.answers.named l o b su (returned_from w.sites i d.site n ground.1 found.0 ground.0 ground.2.0 threads_are alone l o b su h).1 in (g.0, subst (λ (f : ℕ → Records). EachOfStack (IsHereName (f l)) su) (sym records_are) g.1));
      made = λ l o b su h. subst (λ (f : ℕ → Counters). EachOfStack (IsMade f) su) (sym (field_kept (λ (y : Site). y.counters) w.sites i d.site (ap (λ (y : Site). y.counters) site_is))) (j.answers.made l o b su (returned_from w.sites i d.site n ground.1 found.0 ground.0 ground.2.0 threads_are alone l o b su h).1);
      ends = ports_same (ports w.sites) (ports v.sites) (records w.sites) (records v.sites) c.ports (field_kept (λ (y : Site). y.ports) w.sites i d.site (ap (λ (y : Site). y.ports) site_is)) wide j.answers.ends;
      contents = same_homes (homes w.sites) (homes v.sites) (records w.sites) (records v.sites) w.mail v.mail c.cells homes_same wide told_from told_old j.answers.contents;
      early = early_same (homes w.sites) (homes v.sites) (records w.sites) (records v.sites) homes_same wide j.answers.early;
    };
    once = at_all w.sites i d.site (λ l (y : Site). AreDistinct (names y.threads)) once_back (λ l far. j.once l);
  }
