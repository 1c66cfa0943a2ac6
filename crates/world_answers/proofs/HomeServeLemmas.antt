-- The home of a stationary cell serves a request that it keeps: the machine makes the exchange, and the thread goes on, here or by an answer.
use Rattle.thread_roster.proofs.NameLemmas.{name_cases as threads_decide}
use Rattle.std.proofs.Common.{◌≡◌, ◌∙◌, sym, ap, refl, subst, ℕ, List, [], ◌∷◌, ◌++◌, append-nil, ◌⊎◌, inl, inr, Bool, true, false, Some, None, arith, cond, ◌≤◌}
use Rattle.std.specs.Prelude.{Option, Contains, ◌≢◌, ◌==◌, unwrap_or}
use Rattle.std.specs.List.{count_by}
use Rattle.std.proofs.lemmas.List.Sums.{sum_by-cons}
use Rattle.indexmap.specs.IndexMap.{insert_entry}
use Rattle.tree_node.specs.declared.names.VarName.{VarName}
use Rattle.tree_node.specs.declared.names.CellName.{CellName}
use Rattle.tree_node.specs.declared.names.ThreadName.{ThreadName}
use Rattle.tree_node.specs.declared.names.Name.{Name}
use Rattle.tree_node.specs.declared.pick.Pick.{Pick}
use Rattle.tree_node.specs.Assoc.{value_of, with_value, without_key}
use Rattle.tree_node.specs.Each.{Each, AreDistinct}
use Rattle.tree_node.specs.Goal.{equal_cell}
use Rattle.tree_node.specs.Names.{EachOfEquation, EachOfStack}
use Rattle.tree_node.specs.State.{Stack, State, equal_thread}
use Rattle.tree_node.specs.Store.{Store, Equation}
use Rattle.tree_node.proofs.AssocLemmas.{value_of-without_key, value_of-without_key-other}
use Rattle.tree_node.proofs.ClassLemmas.{Contains-head}
use Rattle.tree_node.proofs.NameLemmas.{same_thread_decides}
use Rattle.kernel_syntax.specs.declared.stmt.Stmt.{Stmt}
use Rattle.site_message.specs.declared.message.Msg.TheVariants as msg
use Rattle.site_message.specs.declared.message.Sent.{Sent as Letter}
use Rattle.oz_model.specs.Effect.{Stays, Exchanged, PortChange, Keeps, Opened, Sent, Effect, stack_effect}
use Rattle.oz_model.specs.Step.{cells_after, ports_after, stack_left}
use Rattle.bind_protocol.specs.Records.{Records}
use Rattle.thread_roster.specs.declared.mode.Awaited.{Awaited}
use Rattle.thread_roster.specs.declared.mode.Awaited.TheVariants.{Cell}
use Rattle.thread_roster.specs.declared.mode.Mode.TheVariants as mode
use Rattle.site_model.specs.Bundle.{bundle_of, with_own_bundle}
use Rattle.site_model.specs.Cells.{step_pick, exchange_stack}
use Rattle.site_model.specs.Requests.{OldContent, send_stack, after_answer, with_home_content, serve_request}
use Rattle.site_model.specs.Site.{Site, Threads, Counters, EarlyRequest, home_record}
use Rattle.site_model.specs.Transition.{Transition, with_pick, with_messages, and_then}
use Rattle.site_model.proofs.BundleLemmas.{bundle_known}
use Rattle.world_model.specs.Claims.{ContentOf, Asks, answer, answered, Claim, Answered, Listed, IsClaim, IsAsking, FitsClaim, AskingMatch, keeper_of}
use Rattle.world_model.specs.Keepers.{IsTold}
use Rattle.world_model.specs.Matches.{PartsMatch}
use Rattle.world_model.specs.Names.{IsHere, IsHereName, IsMade, here_at}
use Rattle.world_model.specs.Shown.{standing, shown, shown_world, is_asking}
use Rattle.world_model.specs.World.{World, Mail, IsOnItsWay, at_put, put, eqs, records, threads, counters, after_transition}
use Rattle.world_model.proofs.KeyLemmas.{with_here, with_there}
use Rattle.world_model.proofs.MailLemmas.{sent_to}
use Rattle.world_model.proofs.PutLemmas.{nat_decides, at_all, at_here, at_other, field_kept}
use Rattle.world_variables.specs.Plain.{IsKept}
use Rattle.world_variables.specs.Sums.{names}
use Rattle.world_variables.proofs.FollowLemmas.{kept_opened, kept_sent, kept_exchanged}
use Rattle.world_variables.proofs.PlaceLemmas.{gone_on}
use Rattle.world_cells.specs.Reached.{Reached}
use Rattle.world_cells.proofs.QueueLemmas.{SameWaiters}
use Rattle.world_cells.proofs.SendLemmas.{each_more, cell_named}
use Rattle.world_answers.proofs.ActLemmas.{IsKeptAct, act_next, act_here, act_all, act_cells, act_ports, act_leaves, act_counted, act_exchanged, act_reached}
use Rattle.world_answers.proofs.AnswerLemmas.{answered_names, after_answer_is, asking_one}
use Rattle.world_answers.proofs.AskJoinLemmas.{never_lost}
use Rattle.world_answers.proofs.ClaimLemmas.{own_found, comes_back}
use Rattle.world_answers.proofs.KeptLemmas.{kept_quiet, old_end_of, old_content_of, left_is}
use Rattle.world_answers.proofs.LeaveLemmas.{Leaves}
use Rattle.world_answers.specs.AnswerCounts.{exchange_one, placed_exchanges}
use Rattle.world_answers.specs.Balance.{answers_to, of_exchange, exchanges_by}
use Rattle.world_answers.proofs.OwedLemmas.{Owes, Nobody, owes_answer, owes_none}
use Rattle.world_answers.proofs.PackLemmas.{ReachedAt, whole}
use Rattle.world_answers.proofs.ReturnLemmas.{returned_waiters, returned_names, returned_from, returned_old, returned_parts, gone_waiters}
use Rattle.world_answers.proofs.SayLemmas.{none_sent}
use Rattle.world_answers.proofs.ServeLemmas.{away_threads, away_names, away_may, away_reached, away_asking}
use Rattle.world_answers.proofs.ShownLemmas.{standing_distinct, shown_threads_real, less_distinct}
use Rattle.world_answers.proofs.SpotLemmas.{Turned, IsLetter, IsLost, IsNewClaim, sends, claims_from, claims_kept, answer_claims, answer_tells, first_from, first_old}
use Rattle.world_answers.proofs.StandLemmas.{EachOfStack-weaker}

-- ---- while a home serves

-- what was reached, where homes keep these requests: contents are told apart
pub record Serving (p : List Stmt) (w : World) (ks : List Pick) (centre : State) (early : CellName → List EarlyRequest) : Type 0 where
  pub transit : Threads
  pub reached : ReachedAt p (shown_world w transit) ks centre
  pub asking : AskingMatch p (eqs w.sites) (IsAsking (threads w.sites)) (IsClaim w.mail early) transit
  pub named : (i : ℕ) (n : ThreadName) (a : Awaited) (st : Stack) → IsAsking (threads w.sites) i n a st → (i ≢ 0) × EachOfStack (IsHereName (records w.sites i)) st
  pub made : (i : ℕ) (n : ThreadName) (a : Awaited) (st : Stack) → IsAsking (threads w.sites) i n a st → EachOfStack (IsMade (counters w.sites)) st
  pub once : (i : ℕ) → AreDistinct (names (threads w.sites i))

-- one request less is kept, and its exchange was made
pub record ServedOne (p : List Stmt) (w : World) (ks : List Pick) (i : ℕ) (d : Transition) (c : State) (b : CellName) (rq : EarlyRequest) (later : CellName → List EarlyRequest) : Type 0 where
  pub centre : State
  pub serving : Serving p (after_transition w i d) (ks ++ d.picks) centre later
  pub leaves : Leaves p (w.sites i) c d centre
  pub served : List ThreadName
  pub owes : Owes p (w.sites i) c d served Nobody
  pub exchanged : (f : CellName → ThreadName → ℕ) → exchanges_by f p c d.picks ≡ f b rq.thread
  pub told : (th : ThreadName) → count_by (answers_to th) d.sent ≡ cond (rq.asking == i) 0 (cond (equal_thread th rq.thread) 1 0)
  pub cells : centre.cells ≡ with_value equal_cell c.cells b rq.new
  pub ports : centre.ports ≡ c.ports
  pub homes : d.site.homes ≡ insert_entry equal_cell (w.sites i).homes b (record (home_record (w.sites i) b) { content = Some rq.new })
  pub own_ports : d.site.ports ≡ (w.sites i).ports
  pub equations : d.site.equations ≡ (w.sites i).equations
  pub records : d.site.records ≡ (w.sites i).records
  pub told_from : (l a : ℕ) (x : CellName) (y : VarName) → IsTold (after_transition w i d).mail l a x y → IsTold w.mail l a x y
  pub told_old : (l a : ℕ) (x : CellName) (y : VarName) → IsTold w.mail l a x y → IsTold (after_transition w i d).mail l a x y

-- an exchange changes no port
pub exchange_keeps : (p : List Stmt) (s : Store) (st : Stack) (b : CellName) (new told : VarName) → (stack_effect p s [] None st).cell ≡ Exchanged b new told → (stack_effect p s [] None st).port ≡ Keeps
exchange_keeps p s st b new told is = go (stack_effect p s [] None st).port refl
  where
    e : Effect
    e = stack_effect p s [] None st

    alone : IsKept (stack_effect p s [] None st) → (stack_effect p s [] None st).port ≡ Keeps
    alone on = one (kept_quiet p s [] st on).alone
      where
        one : ((stack_effect p s [] None st).port ≡ Keeps) ⊎ ((stack_effect p s [] None st).cell ≡ Stays) → (stack_effect p s [] None st).port ≡ Keeps
        one (inl h) = h
        one (inr h) = let both : Stays ≡ Exchanged b new told = sym h ∙ is in absurd (cc)

    go : (r : PortChange) → (stack_effect p s [] None st).port ≡ r → (stack_effect p s [] None st).port ≡ Keeps
    go Keeps h = h
    go (Opened q end) h = alone (kept_opened (stack_effect p s [] None st) q end h)
    go (Sent q value x) h = alone (kept_sent (stack_effect p s [] None st) q value x h)

module _ (p : List Stmt) (limit i : ℕ) (real : i ≢ 0) (w : World) (ks : List Pick) (early later : CellName → List EarlyRequest) (c : State) (j : Serving p w ks c early) (b : CellName) (home : b.at ≡ i) (rq : EarlyRequest)
    (at : early b ≡ rq ∷ later b) (others : (x : CellName) → b ≢ x → later x ≡ early x) (distinct : AreDistinct (early b)) (v : VarName) (value : value_of equal_cell c.cells b ≡ Some v) (known : IsHere (records w.sites i) v) where
  abbrev s : Site
  s = w.sites i

  abbrev t : Threads
  t = j.transit

  abbrev r : Reached p (shown_world w j.transit) ks
  r = whole j.reached

  abbrev n : ThreadName
  n = rq.thread

  abbrev o : ℕ
  o = rq.asking

  abbrev x : Claim
  x = Listed b rq

  number : s.records.site ≡ i
  number = (j.reached.parts.kept i).site

  listed : Contains (early b) rq
  listed = subst (λ (rs : List EarlyRequest). Contains rs rq) (sym at) (Contains-head rq (later b))

  ground : (st : Stack) × IsAsking (threads w.sites) o n (Cell b) st × Asks p (eqs w.sites o) st (ContentOf b rq.new)
  ground = j.asking.grounded (Listed b rq) listed

  found : (z : Stack) × (value_of equal_thread t n ≡ Some (z, mode.Runs)) × FitsClaim p (eqs w.sites o) o (Cell b) ground.0 z (Listed b rq)
  found = own_found p (eqs w.sites) (IsAsking (threads w.sites)) (IsClaim w.mail early) t j.asking o n (Cell b) ground.0 (Listed b rq) (λ a su h. asking_one (threads w.sites) o n (Cell b) ground.0 ground.1 a su h) ground.1 listed refl

  away : value_of equal_thread t n ≡ Some (ground.0, mode.Runs)
  away = found.1 ∙ ap (λ (y : Stack). Some (y, mode.Runs)) found.2.2

  asks : Asks p (eqs w.sites o) ground.0 (ContentOf b rq.new)
  asks = ground.2

  abbrev e : Effect
  e = stack_effect p (eqs w.sites o) [] None ground.0

  keeps : e.port ≡ Keeps
  keeps = exchange_keeps p (eqs w.sites o) ground.0 b rq.new asks.1 asks.2

  far : b.at ≢ 0
  far h = real (sym home ∙ h)

  on : IsKept e
  on = kept_exchanged e b rq.new asks.1 keeps asks.2 far

  left_as : stack_left c e ≡ exchange_stack v e.cell e.stack
  left_as = left_is c e ∙ ap (λ (r : PortChange). send_stack (old_end_of c r) r (exchange_stack (old_content_of c e.cell) e.cell e.stack)) keeps
      ∙ ap (λ (y : VarName). exchange_stack y e.cell e.stack) (ap (old_content_of c) asks.2 ∙ ap (λ (y : Option VarName). unwrap_or y (record { site = 0; num = 0 })) value)

  abbrev then_counters : ℕ → Counters
  then_counters = at_put (counters w.sites) i (counters w.sites i)

  -- the machine's exchange pays
  paid : (d : Transition) → IsKeptAct s [] [] (step_pick n [] None) d → 1 ≤ placed_exchanges p c d.picks
  paid d row =
      let same : placed_exchanges p c d.picks ≡ exchange_one e.cell = act_counted p i real w ks t r 0 o n ground.0 [] away asks.0 on (λ (x : Effect). exchange_one x.cell) d row in
      let one : exchange_one e.cell ≡ 1 = ap exchange_one asks.2 ∙ is_one (b.at == 0) refl in omega (arith, same, one)
    where
      is_one : (z : Bool) → (b.at == 0) ≡ z → ◌≡◌ {A = ℕ} (cond z 0 1) 1
      is_one true q = absurd (far ((nat_decides b.at 0).0 q))
      is_one false q = refl

  -- the machine makes this exchange
  exchanged_by : (f : CellName → ThreadName → ℕ) (d : Transition) → IsKeptAct s [] [] (step_pick n [] None) d → exchanges_by f p c d.picks ≡ f b n
  exchanged_by f d row = act_exchanged p i real w ks t r 0 o n ground.0 [] away asks.0 on f d row ∙ ap (of_exchange f n) asks.2

  -- ---- the thread is another site's

  module _ (other : rq.asking ≢ i) where
    abbrev d_away : Transition
    d_away = and_then (with_pick (with_home_content b rq.new s) (step_pick n [] None)) (λ y. with_messages y (with_own_bundle limit y.equations (sent_to o (msg.CellOld n v [])) ∷ []))

    abbrev bundle : List Equation
    bundle = bundle_of limit s.equations (msg.CellOld n v [])

    row_away : IsKeptAct s [] [] (step_pick n [] None) d_away
    row_away = record {
      equations = refl;
      records = refl;
      counters = refl;
      still = record { cell_records = refl; managers = refl; site = refl; silent = (tt, tt) };
      ended = refl;
      picks = refl;
      lines = refl;
    }

    told_away : Each (Contains c.equations) bundle
    told_away = each_more s.equations c.equations (λ y h. j.reached.parts.knowledge.known i y h) bundle (bundle_known limit s.equations (msg.CellOld n v []))

    abbrev v_away : World
    v_away = after_transition w i d_away

    abbrev u_away : Threads
    u_away = away_threads p i real w ks t r o n ground.0 [] away asks.0 on (ContentOf b rq.new) (OldContent v) asks tt d_away row_away left_as

    threads_same : ◌≡◌ {A = ℕ → Threads} (threads v_away.sites) (threads w.sites)
    threads_same = field_kept (λ (y : Site). y.threads) w.sites i d_away.site refl

    reached_away : ReachedAt p (shown_world v_away u_away) (ks ++ d_away.picks) (act_next p i real w ks t r 0 o n ground.0 [] away asks.0 on)
    reached_away = away_reached p i real w ks t r o n ground.0 [] away asks.0 on (ContentOf b rq.new) (OldContent v) asks tt d_away row_away left_as refl
        (away_may p i real w ks t r o n ground.0 [] away asks.0 on (ContentOf b rq.new) (OldContent v) asks tt d_away row_away left_as bundle told_away
        (cell_named (IsMade then_counters) c.cells b v (act_all p i real w ks t r 0 o n ground.0 [] away asks.0 on).1 value).1 refl)

    turned : Turned w.mail v_away.mail (λ k. ⊥) (IsLetter w.sent o (answer n (OldContent v) bundle))
    turned = sends w.mail w.sent o (answer n (OldContent v) bundle)

    from : (z : Claim) → IsClaim v_away.mail later z → (IsClaim w.mail early z × (z ≢ Listed b rq)) ⊎ (z ≡ Answered w.sent o n (OldContent v))
    from z h = go (claims_from w.mail v_away.mail later (λ k. ⊥) (IsLetter w.sent o (answer n (OldContent v) bundle)) turned z h)
      where
        go : (IsClaim w.mail later z × (IsLost (λ k. ⊥) z → ⊥)) ⊎ IsNewClaim (IsLetter w.sent o (answer n (OldContent v) bundle)) z → (IsClaim w.mail early z × (z ≢ Listed b rq)) ⊎ (z ≡ Answered w.sent o n (OldContent v))
        go (inl g) = inl (first_from w.mail early later b rq others at distinct z g.0)
        go (inr g) = inr (answer_claims w.sent o n (OldContent v) bundle z g)

    old : (z : Claim) → IsClaim w.mail early z → z ≢ Listed b rq → IsClaim v_away.mail later z
    old z h differs = claims_kept w.mail v_away.mail later (λ k. ⊥) (IsLetter w.sent o (answer n (OldContent v) bundle)) turned z (first_old w.mail early later b rq others at z h differs) (never_lost z)

    asking_away : AskingMatch p (eqs v_away.sites) (IsAsking (threads v_away.sites)) (IsClaim v_away.mail later) u_away
    asking_away = subst (λ (f : ℕ → Store). AskingMatch p f (IsAsking (threads v_away.sites)) (IsClaim v_away.mail later) u_away) (sym (field_kept (λ (y : Site). y.equations) w.sites i d_away.site refl))
        (subst (λ (f : ℕ → Threads). AskingMatch p (eqs w.sites) (IsAsking f) (IsClaim v_away.mail later) u_away) (sym threads_same)
        (away_asking p i real w ks t r o n ground.0 [] away asks.0 on (ContentOf b rq.new) (OldContent v) asks tt d_away row_away left_as (IsClaim w.mail early) (IsClaim v_away.mail later) j.asking ground.1 (Listed b rq) listed refl (λ h. other (sym h ∙ home)) w.sent from old
        (bundle, turned.new w.sent o (answer n (OldContent v) bundle) (refl, refl, refl))))

    pub served_away : ServedOne p w ks i d_away c b rq later
    served_away = record {
      centre = act_next p i real w ks t r 0 o n ground.0 [] away asks.0 on;
      serving = record {
        transit = u_away;
        reached = reached_away;
        asking = asking_away;
        named = λ l m a su h. subst (λ (f : ℕ → Records). (l ≢ 0) × EachOfStack (IsHereName (f l)) su) (sym (field_kept (λ (y : Site). y.records) w.sites i d_away.site refl)) (j.named l m a su (subst (λ (f : ℕ → Threads). IsAsking f l m a su) threads_same h));
        made = λ l m a su h. subst (λ (f : ℕ → Counters). EachOfStack (IsMade f) su) (sym (field_kept (λ (y : Site). y.counters) w.sites i d_away.site refl)) (j.made l m a su (subst (λ (f : ℕ → Threads). IsAsking f l m a su) threads_same h));
        once = λ l. subst (λ (f : ℕ → Threads). AreDistinct (names (f l))) (sym threads_same) (j.once l);
      };
      leaves = act_leaves p i real w ks t r 0 o n ground.0 [] away asks.0 on d_away row_away;
      served = n ∷ [];
      owes = owes_answer p s c d_away o n (OldContent v) bundle refl refl (paid d_away row_away);
      exchanged = λ f. exchanged_by f d_away row_away;
      told = λ th. told_one th (o == i) refl;
      cells = act_cells p i real w ks t r 0 o n ground.0 [] away asks.0 on ∙ ap (cells_after c.cells) asks.2;
      ports = act_ports p i real w ks t r 0 o n ground.0 [] away asks.0 on ∙ ap (ports_after c.ports) keeps;
      homes = refl;
      own_ports = refl;
      equations = refl;
      records = refl;
      told_from = λ l a y z h. told_back l a y z h.0 (turned.from l a (msg.CellMake y z h.0) h.1);
      told_old = λ l a y z h. (h.0, turned.kept l a (msg.CellMake y z h.0) h.1 (λ g. g));
    }
      where
        told_back : (l a : ℕ) (y : CellName) (z : VarName) (es : List Equation) → (IsOnItsWay w.mail l a (msg.CellMake y z es) × (⊥ → ⊥)) ⊎ IsLetter w.sent o (answer n (OldContent v) bundle) l a (msg.CellMake y z es) → IsTold w.mail l a y z
        told_back l a y z es (inl g) = (es, g.0)
        told_back l a y z es (inr g) = absurd (answer_tells n (OldContent v) bundle y z es (sym g.2))

        told_one : (th : ThreadName) (x : Bool) → (o == i) ≡ x → count_by (answers_to th) d_away.sent ≡ cond x 0 (cond (equal_thread th n) 1 0)
        told_one th true e = absurd (other ((nat_decides o i).0 e))
        told_one th false e = let one = sum_by-cons (λ (y : Letter). cond (answers_to th y) 1 0) (sent_to o (msg.CellOld n v bundle)) [] in omega (arith, one)

  -- ---- the thread is the home's own

  module _ (same : rq.asking ≡ i) where
    abbrev d_own : Transition
    d_own = with_pick (after_answer p n (OldContent v) (with_home_content b rq.new s)) (step_pick n [] None)

    waits_here : IsAsking (threads w.sites) i n (Cell b) ground.0
    waits_here = subst (λ (l : ℕ). IsAsking (threads w.sites) l n (Cell b) ground.0) same ground.1

    abbrev left : Stack
    left = stack_left c e

    answer_is : answered p s.equations (OldContent v) ground.0 ≡ left
    answer_is = ap (λ (l : ℕ). answered p (eqs w.sites l) (OldContent v) ground.0) (sym same) ∙ sym left_as

    site_is : d_own.site ≡ record (with_home_content b rq.new s) { threads = with_value equal_thread s.threads n (left, mode.Runs) }
    site_is = after_answer_is p (with_home_content b rq.new s) n (OldContent v) ground.0 (Cell b) waits_here.0 ∙ ap (λ (y : Stack). record (with_home_content b rq.new s) { threads = with_value equal_thread s.threads n (y, mode.Runs) }) answer_is

    threads_are : d_own.site.threads ≡ with_value equal_thread s.threads n (left, mode.Runs)
    threads_are = ap (λ (y : Site). y.threads) site_is

    row_own : IsKeptAct s [] [] (step_pick n [] None) d_own
    row_own = record {
      equations = ap (λ (y : Site). y.equations) site_is;
      records = ap (λ (y : Site). y.records) site_is;
      counters = ap (λ (y : Site). y.counters) site_is;
      still = record { cell_records = ap (λ (y : Site). y.cell_records) site_is; managers = ap (λ (y : Site). y.managers) site_is; site = ap (λ (y : Site). y.records.site) site_is; silent = tt };
      ended = ap (λ (y : Site). y.ended) site_is;
      picks = refl;
      lines = refl;
    }

    abbrev v_own : World
    v_own = after_transition w i d_own

    abbrev u_own : Threads
    u_own = without_key equal_thread t n

    records_own : ◌≡◌ {A = ℕ → Records} (records v_own.sites) (records w.sites)
    records_own = field_kept (λ (y : Site). y.records) w.sites i d_own.site row_own.records

    abbrev Here : ℕ → Name → Type 0
    Here = act_here p i real w ks t r 0 o n ground.0 [] away asks.0 on d_own row_own u_own

    names_left : EachOfStack (Here i) left
    names_left = subst (λ (f : ℕ → Records). EachOfStack (here_at f i) left) (sym records_own) (subst (EachOfStack (here_at (records w.sites) i)) (sym left_as)
        (answered_names (here_at (records w.sites) i) (inl (inl refl)) p (eqs w.sites o) ground.0 (subst (λ (l : ℕ). Each (EachOfEquation (here_at (records w.sites) i)) (eqs w.sites l)) (sym same) (j.reached.parts.homes i).equations)
        (EachOfStack-weaker (IsHereName (records w.sites i)) (here_at (records w.sites) i) (λ y h. inl h) ground.0 (j.named i n (Cell b) ground.0 waits_here).1) (ContentOf b rq.new) (OldContent v) asks tt (inl known)))

    once_own : AreDistinct (names d_own.site.threads)
    once_own = subst (λ (ts : Threads). AreDistinct (names ts)) (sym threads_are) (subst (λ (xs : List ThreadName). AreDistinct xs) (sym (returned_names s.threads n ground.0 left (Cell b) waits_here.0 waits_here.1)) (j.once i))

    reached_own : ReachedAt p (shown_world v_own u_own) (ks ++ d_own.picks) (act_next p i real w ks t r 0 o n ground.0 [] away asks.0 on)
    reached_own = act_reached p i real w ks t r 0 o n ground.0 [] away asks.0 on d_own row_own u_own
        (away_names p i real w ks t r o n ground.0 [] away asks.0 on (ContentOf b rq.new) (OldContent v) asks tt d_own row_own left_as)
        (none_sent p (eqs w.sites) (at_put (records w.sites) i (w.sites i).records) (threads (shown (put w.sites i d_own.site) u_own)) then_counters (act_next p i real w ks t r 0 o n ground.0 [] away asks.0 on).equations)
        adapt
        (λ a. subst (λ (ts : Threads). SameWaiters (standing s.threads) (standing ts) a) (sym threads_are) (returned_waiters s.threads n ground.0 left (Cell b) waits_here.0 waits_here.1 a))
        (λ a. gone_waiters t n ground.0 away a) (standing_distinct d_own.site.threads once_own) (less_distinct t n (j.reached.sums.once 0))
      where
        Parts : (ℕ → Threads) → Type 0
        Parts g = PartsMatch p Here (eqs w.sites) (at_put (records w.sites) i (w.sites i).records) g then_counters w.mail (act_next p i real w ks t r 0 o n ground.0 [] away asks.0 on)

        adapt : Parts (gone_on (threads (shown w.sites t)) 0 n (Some left)) → Parts (threads (shown (put w.sites i d_own.site) u_own))
        adapt h = returned_parts p Here (eqs w.sites) (at_put (records w.sites) i (w.sites i).records) then_counters w.mail (act_next p i real w ks t r 0 o n ground.0 [] away asks.0 on) w.sites t i real d_own.site n ground.0 left (Cell b) waits_here.0 waits_here.1 threads_are
            (gone_on (threads (shown w.sites t)) 0 n (Some left))
            (ap (λ (ts : Threads). value_of equal_thread ts n) (at_here (threads (shown w.sites t)) 0 (with_value equal_thread t n (left, mode.Runs))) ∙ with_here equal_thread same_thread_decides t n (left, mode.Runs) (ground.0, mode.Runs) away)
            (λ m other. ap (λ (ts : Threads). value_of equal_thread ts m) (at_here (threads (shown w.sites t)) 0 (with_value equal_thread t n (left, mode.Runs))) ∙ with_there equal_thread same_thread_decides t n m (left, mode.Runs) other)
            (λ k other. at_other (threads (shown w.sites t)) 0 _ k other ∙ shown_threads_real w.sites t k other) names_left h

    alone : (l : ℕ) (a : Awaited) (su : Stack) → IsAsking (threads w.sites) l n a su → l ≡ i
    alone l a su h = j.asking.alone l i n a (Cell b) su ground.0 h waits_here

    mail_same : ◌≡◌ {A = Mail} v_own.mail w.mail
    mail_same = append-nil w.mail

    asking_own : AskingMatch p (eqs v_own.sites) (IsAsking (threads v_own.sites)) (IsClaim v_own.mail later) u_own
    asking_own = subst (λ (f : ℕ → Store). AskingMatch p f (IsAsking (threads v_own.sites)) (IsClaim v_own.mail later) u_own) (sym (field_kept (λ (y : Site). y.equations) w.sites i d_own.site row_own.equations))
        (subst (λ (m : Mail). AskingMatch p (eqs w.sites) (IsAsking (threads v_own.sites)) (IsClaim m later) u_own) (sym mail_same)
        (comes_back p (eqs w.sites) (IsAsking (threads w.sites)) (IsClaim w.mail early) t j.asking o n (Cell b) ground.0 (Listed b rq) (λ a su h. asking_one (threads w.sites) o n (Cell b) ground.0 ground.1 a su h) ground.1 listed refl
        (IsAsking (threads v_own.sites)) (IsClaim w.mail later) u_own
        (λ m other. value_of-without_key-other equal_thread same_thread_decides t n m other) (value_of-without_key equal_thread same_thread_decides t n)
        (returned_from w.sites i d_own.site n ground.0 left (Cell b) waits_here.0 threads_are alone) (returned_old w.sites i d_own.site n ground.0 left (Cell b) waits_here.0 threads_are alone)
        (λ z h. first_from w.mail early later b rq others at distinct z h) (λ z h differs. first_old w.mail early later b rq others at z h differs)))

    -- who waits for another site is none that comes back here
    others_stay : (a : Awaited) → is_asking (mode.WaitsFor a) ≡ true → keeper_of a ≢ s.records.site → (m : ThreadName) → (⊥ → ⊥) → (su : Stack) → value_of equal_thread s.threads m ≡ Some (su, mode.WaitsFor a) → value_of equal_thread d_own.site.threads m ≡ Some (su, mode.WaitsFor a)
    others_stay a asks elsewhere m back su h = go (threads_decide n m)
      where
        go : (n ≡ m) ⊎ (n ≢ m) → value_of equal_thread d_own.site.threads m ≡ Some (su, mode.WaitsFor a)
        go (inr differs) = ap (λ (ts : Threads). value_of equal_thread ts m) threads_are ∙ with_there equal_thread same_thread_decides s.threads n m (left, mode.Runs) differs ∙ h
        go (inl e) =
            let is : a ≡ Cell b = (asking_one (threads w.sites) i n (Cell b) ground.0 waits_here a su (ap (value_of equal_thread s.threads) e ∙ h, asks)).0 in
            absurd (elsewhere (ap keeper_of is ∙ home ∙ sym number))

    pub served_own : ServedOne p w ks i d_own c b rq later
    served_own = record {
      centre = act_next p i real w ks t r 0 o n ground.0 [] away asks.0 on;
      serving = record {
        transit = u_own;
        reached = reached_own;
        asking = asking_own;
        named = λ l m a su h. subst (λ (f : ℕ → Records). (l ≢ 0) × EachOfStack (IsHereName (f l)) su) (sym records_own) (j.named l m a su (returned_from w.sites i d_own.site n ground.0 left (Cell b) waits_here.0 threads_are alone l m a su h).1);
        made = λ l m a su h. subst (λ (f : ℕ → Counters). EachOfStack (IsMade f) su) (sym (field_kept (λ (y : Site). y.counters) w.sites i d_own.site row_own.counters)) (j.made l m a su (returned_from w.sites i d_own.site n ground.0 left (Cell b) waits_here.0 threads_are alone l m a su h).1);
        once = at_all w.sites i d_own.site (λ l (y : Site). AreDistinct (names y.threads)) once_own (λ l other. j.once l);
      };
      leaves = act_leaves p i real w ks t r 0 o n ground.0 [] away asks.0 on d_own row_own;
      served = [];
      owes = owes_none p s c d_own Nobody tt others_stay;
      exchanged = λ f. exchanged_by f d_own row_own;
      told = λ th. ap (λ (x : Bool). cond {A = ℕ} x 0 (cond (equal_thread th n) 1 0)) (sym ((nat_decides o i).1 same));
      cells = act_cells p i real w ks t r 0 o n ground.0 [] away asks.0 on ∙ ap (cells_after c.cells) asks.2;
      ports = act_ports p i real w ks t r 0 o n ground.0 [] away asks.0 on ∙ ap (ports_after c.ports) keeps;
      homes = ap (λ (y : Site). y.homes) site_is;
      own_ports = ap (λ (y : Site). y.ports) site_is;
      equations = row_own.equations;
      records = row_own.records;
      told_from = λ l a y z h. subst (λ (m : Mail). IsTold m l a y z) mail_same h;
      told_old = λ l a y z h. subst (λ (m : Mail). IsTold m l a y z) (sym mail_same) h;
    }

  -- ---- either

  pub served_one : ServedOne p w ks i (serve_request p limit b rq v s) c b rq later
  served_one = go (rq.asking == s.records.site) refl
    where
      go : (q : Bool) → (rq.asking == s.records.site) ≡ q → ServedOne p w ks i (serve_request p limit b rq v s) c b rq later
      go true h = rw h (served_own ((nat_decides rq.asking s.records.site).0 h ∙ number))
      go false h = rw h (served_away (λ z. let yes : (rq.asking == s.records.site) ≡ true = (nat_decides rq.asking s.records.site).1 (z ∙ sym number) in cc))
