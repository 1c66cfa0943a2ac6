-- A request comes to the owner of a port: the port has a new end, and the thread is answered.
use Rattle.std.proofs.Common.{◌≡◌, ◌∙◌, sym, ap, refl, subst, ℕ, List, [], ◌∷◌, ◌++◌, ◌⊎◌, inl, inr, Bool, true, false, cond, Some, None, arith, ◌≤◌}
use Rattle.std.specs.Prelude.{Option, Contains, ◌≢◌, unwrap_or}
use Rattle.std.specs.List.{count_by}
use Rattle.std.specs.Map.{lookup}
use Rattle.indexmap.specs.IndexMap.{insert_entry}
use Rattle.tree_node.specs.declared.names.VarName.{VarName}
use Rattle.tree_node.specs.declared.names.CellName.{CellName}
use Rattle.tree_node.specs.declared.names.PortName.{PortName}
use Rattle.tree_node.specs.declared.names.ThreadName.{ThreadName}
use Rattle.tree_node.specs.declared.names.Name.{Name}
use Rattle.tree_node.specs.declared.names.Name.TheVariants as name
use Rattle.tree_node.specs.declared.pick.Pick.{Pick}
use Rattle.tree_node.specs.Assoc.{value_of, with_value}
use Rattle.tree_node.specs.Each.{Each, AreDistinct}
use Rattle.tree_node.specs.Goal.{equal_port}
use Rattle.tree_node.specs.Names.{EachOfPort}
use Rattle.tree_node.specs.State.{Stack, State, equal_thread}
use Rattle.tree_node.specs.Store.{Store, Equation}
use Rattle.kernel_syntax.specs.declared.stmt.Stmt.{Stmt}
use Rattle.site_message.specs.declared.message.Msg.TheVariants as msg
use Rattle.site_message.specs.declared.message.Sent.{Sent as Letter}
use Rattle.oz_model.specs.Effect.{CellChange, Stays, Keeps, Sent, Effect, stack_effect}
use Rattle.oz_model.specs.EffectNames.{EachOfPortChange}
use Rattle.oz_model.specs.Laws.{FindsPort}
use Rattle.oz_model.specs.Need.{variable_kinds}
use Rattle.oz_model.specs.Step.{cells_after, ports_after, end_of, stack_left}
use Rattle.thread_roster.specs.declared.mode.Awaited.TheVariants.{Port}
use Rattle.thread_roster.specs.declared.mode.Mode.TheVariants as mode
use Rattle.site_model.specs.Bundle.{bundle_of, with_own_bundle}
use Rattle.site_model.specs.Cells.{step_pick, exchange_stack}
use Rattle.site_model.specs.Fit.{CanTake}
use Rattle.site_model.specs.Requests.{Answer, NewEnd, send_stack, next_var, old_end, port_send_row}
use Rattle.site_model.specs.Site.{Site, Threads, Counters, HomeRecord, EarlyRequest}
use Rattle.site_model.specs.Transition.{Transition}
use Rattle.site_model.specs.Unit.{counters_after}
use Rattle.site_model.specs.Variables.{after_makes}
use Rattle.site_model.proofs.BundleLemmas.{bundle_known}
use Rattle.site_model.proofs.FrameLemmas.{makes_site}
use Rattle.world_model.specs.Claims.{EndOf, Asks, answer, Claim, Asked, IsClaim, IsAsking, FitsClaim, AskingMatch}
use Rattle.world_model.specs.Keepers.{PortsMatch, HomesMatch, IsTold, homes, ports, early_at}
use Rattle.world_model.specs.Names.{IsHere, IsHereName, IsMade, here_at}
use Rattle.world_model.specs.Shown.{shown_world}
use Rattle.world_model.specs.World.{World, Mail, IsOnItsWay, at_put, put, eqs, records, threads, counters, mail_from, after_transition, after_receipt}
use Rattle.world_model.proofs.MailLemmas.{sent_to}
use Rattle.world_model.proofs.PutLemmas.{at_all, field_kept}
use Rattle.world_variables.specs.Plain.{IsKept}
use Rattle.world_variables.specs.Sums.{names}
use Rattle.world_variables.proofs.FollowLemmas.{kept_sent}
use Rattle.world_cells.specs.Reached.{Reached}
use Rattle.world_cells.proofs.SendLemmas.{each_more}
use Rattle.world_answers.specs.Joined.{Joined}
use Rattle.world_answers.proofs.ActLemmas.{IsKeptAct, act_next, act_all, act_made, act_fresh, act_wider, act_cells, act_ports, act_quiet, act_leaves, act_counted, act_exchanged, act_finds_port}
use Rattle.world_answers.proofs.AnswerLemmas.{EachOfAnswer, asking_one}
use Rattle.world_answers.proofs.AskJoinLemmas.{early_same}
use Rattle.world_answers.proofs.ClaimLemmas.{own_found}
use Rattle.world_answers.proofs.GrowLemmas.{made_grow, kinds_grow}
use Rattle.world_answers.proofs.HomeLemmas.{same_homes}
use Rattle.world_answers.proofs.KeptLemmas.{IsQuiet, old_end_of, old_content_of, left_is}
use Rattle.world_answers.proofs.LeaveLemmas.{Leaves}
use Rattle.world_answers.specs.AnswerCounts.{send_one, sends_made, asks_content, tells_content}
use Rattle.world_answers.proofs.OwedLemmas.{Owes, Nobody, owes_answer}
use Rattle.world_answers.specs.Balance.{of_exchange, exchanges_by}
use Rattle.world_answers.proofs.BalanceLemmas.{Vanishes, Balances, came_of}
use Rattle.world_answers.proofs.BalanceRowLemmas.{still_balances}
use Rattle.world_answers.proofs.PackLemmas.{ReachedAt, whole, came}
use Rattle.world_answers.proofs.PortsLemmas.{ended_at, port_kept, moved_here, moved_there}
use Rattle.world_answers.proofs.SayLemmas.{answer_filled}
use Rattle.world_answers.proofs.ServeLemmas.{away_threads, away_may, away_reached, away_asking}
use Rattle.world_answers.proofs.SpotLemmas.{IsLost, swap_mail, lost_request, request_tells, swap_from, swap_old, swap_there, swap_told_from, swap_told_old}
use Rattle.world_answers.proofs.StandLemmas.{EachOfStack-weaker, here_wider}

-- the end of a port was made
end_made : (P : Name → Type 0) (central : List (PortName × VarName)) (q : PortName) → Each (EachOfPort P) central → P (name.Var (record { site = 0; num = 0 })) → P (name.Var (end_of central q))
end_made P [] q h anon = anon
end_made P ((r, x) ∷ central) q h anon = go (equal_port r q) (end_made P central q h.1 anon)
  where
    go : (b : Bool) → P (name.Var (end_of central q)) → P (name.Var (unwrap_or (cond b (Some x) (value_of equal_port central q)) (record { site = 0; num = 0 })))
    go true ih = h.0.1
    go false ih = ih

module _ (p : List Stmt) (limit i : ℕ) (real : i ≢ 0) (w : World) (ks : List Pick) (j : Joined p w ks) (k : ℕ) (q : PortName) (n : ThreadName) (o : ℕ) (at : IsOnItsWay w.mail k i (msg.PortSend q n o)) where
  abbrev s : Site
  s = w.sites i

  abbrev c : State
  c = j.reached.centre

  abbrev t : Threads
  t = j.transit

  abbrev early : CellName → List EarlyRequest
  early = early_at (homes w.sites)

  number : s.records.site ≡ i
  number = (j.reached.parts.kept i).site

  pub ground : (i ≡ q.site) × (o ≢ i) × (st : Stack) × IsAsking (threads w.sites) o n (Port q) st × Asks p (eqs w.sites o) st (EndOf q)
  ground = j.answers.asking.grounded (Asked k i (EndOf q) n o) ([], at)

  pub asks : Asks p (eqs w.sites o) ground.2 (EndOf q)
  asks = ground.4

  found : (z : Stack) × (value_of equal_thread t n ≡ Some (z, mode.Runs)) × FitsClaim p (eqs w.sites o) o (Port q) ground.2 z (Asked k i (EndOf q) n o)
  found = own_found p (eqs w.sites) (IsAsking (threads w.sites)) (IsClaim w.mail early) t j.answers.asking o n (Port q) ground.2 (Asked k i (EndOf q) n o) (λ b su h. asking_one (threads w.sites) o n (Port q) ground.2 ground.3 b su h) ground.3 ([], at) refl

  pub away : value_of equal_thread t n ≡ Some (ground.2, mode.Runs)
  away = found.1 ∙ ap (λ (x : Stack). Some (x, mode.Runs)) found.2.2

  abbrev less : World
  less = after_receipt (Some k) w

  abbrev r : Reached p (shown_world less t) ks
  r = whole (came p w ks t j.reached k i (msg.PortSend q n o) (λ h. h) at)

  abbrev new : VarName
  new = record { site = i; num = s.counters.vars }

  next_is : next_var s ≡ new
  next_is = ap (λ (l : ℕ). record { site = l; num = s.counters.vars }) number

  abbrev e : Effect
  e = stack_effect p (eqs w.sites o) (name.Var new ∷ []) None ground.2

  sends : e.port ≡ Sent q asks.1.0 new
  sends = asks.1.1 new

  pub on : IsKept e
  on = kept_sent e q asks.1.0 new sends

  abbrev d : Transition
  d = port_send_row limit q n o s

  row : IsKeptAct s (variable_kinds 1) (name.Var new ∷ []) (step_pick n (name.Var new ∷ []) None) d
  row = record {
    equations = refl;
    records = ap (λ (x : VarName). after_makes s.records (x ∷ [])) next_is;
    counters = refl;
    still = record { cell_records = refl; managers = refl; site = makes_site s.records (next_var s ∷ []); silent = (tt, tt) };
    ended = refl;
    picks = ap (λ (x : VarName). step_pick n (name.Var x ∷ []) None ∷ []) next_is;
    lines = refl;
  }

  quiet : IsQuiet e
  quiet = act_quiet p i real less ks t r 0 o n ground.2 (variable_kinds 1) away asks.0 on

  stays_cell : e.cell ≡ Stays
  stays_cell = go quiet.alone
    where
      go : (e.port ≡ Keeps) ⊎ (e.cell ≡ Stays) → e.cell ≡ Stays
      go (inl keeps) = let both : Keeps ≡ Sent q asks.1.0 new = sym keeps ∙ sends in absurd (cc)
      go (inr h) = h

  old_is : old_end s q ≡ end_of c.ports q
  old_is = ap (λ (x : Option VarName). unwrap_or x (record { site = 0; num = 0 })) (ap (λ (l : ℕ). lookup (equal_port q) (ports w.sites l)) ground.0 ∙ j.answers.ends.ends q)

  abbrev y : Answer
  y = NewEnd (old_end s q) new

  left_as : stack_left c e ≡ send_stack (old_end s q) e.port e.stack
  left_as = left_is c e
      ∙ ap (λ (ch : CellChange). send_stack (old_end_of c e.port) e.port (exchange_stack (old_content_of c ch) ch e.stack)) stays_cell
      ∙ ap (λ (x : VarName). send_stack x e.port e.stack) (ap (old_end_of c) sends ∙ sym old_is)

  abbrev bundle : List Equation
  bundle = bundle_of limit s.equations (answer n y [])

  sent_is : d.sent ≡ sent_to o (answer n y bundle) ∷ []
  sent_is = ap (λ (x : VarName). with_own_bundle limit s.equations (sent_to o (msg.PortEnd n (old_end s q) x [])) ∷ []) next_is ∙ ap (λ (x : Letter). x ∷ []) (answer_filled limit s.equations o n y)

  told : Each (Contains c.equations) bundle
  told = each_more s.equations c.equations (λ x h. j.reached.parts.knowledge.known i x h) bundle (bundle_known limit s.equations (answer n y []))

  abbrev then_counters : ℕ → Counters
  then_counters = at_put (counters w.sites) i (counters_after (counters w.sites i) (variable_kinds 1))

  made : EachOfAnswer (IsMade then_counters) y
  made = (
    subst (λ (x : VarName). IsMade then_counters (name.Var x)) (sym old_is) (end_made (IsMade then_counters) c.ports q (act_all p i real less ks t r 0 o n ground.2 (variable_kinds 1) away asks.0 on).2 (inl refl)),
    (subst (EachOfPortChange (IsMade then_counters)) sends (act_made p i real less ks t r 0 o n ground.2 (variable_kinds 1) away asks.0 on).port).2,
  )

  abbrev u : Threads
  u = away_threads p i real less ks t r o n ground.2 (variable_kinds 1) away asks.0 on (EndOf q) y asks tt d row left_as

  abbrev v : World
  v = after_transition less i d

  reached : ReachedAt p (shown_world v u) (ks ++ d.picks) (act_next p i real less ks t r 0 o n ground.2 (variable_kinds 1) away asks.0 on)
  reached = away_reached p i real less ks t r o n ground.2 (variable_kinds 1) away asks.0 on (EndOf q) y asks tt d row left_as refl
      (away_may p i real less ks t r o n ground.2 (variable_kinds 1) away asks.0 on (EndOf q) y asks tt d row left_as bundle told made sent_is)

  -- ---- the rest

  homes_same : ◌≡◌ {A = ℕ → List (CellName × HomeRecord)} (homes v.sites) (homes w.sites)
  homes_same = field_kept (λ (x : Site). x.homes) w.sites i d.site refl

  mail_is : ◌≡◌ {A = Mail} v.mail (swap_mail w.mail early k w.sent o n y bundle)
  mail_is = ap (λ (ms : List Letter). less.mail ++ mail_from w.sent ms) sent_is

  others : (z : Claim) → IsClaim w.mail early z → z ≢ Asked k i (EndOf q) n o → IsLost (λ l. l ≡ k) z → ⊥
  others z h other = lost_request w.mail early j.reached.numbers.once k i (EndOf q) n o [] at z h other

  asking : AskingMatch p (eqs v.sites) (IsAsking (threads v.sites)) (IsClaim v.mail (early_at (homes v.sites))) u
  asking = subst (λ (f : ℕ → Store). AskingMatch p f (IsAsking (threads v.sites)) (IsClaim v.mail (early_at (homes v.sites))) u) (sym (field_kept (λ (x : Site). x.equations) w.sites i d.site refl))
      (subst (λ (f : ℕ → Threads). AskingMatch p (eqs w.sites) (IsAsking f) (IsClaim v.mail (early_at (homes v.sites))) u) (sym (field_kept (λ (x : Site). x.threads) w.sites i d.site refl))
      (subst (λ (f : ℕ → List (CellName × HomeRecord)). AskingMatch p (eqs w.sites) (IsAsking (threads w.sites)) (IsClaim v.mail (early_at f)) u) (sym homes_same)
      (subst (λ (m : Mail). AskingMatch p (eqs w.sites) (IsAsking (threads w.sites)) (IsClaim m early) u) (sym mail_is)
      (away_asking p i real less ks t r o n ground.2 (variable_kinds 1) away asks.0 on (EndOf q) y asks tt d row left_as (IsClaim w.mail early) (IsClaim (swap_mail w.mail early k w.sent o n y bundle) early) j.answers.asking ground.3 (Asked k i (EndOf q) n o) ([], at) refl (λ h. ground.1 (sym h ∙ sym ground.0)) w.sent
      (swap_from w.mail early k w.sent o n y bundle (Asked k i (EndOf q) n o) refl others) (swap_old w.mail early k w.sent o n y bundle (Asked k i (EndOf q) n o) refl others) (swap_there w.mail early k w.sent o n y bundle)))))

  wide : (l : ℕ) (x : VarName) → IsHere (records w.sites l) x → IsHere (records v.sites l) x
  wide = at_all w.sites i d.site (λ l (z : Site). (x : VarName) → IsHere (records w.sites l) x → IsHere z.records x) (act_wider p i real less ks t r 0 o n ground.2 (variable_kinds 1) away asks.0 on d row u) (λ l far x h. h)

  new_here : IsHere (records v.sites q.site) new
  new_here = subst (λ (l : ℕ). IsHere (records v.sites l) new) ground.0 (go (act_fresh p i real less ks t r 0 o n ground.2 (variable_kinds 1) away asks.0 on d row u).0)
    where
      go : here_at (records v.sites) i (name.Var new) → IsHere (records v.sites i) new
      go (inl h) = h
      go (inr h) = absurd (real h)

  old : (x : VarName) × (value_of equal_port c.ports q ≡ Some x)
  old = subst (FindsPort c.ports) sends (act_finds_port p i real less ks t r 0 o n ground.2 (variable_kinds 1) away asks.0 on)

  told_from : (l a : ℕ) (b : CellName) (x : VarName) → IsTold v.mail l a b x → IsTold w.mail l a b x
  told_from l a b x (es, h) = (es, swap_told_from w.mail early k w.sent o n y bundle i (msg.PortSend q n o) at j.reached.numbers.once (λ d z gs f. request_tells (EndOf q) n o [] d z gs f) l a b x es (subst (λ (m : Mail). IsOnItsWay m l a (msg.CellMake b x es)) mail_is h))

  told_old : (l a : ℕ) (b : CellName) (x : VarName) → IsTold w.mail l a b x → IsTold v.mail l a b x
  told_old l a b x (es, h) = (es, subst (λ (m : Mail). IsOnItsWay m l a (msg.CellMake b x es)) (sym mail_is) (swap_told_old w.mail early k w.sent o n y bundle i (msg.PortSend q n o) at j.reached.numbers.once (λ d z gs f. request_tells (EndOf q) n o [] d z gs f) l a b x es h))

  -- it has to do with no mobile cell
  pub send_leaves : Leaves p s c d (act_next p i real less ks t r 0 o n ground.2 (variable_kinds 1) away asks.0 on)
  send_leaves = act_leaves p i real less ks t r 0 o n ground.2 (variable_kinds 1) away asks.0 on d row

  -- it answers the thread that sends
  pub send_owes : Owes p s c d (n ∷ []) Nobody
  send_owes = owes_answer p s c d o n y bundle sent_is refl paid
    where
      paid : 1 ≤ sends_made p c d.picks
      paid =
          let same : sends_made p c d.picks ≡ send_one e.port = act_counted p i real less ks t r 0 o n ground.2 (variable_kinds 1) away asks.0 on (λ (x : Effect). send_one x.port) d row in
          let one : send_one e.port ≡ 1 = ap send_one sends in omega (arith, same, one)

  -- it has to do with no stationary cell
  pub send_balances : (R : ℕ → ThreadName → Type 0) → Balances p R (came_of (sent_to i (msg.PortSend q n o))) w.sites (put w.sites i d.site) c d
  send_balances R = still_balances p R w.sites (put w.sites i d.site) c d (came_of (sent_to i (msg.PortSend q n o))) (λ b th. refl) (λ b. ap (λ (hs : ℕ → List (CellName × HomeRecord)). early_at hs b) homes_same) none
      (subst (λ (ms : List Letter). count_by asks_content ms ≡ 0) (sym sent_is) refl) (subst (λ (ms : List Letter). count_by tells_content ms ≡ 0) (sym sent_is) refl)
    where
      none : (f : CellName → ThreadName → ℕ) → Vanishes f → exchanges_by f p c d.picks ≡ 0
      none f vanishes = act_exchanged p i real less ks t r 0 o n ground.2 (variable_kinds 1) away asks.0 on f d row ∙ ap (of_exchange f n) stays_cell

  pub send_joined : Joined p v (ks ++ d.picks)
  send_joined = record {
    transit = u;
    reached = whole reached;
    answers = record {
      asking = asking;
      named = λ l m a su h. (let g = j.answers.named l m a su (subst (λ (f : ℕ → Threads). IsAsking f l m a su) (field_kept (λ (x : Site). x.threads) w.sites i d.site refl) h) in (g.0, EachOfStack-weaker (IsHereName (records w.sites l)) (IsHereName (records v.sites l)) (here_wider (records w.sites l) (records v.sites l) (wide l)) su g.1));
      made = λ l m a su h. EachOfStack-weaker (IsMade (counters w.sites)) (IsMade (counters v.sites)) (made_grow w.sites i d.site (kinds_grow s.counters d.site.counters (variable_kinds 1) refl)) su (j.answers.made l m a su (subst (λ (f : ℕ → Threads). IsAsking f l m a su) (field_kept (λ (x : Site). x.threads) w.sites i d.site refl) h));
      ends = subst (λ (es : List (PortName × VarName)). PortsMatch (ports v.sites) (records v.sites) es) (sym (act_ports p i real less ks t r 0 o n ground.2 (variable_kinds 1) away asks.0 on ∙ ap (ports_after c.ports) sends))
          (port_kept (ports w.sites) (ports v.sites) (records w.sites) (records v.sites) c.ports (with_value equal_port c.ports q new) q new j.answers.ends
          (ended_at w.sites i d.site q new (sym ground.0) (ap (λ (x : VarName). insert_entry equal_port s.ports q x) next_is)) wide (moved_here c.ports q old.0 new old.1) (λ z other. moved_there c.ports q z new other) new_here);
      contents = subst (λ (cs : List (CellName × VarName)). HomesMatch (homes v.sites) (records v.sites) v.mail cs) (sym (act_cells p i real less ks t r 0 o n ground.2 (variable_kinds 1) away asks.0 on ∙ ap (cells_after c.cells) stays_cell))
          (same_homes (homes w.sites) (homes v.sites) (records w.sites) (records v.sites) w.mail v.mail c.cells homes_same wide told_from told_old j.answers.contents);
      early = early_same (homes w.sites) (homes v.sites) (records w.sites) (records v.sites) homes_same wide j.answers.early;
    };
    once = at_all w.sites i d.site (λ l (x : Site). AreDistinct (names x.threads)) (j.once i) (λ l far. j.once l);
  }

  -- the owner has the port
  pub send_takes : CanTake s (msg.PortSend q n o)
  send_takes = (sym ground.0 ∙ sym number, old.0, ap (λ (l : ℕ). lookup (equal_port q) (ports w.sites l)) ground.0 ∙ j.answers.ends.ends q ∙ old.1)
