-- A site answers a thread of another site: the machine makes the thread's step, and the answer travels.
use Rattle.std.proofs.Common.{◌≡◌, ◌∙◌, sym, ap, refl, subst, ℕ, List, [], ◌∷◌, ◌++◌, ◌⊎◌, inr, Some, None}
use Rattle.std.specs.Prelude.{Contains, ◌≢◌}
use Rattle.tree_node.specs.declared.names.ThreadName.{ThreadName}
use Rattle.tree_node.specs.declared.names.Name.{Name}
use Rattle.tree_node.specs.declared.names.Name.TheVariants as name
use Rattle.tree_node.specs.declared.names.NameKind.{NameKind}
use Rattle.tree_node.specs.declared.pick.Pick.{Pick}
use Rattle.tree_node.specs.Assoc.{value_of, with_value}
use Rattle.tree_node.specs.Each.{Each, AreDistinct}
use Rattle.tree_node.specs.Names.{EachOfEquation, EachOfStack}
use Rattle.tree_node.specs.State.{Stack, State, equal_thread}
use Rattle.tree_node.specs.Store.{Store, Equation}
use Rattle.tree_node.proofs.NameLemmas.{same_thread_decides}
use Rattle.kernel_syntax.specs.declared.stmt.Stmt.{Stmt}
use Rattle.site_message.specs.declared.message.Sent.{Sent}
use Rattle.oz_model.specs.Effect.{stack_effect, vars_among}
use Rattle.oz_model.specs.Need.{Takes, stack_need}
use Rattle.oz_model.specs.Step.{stack_left}
use Rattle.oz_model.proofs.NameLemmas.{Each-weaker, EachOfEquation-weaker}
use Rattle.bind_protocol.specs.Records.{Records}
use Rattle.thread_roster.specs.declared.mode.Mode.TheVariants as mode
use Rattle.site_model.specs.Cells.{step_pick}
use Rattle.site_model.specs.Fit as Fit
use Rattle.site_model.specs.Requests.{Answer, NewEnd, OldContent}
use Rattle.site_model.specs.Site.{Threads, Counters}
use Rattle.site_model.specs.Transition.{Transition}
use Rattle.site_model.specs.Unit.{next_names, counters_after}
use Rattle.site_model.specs.Variables.{after_makes}
use Rattle.world_model.specs.Claims.{Asking, awaited, Asks, IsAnswerTo, answer, answered, Claim, Answered, claimant, IsAsking, AskingMatch, keeper_of}
use Rattle.world_model.specs.Matches.{PartsMatch}
use Rattle.world_model.specs.Names.{IsMade, here_at}
use Rattle.world_model.specs.Shown.{standing, shown, shown_world}
use Rattle.world_model.specs.World.{World, at_put, put, eqs, records, threads, counters, after_transition}
use Rattle.world_model.proofs.KeyLemmas.{with_here, with_there}
use Rattle.world_model.proofs.MailLemmas.{sent_to}
use Rattle.world_model.proofs.PutLemmas.{at_here, at_other}
use Rattle.world_variables.specs.Plain.{IsKept}
use Rattle.world_variables.specs.Sums.{names}
use Rattle.world_variables.proofs.FollowLemmas.{value_each}
use Rattle.world_variables.proofs.PlaceLemmas.{gone_on}
use Rattle.world_variables.proofs.RegisterLemmas.{MaySend}
use Rattle.world_variables.proofs.SumLemmas.{with_names}
use Rattle.world_cells.specs.Reached.{Reached}
use Rattle.world_cells.proofs.QueueLemmas.{SameWaiters, goes_waiters, running_not, waiters_same}
use Rattle.world_cells.proofs.SendLemmas.{each_part}
use Rattle.world_answers.proofs.ActLemmas.{IsKeptAct, act_next, act_here, act_all, act_equations, act_reached}
use Rattle.world_answers.proofs.AnswerLemmas.{EachOfAnswer, answered_names, asking_one}
use Rattle.world_answers.proofs.ClaimLemmas.{turns_away}
use Rattle.world_answers.proofs.PackLemmas.{ReachedAt, shown_is}
use Rattle.world_answers.proofs.SayLemmas.{answer_bundle, keepers_may}
use Rattle.world_answers.proofs.StandLemmas.{EachOfStack-weaker, answer_not}
use Rattle.world_answers.proofs.ShownLemmas.{shown_threads_real}

pub answer_made : (P : Name → Type 0) (n : ThreadName) (y : Answer) (bundle : List Equation) → P (name.Thread n) → EachOfAnswer P y → Each (EachOfEquation P) bundle → Fit.EachOfMsg P (answer n y bundle)
answer_made P n (NewEnd old new) bundle h g k = (h, g.0, g.1, k)
answer_made P n (OldContent v) bundle h g k = (h, g, k)

every_answer : (P : Name → Type 0) → ((x : Name) → P x) → (y : Answer) → EachOfAnswer P y
every_answer P f (NewEnd old new) = (f (name.Var old), f (name.Var new))
every_answer P f (OldContent v) = f (name.Var v)

module _ (p : List Stmt) (i : ℕ) (real : i ≢ 0) (w : World) (ks : List Pick) (t : Threads) (r : Reached p (shown_world w t) ks) (o : ℕ) (n : ThreadName) (st : Stack) (kinds : List NameKind) (at : value_of equal_thread t n ≡ Some (st, mode.Runs)) (need : stack_need p (eqs w.sites o) st ≡ Takes kinds)
    (on : IsKept (stack_effect p (eqs w.sites o) (next_names i (counters w.sites i) kinds) None st)) (b : Asking) (y : Answer) (asks : Asks p (eqs w.sites o) st b) (fits : IsAnswerTo b y)
    (d : Transition) (row : IsKeptAct (w.sites i) kinds (next_names i (counters w.sites i) kinds) (step_pick n (next_names i (counters w.sites i) kinds) None) d)
    (left_is : stack_left r.centre (stack_effect p (eqs w.sites o) (next_names i (counters w.sites i) kinds) None st) ≡ answered p (eqs w.sites o) y st) where
  abbrev c : State
  c = r.centre

  abbrev fresh : List Name
  fresh = next_names i (counters w.sites i) kinds

  abbrev left : Stack
  left = stack_left c (stack_effect p (eqs w.sites o) fresh None st)

  -- the thread's stack at number 0 is the one that the answer will leave
  abbrev pub away_threads : Threads
  away_threads = with_value equal_thread t n (left, mode.Runs)

  abbrev v : World
  v = after_transition w i d

  abbrev then_counters : ℕ → Counters
  then_counters = at_put (counters w.sites) i (counters_after (counters w.sites i) kinds)

  abbrev then_records : ℕ → Records
  then_records = at_put (records w.sites) i (after_makes (records w.sites i) (vars_among fresh))

  every : (x : Name) → act_here p i real w ks t r 0 o n st kinds at need on d row away_threads 0 x
  every x = inr refl

  pub away_names : EachOfStack (act_here p i real w ks t r 0 o n st kinds at need on d row away_threads 0) left
  away_names = subst (EachOfStack Here) (sym left_is) (answered_names Here (every (name.Var (record { site = 0; num = 0 }))) p (eqs w.sites o) st
      (Each-weaker (EachOfEquation (here_at (records w.sites) o)) (EachOfEquation Here) (λ q h. EachOfEquation-weaker (here_at (records w.sites) o) Here (λ x g. every x) q h) (eqs w.sites o) (r.parts.homes o).equations)
      (EachOfStack-weaker (here_at (records w.sites) 0) Here (λ x g. every x) st ((r.parts.homes 0).stacks n (st, mode.Runs) at)) b y asks fits (every_answer Here every y))
    where
      Here : Name → Type 0
      Here = act_here p i real w ks t r 0 o n st kinds at need on d row away_threads 0

  thread_made : IsMade then_counters (name.Thread n)
  thread_made = (value_each (IsMade then_counters) c.threads n st (act_all p i real w ks t r 0 o n st kinds at need on).3 (r.parts.placed.up 0 n st (mode.Runs, at))).0

  -- what the answer may say
  pub away_may : (bundle : List Equation) → Each (Contains c.equations) bundle → EachOfAnswer (IsMade then_counters) y → d.sent ≡ sent_to o (answer n y bundle) ∷ [] → MaySend p (eqs w.sites) then_records (threads (shown (put w.sites i d.site) away_threads)) then_counters (act_next p i real w ks t r 0 o n st kinds at need on).equations d.sent
  away_may bundle told made sent = subst (λ (ms : List Sent). MaySend p (eqs w.sites) then_records (threads (shown (put w.sites i d.site) away_threads)) then_counters (act_next p i real w ks t r 0 o n st kinds at need on).equations ms) (sym sent)
      (keepers_may p (eqs w.sites) then_records (threads (shown (put w.sites i d.site) away_threads)) then_counters (act_next p i real w ks t r 0 o n st kinds at need on).equations o (answer n y bundle) (answer_not n y bundle)
      (answer_bundle (Contains (act_next p i real w ks t r 0 o n st kinds at need on).equations) n y bundle (subst (λ (es : Store). Each (Contains es) bundle) (sym (act_equations p i real w ks t r 0 o n st kinds at need on)) told))
      (answer_made (IsMade then_counters) n y bundle thread_made made (each_part (EachOfEquation (IsMade then_counters)) c.equations (act_all p i real w ks t r 0 o n st kinds at need on).0 bundle told)))

  -- the machine makes the step
  pub away_reached : d.site.threads ≡ (w.sites i).threads → MaySend p (eqs w.sites) then_records (threads (shown (put w.sites i d.site) away_threads)) then_counters (act_next p i real w ks t r 0 o n st kinds at need on).equations d.sent → ReachedAt p (shown_world v away_threads) (ks ++ d.picks) (act_next p i real w ks t r 0 o n st kinds at need on)
  away_reached same may = act_reached p i real w ks t r 0 o n st kinds at need on d row away_threads away_names may adapt
      (λ a. subst (λ (ts : Threads). SameWaiters (standing (w.sites i).threads) (standing ts) a) (sym same) (waiters_same (standing (w.sites i).threads) a))
      (λ a. goes_waiters t n (Some (left, mode.Runs)) (st, mode.Runs) a at (λ su q. running_not st su a q) (λ su q. running_not left su a q))
      (subst (λ (ts : Threads). AreDistinct (names ts)) (shown_threads_real w.sites t i real ∙ ap standing (sym same)) (r.sums.once i))
      (subst (λ (xs : List ThreadName). AreDistinct xs) (sym (with_names t n (left, mode.Runs))) (r.sums.once 0))
    where
      Parts : (ℕ → Threads) → Type 0
      Parts g = PartsMatch p (act_here p i real w ks t r 0 o n st kinds at need on d row away_threads) (eqs w.sites) then_records g then_counters w.mail (act_next p i real w ks t r 0 o n st kinds at need on)

      tables : ◌≡◌ {A = ℕ → Threads} (gone_on (threads (shown w.sites t)) 0 n (Some left)) (threads (shown (put w.sites i d.site) away_threads))
      tables = shown_is w.sites away_threads i d.site (gone_on (threads (shown w.sites t)) 0 n (Some left)) real (at_here (threads (shown w.sites t)) 0 _)
          (at_other (threads (shown w.sites t)) 0 _ i real ∙ shown_threads_real w.sites t i real ∙ ap standing (sym same)) (λ k far other. at_other (threads (shown w.sites t)) 0 _ k far ∙ shown_threads_real w.sites t k far)

      adapt : Parts (gone_on (threads (shown w.sites t)) 0 n (Some left)) → Parts (threads (shown (put w.sites i d.site) away_threads))
      adapt h = subst Parts tables h

  -- the thread's claim is the answer that travels
  module _ (claims now : Claim → Type 0) (m : AskingMatch p (eqs w.sites) (IsAsking (threads w.sites)) claims t) (waits : IsAsking (threads w.sites) o n (awaited b) st) (x : Claim) (holds : claims x) (is : claimant x ≡ n) (far : keeper_of (awaited b) ≢ o) (number : ℕ)
      (from : (z : Claim) → now z → (claims z × (z ≢ x)) ⊎ (z ≡ Answered number o n y)) (old : (z : Claim) → claims z → z ≢ x → now z) (there : now (Answered number o n y)) where
    pub away_asking : AskingMatch p (eqs w.sites) (IsAsking (threads w.sites)) now away_threads
    away_asking = turns_away p (eqs w.sites) (IsAsking (threads w.sites)) claims t m o n (awaited b) st x (λ a su h. asking_one (threads w.sites) o n (awaited b) st waits a su h) waits holds is
        (Answered number o n y) left now away_threads refl (with_here equal_thread same_thread_decides t n (left, mode.Runs) (st, mode.Runs) at) (λ z other. with_there equal_thread same_thread_decides t n z (left, mode.Runs) other)
        (refl, b, refl, asks, fits, left_is) (awaited b, st, waits, far) from old there
