-- A step on a port or on a stationary cell: what it adds, and that the machine makes it, with names that one site makes, of a thread that stands at
-- any number.
use Rattle.std.proofs.Common.{arith, ◌≡◌, ◌∙◌, sym, ap, refl, subst, ℕ, List, [], ◌∷◌, ◌+◌, ◌++◌, ◌⊎◌, inl, inr, append-nil, Some, None}
use Rattle.std.specs.Prelude.{Option, ◌≢◌, unwrap_or, option_to_list, IsSome, codes}
use Rattle.tree_node.specs.declared.names.VarName.{VarName}
use Rattle.tree_node.specs.declared.names.ThreadName.{ThreadName}
use Rattle.tree_node.specs.declared.names.Name.{Name}
use Rattle.tree_node.specs.declared.names.Name.TheVariants as name
use Rattle.tree_node.specs.declared.names.NameKind.{NameKind}
use Rattle.tree_node.specs.declared.node.Node.{Node}
use Rattle.tree_node.specs.declared.node.Term.{Term}
use Rattle.tree_node.specs.declared.pick.Pick.{Pick}
use Rattle.tree_node.specs.Assoc.{value_of, with_optional_value}
use Rattle.tree_node.specs.Each.{Each}
use Rattle.tree_node.specs.Env.{Env}
use Rattle.tree_node.specs.declared.item.Item.TheVariants.{Run, Goals, Mark, Report}
use Rattle.tree_node.specs.Goal.{Case, Dropped, Binds, Opened as Parted, Failed, case_of}
use Rattle.tree_node.specs.Shown.{shown}
use Rattle.tree_node.specs.Names.{EachOfStack}
use Rattle.tree_node.specs.State.{Stack, State, equal_thread}
use Rattle.tree_node.specs.Store.{Store, IsSound, IsFree, Equation}
use Rattle.kernel_syntax.specs.declared.stmt.Stmt.{Stmt}
use Rattle.kernel_syntax.specs.Free.{stmt_at}
use Rattle.oz_model.specs.declared.outcome.Outcome.{Outcome}
use Rattle.oz_model.specs.declared.outcome.Outcome.TheVariants as outcome
use Rattle.oz_model.specs.declared.outcome.SystemException.{SystemException}
use Rattle.oz_model.specs.declared.outcome.SystemException.TheVariants.{FailureTell}
use Rattle.oz_model.specs.Outcome.{outcome_of, print_outcome}
use Rattle.oz_model.specs.Need.{Need, Takes, stack_need, IsReady, kinds_of}
use Rattle.oz_model.specs.Effect.{Birth, CellChange, Stays, Made, Exchanged, PortChange, Keeps, Opened, Sent, Effect, outcome_effect, goal_effect, pair_effect, exception_effect, stack_effect, vars_among}
use Rattle.oz_model.specs.EffectNames.{EachOfEffect, EachOfChange, EachOfPortChange}
use Rattle.oz_model.specs.Step.{IsAllowed, IsBindFor, AreFresh, stack_of, effect_of, state_after, content_of, end_of, stack_with_content, stack_with_end, stack_left, living_stack, end_count, threads_born, next}
use Rattle.oz_model.proofs.NameLemmas.{Each-weaker}
use Rattle.oz_model.proofs.EffectNames.{step_names}
use Rattle.oz_model.proofs.WithinLemmas.{more_is_within}
use Rattle.oz_model.proofs.KeepLemmas.{steps_stay}
use Rattle.bind_protocol.specs.Records.{Records}
use Rattle.thread_roster.specs.declared.mode.Mode.TheVariants.{Runs}
use Rattle.site_model.specs.Cells.{exchange_stack, step_pick}
use Rattle.site_model.specs.Fit as Fit
use Rattle.site_model.specs.Requests.{send_stack}
use Rattle.site_model.specs.Site.{Threads, Counters}
use Rattle.site_model.specs.Unit.{next_names, counters_after}
use Rattle.site_model.specs.Variables.{after_makes}
use Rattle.world_model.specs.World.{Mail, at_put}
use Rattle.world_model.specs.Names.{IsMade, IsCentreMade}
use Rattle.world_model.specs.Matches.{PartsMatch}
use Rattle.world_model.proofs.PutLemmas.{at_here}
use Rattle.world_variables.specs.Plain.{IsKept}
use Rattle.world_variables.proofs.MakeLemmas.{IsNextOf, next_are, next_fresh, makes_parts}
use Rattle.world_variables.proofs.PlaceLemmas.{gone_on}
use Rattle.world_variables.proofs.StepLemmas.{goes_parts}

-- ---- the effect

-- it adds no equation, prints nothing and makes no thread; its thread goes on, whatever is told of an old content or an old end; and it is on a
-- cell or on a port, not on both
pub record IsQuiet (e : Effect) : Type 0 where
  pub adds : e.adds ≡ []
  pub born : e.born ≡ None
  pub line : e.line ≡ None
  pub goes : (end content : VarName) → living_stack (send_stack end e.port (exchange_stack content e.cell e.stack)) ≡ Some (send_stack end e.port (exchange_stack content e.cell e.stack))
  pub stays : (end content : VarName) → end_count (send_stack end e.port (exchange_stack content e.cell e.stack)) ≡ 0
  pub alone : (e.port ≡ Keeps) ⊎ (e.cell ≡ Stays)

fails_quiet : (x : SystemException) (rest : Stack) (xs : List VarName) → IsKept (exception_effect x rest xs) → IsQuiet (exception_effect x rest xs)
fails_quiet x rest [] h = absurd h
fails_quiet x rest (a ∷ []) h = absurd h
fails_quiet x rest (a ∷ b ∷ []) h = absurd h
fails_quiet x rest (a ∷ b ∷ y ∷ ys) h = absurd h

outcome_quiet : (p : List Stmt) (env : Env) (rest : Stack) (fresh : List Name) (o : Outcome) → IsKept (outcome_effect p env rest fresh o) → IsQuiet (outcome_effect p env rest fresh o)
outcome_quiet p env rest fresh (outcome.MakesCell at content t) h = record { adds = refl; born = refl; line = refl; goes = λ e c. refl; stays = λ e c. refl; alone = inl refl }
outcome_quiet p env rest fresh (outcome.Exchanges cell n t) h = record { adds = refl; born = refl; line = refl; goes = λ e c. refl; stays = λ e c. refl; alone = inl refl }
outcome_quiet p env rest fresh (outcome.MakesPort stream t) h = record { adds = refl; born = refl; line = refl; goes = λ e c. refl; stays = λ e c. refl; alone = inr refl }
outcome_quiet p env rest fresh (outcome.Sends port value) h = record { adds = refl; born = refl; line = refl; goes = λ e c. refl; stays = λ e c. refl; alone = inr refl }
outcome_quiet p env rest fresh (outcome.Fails exception) h = fails_quiet exception rest (vars_among fresh) h
outcome_quiet p env rest fresh (outcome.Waits x) h = absurd h
outcome_quiet p env rest fresh (outcome.WaitsAny left right) h = absurd h
outcome_quiet p env rest fresh (outcome.Runs bodies) h = absurd h
outcome_quiet p env rest fresh (outcome.Tells x t) h = absurd h
outcome_quiet p env rest fresh (outcome.Declares first count body) h = absurd h
outcome_quiet p env rest fresh (outcome.MakesProc left code formals vars) h = absurd h
outcome_quiet p env rest fresh (outcome.Spawns at body vars) h = absurd h
outcome_quiet p env rest fresh (outcome.Tries body body_env handler first handler_env) h = absurd h
outcome_quiet p env rest fresh (outcome.Raises x) h = absurd h
outcome_quiet p env rest fresh (outcome.Prints line) h = absurd h

pair_quiet : (a b : Term) (pairs : List (Term × Term)) (met : List (Node × Node)) (rest : Stack) (fresh : List Name) (x : Case) → IsKept (pair_effect a b pairs met rest fresh None x) → IsQuiet (pair_effect a b pairs met rest fresh None x)
pair_quiet a b pairs met rest fresh Dropped h = absurd h
pair_quiet a b pairs met rest fresh Binds h = absurd h
pair_quiet a b pairs met rest fresh (Parted m n fields) h = absurd h
pair_quiet a b pairs met rest fresh Failed h = fails_quiet FailureTell rest (vars_among fresh) h

pub kept_quiet : (p : List Stmt) (s : Store) (fresh : List Name) (st : Stack) → IsKept (stack_effect p s fresh None st) → IsQuiet (stack_effect p s fresh None st)
kept_quiet p s fresh [] h = absurd h
kept_quiet p s fresh (Run code env ∷ rest) h = outcome_quiet p env rest fresh (outcome_of p s code env (stmt_at p code)) h
kept_quiet p s fresh (Mark code at env ∷ rest) h = absurd h
kept_quiet p s fresh (Report x ∷ rest) h = outcome_quiet p [] rest fresh (print_outcome (codes "uncaught ") (shown s x)) h
kept_quiet p s fresh (Goals b ∷ rest) h = go b.pairs h
  where
    go : (pairs : List (Term × Term)) → IsKept (goal_effect s b.met rest fresh None pairs) → IsQuiet (goal_effect s b.met rest fresh None pairs)
    go [] h = absurd h
    go ((x, y) ∷ pairs) h = pair_quiet x y pairs b.met rest fresh (case_of s b.met x y) h

-- ---- the stack that is left

-- the old end and the old content
abbrev pub old_end_of : State → PortChange → VarName
old_end_of z (Sent q value new) = end_of z.ports q
old_end_of z _ = record { site = 0; num = 0 }

abbrev pub old_content_of : State → CellChange → VarName
old_content_of z (Exchanged c new told) = content_of z.cells c
old_content_of z _ = record { site = 0; num = 0 }

pub left_is : (z : State) (e : Effect) → stack_left z e ≡ send_stack (old_end_of z e.port) e.port (exchange_stack (old_content_of z e.cell) e.cell e.stack)
left_is z e = ported e.port (stack_with_content z.cells e.cell e.stack) ∙ ap (send_stack (old_end_of z e.port) e.port) (celled e.cell)
  where
    ported : (q : PortChange) (st : Stack) → stack_with_end z.ports q st ≡ send_stack (old_end_of z q) q st
    ported Keeps st = refl
    ported (Opened q end) st = refl
    ported (Sent q value new) st = refl

    celled : (ch : CellChange) → stack_with_content z.cells ch e.stack ≡ exchange_stack (old_content_of z ch) ch e.stack
    celled Stays = refl
    celled (Made c v) = refl
    celled (Exchanged c new told) = refl

-- its names are those of the effect, the old end and the old content
pub left_names : (P : Name → Type 0) (z : State) (e : Effect) → EachOfEffect P e → P (name.Var (old_end_of z e.port)) → P (name.Var (old_content_of z e.cell)) → EachOfStack P (stack_left z e)
left_names P z e names end content = subst (EachOfStack P) (sym (left_is z e)) (ported e.port names.port end (celled e.cell names.cell content))
  where
    celled : (ch : CellChange) → EachOfChange P ch → P (name.Var (old_content_of z ch)) → EachOfStack P (exchange_stack (old_content_of z ch) ch e.stack)
    celled Stays h c = names.stack
    celled (Made d v) h c = names.stack
    celled (Exchanged d new told) h c = ((((h.2, c), tt), tt), names.stack)

    ported : (q : PortChange) → EachOfPortChange P q → P (name.Var (old_end_of z q)) → EachOfStack P (exchange_stack (old_content_of z e.cell) e.cell e.stack) → EachOfStack P (send_stack (old_end_of z q) q (exchange_stack (old_content_of z e.cell) e.cell e.stack))
    ported Keeps h c rest = rest
    ported (Opened q end) h c rest = rest
    ported (Sent q value new) h c rest = ((((c, (h.1, (h.2, tt))), tt), tt), rest)

-- ---- the step

-- thread n stands at number a and can go on, its stack is read by what site i knows, and site o makes the names
module _ (p : List Stmt) (here : ℕ → Name → Type 0) (eqs : ℕ → Store) (records : ℕ → Records) (threads : ℕ → Threads) (made : ℕ → Counters) (mail : Mail) (z : State) (parts : PartsMatch p here eqs records threads made mail z)
    (o a i : ℕ) (n : ThreadName) (st : Stack) (kinds : List NameKind) (real : o ≢ 0) (sound : IsSound z.equations) (at : value_of equal_thread (threads a) n ≡ Some (st, Runs)) (need : stack_need p (eqs i) st ≡ Takes kinds) where
  abbrev pub fresh : List Name
  fresh = next_names o (made o) kinds

  abbrev pub served : Pick
  served = step_pick n fresh None

  abbrev pub effect : Effect
  effect = stack_effect p (eqs i) fresh None st

  abbrev left : Stack
  left = stack_left z effect

  pub central : value_of equal_thread z.threads n ≡ Some st
  central = parts.placed.up a n st (Runs, at)

  stack_is : stack_of z n ≡ st
  stack_is = ap (λ (r : Option Stack). unwrap_or r []) central

  kept : (stack_need p z.equations st ≡ Takes kinds) × ((ns : List Name) (bind : Option Equation) → stack_effect p (eqs i) ns bind st ≡ stack_effect p z.equations ns bind st)
  kept = steps_stay p (eqs i) z.equations st kinds sound (more_is_within (eqs i) z.equations (parts.knowledge.known i)) need

  pub effect_is : effect_of p z served ≡ effect
  effect_is = ap (λ (q : Stack). stack_effect p z.equations fresh None q) stack_is ∙ sym (kept.1 fresh None)

  pub news : AreFresh z kinds fresh
  news = next_fresh made z o kinds real parts.centred

  -- the machine allows it: the names occur nowhere, since the site that makes them did not make them before
  pub allowed : IsAllowed p z served
  allowed = record {
    lives = subst (λ (r : Option Stack). IsSome r) (sym central) refl;
    ready = subst (λ (q : Stack). IsReady (stack_need p z.equations q)) (sym stack_is) (subst IsReady (sym kept.0) tt);
    fresh = subst (λ (q : Stack). AreFresh z (kinds_of (stack_need p z.equations q)) fresh) (sym stack_is) (subst (λ (d : Need). AreFresh z (kinds_of d) fresh) (sym kept.0) news);
    bind = subst (λ (q : Stack). IsBindFor z.equations (stack_need p z.equations q) None) (sym stack_is) (subst (λ (d : Need). IsBindFor z.equations d None) (sym kept.0) tt);
  }

  abbrev pub counters_then : ℕ → Counters
  counters_then = at_put made o (counters_after (made o) kinds)

  abbrev pub records_then : ℕ → Records
  records_then = at_put records o (after_makes (records o) (vars_among fresh))

  pub fresh_made : Each (IsMade counters_then) fresh
  fresh_made = Each-weaker _ _ one fresh (next_are o (made o) kinds)
    where
      one : (x : Name) → IsNextOf o (made o) (counters_after (made o) kinds) x → IsMade counters_then x
      one x r = inr (subst (λ (j : ℕ). Fit.IsBelowCounter (counters_then j) x) (sym r.0) (subst (λ (m : Counters). Fit.IsBelowCounter m x) (sym (at_here made o (counters_after (made o) kinds))) r.2))

  -- the state that follows
  pub all : next p z served ≡ state_after p z n effect
  all = ap (state_after p z n) effect_is

  -- the machine makes it, and is matched with the thread's new stack
  pub step_kept : IsKept effect → EachOfStack (here a) left → PartsMatch p here eqs records_then (gone_on threads a n (Some left)) counters_then mail (next p z served)
  step_kept on names = goes_parts p here eqs records_then threads counters_then mail z made_now a n st (Some left) (next p z served) at
      (λ sv q. subst (λ (y : Stack). EachOfStack (here a) y) (let same : left ≡ sv = cc in same) names) equations ts centred
    where
      quiet : IsQuiet effect
      quiet = kept_quiet p (eqs i) fresh st on

      made_now : PartsMatch p here eqs records_then threads counters_then mail z
      made_now = makes_parts p here eqs threads mail z o kinds records made parts

      equations : (next p z served).equations ≡ z.equations
      equations = ap (λ (t : State). t.equations) all ∙ ap (λ (es : List Equation). es ++ z.equations) quiet.adds

      living : living_stack left ≡ Some left
      living = subst (λ (q : Stack). living_stack q ≡ Some q) (sym (left_is z effect)) (quiet.goes (old_end_of z effect.port) (old_content_of z effect.cell))

      ts : (next p z served).threads ≡ with_optional_value equal_thread z.threads n (Some left)
      ts = ap (λ (t : State). t.threads) all
          ∙ ap (λ (b : Option Birth). threads_born p b ++ with_optional_value equal_thread z.threads n (living_stack left)) quiet.born
          ∙ ap (λ (r : Option Stack). with_optional_value equal_thread z.threads n r) living

      centred : IsCentreMade counters_then (next p z served)
      centred = record {
        all = step_names (IsMade counters_then) (inl refl) p z served made_now.centred.all fresh_made allowed;
        nobody = λ y h. subst (λ (q : Store). IsFree q y) (sym equations) (parts.centred.nobody y h);
      }

  -- lines and ended threads stay
  pub kept_told : IsKept effect → ((next p z served).lines ≡ z.lines) × ((next p z served).ended ≡ z.ended)
  kept_told on = (
    ap (λ (t : State). t.lines) all ∙ ap (λ (l : Option (List ℕ)). z.lines ++ option_to_list l) quiet.line ∙ append-nil z.lines,
    ap (λ (t : State). t.ended) all ∙ ap (λ (q : Stack). z.ended + end_count q) (left_is z effect) ∙ ap (λ (k : ℕ). z.ended + k) (quiet.stays (old_end_of z effect.port) (old_content_of z effect.cell)) ∙ omega arith,
  )
    where
      quiet : IsQuiet effect
      quiet = kept_quiet p (eqs i) fresh st on
