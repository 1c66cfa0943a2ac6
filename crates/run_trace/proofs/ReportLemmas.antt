-- Each report comes of an exception that nothing caught.
use Rattle.std.proofs.Common.{arith, ◌≡◌, ◌≢◌, ◌∙◌, sym, ap, refl, subst, ℕ, suc, ◌<◌, ◌≤◌, List, [], ◌∷◌, ◌++◌, map, ◌⊎◌, inl, inr, Bool, true, false, cond, Some, None}
use Rattle.std.specs.Prelude.{Option, IsSome, Contains, unwrap_or, option_to_list, codes}
use Rattle.std.proofs.lemmas.List.{append_assoc, append-nil}
use Rattle.std.proofs.lemmas.List.Elements.{Contains-append_left, Contains-append_right}
use Rattle.tree_node.specs.declared.names.VarName.{VarName}
use Rattle.tree_node.specs.declared.names.ThreadName.{ThreadName}
use Rattle.tree_node.specs.declared.names.CodeId.{CodeId}
use Rattle.tree_node.specs.declared.names.Name.{Name}
use Rattle.tree_node.specs.declared.names.Name.TheVariants as name
use Rattle.tree_node.specs.declared.node.Node.{Node}
use Rattle.tree_node.specs.declared.node.Term.{Term}
use Rattle.tree_node.specs.declared.item.Item.{Item}
use Rattle.tree_node.specs.declared.item.Item.TheVariants.{Run, Goals, Mark, Report}
use Rattle.tree_node.specs.declared.pick.Pick.{Pick}
use Rattle.tree_node.specs.Assoc.{value_of, with_optional_value}
use Rattle.tree_node.specs.Each.{Each}
use Rattle.tree_node.specs.Env.{Env, env_for, restriction}
use Rattle.tree_node.specs.Goal.{Case, Dropped, Binds, Opened, Failed, case_of}
use Rattle.tree_node.specs.Names.{EachOfThread, IsNew}
use Rattle.tree_node.specs.Shown.{Show, shown}
use Rattle.tree_node.specs.Shown as show
use Rattle.tree_node.specs.State.{Block, Stack, State, equal_thread}
use Rattle.tree_node.specs.Store.{Equation}
use Rattle.tree_node.specs.Unwind.{stack_after_raise}
use Rattle.tree_node.proofs.AssocLemmas.{keys, Each-key, value_of-goes_on, value_of-goes_on-other}
use Rattle.tree_node.proofs.EachLemmas.{each_append}
use Rattle.tree_node.proofs.NameLemmas.{same_thread_decides}
use Rattle.kernel_syntax.specs.declared.stmt.Stmt.{Stmt}
use Rattle.kernel_syntax.specs.Free.{stmt_at, free}
use Rattle.oz_model.specs.declared.outcome.Outcome.{Outcome}
use Rattle.oz_model.specs.declared.outcome.Outcome.TheVariants as outcome
use Rattle.oz_model.specs.declared.outcome.SystemException.{SystemException}
use Rattle.oz_model.specs.declared.outcome.SystemException.TheVariants.{FailureTell}
use Rattle.oz_model.specs.Outcome.{outcome_of, print_outcome}
use Rattle.oz_model.specs.Effect.{Birth, body_item, stack_effect, outcome_effect, goal_effect, pair_effect, exception_effect, run_item, vars_among}
use Rattle.oz_model.specs.Run.{IsRun, start}
use Rattle.oz_model.specs.Run as run
use Rattle.oz_model.specs.Step.{IsAllowed, effect_of, living_stack, next, stack_left, stack_of, threads_born}
use Rattle.oz_model.proofs.OnceLemmas.{BornFrom, stack_born}
use Rattle.run_trace.specs.declared.findings.Begun.{Begun}
use Rattle.run_trace.specs.declared.findings.Raise.{Raise}
use Rattle.run_trace.specs.Begun.{begun_on, begun_with, last_begun}
use Rattle.run_trace.specs.Raised.{second_of, raised_by, raised_by_pair, raised_by_goals, raised_on, is_caught, raise_of, raise_in, raises_from, raises, uncaught}
use Rattle.run_trace.specs.Laws.{UncaughtAreAll, PlacesRise, RaisesAreOnce}
use Rattle.run_trace.proofs.BegunLemmas.{last_thread, last_other, last_here, last_more}
use Rattle.run_trace.proofs.UncaughtLemmas.{uncaught_append}

-- ---- reports stand alone

-- the item is no report
abbrev pub IsPlain : Item Block → Type 0
IsPlain (Report x) = ⊥
IsPlain _ = Unit {0}

-- a stack has no report, or is one
abbrev pub IsProper : Stack → Type 0
IsProper stack = Each IsPlain stack ⊎ ((x : VarName) × (stack ≡ Report x ∷ []))

-- the stack has no report, or is that of the variable that was raised
abbrev IsLeft : Option VarName → Stack → Type 0
IsLeft raised stack = Each IsPlain stack ⊎ ((x : VarName) × (raised ≡ Some x) × (stack ≡ Report x ∷ []))

runs_plain : (cs : List (CodeId × Env)) → Each IsPlain (map run_item cs)
runs_plain [] = tt
runs_plain (c ∷ cs) = (tt, runs_plain cs)

raise_left : (rest : Stack) (x : VarName) → Each IsPlain rest → IsLeft (Some x) (stack_after_raise rest x)
raise_left [] x h = inr (x, refl, refl)
raise_left (Run code env ∷ rest) x h = raise_left rest x h.1
raise_left (Goals b ∷ rest) x h = raise_left rest x h.1
raise_left (Mark code at env ∷ rest) x h = inl (tt, h.1)
raise_left (Report y ∷ rest) x h = absurd h.0

fails_left : (s : State) (exception : SystemException) (rest : Stack) (xs : List VarName) → Each IsPlain rest → IsLeft (second_of xs) (stack_left s (exception_effect exception rest xs))
fails_left s exception rest [] h = inl h
fails_left s exception rest (a ∷ []) h = inl h
fails_left s exception rest (a ∷ y ∷ []) h = raise_left rest y h
fails_left s exception rest (a ∷ y ∷ z ∷ zs) h = inl h

outcome_left : (p : List Stmt) (s : State) (env : Env) (rest : Stack) (fresh : List Name) (o : Outcome) → Each IsPlain rest → IsLeft (raised_by (vars_among fresh) o) (stack_left s (outcome_effect p env rest fresh o))
outcome_left p s env rest fresh (outcome.Raises y) h = raise_left rest y h
outcome_left p s env rest fresh (outcome.Fails exception) h = fails_left s exception rest (vars_among fresh) h
outcome_left p s env rest fresh (outcome.Waits y) h = inl h
outcome_left p s env rest fresh (outcome.WaitsAny left right) h = inl h
outcome_left p s env rest fresh (outcome.Runs codes) h = inl (each_append IsPlain (map run_item codes) rest (runs_plain codes) h)
outcome_left p s env rest fresh (outcome.Tells y t) h = inl (tt, h)
outcome_left p s env rest fresh (outcome.Declares first count body) h = inl (tt, h)
outcome_left p s env rest fresh (outcome.MakesProc left code formals vars) h = inl (tt, h)
outcome_left p s env rest fresh (outcome.MakesCell at content told) h = inl (tt, h)
outcome_left p s env rest fresh (outcome.Exchanges cell new told) h = inl (tt, h)
outcome_left p s env rest fresh (outcome.MakesPort stream told) h = inl (tt, h)
outcome_left p s env rest fresh (outcome.Sends port value) h = inl (tt, h)
outcome_left p s env rest fresh (outcome.Spawns at body vars) h = inl h
outcome_left p s env rest fresh (outcome.Tries body body_env handler first handler_env) h = inl (tt, (tt, h))
outcome_left p s env rest fresh (outcome.Prints line) h = inl h

pair_left : (s : State) (a b : Term) (pairs : List (Term × Term)) (met : List (Node × Node)) (rest : Stack) (fresh : List Name) (bind : Option Equation) (c : Case) → Each IsPlain rest →
    IsLeft (raised_by_pair (vars_among fresh) c) (stack_left s (pair_effect a b pairs met rest fresh bind c))
pair_left s a b pairs met rest fresh bind Dropped h = inl (tt, h)
pair_left s a b pairs met rest fresh bind Binds h = inl (tt, h)
pair_left s a b pairs met rest fresh bind (Opened m n fields) h = inl (tt, h)
pair_left s a b pairs met rest fresh bind Failed h = fails_left s FailureTell rest (vars_among fresh) h

plain_left : (p : List Stmt) (s : State) (fresh : List Name) (bind : Option Equation) (stack : Stack) → Each IsPlain stack → IsLeft (raised_on p s.equations fresh stack) (stack_left s (stack_effect p s.equations fresh bind stack))
plain_left p s fresh bind [] h = inl tt
plain_left p s fresh bind (Run code env ∷ rest) h = outcome_left p s env rest fresh (outcome_of p s.equations code env (stmt_at p code)) h.1
plain_left p s fresh bind (Mark code at env ∷ rest) h = inl h.1
plain_left p s fresh bind (Report y ∷ rest) h = absurd h.0
plain_left p s fresh bind (Goals b ∷ rest) h = go b.pairs
  where
    go : (pairs : List (Term × Term)) → IsLeft (raised_by_goals s.equations (vars_among fresh) b.met pairs) (stack_left s (goal_effect s.equations b.met rest fresh bind pairs))
    go [] = inl h.1
    go ((l, r) ∷ pairs) = pair_left s l r pairs b.met rest fresh bind (case_of s.equations b.met l r) h.1

-- a report that is printed is gone
print_left : (p : List Stmt) (s : State) (fresh : List Name) (words : List ℕ) (found : Show) → stack_left s (outcome_effect p [] [] fresh (print_outcome words found)) ≡ []
print_left p s fresh words (show.Text text left) = refl
print_left p s fresh words (show.Needs x) = refl

pub proper_left : (p : List Stmt) (s : State) (fresh : List Name) (bind : Option Equation) (stack : Stack) → IsProper stack → IsLeft (raised_on p s.equations fresh stack) (stack_left s (stack_effect p s.equations fresh bind stack))
proper_left p s fresh bind stack (inl plain) = plain_left p s fresh bind stack plain
proper_left p s fresh bind stack (inr (x, is)) =
    subst (λ (st : Stack). IsLeft (raised_on p s.equations fresh st) (stack_left s (stack_effect p s.equations fresh bind st))) (sym is)
    (inl (subst (Each IsPlain) (sym (print_left p s fresh (codes "uncaught ") (shown s.equations x))) tt))

-- ---- the stacks behind a step

thread_names : (ts : List (ThreadName × Stack)) (n : ThreadName) → Each (EachOfThread (λ y. y ≢ name.Thread n)) ts → Each (λ m. m ≢ n) (keys ts)
thread_names [] n h = tt
thread_names (t ∷ ts) n h = ((λ e. h.0.0 (ap name.Thread e)), thread_names ts n h.1)

stack_again : (stack : Stack) → unwrap_or (living_stack stack) [] ≡ stack
stack_again [] = refl
stack_again (i ∷ is) = refl

-- a thread that is made has a statement on its stack
abbrev pub IsNewborn : Stack → Type 0
IsNewborn stack = (code : CodeId) × (env : Env) × (stack ≡ Run code env ∷ [])

-- behind a step its thread has what is left, and another one its stack, or is made
abbrev pub IsBehind : State → ThreadName → ThreadName → Stack → Stack → Type 0
IsBehind s m n left stack = ((n ≡ m) × (stack ≡ left)) ⊎ ((m ≢ n) × ((stack ≡ stack_of s n) ⊎ IsNewborn stack))

module _ (p : List Stmt) (s : State) (k : Pick) (allowed : IsAllowed p s k) where
  some : (o : Option Stack) → value_of equal_thread s.threads k.thread ≡ o → IsSome o → (w : Stack) × (value_of equal_thread s.threads k.thread ≡ Some w)
  some None e h = absurd (cc)
  some (Some w) e h = (w, e)

  lives : (w : Stack) × (value_of equal_thread s.threads k.thread ≡ Some w)
  lives = some (value_of equal_thread s.threads k.thread) refl allowed.lives

  -- those that lived before
  old_behind : (n : ThreadName) → IsBehind s k.thread n (stack_left s (effect_of p s k)) (unwrap_or (value_of equal_thread (with_optional_value equal_thread s.threads k.thread (living_stack (stack_left s (effect_of p s k)))) n) [])
  old_behind n = go (equal_thread k.thread n) refl
    where
      go : (b : Bool) → equal_thread k.thread n ≡ b → IsBehind s k.thread n (stack_left s (effect_of p s k)) (unwrap_or (value_of equal_thread (with_optional_value equal_thread s.threads k.thread (living_stack (stack_left s (effect_of p s k)))) n) [])
      go true e =
          let same : k.thread ≡ n = (same_thread_decides k.thread n).0 e in
          inl (
            sym same,
            subst (λ (x : ThreadName). unwrap_or (value_of equal_thread (with_optional_value equal_thread s.threads k.thread (living_stack (stack_left s (effect_of p s k)))) x) [] ≡ stack_left s (effect_of p s k)) same
                (ap (λ (o : Option Stack). unwrap_or o []) (value_of-goes_on equal_thread same_thread_decides s.threads k.thread (living_stack (stack_left s (effect_of p s k))) lives.0 lives.1)
                ∙ stack_again (stack_left s (effect_of p s k))),
          )
      go false e =
          let other : k.thread ≢ n = λ (f : k.thread ≡ n). let yes : equal_thread k.thread n ≡ true = (same_thread_decides k.thread n).1 f in cc in
          inr (other, inl (ap (λ (o : Option Stack). unwrap_or o []) (value_of-goes_on-other equal_thread same_thread_decides s.threads k.thread n (living_stack (stack_left s (effect_of p s k))) other)))

  born_other : (b : Birth) → (effect_of p s k).born ≡ Some b → k.thread ≢ b.name
  born_other b e =
      let from : BornFrom k.fresh (Some b) = subst (BornFrom k.fresh) e (stack_born p s.equations k.fresh k.bind (stack_of s k.thread) allowed.fresh.of_kinds) in
      let new : Each (IsNew s) (name.Thread b.name ∷ from.0) = subst (Each (IsNew s)) from.1 allowed.fresh.unused in
      Each-key equal_thread same_thread_decides (λ m. m ≢ b.name) s.threads k.thread allowed.lives (thread_names s.threads b.name new.0.3)

  pub stack_behind : (n : ThreadName) → IsBehind s k.thread n (stack_left s (effect_of p s k)) (stack_of (next p s k) n)
  stack_behind n = go (effect_of p s k).born refl
    where
      go : (o : Option Birth) → (effect_of p s k).born ≡ o →
          IsBehind s k.thread n (stack_left s (effect_of p s k)) (unwrap_or (value_of equal_thread (threads_born p o ++ with_optional_value equal_thread s.threads k.thread (living_stack (stack_left s (effect_of p s k)))) n) [])
      go None e = old_behind n
      go (Some b) e = by (equal_thread b.name n) refl
        where
          by : (c : Bool) → equal_thread b.name n ≡ c →
              IsBehind s k.thread n (stack_left s (effect_of p s k))
              (unwrap_or (cond c (Some (Run b.code (env_for (free p b.code) b.vars) ∷ [])) (value_of equal_thread (with_optional_value equal_thread s.threads k.thread (living_stack (stack_left s (effect_of p s k)))) n)) [])
          by true f =
              let same : b.name ≡ n = (same_thread_decides b.name n).0 f in
              inr (subst (λ (x : ThreadName). k.thread ≢ x) same (born_other b e), inr (b.code, env_for (free p b.code) b.vars, refl))
          by false f = old_behind n

-- ---- what holds in each state of a run

-- stacks are proper, and each living thread has begun a statement, or is about to
pub record IsGood (s : State) (before : List Begun) : Type 0 where
  pub proper : (n : ThreadName) → IsProper (stack_of s n)
  pub began : (n : ThreadName) → (stack_of s n ≡ []) ⊎ ((b : Begun) × (last_begun (begun_with s n before) n ≡ Some b))

-- each thread at a report has its exception among these
abbrev pub HasAll : State → List Raise → Type 0
HasAll s rs =
    (n : ThreadName) (x : VarName) (rest : Stack) → stack_of s n ≡ Report x ∷ rest → (r : Raise) × Contains (uncaught rs) r × (r.begun.thread ≡ n) × (r.raised ≡ x)

-- one that was about to begin has begun, or goes on
began_on : (m n : ThreadName) (stack mine : Stack) (before : List Begun) (b : Begun) → m ≢ n → last_begun (option_to_list (begun_on n mine) ++ before) n ≡ Some b →
    (c : Begun) × (last_begun (option_to_list (begun_on n mine) ++ (option_to_list (begun_on m stack) ++ before)) n ≡ Some c)
began_on m n stack [] before b other h = (b, last_other m n stack before other ∙ h)
began_on m n stack (Goals g ∷ rest) before b other h = (b, last_other m n stack before other ∙ h)
began_on m n stack (Mark code at env ∷ rest) before b other h = (b, last_other m n stack before other ∙ h)
began_on m n stack (Report x ∷ rest) before b other h = (b, last_other m n stack before other ∙ h)
began_on m n stack (Run code env ∷ rest) before b other h = (record { thread = n; code = code; env = env }, last_here n code env rest (option_to_list (begun_on m stack) ++ before))

left_proper : (o : Option VarName) (stack : Stack) → IsLeft o stack → IsProper stack
left_proper o stack (inl h) = inl h
left_proper o stack (inr h) = inr (h.0, h.2)

module _ (p : List Stmt) (s : State) (k : Pick) (before : List Begun) (allowed : IsAllowed p s k) (good : IsGood s before) where
  leaves : IsLeft (raised_on p s.equations k.fresh (stack_of s k.thread)) (stack_left s (effect_of p s k))
  leaves = proper_left p s k.fresh k.bind (stack_of s k.thread) (good.proper k.thread)

  proper_more : (n : ThreadName) → IsProper (stack_of (next p s k) n)
  proper_more n = go (stack_behind p s k allowed n)
    where
      go : IsBehind s k.thread n (stack_left s (effect_of p s k)) (stack_of (next p s k) n) → IsProper (stack_of (next p s k) n)
      go (inl h) = subst IsProper (sym h.1) (left_proper (raised_on p s.equations k.fresh (stack_of s k.thread)) (stack_left s (effect_of p s k)) leaves)
      go (inr (other, inl h)) = subst IsProper (sym h) (good.proper n)
      go (inr (other, inr h)) = subst IsProper (sym h.2) (inl (tt, tt))

  -- a thread without a stack is left without one
  empty_left : stack_of s k.thread ≡ [] → stack_left s (effect_of p s k) ≡ []
  empty_left e = ap (λ (st : Stack). stack_left s (stack_effect p s.equations k.fresh k.bind st)) e

  began_more : (n : ThreadName) → (stack_of (next p s k) n ≡ []) ⊎ ((b : Begun) × (last_begun (begun_with (next p s k) n (begun_with s k.thread before)) n ≡ Some b))
  began_more n = go (stack_behind p s k allowed n)
    where
      own : (stack_of s k.thread ≡ []) ⊎ ((b : Begun) × (last_begun (begun_with s k.thread before) k.thread ≡ Some b)) → n ≡ k.thread → stack_of (next p s k) n ≡ stack_left s (effect_of p s k) →
          (stack_of (next p s k) n ≡ []) ⊎ ((b : Begun) × (last_begun (begun_with (next p s k) n (begun_with s k.thread before)) n ≡ Some b))
      own (inl e) same h = inl (h ∙ empty_left e)
      own (inr (b, e)) same h = inr (last_more n (stack_of (next p s k) n) (begun_with s k.thread before) b (subst (λ (x : ThreadName). last_begun (begun_with s k.thread before) x ≡ Some b) (sym same) e))

      kept : (stack_of s n ≡ []) ⊎ ((b : Begun) × (last_begun (begun_with s n before) n ≡ Some b)) → k.thread ≢ n → stack_of (next p s k) n ≡ stack_of s n →
          (stack_of (next p s k) n ≡ []) ⊎ ((b : Begun) × (last_begun (begun_with (next p s k) n (begun_with s k.thread before)) n ≡ Some b))
      kept (inl e) other h = inl (h ∙ e)
      kept (inr (b, e)) other h =
          inr (subst (λ (st : Stack). (c : Begun) × (last_begun (option_to_list (begun_on n st) ++ begun_with s k.thread before) n ≡ Some c)) (sym h)
          (began_on k.thread n (stack_of s k.thread) (stack_of s n) before b other e))

      go : IsBehind s k.thread n (stack_left s (effect_of p s k)) (stack_of (next p s k) n) →
          (stack_of (next p s k) n ≡ []) ⊎ ((b : Begun) × (last_begun (begun_with (next p s k) n (begun_with s k.thread before)) n ≡ Some b))
      go (inl h) = own (good.began k.thread) h.0 h.1
      go (inr (other, inl h)) = kept (good.began n) other h
      go (inr (other, inr h)) =
          inr (subst (λ (st : Stack). (c : Begun) × (last_begun (option_to_list (begun_on n st) ++ begun_with s k.thread before) n ≡ Some c)) (sym h.2)
          (record { thread = n; code = h.0; env = h.1 }, last_here n h.0 h.1 [] (begun_with s k.thread before)))

  pub good_more : IsGood (next p s k) (begun_with s k.thread before)
  good_more = record { proper = proper_more; began = began_more }

  -- the exception of a step that leaves a report
  told_here : (i : ℕ) (b : Begun) (x : VarName) → last_begun (begun_with s k.thread before) k.thread ≡ Some b → raised_on p s.equations k.fresh (stack_of s k.thread) ≡ Some x →
      stack_left s (effect_of p s k) ≡ Report x ∷ [] → (r : Raise) × Contains (uncaught (option_to_list (raise_in p i (begun_with s k.thread before) s k))) r × (r.begun.thread ≡ k.thread) × (r.raised ≡ x)
  told_here i b x is raised left =
      let it : Raise = record { before = i; begun = b; raised = x; caught = false } in
      let one : raise_in p i (begun_with s k.thread before) s k ≡ Some it =
      ap (λ (o : Option Begun). raise_of i o (raised_on p s.equations k.fresh (stack_of s k.thread)) (is_caught (stack_left s (effect_of p s k)))) is
      ∙ (ap (λ (v : Option VarName). raise_of i (Some b) v (is_caught (stack_left s (effect_of p s k)))) raised
      ∙ ap (λ (st : Stack). raise_of i (Some b) (Some x) (is_caught st)) left) in
      (it, subst (λ (o : Option Raise). Contains (uncaught (option_to_list o)) it) (sym one) (0, omega arith, refl), last_thread (begun_with s k.thread before) k.thread b is, refl)

  report_here : (i : ℕ) (x : VarName) (rest : Stack) → stack_left s (effect_of p s k) ≡ Report x ∷ rest →
      (r : Raise) × Contains (uncaught (option_to_list (raise_in p i (begun_with s k.thread before) s k))) r × (r.begun.thread ≡ k.thread) × (r.raised ≡ x)
  report_here i x rest is = go leaves (good.began k.thread)
    where
      go : IsLeft (raised_on p s.equations k.fresh (stack_of s k.thread)) (stack_left s (effect_of p s k)) →
          (stack_of s k.thread ≡ []) ⊎ ((b : Begun) × (last_begun (begun_with s k.thread before) k.thread ≡ Some b)) →
          (r : Raise) × Contains (uncaught (option_to_list (raise_in p i (begun_with s k.thread before) s k))) r × (r.begun.thread ≡ k.thread) × (r.raised ≡ x)
      go (inl plain) q = let no : Each IsPlain (Report x ∷ rest) = subst (Each IsPlain) is plain in absurd no.0
      go (inr (y, raised, left)) (inl e) =
          let none : raised_on p s.equations k.fresh (stack_of s k.thread) ≡ None = ap (λ (st : Stack). raised_on p s.equations k.fresh st) e in cc
      go (inr (y, raised, left)) (inr (b, e)) =
          let whole : ◌≡◌ {A = Stack} (Report y ∷ []) (Report x ∷ rest) = sym left ∙ is in
          let same : y ≡ x = cc in
          told_here i b x e (subst (λ (v : VarName). raised_on p s.equations k.fresh (stack_of s k.thread) ≡ Some v) same raised)
          (subst (λ (v : VarName). stack_left s (effect_of p s k) ≡ Report v ∷ []) same left)

  pub all_more : (i : ℕ) (rs : List Raise) → HasAll s rs → HasAll (next p s k) (rs ++ option_to_list (raise_in p i (begun_with s k.thread before) s k))
  all_more i rs all n x rest is = go (stack_behind p s k allowed n)
    where
      go : IsBehind s k.thread n (stack_left s (effect_of p s k)) (stack_of (next p s k) n) →
          (r : Raise) × Contains (uncaught (rs ++ option_to_list (raise_in p i (begun_with s k.thread before) s k))) r × (r.begun.thread ≡ n) × (r.raised ≡ x)
      go (inl h) =
          let found = report_here i x rest (sym h.1 ∙ is) in (
            found.0,
            subst (λ (qs : List Raise). Contains qs found.0) (sym (uncaught_append rs (option_to_list (raise_in p i (begun_with s k.thread before) s k))))
                (Contains-append_right (uncaught rs) (uncaught (option_to_list (raise_in p i (begun_with s k.thread before) s k))) found.0 found.1),
            found.2 ∙ sym h.0,
            found.3,
          )
      go (inr (other, inl h)) =
          let found = all n x rest (sym h ∙ is) in (
            found.0,
            subst (λ (qs : List Raise). Contains qs found.0) (sym (uncaught_append rs (option_to_list (raise_in p i (begun_with s k.thread before) s k))))
                (Contains-append_left (uncaught rs) (uncaught (option_to_list (raise_in p i (begun_with s k.thread before) s k))) found.0 found.1),
            found.2,
            found.3,
          )
      go (inr (other, inr h)) = let no : ◌≡◌ {A = Stack} (Run h.0 h.1 ∷ []) (Report x ∷ rest) = sym h.2 ∙ is in cc

all_from : (p : List Stmt) (ks : List Pick) (i : ℕ) (before : List Begun) (s t : State) (rs : List Raise) → IsRun p s ks t → IsGood s before → HasAll s rs → HasAll t (rs ++ raises_from p i before s ks)
all_from p [] i before s t rs run good all = subst (λ (qs : List Raise). HasAll t qs) (sym (append-nil rs)) (subst (λ (x : State). HasAll x rs) (sym run) all)
all_from p (k ∷ ks) i before s t rs (m, step, run) good all =
    subst (λ (qs : List Raise). HasAll t qs) (append_assoc rs (option_to_list (raise_in p i (begun_with s k.thread before) s k)) (raises_from p (suc i) (begun_with s k.thread before) (next p s k) ks))
    (all_from p ks (suc i) (begun_with s k.thread before) (next p s k) t (rs ++ option_to_list (raise_in p i (begun_with s k.thread before) s k)) (subst (λ (x : State). IsRun p x ks t) step.1 run)
    (good_more p s k before step.0 good) (all_more p s k before step.0 good i rs all))

-- the exceptions of a run that goes on are those before, and more
goes_on : (p : List Stmt) (ks js : List Pick) (i : ℕ) (before : List Begun) (s : State) → (more : List Raise) × (raises_from p i before s (ks ++ js) ≡ raises_from p i before s ks ++ more)
goes_on p [] js i before s = (raises_from p i before s js, refl)
goes_on p (k ∷ ks) js i before s =
    let later = goes_on p ks js (suc i) (begun_with s k.thread before) (next p s k) in
    let here : List Raise = option_to_list (raise_in p i (begun_with s k.thread before) s k) in
    (later.0, ap (λ (rs : List Raise). here ++ rs) later.1 ∙ sym (append_assoc here (raises_from p (suc i) (begun_with s k.thread before) (next p s k) ks) later.0))

-- ---- the start

start_stack : (p : List Stmt) (n : ThreadName) → (stack_of (start p) n ≡ []) ⊎ IsNewborn (stack_of (start p) n)
start_stack p n = go (equal_thread run.first_thread n)
  where
    go : (b : Bool) → (unwrap_or (cond b (Some (body_item p (record { 0 = 0 }) [] ∷ [])) None) [] ≡ []) ⊎ IsNewborn (unwrap_or (cond b (Some (body_item p (record { 0 = 0 }) [] ∷ [])) None) [])
    go true = inr (record { 0 = 0 }, restriction (free p (record { 0 = 0 })) [], refl)
    go false = inl refl

pub start_good : (p : List Stmt) → IsGood (start p) []
start_good p = record { proper = proper; began = began }
  where
    proper : (n : ThreadName) → IsProper (stack_of (start p) n)
    proper n = go (start_stack p n)
      where
        go : (stack_of (start p) n ≡ []) ⊎ IsNewborn (stack_of (start p) n) → IsProper (stack_of (start p) n)
        go (inl e) = inl (subst (Each IsPlain) (sym e) tt)
        go (inr h) = inl (subst (Each IsPlain) (sym h.2) (tt, tt))

    began : (n : ThreadName) → (stack_of (start p) n ≡ []) ⊎ ((b : Begun) × (last_begun (begun_with (start p) n []) n ≡ Some b))
    began n = go (start_stack p n)
      where
        go : (stack_of (start p) n ≡ []) ⊎ IsNewborn (stack_of (start p) n) → (stack_of (start p) n ≡ []) ⊎ ((b : Begun) × (last_begun (begun_with (start p) n []) n ≡ Some b))
        go (inl e) = inl e
        go (inr h) =
            inr (subst (λ (st : Stack). (c : Begun) × (last_begun (option_to_list (begun_on n st) ++ []) n ≡ Some c)) (sym h.2)
            (record { thread = n; code = h.0; env = h.1 }, last_here n h.0 h.1 [] []))

start_all : (p : List Stmt) → HasAll (start p) []
start_all p n x rest is = go (start_stack p n)
  where
    go : (stack_of (start p) n ≡ []) ⊎ IsNewborn (stack_of (start p) n) → (r : Raise) × Contains (uncaught []) r × (r.begun.thread ≡ n) × (r.raised ≡ x)
    go (inl e) = let no : ◌≡◌ {A = Stack} [] (Report x ∷ rest) = sym e ∙ is in cc
    go (inr h) = let no : ◌≡◌ {A = Stack} (Run h.0 h.1 ∷ []) (Report x ∷ rest) = sym h.2 ∙ is in cc

pub uncaught_are_all : UncaughtAreAll
uncaught_are_all p front behind s n x rest runs is =
    let found = all_from p front 0 [] (start p) s [] runs (start_good p) (start_all p) n x rest is in
    let on = goes_on p front behind 0 [] (start p) in (
      found.0,
      subst (λ (rs : List Raise). Contains (uncaught rs) found.0) (sym on.1)
          (subst (λ (qs : List Raise). Contains qs found.0) (sym (uncaught_append (raises p front) on.0)) (Contains-append_left (uncaught (raises p front)) (uncaught on.0) found.0 found.1)),
      found.2,
      found.3,
    )

-- ---- places rise

-- no earlier than this
abbrev IsFrom : ℕ → Raise → Type 0
IsFrom i r = i ≤ r.before

later_from : (i : ℕ) (rs : List Raise) → Each (IsFrom (suc i)) rs → Each (IsFrom i) rs
later_from i [] h = tt
later_from i (r ∷ rs) h = (omega (arith, h.0), later_from i rs h.1)

below_from : (i : ℕ) (rs : List Raise) → Each (IsFrom (suc i)) rs → Each (λ (r : Raise). i < r.before) rs
below_from i [] h = tt
below_from i (r ∷ rs) h = (omega (arith, h.0), below_from i rs h.1)

-- the exception of a step at a place, before those of later steps
placed : (i : ℕ) (o : Option Begun) (v : Option VarName) (caught : Bool) (rs : List Raise) → PlacesRise rs → Each (IsFrom (suc i)) rs →
    PlacesRise (option_to_list (raise_of i o v caught) ++ rs) × Each (IsFrom i) (option_to_list (raise_of i o v caught) ++ rs)
placed i None v caught rs rise from = (rise, later_from i rs from)
placed i (Some b) None caught rs rise from = (rise, later_from i rs from)
placed i (Some b) (Some x) caught rs rise from = ((below_from i rs from, rise), (omega arith, later_from i rs from))

rise_from : (p : List Stmt) (ks : List Pick) (i : ℕ) (before : List Begun) (s : State) → PlacesRise (raises_from p i before s ks) × Each (IsFrom i) (raises_from p i before s ks)
rise_from p [] i before s = (tt, tt)
rise_from p (k ∷ ks) i before s =
    let later = rise_from p ks (suc i) (begun_with s k.thread before) (next p s k) in
    placed i (last_begun (begun_with s k.thread before) k.thread) (raised_on p s.equations k.fresh (stack_of s k.thread)) (is_caught (stack_left s (effect_of p s k)))
    (raises_from p (suc i) (begun_with s k.thread before) (next p s k) ks) later.0 later.1

pub raises_are_once : RaisesAreOnce
raises_are_once p ks = (rise_from p ks 0 [] (start p)).0
