-- A thread that does not wait has a step.
use Rattle.std.proofs.Common.{◌≡◌, ◌∙◌, sym, refl, subst, List, [], ◌∷◌, ◌⊎◌, inl, inr, Some, None}
use Rattle.std.specs.Prelude.{Option, Bool, true, false, ◌||◌, codes}
use Rattle.tree_node.specs.declared.names.ThreadName.{ThreadName}
use Rattle.tree_node.specs.declared.names.NameKind.{NameKind}
use Rattle.tree_node.specs.declared.names.NameKind.TheVariants as kind
use Rattle.tree_node.specs.declared.node.Node.{Node}
use Rattle.tree_node.specs.declared.node.Term.{Term}
use Rattle.tree_node.specs.declared.pick.Pick.{Pick}
use Rattle.tree_node.specs.declared.item.Item.TheVariants.{Run, Goals, Mark, Report}
use Rattle.tree_node.specs.Assoc.{value_of}
use Rattle.tree_node.specs.Store.{Store, Equation}
use Rattle.tree_node.specs.Goal.{Case, Dropped, Binds, Opened, Failed, case_of}
use Rattle.tree_node.specs.Shown.{shown}
use Rattle.tree_node.specs.State.{Stack, State, equal_thread}
use Rattle.kernel_syntax.specs.declared.stmt.Stmt.{Stmt}
use Rattle.kernel_syntax.specs.Free.{stmt_at}
use Rattle.oz_model.specs.declared.outcome.Outcome.{Outcome}
use Rattle.oz_model.specs.declared.outcome.Outcome.TheVariants as outcome
use Rattle.oz_model.specs.Outcome.{outcome_of, print_outcome}
use Rattle.oz_model.specs.Need.{Need, Takes, variable_kinds, cell_kind, outcome_need, pair_need, goal_need, stack_need, IsWaiting, IsReady, kinds_of}
use Rattle.oz_model.specs.Step.{AreFresh, IsBindFor, Step, next, stack_of}
use Rattle.oz_model.specs.Run.{AtRest}
use Rattle.oz_model.specs.Laws.{RestOrStep}
use Rattle.oz_model.proofs.NameLemmas.{some_fresh}
use Rattle.oz_model.proofs.BindLemmas.{some_bind}
use Rattle.std.proofs.lemmas.Bool.{or_parts}
use Rattle.tree_node.proofs.NameLemmas.{same_thread_decides}

-- something can be chosen for it, unless it waits
abbrev Goes : Store → Need → Type 0
Goes s n = IsWaiting n ⊎ (IsReady n × ((bind : Option Equation) × IsBindFor s n bind))

takes_goes : (s : Store) (kinds : List NameKind) → Goes s (Takes kinds)
takes_goes s kinds = inr (tt, (None, tt))

outcome_goes : (s : Store) (o : Outcome) → Goes s (outcome_need o)
outcome_goes s (outcome.Waits x) = inl tt
outcome_goes s (outcome.WaitsAny left right) = inl tt
outcome_goes s (outcome.Runs codes) = takes_goes s []
outcome_goes s (outcome.Tells x t) = takes_goes s []
outcome_goes s (outcome.Declares first count body) = takes_goes s (variable_kinds count)
outcome_goes s (outcome.MakesProc left code formals vars) = takes_goes s (kind.Proc ∷ [])
outcome_goes s (outcome.MakesCell at content told) = takes_goes s (cell_kind at ∷ [])
outcome_goes s (outcome.Exchanges cell new told) = takes_goes s []
outcome_goes s (outcome.MakesPort stream told) = takes_goes s (kind.Port ∷ [])
outcome_goes s (outcome.Sends port value) = takes_goes s (variable_kinds 1)
outcome_goes s (outcome.Spawns at body vars) = takes_goes s (kind.Thread ∷ [])
outcome_goes s (outcome.Tries body env handler first handler_env) = takes_goes s []
outcome_goes s (outcome.Raises x) = takes_goes s []
outcome_goes s (outcome.Fails exception) = takes_goes s (variable_kinds 2)
outcome_goes s (outcome.Prints line) = takes_goes s []

pair_goes : (s : Store) (met : List (Node × Node)) (a b : Term) (c : Case) → case_of s met a b ≡ c → Goes s (pair_need a b c)
pair_goes s met a b Dropped e = takes_goes s []
pair_goes s met a b (Opened m n pairs) e = takes_goes s []
pair_goes s met a b Failed e = takes_goes s (variable_kinds 2)
pair_goes s met a b Binds e = let found = some_bind s met a b e in inr (tt, (Some found.0, found.1))

stack_goes : (p : List Stmt) (s : Store) (stack : Stack) → Goes s (stack_need p s stack)
stack_goes p s [] = takes_goes s []
stack_goes p s (Run code env ∷ rest) = outcome_goes s (outcome_of p s code env (stmt_at p code))
stack_goes p s (Mark code at env ∷ rest) = takes_goes s []
stack_goes p s (Report x ∷ rest) = outcome_goes s (print_outcome (codes "uncaught ") (shown s x))
stack_goes p s (Goals b ∷ rest) = go b.pairs
  where
    go : (pairs : List (Term × Term)) → Goes s (goal_need s b.met pairs)
    go [] = takes_goes s []
    go ((x, y) ∷ pairs) = pair_goes s b.met x y (case_of s b.met x y) refl

-- ---- the threads of a state

abbrev is_hidden : List ThreadName → ThreadName → Bool
is_hidden [] n = false
is_hidden (m ∷ ms) n = equal_thread m n || is_hidden ms n

-- each thread that no earlier entry hides waits, or one of them goes
abbrev Found : List Stmt → Store → List ThreadName → List (ThreadName × Stack) → Type 0
Found p s hidden ts =
    ((n : ThreadName) (st : Stack) → is_hidden hidden n ≡ false → value_of equal_thread ts n ≡ Some st → IsWaiting (stack_need p s st))
    ⊎ ((n : ThreadName) × (st : Stack) × (is_hidden hidden n ≡ false) × (value_of equal_thread ts n ≡ Some st)
    × IsReady (stack_need p s st) × ((bind : Option Equation) × IsBindFor s (stack_need p s st) bind))

lifts : (p : List Stmt) (s : Store) (hidden : List ThreadName) (t : ThreadName × Stack) (ts : List (ThreadName × Stack)) →
    ((n : ThreadName) → is_hidden hidden n ≡ false → equal_thread t.0 n ≡ false) → Found p s hidden ts → Found p s hidden (t ∷ ts)
lifts p s hidden t ts apart (inl waits) = inl (λ n st h at. waits n st h (sym (skips n h) ∙ at))
  where
    skips : (n : ThreadName) → is_hidden hidden n ≡ false → value_of equal_thread (t ∷ ts) n ≡ value_of equal_thread ts n
    skips n h = rw (apart n h) refl
lifts p s hidden t ts apart (inr (n, st, h, at, ready, bind)) = inr (n, st, h, (rw (apart n h) at), ready, bind)

-- a hidden name is one of the list, and what is not hidden differs from what is
hidden_apart : (hidden : List ThreadName) (m n : ThreadName) → is_hidden hidden m ≡ true → is_hidden hidden n ≡ false → equal_thread m n ≡ false
hidden_apart hidden m n h g = go (equal_thread m n) refl
  where
    go : (b : Bool) → equal_thread m n ≡ b → equal_thread m n ≡ false
    go false e = e
    go true e =
        let same : m ≡ n = (same_thread_decides m n).0 e in
        let both : is_hidden hidden n ≡ true = rw (← same) h in
        cc

find : (p : List Stmt) (s : Store) (hidden : List ThreadName) (ts : List (ThreadName × Stack)) → Found p s hidden ts
find p s hidden [] = inl (λ n st h at. cc)
find p s hidden (t ∷ ts) = go (is_hidden hidden t.0) refl (λ hs. find p s hs ts)
  where
    waits_here : IsWaiting (stack_need p s t.1) → is_hidden hidden t.0 ≡ false → Found p s (t.0 ∷ hidden) ts → Found p s hidden (t ∷ ts)
    waits_here w seen (inl waits) = inl (λ n st h at. one n st h at (equal_thread t.0 n) refl)
      where
        one : (n : ThreadName) (st : Stack) → is_hidden hidden n ≡ false → value_of equal_thread (t ∷ ts) n ≡ Some st → (b : Bool) → equal_thread t.0 n ≡ b → IsWaiting (stack_need p s st)
        one n st h at true e =
            let here : Some t.1 ≡ Some st = sym (rw e refl) ∙ at in
            let same : t.1 ≡ st = cc in
            subst (λ (x : Stack). IsWaiting (stack_need p s x)) same w
        one n st h at false e = waits n st (rw (e, h) refl) (sym (rw e refl) ∙ at)
    waits_here w seen (inr (n, st, h, at, ready, bind)) =
        let parts : (equal_thread t.0 n ≡ false) × (is_hidden hidden n ≡ false) = or_parts (equal_thread t.0 n) (is_hidden hidden n) h in
        inr (n, st, parts.1, (rw parts.0 at), ready, bind)

    goes : is_hidden hidden t.0 ≡ false → Goes s (stack_need p s t.1) → Found p s (t.0 ∷ hidden) ts → Found p s hidden (t ∷ ts)
    goes seen (inl w) rest = waits_here w seen rest
    goes seen (inr (ready, bind)) rest = inr (t.0, t.1, seen, (rw ((same_thread_decides t.0 t.0).1 refl) refl), ready, bind)

    go : (b : Bool) → is_hidden hidden t.0 ≡ b → ((hs : List ThreadName) → Found p s hs ts) → Found p s hidden (t ∷ ts)
    go true e rest = lifts p s hidden t ts (λ n h. hidden_apart hidden t.0 n e h) (rest hidden)
    go false e rest = goes e (stack_goes p s t.1) (rest (t.0 ∷ hidden))

pub rest_or_step : RestOrStep
rest_or_step p s = go (find p s.equations [] s.threads)
  where
    go : Found p s.equations [] s.threads → AtRest p s ⊎ ((k : Pick) × (t : State) × Step p s k t)
    go (inl waits) = inl (λ n st at. waits n st refl at)
    go (inr (n, st, h, at, ready, bind)) =
        let fresh = some_fresh s (kinds_of (stack_need p s.equations st)) in
        let k : Pick = record { thread = n; fresh = fresh.0; bind = bind.0 } in
        let stack_is : st ≡ stack_of s n = rw at refl in
        inr (
          k,
          next p s k,
          (
            record {
              lives = rw at refl;
              ready = subst (λ (x : Stack). IsReady (stack_need p s.equations x)) stack_is ready;
              fresh = subst (λ (x : Stack). AreFresh s (kinds_of (stack_need p s.equations x)) fresh.0) stack_is fresh.1;
              bind = subst (λ (x : Stack). IsBindFor s.equations (stack_need p s.equations x) bind.0) stack_is bind.1;
            },
            refl,
          ),
        )
