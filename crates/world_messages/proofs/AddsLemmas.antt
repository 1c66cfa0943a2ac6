-- The variables of the equations that a step adds: its fresh ones, or the one that it binds.
use Rattle.std.proofs.Common.{◌≡◌, refl, ℕ, List, [], ◌∷◌}
use Rattle.std.specs.Prelude.{Option, codes, option_to_list}
use Rattle.tree_node.specs.declared.names.VarName.{VarName}
use Rattle.tree_node.specs.declared.names.Name.{Name}
use Rattle.tree_node.specs.declared.names.NameKind.{NameKind}
use Rattle.tree_node.specs.declared.names.NameKind.TheVariants as kind
use Rattle.tree_node.specs.declared.node.Node.{Node}
use Rattle.tree_node.specs.declared.node.Term.{Term}
use Rattle.tree_node.specs.declared.item.Item.TheVariants as item
use Rattle.tree_node.specs.Each.{Each}
use Rattle.tree_node.specs.Env.{Env}
use Rattle.tree_node.specs.Goal.{Case, case_of}
use Rattle.tree_node.specs.Goal as goal
use Rattle.tree_node.specs.Shown.{shown}
use Rattle.tree_node.specs.State.{Stack}
use Rattle.tree_node.specs.Store.{Store, Equation}
use Rattle.kernel_syntax.specs.declared.stmt.Stmt.{Stmt}
use Rattle.kernel_syntax.specs.Free.{stmt_at}
use Rattle.oz_model.specs.declared.outcome.SystemException.{SystemException}
use Rattle.oz_model.specs.declared.outcome.SystemException.TheVariants.{FailureTell}
use Rattle.oz_model.specs.declared.outcome.Outcome.{Outcome}
use Rattle.oz_model.specs.declared.outcome.Outcome.TheVariants as outcome
use Rattle.oz_model.specs.Outcome.{outcome_of, print_outcome}
use Rattle.oz_model.specs.Effect.{exception_effect, vars_among, outcome_effect, pair_effect, goal_effect, stack_effect}
use Rattle.site_model.specs.Site.{Counters}
use Rattle.site_model.specs.Unit.{next_names, counter_after}

module _ (P : VarName → Type 0) where
  abbrev Lefts : List Equation → Type 0
  Lefts es = Each (λ (e : Equation). P e.0) es

  fails_lefts : (e : SystemException) (rest : Stack) (xs : List VarName) → Each P xs → Lefts (exception_effect e rest xs).adds
  fails_lefts e rest [] h = tt
  fails_lefts e rest (a ∷ []) h = tt
  fails_lefts e rest (a ∷ x ∷ []) h = (h.1.0, (h.0, tt))
  fails_lefts e rest (a ∷ x ∷ y ∷ xs) h = tt

  outcome_lefts : (p : List Stmt) (env : Env) (rest : Stack) (fresh : List Name) (o : Outcome) → Each P (vars_among fresh) → Lefts (outcome_effect p env rest fresh o).adds
  outcome_lefts p env rest fresh (outcome.Waits x) h = tt
  outcome_lefts p env rest fresh (outcome.WaitsAny left right) h = tt
  outcome_lefts p env rest fresh (outcome.Runs items) h = tt
  outcome_lefts p env rest fresh (outcome.Tells x t) h = tt
  outcome_lefts p env rest fresh (outcome.Declares first count body) h = tt
  outcome_lefts p env rest fresh (outcome.MakesProc left code formals vars) h = tt
  outcome_lefts p env rest fresh (outcome.MakesCell at content told) h = tt
  outcome_lefts p env rest fresh (outcome.MakesPort stream told) h = tt
  outcome_lefts p env rest fresh (outcome.Sends port value) h = tt
  outcome_lefts p env rest fresh (outcome.Exchanges cell new told) h = tt
  outcome_lefts p env rest fresh (outcome.Spawns at body vars) h = tt
  outcome_lefts p env rest fresh (outcome.Tries body body_env handler first handler_env) h = tt
  outcome_lefts p env rest fresh (outcome.Raises x) h = tt
  outcome_lefts p env rest fresh (outcome.Fails x) h = fails_lefts x rest (vars_among fresh) h
  outcome_lefts p env rest fresh (outcome.Prints line) h = tt

  pair_lefts : (a b : Term) (pairs : List (Term × Term)) (met : List (Node × Node)) (rest : Stack) (fresh : List Name) (bind : Option Equation) (c : Case) → Each P (vars_among fresh) → Lefts (option_to_list bind) → Lefts (pair_effect a b pairs met rest fresh bind c).adds
  pair_lefts a b pairs met rest fresh bind goal.Dropped h g = tt
  pair_lefts a b pairs met rest fresh bind goal.Binds h g = g
  pair_lefts a b pairs met rest fresh bind (goal.Opened m n fields) h g = tt
  pair_lefts a b pairs met rest fresh bind goal.Failed h g = fails_lefts FailureTell rest (vars_among fresh) h

  goal_lefts : (s : Store) (met : List (Node × Node)) (rest : Stack) (fresh : List Name) (bind : Option Equation) (pairs : List (Term × Term)) → Each P (vars_among fresh) → Lefts (option_to_list bind) → Lefts (goal_effect s met rest fresh bind pairs).adds
  goal_lefts s met rest fresh bind [] h g = tt
  goal_lefts s met rest fresh bind ((a, b) ∷ pairs) h g = pair_lefts a b pairs met rest fresh bind (case_of s met a b) h g

  pub effect_lefts : (p : List Stmt) (s : Store) (fresh : List Name) (bind : Option Equation) (stack : Stack) → Each P (vars_among fresh) → Lefts (option_to_list bind) → Lefts (stack_effect p s fresh bind stack).adds
  effect_lefts p s fresh bind [] h g = tt
  effect_lefts p s fresh bind (item.Run code env ∷ rest) h g = outcome_lefts p env rest fresh (outcome_of p s code env (stmt_at p code)) h
  effect_lefts p s fresh bind (item.Goals b ∷ rest) h g = goal_lefts s b.met rest fresh bind b.pairs h g
  effect_lefts p s fresh bind (item.Mark code at env ∷ rest) h g = tt
  effect_lefts p s fresh bind (item.Report x ∷ rest) h g = outcome_lefts p [] rest fresh (print_outcome (codes "uncaught ") (shown s x)) h

-- a site's fresh variables are its own
pub fresh_own : (i : ℕ) (c : Counters) (kinds : List NameKind) → Each (λ (x : VarName). x.site ≡ i) (vars_among (next_names i c kinds))
fresh_own i c [] = tt
fresh_own i c (kind.Var ∷ ks) = (refl, fresh_own i (counter_after c kind.Var) ks)
fresh_own i c (kind.Cell ∷ ks) = fresh_own i (counter_after c kind.Cell) ks
fresh_own i c ((kind.CellAt at_home) ∷ ks) = fresh_own i (counter_after c (kind.CellAt at_home)) ks
fresh_own i c (kind.Proc ∷ ks) = fresh_own i (counter_after c kind.Proc) ks
fresh_own i c (kind.Port ∷ ks) = fresh_own i (counter_after c kind.Port) ks
fresh_own i c (kind.Thread ∷ ks) = fresh_own i (counter_after c kind.Thread) ks
