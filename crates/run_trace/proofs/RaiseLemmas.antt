-- What is left of a stack by a step that raises an exception.
use Rattle.std.proofs.Common.{◌≡◌, ap, refl, List, [], ◌∷◌, false, Some}
use Rattle.std.specs.Prelude.{Option}
use Rattle.tree_node.specs.declared.names.VarName.{VarName}
use Rattle.tree_node.specs.declared.names.Name.{Name}
use Rattle.tree_node.specs.declared.node.Node.{Node}
use Rattle.tree_node.specs.declared.node.Term.{Term}
use Rattle.tree_node.specs.declared.item.Item.TheVariants.{Run, Goals, Mark, Report}
use Rattle.tree_node.specs.Env.{Env}
use Rattle.tree_node.specs.Goal.{Case, Dropped, Binds, Opened, Failed, case_of}
use Rattle.tree_node.specs.State.{Stack, State}
use Rattle.tree_node.specs.Store.{Equation}
use Rattle.tree_node.specs.Unwind.{stack_after_raise}
use Rattle.kernel_syntax.specs.declared.stmt.Stmt.{Stmt}
use Rattle.kernel_syntax.specs.Free.{stmt_at}
use Rattle.oz_model.specs.declared.outcome.Outcome.{Outcome}
use Rattle.oz_model.specs.declared.outcome.Outcome.TheVariants as outcome
use Rattle.oz_model.specs.declared.outcome.SystemException.{SystemException}
use Rattle.oz_model.specs.declared.outcome.SystemException.TheVariants.{FailureTell}
use Rattle.oz_model.specs.Outcome.{outcome_of}
use Rattle.oz_model.specs.Effect.{Effect, stack_effect, outcome_effect, goal_effect, pair_effect, exception_effect, vars_among}
use Rattle.oz_model.specs.Step.{stack_left}
use Rattle.run_trace.specs.Raised.{second_of, raised_by, raised_by_pair, raised_by_goals, raised_on, is_caught}

-- the effect leaves what raising this variable leaves of some stack
abbrev pub LeavesRaised : State → Effect → VarName → Type 0
LeavesRaised s e x = (rest : Stack) × (stack_left s e ≡ stack_after_raise rest x)

fails_raised : (s : State) (exception : SystemException) (rest : Stack) (xs : List VarName) (x : VarName) → second_of xs ≡ Some x → LeavesRaised s (exception_effect exception rest xs) x
fails_raised s exception rest [] x h = cc
fails_raised s exception rest (a ∷ []) x h = cc
fails_raised s exception rest (a ∷ y ∷ []) x h = let same : y ≡ x = cc in (rest, ap (λ (v : VarName). stack_after_raise rest v) same)
fails_raised s exception rest (a ∷ y ∷ z ∷ zs) x h = cc

outcome_raised : (p : List Stmt) (s : State) (env : Env) (rest : Stack) (fresh : List Name) (o : Outcome) (x : VarName) → raised_by (vars_among fresh) o ≡ Some x → LeavesRaised s (outcome_effect p env rest fresh o) x
outcome_raised p s env rest fresh (outcome.Raises y) x h = let same : y ≡ x = cc in (rest, ap (λ (v : VarName). stack_after_raise rest v) same)
outcome_raised p s env rest fresh (outcome.Fails exception) x h = fails_raised s exception rest (vars_among fresh) x h
outcome_raised p s env rest fresh (outcome.Waits y) x h = cc
outcome_raised p s env rest fresh (outcome.WaitsAny left right) x h = cc
outcome_raised p s env rest fresh (outcome.Runs codes) x h = cc
outcome_raised p s env rest fresh (outcome.Tells y t) x h = cc
outcome_raised p s env rest fresh (outcome.Declares first count body) x h = cc
outcome_raised p s env rest fresh (outcome.MakesProc left code formals vars) x h = cc
outcome_raised p s env rest fresh (outcome.MakesCell at content told) x h = cc
outcome_raised p s env rest fresh (outcome.Exchanges cell new told) x h = cc
outcome_raised p s env rest fresh (outcome.MakesPort stream told) x h = cc
outcome_raised p s env rest fresh (outcome.Sends port value) x h = cc
outcome_raised p s env rest fresh (outcome.Spawns at body vars) x h = cc
outcome_raised p s env rest fresh (outcome.Tries body body_env handler first handler_env) x h = cc
outcome_raised p s env rest fresh (outcome.Prints line) x h = cc

pair_raised : (s : State) (a b : Term) (pairs : List (Term × Term)) (met : List (Node × Node)) (rest : Stack) (fresh : List Name) (bind : Option Equation) (c : Case) (x : VarName) → raised_by_pair (vars_among fresh) c ≡ Some x →
    LeavesRaised s (pair_effect a b pairs met rest fresh bind c) x
pair_raised s a b pairs met rest fresh bind Dropped x h = cc
pair_raised s a b pairs met rest fresh bind Binds x h = cc
pair_raised s a b pairs met rest fresh bind (Opened m n fields) x h = cc
pair_raised s a b pairs met rest fresh bind Failed x h = fails_raised s FailureTell rest (vars_among fresh) x h

pub stack_raised : (p : List Stmt) (s : State) (fresh : List Name) (bind : Option Equation) (stack : Stack) (x : VarName) → raised_on p s.equations fresh stack ≡ Some x → LeavesRaised s (stack_effect p s.equations fresh bind stack) x
stack_raised p s fresh bind [] x h = cc
stack_raised p s fresh bind (Run code env ∷ rest) x h = outcome_raised p s env rest fresh (outcome_of p s.equations code env (stmt_at p code)) x h
stack_raised p s fresh bind (Mark code at env ∷ rest) x h = cc
stack_raised p s fresh bind (Report y ∷ rest) x h = cc
stack_raised p s fresh bind (Goals b ∷ rest) x h = go b.pairs h
  where
    go : (pairs : List (Term × Term)) → raised_by_goals s.equations (vars_among fresh) b.met pairs ≡ Some x → LeavesRaised s (goal_effect s.equations b.met rest fresh bind pairs) x
    go [] k = cc
    go ((l, r) ∷ pairs) k = pair_raised s l r pairs b.met rest fresh bind (case_of s.equations b.met l r) x k

-- what no mark caught leaves the report alone
pub raised_alone : (rest : Stack) (x : VarName) → is_caught (stack_after_raise rest x) ≡ false → stack_after_raise rest x ≡ Report x ∷ []
raised_alone [] x h = refl
raised_alone (Run code env ∷ rest) x h = raised_alone rest x h
raised_alone (Goals b ∷ rest) x h = raised_alone rest x h
raised_alone (Mark code at env ∷ rest) x h = cc
raised_alone (Report y ∷ rest) x h = raised_alone rest x h
