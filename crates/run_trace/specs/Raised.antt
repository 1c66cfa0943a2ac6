-- The exceptions that the steps of a run raise (CTM section 2.7).
use Rattle.std.specs.Prelude.{◌≡◌, ℕ, suc, List, [], ◌∷◌, ◌++◌, filter, length, Bool, true, false, not, Option, Some, None, option_to_list}
use Rattle.tree_node.specs.declared.names.VarName.{VarName}
use Rattle.tree_node.specs.declared.names.ThreadName.{ThreadName}
use Rattle.tree_node.specs.declared.names.Name.{Name}
use Rattle.tree_node.specs.declared.node.Node.{Node}
use Rattle.tree_node.specs.declared.node.Term.{Term}
use Rattle.tree_node.specs.declared.item.Item.TheVariants.{Run, Goals, Report}
use Rattle.tree_node.specs.declared.pick.Pick.{Pick}
use Rattle.tree_node.specs.Goal.{Case, case_of}
use Rattle.tree_node.specs.Goal as goal
use Rattle.tree_node.specs.State.{Stack, State}
use Rattle.tree_node.specs.Store.{Store}
use Rattle.kernel_syntax.specs.declared.stmt.Stmt.{Stmt}
use Rattle.kernel_syntax.specs.Free.{stmt_at}
use Rattle.oz_model.specs.declared.outcome.Outcome.{Outcome}
use Rattle.oz_model.specs.declared.outcome.Outcome.TheVariants as outcome
use Rattle.oz_model.specs.Outcome.{outcome_of}
use Rattle.oz_model.specs.Effect.{vars_among}
use Rattle.oz_model.specs.Run as run
use Rattle.oz_model.specs.Run.{start}
use Rattle.oz_model.specs.Step.{IsAllowed, effect_of, next, stack_left, stack_of}
use Rattle.run_trace.specs.declared.findings.Begun.{Begun}
use Rattle.run_trace.specs.declared.findings.Raise.{Raise}
use Rattle.run_trace.specs.Begun.{begun_on, begun_with, last_begun}

-- ---- what a step raises

-- the variable of a system exception: the second of two fresh ones
abbrev pub second_of : List VarName → Option VarName
second_of (detail ∷ x ∷ []) = Some x
second_of _ = None

-- the variable that a statement of this outcome raises
abbrev pub raised_by : List VarName → Outcome → Option VarName
raised_by fresh (outcome.Raises x) = Some x
raised_by fresh (outcome.Fails exception) = second_of fresh
raised_by fresh _ = None

-- the variable that a tell raises where it fails at this pair
abbrev pub raised_by_pair : List VarName → Case → Option VarName
raised_by_pair fresh goal.Failed = second_of fresh
raised_by_pair fresh _ = None

-- the variable that a goal block raises, if its first pair fails
abbrev pub raised_by_goals : Store → List VarName → List (Node × Node) → List (Term × Term) → Option VarName
raised_by_goals s fresh met [] = None
raised_by_goals s fresh met ((a, b) ∷ pairs) = raised_by_pair fresh (case_of s met a b)

-- the variable that a step of a thread with this stack raises, with these fresh names
abbrev pub raised_on : List Stmt → Store → List Name → Stack → Option VarName
raised_on p s fresh (Run code env ∷ rest) = raised_by (vars_among fresh) (outcome_of p s code env (stmt_at p code))
raised_on p s fresh (Goals b ∷ rest) = raised_by_goals s (vars_among fresh) b.met b.pairs
raised_on p s fresh _ = None

-- ---- the exceptions of a run

-- a catch mark took the exception: what is left of the stack is no report
abbrev pub is_caught : Stack → Bool
is_caught (Report x ∷ rest) = false
is_caught _ = true

-- the exception of a step behind so many others: what its thread began last, and the variable that is raised
abbrev pub raise_of : ℕ → Option Begun → Option VarName → Bool → Option Raise
raise_of i (Some b) (Some x) caught = Some (record { before = i; begun = b; raised = x; caught = caught })
raise_of i _ _ caught = None

-- the exception of the step of a pick, where these statements were begun up to it
abbrev pub raise_in : List Stmt → ℕ → List Begun → State → Pick → Option Raise
raise_in p i began s k =
    raise_of i (last_begun began k.thread) (raised_on p s.equations k.fresh (stack_of s k.thread)) (is_caught (stack_left s (effect_of p s k)))

-- those of the steps from a state on, in order
abbrev pub raises_from : List Stmt → ℕ → List Begun → State → List Pick → List Raise
raises_from p i before s [] = []
raises_from p i before s (k ∷ ks) =
    option_to_list (raise_in p i (begun_with s k.thread before) s k) ++ raises_from p (suc i) (begun_with s k.thread before) (next p s k) ks

-- the exceptions of a run, in order
abbrev pub raises : List Stmt → List Pick → List Raise
raises p ks = raises_from p 0 [] (start p) ks

-- those that nothing caught
abbrev pub uncaught : List Raise → List Raise
uncaught rs = filter (λ (r : Raise). not r.caught) rs

-- ---- in the subject's words

-- no step of this thread begins a statement
abbrev pub BeginsNone : List Stmt → ThreadName → State → List Pick → Type 0
BeginsNone p n s [] = Unit {0}
BeginsNone p n s (k ∷ ks) = (k.thread ≡ n → begun_on n (stack_of s n) ≡ None) × BeginsNone p n (next p s k) ks

-- the thread of this statement began it in the run, with this environment, and none behind it
pub record IsBegunLast (p : List Stmt) (ks : List Pick) (b : Begun) : Type 0 where
  pub front : List Pick
  pub k : Pick
  pub behind : List Pick
  pub split : ks ≡ front ++ k ∷ behind
  pub thread : k.thread ≡ b.thread
  pub s : State
  pub run : run.Run p front s
  pub rest : Stack
  pub top : stack_of s b.thread ≡ Run b.code b.env ∷ rest
  pub none : BeginsNone p b.thread (next p s k) behind

-- behind so many picks of the run the next one is a step of this thread, which began this statement last, and its effect leaves the thread
-- with the report of this variable alone
pub record IsRaisedAt (p : List Stmt) (ks : List Pick) (r : Raise) : Type 0 where
  pub front : List Pick
  pub k : Pick
  pub behind : List Pick
  pub split : ks ≡ front ++ k ∷ behind
  pub place : length front ≡ r.before
  pub thread : k.thread ≡ r.begun.thread
  pub s : State
  pub run : run.Run p front s
  pub allowed : IsAllowed p s k
  pub left : stack_left s (effect_of p s k) ≡ Report r.raised ∷ []
  pub begun : IsBegunLast p (front ++ k ∷ []) r.begun
