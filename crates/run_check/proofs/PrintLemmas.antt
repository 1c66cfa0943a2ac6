-- No line that a run prints has a newline in it.
use Rattle.std.proofs.Common.{◌≡◌, sym, refl, subst, ℕ, suc, pos, List, [], ◌∷◌, ◌++◌, length, Bool, true, false, cond}
use Rattle.std.specs.Prelude.{Option, Some, None, ◌==◌, codes, option_to_list}
use Rattle.std.specs.Str.{bytes_eq}
use Rattle.tree_node.specs.declared.item.Item.TheVariants.{Run, Goals, Mark, Report}
use Rattle.tree_node.specs.declared.names.CodeId.{CodeId}
use Rattle.tree_node.specs.declared.names.Name.{Name}
use Rattle.tree_node.specs.declared.names.VarName.{VarName}
use Rattle.tree_node.specs.declared.node.Feature.{Feature}
use Rattle.tree_node.specs.declared.node.Node.{Node}
use Rattle.tree_node.specs.declared.node.Node.TheVariants as node
use Rattle.tree_node.specs.declared.node.Term.{Term}
use Rattle.tree_node.specs.declared.pick.Pick.{Pick}
use Rattle.tree_node.specs.Compare.{Pair, Comparison, Equal, Different, Open, compared}
use Rattle.tree_node.specs.Each.{Each}
use Rattle.tree_node.specs.Env.{Env, var_at, vars_at}
use Rattle.tree_node.specs.Goal.{Case, case_of}
use Rattle.tree_node.specs.Goal as goal
use Rattle.tree_node.specs.Shown.{Show, Text, Needs, shown}
use Rattle.tree_node.specs.State.{Stack, State}
use Rattle.tree_node.specs.Store.{Store, Equation, node_of}
use Rattle.tree_node.proofs.EachLemmas.{each_append}
use Rattle.tree_node.proofs.FrontLemmas.{each_left}
use Rattle.kernel_syntax.specs.declared.stmt.Op.{Op}
use Rattle.kernel_syntax.specs.declared.stmt.Selector.{Selector}
use Rattle.kernel_syntax.specs.declared.stmt.Selector.TheVariants as selector
use Rattle.kernel_syntax.specs.declared.stmt.Stmt.{Stmt}
use Rattle.kernel_syntax.specs.declared.stmt.Stmt.TheVariants as stmt
use Rattle.kernel_syntax.specs.declared.stmt.TestOp.{TestOp}
use Rattle.kernel_syntax.specs.Arithmetic.{OperatorResult, Number, Truth, Overflow, Zero, result_of}
use Rattle.kernel_syntax.specs.Free.{stmt_at}
use Rattle.site_message.specs.declared.turn.Turn.{Turn}
use Rattle.oz_model.specs.declared.outcome.Outcome.{Outcome}
use Rattle.oz_model.specs.declared.outcome.Outcome.TheVariants as outcome
use Rattle.oz_model.specs.declared.outcome.SystemException.{SystemException}
use Rattle.oz_model.specs.declared.outcome.SystemException.TheVariants.{FailureTell, ErrorType, ErrorArity}
use Rattle.oz_model.specs.Effect.{Effect, vars_among, exception_effect, outcome_effect, pair_effect, goal_effect, stack_effect}
use Rattle.oz_model.specs.Outcome.{one_body, on_node, print_outcome, calculated_outcome, calc_outcome, test_outcome, feature_of, field_outcome, selection_outcome, select_outcome, branch_outcome, match_vars, case_outcome, body_outcome, call_outcome, exchange_outcome, placed_outcome, send_outcome, outcome_of}
use Rattle.oz_model.specs.Run.{IsRun, start}
use Rattle.oz_model.specs.Step.{effect_of, stack_of, next}
use Rattle.world_model.specs.Schedule.{lines_in, schedule}
use Rattle.world_core.proofs.WorldLemmas.{machine}
use Rattle.byte_fields.specs.Text.{IsLine}
use Rattle.run_check.specs.Laws.{PrintedLinesAreLines}
use Rattle.run_check.proofs.LineLemmas.{line_joined, shown_line}

-- ---- what a statement comes to

-- what is printed is a line
abbrev Clean : Outcome → Type 0
Clean (outcome.Prints line) = IsLine line
Clean _ = Unit {0}

print_clean : (words : List ℕ) (s : Store) (x : VarName) → IsLine words → Clean (print_outcome words (shown s x))
print_clean words s x h = by (shown s x) refl
  where
    by : (w : Show) → shown s x ≡ w → Clean (print_outcome words w)
    by (Text text left) e = line_joined words text h (shown_line s x text (left, e))
    by (Needs y) e = tt

node_clean : (x : VarName) (o : Option Node) (next : Node → Outcome) → ((n : Node) → Clean (next n)) → Clean (on_node x o next)
node_clean x None next h = tt
node_clean x (Some n) next h = h n

calculated_clean : (x : VarName) (r : OperatorResult) → Clean (calculated_outcome x r)
calculated_clean x (Number value) = tt
calculated_clean x (Truth value) = tt
calculated_clean x Overflow = tt
calculated_clean x Zero = tt

calc_clean : (op : Op) (x : VarName) (m n : Node) → Clean (calc_outcome op x m n)
calc_clean op x (node.Int a) (node.Int b) = calculated_clean x (result_of op a b)
calc_clean op x _ _ = tt

test_clean : (op : TestOp) (x : VarName) (q : Pair) (c : Comparison) → Clean (test_outcome op x q c)
test_clean op x q Equal = tt
test_clean op x q Different = tt
test_clean op x q (Open xs) = tt

field_clean : (x : VarName) (o : Option VarName) → Clean (field_outcome x o)
field_clean x (Some y) = tt
field_clean x None = tt

selection_clean : (x : VarName) (n : Node) (o : Option Feature) → Clean (selection_outcome x n o)
selection_clean x (node.Rec label fields) (Some f) = field_clean x _
selection_clean x (node.Atom text) (Some f) = tt
selection_clean x _ _ = tt

select_clean : (s : Store) (env : Env) (x : VarName) (n : Node) (by : Selector) → Clean (select_outcome s env x n by)
select_clean s env x n (selector.Feature f) = selection_clean x n (Some f)
select_clean s env x n (selector.Var by) = node_clean (var_at env by) (node_of s (var_at env by)) (λ m. selection_outcome x n (feature_of m)) (λ m. selection_clean x n (feature_of m))

branch_clean : (p : List Stmt) (env : Env) (one other : CodeId) (n : Node) → Clean (branch_outcome p env one other n)
branch_clean p env one other (node.Atom text) = first (bytes_eq text (codes "true"))
  where
    second : (b : Bool) → Clean (cond b (one_body p other env) (outcome.Fails ErrorType))
    second true = tt
    second false = tt

    first : (b : Bool) → Clean (cond b (one_body p one env) (cond (bytes_eq text (codes "false")) (one_body p other env) (outcome.Fails ErrorType)))
    first true = tt
    first false = second (bytes_eq text (codes "false"))
branch_clean p env one other _ = tt

case_clean : (p : List Stmt) (env : Env) (first : ℕ) (one other : CodeId) (o : Option (List VarName)) → Clean (case_outcome p env first one other o)
case_clean p env first one other (Some xs) = tt
case_clean p env first one other None = tt

body_clean : (p : List Stmt) (vars args : List VarName) (st : Stmt) → Clean (body_outcome p vars args st)
body_clean p vars args (stmt.TellProc left first count body) = tt
body_clean p vars args _ = tt

call_clean : (p : List Stmt) (args : List VarName) (n : Node) → Clean (call_outcome p args n)
call_clean p args (node.Proc formals code name vars) = by (length args == formals)
  where
    by : (b : Bool) → Clean (cond b (body_outcome p vars args (stmt_at p code)) (outcome.Fails ErrorArity))
    by true = body_clean p vars args (stmt_at p code)
    by false = tt
call_clean p args _ = tt

exchange_clean : (new told : VarName) (n : Node) → Clean (exchange_outcome new told n)
exchange_clean new told (node.Cell cell) = tt
exchange_clean new told _ = tt

send_clean : (value : VarName) (n : Node) → Clean (send_outcome value n)
send_clean value (node.Port port) = tt
send_clean value _ = tt

placed_clean : (content told : VarName) (n : Node) → Clean (placed_outcome content told n)
placed_clean content told (node.Int (pos (suc k))) = tt
placed_clean content told _ = tt

statement_clean : (p : List Stmt) (s : Store) (code : CodeId) (env : Env) (st : Stmt) → Clean (outcome_of p s code env st)
statement_clean p s code env (stmt.Calc left op a b) =
    node_clean (var_at env a) (node_of s (var_at env a)) _ (λ m. node_clean (var_at env b) (node_of s (var_at env b)) _ (λ n. calc_clean op (var_at env left) m n))
statement_clean p s code env (stmt.Test left op a b) = test_clean op (var_at env left) (var_at env a, var_at env b) (compared s (var_at env a, var_at env b))
statement_clean p s code env (stmt.Select left source by) = node_clean (var_at env source) (node_of s (var_at env source)) _ (λ n. select_clean s env (var_at env left) n by)
statement_clean p s code env (stmt.If subject one other) = node_clean (var_at env subject) (node_of s (var_at env subject)) _ (λ n. branch_clean p env one other n)
statement_clean p s code env (stmt.Case subject pattern first one other) =
    node_clean (var_at env subject) (node_of s (var_at env subject)) _ (λ n. case_clean p env first one other (match_vars pattern n))
statement_clean p s code env (stmt.Call callee args) = node_clean (var_at env callee) (node_of s (var_at env callee)) _ (λ n. call_clean p (vars_at env args) n)
statement_clean p s code env (stmt.Browse x) = print_clean [] s (var_at env x) refl
statement_clean p s code env (stmt.Wait x) = node_clean (var_at env x) (node_of s (var_at env x)) _ (λ n. tt)
statement_clean p s code env (stmt.Exchange cell old new) =
    node_clean (var_at env cell) (node_of s (var_at env cell)) _ (λ n. exchange_clean (var_at env new) (var_at env old) n)
statement_clean p s code env (stmt.Send port value) = node_clean (var_at env port) (node_of s (var_at env port)) _ (λ n. send_clean (var_at env value) n)
statement_clean p s code env (stmt.NewCellAt content cell at) = node_clean (var_at env at) (node_of s (var_at env at)) _ (λ n. placed_clean (var_at env content) (var_at env cell) n)
statement_clean p s code env _ = tt

-- ---- what an effect prints

abbrev Lines : Effect → Type 0
Lines e = Each IsLine (option_to_list e.line)

exception_lines : (exception : SystemException) (rest : Stack) (names : List VarName) → Lines (exception_effect exception rest names)
exception_lines exception rest (a ∷ x ∷ []) = tt
exception_lines exception rest _ = tt

outcome_lines : (p : List Stmt) (env : Env) (rest : Stack) (fresh : List Name) (o : Outcome) → Clean o → Lines (outcome_effect p env rest fresh o)
outcome_lines p env rest fresh (outcome.Fails exception) h = exception_lines exception rest (vars_among fresh)
outcome_lines p env rest fresh (outcome.Prints line) h = (h, tt)
outcome_lines p env rest fresh _ h = tt

pair_lines : (a b : Term) (pairs : List (Term × Term)) (met : List (Node × Node)) (rest : Stack) (fresh : List Name) (bind : Option Equation) (c : Case) → Lines (pair_effect a b pairs met rest fresh bind c)
pair_lines a b pairs met rest fresh bind goal.Failed = exception_lines FailureTell rest (vars_among fresh)
pair_lines a b pairs met rest fresh bind _ = tt

goal_lines : (s : Store) (met : List (Node × Node)) (rest : Stack) (fresh : List Name) (bind : Option Equation) (pairs : List (Term × Term)) → Lines (goal_effect s met rest fresh bind pairs)
goal_lines s met rest fresh bind [] = tt
goal_lines s met rest fresh bind ((a, b) ∷ pairs) = pair_lines a b pairs met rest fresh bind (case_of s met a b)

stack_lines : (p : List Stmt) (s : Store) (fresh : List Name) (bind : Option Equation) (st : Stack) → Lines (stack_effect p s fresh bind st)
stack_lines p s fresh bind [] = tt
stack_lines p s fresh bind (Run code env ∷ rest) = outcome_lines p env rest fresh (outcome_of p s code env (stmt_at p code)) (statement_clean p s code env (stmt_at p code))
stack_lines p s fresh bind (Goals b ∷ rest) = goal_lines s b.met rest fresh bind b.pairs
stack_lines p s fresh bind (Mark code at env ∷ rest) = tt
stack_lines p s fresh bind (Report x ∷ rest) = outcome_lines p [] rest fresh (print_outcome (codes "uncaught ") (shown s x)) (print_clean (codes "uncaught ") s x refl)

-- ---- what a run prints

run_lines : (p : List Stmt) (ks : List Pick) (s t : State) → IsRun p s ks t → Each IsLine s.lines → Each IsLine t.lines
run_lines p [] s t is h = subst (λ (u : State). Each IsLine u.lines) (sym is) h
run_lines p (k ∷ ks) s t (m, step, rest) h =
    run_lines p ks m t rest (subst (λ (u : State). Each IsLine u.lines) (sym step.1)
    (each_append IsLine s.lines (option_to_list (effect_of p s k).line) h (stack_lines p s.equations k.fresh k.bind (stack_of s k.thread))))

entries_lines : (j : List Turn) → Each IsLine (lines_in j) → Each (λ (e : Turn). Each IsLine e.lines) j
entries_lines [] h = tt
entries_lines (e ∷ j) h = let r = each_left IsLine (lines_in j) e.lines h in (r.1, entries_lines j r.0)

pub printed_law : PrintedLinesAreLines
printed_law p n j w is low high run =
    let m = machine p n j w is low high run in
    entries_lines j (subst (λ (ls : List (List ℕ)). Each IsLine ls) m.1.matches.lines (run_lines p (schedule j) (start p) m.0 m.1.run tt))
