-- A pick tells, before its step, the variable that the step raises.
use Rattle.std.proofs.Common.{◌≡◌, sym, refl, subst, ℕ, suc, pos, List, [], ◌∷◌, Bool, true, false, cond, Some, None}
use Rattle.std.specs.Prelude.{Option, length, ◌==◌, codes}
use Rattle.std.specs.Str.{bytes_eq}
use Rattle.tree_node.specs.declared.names.VarName.{VarName}
use Rattle.tree_node.specs.declared.names.CodeId.{CodeId}
use Rattle.tree_node.specs.declared.names.NameKind.{NameKind}
use Rattle.tree_node.specs.declared.names.NameKind.TheVariants as kind
use Rattle.tree_node.specs.declared.names.Name.{Name}
use Rattle.tree_node.specs.declared.names.Name.TheVariants as name
use Rattle.tree_node.specs.declared.node.Feature.{Feature}
use Rattle.tree_node.specs.declared.node.Node.{Node}
use Rattle.tree_node.specs.declared.node.Node.TheVariants as node
use Rattle.tree_node.specs.declared.node.Term.{Term}
use Rattle.tree_node.specs.declared.item.Item.TheVariants.{Run, Goals, Mark, Report}
use Rattle.tree_node.specs.declared.pick.Pick.{Pick}
use Rattle.tree_node.specs.Assoc.{value_of}
use Rattle.tree_node.specs.Compare.{Pair, Comparison, Equal, Different, Open, compared}
use Rattle.tree_node.specs.Env.{Env, var_at, vars_at}
use Rattle.tree_node.specs.Goal.{Case, Dropped, Binds, Opened, Failed, case_of, equal_feature}
use Rattle.tree_node.specs.Shown.{Show, shown}
use Rattle.tree_node.specs.Shown as show
use Rattle.tree_node.specs.State.{Stack, State}
use Rattle.tree_node.specs.Store.{Store, node_of}
use Rattle.kernel_syntax.specs.declared.stmt.Op.{Op}
use Rattle.kernel_syntax.specs.declared.stmt.TestOp.{TestOp}
use Rattle.kernel_syntax.specs.declared.stmt.Selector.{Selector}
use Rattle.kernel_syntax.specs.declared.stmt.Selector.TheVariants as selector
use Rattle.kernel_syntax.specs.declared.stmt.Stmt.{Stmt}
use Rattle.kernel_syntax.specs.declared.stmt.Stmt.TheVariants as stmt
use Rattle.kernel_syntax.specs.Arithmetic.{OperatorResult, Number, Truth, Overflow, Zero, result_of}
use Rattle.kernel_syntax.specs.Free.{stmt_at}
use Rattle.oz_model.specs.declared.outcome.Outcome.{Outcome}
use Rattle.oz_model.specs.declared.outcome.Outcome.TheVariants as outcome
use Rattle.oz_model.specs.declared.outcome.SystemException.TheVariants.{ErrorType, ErrorArity}
use Rattle.oz_model.specs.Outcome.{outcome_of, print_outcome, on_node, calc_outcome, calculated_outcome, test_outcome, field_outcome, selection_outcome, select_outcome, feature_of, branch_outcome, one_body, case_outcome, match_vars, call_outcome, body_outcome, exchange_outcome, placed_outcome, send_outcome}
use Rattle.oz_model.specs.Need.{outcome_need, pair_need, goal_need, stack_need, kinds_of}
use Rattle.oz_model.specs.Effect.{vars_among}
use Rattle.oz_model.specs.Step.{AreOfKinds, IsAllowed, stack_of}
use Rattle.oz_model.proofs.KindLemmas.{only_var}
use Rattle.central_machine.specs.Getters.{env_on, top_of}
use Rattle.run_trace.specs.Kept.{second_name, raised_by_row, raised_at}
use Rattle.run_trace.specs.Raised.{second_of, raised_by, raised_by_pair, raised_by_goals, raised_on}

-- ---- by the names that are taken

none_told : (fresh : List Name) → AreOfKinds fresh [] → second_name fresh ≡ None
none_told [] e = refl
none_told (x ∷ xs) e = absurd e

one_told : (k : NameKind) (fresh : List Name) → AreOfKinds fresh (k ∷ []) → second_name fresh ≡ None
one_told k [] e = absurd e
one_told k (x ∷ []) e = refl
one_told k (x ∷ y ∷ ys) e = absurd e.1

two_told : (fresh : List Name) → AreOfKinds fresh (kind.Var ∷ kind.Var ∷ []) → second_name fresh ≡ second_of (vars_among fresh)
two_told [] e = absurd e
two_told (x ∷ []) e = absurd e.1
two_told (x ∷ y ∷ []) e =
    let u = only_var x e.0 in
    let v = only_var y e.1.0 in
    subst (λ (a : Name). second_name (a ∷ y ∷ []) ≡ second_of (vars_among (a ∷ y ∷ []))) (sym u.1)
    (subst (λ (b : Name). second_name (name.Var u.0 ∷ b ∷ []) ≡ second_of (vars_among (name.Var u.0 ∷ b ∷ []))) (sym v.1) refl)
two_told (x ∷ y ∷ z ∷ zs) e = absurd e.1.1

-- the outcome is that of neither `local` nor `raise`
abbrev IsOther : Outcome → Type 0
IsOther (outcome.Declares first count body) = ⊥
IsOther (outcome.Raises x) = ⊥
IsOther _ = Unit {0}

names_told : (fresh : List Name) (o : Outcome) → IsOther o → AreOfKinds fresh (kinds_of (outcome_need o)) → second_name fresh ≡ raised_by (vars_among fresh) o
names_told fresh (outcome.Declares first count body) other e = absurd other
names_told fresh (outcome.Raises x) other e = absurd other
names_told fresh (outcome.Fails exception) other e = two_told fresh e
names_told fresh (outcome.MakesProc left code formals vars) other e = one_told kind.Proc fresh e
names_told fresh (outcome.MakesCell None content told) other e = one_told kind.Cell fresh e
names_told fresh (outcome.MakesCell (Some at) content told) other e = one_told (kind.CellAt at) fresh e
names_told fresh (outcome.MakesPort stream told) other e = one_told kind.Port fresh e
names_told fresh (outcome.Sends port value) other e = one_told kind.Var fresh e
names_told fresh (outcome.Spawns at body vars) other e = one_told kind.Thread fresh e
names_told fresh (outcome.Waits y) other e = none_told fresh e
names_told fresh (outcome.WaitsAny left right) other e = none_told fresh e
names_told fresh (outcome.Runs codes) other e = none_told fresh e
names_told fresh (outcome.Tells y t) other e = none_told fresh e
names_told fresh (outcome.Exchanges cell new told) other e = none_told fresh e
names_told fresh (outcome.Tries body body_env handler first handler_env) other e = none_told fresh e
names_told fresh (outcome.Prints line) other e = none_told fresh e

-- ---- outcomes of other statements

on_node_other : (x : VarName) (o : Option Node) (then_ : Node → Outcome) → ((n : Node) → IsOther (then_ n)) → IsOther (on_node x o then_)
on_node_other x None then_ h = tt
on_node_other x (Some n) then_ h = h n

calculated_other : (x : VarName) (r : OperatorResult) → IsOther (calculated_outcome x r)
calculated_other x (Number value) = tt
calculated_other x (Truth value) = tt
calculated_other x Overflow = tt
calculated_other x Zero = tt

calc_other : (op : Op) (x : VarName) (m n : Node) → IsOther (calc_outcome op x m n)
calc_other op x (node.Int a) (node.Int b) = calculated_other x (result_of op a b)
calc_other op x _ _ = tt

test_other : (op : TestOp) (x : VarName) (q : Pair) (c : Comparison) → IsOther (test_outcome op x q c)
test_other op x q Equal = tt
test_other op x q Different = tt
test_other op x q (Open xs) = tt

field_other : (x : VarName) (o : Option VarName) → IsOther (field_outcome x o)
field_other x None = tt
field_other x (Some y) = tt

selection_other : (x : VarName) (n : Node) (o : Option Feature) → IsOther (selection_outcome x n o)
selection_other x (node.Rec label fields) (Some f) = field_other x (value_of equal_feature fields f)
selection_other x (node.Rec label fields) None = tt
selection_other x (node.Atom text) None = tt
selection_other x (node.Atom text) (Some f) = tt
selection_other x _ _ = tt

select_other : (s : Store) (env : Env) (x : VarName) (n : Node) (by : Selector) → IsOther (select_outcome s env x n by)
select_other s env x n (selector.Feature f) = selection_other x n (Some f)
select_other s env x n (selector.Var at) = on_node_other (var_at env at) (node_of s (var_at env at)) (λ m. selection_outcome x n (feature_of m)) (λ m. selection_other x n (feature_of m))

branch_other : (p : List Stmt) (env : Env) (chosen other_code : CodeId) (n : Node) → IsOther (branch_outcome p env chosen other_code n)
branch_other p env chosen other_code (node.Atom text) = go (bytes_eq text (codes "true")) (bytes_eq text (codes "false"))
  where
    go : (a b : Bool) → IsOther (cond a (one_body p chosen env) (cond b (one_body p other_code env) (outcome.Fails ErrorType)))
    go true b = tt
    go false true = tt
    go false false = tt
branch_other p env chosen other_code _ = tt

case_other : (p : List Stmt) (env : Env) (first : ℕ) (chosen other_code : CodeId) (o : Option (List VarName)) → IsOther (case_outcome p env first chosen other_code o)
case_other p env first chosen other_code None = tt
case_other p env first chosen other_code (Some xs) = tt

body_other : (p : List Stmt) (vars args : List VarName) (st : Stmt) → IsOther (body_outcome p vars args st)
body_other p vars args (stmt.TellProc left first count body) = tt
body_other p vars args _ = tt

call_other : (p : List Stmt) (args : List VarName) (n : Node) → IsOther (call_outcome p args n)
call_other p args (node.Proc formals code q vars) = go (length args == formals)
  where
    go : (b : Bool) → IsOther (cond b (body_outcome p vars args (stmt_at p code)) (outcome.Fails ErrorArity))
    go true = body_other p vars args (stmt_at p code)
    go false = tt
call_other p args _ = tt

exchange_other : (new told : VarName) (n : Node) → IsOther (exchange_outcome new told n)
exchange_other new told (node.Cell cell) = tt
exchange_other new told _ = tt

placed_other : (content told : VarName) (n : Node) → IsOther (placed_outcome content told n)
placed_other content told (node.Int (pos (suc k))) = tt
placed_other content told _ = tt

send_other : (value : VarName) (n : Node) → IsOther (send_outcome value n)
send_other value (node.Port port) = tt
send_other value _ = tt

print_other : (words : List ℕ) (found : Show) → IsOther (print_outcome words found)
print_other words (show.Text text left) = tt
print_other words (show.Needs x) = tt

-- ---- a statement, and a goal block

row_told : (p : List Stmt) (s : Store) (code : CodeId) (env : Env) (fresh : List Name) (st : Stmt) → AreOfKinds fresh (kinds_of (outcome_need (outcome_of p s code env st))) →
    raised_by_row fresh env st ≡ raised_by (vars_among fresh) (outcome_of p s code env st)
row_told p s code env fresh (stmt.Raise x) e = refl
row_told p s code env fresh (stmt.Local first count body) e = refl
row_told p s code env fresh (stmt.Calc left op a b) e =
    names_told fresh (outcome_of p s code env (stmt.Calc left op a b)) (on_node_other (var_at env a) (node_of s (var_at env a)) (λ m. on_node (var_at env b) (node_of s (var_at env b)) (λ n. calc_outcome op (var_at env left) m n))
    (λ m. on_node_other (var_at env b) (node_of s (var_at env b)) (λ n. calc_outcome op (var_at env left) m n) (λ n. calc_other op (var_at env left) m n))) e
row_told p s code env fresh (stmt.Test left op a b) e = names_told fresh (outcome_of p s code env (stmt.Test left op a b)) (test_other op (var_at env left) (var_at env a, var_at env b) (compared s (var_at env a, var_at env b))) e
row_told p s code env fresh (stmt.Select left source by) e =
    names_told fresh (outcome_of p s code env (stmt.Select left source by)) (on_node_other (var_at env source) (node_of s (var_at env source)) (λ n. select_outcome s env (var_at env left) n by) (λ n. select_other s env (var_at env left) n by)) e
row_told p s code env fresh (stmt.If subject chosen other_code) e =
    names_told fresh (outcome_of p s code env (stmt.If subject chosen other_code)) (on_node_other (var_at env subject) (node_of s (var_at env subject)) (λ n. branch_outcome p env chosen other_code n) (λ n. branch_other p env chosen other_code n)) e
row_told p s code env fresh (stmt.Case subject pattern first chosen other_code) e =
    names_told fresh (outcome_of p s code env (stmt.Case subject pattern first chosen other_code)) (on_node_other (var_at env subject) (node_of s (var_at env subject)) (λ n. case_outcome p env first chosen other_code (match_vars pattern n)) (λ n. case_other p env first chosen other_code (match_vars pattern n))) e
row_told p s code env fresh (stmt.Call callee args) e =
    names_told fresh (outcome_of p s code env (stmt.Call callee args)) (on_node_other (var_at env callee) (node_of s (var_at env callee)) (λ n. call_outcome p (vars_at env args) n) (λ n. call_other p (vars_at env args) n)) e
row_told p s code env fresh (stmt.Browse x) e = names_told fresh (outcome_of p s code env (stmt.Browse x)) (print_other [] (shown s (var_at env x))) e
row_told p s code env fresh (stmt.Wait x) e = names_told fresh (outcome_of p s code env (stmt.Wait x)) (on_node_other (var_at env x) (node_of s (var_at env x)) (λ n. outcome.Runs []) (λ n. tt)) e
row_told p s code env fresh (stmt.Exchange cell old new) e =
    names_told fresh (outcome_of p s code env (stmt.Exchange cell old new)) (on_node_other (var_at env cell) (node_of s (var_at env cell)) (λ n. exchange_outcome (var_at env new) (var_at env old) n) (λ n. exchange_other (var_at env new) (var_at env old) n)) e
row_told p s code env fresh (stmt.Send port value) e =
    names_told fresh (outcome_of p s code env (stmt.Send port value)) (on_node_other (var_at env port) (node_of s (var_at env port)) (λ n. send_outcome (var_at env value) n) (λ n. send_other (var_at env value) n)) e
row_told p s code env fresh (stmt.NewCellAt content cell at) e =
    names_told fresh (outcome_of p s code env (stmt.NewCellAt content cell at)) (on_node_other (var_at env at) (node_of s (var_at env at)) (λ n. placed_outcome (var_at env content) (var_at env cell) n) (λ n. placed_other (var_at env content) (var_at env cell) n)) e
row_told p s code env fresh (stmt.Seq bodies) e = none_told fresh e
row_told p s code env fresh stmt.Skip e = none_told fresh e
row_told p s code env fresh (stmt.TellVar left right) e = none_told fresh e
row_told p s code env fresh (stmt.TellInt left value) e = none_told fresh e
row_told p s code env fresh (stmt.TellAtom left text) e = none_told fresh e
row_told p s code env fresh (stmt.TellRec left label fields) e = none_told fresh e
row_told p s code env fresh (stmt.TellProc left first count body) e = one_told kind.Proc fresh e
row_told p s code env fresh (stmt.NewCell content cell) e = one_told kind.Cell fresh e
row_told p s code env fresh (stmt.NewPort stream port) e = one_told kind.Port fresh e
row_told p s code env fresh (stmt.Thread at body) e = one_told kind.Thread fresh e
row_told p s code env fresh (stmt.Try body first handler) e = none_told fresh e

pair_told : (fresh : List Name) (a b : Term) (c : Case) → AreOfKinds fresh (kinds_of (pair_need a b c)) → second_name fresh ≡ raised_by_pair (vars_among fresh) c
pair_told fresh a b Dropped e = none_told fresh e
pair_told fresh a b Binds e = none_told fresh e
pair_told fresh a b (Opened m n fields) e = none_told fresh e
pair_told fresh a b Failed e = two_told fresh e

goals_told : (s : Store) (fresh : List Name) (met : List (Node × Node)) (pairs : List (Term × Term)) → AreOfKinds fresh (kinds_of (goal_need s met pairs)) → second_name fresh ≡ raised_by_goals s (vars_among fresh) met pairs
goals_told s fresh met [] e = none_told fresh e
goals_told s fresh met ((a, b) ∷ pairs) e = pair_told fresh a b (case_of s met a b) e

-- what the pick of a step tells is what the step raises
pub pick_tells : (p : List Stmt) (s : State) (k : Pick) → IsAllowed p s k →
    raised_at p k.fresh (env_on (stack_of s k.thread)) (top_of (stack_of s k.thread)) ≡ raised_on p s.equations k.fresh (stack_of s k.thread)
pick_tells p s k allowed = go (stack_of s k.thread) allowed.fresh.of_kinds
  where
    go : (stack : Stack) → AreOfKinds k.fresh (kinds_of (stack_need p s.equations stack)) → raised_at p k.fresh (env_on stack) (top_of stack) ≡ raised_on p s.equations k.fresh stack
    go [] e = refl
    go (Run code env ∷ rest) e = row_told p s.equations code env k.fresh (stmt_at p code) e
    go (Goals b ∷ rest) e = goals_told s.equations k.fresh b.met b.pairs e
    go (Mark code at env ∷ rest) e = refl
    go (Report x ∷ rest) e = refl
