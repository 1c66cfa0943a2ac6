-- A pick tells, before its step, the thread that the step makes; and births of a run and one more step.
use Rattle.std.proofs.Common.{◌≡◌, ◌∙◌, sym, ap, refl, subst, ℕ, zero, suc, List, [], ◌∷◌, ◌++◌, Some, None}
use Rattle.std.specs.Prelude.{Option, option_to_list, codes}
use Rattle.std.proofs.lemmas.List.{append_assoc, append-nil}
use Rattle.tree_node.specs.declared.names.VarName.{VarName}
use Rattle.tree_node.specs.declared.names.NameKind.TheVariants as kind
use Rattle.tree_node.specs.declared.names.Name.{Name}
use Rattle.tree_node.specs.declared.names.Name.TheVariants as name
use Rattle.tree_node.specs.declared.node.Node.{Node}
use Rattle.tree_node.specs.declared.node.Term.{Term}
use Rattle.tree_node.specs.declared.item.Item.TheVariants.{Run as Runs, Goals, Mark, Report}
use Rattle.tree_node.specs.declared.pick.Pick.{Pick}
use Rattle.tree_node.specs.Env.{Env}
use Rattle.tree_node.specs.Goal.{Case, Dropped, Binds, Opened, Failed, case_of}
use Rattle.tree_node.specs.Shown.{shown}
use Rattle.tree_node.specs.State.{Stack, State}
use Rattle.tree_node.specs.Store.{Equation}
use Rattle.kernel_syntax.specs.declared.stmt.Stmt.{Stmt}
use Rattle.kernel_syntax.specs.Free.{stmt_at}
use Rattle.oz_model.specs.declared.outcome.SystemException.{SystemException}
use Rattle.oz_model.specs.declared.outcome.SystemException.TheVariants.{FailureTell}
use Rattle.oz_model.specs.declared.outcome.Outcome.{Outcome}
use Rattle.oz_model.specs.declared.outcome.Outcome.TheVariants as outcome
use Rattle.oz_model.specs.Outcome.{outcome_of, print_outcome}
use Rattle.oz_model.specs.Need.{cell_kind, variable_kinds, outcome_need, pair_need, stack_need, kinds_of}
use Rattle.oz_model.specs.Effect.{stack_effect, outcome_effect, goal_effect, pair_effect, exception_effect, vars_among, thread_among}
use Rattle.oz_model.specs.Run.{IsRun, Run, start}
use Rattle.oz_model.specs.Step.{AreOfKinds, IsAllowed, effect_of, next, stack_of}
use Rattle.oz_model.proofs.KindLemmas.{kinds_one, only_var, only_proc, only_port, only_thread, only_cell_of}
use Rattle.run_trace.specs.declared.findings.Begun.{Begun}
use Rattle.run_trace.specs.declared.findings.Birth.{Birth}
use Rattle.run_trace.specs.Begun.{begun_with, begun_from, begun}
use Rattle.run_trace.specs.Births.{name_born, birth_in, births_from, births}
use Rattle.run_trace.specs.Kept.{thread_name}

-- ---- by the names that are taken

nothing_named : (fresh : List Name) → AreOfKinds fresh [] → thread_name fresh ≡ None
nothing_named [] e = refl
nothing_named (x ∷ xs) e = absurd e

vars_named : (count : ℕ) (fresh : List Name) → AreOfKinds fresh (variable_kinds count) → thread_name fresh ≡ None
vars_named count [] e = refl
vars_named zero (x ∷ xs) e = absurd e
vars_named (suc n) (x ∷ []) e = let v = only_var x e.0 in subst (λ (y : Name). thread_name (y ∷ []) ≡ None) (sym v.1) refl
vars_named (suc n) (x ∷ y ∷ ys) e = refl

-- one name, which is no thread's
other_named : (fresh : List Name) (x y : Name) → fresh ≡ x ∷ [] → x ≡ y → thread_name (y ∷ []) ≡ None → thread_name fresh ≡ None
other_named fresh x y is same none = ap thread_name is ∙ (ap (λ (z : Name). thread_name (z ∷ [])) same ∙ none)

fails_none : (exception : SystemException) (rest : Stack) (xs : List VarName) → None ≡ name_born (exception_effect exception rest xs).born
fails_none exception rest [] = refl
fails_none exception rest (a ∷ []) = refl
fails_none exception rest (a ∷ x ∷ []) = refl
fails_none exception rest (a ∷ x ∷ y ∷ ys) = refl

outcome_named : (p : List Stmt) (env : Env) (rest : Stack) (fresh : List Name) (o : Outcome) → AreOfKinds fresh (kinds_of (outcome_need o)) → thread_name fresh ≡ name_born (outcome_effect p env rest fresh o).born
outcome_named p env rest fresh (outcome.Spawns at body vars) e =
    let one = kinds_one kind.Thread fresh e in
    let thread = only_thread one.0 one.2 in
    let is : fresh ≡ name.Thread thread.0 ∷ [] = one.1 ∙ ap (λ (x : Name). x ∷ []) thread.1 in
    subst (λ (f : List Name). thread_name f ≡ Some (thread_among f)) (sym is) refl
outcome_named p env rest fresh (outcome.Fails exception) e = vars_named 2 fresh e ∙ fails_none exception rest (vars_among fresh)
outcome_named p env rest fresh (outcome.Declares first count body) e = vars_named count fresh e
outcome_named p env rest fresh (outcome.Sends port value) e = vars_named 1 fresh e
outcome_named p env rest fresh (outcome.MakesProc left code formals vars) e =
    let one = kinds_one kind.Proc fresh e in
    let it = only_proc one.0 one.2 in other_named fresh one.0 (name.Proc it.0) one.1 it.1 refl
outcome_named p env rest fresh (outcome.MakesCell at content told) e =
    let one = kinds_one (cell_kind at) fresh e in
    let it = only_cell_of at one.0 one.2 in other_named fresh one.0 (name.Cell it.0) one.1 it.1 refl
outcome_named p env rest fresh (outcome.MakesPort stream told) e =
    let one = kinds_one kind.Port fresh e in
    let it = only_port one.0 one.2 in other_named fresh one.0 (name.Port it.0) one.1 it.1 refl
outcome_named p env rest fresh (outcome.Waits x) e = nothing_named fresh e
outcome_named p env rest fresh (outcome.WaitsAny left right) e = nothing_named fresh e
outcome_named p env rest fresh (outcome.Runs codes) e = nothing_named fresh e
outcome_named p env rest fresh (outcome.Tells x t) e = nothing_named fresh e
outcome_named p env rest fresh (outcome.Exchanges cell new told) e = nothing_named fresh e
outcome_named p env rest fresh (outcome.Tries body body_env handler first handler_env) e = nothing_named fresh e
outcome_named p env rest fresh (outcome.Raises x) e = nothing_named fresh e
outcome_named p env rest fresh (outcome.Prints line) e = nothing_named fresh e

pair_named : (a b : Term) (pairs : List (Term × Term)) (met : List (Node × Node)) (rest : Stack) (fresh : List Name) (bind : Option Equation) (c : Case) → AreOfKinds fresh (kinds_of (pair_need a b c)) →
    thread_name fresh ≡ name_born (pair_effect a b pairs met rest fresh bind c).born
pair_named a b pairs met rest fresh bind Dropped e = nothing_named fresh e
pair_named a b pairs met rest fresh bind Binds e = nothing_named fresh e
pair_named a b pairs met rest fresh bind (Opened m n fields) e = nothing_named fresh e
pair_named a b pairs met rest fresh bind Failed e = vars_named 2 fresh e ∙ fails_none FailureTell rest (vars_among fresh)

-- the thread among the names of a pick is the one that its step makes
pub pick_names : (p : List Stmt) (s : State) (k : Pick) → IsAllowed p s k → thread_name k.fresh ≡ name_born (effect_of p s k).born
pick_names p s k allowed = go (stack_of s k.thread) allowed.fresh.of_kinds
  where
    goals : (met : List (Node × Node)) (rest : Stack) (pairs : List (Term × Term)) (block : AreOfKinds k.fresh (kinds_of (stack_need p s.equations (Goals (record { pairs = pairs; met = met }) ∷ rest)))) →
        thread_name k.fresh ≡ name_born (goal_effect s.equations met rest k.fresh k.bind pairs).born
    goals met rest [] e = nothing_named k.fresh e
    goals met rest ((a, b) ∷ pairs) e = pair_named a b pairs met rest k.fresh k.bind (case_of s.equations met a b) e

    go : (stack : Stack) → AreOfKinds k.fresh (kinds_of (stack_need p s.equations stack)) → thread_name k.fresh ≡ name_born (stack_effect p s.equations k.fresh k.bind stack).born
    go [] e = nothing_named k.fresh e
    go (Runs code env ∷ rest) e = outcome_named p env rest k.fresh (outcome_of p s.equations code env (stmt_at p code)) e
    go (Mark code at env ∷ rest) e = nothing_named k.fresh e
    go (Report x ∷ rest) e = outcome_named p [] rest k.fresh (print_outcome (codes "uncaught ") (shown s.equations x)) e
    go (Goals b ∷ rest) e = goals b.met rest b.pairs e

-- ---- one more step

births_snoc : (p : List Stmt) (ks : List Pick) (k : Pick) (s t : State) (before : List Begun) → IsRun p s ks t →
    births_from p before s (ks ++ k ∷ []) ≡ births_from p before s ks ++ option_to_list (birth_in p (begun_with t k.thread (begun_from p s ks before)) t k)
births_snoc p [] k s t before run =
    append-nil (option_to_list (birth_in p (begun_with s k.thread before) s k))
    ∙ ap (λ (x : State). option_to_list (birth_in p (begun_with x k.thread before) x k)) (sym run)
births_snoc p (j ∷ ks) k s t before (m, step, run) =
    let here : List Birth = option_to_list (birth_in p (begun_with s j.thread before) s j) in
    let last : List Birth = option_to_list (birth_in p (begun_with t k.thread (begun_from p (next p s j) ks (begun_with s j.thread before))) t k) in
    ap (λ (bs : List Birth). here ++ bs) (births_snoc p ks k (next p s j) t (begun_with s j.thread before) (subst (λ (x : State). IsRun p x ks t) step.1 run))
    ∙ sym (append_assoc here (births_from p (begun_with s j.thread before) (next p s j) ks) last)

pub births_go_on : (p : List Stmt) (ks : List Pick) (k : Pick) (t : State) → Run p ks t → births p (ks ++ k ∷ []) ≡ births p ks ++ option_to_list (birth_in p (begun_with t k.thread (begun p ks)) t k)
births_go_on p ks k t run = births_snoc p ks k (start p) t [] run
