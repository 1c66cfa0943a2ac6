-- What a step of a thread adds.
use Rattle.std.proofs.Common.{◌≡◌, sym, refl, subst, List, [], ◌∷◌, ◌⊎◌, inl, inr, Some, None}
use Rattle.std.specs.Prelude.{codes}
use Rattle.tree_node.specs.declared.names.VarName.{VarName}
use Rattle.tree_node.specs.declared.names.Name.{Name}
use Rattle.tree_node.specs.declared.names.Name.TheVariants as name
use Rattle.tree_node.specs.declared.names.NameKind.{NameKind}
use Rattle.tree_node.specs.declared.names.NameKind.TheVariants as kind
use Rattle.tree_node.specs.declared.node.Node.{Node}
use Rattle.tree_node.specs.declared.node.Term.{Term}
use Rattle.tree_node.specs.declared.node.Term.TheVariants as term
use Rattle.tree_node.specs.declared.item.Item.TheVariants as item
use Rattle.tree_node.specs.Env.{Env}
use Rattle.tree_node.specs.Goal.{Case, Dropped, Binds, Opened, Failed, case_of}
use Rattle.tree_node.specs.Shown.{shown}
use Rattle.tree_node.specs.State.{Stack}
use Rattle.tree_node.specs.Store.{Store, Equation}
use Rattle.kernel_syntax.specs.declared.stmt.Stmt.{Stmt}
use Rattle.kernel_syntax.specs.Free.{stmt_at}
use Rattle.oz_model.specs.declared.outcome.SystemException.{SystemException}
use Rattle.oz_model.specs.declared.outcome.SystemException.TheVariants.{FailureTell}
use Rattle.oz_model.specs.declared.outcome.Outcome.{Outcome}
use Rattle.oz_model.specs.declared.outcome.Outcome.TheVariants as outcome
use Rattle.oz_model.specs.Outcome.{outcome_of, print_outcome}
use Rattle.oz_model.specs.Need.{Waits, Takes, outcome_need, pair_need, goal_need, stack_need, variable_kinds}
use Rattle.oz_model.specs.Need as need
use Rattle.oz_model.specs.Effect.{Keeps, Effect, Stays, stack_effect, outcome_effect, goal_effect, pair_effect, exception_effect, vars_among}
use Rattle.oz_model.specs.Step.{AreOfKinds}
use Rattle.oz_model.proofs.KindLemmas.{only_var}

-- nothing, or the two equations of an exception on the two fresh variables
abbrev pub AddsFresh : List Name → List Equation → Type 0
AddsFresh fresh adds =
    (adds ≡ []) ⊎ ((a : VarName) × (x : VarName) × (n : Node) × (m : Node) × (fresh ≡ name.Var a ∷ name.Var x ∷ []) × (adds ≡ (x, term.Node n) ∷ (a, term.Node m) ∷ []))

pair_is : (a x : Name) (v u : VarName) → a ≡ name.Var v → x ≡ name.Var u → a ∷ x ∷ [] ≡ name.Var v ∷ name.Var u ∷ []
pair_is a x v u p q = rw (p, q) refl

two_vars : (fresh : List Name) → AreOfKinds fresh (variable_kinds 2) → (a : VarName) × (x : VarName) × (fresh ≡ name.Var a ∷ name.Var x ∷ [])
two_vars [] e = absurd e
two_vars (a ∷ []) e = absurd e.1
two_vars (a ∷ x ∷ y ∷ ys) e = absurd e.1.1
two_vars (a ∷ x ∷ []) e =
    let p = only_var a e.0 in
    let q = only_var x e.1.0 in
    (p.0, q.0, pair_is a x p.0 q.0 p.1 q.1)

fails_adds : (exception : SystemException) (rest : Stack) (fresh : List Name) → AreOfKinds fresh (variable_kinds 2) → AddsFresh fresh (exception_effect exception rest (vars_among fresh)).adds
fails_adds exception rest fresh e =
    let v = two_vars fresh e in
    subst (λ (f : List Name). AddsFresh f (exception_effect exception rest (vars_among f)).adds) (sym v.2) (inr (v.0, v.1, _, _, refl, refl))

outcome_adds : (p : List Stmt) (env : Env) (rest : Stack) (fresh : List Name) (o : Outcome) (ks : List NameKind) → outcome_need o ≡ Takes ks → AreOfKinds fresh ks → AddsFresh fresh (outcome_effect p env rest fresh o).adds
outcome_adds p env rest fresh (outcome.Fails exception) ks d e = let same : variable_kinds 2 ≡ ks = cc in fails_adds exception rest fresh (subst (AreOfKinds fresh) (sym same) e)
outcome_adds p env rest fresh (outcome.Waits x) ks d e = inl refl
outcome_adds p env rest fresh (outcome.WaitsAny left right) ks d e = inl refl
outcome_adds p env rest fresh (outcome.Runs codes) ks d e = inl refl
outcome_adds p env rest fresh (outcome.Tells x t) ks d e = inl refl
outcome_adds p env rest fresh (outcome.Declares first count body) ks d e = inl refl
outcome_adds p env rest fresh (outcome.MakesProc left code formals vars) ks d e = inl refl
outcome_adds p env rest fresh (outcome.MakesCell at content told) ks d e = inl refl
outcome_adds p env rest fresh (outcome.Exchanges cell new told) ks d e = inl refl
outcome_adds p env rest fresh (outcome.MakesPort stream told) ks d e = inl refl
outcome_adds p env rest fresh (outcome.Sends port value) ks d e = inl refl
outcome_adds p env rest fresh (outcome.Spawns at body vars) ks d e = inl refl
outcome_adds p env rest fresh (outcome.Tries body body_env handler first handler_env) ks d e = inl refl
outcome_adds p env rest fresh (outcome.Raises x) ks d e = inl refl
outcome_adds p env rest fresh (outcome.Prints line) ks d e = inl refl

pair_adds : (a b : Term) (pairs : List (Term × Term)) (met : List (Node × Node)) (rest : Stack) (fresh : List Name) (c : Case) (ks : List NameKind) → pair_need a b c ≡ Takes ks → AreOfKinds fresh ks → AddsFresh fresh (pair_effect a b pairs met rest fresh None c).adds
pair_adds a b pairs met rest fresh Dropped ks d e = inl refl
pair_adds a b pairs met rest fresh Binds ks d e = inl refl
pair_adds a b pairs met rest fresh (Opened m n fields) ks d e = inl refl
pair_adds a b pairs met rest fresh Failed ks d e = let same : variable_kinds 2 ≡ ks = cc in fails_adds FailureTell rest fresh (subst (AreOfKinds fresh) (sym same) e)

pub stack_adds : (p : List Stmt) (s : Store) (fresh : List Name) (st : Stack) (ks : List NameKind) → stack_need p s st ≡ Takes ks → AreOfKinds fresh ks → AddsFresh fresh (stack_effect p s fresh None st).adds
stack_adds p s fresh [] ks d e = inl refl
stack_adds p s fresh (item.Run code env ∷ rest) ks d e = outcome_adds p env rest fresh (outcome_of p s code env (stmt_at p code)) ks d e
stack_adds p s fresh (item.Mark code at env ∷ rest) ks d e = inl refl
stack_adds p s fresh (item.Report x ∷ rest) ks d e = outcome_adds p [] rest fresh (print_outcome (codes "uncaught ") (shown s x)) ks d e
stack_adds p s fresh (item.Goals b ∷ rest) ks d e = go b.pairs d
  where
    go : (pairs : List (Term × Term)) → goal_need s b.met pairs ≡ Takes ks → AddsFresh fresh (goal_effect s b.met rest fresh None pairs).adds
    go [] k = inl refl
    go ((x, y) ∷ pairs) k = pair_adds x y pairs b.met rest fresh (case_of s b.met x y) ks k e

-- ---- a bind

-- the bind is added, and the stack stays
abbrev pub IsBindEffect : Effect → Equation → Stack → Type 0
IsBindEffect e q st = e ≡ record { adds = q ∷ []; stack = st; line = None; born = None; cell = Stays; port = Keeps }

no_binds : (o : Outcome) (a b : Term) → outcome_need o ≡ need.Binds a b → ⊥
no_binds (outcome.Waits x) a b e = cc
no_binds (outcome.WaitsAny left right) a b e = cc
no_binds (outcome.Runs codes) a b e = cc
no_binds (outcome.Tells x t) a b e = cc
no_binds (outcome.Declares first count body) a b e = cc
no_binds (outcome.MakesProc left code formals vars) a b e = cc
no_binds (outcome.MakesCell at content told) a b e = cc
no_binds (outcome.Exchanges cell new told) a b e = cc
no_binds (outcome.MakesPort stream told) a b e = cc
no_binds (outcome.Sends port value) a b e = cc
no_binds (outcome.Spawns at body vars) a b e = cc
no_binds (outcome.Tries body body_env handler first handler_env) a b e = cc
no_binds (outcome.Raises x) a b e = cc
no_binds (outcome.Fails exception) a b e = cc
no_binds (outcome.Prints line) a b e = cc

pub bind_effect : (p : List Stmt) (s : Store) (st : Stack) (a b : Term) (q : Equation) → stack_need p s st ≡ need.Binds a b → IsBindEffect (stack_effect p s [] (Some q) st) q st
bind_effect p s [] a b q d = cc
bind_effect p s (item.Run code env ∷ rest) a b q d = absurd (no_binds (outcome_of p s code env (stmt_at p code)) a b d)
bind_effect p s (item.Mark code at env ∷ rest) a b q d = cc
bind_effect p s (item.Report x ∷ rest) a b q d = absurd (no_binds (print_outcome (codes "uncaught ") (shown s x)) a b d)
bind_effect p s (item.Goals k ∷ rest) a b q d = go k.pairs refl d
  where
    go : (pairs : List (Term × Term)) → k.pairs ≡ pairs → goal_need s k.met pairs ≡ need.Binds a b → IsBindEffect (goal_effect s k.met rest [] (Some q) pairs) q (item.Goals (record { pairs = pairs; met = k.met }) ∷ rest)
    go [] e n = cc
    go ((x, y) ∷ pairs) e n = one (case_of s k.met x y) n
      where
        one : (c : Case) → pair_need x y c ≡ need.Binds a b → IsBindEffect (pair_effect x y pairs k.met rest [] (Some q) c) q (item.Goals (record { pairs = (x, y) ∷ pairs; met = k.met }) ∷ rest)
        one Dropped m = cc
        one Binds m = refl
        one (Opened u v fields) m = cc
        one Failed m = cc
