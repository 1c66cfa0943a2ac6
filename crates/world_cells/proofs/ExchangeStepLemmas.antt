-- An exchange at a site is a step of the centralised machine, whose cell has the token's content.
use Rattle.std.proofs.Common.{arith, ◌≡◌, ◌∙◌, sym, ap, refl, subst, List, [], ◌∷◌, Some, None}
use Rattle.std.proofs.lemmas.List.{append-nil}
use Rattle.std.specs.Prelude.{Option, unwrap_or, IsSome, codes}
use Rattle.tree_node.specs.declared.names.VarName.{VarName}
use Rattle.tree_node.specs.declared.names.CellName.{CellName}
use Rattle.tree_node.specs.declared.names.ThreadName.{ThreadName}
use Rattle.tree_node.specs.declared.names.Name.{Name}
use Rattle.tree_node.specs.declared.names.Name.TheVariants as name
use Rattle.tree_node.specs.declared.node.Node.{Node}
use Rattle.tree_node.specs.declared.node.Term.{Term}
use Rattle.tree_node.specs.declared.node.Term.TheVariants as term
use Rattle.tree_node.specs.declared.item.Item.TheVariants.{Run, Goals, Mark, Report}
use Rattle.tree_node.specs.declared.pick.Pick.{Pick}
use Rattle.tree_node.specs.Assoc.{value_of, with_value}
use Rattle.tree_node.specs.Each.{Each}
use Rattle.tree_node.specs.Env.{Env}
use Rattle.tree_node.specs.Goal.{Case, Dropped, Binds, Opened, Failed, case_of, equal_cell}
use Rattle.tree_node.specs.Names.{EachOfEquation, EachOfStack}
use Rattle.tree_node.specs.Shown.{shown}
use Rattle.tree_node.specs.State.{Stack, State, equal_thread}
use Rattle.tree_node.specs.Store.{Store, Equation, IsSound}
use Rattle.kernel_syntax.specs.declared.stmt.Stmt.{Stmt}
use Rattle.kernel_syntax.specs.Free.{stmt_at}
use Rattle.oz_model.specs.declared.outcome.Outcome.{Outcome}
use Rattle.oz_model.specs.declared.outcome.Outcome.TheVariants as outcome
use Rattle.oz_model.specs.declared.outcome.SystemException.{SystemException}
use Rattle.oz_model.specs.declared.outcome.SystemException.TheVariants.{FailureTell}
use Rattle.oz_model.specs.Outcome.{outcome_of, print_outcome}
use Rattle.oz_model.specs.Answers.{IsPartOf}
use Rattle.oz_model.specs.Need.{Need, Takes, stack_need, IsReady, kinds_of}
use Rattle.oz_model.specs.Effect.{Keeps, CellChange, Exchanged, Effect, stack_effect, outcome_effect, pair_effect, goal_effect, exception_effect, vars_among, tell_item}
use Rattle.oz_model.specs.Step.{AreOfKinds, IsAllowed, IsBindFor, stack_of, need_of, effect_of, content_of, state_after, next, Step}
use Rattle.oz_model.specs.Laws.{FindsCell}
use Rattle.oz_model.specs.Run.{Run as ModelRun}
use Rattle.oz_model.proofs.CellLemmas.{steps_find_cells}
use Rattle.oz_model.proofs.WithinLemmas.{more_is_within}
use Rattle.oz_model.proofs.KeepLemmas.{steps_stay}
use Rattle.oz_model.specs.EffectNames.{EachOfChange, EachOfEffect}
use Rattle.oz_model.proofs.EffectNames.{effect_names}
use Rattle.world_model.specs.Matches.{IsExchange}

-- ---- an effect that exchanges a cell does nothing else

abbrev IsAlone : Effect → Type 0
IsAlone e = (c : CellName) (new told : VarName) → e.cell ≡ Exchanged c new told → e ≡ record { adds = []; stack = e.stack; line = None; born = None; cell = Exchanged c new told; port = Keeps }

fails_alone : (x : SystemException) (rest : Stack) (xs : List VarName) → IsAlone (exception_effect x rest xs)
fails_alone x rest [] c new told e = cc
fails_alone x rest (a ∷ []) c new told e = cc
fails_alone x rest (a ∷ b ∷ []) c new told e = cc
fails_alone x rest (a ∷ b ∷ y ∷ ys) c new told e = cc

outcome_alone : (p : List Stmt) (env : Env) (rest : Stack) (fresh : List Name) (o : Outcome) → IsAlone (outcome_effect p env rest fresh o)
outcome_alone p env rest fresh (outcome.Exchanges cell n t) c new told e = ap (λ (x : CellChange). record { adds = []; stack = rest; line = None; born = None; cell = x; port = Keeps }) e
outcome_alone p env rest fresh (outcome.Fails exception) c new told e = fails_alone exception rest (vars_among fresh) c new told e
outcome_alone p env rest fresh (outcome.MakesCell at content t) c new told e = cc
outcome_alone p env rest fresh (outcome.MakesPort stream t) c new told e = cc
outcome_alone p env rest fresh (outcome.Sends port value) c new told e = cc
outcome_alone p env rest fresh (outcome.Waits x) c new told e = cc
outcome_alone p env rest fresh (outcome.WaitsAny left right) c new told e = cc
outcome_alone p env rest fresh (outcome.Runs codes) c new told e = cc
outcome_alone p env rest fresh (outcome.Tells x t) c new told e = cc
outcome_alone p env rest fresh (outcome.Declares first count body) c new told e = cc
outcome_alone p env rest fresh (outcome.MakesProc left code formals vars) c new told e = cc
outcome_alone p env rest fresh (outcome.Spawns at body vars) c new told e = cc
outcome_alone p env rest fresh (outcome.Tries body body_env handler first handler_env) c new told e = cc
outcome_alone p env rest fresh (outcome.Raises x) c new told e = cc
outcome_alone p env rest fresh (outcome.Prints line) c new told e = cc

pair_alone : (a b : Term) (pairs : List (Term × Term)) (met : List (Node × Node)) (rest : Stack) (fresh : List Name) (bind : Option Equation) (x : Case) → IsAlone (pair_effect a b pairs met rest fresh bind x)
pair_alone a b pairs met rest fresh bind Dropped c new told e = cc
pair_alone a b pairs met rest fresh bind Binds c new told e = cc
pair_alone a b pairs met rest fresh bind (Opened m n fields) c new told e = cc
pair_alone a b pairs met rest fresh bind Failed c new told e = fails_alone FailureTell rest (vars_among fresh) c new told e

pub exchange_alone : (p : List Stmt) (s : Store) (fresh : List Name) (bind : Option Equation) (st : Stack) (c : CellName) (new told : VarName) → (stack_effect p s fresh bind st).cell ≡ Exchanged c new told →
    stack_effect p s fresh bind st ≡ record { adds = []; stack = (stack_effect p s fresh bind st).stack; line = None; born = None; cell = Exchanged c new told; port = Keeps }
exchange_alone p s fresh bind [] c new told e = cc
exchange_alone p s fresh bind (Run code env ∷ rest) c new told e = outcome_alone p env rest fresh (outcome_of p s code env (stmt_at p code)) c new told e
exchange_alone p s fresh bind (Mark code at env ∷ rest) c new told e = cc
exchange_alone p s fresh bind (Report x ∷ rest) c new told e = outcome_alone p [] rest fresh (print_outcome (codes "uncaught ") (shown s x)) c new told e
exchange_alone p s fresh bind (Goals b ∷ rest) c new told e = go b.pairs c new told e
  where
    go : (pairs : List (Term × Term)) → IsAlone (goal_effect s b.met rest fresh bind pairs)
    go [] c new told e = cc
    go ((x, y) ∷ pairs) c new told e = pair_alone x y pairs b.met rest fresh bind (case_of s b.met x y) c new told e

-- ---- where more is known it is the same exchange

abbrev pub plain_pick : ThreadName → Pick
plain_pick n = record { thread = n; fresh = []; bind = None }

-- the stack that the exchange of a content leaves
abbrev pub stack_left : List Stmt → Store → Stack → VarName → VarName → Stack
stack_left p s st told v = tell_item told (term.Var v) ∷ (stack_effect p s [] None st).stack

pub record Exchanges (p : List Stmt) (z : State) (n : ThreadName) (c : CellName) (new : VarName) (stack : Stack) (t : State) : Type 0 where
  pub step : Step p z (plain_pick n) t
  pub equations : t.equations ≡ z.equations
  pub cells : t.cells ≡ with_value equal_cell z.cells c new
  pub ports : t.ports ≡ z.ports
  pub threads : t.threads ≡ with_value equal_thread z.threads n stack
  pub ended : t.ended ≡ z.ended
  pub lines : t.lines ≡ z.lines
  pub told : VarName
  pub effect : (effect_of p z (plain_pick n)).cell ≡ Exchanged c new told

-- a thread whose site knows a part of the machine's equations exchanges there
pub exchange_steps : (p : List Stmt) (s : Store) (z : State) (n : ThreadName) (st : Stack) (c : CellName) (v : VarName) (x : IsExchange p s st c) → IsSound z.equations → IsPartOf s z.equations →
    value_of equal_thread z.threads n ≡ Some st → value_of equal_cell z.cells c ≡ Some v → (t : State) × Exchanges p z n c x.0 (stack_left p s st x.1 v) t
exchange_steps p s z n st c v (new, told, need, is) sound more lives value = (
  next p z k,
  record {
    step = (allowed, refl);
    equations = ap (λ (t : State). t.equations) all;
    cells = ap (λ (t : State). t.cells) all;
    ports = ap (λ (t : State). t.ports) all;
    threads = ap (λ (t : State). t.threads) all ∙ ap (λ (o : VarName). with_value equal_thread z.threads n (stack_left p s st told o)) content;
    ended = ap (λ (t : State). t.ended) all ∙ omega arith;
    lines = ap (λ (t : State). t.lines) all ∙ append-nil z.lines;
    told = told;
    effect = ap (λ (e : Effect). e.cell) effect_is;
  },
)
  where
    k : Pick
    k = record { thread = n; fresh = []; bind = None }

    stack_is : stack_of z n ≡ st
    stack_is = ap (λ (o : Option Stack). unwrap_or o []) lives

    kept : (stack_need p z.equations st ≡ Takes []) × ((fresh : List Name) (bind : Option Equation) → stack_effect p s fresh bind st ≡ stack_effect p z.equations fresh bind st)
    kept = steps_stay p s z.equations st [] sound (more_is_within s z.equations more) need

    need_is : need_of p z n ≡ Takes []
    need_is = ap (stack_need p z.equations) stack_is ∙ kept.0

    allowed : IsAllowed p z (record { thread = n; fresh = []; bind = None })
    allowed = record {
      lives = subst (λ (o : Option Stack). IsSome o) (sym lives) refl;
      ready = subst (λ (d : Need). IsReady d) (sym need_is) tt;
      fresh = record { of_kinds = subst (λ (d : Need). AreOfKinds [] (kinds_of d)) (sym need_is) tt; distinct = tt; unused = tt };
      bind = subst (λ (d : Need). IsBindFor z.equations d None) (sym need_is) tt;
    }

    effect_is : effect_of p z (record { thread = n; fresh = []; bind = None }) ≡ record { adds = []; stack = (stack_effect p s [] None st).stack; line = None; born = None; cell = Exchanged c new told; port = Keeps }
    effect_is = ap (λ (q : Stack). stack_effect p z.equations [] None q) stack_is ∙ sym (kept.1 [] None) ∙ exchange_alone p s [] None st c new told is

    all : next p z (record { thread = n; fresh = []; bind = None }) ≡ state_after p z n (record { adds = []; stack = (stack_effect p s [] None st).stack; line = None; born = None; cell = Exchanged c new told; port = Keeps })
    all = ap (state_after p z n) effect_is

    content : content_of z.cells c ≡ v
    content = ap (λ (o : Option VarName). unwrap_or o (record { site = 0; num = 0 })) value

-- the machine finds the cell
pub exchange_found : (p : List Stmt) (s : Store) (z : State) (ks : List Pick) (n : ThreadName) (st : Stack) (c : CellName) → IsExchange p s st c → ModelRun p ks z → IsSound z.equations → IsPartOf s z.equations → value_of equal_thread z.threads n ≡ Some st →
    (v : VarName) × (value_of equal_cell z.cells c ≡ Some v)
exchange_found p s z ks n st c (new, told, need, is) run sound more lives = subst (FindsCell z.cells) effect_is (steps_find_cells p ks z (plain_pick n) run allowed)
  where
    stack_is : stack_of z n ≡ st
    stack_is = ap (λ (o : Option Stack). unwrap_or o []) lives

    kept : (stack_need p z.equations st ≡ Takes []) × ((fresh : List Name) (bind : Option Equation) → stack_effect p s fresh bind st ≡ stack_effect p z.equations fresh bind st)
    kept = steps_stay p s z.equations st [] sound (more_is_within s z.equations more) need

    need_is : need_of p z n ≡ Takes []
    need_is = ap (stack_need p z.equations) stack_is ∙ kept.0

    allowed : IsAllowed p z (record { thread = n; fresh = []; bind = None })
    allowed = record {
      lives = subst (λ (o : Option Stack). IsSome o) (sym lives) refl;
      ready = subst (λ (d : Need). IsReady d) (sym need_is) tt;
      fresh = record { of_kinds = subst (λ (d : Need). AreOfKinds [] (kinds_of d)) (sym need_is) tt; distinct = tt; unused = tt };
      bind = subst (λ (d : Need). IsBindFor z.equations d None) (sym need_is) tt;
    }

    effect_is : (effect_of p z (record { thread = n; fresh = []; bind = None })).cell ≡ Exchanged c new told
    effect_is = ap (λ (q : Stack). (stack_effect p z.equations [] None q).cell) stack_is ∙ ap (λ (e : Effect). e.cell) (sym (kept.1 [] None)) ∙ is

-- ---- names

-- a machine of one thread
abbrev alone : Store → Stack → State
alone s st = record { equations = s; cells = []; ports = []; threads = (record { site = 0; num = 0 }, st) ∷ []; ended = 0; lines = [] }

-- what was here stays here
pub exchange_home : (p : List Stmt) (P : Name → Type 0) → P (name.Var (record { site = 0; num = 0 })) → P (name.Thread (record { site = 0; num = 0 })) → (s : Store) (st : Stack) (c : CellName) (v : VarName) (x : IsExchange p s st c) → Each (EachOfEquation P) s → EachOfStack P st → P (name.Var v) →
    EachOfStack P (stack_left p s st x.1 v) × P (name.Var x.0)
exchange_home p P nobody thread s st c v (new, told, need, is) eqs home here = (((((change.2, here), tt), tt), names.stack), change.1)
  where
    n : ThreadName
    n = record { site = 0; num = 0 }

    allowed : IsAllowed p (alone s st) (plain_pick (record { site = 0; num = 0 }))
    allowed = record {
      lives = refl;
      ready = subst (λ (d : Need). IsReady d) (sym need) tt;
      fresh = record { of_kinds = subst (λ (d : Need). AreOfKinds [] (kinds_of d)) (sym need) tt; distinct = tt; unused = tt };
      bind = subst (λ (d : Need). IsBindFor s d None) (sym need) tt;
    }

    names : EachOfEffect P (stack_effect p s [] None st)
    names = effect_names P nobody p (alone s st) (plain_pick (record { site = 0; num = 0 })) (eqs, tt, tt, ((thread, home), tt)) tt allowed

    change : EachOfChange P (Exchanged c new told)
    change = subst (λ (y : CellChange). EachOfChange P y) is names.cell
