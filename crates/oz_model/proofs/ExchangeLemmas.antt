-- Exchanges are chains: a cell's content changes by its exchanges alone, and a fresh cell is another one.
use Rattle.std.proofs.Common.{◌≡◌, ◌≢◌, ◌∙◌, sym, ap, refl, subst, List, [], ◌∷◌, ◌++◌, ℤ, Some}
use Rattle.std.specs.Prelude.{Option, Bool, true, false, cond, unwrap_or, codes}
use Rattle.tree_node.specs.declared.names.VarName.{VarName}
use Rattle.tree_node.specs.declared.names.CellName.{CellName}
use Rattle.tree_node.specs.declared.names.Name.{Name}
use Rattle.tree_node.specs.declared.names.Name.TheVariants as name
use Rattle.tree_node.specs.declared.node.Node.{Node}
use Rattle.tree_node.specs.declared.node.Term.{Term}
use Rattle.tree_node.specs.declared.item.Item.TheVariants.{Run, Goals, Mark, Report}
use Rattle.tree_node.specs.declared.pick.Pick.{Pick}
use Rattle.tree_node.specs.Assoc.{value_of, with_value}
use Rattle.tree_node.specs.Each.{Each}
use Rattle.tree_node.specs.Env.{Env}
use Rattle.tree_node.specs.Goal.{Case, Dropped, Binds, Opened, Failed, case_of, equal_cell}
use Rattle.tree_node.specs.Names.{EachOfCell, IsNew}
use Rattle.tree_node.specs.Shown.{shown}
use Rattle.tree_node.specs.State.{Stack, State}
use Rattle.tree_node.specs.Store.{Store, Equation}
use Rattle.kernel_syntax.specs.declared.stmt.Stmt.{Stmt}
use Rattle.kernel_syntax.specs.Free.{stmt_at}
use Rattle.oz_model.specs.declared.outcome.Outcome.{Outcome}
use Rattle.oz_model.specs.declared.outcome.Outcome.TheVariants as outcome
use Rattle.oz_model.specs.declared.outcome.SystemException.{SystemException}
use Rattle.oz_model.specs.declared.outcome.SystemException.TheVariants.{FailureTell}
use Rattle.oz_model.specs.Outcome.{outcome_of, print_outcome}
use Rattle.oz_model.specs.Need.{cell_kind, outcome_need, stack_need, kinds_of}
use Rattle.oz_model.specs.Effect.{CellChange, Stays, Made, Exchanged, stack_effect, outcome_effect, goal_effect, pair_effect, exception_effect, vars_among, cell_among}
use Rattle.oz_model.specs.Step.{AreOfKinds, content_of, cells_after, effect_of, stack_of, next, Step}
use Rattle.oz_model.specs.Run.{IsRun, exchange_in, exchanges_from}
use Rattle.oz_model.specs.Laws.{IsChainFrom, ExchangesChain}
use Rattle.tree_node.proofs.AssocLemmas.{value_of-with_value, value_of-with_value-other}
use Rattle.oz_model.proofs.KindLemmas.{kinds_one, only_cell_of, equal_cell_decides}

-- ---- a cell that is made is a fresh name

-- it is one of these names
abbrev pub MakesFrom : List Name → CellChange → Type 0
MakesFrom fresh (Made cell content) = (rest : List Name) × (fresh ≡ name.Cell cell ∷ rest)
MakesFrom fresh _ = Unit {0}

fails_makes : (fresh : List Name) (exception : SystemException) (rest : Stack) (xs : List VarName) → MakesFrom fresh (exception_effect exception rest xs).cell
fails_makes fresh exception rest [] = tt
fails_makes fresh exception rest (a ∷ []) = tt
fails_makes fresh exception rest (a ∷ x ∷ []) = tt
fails_makes fresh exception rest (a ∷ x ∷ y ∷ ys) = tt

cell_makes : (fresh : List Name) (at : Option ℤ) (content : VarName) → AreOfKinds fresh (cell_kind at ∷ []) → MakesFrom fresh (Made (cell_among fresh) content)
cell_makes fresh at content e =
    let one = kinds_one (cell_kind at) fresh e in
    let cell = only_cell_of at one.0 one.2 in
    let is : fresh ≡ name.Cell cell.0 ∷ [] = cc in
    ([], subst (λ (f : List Name). f ≡ name.Cell (cell_among f) ∷ []) (sym is) refl)

outcome_makes : (p : List Stmt) (env : Env) (rest : Stack) (fresh : List Name) (o : Outcome) → AreOfKinds fresh (kinds_of (outcome_need o)) → MakesFrom fresh (outcome_effect p env rest fresh o).cell
outcome_makes p env rest fresh (outcome.MakesCell at content told) e = cell_makes fresh at content e
outcome_makes p env rest fresh (outcome.Fails exception) e = fails_makes fresh exception rest (vars_among fresh)
outcome_makes p env rest fresh (outcome.Waits x) e = tt
outcome_makes p env rest fresh (outcome.WaitsAny left right) e = tt
outcome_makes p env rest fresh (outcome.Runs codes) e = tt
outcome_makes p env rest fresh (outcome.Tells x t) e = tt
outcome_makes p env rest fresh (outcome.Declares first count body) e = tt
outcome_makes p env rest fresh (outcome.MakesProc left code formals vars) e = tt
outcome_makes p env rest fresh (outcome.Exchanges cell new told) e = tt
outcome_makes p env rest fresh (outcome.MakesPort stream told) e = tt
outcome_makes p env rest fresh (outcome.Sends port value) e = tt
outcome_makes p env rest fresh (outcome.Spawns at body vars) e = tt
outcome_makes p env rest fresh (outcome.Tries body body_env handler first handler_env) e = tt
outcome_makes p env rest fresh (outcome.Raises x) e = tt
outcome_makes p env rest fresh (outcome.Prints line) e = tt

pair_makes : (a b : Term) (pairs : List (Term × Term)) (met : List (Node × Node)) (rest : Stack) (fresh : List Name) (bind : Option Equation) (c : Case) → MakesFrom fresh (pair_effect a b pairs met rest fresh bind c).cell
pair_makes a b pairs met rest fresh bind Dropped = tt
pair_makes a b pairs met rest fresh bind Binds = tt
pair_makes a b pairs met rest fresh bind (Opened m n fields) = tt
pair_makes a b pairs met rest fresh bind Failed = fails_makes fresh FailureTell rest (vars_among fresh)

pub stack_makes : (p : List Stmt) (s : Store) (fresh : List Name) (bind : Option Equation) (stack : Stack) → AreOfKinds fresh (kinds_of (stack_need p s stack)) → MakesFrom fresh (stack_effect p s fresh bind stack).cell
stack_makes p s fresh bind [] e = tt
stack_makes p s fresh bind (Run code env ∷ rest) e = outcome_makes p env rest fresh (outcome_of p s code env (stmt_at p code)) e
stack_makes p s fresh bind (Mark code at env ∷ rest) e = tt
stack_makes p s fresh bind (Report x ∷ rest) e = outcome_makes p [] rest fresh (print_outcome (codes "uncaught ") (shown s x)) e
stack_makes p s fresh bind (Goals b ∷ rest) e = go b.pairs
  where
    go : (pairs : List (Term × Term)) → MakesFrom fresh (goal_effect s b.met rest fresh bind pairs).cell
    go [] = tt
    go ((x, y) ∷ pairs) = pair_makes x y pairs b.met rest fresh bind (case_of s b.met x y)

-- ---- contents

-- a new cell is none that has a content
pub new_is_other : (cells : List (CellName × VarName)) (cell c : CellName) (content : VarName) → Each (EachOfCell (λ y. y ≢ name.Cell cell)) cells → value_of equal_cell cells c ≡ Some content → equal_cell cell c ≡ false
new_is_other [] cell c content h e = cc
new_is_other (d ∷ cells) cell c content h e = go (equal_cell d.0 c) (equal_cell cell c) refl refl (new_is_other cells cell c content h.1)
  where
    go : (a b : Bool) → equal_cell d.0 c ≡ a → equal_cell cell c ≡ b → (value_of equal_cell cells c ≡ Some content → equal_cell cell c ≡ false) → equal_cell cell c ≡ false
    go a false at is later = is
    go true true at is later =
        let one : d.0 ≡ c = (equal_cell_decides d.0 c).0 at in
        let two : cell ≡ c = (equal_cell_decides cell c).0 is in
        let same : name.Cell d.0 ≡ name.Cell cell = cc in
        absurd (h.0.0 same)
    go false true at is later = later (sym (rw at refl) ∙ e)

-- the content that a cell has after a value is put at another cell, or at itself
pub put_here : (cells : List (CellName × VarName)) (c : CellName) (old new : VarName) → value_of equal_cell cells c ≡ Some old → value_of equal_cell (with_value equal_cell cells c new) c ≡ Some new
put_here cells c old new e = value_of-with_value equal_cell equal_cell_decides cells c new old e

pub put_there : (cells : List (CellName × VarName)) (cell c : CellName) (new : VarName) → equal_cell cell c ≡ false → value_of equal_cell (with_value equal_cell cells cell new) c ≡ value_of equal_cell cells c
put_there cells cell c new apart =
    value_of-with_value-other equal_cell equal_cell_decides cells cell c new (λ e. let yes : equal_cell cell c ≡ true = (equal_cell_decides cell c).1 e in cc)

-- ---- a step, and a run

-- the exchange of the cell in this change is one of its content, and leaves the content from which the chain goes on
change_chain : (s : State) (c : CellName) (content : VarName) (change : CellChange) (more : List (VarName × VarName)) →
    value_of equal_cell s.cells c ≡ Some content → ((cell : CellName) (x : VarName) → change ≡ Made cell x → IsNew s (name.Cell cell)) →
    ((after : VarName) → value_of equal_cell (cells_after s.cells change) c ≡ Some after → IsChainFrom after more) →
    IsChainFrom content (exchange_in s c change ++ more)
change_chain s c content Stays more held new go = go content held
change_chain s c content (Made cell x) more held new go =
    let other : equal_cell cell c ≡ false = new_is_other s.cells cell c content (new cell x refl).1 held in
    go content (rw other held)
change_chain s c content (Exchanged cell new told) more held fresh go = by (equal_cell cell c) refl
  where
    by : (b : Bool) → equal_cell cell c ≡ b → IsChainFrom content (cond b ((content_of s.cells cell, new) ∷ []) [] ++ more)
    by true is =
        let same : cell ≡ c = (equal_cell_decides cell c).0 is in
        let here : value_of equal_cell s.cells cell ≡ Some content = subst (λ (x : CellName). value_of equal_cell s.cells x ≡ Some content) (sym same) held in
        let now : value_of equal_cell (with_value equal_cell s.cells cell new) c ≡ Some new =
        subst (λ (x : CellName). value_of equal_cell (with_value equal_cell s.cells cell new) x ≡ Some new) same (put_here s.cells cell content new here) in
        (ap (λ (o : Option VarName). unwrap_or o (record { site = 0; num = 0 })) here, go new now)
    by false is = go content (put_there s.cells cell c new is ∙ held)

-- a cell that a step makes is new
pub step_makes : (p : List Stmt) (s : State) (k : Pick) (t : State) → Step p s k t → (cell : CellName) (x : VarName) → (effect_of p s k).cell ≡ Made cell x → IsNew s (name.Cell cell)
step_makes p s k t (h, is) cell x e =
    let from : MakesFrom k.fresh (effect_of p s k).cell = stack_makes p s.equations k.fresh k.bind (stack_of s k.thread) h.fresh.of_kinds in
    let made : MakesFrom k.fresh (Made cell x) = subst (λ (c : CellChange). MakesFrom k.fresh c) e from in
    (subst (λ (fresh : List Name). Each (IsNew s) fresh) made.1 h.fresh.unused).0

pub exchanges_chain : ExchangesChain
exchanges_chain p s [] t c content run held = tt
exchanges_chain p s (k ∷ ks) t c content (m, step, run) held =
    change_chain s c content (effect_of p s k).cell (exchanges_from p c (next p s k) ks) held (step_makes p s k m step)
    (λ after at.
    let to : m ≡ next p s k = step.1 in
    let rest : IsRun p (next p s k) ks t = subst (λ (x : State). IsRun p x ks t) to run in
    exchanges_chain p (next p s k) ks t c after rest at)
