-- What a step makes of a stack that fits, fits.
use Rattle.std.proofs.Common.{◌≡◌, sym, refl, subst, zero, suc, List, [], ◌∷◌, length, ◌⊎◌, inl, inr, Some, None}
use Rattle.std.specs.Prelude.{Option, pos, negsuc, codes}
use Rattle.tree_node.specs.declared.names.VarName.{VarName}
use Rattle.tree_node.specs.declared.names.CellName.{CellName}
use Rattle.tree_node.specs.declared.names.PortName.{PortName}
use Rattle.tree_node.specs.declared.names.CodeId.{CodeId}
use Rattle.tree_node.specs.declared.names.Name.{Name}
use Rattle.tree_node.specs.declared.names.Name.TheVariants as name
use Rattle.tree_node.specs.declared.node.Node.{Node}
use Rattle.tree_node.specs.declared.node.Node.TheVariants as node
use Rattle.tree_node.specs.declared.node.Term.{Term}
use Rattle.tree_node.specs.declared.node.Term.TheVariants as term
use Rattle.tree_node.specs.declared.item.Item.TheVariants.{Run, Goals, Mark, Report}
use Rattle.tree_node.specs.Each.{Each}
use Rattle.tree_node.specs.Env.{Env, var_at}
use Rattle.tree_node.specs.Goal.{Case, Dropped, Binds, Opened, Failed, case_of}
use Rattle.tree_node.specs.Shown.{Show, Text, Needs, shown}
use Rattle.tree_node.specs.State.{Stack}
use Rattle.tree_node.specs.Store.{Store, Equation, node_of}
use Rattle.kernel_syntax.specs.declared.stmt.Stmt.{Stmt}
use Rattle.kernel_syntax.specs.declared.stmt.Stmt.TheVariants as stmt
use Rattle.kernel_syntax.specs.Free.{stmt_at, free}
use Rattle.kernel_syntax.specs.Program.{IsProgram}
use Rattle.site_message.specs.Wire.{IsSite, FitsVar}
use Rattle.oz_model.specs.declared.outcome.SystemException.{SystemException}
use Rattle.oz_model.specs.declared.outcome.SystemException.TheVariants.{FailureTell, ErrorType}
use Rattle.oz_model.specs.declared.outcome.Outcome.{Outcome}
use Rattle.oz_model.specs.declared.outcome.Outcome.TheVariants as outcome
use Rattle.oz_model.specs.Outcome.{on_node, outcome_of, print_outcome, placed_outcome, send_outcome}
use Rattle.oz_model.specs.Need.{outcome_need, stack_need, kinds_of}
use Rattle.oz_model.specs.Effect.{Birth, CellChange, Stays, Exchanged, PortChange, Keeps, Sent, Effect, outcome_effect, pair_effect, goal_effect, stack_effect, exception_effect, vars_among}
use Rattle.oz_model.specs.EffectNames.{EachOfEffect, EachOfBirth, EachOfChange, EachOfPortChange}
use Rattle.oz_model.specs.Coverage.{BirthIsCovered, EffectIsCovered}
use Rattle.oz_model.specs.Step.{AreOfKinds, IsBindFor}
use Rattle.oz_model.specs.Shapes.{ComesTo, waiting, needing, comparing, running, matching, calling, telling_var, telling_field, telling_node, declaring, making_proc, making_cell, placing_cell, making_port, sending, exchanging, spawning, trying, raising, failing, printing}
use Rattle.oz_model.specs.WellFormed.{IsNode, IsNodeOf, EquationsHave, EffectHas}
use Rattle.oz_model.proofs.ThreadLemmas.{effects_are_covered}
use Rattle.oz_model.proofs.EffectNames.{stack_effect_has}
use Rattle.oz_model.proofs.NodesWell.{stack_nodes}
use Rattle.oz_model.proofs.ShapeLemmas.{comes_to}
use Rattle.site_wire.specs.Sending.{IsOfSites, NodeFits, EquationsFit, StackFits, IsNameless, IsAtNameless, IsSending, IsAtSend}
use Rattle.site_wire.proofs.TextLemmas.{told_fits}

-- a thread that is born
abbrev pub BirthFits : List Stmt → Option Birth → Type 0
BirthFits p None = Unit {0}
BirthFits p (Some b) = IsSite b.name.site × Each FitsVar b.vars × (length b.vars ≡ length (free p b.code))

pub record EffectFits (p : List Stmt) (e : Effect) : Type 0 where
  pub adds : EquationsFit p e.adds
  pub stack : StackFits p e.stack
  pub born : BirthFits p e.born
  pub cell : EachOfChange IsOfSites e.cell
  pub port : EachOfPortChange IsOfSites e.port

program_nodes : (p : List Stmt) (es : List Equation) → EquationsHave (NodeFits p) es → EquationsHave (IsNode p) es
program_nodes p [] h = tt
program_nodes p (e ∷ es) h = (one e.1 h.0, program_nodes p es h.1)
  where
    one : (t : Term) → IsNodeOf (NodeFits p) t → IsNodeOf (IsNode p) t
    one (term.Var x) k = tt
    one (term.Node n) k = k.0

births_fit : (p : List Stmt) (b : Option Birth) → EachOfBirth IsOfSites b → BirthIsCovered p b → BirthFits p b
births_fit p None h g = tt
births_fit p (Some b) h g = (h.0, h.1, g)

pub effect_fits : (p : List Stmt) → IsProgram p → (s : Store) (fresh : List Name) (bind : Option Equation) (st : Stack) → EquationsFit p s → StackFits p st → Each IsOfSites fresh
    → AreOfKinds fresh (kinds_of (stack_need p s st)) → IsBindFor s (stack_need p s st) bind → EffectFits p (stack_effect p s fresh bind st)
effect_fits p is s fresh bind st h g f k w =
    let names : EachOfEffect IsOfSites (stack_effect p s fresh bind st) = stack_effect_has IsOfSites p s fresh bind st (inr (is, g.covered, program_nodes p s h.nodes)) h.names g.names f k w in
    let nodes : EffectHas (NodeFits p) (stack_effect p s fresh bind st) = stack_nodes p (NodeFits p) (told_fits p is) s fresh bind st h.nodes g.nodes w in
    let covered : EffectIsCovered p (stack_effect p s fresh bind st) = effects_are_covered p s st fresh bind g.covered in
    record {
      adds = record { names = names.adds; nodes = nodes.adds };
      stack = record { names = names.stack; nodes = nodes.stack; covered = covered.stack };
      born = births_fit p (stack_effect p s fresh bind st).born names.born covered.born;
      cell = names.cell;
      port = names.port;
    }

-- ---- a statement without fresh names

-- it takes none, or fails
takes_none : {p : List Stmt} {s : Store} {code : CodeId} {env : Env} {st : Stmt} {o : Outcome} → ComesTo p s code env st o → IsNameless st → (kinds_of (outcome_need o) ≡ []) ⊎ ((x : SystemException) × (o ≡ outcome.Fails x))
takes_none (waiting st x at none) n = inl refl
takes_none (needing st x y at shows) n = inl refl
takes_none (comparing left op a b xs open_on) n = inl refl
takes_none (running st bodies at) n = inl refl
takes_none (matching st sc x m at named is many) n = inl refl
takes_none (calling st args x q at formals vars left first count body named from is tell many) n = inl refl
takes_none (telling_var st x y at other) n = inl refl
takes_none (telling_field st x y z m at named is field) n = inl refl
takes_none (telling_node st x m at told over) n = inl refl
takes_none (declaring first count body) n = absurd n
takes_none (making_proc left first count body) n = absurd n
takes_none (making_cell content cell) n = absurd n
takes_none (placing_cell content cell at k) n = absurd n
takes_none (making_port stream port) n = absurd n
takes_none (sending port value q at) n = absurd n
takes_none (exchanging st x new told c at is named other) n = inl refl
takes_none (spawning at body) n = absurd n
takes_none (trying body first handler) n = inl refl
takes_none (raising st x at) n = inl refl
takes_none (failing st exception) n = inr (exception, refl)
takes_none (printing st x text left at shows) n = inl refl

no_bind : (s : Store) (o : Outcome) → IsBindFor s (outcome_need o) None
no_bind s (outcome.Waits x) = tt
no_bind s (outcome.WaitsAny left right) = tt
no_bind s (outcome.Runs items) = tt
no_bind s (outcome.Tells x t) = tt
no_bind s (outcome.Declares first count body) = tt
no_bind s (outcome.MakesProc left code formals vars) = tt
no_bind s (outcome.MakesCell at content told) = tt
no_bind s (outcome.MakesPort stream told) = tt
no_bind s (outcome.Sends port value) = tt
no_bind s (outcome.Exchanges cell new told) = tt
no_bind s (outcome.Spawns at body vars) = tt
no_bind s (outcome.Tries body env handler first handler_env) = tt
no_bind s (outcome.Raises x) = tt
no_bind s (outcome.Fails x) = tt
no_bind s (outcome.Prints line) = tt

abbrev pub GoesOn : List Stmt → Effect → Type 0
GoesOn p e = StackFits p e.stack × EachOfChange IsOfSites e.cell

-- so it goes on without any, whatever the equations are
pub calm_fits : (p : List Stmt) → IsProgram p → (s : Store) (st : Stack) → EquationsFit p s → StackFits p st → IsAtNameless p st → GoesOn p (stack_effect p s [] None st)
calm_fits p is s [] h g n = absurd n
calm_fits p is s (Goals b ∷ rest) h g n = absurd n
calm_fits p is s (Mark code at env ∷ rest) h g n = absurd n
calm_fits p is s (Report x ∷ rest) h g n = absurd n
calm_fits p is s (Run code env ∷ rest) h g n = go (takes_none (comes_to p s code env (stmt_at p code)) n)
  where
    go : (kinds_of (outcome_need (outcome_of p s code env (stmt_at p code))) ≡ []) ⊎ ((x : SystemException) × (outcome_of p s code env (stmt_at p code) ≡ outcome.Fails x)) → GoesOn p (stack_effect p s [] None (Run code env ∷ rest))
    go (inl k) =
        let e : EffectFits p (stack_effect p s [] None (Run code env ∷ rest)) = effect_fits p is s [] None (Run code env ∷ rest) h g tt (subst (AreOfKinds []) (sym k) tt) (no_bind s (outcome_of p s code env (stmt_at p code))) in
        (e.stack, e.cell)
    go (inr f) =
        let left : StackFits p rest = record { names = g.names.1; nodes = g.nodes.1; covered = g.covered.1 } in
        subst (λ (o : Outcome). GoesOn p (outcome_effect p env rest [] o)) (sym f.1) (left, tt)

-- ---- an exchange is such a statement

abbrev IsExchanged : CellChange → Type 0
IsExchanged (Exchanged c new told) = Unit {0}
IsExchanged _ = ⊥

fails_none : (x : SystemException) (rest : Stack) (xs : List VarName) → IsExchanged (exception_effect x rest xs).cell → ⊥
fails_none x rest [] e = e
fails_none x rest (a ∷ []) e = e
fails_none x rest (a ∷ b ∷ []) e = e
fails_none x rest (a ∷ b ∷ c ∷ xs) e = e

prints_none : (p : List Stmt) (rest : Stack) (fresh : List Name) (f : Show) → IsExchanged (outcome_effect p [] rest fresh (print_outcome (codes "uncaught ") f)).cell → ⊥
prints_none p rest fresh (Text t l) e = e
prints_none p rest fresh (Needs x) e = e

pair_none : (a b : Term) (pairs : List (Term × Term)) (met : List (Node × Node)) (rest : Stack) (fresh : List Name) (bind : Option Equation) (c : Case) → IsExchanged (pair_effect a b pairs met rest fresh bind c).cell → ⊥
pair_none a b pairs met rest fresh bind Dropped e = e
pair_none a b pairs met rest fresh bind Binds e = e
pair_none a b pairs met rest fresh bind (Opened m n fields) e = e
pair_none a b pairs met rest fresh bind Failed e = fails_none FailureTell rest (vars_among fresh) e

goals_none : (s : Store) (met : List (Node × Node)) (rest : Stack) (fresh : List Name) (bind : Option Equation) (pairs : List (Term × Term)) → IsExchanged (goal_effect s met rest fresh bind pairs).cell → ⊥
goals_none s met rest fresh bind [] e = e
goals_none s met rest fresh bind ((a, b) ∷ pairs) e = pair_none a b pairs met rest fresh bind (case_of s met a b) e

-- a statement that needs a node, which is no exchange
placed_none : (p : List Stmt) (env : Env) (rest : Stack) (fresh : List Name) (x content told : VarName) (o : Option Node) → IsExchanged (outcome_effect p env rest fresh (on_node x o (λ n. placed_outcome content told n))).cell → ⊥
placed_none p env rest fresh x content told None e = e
placed_none p env rest fresh x content told (Some (node.Int (pos (suc k)))) e = e
placed_none p env rest fresh x content told (Some (node.Int (pos zero))) e = fails_none ErrorType rest (vars_among fresh) e
placed_none p env rest fresh x content told (Some (node.Int (negsuc k))) e = fails_none ErrorType rest (vars_among fresh) e
placed_none p env rest fresh x content told (Some (node.Atom text)) e = fails_none ErrorType rest (vars_among fresh) e
placed_none p env rest fresh x content told (Some (node.Rec label fields)) e = fails_none ErrorType rest (vars_among fresh) e
placed_none p env rest fresh x content told (Some (node.Proc fs c q vs)) e = fails_none ErrorType rest (vars_among fresh) e
placed_none p env rest fresh x content told (Some (node.Cell c)) e = fails_none ErrorType rest (vars_among fresh) e
placed_none p env rest fresh x content told (Some (node.Port q)) e = fails_none ErrorType rest (vars_among fresh) e

sent_none : (p : List Stmt) (env : Env) (rest : Stack) (fresh : List Name) (x value : VarName) (o : Option Node) → IsExchanged (outcome_effect p env rest fresh (on_node x o (λ n. send_outcome value n))).cell → ⊥
sent_none p env rest fresh x value None e = e
sent_none p env rest fresh x value (Some (node.Port q)) e = e
sent_none p env rest fresh x value (Some (node.Int z)) e = fails_none ErrorType rest (vars_among fresh) e
sent_none p env rest fresh x value (Some (node.Atom text)) e = fails_none ErrorType rest (vars_among fresh) e
sent_none p env rest fresh x value (Some (node.Rec label fields)) e = fails_none ErrorType rest (vars_among fresh) e
sent_none p env rest fresh x value (Some (node.Proc fs c q vs)) e = fails_none ErrorType rest (vars_among fresh) e
sent_none p env rest fresh x value (Some (node.Cell c)) e = fails_none ErrorType rest (vars_among fresh) e

statement_none : (p : List Stmt) (s : Store) (code : CodeId) (env : Env) (rest : Stack) (fresh : List Name) (st : Stmt) → IsExchanged (outcome_effect p env rest fresh (outcome_of p s code env st)).cell → IsNameless st
statement_none p s code env rest fresh (stmt.Local first count body) e = e
statement_none p s code env rest fresh (stmt.TellProc left first count body) e = e
statement_none p s code env rest fresh (stmt.NewCell content cell) e = e
statement_none p s code env rest fresh (stmt.Thread at body) e = e
statement_none p s code env rest fresh (stmt.NewPort stream port) e = e
statement_none p s code env rest fresh (stmt.NewCellAt content cell at) e = placed_none p env rest fresh (var_at env at) (var_at env content) (var_at env cell) (node_of s (var_at env at)) e
statement_none p s code env rest fresh (stmt.Send port value) e = sent_none p env rest fresh (var_at env port) (var_at env value) (node_of s (var_at env port)) e
statement_none p s code env rest fresh (stmt.Seq bodies) e = tt
statement_none p s code env rest fresh stmt.Skip e = tt
statement_none p s code env rest fresh (stmt.TellVar left right) e = tt
statement_none p s code env rest fresh (stmt.TellInt left value) e = tt
statement_none p s code env rest fresh (stmt.TellAtom left text) e = tt
statement_none p s code env rest fresh (stmt.TellRec left label fields) e = tt
statement_none p s code env rest fresh (stmt.Calc left op a b) e = tt
statement_none p s code env rest fresh (stmt.Test left op a b) e = tt
statement_none p s code env rest fresh (stmt.Select left source by) e = tt
statement_none p s code env rest fresh (stmt.If subject one other) e = tt
statement_none p s code env rest fresh (stmt.Case subject pattern first one other) e = tt
statement_none p s code env rest fresh (stmt.Call callee args) e = tt
statement_none p s code env rest fresh (stmt.Browse x) e = tt
statement_none p s code env rest fresh (stmt.Wait x) e = tt
statement_none p s code env rest fresh (stmt.Exchange cell old new) e = tt
statement_none p s code env rest fresh (stmt.Try body first handler) e = tt
statement_none p s code env rest fresh (stmt.Raise x) e = tt

pub exchanges_nameless : (p : List Stmt) (s : Store) (fresh : List Name) (bind : Option Equation) (st : Stack) (c : CellName) (new told : VarName) → (stack_effect p s fresh bind st).cell ≡ Exchanged c new told → IsAtNameless p st
exchanges_nameless p s fresh bind st c new told e = go st (subst IsExchanged (sym e) tt)
  where
    go : (st : Stack) → IsExchanged (stack_effect p s fresh bind st).cell → IsAtNameless p st
    go [] k = absurd k
    go (Goals b ∷ rest) k = absurd (goals_none s b.met rest fresh bind b.pairs k)
    go (Mark code at env ∷ rest) k = absurd k
    go (Report x ∷ rest) k = absurd (prints_none p rest fresh (shown s x) k)
    go (Run code env ∷ rest) k = statement_none p s code env rest fresh (stmt_at p code) k

-- ---- a send

-- it waits, fails, or sends
data SendCase : Outcome → Type 0 where
  waits : (x : VarName) → SendCase (outcome.Waits x)
  fails : (x : SystemException) → SendCase (outcome.Fails x)
  sends : (q : PortName) (value : VarName) → SendCase (outcome.Sends q value)

send_cases : (p : List Stmt) (s : Store) (code : CodeId) (env : Env) (st : Stmt) → IsSending st → SendCase (outcome_of p s code env st)
send_cases p s code env (stmt.Send port value) h = go (node_of s (var_at env port))
  where
    go : (o : Option Node) → SendCase (on_node (var_at env port) o (λ n. send_outcome (var_at env value) n))
    go None = waits (var_at env port)
    go (Some (node.Port q)) = sends q (var_at env value)
    go (Some (node.Int z)) = fails ErrorType
    go (Some (node.Atom text)) = fails ErrorType
    go (Some (node.Rec label fields)) = fails ErrorType
    go (Some (node.Proc fs c q vs)) = fails ErrorType
    go (Some (node.Cell c)) = fails ErrorType
send_cases p s code env _ h = absurd h

abbrev pub GoesOnSent : List Stmt → Effect → Type 0
GoesOnSent p e = StackFits p e.stack × EachOfPortChange IsOfSites e.port

-- a thread that asked for a port's end goes on with the variable that it was given, whatever the equations are
pub sent_fits : (p : List Stmt) → IsProgram p → (s : Store) (new : VarName) (st : Stack) → EquationsFit p s → StackFits p st → IsAtSend p st → FitsVar new → GoesOnSent p (stack_effect p s (name.Var new ∷ []) None st)
sent_fits p is s new [] h g n f = absurd n
sent_fits p is s new (Goals b ∷ rest) h g n f = absurd n
sent_fits p is s new (Mark code at env ∷ rest) h g n f = absurd n
sent_fits p is s new (Report x ∷ rest) h g n f = absurd n
sent_fits p is s new (Run code env ∷ rest) h g n f = go (outcome_of p s code env (stmt_at p code)) refl (send_cases p s code env (stmt_at p code) n)
  where
    left : StackFits p rest
    left = record { names = g.names.1; nodes = g.nodes.1; covered = g.covered.1 }

    go : (o : Outcome) → outcome_of p s code env (stmt_at p code) ≡ o → SendCase o → GoesOnSent p (stack_effect p s (name.Var new ∷ []) None (Run code env ∷ rest))
    go _ e (waits x) = subst (λ (o : Outcome). GoesOnSent p (outcome_effect p env rest (name.Var new ∷ []) o)) (sym e) (left, tt)
    go _ e (fails x) = subst (λ (o : Outcome). GoesOnSent p (outcome_effect p env rest (name.Var new ∷ []) o)) (sym e) (left, tt)
    go _ e (sends q value) =
        let kinds : AreOfKinds (name.Var new ∷ []) (kinds_of (outcome_need (outcome_of p s code env (stmt_at p code)))) = subst (λ (o : Outcome). AreOfKinds (name.Var new ∷ []) (kinds_of (outcome_need o))) (sym e) (tt, tt) in
        let k : EffectFits p (stack_effect p s (name.Var new ∷ []) None (Run code env ∷ rest)) = effect_fits p is s (name.Var new ∷ []) None (Run code env ∷ rest) h g (f, tt) kinds (no_bind s (outcome_of p s code env (stmt_at p code))) in
        (k.stack, k.port)

-- what a statement does to a port is a send's
abbrev IsSent : PortChange → Type 0
IsSent (Sent q value new) = Unit {0}
IsSent _ = ⊥

fails_unsent : (x : SystemException) (rest : Stack) (xs : List VarName) → IsSent (exception_effect x rest xs).port → ⊥
fails_unsent x rest [] e = e
fails_unsent x rest (a ∷ []) e = e
fails_unsent x rest (a ∷ b ∷ []) e = e
fails_unsent x rest (a ∷ b ∷ c ∷ xs) e = e

prints_unsent : (p : List Stmt) (rest : Stack) (fresh : List Name) (f : Show) → IsSent (outcome_effect p [] rest fresh (print_outcome (codes "uncaught ") f)).port → ⊥
prints_unsent p rest fresh (Text t l) e = e
prints_unsent p rest fresh (Needs x) e = e

pair_unsent : (a b : Term) (pairs : List (Term × Term)) (met : List (Node × Node)) (rest : Stack) (fresh : List Name) (bind : Option Equation) (c : Case) → IsSent (pair_effect a b pairs met rest fresh bind c).port → ⊥
pair_unsent a b pairs met rest fresh bind Dropped e = e
pair_unsent a b pairs met rest fresh bind Binds e = e
pair_unsent a b pairs met rest fresh bind (Opened m n fields) e = e
pair_unsent a b pairs met rest fresh bind Failed e = fails_unsent FailureTell rest (vars_among fresh) e

goals_unsent : (s : Store) (met : List (Node × Node)) (rest : Stack) (fresh : List Name) (bind : Option Equation) (pairs : List (Term × Term)) → IsSent (goal_effect s met rest fresh bind pairs).port → ⊥
goals_unsent s met rest fresh bind [] e = e
goals_unsent s met rest fresh bind ((a, b) ∷ pairs) e = pair_unsent a b pairs met rest fresh bind (case_of s met a b) e

comes_sending : {p : List Stmt} {s : Store} {code : CodeId} {env : Env} {st : Stmt} {o : Outcome} (rest : Stack) (fresh : List Name) → ComesTo p s code env st o → IsSent (outcome_effect p env rest fresh o).port → IsSending st
comes_sending rest fresh (waiting st x at none) e = absurd e
comes_sending rest fresh (needing st x y at shows) e = absurd e
comes_sending rest fresh (comparing left op a b xs open_on) e = absurd e
comes_sending rest fresh (running st bodies at) e = absurd e
comes_sending rest fresh (matching st sc x m at named is many) e = absurd e
comes_sending rest fresh (calling st args x q at formals vars left first count body named from is tell many) e = absurd e
comes_sending rest fresh (telling_var st x y at other) e = absurd e
comes_sending rest fresh (telling_field st x y z m at named is field) e = absurd e
comes_sending rest fresh (telling_node st x m at told over) e = absurd e
comes_sending rest fresh (declaring first count body) e = absurd e
comes_sending rest fresh (making_proc left first count body) e = absurd e
comes_sending rest fresh (making_cell content cell) e = absurd e
comes_sending rest fresh (placing_cell content cell at k) e = absurd e
comes_sending rest fresh (making_port stream port) e = absurd e
comes_sending rest fresh (sending port value q at) e = tt
comes_sending rest fresh (exchanging st x new told c at is named other) e = absurd e
comes_sending rest fresh (spawning at body) e = absurd e
comes_sending rest fresh (trying body first handler) e = absurd e
comes_sending rest fresh (raising st x at) e = absurd e
comes_sending rest fresh (failing st exception) e = absurd (fails_unsent exception rest (vars_among fresh) e)
comes_sending rest fresh (printing st x text left at shows) e = absurd e

pub sends_at : (p : List Stmt) (s : Store) (fresh : List Name) (bind : Option Equation) (st : Stack) (q : PortName) (value new : VarName) → (stack_effect p s fresh bind st).port ≡ Sent q value new → IsAtSend p st
sends_at p s fresh bind st q value new e = go st (subst IsSent (sym e) tt)
  where
    go : (st : Stack) → IsSent (stack_effect p s fresh bind st).port → IsAtSend p st
    go [] k = absurd k
    go (Goals b ∷ rest) k = absurd (goals_unsent s b.met rest fresh bind b.pairs k)
    go (Mark code at env ∷ rest) k = absurd k
    go (Report x ∷ rest) k = absurd (prints_unsent p rest fresh (shown s x) k)
    go (Run code env ∷ rest) k = comes_sending rest fresh (comes_to p s code env (stmt_at p code)) k

-- ---- an effect changes a cell or a port, not both

abbrev pub ChangesOne : Effect → Type 0
ChangesOne e = (e.cell ≡ Stays) ⊎ (e.port ≡ Keeps)

fails_one : (x : SystemException) (rest : Stack) (xs : List VarName) → ChangesOne (exception_effect x rest xs)
fails_one x rest [] = inl refl
fails_one x rest (a ∷ []) = inl refl
fails_one x rest (a ∷ b ∷ []) = inl refl
fails_one x rest (a ∷ b ∷ c ∷ xs) = inl refl

outcome_one : (p : List Stmt) (env : Env) (rest : Stack) (fresh : List Name) (o : Outcome) → ChangesOne (outcome_effect p env rest fresh o)
outcome_one p env rest fresh (outcome.Waits x) = inl refl
outcome_one p env rest fresh (outcome.WaitsAny left right) = inl refl
outcome_one p env rest fresh (outcome.Runs items) = inl refl
outcome_one p env rest fresh (outcome.Tells x t) = inl refl
outcome_one p env rest fresh (outcome.Declares first count body) = inl refl
outcome_one p env rest fresh (outcome.MakesProc left code formals vars) = inl refl
outcome_one p env rest fresh (outcome.MakesCell at content told) = inr refl
outcome_one p env rest fresh (outcome.Exchanges cell new told) = inr refl
outcome_one p env rest fresh (outcome.MakesPort stream told) = inl refl
outcome_one p env rest fresh (outcome.Sends port value) = inl refl
outcome_one p env rest fresh (outcome.Spawns at body vars) = inl refl
outcome_one p env rest fresh (outcome.Tries body body_env handler first handler_env) = inl refl
outcome_one p env rest fresh (outcome.Raises x) = inl refl
outcome_one p env rest fresh (outcome.Fails x) = fails_one x rest (vars_among fresh)
outcome_one p env rest fresh (outcome.Prints line) = inl refl

pair_one : (a b : Term) (pairs : List (Term × Term)) (met : List (Node × Node)) (rest : Stack) (fresh : List Name) (bind : Option Equation) (c : Case) → ChangesOne (pair_effect a b pairs met rest fresh bind c)
pair_one a b pairs met rest fresh bind Dropped = inl refl
pair_one a b pairs met rest fresh bind Binds = inl refl
pair_one a b pairs met rest fresh bind (Opened m n fields) = inl refl
pair_one a b pairs met rest fresh bind Failed = fails_one FailureTell rest (vars_among fresh)

goals_one : (s : Store) (met : List (Node × Node)) (rest : Stack) (fresh : List Name) (bind : Option Equation) (pairs : List (Term × Term)) → ChangesOne (goal_effect s met rest fresh bind pairs)
goals_one s met rest fresh bind [] = inl refl
goals_one s met rest fresh bind ((a, b) ∷ pairs) = pair_one a b pairs met rest fresh bind (case_of s met a b)

pub changes_one : (p : List Stmt) (s : Store) (fresh : List Name) (bind : Option Equation) (st : Stack) → ChangesOne (stack_effect p s fresh bind st)
changes_one p s fresh bind [] = inl refl
changes_one p s fresh bind (Run code env ∷ rest) = outcome_one p env rest fresh (outcome_of p s code env (stmt_at p code))
changes_one p s fresh bind (Goals b ∷ rest) = goals_one s b.met rest fresh bind b.pairs
changes_one p s fresh bind (Mark code at env ∷ rest) = inl refl
changes_one p s fresh bind (Report x ∷ rest) = outcome_one p [] rest fresh (print_outcome (codes "uncaught ") (shown s x))
