-- Threads, cells and ports are named once, and living threads have items.
use Rattle.std.proofs.Common.{◌≡◌, ◌≢◌, sym, ap, refl, subst, List, [], ◌∷◌, ◌++◌, Some, None}
use Rattle.std.specs.Prelude.{Option, codes}
use Rattle.tree_node.specs.declared.names.VarName.{VarName}
use Rattle.tree_node.specs.declared.names.CellName.{CellName}
use Rattle.tree_node.specs.declared.names.PortName.{PortName}
use Rattle.tree_node.specs.declared.names.ThreadName.{ThreadName}
use Rattle.tree_node.specs.declared.names.NameKind.TheVariants as kind
use Rattle.tree_node.specs.declared.names.Name.{Name}
use Rattle.tree_node.specs.declared.names.Name.TheVariants as name
use Rattle.tree_node.specs.declared.node.Node.{Node}
use Rattle.tree_node.specs.declared.node.Term.{Term}
use Rattle.tree_node.specs.declared.item.Item.TheVariants as item
use Rattle.tree_node.specs.declared.pick.Pick.{Pick}
use Rattle.tree_node.specs.Assoc.{with_optional_value}
use Rattle.tree_node.specs.Each.{Each, AreDistinct}
use Rattle.tree_node.specs.Env.{Env}
use Rattle.tree_node.specs.Goal.{Case, Dropped, Binds, Opened, Failed, case_of, equal_cell, equal_port}
use Rattle.tree_node.specs.Names.{EachOfThread, EachOfCell, EachOfPort, IsNew}
use Rattle.tree_node.specs.Shown.{shown}
use Rattle.tree_node.specs.State.{Stack, State, equal_thread}
use Rattle.tree_node.specs.Store.{Store, Equation}
use Rattle.kernel_syntax.specs.declared.stmt.Stmt.{Stmt}
use Rattle.kernel_syntax.specs.Free.{stmt_at}
use Rattle.oz_model.specs.declared.outcome.SystemException.{SystemException}
use Rattle.oz_model.specs.declared.outcome.SystemException.TheVariants.{FailureTell}
use Rattle.oz_model.specs.declared.outcome.Outcome.{Outcome}
use Rattle.oz_model.specs.declared.outcome.Outcome.TheVariants as outcome
use Rattle.oz_model.specs.Outcome.{outcome_of, print_outcome}
use Rattle.oz_model.specs.Need.{outcome_need, stack_need, kinds_of}
use Rattle.oz_model.specs.Effect as effect
use Rattle.oz_model.specs.Effect.{Birth, CellChange, Stays, Made, Exchanged, PortChange, Keeps, Sent, stack_effect, outcome_effect, goal_effect, pair_effect, exception_effect, vars_among, thread_among}
use Rattle.oz_model.specs.Step.{AreOfKinds, cells_after, ports_after, stack_left, living_stack, threads_born, effect_of, stack_of, IsAllowed, next}
use Rattle.tree_node.proofs.AssocLemmas.{keys, Each-goes_on, Each-keys-goes_on, AreDistinct-with_value, AreDistinct-goes_on}
use Rattle.oz_model.specs.Run.{IsRun, start}
use Rattle.oz_model.specs.Laws.{AreOnce, RunsAreOnce}
use Rattle.oz_model.proofs.KindLemmas.{equal_cell_decides, kinds_one, only_thread}
use Rattle.oz_model.proofs.ExchangeLemmas.{step_makes}
use Rattle.oz_model.proofs.PortLemmas.{step_opens}
use Rattle.tree_node.proofs.NameLemmas.{same_thread_decides, same_port_decides}

-- ---- a thread that is born is a fresh name

abbrev pub BornFrom : List Name → Option Birth → Type 0
BornFrom fresh None = Unit {0}
BornFrom fresh (Some b) = (rest : List Name) × (fresh ≡ name.Thread b.name ∷ rest)

fails_born : (fresh : List Name) (exception : SystemException) (rest : Stack) (xs : List VarName) → BornFrom fresh (exception_effect exception rest xs).born
fails_born fresh exception rest [] = tt
fails_born fresh exception rest (a ∷ []) = tt
fails_born fresh exception rest (a ∷ x ∷ []) = tt
fails_born fresh exception rest (a ∷ x ∷ y ∷ ys) = tt

spawn_born : (fresh : List Name) → AreOfKinds fresh (kind.Thread ∷ []) → (rest : List Name) × (fresh ≡ name.Thread (thread_among fresh) ∷ rest)
spawn_born fresh e =
    let one = kinds_one kind.Thread fresh e in
    let thread = only_thread one.0 one.2 in
    let is : fresh ≡ name.Thread thread.0 ∷ [] = cc in
    ([], subst (λ (f : List Name). f ≡ name.Thread (thread_among f) ∷ []) (sym is) refl)

outcome_born : (p : List Stmt) (env : Env) (rest : Stack) (fresh : List Name) (o : Outcome) → AreOfKinds fresh (kinds_of (outcome_need o)) → BornFrom fresh (outcome_effect p env rest fresh o).born
outcome_born p env rest fresh (outcome.Spawns at body vars) e = spawn_born fresh e
outcome_born p env rest fresh (outcome.Fails exception) e = fails_born fresh exception rest (vars_among fresh)
outcome_born p env rest fresh (outcome.MakesCell at content told) e = tt
outcome_born p env rest fresh (outcome.Waits x) e = tt
outcome_born p env rest fresh (outcome.WaitsAny left right) e = tt
outcome_born p env rest fresh (outcome.Runs codes) e = tt
outcome_born p env rest fresh (outcome.Tells x t) e = tt
outcome_born p env rest fresh (outcome.Declares first count body) e = tt
outcome_born p env rest fresh (outcome.MakesProc left code formals vars) e = tt
outcome_born p env rest fresh (outcome.Exchanges cell new told) e = tt
outcome_born p env rest fresh (outcome.MakesPort stream told) e = tt
outcome_born p env rest fresh (outcome.Sends port value) e = tt
outcome_born p env rest fresh (outcome.Tries body body_env handler first handler_env) e = tt
outcome_born p env rest fresh (outcome.Raises x) e = tt
outcome_born p env rest fresh (outcome.Prints line) e = tt

pair_born : (a b : Term) (pairs : List (Term × Term)) (met : List (Node × Node)) (rest : Stack) (fresh : List Name) (bind : Option Equation) (c : Case) → BornFrom fresh (pair_effect a b pairs met rest fresh bind c).born
pair_born a b pairs met rest fresh bind Dropped = tt
pair_born a b pairs met rest fresh bind Binds = tt
pair_born a b pairs met rest fresh bind (Opened m n fields) = tt
pair_born a b pairs met rest fresh bind Failed = fails_born fresh FailureTell rest (vars_among fresh)

pub stack_born : (p : List Stmt) (s : Store) (fresh : List Name) (bind : Option Equation) (stack : Stack) → AreOfKinds fresh (kinds_of (stack_need p s stack)) → BornFrom fresh (stack_effect p s fresh bind stack).born
stack_born p s fresh bind [] e = tt
stack_born p s fresh bind (item.Run code env ∷ rest) e = outcome_born p env rest fresh (outcome_of p s code env (stmt_at p code)) e
stack_born p s fresh bind (item.Mark code at env ∷ rest) e = tt
stack_born p s fresh bind (item.Report x ∷ rest) e = outcome_born p [] rest fresh (print_outcome (codes "uncaught ") (shown s x)) e
stack_born p s fresh bind (item.Goals b ∷ rest) e = go b.pairs
  where
    go : (pairs : List (Term × Term)) → BornFrom fresh (goal_effect s b.met rest fresh bind pairs).born
    go [] = tt
    go ((x, y) ∷ pairs) = pair_born x y pairs b.met rest fresh bind (case_of s b.met x y)

-- ---- a step

thread_names : (ts : List (ThreadName × Stack)) (n : ThreadName) → Each (EachOfThread (λ y. y ≢ name.Thread n)) ts → Each (λ m. n ≢ m) (keys ts)
thread_names [] n h = tt
thread_names (t ∷ ts) n h = ((λ e. h.0.0 (ap name.Thread (sym e))), thread_names ts n h.1)

cell_names : (cells : List (CellName × VarName)) (c : CellName) → Each (EachOfCell (λ y. y ≢ name.Cell c)) cells → Each (λ d. c ≢ d) (keys cells)
cell_names [] c h = tt
cell_names (d ∷ cells) c h = ((λ e. h.0.0 (ap name.Cell (sym e))), cell_names cells c h.1)

-- threads that are named once, and one more with a fresh name
born_distinct : (p : List Stmt) (s : State) (fresh : List Name) (b : Option Birth) (ts : List (ThreadName × Stack)) → BornFrom fresh b → Each (IsNew s) fresh →
    ((n : ThreadName) → IsNew s (name.Thread n) → Each (λ m. n ≢ m) (keys ts)) → AreDistinct (keys ts) →
    AreDistinct (keys (threads_born p b ++ ts))
born_distinct p s fresh None ts from new apart h = h
born_distinct p s fresh (Some b) ts from new apart h =
    (apart b.name (subst (λ (f : List Name). Each (IsNew s) f) from.1 new).0, h)

born_items : (p : List Stmt) (b : Option Birth) (ts : List (ThreadName × Stack)) → Each (λ (t : ThreadName × Stack). t.1 ≢ []) ts → Each (λ (t : ThreadName × Stack). t.1 ≢ []) (threads_born p b ++ ts)
born_items p None ts h = h
born_items p (Some b) ts h = ((λ e. cc), h)

living_items : (ts : List (ThreadName × Stack)) (n : ThreadName) (stack : Stack) → Each (λ (t : ThreadName × Stack). t.1 ≢ []) ts → Each (λ (t : ThreadName × Stack). t.1 ≢ []) (with_optional_value equal_thread ts n (living_stack stack))
living_items ts n stack h = Each-goes_on equal_thread (λ t. t.1 ≢ []) ts n (living_stack stack) (λ rest is. lives stack rest is) h
  where
    lives : (stack rest : Stack) → living_stack stack ≡ Some rest → rest ≢ []
    lives [] rest is = cc
    lives (i ∷ items) rest is = λ e. cc

cells_distinct : (s : State) (change : CellChange) → ((cell : CellName) (x : VarName) → change ≡ Made cell x → IsNew s (name.Cell cell)) → AreDistinct (keys s.cells) → AreDistinct (keys (cells_after s.cells change))
cells_distinct s Stays new h = h
cells_distinct s (Made cell x) new h = (cell_names s.cells cell (new cell x refl).1, h)
cells_distinct s (Exchanged cell content told) new h = AreDistinct-with_value equal_cell equal_cell_decides s.cells cell content h

port_names : (ports : List (PortName × VarName)) (q : PortName) → Each (EachOfPort (λ y. y ≢ name.Port q)) ports → Each (λ r. q ≢ r) (keys ports)
port_names [] q h = tt
port_names (r ∷ ports) q h = ((λ e. h.0.0 (ap name.Port (sym e))), port_names ports q h.1)

-- a name that stands last, and is none of those before it
last_distinct : (ports : List (PortName × VarName)) (q : PortName) (x : VarName) → AreDistinct (keys ports) → Each (λ r. q ≢ r) (keys ports) → AreDistinct (keys (ports ++ (q, x) ∷ []))
last_distinct [] q x h apart = (tt, tt)
last_distinct (r ∷ ports) q x h apart = (others ports h.0, last_distinct ports q x h.1 apart.1)
  where
    others : (ports : List (PortName × VarName)) → Each (λ y. r.0 ≢ y) (keys ports) → Each (λ y. r.0 ≢ y) (keys (ports ++ (q, x) ∷ []))
    others [] k = ((λ e. apart.0 (sym e)), tt)
    others (t ∷ ports) k = (k.0, others ports k.1)

ports_distinct : (s : State) (change : PortChange) → ((port : PortName) (x : VarName) → change ≡ effect.Opened port x → IsNew s (name.Port port)) → AreDistinct (keys s.ports) → AreDistinct (keys (ports_after s.ports change))
ports_distinct s Keeps new h = h
ports_distinct s (effect.Opened port x) new h = last_distinct s.ports port x h (port_names s.ports port (new port x refl).2)
ports_distinct s (Sent port value x) new h = AreDistinct-with_value equal_port same_port_decides s.ports port x h

once_step : (p : List Stmt) (s : State) (k : Pick) → IsAllowed p s k → AreOnce s → AreOnce (next p s k)
once_step p s k a h =
    let e = effect_of p s k in
    let stack = stack_left s e in
    record {
      threads =
          born_distinct p s k.fresh e.born (with_optional_value equal_thread s.threads k.thread (living_stack stack))
          (stack_born p s.equations k.fresh k.bind (stack_of s k.thread) a.fresh.of_kinds) a.fresh.unused
          (λ n new. Each-keys-goes_on equal_thread same_thread_decides (λ m. n ≢ m) s.threads k.thread (living_stack stack) (thread_names s.threads n new.3))
          (AreDistinct-goes_on equal_thread same_thread_decides s.threads k.thread (living_stack stack) h.threads);
      stacks = born_items p e.born _ (living_items s.threads k.thread stack h.stacks);
      cells = cells_distinct s e.cell (step_makes p s k (next p s k) (a, refl)) h.cells;
      ports = ports_distinct s e.port (step_opens p s k a) h.ports;
    }

once_run : (p : List Stmt) (s : State) (ks : List Pick) (t : State) → IsRun p s ks t → AreOnce s → AreOnce t
once_run p s [] t run h = subst AreOnce (sym run) h
once_run p s (k ∷ ks) t (m, step, run) h = once_run p m ks t run (subst AreOnce (sym step.1) (once_step p s k step.0 h))

pub runs_are_once : RunsAreOnce
runs_are_once p ks s run = once_run p (start p) ks s run (record { threads = (tt, tt); stacks = ((λ e. cc), tt); cells = tt; ports = tt })
