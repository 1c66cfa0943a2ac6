-- Which row it is that a unit makes where its thread takes names.
use Rattle.std.proofs.Common.{◌≡◌, ◌≢◌, ◌∙◌, sym, refl, subst, ℕ, List, [], ◌∷◌, ◌⊎◌, inl, inr, Some, None}
use Rattle.std.specs.Prelude.{codes}
use Rattle.tree_node.specs.declared.names.VarName.{VarName}
use Rattle.tree_node.specs.declared.names.CellName.{CellName}
use Rattle.tree_node.specs.declared.names.PortName.{PortName}
use Rattle.tree_node.specs.declared.names.ThreadName.{ThreadName}
use Rattle.tree_node.specs.declared.names.Name.{Name}
use Rattle.tree_node.specs.declared.node.Node.{Node}
use Rattle.tree_node.specs.declared.node.Term.{Term}
use Rattle.tree_node.specs.declared.item.Item.TheVariants as item
use Rattle.tree_node.specs.Env.{Env}
use Rattle.tree_node.specs.Goal.{Case, case_of}
use Rattle.tree_node.specs.Goal as goal
use Rattle.tree_node.specs.Shown.{shown}
use Rattle.tree_node.specs.State.{Stack}
use Rattle.tree_node.specs.Store.{Store}
use Rattle.kernel_syntax.specs.declared.stmt.Stmt.{Stmt}
use Rattle.kernel_syntax.specs.Free.{stmt_at}
use Rattle.oz_model.specs.declared.outcome.SystemException.{SystemException}
use Rattle.oz_model.specs.declared.outcome.SystemException.TheVariants.{FailureTell}
use Rattle.oz_model.specs.declared.outcome.Outcome.{Outcome}
use Rattle.oz_model.specs.declared.outcome.Outcome.TheVariants as outcome
use Rattle.oz_model.specs.Outcome.{outcome_of, print_outcome}
use Rattle.oz_model.specs.Need.{Takes, outcome_need, stack_need}
use Rattle.oz_model.specs.Effect.{CellChange, Stays, Made, Exchanged, PortChange, Keeps, Opened, Sent, Effect, exception_effect, vars_among, outcome_effect, pair_effect, goal_effect, stack_effect}
use Rattle.thread_roster.specs.declared.mode.Awaited.TheVariants.{Port}
use Rattle.site_model.specs.Site.{Site, port_end, home_record}
use Rattle.site_model.specs.Transition.{Transition, without_output}
use Rattle.site_model.specs.Cells.{request_row}
use Rattle.site_model.specs.Requests.{with_asking, send_request_row, home_request_row, early_request_row}
use Rattle.site_model.specs.Unit.{IsTokenHere, IsCellUnit, IsSendUnit, IsStepOrRequest}

-- ---- an effect is on a cell or on a port, not on both

abbrev pub IsOnOne : Effect → Type 0
IsOnOne e = (e.port ≡ Keeps) ⊎ (e.cell ≡ Stays)

fails_on_one : (x : SystemException) (rest : Stack) (xs : List VarName) → IsOnOne (exception_effect x rest xs)
fails_on_one x rest [] = inl refl
fails_on_one x rest (a ∷ []) = inl refl
fails_on_one x rest (a ∷ b ∷ []) = inl refl
fails_on_one x rest (a ∷ b ∷ y ∷ ys) = inl refl

outcome_on_one : (p : List Stmt) (env : Env) (rest : Stack) (fresh : List Name) (o : Outcome) → IsOnOne (outcome_effect p env rest fresh o)
outcome_on_one p env rest fresh (outcome.Waits x) = inl refl
outcome_on_one p env rest fresh (outcome.WaitsAny left right) = inl refl
outcome_on_one p env rest fresh (outcome.Runs items) = inl refl
outcome_on_one p env rest fresh (outcome.Tells x t) = inl refl
outcome_on_one p env rest fresh (outcome.Declares first count body) = inl refl
outcome_on_one p env rest fresh (outcome.MakesProc left code formals vars) = inl refl
outcome_on_one p env rest fresh (outcome.MakesCell at content told) = inl refl
outcome_on_one p env rest fresh (outcome.MakesPort stream told) = inr refl
outcome_on_one p env rest fresh (outcome.Sends port value) = inr refl
outcome_on_one p env rest fresh (outcome.Exchanges cell new told) = inl refl
outcome_on_one p env rest fresh (outcome.Spawns at body vars) = inl refl
outcome_on_one p env rest fresh (outcome.Tries body body_env handler first handler_env) = inl refl
outcome_on_one p env rest fresh (outcome.Raises x) = inl refl
outcome_on_one p env rest fresh (outcome.Fails x) = fails_on_one x rest (vars_among fresh)
outcome_on_one p env rest fresh (outcome.Prints line) = inl refl

pair_on_one : (a b : Term) (pairs : List (Term × Term)) (met : List (Node × Node)) (rest : Stack) (fresh : List Name) (c : Case) → IsOnOne (pair_effect a b pairs met rest fresh None c)
pair_on_one a b pairs met rest fresh goal.Dropped = inl refl
pair_on_one a b pairs met rest fresh goal.Binds = inl refl
pair_on_one a b pairs met rest fresh (goal.Opened m n fields) = inl refl
pair_on_one a b pairs met rest fresh goal.Failed = fails_on_one FailureTell rest (vars_among fresh)

pub on_one : (p : List Stmt) (s : Store) (fresh : List Name) (st : Stack) → IsOnOne (stack_effect p s fresh None st)
on_one p s fresh [] = inl refl
on_one p s fresh (item.Run code env ∷ rest) = outcome_on_one p env rest fresh (outcome_of p s code env (stmt_at p code))
on_one p s fresh (item.Goals b ∷ rest) = go b.pairs
  where
    go : (pairs : List (Term × Term)) → IsOnOne (goal_effect s b.met rest fresh None pairs)
    go [] = inl refl
    go ((x, y) ∷ pairs) = pair_on_one x y pairs b.met rest fresh (case_of s b.met x y)
on_one p s fresh (item.Mark code at env ∷ rest) = inl refl
on_one p s fresh (item.Report x ∷ rest) = outcome_on_one p [] rest fresh (print_outcome (codes "uncaught ") (shown s x))

-- ---- an exchange takes no names

fails_stays : (x : SystemException) (rest : Stack) (xs : List VarName) → (exception_effect x rest xs).cell ≡ Stays
fails_stays x rest [] = refl
fails_stays x rest (a ∷ []) = refl
fails_stays x rest (a ∷ b ∷ []) = refl
fails_stays x rest (a ∷ b ∷ y ∷ ys) = refl

module _ (c : CellName) (new told : VarName) where
  never_stays : {A : Type 0} (ch : CellChange) → ch ≡ Stays → ch ≡ Exchanged c new told → A
  never_stays ch e h = let both : Stays ≡ Exchanged c new told = sym e ∙ h in cc

  outcome_exchange : (p : List Stmt) (env : Env) (rest : Stack) (fresh : List Name) (o : Outcome) → (outcome_effect p env rest fresh o).cell ≡ Exchanged c new told → outcome_need o ≡ Takes []
  outcome_exchange p env rest fresh (outcome.Exchanges cell x y) e = refl
  outcome_exchange p env rest fresh (outcome.MakesCell at content t) e = cc
  outcome_exchange p env rest fresh (outcome.Fails x) e = never_stays _ (fails_stays x rest (vars_among fresh)) e
  outcome_exchange p env rest fresh (outcome.Waits x) e = cc
  outcome_exchange p env rest fresh (outcome.WaitsAny left right) e = cc
  outcome_exchange p env rest fresh (outcome.Runs items) e = cc
  outcome_exchange p env rest fresh (outcome.Tells x t) e = cc
  outcome_exchange p env rest fresh (outcome.Declares first count body) e = cc
  outcome_exchange p env rest fresh (outcome.MakesProc left code formals vars) e = cc
  outcome_exchange p env rest fresh (outcome.MakesPort stream t) e = cc
  outcome_exchange p env rest fresh (outcome.Sends port value) e = cc
  outcome_exchange p env rest fresh (outcome.Spawns at body vars) e = cc
  outcome_exchange p env rest fresh (outcome.Tries body body_env handler first handler_env) e = cc
  outcome_exchange p env rest fresh (outcome.Raises x) e = cc
  outcome_exchange p env rest fresh (outcome.Prints line) e = cc

  pair_stays : (a b : Term) (pairs : List (Term × Term)) (met : List (Node × Node)) (rest : Stack) (fresh : List Name) (x : Case) → (pair_effect a b pairs met rest fresh None x).cell ≡ Stays
  pair_stays a b pairs met rest fresh goal.Dropped = refl
  pair_stays a b pairs met rest fresh goal.Binds = refl
  pair_stays a b pairs met rest fresh (goal.Opened m n fields) = refl
  pair_stays a b pairs met rest fresh goal.Failed = fails_stays FailureTell rest (vars_among fresh)

  pub exchange_need_of : (p : List Stmt) (s : Store) (fresh : List Name) (st : Stack) → (stack_effect p s fresh None st).cell ≡ Exchanged c new told → stack_need p s st ≡ Takes []
  exchange_need_of p s fresh [] e = cc
  exchange_need_of p s fresh (item.Run code env ∷ rest) e = outcome_exchange p env rest fresh (outcome_of p s code env (stmt_at p code)) e
  exchange_need_of p s fresh (item.Mark code at env ∷ rest) e = cc
  exchange_need_of p s fresh (item.Report x ∷ rest) e = outcome_exchange p [] rest fresh (print_outcome (codes "uncaught ") (shown s x)) e
  exchange_need_of p s fresh (item.Goals b ∷ rest) e = go b.pairs e
    where
      stays : (pairs : List (Term × Term)) → (goal_effect s b.met rest fresh None pairs).cell ≡ Stays
      stays [] = refl
      stays ((x, y) ∷ pairs) = pair_stays x y pairs b.met rest fresh (case_of s b.met x y)

      go : {A : Type 0} (pairs : List (Term × Term)) → (goal_effect s b.met rest fresh None pairs).cell ≡ Exchanged c new told → A
      go pairs h = never_stays _ (stays pairs) h

pub exchange_need : (p : List Stmt) (s : Store) (fresh : List Name) (st : Stack) (c : CellName) (new told : VarName) → (stack_effect p s fresh None st).cell ≡ Exchanged c new told → stack_need p s st ≡ Takes []
exchange_need p s fresh st c new told e = exchange_need_of c new told p s fresh st e

-- ---- the rows

-- an exchange finds the token
abbrev pub FindsToken : Site → CellChange → Type 0
FindsToken s (Exchanged c new told) = IsTokenHere s c
FindsToken s c = Unit {0}

-- a step, or one on what the site keeps; or a request, or a wait
pub data Way (limit : ℕ) (th : ThreadName) (st : Stack) (s : Site) (step kept : Transition) (e : Effect) (d : Transition) : Type 0 where
  Steps : FindsToken s e.cell → d ≡ step → Way limit th st s step kept e d
  Opens : (q : PortName) (end : VarName) → e.port ≡ Opened q end → d ≡ kept → Way limit th st s step kept e d
  Sends : (q : PortName) (value new end : VarName) → e.port ≡ Sent q value new → port_end s q ≡ Some end → d ≡ kept → Way limit th st s step kept e d
  Makes : (c : CellName) (v : VarName) → e.port ≡ Keeps → e.cell ≡ Made c v → d ≡ kept → Way limit th st s step kept e d
  Exchanges : (c : CellName) (new told v : VarName) → e.port ≡ Keeps → e.cell ≡ Exchanged c new told → (home_record s c).content ≡ Some v → d ≡ kept → Way limit th st s step kept e d
  AsksToken : (c : CellName) (new : VarName) → (IsTokenHere s c → ⊥) → d ≡ request_row limit c new th st s → Way limit th st s step kept e d
  AsksPort : (q : PortName) → q.site ≢ s.records.site → d ≡ send_request_row limit q th st s → Way limit th st s step kept e d
  AsksHome : (c : CellName) (new told : VarName) → e.cell ≡ Exchanged c new told → c.at ≢ s.records.site → d ≡ home_request_row limit c new th st s → Way limit th st s step kept e d
  WaitsEarly : (c : CellName) (new told : VarName) → e.cell ≡ Exchanged c new told → d ≡ early_request_row c new th st s → Way limit th st s step kept e d
  WaitsPort : (q : PortName) → d ≡ without_output (with_asking th st (Port q) s) → Way limit th st s step kept e d

pub way_of : (limit : ℕ) (th : ThreadName) (st : Stack) (s : Site) (step kept : Transition) (e : Effect) (d : Transition) → IsStepOrRequest limit th st s step kept e d → Way limit th st s step kept e d
way_of limit th st s step kept e d u = ported e.port refl u
  where
    cells : (ch : CellChange) → e.cell ≡ ch → e.port ≡ Keeps → IsCellUnit limit th st s step kept ch d → Way limit th st s step kept e d
    cells Stays is keeps u = Steps (subst (FindsToken s) (sym is) tt) u
    cells (Made c v) is keeps (inl (mobile, same)) = Steps (subst (FindsToken s) (sym is) tt) same
    cells (Made c v) is keeps (inr (away, same)) = Makes c v keeps is same
    cells (Exchanged c new told) is keeps (inl (mobile, inl (here, same))) = Steps (subst (FindsToken s) (sym is) here) same
    cells (Exchanged c new told) is keeps (inl (mobile, inr (none, same))) = AsksToken c new none same
    cells (Exchanged c new told) is keeps (inr (away, inl ((home, v, has), same))) = Exchanges c new told v keeps is has same
    cells (Exchanged c new told) is keeps (inr (away, inr (inl (other, same)))) = AsksHome c new told is other same
    cells (Exchanged c new told) is keeps (inr (away, inr (inr (home, none, same)))) = WaitsEarly c new told is same

    sends : (q : PortName) (value new : VarName) → e.port ≡ Sent q value new → IsSendUnit limit th st s kept q d → Way limit th st s step kept e d
    sends q value new is (inl (own, end, has, same)) = Sends q value new end is has same
    sends q value new is (inr (inl (other, same))) = AsksPort q other same
    sends q value new is (inr (inr (own, none, same))) = WaitsPort q same

    ported : (r : PortChange) → e.port ≡ r → IsStepOrRequest limit th st s step kept (record e { port = r }) d → Way limit th st s step kept e d
    ported Keeps is u = cells e.cell refl is u
    ported (Opened q end) is u = Opens q end is u
    ported (Sent q value new) is u = sends q value new is u
