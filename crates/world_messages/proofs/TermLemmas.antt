-- Terms, stacks and contents of a site go on fitting the program.
use Rattle.std.proofs.Common.{arith, ℕ, ◌≡◌, ◌≢◌, ◌∙◌, sym, ap, refl, subst, ◌<◌, List, [], ◌∷◌, ◌++◌, length, ◌⊎◌, inl, inr, Bool, true, false, cond, Some, None}
use Rattle.std.specs.Prelude.{Option, Contains, slice_get, unwrap_or}
use Rattle.std.proofs.lemmas.Option.{slice_get_within}
use Rattle.indexmap.specs.IndexMap.{insert_entry}
use Rattle.tree_node.specs.declared.names.VarName.{VarName}
use Rattle.tree_node.specs.declared.names.CellName.{CellName}
use Rattle.tree_node.specs.declared.names.ThreadName.{ThreadName}
use Rattle.tree_node.specs.declared.names.CodeId.{CodeId}
use Rattle.tree_node.specs.declared.node.Node.{Node}
use Rattle.tree_node.specs.declared.node.Node.TheVariants as node
use Rattle.tree_node.specs.declared.node.Term.{Term}
use Rattle.tree_node.specs.declared.node.Term.TheVariants as term
use Rattle.tree_node.specs.Assoc.{value_of}
use Rattle.tree_node.specs.Each.{Each}
use Rattle.tree_node.specs.Env.{Env, env_for}
use Rattle.tree_node.specs.declared.item.Item.TheVariants as item
use Rattle.tree_node.specs.Goal.{equal_cell}
use Rattle.tree_node.specs.Names.{EachOfTerm, EachOfEnv, EachOfStack}
use Rattle.tree_node.specs.State.{Stack, equal_thread}
use Rattle.tree_node.specs.Store.{Store}
use Rattle.kernel_syntax.specs.declared.stmt.Stmt.{Stmt}
use Rattle.kernel_syntax.specs.declared.stmt.Stmt.TheVariants as stmt
use Rattle.kernel_syntax.specs.Free.{free}
use Rattle.kernel_syntax.specs.Scopes.{bodies_of}
use Rattle.kernel_syntax.specs.Program.{IsProgram}
use Rattle.oz_model.specs.WellFormed.{IsMadeBy, IsNode, IsNodeOf, AreNodesOf}
use Rattle.oz_model.specs.Effect.{Birth}
use Rattle.oz_model.specs.Step.{threads_born, living_stack}
use Rattle.oz_model.proofs.KindLemmas.{cell_cases}
use Rattle.thread_machine.specs.Fits.{IsTellOf, NodeFits, TermFits, StackFits}
use Rattle.thread_machine.specs.Fits as fits
use Rattle.thread_machine.proofs.KeepLemmas.{stack_grows, equations_grow}
use Rattle.thread_machine.proofs.FitLemmas.{begun_fits}
use Rattle.token_chain.specs.declared.token.Token.TheVariants.{Here}
use Rattle.site_model.specs.Site.{ThreadState, Threads, CellRecord, cell_record_in, runnable_threads}
use Rattle.thread_roster.specs.declared.mode.Mode.TheVariants.{Runs}
use Rattle.thread_roster.specs.Binds.{goes_on}
use Rattle.thread_roster.specs.Threads.{wake_where}
use Rattle.site_model.specs.Unit.{runnable_state}
use Rattle.world_model.proofs.KeyLemmas.{woken_old}
use Rattle.world_messages.specs.Fitting.{HasHomeIn, ThreadFits, TermsFit}
use Rattle.site_model.proofs.CellKeyLemmas.{place_here, place_other}

-- ---- nodes of the program

pub node_fits : (p : List Stmt) → IsProgram p → (n : Node) → IsNode p n → NodeFits p n
node_fits p is (node.Int i) h = tt
node_fits p is (node.Atom t) h = tt
node_fits p is (node.Rec l fs) h = tt
node_fits p is (node.Cell c) h = tt
node_fits p is (node.Port c) h = tt
node_fits p is (node.Proc formals code q vars) h = go (slice_get p code.0) refl h
  where
    told : (st : Stmt) → IsMadeBy p formals vars st → Each (λ (c : CodeId). (code.0 < c.0) × (c.0 < length p)) (bodies_of st) → IsTellOf p st formals (length vars)
    told (stmt.TellProc left first count body) h b = (h.0, sym h.1, b.0.1)
    told (stmt.Seq bodies) h b = absurd h
    told stmt.Skip h b = absurd h
    told (stmt.Local first count body) h b = absurd h
    told (stmt.TellVar left right) h b = absurd h
    told (stmt.TellInt left value) h b = absurd h
    told (stmt.TellAtom left text) h b = absurd h
    told (stmt.TellRec left label fields) h b = absurd h
    told (stmt.Calc left op a c) h b = absurd h
    told (stmt.Test left op a c) h b = absurd h
    told (stmt.Select left source by) h b = absurd h
    told (stmt.If subject first second) h b = absurd h
    told (stmt.Case subject pat first c d) h b = absurd h
    told (stmt.Call callee others) h b = absurd h
    told (stmt.Browse x) h b = absurd h
    told (stmt.Wait x) h b = absurd h
    told (stmt.NewCell content cell) h b = absurd h
    told (stmt.NewCellAt cell content at) h b = absurd h
    told (stmt.NewPort stream port) h b = absurd h
    told (stmt.Send port value) h b = absurd h
    told (stmt.Exchange cell old new) h b = absurd h
    told (stmt.Thread at body) h b = absurd h
    told (stmt.Try body first handler) h b = absurd h
    told (stmt.Raise x) h b = absurd h

    go : (o : Option Stmt) → slice_get p code.0 ≡ o → IsMadeBy p formals vars (unwrap_or (slice_get p code.0) stmt.Skip) → NodeFits p (node.Proc formals code q vars)
    go None e k = absurd (subst (λ (o : Option Stmt). IsMadeBy p formals vars (unwrap_or o stmt.Skip)) e k)
    go (Some st) e k =
        let made : IsMadeBy p formals vars st = subst (λ (o : Option Stmt). IsMadeBy p formals vars (unwrap_or o stmt.Skip)) e k in
        let tells : IsTellOf p st formals (length vars) = told st made (is.bodies code.0 st e) in
        (slice_get_within p code.0 st e, subst (λ (o : Option Stmt). IsTellOf p (unwrap_or o stmt.Skip) formals (length vars)) (sym e) tells)

pub term_fits : (p : List Stmt) → IsProgram p → (t : Term) → IsNodeOf (IsNode p) t → TermFits p t
term_fits p is (term.Var x) h = tt
term_fits p is (term.Node n) h = node_fits p is n h

-- ---- more variables

abbrev pub IsMore : List VarName → List VarName → Type 0
IsMore known more = (x : VarName) → Contains known x → Contains more x

pub thread_grows : (p : List Stmt) (n : ℕ) (known more : List VarName) (st : Stack) → IsMore known more → ThreadFits p n known st → ThreadFits p n more st
thread_grows p n known more st w h = record { some = h.some; stack = stack_grows p known more st w h.stack; nodes = h.nodes; homes = h.homes }

pub terms_grow : (p : List Stmt) (n : ℕ) (known more : List VarName) (s : Store) (ts : Threads) (qs : List (CellName × CellRecord)) → IsMore known more → TermsFit p n known s ts qs → TermsFit p n more s ts qs
terms_grow p n known more s ts qs w h = record {
  equations = equations_grow p known more s w h.equations;
  nodes = h.nodes;
  homes = h.homes;
  stacks = λ th v e. thread_grows p n known more v.0 w (h.stacks th v e);
  contents = λ c v e. w v (h.contents c v e);
}

-- ---- one equation more

-- the equation fits
abbrev pub IsFitFor : List Stmt → ℕ → List VarName → VarName → Term → Type 0
IsFitFor p n known x t = Contains known x × EachOfTerm (fits.IsKnown known) t × TermFits p t × IsNodeOf (IsNode p) t × EachOfTerm (HasHomeIn n) t

pub terms_learn : (p : List Stmt) (n : ℕ) (known : List VarName) (s : Store) (ts : Threads) (qs : List (CellName × CellRecord)) (x : VarName) (t : Term) → IsFitFor p n known x t → TermsFit p n known s ts qs → TermsFit p n known ((x, t) ∷ s) (wake_where (goes_on ((x, t) ∷ s) x) ts) qs
terms_learn p n known s ts qs x t f h = record {
  equations = record { names = ((f.0, f.1), h.equations.names); terms = (f.2, h.equations.terms) };
  nodes = (f.3, h.nodes);
  homes = ((omega arith, f.4), h.homes);
  stacks = λ th v e. let o = woken_old (goes_on ((x, t) ∷ s) x) ts th v.0 v.1 e in h.stacks th (v.0, o.0) o.1;
  contents = h.contents;
}

-- ---- a thread goes on

-- a stack that is left, if the thread goes on
pub left_fits : (p : List Stmt) (n : ℕ) (known : List VarName) (st : Stack) → StackFits p known st → Each (AreNodesOf (IsNode p)) st → EachOfStack (HasHomeIn n) st → (v : ThreadState) → runnable_state (living_stack st) ≡ Some v → ThreadFits p n known v.0
left_fits p n known [] h g q v e = cc
left_fits p n known (i ∷ is) h g q v e =
    let same : ◌≡◌ {A = ThreadState} (i ∷ is, Runs) v = cc in
    subst (λ (u : ThreadState). ThreadFits p n known u.0) same (record { some = λ (k : i ∷ is ≡ []). cc; stack = h; nodes = g; homes = q })

-- ---- a thread begins

-- variables have no home
pub env_homes : (n : ℕ) (env : Env) → EachOfEnv (HasHomeIn n) env
env_homes n [] = tt
env_homes n (b ∷ env) = (omega arith, env_homes n env)

pub born_fits : (p : List Stmt) (n : ℕ) (known : List VarName) (b : Birth) → b.code.0 < length p → length b.vars ≡ length (free p b.code) → Each (λ (x : VarName). Contains known x) b.vars →
    (th : ThreadName) (v : ThreadState) → value_of equal_thread (runnable_threads (threads_born p (Some b))) th ≡ Some v → ThreadFits p n known v.0
born_fits p n known b low many names th v e = go (equal_thread b.name th) e
  where
    stack : Stack
    stack = item.Run b.code (env_for (free p b.code) b.vars) ∷ []

    begun : ThreadFits p n known (item.Run b.code (env_for (free p b.code) b.vars) ∷ [])
    begun = record { some = λ (q : item.Run b.code (env_for (free p b.code) b.vars) ∷ [] ≡ []). cc; stack = begun_fits p known b.code b.vars (item.Run b.code (env_for (free p b.code) b.vars) ∷ []) low (sym many) names refl; nodes = (tt, tt); homes = (env_homes n (env_for (free p b.code) b.vars), tt) }

    go : (c : Bool) → cond c (Some (item.Run b.code (env_for (free p b.code) b.vars) ∷ [], Runs)) None ≡ Some v → ThreadFits p n known v.0
    go true k =
        let same : ◌≡◌ {A = ThreadState} (item.Run b.code (env_for (free p b.code) b.vars) ∷ [], Runs) v = cc in
        subst (λ (u : ThreadState). ThreadFits p n known u.0) same begun
    go false k = cc

-- what a list of both has is in one of them
pub value_cases : (xs ts : Threads) (n : ThreadName) (v : ThreadState) → value_of equal_thread (xs ++ ts) n ≡ Some v → (value_of equal_thread xs n ≡ Some v) ⊎ (value_of equal_thread ts n ≡ Some v)
value_cases [] ts n v e = inr e
value_cases (t ∷ xs) ts n v e = go (equal_thread t.0 n) e (λ k. value_cases xs ts n v k)
  where
    go : (b : Bool) → cond b (Some t.1) (value_of equal_thread (xs ++ ts) n) ≡ Some v → (value_of equal_thread (xs ++ ts) n ≡ Some v → (value_of equal_thread xs n ≡ Some v) ⊎ (value_of equal_thread ts n ≡ Some v)) →
        (cond b (Some t.1) (value_of equal_thread xs n) ≡ Some v) ⊎ (value_of equal_thread ts n ≡ Some v)
    go true k ih = inl k
    go false k ih = ih k

pub terms_start : (p : List Stmt) (n : ℕ) (known : List VarName) (s : Store) (ts : Threads) (qs : List (CellName × CellRecord)) (b : Birth) → b.code.0 < length p → length b.vars ≡ length (free p b.code) → Each (λ (x : VarName). Contains known x) b.vars →
    TermsFit p n known s ts qs → TermsFit p n known s (runnable_threads (threads_born p (Some b)) ++ ts) qs
terms_start p n known s ts qs b low many names h = record {
  equations = h.equations;
  nodes = h.nodes;
  homes = h.homes;
  stacks = λ th v e. by th v (value_cases (runnable_threads (threads_born p (Some b))) ts th v e);
  contents = h.contents;
}
  where
    by : (th : ThreadName) (v : ThreadState) → (value_of equal_thread (runnable_threads (threads_born p (Some b))) th ≡ Some v) ⊎ (value_of equal_thread ts th ≡ Some v) → ThreadFits p n known v.0
    by th v (inl k) = born_fits p n known b low many names th v k
    by th v (inr k) = h.stacks th v k

-- ---- cells

-- what is kept of a cell changes, and its content, if it is here, is known
pub terms_place : (p : List Stmt) (n : ℕ) (known : List VarName) (s : Store) (ts : Threads) (qs : List (CellName × CellRecord)) (c : CellName) (q : CellRecord) → ((v : VarName) → q.held.token ≡ Here v → Contains known v) →
    TermsFit p n known s ts qs → TermsFit p n known s ts (insert_entry equal_cell qs c q)
terms_place p n known s ts qs c q f h = record {
  equations = h.equations;
  nodes = h.nodes;
  homes = h.homes;
  stacks = h.stacks;
  contents = λ d v e. by d v e (cell_cases d c);
}
  where
    by : (d : CellName) (v : VarName) → (cell_record_in (insert_entry equal_cell qs c q) d).held.token ≡ Here v → (d ≡ c) ⊎ (d ≢ c) → Contains known v
    by d v e (inl k) = f v (ap (λ (r : CellRecord). r.held.token) (sym (place_here qs c q)) ∙ subst (λ (z : CellName). (cell_record_in (insert_entry equal_cell qs c q) z).held.token ≡ Here v) k e)
    by d v e (inr k) = h.contents d v (ap (λ (r : CellRecord). r.held.token) (sym (place_other qs c d q k)) ∙ e)
