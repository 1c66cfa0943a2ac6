-- A site at the start of a program.
use Rattle.std.proofs.Common.{arith, ◌≡◌, ◌∙◌, sym, ap, refl, subst, ℕ, ◌≤◌, length, List, [], ◌∷◌, Bool, true, false, cond, Some, None}
use Rattle.std.specs.Prelude.{Option, Contains, unwrap_or, ◌==◌, ◌+◌, ◌*◌, ◌^◌}
use Rattle.tree_node.specs.declared.names.VarName.{VarName}
use Rattle.tree_node.specs.declared.names.ThreadName.{ThreadName}
use Rattle.tree_node.specs.declared.names.Name.TheVariants as name
use Rattle.tree_node.specs.declared.item.Item.TheVariants as item
use Rattle.tree_node.specs.Assoc.{value_of}
use Rattle.tree_node.specs.Each.{Each}
use Rattle.tree_node.specs.Env.{Env, env_for, restriction}
use Rattle.tree_node.specs.State.{equal_thread}
use Rattle.tree_node.specs.Store.{Store}
use Rattle.kernel_syntax.specs.declared.stmt.Stmt.{Stmt}
use Rattle.kernel_syntax.specs.Free.{free}
use Rattle.kernel_syntax.specs.Program.{IsProgram}
use Rattle.oz_model.specs.Run.{first_thread}
use Rattle.oz_model.specs.Run as model
use Rattle.port_owner.specs.Ports.{Owned}
use Rattle.bind_protocol.specs.Records.{Records}
use Rattle.name_supply.specs.declared.fresh.Fresh.{Fresh}
use Rattle.name_supply.specs.declared.fresh.Fresh.TheVariants as fresh
use Rattle.thread_machine.specs.Fits.{EquationsFit}
use Rattle.thread_machine.specs.Running.{Running}
use Rattle.name_supply.specs.Supply.{site_in, IsMade, HasMade, AreBelow}
use Rattle.thread_machine.proofs.FitLemmas.{begun_fits}
use Rattle.thread_roster.specs.declared.mode.Awaited.{Awaited}
use Rattle.thread_roster.specs.declared.mode.Mode.{Mode}
use Rattle.thread_roster.specs.declared.mode.Mode.TheVariants.{Runs, WaitsFor}
use Rattle.thread_roster.specs.Threads.{Entry}
use Rattle.site_model.specs.Site.{initial_site, runnable_threads}
use Rattle.site_cells.specs.Tables.{CellTables}
use Rattle.site_cells.specs.Homes.{HomeTable}
use Rattle.site_variables.specs.Variables.{stacks_of}
use Rattle.site_units.specs.declared.data.Core.{Core}
use Rattle.site_units.specs.Core.{site_of, stack_in, counters_of}
use Rattle.site_units.specs.Invariant.{ThreadFits, CellsFit, PortFits, HomesFit, AwaitKnown, IsConsistent}
use Rattle.site_units.proofs.SiteLemmas.{same_site}
use Rattle.site_core.specs.Start.{IsBare, first_code, first_running, first_living}

abbrev first_fresh : ℕ → ℕ → Fresh
first_fresh i n = fresh.Counted i n 0 0 0 (cond (i == 1) 1 0) 0

-- the parts of a site at its start
pub record IsFirst (p : List Stmt) (i n : ℕ) (c : Core) : Type 0 where
  pub bare : IsBare i n c
  pub living : c.threads.living ≡ first_living p i
  pub ended : c.threads.ended ≡ 0

-- ---- its plain state

same_env : (p : List Stmt) → IsProgram p → env_for (free p first_code) [] ≡ restriction (free p first_code) []
same_env p is = subst (λ (ks : List ℕ). env_for ks [] ≡ restriction ks []) (sym is.closed) refl

first_stacks : (p : List Stmt) (n i : ℕ) → IsProgram p → stacks_of stack_in (first_living p i) ≡ (initial_site p n i).threads
first_stacks p n i is = go (i == 1)
  where
    go : (b : Bool) → stacks_of stack_in (cond b ((first_thread, (first_running p, Runs)) ∷ []) []) ≡ cond b (runnable_threads (model.start p).threads) []
    go true = ap (λ (e : Env). (first_thread, (item.Run first_code e ∷ [], Runs)) ∷ []) (same_env p is)
    go false = refl

pub first_state : (p : List Stmt) (i n : ℕ) (c : Core) → IsProgram p → IsFirst p i n c → site_of c ≡ initial_site p n i
first_state p i n c is f =
    same_site f.bare.equations f.bare.records (ap (λ (t : CellTables). t.managers) f.bare.cells) (ap (λ (t : CellTables). t.cell_records) f.bare.cells) f.bare.ports
    (ap (λ (l : List (Entry Running)). stacks_of stack_in l) f.living ∙ first_stacks p n i is) f.bare.homes (ap counters_of f.bare.counters) f.ended f.bare.steps

-- ---- it is consistent

first_threads_fit : (p : List Stmt) (i : ℕ) → IsProgram p → Each (ThreadFits p []) (first_living p i)
first_threads_fit p i is = go (i == 1)
  where
    go : (b : Bool) → Each (ThreadFits p []) (cond b ((first_thread, (first_running p, Runs)) ∷ []) [])
    go true = (
      record {
        named = refl;
        goes = λ e. cc;
        fits = begun_fits p [] first_code [] (first_running p).stack is.some (ap length is.closed) tt refl;
      },
      tt,
    )
    go false = tt

first_made : (p : List Stmt) (i n : ℕ) → Each (λ (t : Entry Running). IsMade (first_fresh i n) (name.Thread t.0)) (first_living p i)
first_made p i n = go (i == 1)
  where
    go : (b : Bool) → Each (λ (t : Entry Running). IsMade (fresh.Counted i n 0 0 0 (cond b 1 0) 0) (name.Thread t.0)) (cond b ((first_thread, (first_running p, Runs)) ∷ []) [])
    go true = ((λ same. omega arith), tt)
    go false = tt

first_below : (i n k : ℕ) → 2 ≤ k → AreBelow k (first_fresh i n)
first_below i n k h = go (i == 1)
  where
    go : (b : Bool) → AreBelow k (fresh.Counted i n 0 0 0 (cond b 1 0) 0)
    go true = (omega (arith, h), omega (arith, h), omega (arith, h), omega (arith, h), omega (arith, h))
    go false = (omega (arith, h), omega (arith, h), omega (arith, h), omega (arith, h), omega (arith, h))

-- and the program's thread runs
none_waits : (p : List Stmt) (i : ℕ) (n : ThreadName) (r : Running) (a : Awaited) → value_of equal_thread (first_living p i) n ≡ Some (r, WaitsFor a) → ⊥
none_waits p i n r a h = go (i == 1) h
  where
    one : (b : Bool) → cond {A = Option (Running × Mode)} b (Some (first_running p, Runs)) None ≡ Some (r, WaitsFor a) → ⊥
    one true e = let mode : Runs ≡ WaitsFor a = ap (λ (o : Option (Running × Mode)). (unwrap_or o (first_running p, Runs)).1) e in cc
    one false e = cc

    go : (b : Bool) → value_of {V = Running × Mode} equal_thread (cond b ((first_thread, (first_running p, Runs)) ∷ []) []) n ≡ Some (r, WaitsFor a) → ⊥
    go true e = one (equal_thread first_thread n) e
    go false e = cc

first_awaits : (p : List Stmt) (i : ℕ) (known : List VarName) → AwaitKnown known (first_living p i)
first_awaits p i known = go (i == 1)
  where
    go : (b : Bool) → AwaitKnown known (cond b ((first_thread, (first_running p, Runs)) ∷ []) [])
    go true = (tt, tt)
    go false = tt

none_made : (i n : ℕ) (x : VarName) → HasMade (first_fresh i n) (name.Var x) → Contains [] x
none_made i n x h =
    let own : x.site ≡ i = let e : Some i ≡ Some x.site = h.0 in cc in
    absurd (omega (arith, h.1 own))

pub first_consistent : (p : List Stmt) (i n : ℕ) (c : Core) → IsProgram p → 1 ≤ i → i ≤ n → IsFirst p i n c → IsConsistent p c
first_consistent p i n c is some among f = record {
  linked = f.bare.linked;
  threads = subst (λ (l : List (Entry Running)). Each (ThreadFits p c.variables.store.known) l) (sym f.living) (subst (λ (known : List VarName). Each (ThreadFits p known) (first_living p i)) (sym f.bare.known) (first_threads_fit p i is));
  equations = subst (λ (s : Store). EquationsFit p c.variables.store.known s) (sym f.bare.equations) (record { names = tt; terms = tt });
  site = subst (λ (g : Fresh). site_in g ≡ Some c.variables.binder.site) (sym f.bare.counters) (ap (λ (k : ℕ). Some k) (sym own));
  below = subst (λ (k : ℕ). AreBelow (64 * k + 2 ^ 56) c.fresh) (sym f.bare.steps) (subst (λ (g : Fresh). AreBelow (2 ^ 56) g) (sym f.bare.counters) (first_below i n (2 ^ 56) (omega arith)));
  known_made = subst (λ (known : List VarName). Each (λ (x : VarName). IsMade c.fresh (name.Var x)) known) (sym f.bare.known) tt;
  made_known = λ x m. subst (λ (known : List VarName). Contains known x) (sym f.bare.known) (none_made i n x (subst (λ (g : Fresh). HasMade g (name.Var x)) f.bare.counters m));
  threads_made =
      subst (λ (l : List (Entry Running)). Each (λ (t : Entry Running). IsMade c.fresh (name.Thread t.0)) l) (sym f.living)
      (subst (λ (g : Fresh). Each (λ (t : Entry Running). IsMade g (name.Thread t.0)) (first_living p i)) (sym f.bare.counters) (first_made p i n));
  tables = ap (λ (t : CellTables). t.site) f.bare.cells ∙ sym own;
  cells = subst (λ (t : CellTables). CellsFit p c t.cell_records) (sym f.bare.cells) (λ cell. record { content = tt; queue = tt; once = tt });
  ports = subst (λ (ps : List Owned). Each (PortFits c.variables.store.known c.fresh) ps) (sym f.bare.ports) tt;
  homes = subst (λ (hs : HomeTable). HomesFit p c hs) (sym f.bare.homes) (λ cell. record { content = tt; news = tt; waits = tt; once = tt });
  asks = λ n r a e. absurd (none_waits p i n r a (ap (λ (l : List (Entry Running)). value_of equal_thread l n) (sym f.living) ∙ e));
  awaits = subst (AwaitKnown c.variables.store.known) (sym f.living) (first_awaits p i c.variables.store.known);
  among = omega (arith, own, f.bare.sites);
  some = omega (arith, f.bare.sites);
}
  where
    own : c.variables.binder.site ≡ i
    own = ap (λ (b : Records). b.site) f.bare.records
