-- What a message that is fit allows, once it is opened.
use Rattle.std.proofs.Common.{◌≡◌, ◌∙◌, sym, ap, refl, subst, ℕ, List, [], ◌∷◌, Bool, true, false, cond, Some, None}
use Rattle.std.specs.Prelude.{Option, ◌↔◌, Contains, IsTrue, IsSome, not, Result, OnOk}
use Rattle.std.proofs.lemmas.Result.{on_ok_weaker}
use Rattle.tree_node.specs.declared.names.VarName.{VarName}
use Rattle.tree_node.specs.declared.names.CellName.{CellName}
use Rattle.tree_node.specs.declared.names.CodeId.{CodeId}
use Rattle.tree_node.specs.declared.names.ThreadName.{ThreadName}
use Rattle.tree_node.specs.declared.names.Name.{Name}
use Rattle.tree_node.specs.declared.names.Name.TheVariants as name
use Rattle.tree_node.specs.declared.node.Term.{Term}
use Rattle.tree_node.specs.Assoc.{value_of}
use Rattle.tree_node.specs.Each.{Each}
use Rattle.tree_node.specs.Order.{site_of as site_in_name}
use Rattle.tree_node.specs.State.{Stack, equal_thread}
use Rattle.tree_node.specs.Store.{Equation}
use Rattle.kernel_syntax.specs.declared.stmt.Stmt.{Stmt}
use Rattle.kernel_syntax.specs.Program.{IsProgram}
use Rattle.site_message.specs.declared.message.Msg.{Msg}
use Rattle.site_message.specs.declared.message.Msg.TheVariants as msg
use Rattle.site_message.specs.Vars.{vars_of}
use Rattle.port_owner.specs.Ports.{Owned as Owner, end_of}
use Rattle.variable_owner.specs.Owners.{Owned, owner_of, sites_of, IsMade as IsOwned}
use Rattle.oz_model.proofs.NameLemmas.{Each-weaker}
use Rattle.name_supply.specs.declared.fresh.Fresh.{Fresh}
use Rattle.name_supply.specs.declared.fresh.Fresh.TheVariants as fresh
use Rattle.thread_machine.specs.Fits.{TermFits}
use Rattle.thread_machine.specs.Running.{Running}
use Rattle.name_supply.specs.Supply.{site_in, IsMade}
use Rattle.thread_roster.specs.declared.mode.Awaited.TheVariants.{Cell, Port}
use Rattle.thread_roster.specs.declared.mode.Mode.{Mode}
use Rattle.thread_roster.specs.declared.mode.Mode.TheVariants.{WaitsFor}
use Rattle.thread_roster.proofs.ThreadLemmas.{seen_none}
use Rattle.site_model.specs.Bundle.{vars_of_equations, message_vars}
use Rattle.site_model.specs.Fit.{IsFit, IsKnownName, IsBelowCounter}
use Rattle.site_model.specs.Messages.{message_row}
use Rattle.site_cells.specs.Tables.{CellTables, AreTablesOf, IsReceivableAsSites, IsReceivable}
use Rattle.site_cells.specs.Homes.{HomeTable, home_in}
use Rattle.site_variables.specs.Variables.{IsGrown, stacks_of}
use Rattle.site_units.specs.declared.data.Core.{Core}
use Rattle.site_units.specs.declared.data.Output.{Output}
use Rattle.site_units.specs.Core.{site_of, stack_in, counters_of}
use Rattle.site_units.specs.Invariant.{IsConsistent}
use Rattle.site_units.specs.Turns.{IsRowMade}
use Rattle.site_units.proofs.ThreadLemmas.{Living, WaitsStay, some_there, thread_found}
use Rattle.site_core.specs.Turns.{CanAnswer, CanDeliver}
use Rattle.site_core.proofs.CodeLemmas.{term_same}
use Rattle.site_core.proofs.FitLemmas.{none_found, same_mode}
use Rattle.site_core.proofs.NameLemmas.{message_each, term_known}
use Rattle.kernel_syntax.proofs.PreorderLemmas.{each_left}

-- ---- rows for each program

-- a row that is made whatever the program is made for this one
pub row_for : {T E : Type 0} (r : Result T E) (p : List Stmt) (m n : Msg) (c0 c1 : Core) (o0 o1 : Output) → OnOk r ((q : List Stmt) → IsConsistent q c0 → IsRowMade q (message_row q 0 n) c0 o0 c1 o1) → m ≡ n → IsConsistent p c0 →
    OnOk r (IsRowMade p (message_row p 0 m) c0 o0 c1 o1)
row_for {T} {E} r p m n c0 c1 o0 o1 rows is h =
    on_ok_weaker r (λ (f : (q : List Stmt) → IsConsistent q c0 → IsRowMade q (message_row q 0 n) c0 o0 c1 o1). subst (λ (k : Msg). IsRowMade p (message_row p 0 k) c0 o0 c1 o1) (sym is) (f p h)) rows

-- one with a term that fits it
pub row_for_term : {T E : Type 0} (r : Result T E) (p : List Stmt) (m n : Msg) (t : Term) (c0 c1 : Core) (o0 o1 : Output) →
    OnOk r ((q : List Stmt) → IsConsistent q c0 → TermFits q t → IsRowMade q (message_row q 0 n) c0 o0 c1 o1) → m ≡ n → IsConsistent p c0 → TermFits p t → OnOk r (IsRowMade p (message_row p 0 m) c0 o0 c1 o1)
row_for_term {T} {E} r p m n t c0 c1 o0 o1 rows is h fits =
    on_ok_weaker r (λ (f : (q : List Stmt) → IsConsistent q c0 → TermFits q t → IsRowMade q (message_row q 0 n) c0 o0 c1 o1). subst (λ (k : Msg). IsRowMade p (message_row p 0 k) c0 o0 c1 o1) (sym is) (f p h fits)) rows

-- those for each program, of a message that is this one
pub rows_for : {T E : Type 0} (r : Result T E) (m n : Msg) (c0 c1 : Core) (o0 o1 : Output) → OnOk r ((q : List Stmt) → IsConsistent q c0 → IsRowMade q (message_row q 0 n) c0 o0 c1 o1) → m ≡ n →
    OnOk r ((q : List Stmt) → IsConsistent q c0 → IsRowMade q (message_row q 0 m) c0 o0 c1 o1)
rows_for {T} {E} r m n c0 c1 o0 o1 rows is = subst (λ (k : Msg). OnOk r ((q : List Stmt) → IsConsistent q c0 → IsRowMade q (message_row q 0 k) c0 o0 c1 o1)) (sym is) rows

-- a message of none of the first kinds is a request or an answer
pub can_answer : (p : List Stmt) (c : Core) (m : Msg) → ((n : ThreadName) (code : CodeId) (vars : List VarName) (es : List Equation) → m ≡ msg.Spawn n code vars es → ⊥) → ((x : VarName) (k : ℕ) → m ≡ msg.Register x k → ⊥) →
    ((x : VarName) (n : ThreadName) (t : Term) (es : List Equation) → m ≡ msg.BindReq x n t es → ⊥) → ((x : VarName) (t : Term) (es : List Equation) → m ≡ msg.Binding x t es → ⊥) → ((cell : CellName) (k : ℕ) → m ≡ msg.Get cell k → ⊥) →
    ((cell : CellName) (k : ℕ) → m ≡ msg.Forward cell k → ⊥) → ((cell : CellName) (v : VarName) (es : List Equation) → m ≡ msg.Put cell v es → ⊥) → CanDeliver p c m → CanAnswer c m
can_answer p c (msg.Spawn n code vars es) spawn register request binding get forward put can = absurd (spawn n code vars es refl)
can_answer p c (msg.Register x k) spawn register request binding get forward put can = absurd (register x k refl)
can_answer p c (msg.BindReq x n t es) spawn register request binding get forward put can = absurd (request x n t es refl)
can_answer p c (msg.Binding x t es) spawn register request binding get forward put can = absurd (binding x t es refl)
can_answer p c (msg.Get cell k) spawn register request binding get forward put can = absurd (get cell k refl)
can_answer p c (msg.Forward cell k) spawn register request binding get forward put can = absurd (forward cell k refl)
can_answer p c (msg.Put cell v es) spawn register request binding get forward put can = absurd (put cell v es refl)
can_answer p c (msg.PortSend q n k) spawn register request binding get forward put can = can
can_answer p c (msg.PortEnd n old new es) spawn register request binding get forward put can = can
can_answer p c (msg.CellMake cell v es) spawn register request binding get forward put can = can
can_answer p c (msg.CellAsk cell n k v es) spawn register request binding get forward put can = can
can_answer p c (msg.CellOld n v es) spawn register request binding get forward put can = can

-- ---- a thread that lives nowhere here

unseen : (ts : Living) (n : ThreadName) → value_of equal_thread (stacks_of stack_in ts) n ≡ None → value_of equal_thread ts n ≡ None
unseen [] n h = refl
unseen (t ∷ ts) n h = go (equal_thread t.0 n) h (unseen ts n)
  where
    go : (b : Bool) → cond b (Some (stack_in t.1.0, t.1.1)) (value_of equal_thread (stacks_of stack_in ts) n) ≡ None →
        (value_of equal_thread (stacks_of stack_in ts) n ≡ None → value_of equal_thread ts n ≡ None) → cond b (Some t.1) (value_of equal_thread ts n) ≡ None
    go true k ih = cc
    go false k ih = ih k

-- what a roster says of a name is what the site's definition says
pub new_thread : (ts : Living) (n : ThreadName) (b : Bool) → (IsTrue b ↔ IsSome (value_of equal_thread ts n)) → IsTrue (not b) ↔ (value_of equal_thread (stacks_of stack_in ts) n ≡ None)
new_thread ts n b same = (
  λ k. seen_none (λ (e : Running × Mode). (stack_in e.0, e.1)) ts n (none (value_of equal_thread ts n) b same k),
  λ k. nowhere (value_of equal_thread ts n) b same (unseen ts n k),
)
  where
    none : (o : Option (Running × Mode)) (b : Bool) → (IsTrue b ↔ IsSome o) → IsTrue (not b) → o ≡ None
    none None b same k = refl
    none (Some v) true same k = cc
    none (Some v) false same k = let yes : false ≡ true = same.1 refl in cc

    nowhere : (o : Option (Running × Mode)) (b : Bool) → (IsTrue b ↔ IsSome o) → o ≡ None → IsTrue (not b)
    nowhere None true same e = let no : false ≡ true = same.0 refl in cc
    nowhere None false same e = refl
    nowhere (Some v) b same e = cc

-- a stack that stands so is a thread's
behind : (ts : Living) (n : ThreadName) (st : Stack) (k : Mode) → value_of equal_thread (stacks_of stack_in ts) n ≡ Some (st, k) → (r : Running) × (value_of equal_thread ts n ≡ Some (r, k))
behind ts n st k h = go (value_of equal_thread ts n) refl
  where
    go : (o : Option (Running × Mode)) → value_of equal_thread ts n ≡ o → (r : Running) × (value_of equal_thread ts n ≡ Some (r, k))
    go None e = let none : value_of equal_thread (stacks_of stack_in ts) n ≡ None = seen_none (λ (e : Running × Mode). (stack_in e.0, e.1)) ts n e in absurd (none_found (st, k) (sym none ∙ h))
    go (Some (r, m)) e =
        (r, e ∙ ap (λ (j : Mode). Some (r, j)) (same_mode r.stack st m k (sym (thread_found ts n r m e) ∙ h)))

-- ---- names that can come

-- a name that can come is no later one of this site's
known_made : (c : Core) (x : Name) → site_in c.fresh ≡ Some c.variables.binder.site → IsKnownName c.sites (site_of c) x → IsMade c.fresh x
known_made c x at h = go c.fresh x at h.3
  where
    go : (f : Fresh) (x : Name) → site_in f ≡ Some c.variables.binder.site → (site_in_name x ≡ c.variables.binder.site → IsBelowCounter (counters_of f) x) → IsMade f x
    go (fresh.Counted site sites vars cells procs threads ports) (name.Var x) e b = let is : site ≡ c.variables.binder.site = cc in λ same. b (same ∙ is)
    go (fresh.Counted site sites vars cells procs threads ports) (name.Cell x) e b = let is : site ≡ c.variables.binder.site = cc in λ same. b (same ∙ is)
    go (fresh.Counted site sites vars cells procs threads ports) (name.Proc x) e b = let is : site ≡ c.variables.binder.site = cc in λ same. b (same ∙ is)
    go (fresh.Counted site sites vars cells procs threads ports) (name.Port x) e b = let is : site ≡ c.variables.binder.site = cc in λ same. b (same ∙ is)
    go (fresh.Counted site sites vars cells procs threads ports) (name.Thread x) e b = let is : site ≡ c.variables.binder.site = cc in λ same. b (same ∙ is)
    go (fresh.Given names) x e b = let no : None ≡ Some c.variables.binder.site = e in cc

pub vars_made : (p : List Stmt) (c : Core) (m : Msg) → IsConsistent p c → IsFit p c.sites (site_of c) m → Each (λ (x : VarName). IsMade c.fresh (name.Var x)) (message_vars m)
vars_made p c m h fit =
    Each-weaker (λ (x : VarName). IsKnownName c.sites (site_of c) (name.Var x)) (λ (x : VarName). IsMade c.fresh (name.Var x))
    (λ x k. known_made c (name.Var x) h.site k) (message_vars m) (message_each (IsKnownName c.sites (site_of c)) m fit.names)

-- ---- the conditions of the rows

-- what opening the message left
pub record IsOpened (p : List Stmt) (m : Msg) (c c1 : Core) : Type 0 where
  pub consistent : IsConsistent p c1
  pub known : Each (λ (x : VarName). Contains c1.variables.store.known x) (message_vars m)
  pub grows : IsGrown c.variables.store.known c1.variables.store.known
  pub lives : (n : ThreadName) → value_of equal_thread c.threads.living n ≡ None → value_of equal_thread c1.threads.living n ≡ None
  pub owners : c1.variables.binder.owners ≡ c.variables.binder.owners
  pub site : c1.variables.binder.site ≡ c.variables.binder.site
  pub waits : WaitsStay c.threads.living c1.threads.living
  pub cells : c1.cells ≡ c.cells
  pub ports : c1.ports ≡ c.ports
  pub homes : c1.homes ≡ c.homes
  pub counters : c1.fresh ≡ c.fresh

pub deliverable : (p : List Stmt) → IsProgram p → IsReceivableAsSites → (m : Msg) (c c1 : Core) → IsConsistent p c → IsFit p c.sites (site_of c) m → IsOpened p m c c1 → CanDeliver p c1 m
deliverable p is law m c c1 h fit o = go m fit o.known
  where
    tables : AreTablesOf (site_of c) c.cells
    tables = record { site = h.tables; managers = refl; cell_records = refl }

    own : (x : VarName) → x.site ≡ c.variables.binder.site → x.site ≡ c1.variables.binder.site
    own x e = e ∙ sym o.site

    made : (x : VarName) → IsOwned c.variables.binder.owners x → IsOwned c1.variables.binder.owners x
    made x k = subst (λ (es : List Owned). IsOwned es x) (sym o.owners) k

    taken : (m : Msg) → IsReceivable c.cells m → IsReceivable c1.cells m
    taken m k = subst (λ (t : CellTables). IsReceivable t m) (sym o.cells) k

    go : (m : Msg) → IsFit p c.sites (site_of c) m → Each (λ (x : VarName). Contains c1.variables.store.known x) (message_vars m) → CanDeliver p c1 m
    go (msg.Spawn n code vars es) f known = (
      o.lives n (unseen c.threads.living n f.takes),
      subst (λ (g : Fresh). IsMade g (name.Thread n)) (sym o.counters) (known_made c (name.Thread n) h.site f.names.0),
      f.codes.0,
      each_left (λ (x : VarName). Contains c1.variables.store.known x) vars (vars_of_equations es) known,
    )
    go (msg.Register x k) f known = (
      own x f.takes.0,
      made x f.takes.1,
      λ there. f.takes.2 (subst (λ (ws : List Owned). Contains (sites_of (owner_of ws x)) k) o.owners there),
    )
    go (msg.BindReq x n t es) f known = (
      own x f.takes.1.0,
      made x f.takes.1.1,
      f.takes.0,
      term_known c1.variables.store.known t (each_left (λ (y : VarName). Contains c1.variables.store.known y) (vars_of t) (vars_of_equations es) known.1),
      (term_same p is t f.wire.2).1 f.codes.1.0,
    )
    go (msg.Binding x t es) f known = (
      (λ e. f.takes.0 (e ∙ o.site)),
      (o.consistent.linked.names x).1 known.0,
      f.takes.1,
      term_known c1.variables.store.known t (each_left (λ (y : VarName). Contains c1.variables.store.known y) (vars_of t) (vars_of_equations es) known.1),
      (term_same p is t f.wire.1).1 f.codes.1.0,
    )
    go (msg.Get cell k) f known = taken (msg.Get cell k) ((law.get (site_of c) c.cells cell k tables).1 f.takes)
    go (msg.Forward cell k) f known = taken (msg.Forward cell k) ((law.forward (site_of c) c.cells cell k tables).1 f.takes)
    go (msg.Put cell v es) f known = (taken (msg.Put cell v es) ((law.put (site_of c) c.cells cell v es tables).1 f.takes), known.0)
    go (msg.PortSend q n k) f known = subst (λ (ps : List Owner). IsSome (end_of ps q)) (sym o.ports) (some_there (end_of c.ports q) f.takes.1 f.takes.2)
    go (msg.PortEnd n old new es) f known =
        let there = behind c.threads.living n f.takes.0 (WaitsFor (Port f.takes.1)) f.takes.3 in
        ((there.0, f.takes.1, o.waits n there.0 (Port f.takes.1) there.1), known.0, known.1.0)
    go (msg.CellMake cell v es) f known = (subst (λ (hs : HomeTable). (home_in hs cell).content ≡ None) (sym o.homes) f.takes.1, known.0)
    go (msg.CellAsk cell n k v es) f known = ((λ e. f.sites.2 (e ∙ o.site)), known.0)
    go (msg.CellOld n v es) f known =
        let there = behind c.threads.living n f.takes.0 (WaitsFor (Cell f.takes.1)) f.takes.4 in
        ((there.0, f.takes.1, f.takes.2, (λ e. f.takes.3 (e ∙ o.site)), o.waits n there.0 (Cell f.takes.1) there.1), known.0)
