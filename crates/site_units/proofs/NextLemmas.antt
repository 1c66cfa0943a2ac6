-- What keeps a site's data consistent.
use Rattle.std.proofs.Common.{◌≡◌, ◌≢◌, ◌∙◌, sym, ap, subst, ℕ, List, [], ◌∷◌, ◌⊎◌, inl, inr, Some, None}
use Rattle.std.specs.Prelude.{Option, Contains, ◌+◌, ◌*◌, ◌^◌, ◌≤◌}
use Rattle.tree_node.specs.declared.names.VarName.{VarName}
use Rattle.tree_node.specs.declared.names.CellName.{CellName}
use Rattle.tree_node.specs.declared.names.PortName.{PortName}
use Rattle.tree_node.specs.declared.names.ThreadName.{ThreadName}
use Rattle.tree_node.specs.declared.names.Name.{Name}
use Rattle.tree_node.specs.declared.names.Name.TheVariants as name
use Rattle.tree_node.specs.Assoc.{value_of}
use Rattle.tree_node.specs.State.{equal_thread}
use Rattle.tree_node.specs.Each.{Each, AreDistinct}
use Rattle.tree_node.specs.Store.{Store, IsSound}
use Rattle.kernel_syntax.specs.declared.stmt.Stmt.{Stmt}
use Rattle.oz_model.specs.Need.{Takes, variable_kinds, stack_need}
use Rattle.oz_model.specs.Effect.{Stays, Exchanged, Keeps, Sent, stack_effect}
use Rattle.oz_model.specs.Answers.{IsPartOf}
use Rattle.oz_model.proofs.KeepLemmas.{steps_stay}
use Rattle.oz_model.proofs.WithinLemmas.{more_is_within}
use Rattle.oz_model.proofs.NameLemmas.{Each-weaker}
use Rattle.thread_machine.specs.Fits.{EquationsFit}
use Rattle.thread_machine.specs.Running.{Running}
use Rattle.name_supply.specs.Supply.{site_in, IsMade, HasMade, AreBelow}
use Rattle.thread_machine.proofs.KeepLemmas.{stack_grows}
use Rattle.thread_roster.specs.declared.mode.Awaited.{Awaited}
use Rattle.thread_roster.specs.declared.mode.Awaited.TheVariants.{Cell, Port}
use Rattle.thread_roster.specs.declared.mode.Mode.TheVariants as mode
use Rattle.thread_roster.specs.declared.mode.Mode.{Mode}
use Rattle.thread_roster.specs.Threads.{Entry, set_mode}
use Rattle.thread_roster.proofs.NameLemmas.{name_cases}
use Rattle.thread_roster.proofs.ThreadLemmas.{mode_there}
use Rattle.token_chain.specs.declared.token.Token.{Token}
use Rattle.token_chain.specs.declared.token.Token.TheVariants.{Away, Asked, Here}
use Rattle.site_model.specs.Site.{CellRecord, EarlyRequest, HomeRecord, cell_record_in}
use Rattle.site_cells.specs.Homes.{home_in}
use Rattle.site_cells.specs.Tables.{CellTables}
use Rattle.site_variables.specs.Variables.{IsLinked, IsGrown}
use Rattle.site_units.specs.declared.data.Core.{Core}
use Rattle.site_units.specs.Invariant.{ThreadFits, IsExchanging, IsSending, IsAsking, IsQueued, IsEarly, ContentKnown, CellFits, CellsFit, PortFits, ContentIsKnown, own_threads, HomeFits, HomesFit, AwaitKnown, IsConsistent}
use Rattle.site_units.proofs.ThreadLemmas.{Living, WaitsStay, running_or, mode_in, other_mode}

pub thread_grows : (p : List Stmt) (known more : List VarName) (t : Entry Running) → IsGrown known more → ThreadFits p known t → ThreadFits p more t
thread_grows p known more t grows h = record { named = h.named; goes = h.goes; fits = stack_grows p known more t.1.0.stack grows h.fits }

-- ---- exchanges that wait

-- each thread that waits for a cell exchanges there as before
abbrev pub ExchangesStay : List Stmt → List VarName → Store → List VarName → Store → Type 0
ExchangesStay p known s more c = (cell : CellName) (r : Running) → IsExchanging p known s cell r → IsExchanging p more c cell r

pub exchanges_known : (p : List Stmt) (known more : List VarName) (s c : Store) → c ≡ s → IsGrown known more → ExchangesStay p known s more c
exchanges_known p known more s c e grows cell r h = record {
  new = h.new;
  told = h.told;
  item = h.item;
  rest = h.rest;
  stack = h.stack;
  need = subst (λ (es : Store). stack_need p es r.stack ≡ Takes []) (sym e) h.need;
  effect = subst (λ (es : Store). stack_effect p es [] None r.stack ≡ record { adds = []; stack = h.rest; line = None; born = None; cell = Exchanged cell h.new h.told; port = Keeps }) (sym e) h.effect;
  tells = h.tells;
  new_known = grows h.new h.new_known;
  told_known = grows h.told h.told_known;
}

pub exchanges_more : (p : List Stmt) (known more : List VarName) (s c : Store) → IsSound c → IsPartOf s c → IsGrown known more → ExchangesStay p known s more c
exchanges_more p known more s c sound includes grows cell r h =
    let kept = steps_stay p s c r.stack [] sound (more_is_within s c includes) h.need in
    record {
      new = h.new;
      told = h.told;
      item = h.item;
      rest = h.rest;
      stack = h.stack;
      need = kept.0;
      effect = sym (kept.1 [] None) ∙ h.effect;
      tells = h.tells;
      new_known = grows h.new h.new_known;
      told_known = grows h.told h.told_known;
    }

-- ---- sends that wait

-- each thread that waits for a port sends there as before
abbrev pub SendsStay : List Stmt → List VarName → Store → List VarName → Store → Type 0
SendsStay p known s more c = (q : PortName) (r : Running) → IsSending p known s q r → IsSending p more c q r

pub sends_known : (p : List Stmt) (known more : List VarName) (s c : Store) → c ≡ s → IsGrown known more → SendsStay p known s more c
sends_known p known more s c e grows q r h = record {
  value = h.value;
  item = h.item;
  rest = h.rest;
  stack = h.stack;
  need = subst (λ (es : Store). stack_need p es r.stack ≡ Takes (variable_kinds 1)) (sym e) h.need;
  effect = λ x. subst (λ (es : Store). stack_effect p es (name.Var x ∷ []) None r.stack ≡ record { adds = []; stack = h.rest; line = None; born = None; cell = Stays; port = Sent q h.value x }) (sym e) (h.effect x);
  tells = h.tells;
  value_known = grows h.value h.value_known;
}

pub sends_more : (p : List Stmt) (known more : List VarName) (s c : Store) → IsSound c → IsPartOf s c → IsGrown known more → SendsStay p known s more c
sends_more p known more s c sound includes grows q r h =
    let kept = steps_stay p s c r.stack (variable_kinds 1) sound (more_is_within s c includes) h.need in
    record {
      value = h.value;
      item = h.item;
      rest = h.rest;
      stack = h.stack;
      need = kept.0;
      effect = λ x. sym (kept.1 (name.Var x ∷ []) None) ∙ h.effect x;
      tells = h.tells;
      value_known = grows h.value h.value_known;
    }

-- who waits by now waited before, or has such a step next
abbrev pub AskRightly : List Stmt → List VarName → Store → Living → Living → Type 0
AskRightly p known s ts us = (m : ThreadName) (r : Running) (a : Awaited) → value_of equal_thread us m ≡ Some (r, mode.WaitsFor a) →
    (value_of equal_thread ts m ≡ Some (r, mode.WaitsFor a)) ⊎ IsAsking p known s a r

-- nobody began to wait
pub asks_before : (p : List Stmt) (known : List VarName) (s : Store) (ts us : Living) → WaitsStay us ts → AskRightly p known s ts us
asks_before p known s ts us h m r a e = inl (h m r a e)

-- one thread begins to, which has such a step next where it waits for an answer
pub asks_mode : (p : List Stmt) (known : List VarName) (s : Store) (ts : Living) (n : ThreadName) (q : Running) (k : Mode) → value_of equal_thread ts n ≡ Some (q, mode.Runs) →
    ((a : Awaited) → k ≡ mode.WaitsFor a → IsAsking p known s a q) → AskRightly p known s ts (set_mode ts n k)
asks_mode p known s ts n q k found asking m r a e = go (name_cases n m)
  where
    go : (n ≡ m) ⊎ (n ≢ m) → (value_of equal_thread ts m ≡ Some (r, mode.WaitsFor a)) ⊎ IsAsking p known s a r
    go (inl same) =
        let there : value_of equal_thread (set_mode ts n k) m ≡ Some (q, k) = subst (λ (x : ThreadName). value_of equal_thread (set_mode ts n k) x ≡ Some (q, k)) same (mode_there ts n q mode.Runs k found) in
        let both : Some (q, k) ≡ Some (r, mode.WaitsFor a) = sym there ∙ e in
        inr (subst (λ (x : Running). IsAsking p known s a x) (ap (running_or q) both) (asking a (ap mode_in both)))
    go (inr apart) = inl (sym (other_mode ts n m k apart) ∙ e)

pub asks_trans : (p : List Stmt) (known : List VarName) (s : Store) (ts us vs : Living) → WaitsStay us ts → AskRightly p known s us vs → AskRightly p known s ts vs
asks_trans p known s ts us vs h g m r a e = go (g m r a e)
  where
    go : (value_of equal_thread us m ≡ Some (r, mode.WaitsFor a)) ⊎ IsAsking p known s a r → (value_of equal_thread ts m ≡ Some (r, mode.WaitsFor a)) ⊎ IsAsking p known s a r
    go (inl old) = inl (h m r a old)
    go (inr new) = inr new

asking_stays : (p : List Stmt) (known more : List VarName) (s c : Store) (a : Awaited) (r : Running) → ExchangesStay p known s more c → SendsStay p known s more c → IsAsking p known s a r → IsAsking p more c a r
asking_stays p known more s c (Cell cell) r exchanges sends h = exchanges cell r h
asking_stays p known more s c (Port q) r exchanges sends h = sends q r h

-- ---- what is kept

content_grows : (known more : List VarName) (t : Token) → IsGrown known more → ContentKnown known t → ContentKnown more t
content_grows known more Away grows h = tt
content_grows known more Asked grows h = tt
content_grows known more (Here v) grows h = grows v h

pub cell_kept : (p : List Stmt) (c0 c1 : Core) (e : CellName × CellRecord) → IsGrown c0.variables.store.known c1.variables.store.known → WaitsStay c0.threads.living c1.threads.living →
    ExchangesStay p c0.variables.store.known c0.variables.store.equations c1.variables.store.known c1.variables.store.equations → CellFits p c0 e → CellFits p c1 e
cell_kept p c0 c1 e grows waits exchanges h = record {
  content = content_grows c0.variables.store.known c1.variables.store.known e.1.held.token grows h.content;
  queue = Each-weaker (IsQueued p c0 e.0) (IsQueued p c1 e.0) (λ n w. (w.0, (w.1.0, waits n w.1.0 (Cell e.0) w.1.1, exchanges e.0 w.1.0 w.1.2))) e.1.queue h.queue;
  once = h.once;
}

heard_grows : (known more : List VarName) (o : Option VarName) → IsGrown known more → ContentIsKnown known o → ContentIsKnown more o
heard_grows known more None grows h = tt
heard_grows known more (Some v) grows h = grows v h

pub home_kept : (p : List Stmt) (c0 c1 : Core) (e : CellName × HomeRecord) → c1.variables.binder.site ≡ c0.variables.binder.site → IsGrown c0.variables.store.known c1.variables.store.known → WaitsStay c0.threads.living c1.threads.living →
    ExchangesStay p c0.variables.store.known c0.variables.store.equations c1.variables.store.known c1.variables.store.equations → HomeFits p c0 e → HomeFits p c1 e
home_kept p c0 c1 e own grows waits exchanges h = record {
  content = heard_grows c0.variables.store.known c1.variables.store.known e.1.content grows h.content;
  news = Each-weaker (λ (r : EarlyRequest). Contains c0.variables.store.known r.new) (λ (r : EarlyRequest). Contains c1.variables.store.known r.new) (λ r m. grows r.new m) e.1.early h.news;
  waits = subst (λ (i : ℕ). Each (IsEarly p c1 e.0) (own_threads i e.1.early)) (sym own)
      (Each-weaker (IsEarly p c0 e.0) (IsEarly p c1 e.0) (λ n w. (w.0, w.1 ∙ sym own, (w.2.0, waits n w.2.0 (Cell e.0) w.2.1, exchanges e.0 w.2.0 w.2.2))) (own_threads c0.variables.binder.site e.1.early) h.waits);
  once = subst (λ (i : ℕ). AreDistinct (own_threads i e.1.early)) (sym own) h.once;
}

asks_next : (p : List Stmt) (c0 c1 : Core) (m : ThreadName) (r : Running) (a : Awaited) → IsConsistent p c0 →
    ExchangesStay p c0.variables.store.known c0.variables.store.equations c1.variables.store.known c1.variables.store.equations →
    SendsStay p c0.variables.store.known c0.variables.store.equations c1.variables.store.known c1.variables.store.equations →
    (value_of equal_thread c0.threads.living m ≡ Some (r, mode.WaitsFor a)) ⊎ IsAsking p c1.variables.store.known c1.variables.store.equations a r → IsAsking p c1.variables.store.known c1.variables.store.equations a r
asks_next p c0 c1 m r a h exchanges sends (inl old) =
    asking_stays p c0.variables.store.known c1.variables.store.known c0.variables.store.equations c1.variables.store.equations a r exchanges sends (h.asks m r a old)
asks_next p c0 c1 m r a h exchanges sends (inr new) = new

-- ---- all

-- what changed, and what is as before
pub record Next (p : List Stmt) (c0 c1 : Core) : Type 0 where
  pub linked : IsLinked c1.variables
  pub grows : IsGrown c0.variables.store.known c1.variables.store.known
  pub threads : Each (ThreadFits p c1.variables.store.known) c1.threads.living
  pub equations : EquationsFit p c1.variables.store.known c1.variables.store.equations
  pub own : c1.variables.binder.site ≡ c0.variables.binder.site
  pub site : site_in c1.fresh ≡ site_in c0.fresh
  pub below : AreBelow (64 * c1.steps + 2 ^ 56) c1.fresh
  pub stays : (x : Name) → IsMade c0.fresh x → IsMade c1.fresh x
  pub known_made : Each (λ (x : VarName). IsMade c1.fresh (name.Var x)) c1.variables.store.known
  pub made_known : (x : VarName) → HasMade c1.fresh (name.Var x) → Contains c1.variables.store.known x
  pub threads_made : Each (λ (t : Entry Running). IsMade c1.fresh (name.Thread t.0)) c1.threads.living
  pub cells : c1.cells ≡ c0.cells
  pub ports : c1.ports ≡ c0.ports
  pub homes : c1.homes ≡ c0.homes
  pub waits : WaitsStay c0.threads.living c1.threads.living
  pub asks : AskRightly p c1.variables.store.known c1.variables.store.equations c0.threads.living c1.threads.living
  pub awaits : AwaitKnown c1.variables.store.known c1.threads.living
  pub exchanges : ExchangesStay p c0.variables.store.known c0.variables.store.equations c1.variables.store.known c1.variables.store.equations
  pub sends : SendsStay p c0.variables.store.known c0.variables.store.equations c1.variables.store.known c1.variables.store.equations
  pub sites : c1.sites ≡ c0.sites

pub next_consistent : (p : List Stmt) (c0 c1 : Core) → IsConsistent p c0 → Next p c0 c1 → IsConsistent p c1
next_consistent p c0 c1 h n = record {
  linked = n.linked;
  threads = n.threads;
  equations = n.equations;
  site = n.site ∙ (h.site ∙ ap (λ (i : ℕ). Some i) (sym n.own));
  below = n.below;
  known_made = n.known_made;
  made_known = n.made_known;
  threads_made = n.threads_made;
  tables = ap (λ (t : CellTables). t.site) n.cells ∙ (h.tables ∙ sym n.own);
  cells =
      subst (λ (t : CellTables). CellsFit p c1 t.cell_records) (sym n.cells)
      (λ cell. cell_kept p c0 c1 (cell, cell_record_in c0.cells.cell_records cell) n.grows n.waits n.exchanges (h.cells cell));
  ports =
      subst (Each (PortFits c1.variables.store.known c1.fresh)) (sym n.ports)
      (Each-weaker (PortFits c0.variables.store.known c0.fresh) (PortFits c1.variables.store.known c1.fresh) (λ e f. (n.stays (name.Port e.0) f.0, n.grows e.1 f.1)) c0.ports h.ports);
  homes =
      subst (HomesFit p c1) (sym n.homes) (λ cell. home_kept p c0 c1 (cell, home_in c0.homes cell) n.own n.grows n.waits n.exchanges (h.homes cell));
  asks = λ m r a e. asks_next p c0 c1 m r a h n.exchanges n.sends (n.asks m r a e);
  awaits = n.awaits;
  among = subst (λ (i : ℕ). i ≤ c1.sites) (sym n.own) (subst (λ (m : ℕ). c0.variables.binder.site ≤ m) (sym n.sites) h.among);
  some = subst (λ (m : ℕ). 1 ≤ m) (sym n.sites) h.some;
}
