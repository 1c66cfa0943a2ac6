-- All that wait for a cell are served, in the order in which they asked.
use Rattle.std.proofs.Common.{◌≡◌, ◌∙◌, sym, ap, refl, subst, ℕ, suc, List, [], ◌∷◌, ◌++◌, length, ◌⊎◌, inl, inr, Bool, true, false, cond, Some, None}
use Rattle.std.specs.Prelude.{Contains, ◌≢◌}
use Rattle.tree_node.specs.declared.names.VarName.{VarName}
use Rattle.tree_node.specs.declared.names.CellName.{CellName}
use Rattle.tree_node.specs.declared.names.ThreadName.{ThreadName}
use Rattle.tree_node.specs.Assoc.{value_of, with_value}
use Rattle.tree_node.specs.Each.{Each, AreDistinct}
use Rattle.tree_node.specs.Goal.{equal_cell}
use Rattle.tree_node.specs.State.{Stack, State, equal_thread}
use Rattle.tree_node.specs.Store.{Store, IsSound}
use Rattle.tree_node.proofs.ClassLemmas.{Contains-cons_cases, Contains-head, Contains-tail}
use Rattle.kernel_syntax.specs.declared.stmt.Stmt.{Stmt}
use Rattle.oz_model.specs.Effect.{CellChange, Effect, stack_effect}
use Rattle.oz_model.specs.Step.{effect_of, content_of}
use Rattle.oz_model.specs.Step as model
use Rattle.oz_model.specs.Run.{IsRun, exchange_in, exchanges_from}
use Rattle.oz_model.proofs.ExchangeLemmas.{put_here, put_there}
use Rattle.token_chain.specs.declared.token.Token.TheVariants.{Here}
use Rattle.bind_protocol.specs.Records.{Records}
use Rattle.site_model.specs.Site.{Site, Threads, Counters, cell_record, thread_state}
use Rattle.thread_roster.specs.declared.mode.Awaited.TheVariants.{Cell}
use Rattle.thread_roster.specs.declared.mode.Mode.TheVariants.{WaitsFor}
use Rattle.thread_roster.specs.declared.mode.Mode.TheVariants as site
use Rattle.site_model.specs.Transition.{Transition, with_pick, and_then}
use Rattle.site_model.specs.Cells.{exchange_stack, content_after_change, after_exchange, after_exchange_as, content_after_exchange, content_after_exchange_as, serving}
use Rattle.world_model.specs.World.{Mail, at_put}
use Rattle.world_model.specs.Names.{IsHere, here_at}
use Rattle.world_model.specs.Matches.{PartsMatch, IsExchange}
use Rattle.world_model.proofs.PutLemmas.{at_here, at_twice}
use Rattle.world_model.proofs.MailLemmas.{nothing}
use Rattle.world_model.proofs.KeyLemmas.{with_here, with_there}
use Rattle.site_model.proofs.CellKeyLemmas.{place_here, place_other}
use Rattle.world_cells.proofs.ExchangeStepLemmas.{Exchanges, stack_left, plain_pick}
use Rattle.world_cells.proofs.ServeLemmas.{serve_step, serve_parts, new_home}
use Rattle.tree_node.proofs.NameLemmas.{same_thread_decides}
use Rattle.oz_model.proofs.KindLemmas.{cell_same, cells_differ}
use Rattle.tree_node.proofs.AssocLemmas.{length-with_value}

-- ---- what the site does with one of them

module _ (p : List Stmt) (n : ThreadName) (v : VarName) (s : Site) (st : Stack) (c : CellName) (q : Store) (e : q ≡ s.equations) (x : IsExchange p q st c) (at : thread_state s n ≡ Some (st, WaitsFor (Cell c))) where
  served_site : after_exchange p n v s ≡ record s { threads = with_value equal_thread s.threads n (stack_left p q st x.1 v, site.Runs) }
  served_site =
      ap (after_exchange_as p n v s) at
      ∙ ap (λ (f : Effect). record s { threads = with_value equal_thread s.threads n (exchange_stack v f.cell f.stack, site.Runs) }) (ap (λ (r : Store). stack_effect p r [] None st) (sym e))
      ∙ ap (λ (y : CellChange). record s { threads = with_value equal_thread s.threads n (exchange_stack v y (stack_effect p q [] None st).stack, site.Runs) }) x.3

  served_content : content_after_exchange p n v s ≡ x.0
  served_content =
      ap (content_after_exchange_as p v s) at
      ∙ ap (λ (f : Effect). content_after_change v f.cell) (ap (λ (r : Store). stack_effect p r [] None st) (sym e))
      ∙ ap (content_after_change v) x.3

-- ---- all

-- what the world keeps beside site i
pub record Around : Type 0 where
  pub eqs : ℕ → Store
  pub records : ℕ → Records
  pub threads : ℕ → Threads
  pub counters : ℕ → Counters
  pub mail : Mail

abbrev pub PartsOf : List Stmt → Around → ℕ → Threads → State → Type 0
PartsOf p a i ts z = PartsMatch p (here_at a.records) a.eqs a.records (at_put a.threads i ts) a.counters a.mail z

pub record Served (p : List Stmt) (a : Around) (i : ℕ) (c : CellName) (ns : List ThreadName) (v : VarName) (s : Site) (z : State) (d : Transition) : Type 0 where
  pub state : State
  pub content : VarName
  pub runs : IsRun p z d.picks state
  pub parts : PartsOf p a i d.site.threads state
  pub value : value_of equal_cell state.cells c ≡ Some content
  pub others : (b : CellName) → b ≢ c → value_of equal_cell state.cells b ≡ value_of equal_cell z.cells b
  pub ports : state.ports ≡ z.ports
  pub home : IsHere (a.records i) content
  pub known : state.equations ≡ z.equations
  pub lines : state.lines ≡ z.lines
  pub ended : state.ended ≡ z.ended
  pub living : length state.threads ≡ length z.threads
  pub exchanged : length (exchanges_from p c z d.picks) ≡ length ns
  pub apart : (b : CellName) → b ≢ c → exchanges_from p b z d.picks ≡ []
  -- the site
  pub place : cell_record d.site c ≡ record { held = record (cell_record s c).held { token = Here content; waiting = 0 }; queue = [] }
  pub cell_records : (b : CellName) → b ≢ c → cell_record d.site b ≡ cell_record s b
  pub equations : d.site.equations ≡ s.equations
  pub records : d.site.records ≡ s.records
  pub managers : d.site.managers ≡ s.managers
  pub counters : d.site.counters ≡ s.counters
  pub totals : (d.site.ended ≡ s.ended) × (d.site.steps ≡ s.steps) × (length d.site.threads ≡ length s.threads)
  pub done : (n : ThreadName) → Contains ns n → (st : Stack) × (value_of equal_thread d.site.threads n ≡ Some (st, site.Runs))
  pub rest : (n : ThreadName) → (Contains ns n → ⊥) → value_of equal_thread d.site.threads n ≡ value_of equal_thread s.threads n
  pub sent : d.sent ≡ []
  pub printed : d.lines ≡ []

each_differs : (ns : List ThreadName) (n m : ThreadName) → Each (λ x. n ≢ x) ns → Contains ns m → n ≢ m
each_differs [] n m h k = absurd (nothing _ k)
each_differs (x ∷ ns) n m h k = go (Contains-cons_cases _ _ ns k) (λ q. each_differs ns n m h.1 q)
  where
    go : (x ≡ m) ⊎ Contains ns m → (Contains ns m → n ≢ m) → n ≢ m
    go (inl e) ih d = h.0 (d ∙ sym e)
    go (inr q) ih d = ih q d

module _ (p : List Stmt) (a : Around) (i : ℕ) (c : CellName) (n : ThreadName) (ns : List ThreadName) (v : VarName) (s : Site) (z : State) (parts : PartsOf p a i s.threads z) (sound : IsSound z.equations) (eqs : a.eqs i ≡ s.equations)
    (value : value_of equal_cell z.cells c ≡ Some v) (home : IsHere (a.records i) v) (real : i ≢ 0) (off : Each (λ x. n ≢ x) ns) (st : Stack) (standing : value_of equal_thread s.threads n ≡ Some (st, WaitsFor (Cell c))) where
  at_site : value_of equal_thread (at_put a.threads i s.threads i) n ≡ Some (st, WaitsFor (Cell c))
  at_site = subst (λ (ts : Threads). value_of equal_thread ts n ≡ Some (st, WaitsFor (Cell c))) (sym (at_here a.threads i s.threads)) standing

  abbrev exchange : IsExchange p (a.eqs i) st c
  exchange = parts.waiting.exchanges i n st c at_site

  abbrev stack : Stack
  stack = stack_left p (a.eqs i) st exchange.1 v

  abbrev next : Site
  next = record s { threads = with_value equal_thread s.threads n (stack, site.Runs) }

  after : (t : State) × Exchanges p z n c exchange.0 stack t
  after = serve_step p a.eqs a.records (at_put a.threads i s.threads) a.counters a.mail z parts i n st c v sound at_site value home real

  parts_after : PartsOf p a i next.threads after.0
  parts_after = subst (λ (f : ℕ → Threads). PartsMatch p (here_at a.records) a.eqs a.records f a.counters a.mail after.0) (at_twice a.threads i s.threads _ ∙ ap (λ (ts : Threads). at_put a.threads i (with_value equal_thread ts n (stack, site.Runs))) (at_here a.threads i s.threads))
      (serve_parts p a.eqs a.records (at_put a.threads i s.threads) a.counters a.mail z parts i n st c v sound at_site value home real after.0 after.1)

  value_after : value_of equal_cell after.0.cells c ≡ Some exchange.0
  value_after = ap (λ (cells : List (CellName × VarName)). value_of equal_cell cells c) after.1.cells ∙ put_here z.cells c v exchange.0 value

  home_after : IsHere (a.records i) exchange.0
  home_after = new_home p a.eqs a.records (at_put a.threads i s.threads) a.counters a.mail z parts i n st c v sound at_site value home real

  sound_after : IsSound after.0.equations
  sound_after = subst IsSound (sym after.1.equations) sound

  now_runs : value_of equal_thread next.threads n ≡ Some (stack, site.Runs)
  now_runs = with_here equal_thread same_thread_decides s.threads n (stack, site.Runs) (st, WaitsFor (Cell c)) standing

  there : (m : ThreadName) → n ≢ m → value_of equal_thread next.threads m ≡ value_of equal_thread s.threads m
  there m d = with_there equal_thread same_thread_decides s.threads n m (stack, site.Runs) d

  abbrev rest_deed : Transition
  rest_deed = serving p c ns exchange.0 next

  first_then : Served p a i c ns exchange.0 next after.0 rest_deed → Served p a i c (n ∷ ns) v s z (and_then (with_pick next (record { thread = n; fresh = []; bind = None })) (serving p c ns exchange.0))
  first_then r = record {
    state = r.state;
    content = r.content;
    runs = (after.0, after.1.step, r.runs);
    parts = r.parts;
    value = r.value;
    others = λ b h. r.others b h ∙ ap (λ (cells : List (CellName × VarName)). value_of equal_cell cells b) after.1.cells ∙ put_there z.cells c b exchange.0 (cells_differ c b (λ e. h (sym e)));
    ports = r.ports ∙ after.1.ports;
    home = r.home;
    known = r.known ∙ after.1.equations;
    lines = r.lines ∙ after.1.lines;
    ended = r.ended ∙ after.1.ended;
    living = r.living ∙ ap length after.1.threads ∙ length-with_value equal_thread z.threads n stack;
    exchanged = counted;
    apart = λ b h. not_counted b h;
    place = r.place;
    cell_records = r.cell_records;
    equations = r.equations;
    records = r.records;
    managers = r.managers;
    counters = r.counters;
    totals = (r.totals.0, r.totals.1, r.totals.2 ∙ length-with_value equal_thread s.threads n (stack, site.Runs));
    done = λ m h. done m (Contains-cons_cases _ _ ns h);
    rest = λ m h. r.rest m (λ k. h (Contains-tail _ _ ns k)) ∙ there m (λ e. h (subst (λ (x : ThreadName). Contains (n ∷ ns) x) e (Contains-head n ns)));
    sent = r.sent;
    printed = r.printed;
  }
    where
      after_is : exchanges_from p c (model.next p z (plain_pick n)) rest_deed.picks ≡ exchanges_from p c after.0 rest_deed.picks
      after_is = ap (λ (y : State). exchanges_from p c y rest_deed.picks) (sym after.1.step.1)

      counted : length (exchange_in z c (effect_of p z (plain_pick n)).cell ++ exchanges_from p c (model.next p z (plain_pick n)) rest_deed.picks) ≡ suc (length ns)
      counted = ap length (ap (λ (y : CellChange). exchange_in z c y ++ exchanges_from p c (model.next p z (plain_pick n)) rest_deed.picks) after.1.effect)
          ∙ one (equal_cell c c) (cell_same c)
        where
          one : (b : Bool) → b ≡ true → length (cond b ((content_of z.cells c, exchange.0) ∷ []) [] ++ exchanges_from p c (model.next p z (plain_pick n)) rest_deed.picks) ≡ suc (length ns)
          one true e = ap suc (ap length after_is ∙ r.exchanged)
          one false e = cc

      not_counted : (b : CellName) → b ≢ c → exchange_in z b (effect_of p z (plain_pick n)).cell ++ exchanges_from p b (model.next p z (plain_pick n)) rest_deed.picks ≡ []
      not_counted b h = ap (λ (y : CellChange). exchange_in z b y ++ exchanges_from p b (model.next p z (plain_pick n)) rest_deed.picks) after.1.effect
          ∙ none (equal_cell c b) (cells_differ c b (λ e. h (sym e)))
        where
          none : (x : Bool) → x ≡ false → cond x ((content_of z.cells c, exchange.0) ∷ []) [] ++ exchanges_from p b (model.next p z (plain_pick n)) rest_deed.picks ≡ []
          none true e = cc
          none false e = ap (λ (y : State). exchanges_from p b y rest_deed.picks) (sym after.1.step.1) ∙ r.apart b h

      done : (m : ThreadName) → (n ≡ m) ⊎ Contains ns m → (q : Stack) × (value_of equal_thread rest_deed.site.threads m ≡ Some (q, site.Runs))
      done m (inl e) = (stack, subst (λ (x : ThreadName). value_of equal_thread rest_deed.site.threads x ≡ Some (stack, site.Runs)) e (r.rest n (λ k. each_differs ns n n off k refl) ∙ now_runs))
      done m (inr h) = r.done m h

  first_served : Served p a i c ns exchange.0 next after.0 rest_deed → Served p a i c (n ∷ ns) v s z (serving p c (n ∷ ns) v s)
  first_served r =
      subst (λ (u : Site). Served p a i c (n ∷ ns) v s z (and_then (with_pick u (record { thread = n; fresh = []; bind = None })) (serving p c ns (content_after_exchange p n v s)))) (sym (served_site p n v s st c (a.eqs i) eqs exchange standing))
      (subst (λ (x : VarName). Served p a i c (n ∷ ns) v s z (and_then (with_pick next (record { thread = n; fresh = []; bind = None })) (serving p c ns x))) (sym (served_content p n v s st c (a.eqs i) eqs exchange standing))
      (first_then r))

pub serve_all : (p : List Stmt) (a : Around) (i : ℕ) (c : CellName) (ns : List ThreadName) (v : VarName) (s : Site) (z : State) → PartsOf p a i s.threads z → IsSound z.equations → a.eqs i ≡ s.equations → value_of equal_cell z.cells c ≡ Some v → IsHere (a.records i) v → i ≢ 0 →
    AreDistinct ns → ((n : ThreadName) → Contains ns n → (st : Stack) × (value_of equal_thread s.threads n ≡ Some (st, WaitsFor (Cell c)))) → Served p a i c ns v s z (serving p c ns v s)
serve_all p a i c [] v s z parts sound eqs value home real distinct waits = record {
  state = z;
  content = v;
  runs = refl;
  parts = parts;
  value = value;
  others = λ b h. refl;
  ports = refl;
  home = home;
  known = refl;
  lines = refl;
  ended = refl;
  living = refl;
  exchanged = refl;
  apart = λ b h. refl;
  place = place_here s.cell_records c _;
  cell_records = λ b h. place_other s.cell_records c b _ h;
  equations = refl;
  records = refl;
  managers = refl;
  counters = refl;
  totals = (refl, refl, refl);
  done = λ n h. absurd (nothing _ h);
  rest = λ n h. refl;
  sent = refl;
  printed = refl;
}
serve_all p a i c (n ∷ ns) v s z parts sound eqs value home real distinct waits =
    let k = waits n (Contains-head n ns) in
    first_served p a i c n ns v s z parts sound eqs value home real distinct.0 k.0 k.1
    (serve_all p a i c ns (exchange p a i c n ns v s z parts sound eqs value home real distinct.0 k.0 k.1).0 (next p a i c n ns v s z parts sound eqs value home real distinct.0 k.0 k.1) (after p a i c n ns v s z parts sound eqs value home real distinct.0 k.0 k.1).0
    (parts_after p a i c n ns v s z parts sound eqs value home real distinct.0 k.0 k.1) (sound_after p a i c n ns v s z parts sound eqs value home real distinct.0 k.0 k.1) eqs (value_after p a i c n ns v s z parts sound eqs value home real distinct.0 k.0 k.1)
    (home_after p a i c n ns v s z parts sound eqs value home real distinct.0 k.0 k.1) real distinct.1
    (λ m h. let w = waits m (Contains-tail _ _ ns h) in (w.0, there p a i c n ns v s z parts sound eqs value home real distinct.0 k.0 k.1 m (each_differs ns n m distinct.0 h) ∙ w.1)))
