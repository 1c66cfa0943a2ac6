-- A Put comes: all that wait exchange, as steps of the centralised machine, and the token leaves where it may.
use Rattle.std.proofs.Common.{◌≡◌, ◌∙◌, sym, ap, refl, subst, ℕ, List, [], ◌∷◌, ◌++◌, append-nil, length, ◌⊎◌, inl, inr, Some, None}
use Rattle.std.specs.Prelude.{Option, Contains, ◌≢◌}
use Rattle.std.specs.Map.{lookup}
use Rattle.tree_node.specs.declared.names.VarName.{VarName}
use Rattle.tree_node.specs.declared.names.CellName.{CellName}
use Rattle.tree_node.specs.declared.names.ThreadName.{ThreadName}
use Rattle.tree_node.specs.declared.names.Name.TheVariants as name
use Rattle.tree_node.specs.declared.node.Term.{Term}
use Rattle.tree_node.specs.declared.pick.Pick.{Pick}
use Rattle.tree_node.specs.Assoc.{value_of}
use Rattle.tree_node.specs.Each.{Each}
use Rattle.tree_node.specs.Goal.{equal_cell}
use Rattle.tree_node.specs.State.{Stack, State, equal_thread}
use Rattle.tree_node.specs.Store.{Store, Equation, IsSound}
use Rattle.tree_node.proofs.ClassLemmas.{Contains-cons_cases, Contains-head, Contains-tail}
use Rattle.kernel_syntax.specs.declared.stmt.Stmt.{Stmt}
use Rattle.site_message.specs.declared.message.Msg.{Msg}
use Rattle.site_message.specs.declared.message.Msg.TheVariants as msg
use Rattle.site_message.specs.declared.message.Sent.{Sent}
use Rattle.oz_model.specs.Run.{IsRun, exchanges_from}
use Rattle.bind_protocol.specs.Records.{Records}
use Rattle.token_chain.specs.declared.token.Token.TheVariants.{Here}
use Rattle.token_chain.specs.Holding.{Holding}
use Rattle.token_chain.specs.Mail.{Put, sent_count}
use Rattle.token_chain.specs.Rows.{leave_with, leave_reply, put_reply}
use Rattle.token_chain.proofs.MoveLemmas.{messages_can_come, put_keeps}
use Rattle.site_model.specs.Site.{Site, Threads, Counters, CellRecord, cell_record}
use Rattle.thread_roster.specs.declared.mode.Awaited.TheVariants.{Cell}
use Rattle.thread_roster.specs.declared.mode.Mode.TheVariants.{WaitsFor}
use Rattle.site_model.specs.Transition.{Transition}
use Rattle.site_model.specs.Cells.{leave_row, serving, put_row}
use Rattle.world_model.specs.World.{World, IsOnItsWay, after_transition, after_receipt, without_number, mail_from, at_put, eqs, records, threads, counters}
use Rattle.world_model.specs.Names.{IsHere, AreContentsHome, here_at}
use Rattle.world_model.proofs.CellLemmas.{OnlyCells, leave_only, leave_each, from_each}
use Rattle.world_cells.specs.CellCounts.{cell_weights}
use Rattle.world_model.specs.Chain.{AreGetsAddressed}
use Rattle.world_model.specs.Matches.{PartsMatch, IsQueue, CellsMatch}
use Rattle.world_model.proofs.PutLemmas.{at_all, at_own}
use Rattle.world_model.proofs.MailLemmas.{nothing, sent_to}
use Rattle.world_variables.proofs.RegisterLemmas.{MayGo, parts_posts, parts_gone}
use Rattle.world_variables.proofs.RowLemmas.{to_put}
use Rattle.world_cells.proofs.TallyLemmas.{OneOfNumber}
use Rattle.world_cells.proofs.ReplyLemmas.{Answers, leave_answers, from_held}
use Rattle.world_cells.proofs.SendLemmas.{leave_may}
use Rattle.world_cells.proofs.ChainLemmas.{gets_posts, gets_gone, tally, CellsAt, ChainAt, cell_there, row_cells, put_arrives, arrives_there, arrives_here, arrives_other, last_same}
use Rattle.world_cells.proofs.QueueLemmas.{SameWaiters, queue_same, queues_put, one_list_stays, waiters_equal, leave_queue, running_not, waits_same}
use Rattle.world_cells.proofs.UnitQueueLemmas.{Lists}
use Rattle.world_cells.proofs.ServeAllLemmas.{Around, PartsOf, Served, serve_all}
use Rattle.world_variables.specs.Laws.{PartsIn}
use Rattle.thread_roster.proofs.NameLemmas.{name_cases as thread_or}
use Rattle.oz_model.proofs.KindLemmas.{cell_cases}
use Rattle.world_model.proofs.MobileLemmas.{mobile_at, mobile_has, mobile_others}
use Rattle.world_model.specs.Chain.{mobile_cells}

-- ---- lists

in_or : (ns : List ThreadName) (m : ThreadName) → Contains ns m ⊎ (Contains ns m → ⊥)
in_or [] m = inr (nothing m)
in_or (n ∷ ns) m = go (thread_or n m) (in_or ns m)
  where
    go : (n ≡ m) ⊎ (n ≢ m) → Contains ns m ⊎ (Contains ns m → ⊥) → Contains (n ∷ ns) m ⊎ (Contains (n ∷ ns) m → ⊥)
    go (inl e) o = inl (subst (λ (x : ThreadName). Contains (n ∷ ns) x) e (Contains-head n ns))
    go (inr d) (inl h) = inl (Contains-tail _ _ ns h)
    go (inr d) (inr h) = inr (λ k. out (Contains-cons_cases _ _ ns k))
      where
        out : (n ≡ m) ⊎ Contains ns m → ⊥
        out (inl e) = d e
        out (inr q) = h q

-- where a token that came with this content still is, it has it
stays_content : (h : Holding) (v u : VarName) (o : Option (ℕ × VarName)) → h.token ≡ Here v → (leave_with h o).held.token ≡ Here u → u ≡ v
stays_content h v u None e f = cc
stays_content h v u (Some q) e f = cc

pub leave_lists : (limit : ℕ) (c : CellName) (s : Site) → Lists s → Lists (leave_row limit c s).site
leave_lists limit c s all = one_list_stays c s (leave_row limit c s) all (leave_queue limit c s) (leave_answers limit c s).others (λ b. waiters_equal _ _ b refl)

-- ---- all were served

module _ (p : List Stmt) (a : Around) (i : ℕ) (c : CellName) (v : VarName) (s : Site) (z : State) (d : Transition) (r : Served p a i c (cell_record s c).queue v s z d) (all : Lists s) where
  nobody_left : (m : ThreadName) (st : Stack) → value_of equal_thread d.site.threads m ≡ Some (st, WaitsFor (Cell c)) → ⊥
  nobody_left m st h = go (in_or (cell_record s c).queue m)
    where
      go : Contains (cell_record s c).queue m ⊎ (Contains (cell_record s c).queue m → ⊥) → ⊥
      go (inl k) = let q = r.done m k in running_not q.0 st (Cell c) (sym q.1 ∙ h)
      go (inr k) = k ((all c).listed m st (sym (r.rest m k) ∙ h))

  same_waiters : (b : CellName) → b ≢ c → SameWaiters s.threads d.site.threads (Cell b)
  same_waiters b other = record { old = λ m st h. old m st h (in_or (cell_record s c).queue m); new = λ m st h. new m st h (in_or (cell_record s c).queue m) }
    where
      old : (m : ThreadName) (st : Stack) → value_of equal_thread d.site.threads m ≡ Some (st, WaitsFor (Cell b)) → Contains (cell_record s c).queue m ⊎ (Contains (cell_record s c).queue m → ⊥) → value_of equal_thread s.threads m ≡ Some (st, WaitsFor (Cell b))
      old m st h (inl k) = let q = r.done m k in absurd (running_not q.0 st (Cell b) (sym q.1 ∙ h))
      old m st h (inr k) = sym (r.rest m k) ∙ h

      new : (m : ThreadName) (st : Stack) → value_of equal_thread s.threads m ≡ Some (st, WaitsFor (Cell b)) → Contains (cell_record s c).queue m ⊎ (Contains (cell_record s c).queue m → ⊥) → value_of equal_thread d.site.threads m ≡ Some (st, WaitsFor (Cell b))
      new m st h (inl k) = let q = (all c).stand m k in absurd (other (waits_same st q.0 b c (sym h ∙ q.1)))
      new m st h (inr k) = r.rest m k ∙ h

  pub served_lists : Lists d.site
  served_lists b = go (cell_cases b c)
    where
      empty : IsQueue (record { held = record (cell_record s c).held { token = Here r.content; waiting = 0 }; queue = [] }) d.site.threads c
      empty = record {
        once = tt;
        long = refl;
        stand = λ m h. absurd (nothing m h);
        listed = λ m st h. absurd (nobody_left m st h);
      }

      go : (b ≡ c) ⊎ (b ≢ c) → IsQueue (cell_record d.site b) d.site.threads b
      go (inl e) = subst (λ (x : CellName). IsQueue (cell_record d.site x) d.site.threads x) (sym e) (subst (λ (q : CellRecord). IsQueue q d.site.threads c) (sym r.place) empty)
      go (inr other) = let q = r.cell_records b other in
          queue_same (cell_record s b) (cell_record d.site b) s.threads d.site.threads b (ap (λ (x : CellRecord). x.queue) q) (ap (λ (x : CellRecord). x.held.waiting) q) (same_waiters b other) (all b)

-- ---- the row

pub record PutRow (p : List Stmt) (limit : ℕ) (w : World) (z : State) (k i : ℕ) (c : CellName) (v : VarName) (t : World) : Type 0 where
  pub state : State
  pub runs : IsRun p z (put_row p limit c v (w.sites i)).picks state
  pub parts : PartsIn p (here_at (records w.sites)) t state
  pub cells : CellsMatch t state
  pub lines : (state.lines ≡ z.lines) × ((put_row p limit c v (w.sites i)).lines ≡ [])
  pub totals : (state.ended ≡ z.ended) × (length state.threads ≡ length z.threads)
  pub content : VarName
  pub keeps : (put_row p limit c v (w.sites i)).site.records ≡ (w.sites i).records
  pub answers : Answers c (put_reply (cell_record (w.sites i) c).held content) (w.sites i) (put_row p limit c v (w.sites i))
  pub managers : (put_row p limit c v (w.sites i)).site.managers ≡ (w.sites i).managers
  pub value : value_of equal_cell (mobile_cells state.cells) c ≡ Some content
  pub values : (b : CellName) → b ≢ c → value_of equal_cell (mobile_cells state.cells) b ≡ value_of equal_cell (mobile_cells z.cells) b
  pub ports : state.ports ≡ z.ports
  pub stationary : (b : CellName) → b.at ≢ 0 → value_of equal_cell state.cells b ≡ value_of equal_cell z.cells b
  pub exchanged : length (exchanges_from p c z (put_row p limit c v (w.sites i)).picks) ≡ length (cell_record (w.sites i) c).queue
  pub apart : (b : CellName) → b ≢ c → exchanges_from p b z (put_row p limit c v (w.sites i)).picks ≡ []
  pub site : ((put_row p limit c v (w.sites i)).site.ended ≡ (w.sites i).ended) × ((put_row p limit c v (w.sites i)).site.steps ≡ (w.sites i).steps) × (length (put_row p limit c v (w.sites i)).site.threads ≡ length (w.sites i).threads)

-- a message of a cell may go
abbrev pub IsOfCell : Msg → Type 0
IsOfCell (msg.Get c k) = Unit {0}
IsOfCell (msg.Forward c k) = Unit {0}
IsOfCell (msg.Put c v bundle) = Unit {0}
IsOfCell m = ⊥

abbrev pub OneMessage : World → ℕ → Type 0
OneMessage w k = (a b : ℕ) (m o : Msg) → IsOnItsWay w.mail k a m → IsOnItsWay w.mail k b o → (a ≡ b) × (m ≡ o)

pub one_number : (w : World) (k i : ℕ) (x : Msg) → IsOnItsWay w.mail k i x → OneMessage w k → OneOfNumber w.mail k (sent_to i x)
one_number w k i x h once o q = let e = once o.to i o.msg x q h in rw (e.0, e.1) refl

pub cell_may_go : (w : World) (z : State) (k i : ℕ) (x : Msg) → IsOfCell x → IsOnItsWay w.mail k i x → OneMessage w k → MayGo (records w.sites) z.equations k w.mail (without_number k w.mail)
cell_may_go w z k i x of h once = record {
  told = λ to m q j y unbound far why. absurd (told to m q j y why);
  bound = λ to y t n b q. absurd (subst IsOfCell (sym (is_it to (msg.BindReq y n t b) q)) of);
  none = λ to n code vars b q. subst IsOfCell (sym (is_it to (msg.Spawn n code vars b) q)) of;
}
  where
    is_it : (to : ℕ) (m : Msg) → IsOnItsWay w.mail k to m → m ≡ x
    is_it to m q = (once to i m x q h).1

    told : (to : ℕ) (m : Msg) → IsOnItsWay w.mail k to m → (j : ℕ) (y : VarName) → ((m ≡ msg.Register y j) ⊎ ((to ≡ j) × ((t : Term) × (b : List Equation) × (m ≡ msg.Binding y t b)))) → ⊥
    told to m q j y (inl e) = subst IsOfCell e (subst IsOfCell (sym (is_it to m q)) of)
    told to m q j y (inr (f, (t, b, e))) = subst IsOfCell e (subst IsOfCell (sym (is_it to m q)) of)

-- at a real site what is here is known
pub at_real_site : (records : ℕ → Records) (i : ℕ) (x : VarName) → i ≢ 0 → here_at records i (name.Var x) → IsHere (records i) x
at_real_site records i x real (inl h) = h
at_real_site records i x real (inr zero) = absurd (real zero)

module _ (p : List Stmt) (limit : ℕ) (w : World) (z : State) (k i : ℕ) (c : CellName) (v : VarName) (bundle : List Equation) (parts : PartsIn p (here_at (records w.sites)) w z) (x : CellsMatch w z) (sound : IsSound z.equations)
    (h : IsOnItsWay w.mail k i (msg.Put c v bundle)) (once : OneMessage w k) (home : IsHere (records w.sites i) v) (real : i ≢ 0) where
  one : OneOfNumber w.mail k (sent_to i (msg.Put c v bundle))
  one = one_number w k i (msg.Put c v bundle) h once

  abbrev around : Around
  around = record { eqs = eqs w.sites; records = records w.sites; threads = threads w.sites; counters = counters w.sites; mail = without_number k w.mail }

  parts_before : PartsOf p around i (w.sites i).threads z
  parts_before = subst (λ (f : ℕ → Threads). PartsMatch p (here_at (records w.sites)) (eqs w.sites) (records w.sites) f (counters w.sites) (without_number k w.mail) z) (sym (at_own (threads w.sites) i))
      (parts_gone p (here_at (records w.sites)) (eqs w.sites) (records w.sites) (threads w.sites) (counters w.sites) w.mail z parts k (cell_may_go w z k i (msg.Put c v bundle) tt h once))

  there : tally c w.mail (Put i v) ≢ 0
  there = arrives_there w k i (msg.Put c v bundle) c (Put i v) (put_arrives w k i c v bundle h one)

  cell : (u : VarName) × (value_of equal_cell (mobile_cells z.cells) c ≡ Some u) × ChainAt w.sites w.mail c u
  cell = cell_there w.sites w.mail (mobile_cells z.cells) c (Put i v) x.cells there

  mobile : c.at ≡ 0
  mobile = (mobile_has z.cells c cell.0 cell.1).0

  value : value_of equal_cell z.cells c ≡ Some v
  value = (mobile_has z.cells c cell.0 cell.1).1 ∙ ap Some (sym (messages_can_come cell.2.0 _ _ cell.0 cell.2.2 (Put i v) there).1.1)

  served : Served p around i c (cell_record (w.sites i) c).queue v (w.sites i) z (serving p c (cell_record (w.sites i) c).queue v (w.sites i))
  served = serve_all p around i c (cell_record (w.sites i) c).queue v (w.sites i) z parts_before sound refl value home real (x.queues i c).once (λ n q. (x.queues i c).stand n q)

  abbrev first : Transition
  first = serving p c (cell_record (w.sites i) c).queue v (w.sites i)

  abbrev second : Transition
  second = leave_row limit c first.site

  abbrev whole : Transition
  whole = put_row p limit c v (w.sites i)

  answers : Answers c (put_reply (cell_record (w.sites i) c).held served.content) (w.sites i) whole
  answers =
      let q = from_held c _ _ (w.sites i) first.site second (ap (λ (y : CellRecord). leave_reply y.held) served.place) served.cell_records (leave_answers limit c first.site) in
      record {
        held = q.held;
        others = q.others;
        sent = λ m. ap (λ (l : List Sent). sent_count c (l ++ second.sent) m) served.sent ∙ q.sent m;
        silent = λ b d m. ap (λ (l : List Sent). sent_count b (l ++ second.sent) m) served.sent ∙ q.silent b d m;
        kinds = λ g f u. ap (λ (l : List Sent). cell_weights c g f u (l ++ second.sent)) served.sent ∙ q.kinds g f u;
        no_kinds = λ b d g f u. ap (λ (l : List Sent). cell_weights b g f u (l ++ second.sent)) served.sent ∙ q.no_kinds b d g f u;
      }

  same_managers : whole.site.managers ≡ (w.sites i).managers
  same_managers = served.managers

  value_then : value_of equal_cell (mobile_cells served.state.cells) c ≡ Some served.content
  value_then = mobile_at served.state.cells c mobile ∙ served.value

  others_then : (b : CellName) → b ≢ c → value_of equal_cell (mobile_cells served.state.cells) b ≡ value_of equal_cell (mobile_cells z.cells) b
  others_then b other = mobile_others z.cells served.state.cells b (served.others b other)

  cells_after : CellsAt (after_transition (after_receipt (Some k) w) i whole).sites (after_transition (after_receipt (Some k) w) i whole).mail (mobile_cells served.state.cells)
  cells_after =
      let y = put_arrives w k i c v bundle h one in
      row_cells (after_receipt (Some k) w) w.mail i c (Put i v ∷ []) (mobile_cells z.cells) (mobile_cells served.state.cells) whole _ x.cells (arrives_here w k i _ c (Put i v) cell.0 y cell.2) (arrives_other w k i _ c (Put i v) y) answers
      (λ b e. ap (lookup (equal_cell b)) same_managers) others_then served.content value_then
      (λ replies. (
        cell.2.0,
        last_same w.sites i whole.site c (ap (lookup (equal_cell c)) same_managers) ∙ cell.2.1,
        put_keeps cell.2.0 _ _ _ _ cell.0 v served.content i cell.2.2 there replies,
      ))

  lists_after : Lists whole.site
  lists_after = leave_lists limit c first.site (served_lists p around i c v (w.sites i) z first served (x.queues i))

  contents_after : AreContentsHome (w.sites i).records whole.site.cell_records
  contents_after b u e = go (cell_cases b c)
    where
      go : (b ≡ c) ⊎ (b ≢ c) → IsHere (w.sites i).records u
      go (inl q) =
          let at : (cell_record second.site c).held.token ≡ Here u = subst (λ (y : CellName). (cell_record second.site y).held.token ≡ Here u) q e in
          let same : u ≡ served.content = stays_content (cell_record first.site c).held served.content u _ (ap (λ (y : CellRecord). y.held.token) served.place) (sym (ap (λ (y : Holding). y.token) (leave_answers limit c first.site).held) ∙ at) in
          subst (λ (y : VarName). IsHere (w.sites i).records y) (sym same) served.home
      go (inr d) = x.contents i b u (sym (ap (λ (y : CellRecord). y.held.token) ((leave_answers limit c first.site).others b d ∙ served.cell_records b d)) ∙ e)

  came_content : (u : VarName) → Here served.content ≡ Here u → u ≡ served.content
  came_content u e = cc

  no_get : Each (λ (o : Sent). (b : CellName) (a : ℕ) → o.msg ≡ msg.Get b a → ⊥) second.sent
  no_get = leave_each (λ (o : Sent). (b : CellName) (a : ℕ) → o.msg ≡ msg.Get b a → ⊥) limit c first.site.equations (cell_record first.site c).held (λ j u e b a q. absurd (cc))

  gets_after : AreGetsAddressed (without_number k w.mail ++ mail_from w.sent whole.sent)
  gets_after = subst (λ (l : List Sent). AreGetsAddressed (without_number k w.mail ++ mail_from w.sent (l ++ second.sent))) (sym served.sent)
      (gets_posts (without_number k w.mail) w.sent second.sent (gets_gone k w.mail x.gets) (λ to b a q. absurd (from_each (λ (to : ℕ) (m : Msg). (b : CellName) (a : ℕ) → m ≡ msg.Get b a → ⊥) _ no_get to (msg.Get b a) q b a refl)))

  only : OnlyCells first.site second
  only = leave_only limit c first.site

  parts_after : PartsIn p (here_at (records w.sites)) (after_transition (after_receipt (Some k) w) i whole) served.state
  parts_after = to_put p (here_at (records w.sites)) w.sites i whole.site _ served.state
      (subst (λ (l : List Sent). PartsMatch p (here_at (records w.sites)) (at_put (eqs w.sites) i whole.site.equations) (at_put (records w.sites) i whole.site.records) (at_put (threads w.sites) i whole.site.threads) (at_put (counters w.sites) i whole.site.counters) (without_number k w.mail ++ mail_from w.sent (l ++ second.sent)) served.state) (sym served.sent)
      (subst (λ (f : ℕ → Store). PartsMatch p (here_at (records w.sites)) f (at_put (records w.sites) i whole.site.records) (at_put (threads w.sites) i whole.site.threads) (at_put (counters w.sites) i whole.site.counters) (without_number k w.mail ++ mail_from w.sent second.sent) served.state) (sym (ap (at_put (eqs w.sites) i) (only.equations ∙ served.equations) ∙ at_own (eqs w.sites) i))
      (subst (λ (f : ℕ → Records). PartsMatch p (here_at (records w.sites)) (eqs w.sites) f (at_put (threads w.sites) i whole.site.threads) (at_put (counters w.sites) i whole.site.counters) (without_number k w.mail ++ mail_from w.sent second.sent) served.state) (sym (ap (at_put (records w.sites) i) (only.records ∙ served.records) ∙ at_own (records w.sites) i))
      (subst (λ (f : ℕ → Counters). PartsMatch p (here_at (records w.sites)) (eqs w.sites) (records w.sites) (at_put (threads w.sites) i whole.site.threads) f (without_number k w.mail ++ mail_from w.sent second.sent) served.state) (sym (ap (at_put (counters w.sites) i) (only.counters ∙ served.counters) ∙ at_own (counters w.sites) i))
      (subst (λ (ts : Threads). PartsMatch p (here_at (records w.sites)) (eqs w.sites) (records w.sites) (at_put (threads w.sites) i ts) (counters w.sites) (without_number k w.mail ++ mail_from w.sent second.sent) served.state) (sym only.threads)
      (parts_posts p (here_at (records w.sites)) (eqs w.sites) (records w.sites) (at_put (threads w.sites) i first.site.threads) (counters w.sites) (without_number k w.mail) served.state served.parts w.sent second.sent
      (leave_may p (here_at (records w.sites)) (eqs w.sites) (records w.sites) (at_put (threads w.sites) i first.site.threads) (counters w.sites) (without_number k w.mail) served.state served.parts limit i c first.site.equations served.content served.equations served.value (cell_record first.site c).held (λ u e. came_content u (sym (ap (λ (y : CellRecord). y.held.token) served.place) ∙ e)))))))))

  picks_are : whole.picks ≡ first.picks
  picks_are = ap (λ (l : List Pick). first.picks ++ l) only.picks ∙ append-nil first.picks

  pub put_kept : PutRow p limit w z k i c v (after_transition (after_receipt (Some k) w) i whole)
  put_kept = record {
    state = served.state;
    runs = subst (λ (l : List Pick). IsRun p z (first.picks ++ l) served.state) (sym only.picks) (subst (λ (l : List Pick). IsRun p z l served.state) (sym (append-nil first.picks)) served.runs);
    parts = parts_after;
    cells = record {
      queues = queues_put w.sites i whole.site x.queues lists_after;
      cells = cells_after;
      gets = gets_after;
      contents = at_all w.sites i whole.site (λ (j : ℕ) (y : Site). AreContentsHome y.records y.cell_records) (subst (λ (b : Records). AreContentsHome b whole.site.cell_records) (sym (only.records ∙ served.records)) contents_after) (λ j other. x.contents j);
    };
    lines = (served.lines, ap (λ (l : List (List ℕ)). l ++ second.lines) served.printed ∙ only.lines);
    totals = (served.ended, served.living);
    content = served.content;
    keeps = only.records ∙ served.records;
    answers = answers;
    managers = same_managers;
    value = value_then;
    values = others_then;
    ports = served.ports;
    stationary = λ b far. served.others b (λ e. far (ap (λ (x : CellName). x.at) e ∙ mobile));
    exchanged = ap (λ (l : List Pick). length (exchanges_from p c z l)) picks_are ∙ served.exchanged;
    apart = λ b d. ap (exchanges_from p b z) picks_are ∙ served.apart b d;
    site = (only.ended ∙ served.totals.0, only.steps ∙ served.totals.1, ap length only.threads ∙ served.totals.2);
  }
