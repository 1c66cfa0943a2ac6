-- The rows Get and Forward, and a thread that asks for the token: all that is kept is kept.
use Rattle.std.proofs.Common.{◌≡◌, ◌∙◌, sym, ap, refl, subst, ℕ, List, ◌++◌, ◌⊎◌, inl, inr, true, false, Some}
use Rattle.std.specs.Prelude.{◌≢◌, ◌==◌}
use Rattle.tree_node.specs.declared.names.VarName.{VarName}
use Rattle.tree_node.specs.declared.names.CellName.{CellName}
use Rattle.tree_node.specs.declared.names.ThreadName.{ThreadName}
use Rattle.tree_node.specs.Assoc.{value_of, with_value}
use Rattle.tree_node.specs.Each.{Each}
use Rattle.tree_node.specs.Goal.{equal_cell}
use Rattle.tree_node.specs.State.{Stack, State, equal_thread}
use Rattle.tree_node.specs.Store.{Store}
use Rattle.kernel_syntax.specs.declared.stmt.Stmt.{Stmt}
use Rattle.site_message.specs.declared.message.Msg.{Msg}
use Rattle.site_message.specs.declared.message.Msg.TheVariants as msg
use Rattle.site_message.specs.declared.message.Sent.{Sent}
use Rattle.bind_protocol.specs.Records.{Records}
use Rattle.token_chain.specs.declared.token.Token.TheVariants.{Here}
use Rattle.token_chain.specs.Holding.{Holding}
use Rattle.token_chain.specs.Mail.{Get, Forward}
use Rattle.token_chain.specs.Rows.{Reply, leave_reply, forward_reply, get_reply, exchange_reply}
use Rattle.token_chain.proofs.MoveLemmas.{tokens_have_contents}
use Rattle.site_model.specs.Site.{Site, Threads, Counters, CellRecord, cell_record}
use Rattle.thread_roster.specs.declared.mode.Awaited.TheVariants.{Cell}
use Rattle.thread_roster.specs.declared.mode.Mode.TheVariants.{Runs, WaitsFor}
use Rattle.site_model.specs.Transition.{Transition}
use Rattle.site_model.specs.Cells.{last_before, with_last_asker, forward_row, get_row, with_exchange_waiting, request_row}
use Rattle.world_model.specs.World.{World, Sites, Mail, IsOnItsWay, after_transition, after_receipt, put, without_number, mail_from, at_put, eqs, records, threads, cell_records, counters}
use Rattle.world_model.specs.Names.{IsHere, AreContentsHome, ContentsHome, here_at}
use Rattle.world_model.specs.Matches.{PartsMatch, CellsMatch, IsExchange}
use Rattle.world_model.proofs.PutLemmas.{at_all, at_own, nat_decides}
use Rattle.world_variables.proofs.RegisterLemmas.{MaySend, parts_posts, parts_gone}
use Rattle.world_variables.proofs.RowLemmas.{to_put}
use Rattle.world_variables.proofs.ModeLemmas.{mode_parts}
use Rattle.world_model.proofs.CellLemmas.{OnlyCells, letters, forward_only, get_only, request_only, leave_each, get_each, request_each, get_keeps, leave_keeps, request_keeps, from_each}
use Rattle.world_cells.proofs.ReplyLemmas.{Answers, reply_answers, forward_answers, request_answers}
use Rattle.world_cells.proofs.SendLemmas.{leave_may, reply_may, request_may}
use Rattle.world_cells.proofs.ChainLemmas.{gets_posts, gets_gone, ChainAt, cell_there, get_arrives, forward_arrives, arrives_there, get_cells, forward_cells, request_cells}
use Rattle.world_cells.proofs.QueueLemmas.{queues_put, forward_lists, get_lists, request_lists}
use Rattle.world_cells.proofs.PutRowLemmas.{OneMessage, one_number, cell_may_go}
use Rattle.world_variables.specs.Laws.{PartsIn}
use Rattle.oz_model.proofs.KindLemmas.{cell_cases}
use Rattle.world_model.proofs.MobileLemmas.{mobile_at, mobile_has}
use Rattle.world_model.specs.Chain.{mobile_cells}

-- ---- a deed that changes what is kept of cells alone

pub only_parts : (p : List Stmt) (w : World) (i : ℕ) (d : Transition) (mail : Mail) (z : State) → PartsMatch p (here_at (records w.sites)) (eqs w.sites) (records w.sites) (threads w.sites) (counters w.sites) mail z → OnlyCells (w.sites i) d →
    MaySend p (eqs w.sites) (records w.sites) (threads w.sites) (counters w.sites) z.equations d.sent → PartsIn p (here_at (records w.sites)) (after_transition (record w { mail = mail }) i d) z
only_parts p w i d mail z parts only may = to_put p (here_at (records w.sites)) w.sites i d.site (mail ++ mail_from w.sent d.sent) z
    (subst (λ (f : ℕ → Store). PartsMatch p (here_at (records w.sites)) f (at_put (records w.sites) i d.site.records) (at_put (threads w.sites) i d.site.threads) (at_put (counters w.sites) i d.site.counters) (mail ++ mail_from w.sent d.sent) z) (sym (ap (at_put (eqs w.sites) i) only.equations ∙ at_own (eqs w.sites) i))
    (subst (λ (f : ℕ → Records). PartsMatch p (here_at (records w.sites)) (eqs w.sites) f (at_put (threads w.sites) i d.site.threads) (at_put (counters w.sites) i d.site.counters) (mail ++ mail_from w.sent d.sent) z) (sym (ap (at_put (records w.sites) i) only.records ∙ at_own (records w.sites) i))
    (subst (λ (f : ℕ → Threads). PartsMatch p (here_at (records w.sites)) (eqs w.sites) (records w.sites) f (at_put (counters w.sites) i d.site.counters) (mail ++ mail_from w.sent d.sent) z) (sym (ap (at_put (threads w.sites) i) only.threads ∙ at_own (threads w.sites) i))
    (subst (λ (f : ℕ → Counters). PartsMatch p (here_at (records w.sites)) (eqs w.sites) (records w.sites) (threads w.sites) f (mail ++ mail_from w.sent d.sent) z) (sym (ap (at_put (counters w.sites) i) only.counters ∙ at_own (counters w.sites) i))
    (parts_posts p (here_at (records w.sites)) (eqs w.sites) (records w.sites) (threads w.sites) (counters w.sites) mail z parts w.sent d.sent may)))))

pub contents_put : (f : Sites) (i : ℕ) (s : Site) → ContentsHome (records f) (cell_records f) → s.records ≡ (f i).records → ((b : CellName) (u : VarName) → (cell_record s b).held.token ≡ Here u → (cell_record (f i) b).held.token ≡ Here u) →
    ContentsHome (records (put f i s)) (cell_records (put f i s))
contents_put f i s all e same = at_all f i s (λ (j : ℕ) (y : Site). AreContentsHome y.records y.cell_records) (λ b u h. subst (λ (r : Records). IsHere r u) (sym e) (all i b u (same b u h))) (λ j other. all j)

-- ---- tokens that are here were here

forward_here : (h : Holding) (k : ℕ) (u : VarName) → (forward_reply h k).held.token ≡ Here u → h.token ≡ Here u
forward_here h k u e = leave_keeps (record h { next = Some k }) u e

request_here : (manager last i : ℕ) (new : VarName) (h : Holding) → ((u : VarName) → h.token ≢ Here u) → (u : VarName) → (exchange_reply manager last i new h).held.token ≡ Here u → h.token ≡ Here u
request_here manager last i new h elsewhere u e = absurd (request_keeps manager last i new h u elsewhere e)

answers_here : (c : CellName) (r : Reply) (s : Site) (d : Transition) → Answers c r s d → ((u : VarName) → r.held.token ≡ Here u → (cell_record s c).held.token ≡ Here u) → (b : CellName) (u : VarName) → (cell_record d.site b).held.token ≡ Here u → (cell_record s b).held.token ≡ Here u
answers_here c r s d a same b u h = go (cell_cases b c)
  where
    go : (b ≡ c) ⊎ (b ≢ c) → (cell_record s b).held.token ≡ Here u
    go (inl e) = subst (λ (x : CellName). (cell_record s x).held.token ≡ Here u) (sym e) (same u (sym (ap (λ (x : Holding). x.token) a.held) ∙ subst (λ (x : CellName). (cell_record d.site x).held.token ≡ Here u) e h))
    go (inr n) = sym (ap (λ (q : CellRecord). q.held.token) (a.others b n)) ∙ h

-- ---- which messages are sent: no Get but a request's

abbrev NoGet : Sent → Type 0
NoGet o = (b : CellName) (a : ℕ) → o.msg ≡ msg.Get b a → ⊥

abbrev GetHome : Sent → Type 0
GetHome o = (b : CellName) (a : ℕ) → o.msg ≡ msg.Get b a → (o.to ≡ b.site) × (a ≢ b.site)

no_get_leave : (limit : ℕ) (c : CellName) (s : Store) (h : Holding) → Each NoGet (letters limit c s (leave_reply h).sent)
no_get_leave limit c s h = leave_each NoGet limit c s h (λ k u e b a q. absurd (cc))

no_get_reply : (limit : ℕ) (c : CellName) (s : Store) (manager last k : ℕ) (h : Holding) → Each NoGet (letters limit c s (get_reply manager last k h).sent)
no_get_reply limit c s manager last k h = get_each NoGet limit c s manager last k h (λ j u e b a q. absurd (cc)) (λ b a q. absurd (cc))

get_home : (limit : ℕ) (c : CellName) (s : Store) (last i : ℕ) (new : VarName) (h : Holding) → Each GetHome (letters limit c s (exchange_reply c.site last i new h).sent)
get_home limit c s last i new h = request_each GetHome limit c s c.site last i new h (λ b a q. absurd (cc)) is_get
  where
    is_get : (i == c.site) ≡ false → (b : CellName) (a : ℕ) → msg.Get c i ≡ msg.Get b a → (c.site ≡ b.site) × (a ≢ b.site)
    is_get far b a e =
        let cell : c ≡ b = cc in
        let asker : i ≡ a = cc in
        (ap (λ (y : CellName). y.site) cell, (λ q. let same : (i == c.site) ≡ true = (nat_decides i c.site).1 (asker ∙ q ∙ sym (ap (λ (y : CellName). y.site) cell)) in cc))

-- ---- rows

module _ (p : List Stmt) (limit : ℕ) (w : World) (z : State) (parts : PartsIn p (here_at (records w.sites)) w z) (x : CellsMatch w z) where
  -- the token that is here has the content of the machine's cell
  has_content : (i : ℕ) (c : CellName) (v : VarName) → ChainAt w.sites w.mail c v → (u : VarName) → (cell_record (w.sites i) c).held.token ≡ Here u → u ≡ v
  has_content i c v chain u h = (tokens_have_contents chain.0 _ _ v u i chain.2 h).0

  -- a Get comes to the manager
  pub get_kept : (k i : ℕ) (c : CellName) (asker : ℕ) → IsOnItsWay w.mail k i (msg.Get c asker) → OneMessage w k → (w.sites i).records.site ≡ i →
      PartsIn p (here_at (records w.sites)) (after_transition (after_receipt (Some k) w) i (get_row limit c asker (w.sites i))) z × CellsMatch (after_transition (after_receipt (Some k) w) i (get_row limit c asker (w.sites i))) z
  get_kept k i c asker h once number =
      let one = one_number w k i (msg.Get c asker) h once in
      let at = (x.gets k i c asker h).0 in
      let f = cell_there w.sites w.mail (mobile_cells z.cells) c (Get asker) x.cells (arrives_there w k i _ c (Get asker) (get_arrives w k i c asker h one at)) in (
        only_parts p w i (get_row limit c asker (w.sites i)) (without_number k w.mail) z (parts_gone p (here_at (records w.sites)) (eqs w.sites) (records w.sites) (threads w.sites) (counters w.sites) w.mail z parts k (cell_may_go w z k i (msg.Get c asker) tt h once)) (get_only limit c asker (w.sites i))
            (reply_may p (here_at (records w.sites)) (eqs w.sites) (records w.sites) (threads w.sites) (counters w.sites) w.mail z parts limit i c (w.sites i).equations f.0 refl (mobile_has z.cells c f.0 f.1).1 (w.sites i).records.site (last_before (w.sites i) c) asker (cell_record (w.sites i) c).held (has_content i c f.0 f.2)),
        record {
          queues = queues_put w.sites i _ x.queues (get_lists limit c asker (w.sites i) (x.queues i));
          cells = get_cells limit w i k c asker (mobile_cells z.cells) x.cells h one at number;
          gets = gets_posts (without_number k w.mail) w.sent _ (gets_gone k w.mail x.gets) (λ to b a q. absurd (from_each (λ (to : ℕ) (m : Msg). (b : CellName) (a : ℕ) → m ≡ msg.Get b a → ⊥) _ (no_get_reply limit c (w.sites i).equations (w.sites i).records.site (last_before (w.sites i) c) asker (cell_record (w.sites i) c).held) to (msg.Get b a) q b a refl));
          contents = contents_put w.sites i _ x.contents refl (answers_here c _ (w.sites i) _ (reply_answers limit c _ (get_reply (w.sites i).records.site (last_before (w.sites i) c) asker (cell_record (w.sites i) c).held) (w.sites i) (with_last_asker c asker (w.sites i)) refl) (λ u e. get_keeps (w.sites i).records.site (last_before (w.sites i) c) asker (cell_record (w.sites i) c).held u e));
        },
      )

  -- a Forward comes
  pub forward_kept : (k i : ℕ) (c : CellName) (next : ℕ) → IsOnItsWay w.mail k i (msg.Forward c next) → OneMessage w k →
      PartsIn p (here_at (records w.sites)) (after_transition (after_receipt (Some k) w) i (forward_row limit c next (w.sites i))) z × CellsMatch (after_transition (after_receipt (Some k) w) i (forward_row limit c next (w.sites i))) z
  forward_kept k i c next h once =
      let one = one_number w k i (msg.Forward c next) h once in
      let f = cell_there w.sites w.mail (mobile_cells z.cells) c (Forward i next) x.cells (arrives_there w k i _ c (Forward i next) (forward_arrives w k i c next h one)) in (
        only_parts p w i (forward_row limit c next (w.sites i)) (without_number k w.mail) z (parts_gone p (here_at (records w.sites)) (eqs w.sites) (records w.sites) (threads w.sites) (counters w.sites) w.mail z parts k (cell_may_go w z k i (msg.Forward c next) tt h once)) (forward_only limit c next (w.sites i))
            (leave_may p (here_at (records w.sites)) (eqs w.sites) (records w.sites) (threads w.sites) (counters w.sites) w.mail z parts limit i c (w.sites i).equations f.0 refl (mobile_has z.cells c f.0 f.1).1 (record (cell_record (w.sites i) c).held { next = Some next }) (has_content i c f.0 f.2)),
        record {
          queues = queues_put w.sites i _ x.queues (forward_lists limit c next (w.sites i) (x.queues i));
          cells = forward_cells limit w i k c next (mobile_cells z.cells) x.cells h one;
          gets = gets_posts (without_number k w.mail) w.sent _ (gets_gone k w.mail x.gets) (λ to b a q. absurd (from_each (λ (to : ℕ) (m : Msg). (b : CellName) (a : ℕ) → m ≡ msg.Get b a → ⊥) _ (no_get_leave limit c (w.sites i).equations (record (cell_record (w.sites i) c).held { next = Some next })) to (msg.Get b a) q b a refl));
          contents = contents_put w.sites i _ x.contents refl (answers_here c _ (w.sites i) _ (forward_answers limit c next (w.sites i)) (λ u e. forward_here (cell_record (w.sites i) c).held next u e));
        },
      )

  -- a thread asks for the token, which is elsewhere, and waits
  module _ (i : ℕ) (c : CellName) (new : VarName) (n : ThreadName) (st : Stack) (v : VarName) (runs : value_of equal_thread (threads w.sites i) n ≡ Some (st, Runs)) (exchange : IsExchange p (eqs w.sites i) st c)
      (value : value_of equal_cell z.cells c ≡ Some v) (mobile : c.at ≡ 0) (number : (w.sites i).records.site ≡ i) (elsewhere : (u : VarName) → (cell_record (w.sites i) c).held.token ≢ Here u) where
    abbrev asking : Transition
    asking = request_row limit c new n st (w.sites i)

    abbrev waiting_now : Threads
    waiting_now = with_value equal_thread (threads w.sites i) n (st, WaitsFor (Cell c))

    pub asks_kept : PartsIn p (here_at (records w.sites)) (after_transition w i asking) z × CellsMatch (after_transition w i asking) z
    asks_kept = (
      to_put p (here_at (records w.sites)) w.sites i asking.site (w.mail ++ mail_from w.sent asking.sent) z
          (subst (λ (f : ℕ → Store). PartsMatch p (here_at (records w.sites)) f (at_put (records w.sites) i asking.site.records) (at_put (threads w.sites) i asking.site.threads) (at_put (counters w.sites) i asking.site.counters) (w.mail ++ mail_from w.sent asking.sent) z) (sym (ap (at_put (eqs w.sites) i) only.equations ∙ at_own (eqs w.sites) i))
          (subst (λ (f : ℕ → Records). PartsMatch p (here_at (records w.sites)) (eqs w.sites) f (at_put (threads w.sites) i asking.site.threads) (at_put (counters w.sites) i asking.site.counters) (w.mail ++ mail_from w.sent asking.sent) z) (sym (ap (at_put (records w.sites) i) only.records ∙ at_own (records w.sites) i))
          (subst (λ (us : Threads). PartsMatch p (here_at (records w.sites)) (eqs w.sites) (records w.sites) (at_put (threads w.sites) i us) (at_put (counters w.sites) i asking.site.counters) (w.mail ++ mail_from w.sent asking.sent) z) (sym only.threads)
          (subst (λ (f : ℕ → Counters). PartsMatch p (here_at (records w.sites)) (eqs w.sites) (records w.sites) (at_put (threads w.sites) i waiting_now) f (w.mail ++ mail_from w.sent asking.sent) z) (sym (ap (at_put (counters w.sites) i) only.counters ∙ at_own (counters w.sites) i))
          (parts_posts p (here_at (records w.sites)) (eqs w.sites) (records w.sites) (at_put (threads w.sites) i waiting_now) (counters w.sites) w.mail z waits w.sent asking.sent
          (subst (λ (s : Store). MaySend p (eqs w.sites) (records w.sites) (at_put (threads w.sites) i waiting_now) (counters w.sites) z.equations (letters limit c s (exchange_reply c.site (last_before (w.sites i) c) (w.sites i).records.site new (cell_record (w.sites i) c).held).sent)) (sym only.equations)
          (request_may p (here_at (records w.sites)) (eqs w.sites) (records w.sites) (at_put (threads w.sites) i waiting_now) (counters w.sites) w.mail z waits limit i c (w.sites i).equations v refl value c.site (last_before (w.sites i) c) (w.sites i).records.site new (cell_record (w.sites i) c).held))))))),
      record {
        queues = queues_put w.sites i _ x.queues (request_lists limit c new n st (w.sites i) elsewhere runs (x.queues i));
        cells = request_cells limit w i c new n st (mobile_cells z.cells) v x.cells (mobile_at z.cells c mobile ∙ value) number elsewhere;
        gets = gets_posts w.mail w.sent _ x.gets (λ to b a q. from_each (λ (to : ℕ) (m : Msg). (b : CellName) (a : ℕ) → m ≡ msg.Get b a → (to ≡ b.site) × (a ≢ b.site)) _ (get_home limit c asking.site.equations (last_before (w.sites i) c) (w.sites i).records.site new (cell_record (w.sites i) c).held) to (msg.Get b a) q b a refl);
        contents = contents_put w.sites i _ x.contents only.records (answers_here c _ (w.sites i) _ (request_answers limit c new n st (w.sites i)) (request_here c.site (last_before (w.sites i) c) (w.sites i).records.site new (cell_record (w.sites i) c).held elsewhere));
      },
    )
      where
        only : OnlyCells (with_exchange_waiting c n st (w.sites i)) asking
        only = request_only limit c new n st (w.sites i)

        waits : PartsMatch p (here_at (records w.sites)) (eqs w.sites) (records w.sites) (at_put (threads w.sites) i waiting_now) (counters w.sites) w.mail z
        waits = mode_parts p (here_at (records w.sites)) (eqs w.sites) (records w.sites) (threads w.sites) (counters w.sites) w.mail z parts i n st (WaitsFor (Cell c)) runs exchange
