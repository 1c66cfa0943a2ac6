-- The rows on cells and their messages.
use Rattle.std.proofs.Common.{arith, ◌≡◌, ◌∙◌, sym, ap, refl, subst, ℕ, ◌+◌, ◌≤◌, List, [], ◌∷◌, ◌++◌, length, Bool, true, false, cond, Some}
use Rattle.std.specs.Prelude.{Option, ◌≢◌, ◌==◌, unwrap_or}
use Rattle.std.specs.Map.{lookup}
use Rattle.tree_node.specs.declared.names.VarName.{VarName}
use Rattle.tree_node.specs.declared.names.CellName.{CellName}
use Rattle.tree_node.specs.declared.names.ThreadName.{ThreadName}
use Rattle.tree_node.specs.declared.names.NameKind.{NameKind}
use Rattle.tree_node.specs.declared.pick.Pick.{Pick}
use Rattle.tree_node.specs.Assoc.{value_of, with_value}
use Rattle.tree_node.specs.Goal.{equal_cell}
use Rattle.tree_node.specs.State.{Stack, State}
use Rattle.tree_node.specs.Store.{Equation}
use Rattle.kernel_syntax.specs.declared.stmt.Stmt.{Stmt}
use Rattle.site_message.specs.declared.message.Msg.TheVariants as msg
use Rattle.site_message.specs.declared.message.Sent.{Sent}
use Rattle.oz_model.specs.Effect.{CellChange, Stays, Made, Exchanged, Effect}
use Rattle.oz_model.specs.Laws.{FindsCell}
use Rattle.oz_model.specs.Run.{exchanges_from}
use Rattle.oz_model.specs.Step.{cells_after}
use Rattle.oz_model.proofs.ExchangeLemmas.{put_here, put_there}
use Rattle.token_chain.specs.declared.token.Token.{Token}
use Rattle.token_chain.specs.declared.token.Token.TheVariants.{Away, Asked, Here}
use Rattle.token_chain.specs.Mail.{Get, Forward, Put}
use Rattle.token_chain.specs.Holding.{with_waiter}
use Rattle.token_chain.specs.Rows.{Reply, reply_without_mail, forward_reply, get_reply, put_reply, exchange_reply}
use Rattle.token_chain.specs.Tally.{IsPaid}
use Rattle.token_chain.proofs.MoveLemmas.{messages_can_come, last_is_used}
use Rattle.token_chain.proofs.TallyLemmas.{rows_pay, forward_pays, asking_pays, own_asking_pays, waiting_pays, put_pays, exchange_pays, pays_came, one_came, making_tallies}
use Rattle.site_model.specs.Site.{CellRecord, cell_record_in, cell_record, last_asker}
use Rattle.site_model.specs.Transition.{Transition}
use Rattle.site_model.specs.Cells.{last_before, forward_row, get_row, put_row, request_row}
use Rattle.world_model.proofs.PutLemmas.{nat_decides}
use Rattle.site_model.specs.Unit.{step_row}
use Rattle.world_model.specs.World.{World, IsOnItsWay, after_transition, after_receipt}
use Rattle.world_cells.specs.CellCounts.{cell_weights, IsTallied}
use Rattle.world_model.specs.Matches.{CellsMatch}
use Rattle.world_model.proofs.MailLemmas.{sent_to}
use Rattle.world_cells.proofs.TallyLemmas.{OneOfNumber}
use Rattle.world_cells.proofs.ReplyLemmas.{get_answers, get_manages, forward_answers, request_answers, request_others}
use Rattle.world_cells.proofs.FrameLemmas.{NoCells, silent_list, weightless}
use Rattle.world_cells.proofs.ChainLemmas.{held, tally, none_came, others_stay, ChainAt, cell_there, get_arrives, forward_arrives, put_arrives, arrives_there, arrives_here, arrives_other, lifts}
use Rattle.world_cells.proofs.UnitCellLemmas.{stays_nothing, exchanged_answers, exchanged_managers, made_answers, made_manages}
use Rattle.world_cells.proofs.UnitCellRowLemmas.{IsReachable, IsOwnCell}
use Rattle.world_cells.proofs.CellTallyLemmas.{CellsTallied, row_tally, tallied_row, tallied_still, weighs_append}
use Rattle.world_cells.proofs.PutRowLemmas.{PutRow}
use Rattle.oz_model.proofs.KindLemmas.{cell_same, cells_differ}
use Rattle.world_model.specs.Chain.{mobile_cells}

same_count : (x : CellName → ℕ) (c : CellName) → x c ≡ x c + 0
same_count x c = omega arith

-- how many exchanges of a cell a change makes
abbrev pub exchanges_of : CellChange → CellName → ℕ
exchanges_of (Exchanged c new told) b = cond (equal_cell c b) 1 0
exchanges_of _ b = 0

module _ (n : ℕ) (w : World) (z : State) (x : CellsMatch w z) (out : List Sent) (count : CellName → ℕ) (t : CellsTallied n w.sites w.mail (mobile_cells z.cells) out count) where
  -- an outstanding request has a thread that waits
  wants : (c : CellName) (v : VarName) → value_of equal_cell (mobile_cells z.cells) c ≡ Some v → (i : ℕ) → (held w.sites c i).token ≡ Asked → 1 ≤ (held w.sites c i).waiting
  wants c v e i h = (t.tallied c v e).wanted i h

  abbrev Then : World → List Sent → List (CellName × VarName) → (CellName → ℕ) → Type 0
  Then v sent cells y = CellsTallied n v.sites v.mail cells (out ++ sent) y

  pub get_tally : (limit k i : ℕ) (c : CellName) (asker : ℕ) → 1 ≤ i → i ≤ n → 1 ≤ asker → asker ≤ n → IsOnItsWay w.mail k i (msg.Get c asker) → OneOfNumber w.mail k (sent_to i (msg.Get c asker)) → (w.sites i).records.site ≡ i →
      Then (after_transition (after_receipt (Some k) w) i (get_row limit c asker (w.sites i))) (get_row limit c asker (w.sites i)).sent (mobile_cells z.cells) count
  get_tally limit k i c asker low high alow ahigh h one number =
      let at = (x.gets k i c asker h).0 in
      let a = get_arrives w k i c asker h one at in
      let f = cell_there w.sites w.mail (mobile_cells z.cells) c (Get asker) x.cells (arrives_there w k i _ c (Get asker) a) in
      let answers = get_answers limit c asker (w.sites i) f.2.0 i number (subst (λ (y : ℕ). last_asker (w.sites y) c ≡ Some f.2.0) (sym at) f.2.1) in
      row_tally n (after_receipt (Some k) w) w.mail i (get_row limit c asker (w.sites i)) c _ (Get asker ∷ []) (mobile_cells z.cells) (mobile_cells z.cells) out count count 0 low high answers (get_manages limit c asker (w.sites i)).others
      (arrives_here w k i _ c (Get asker) f.0 a f.2) (arrives_other w k i _ c (Get asker) a) (λ b d. refl) (λ b d. refl) (same_count count c)
      (subst (λ (y : ℕ). IsPaid (held w.sites c i) (get_reply i f.2.0 asker (held w.sites c i)) y 0) (sym (one_came n asker alow ahigh)) (rows_pay.get i f.2.0 asker (held w.sites c i) (wants c f.0 f.1 i)))
      f.0 f.1 (t.tallied c f.0 f.1) t

  pub forward_tally : (limit k i : ℕ) (c : CellName) (next : ℕ) → 1 ≤ i → i ≤ n → IsOnItsWay w.mail k i (msg.Forward c next) → OneOfNumber w.mail k (sent_to i (msg.Forward c next)) →
      Then (after_transition (after_receipt (Some k) w) i (forward_row limit c next (w.sites i))) (forward_row limit c next (w.sites i)).sent (mobile_cells z.cells) count
  forward_tally limit k i c next low high h one =
      let a = forward_arrives w k i c next h one in
      let f = cell_there w.sites w.mail (mobile_cells z.cells) c (Forward i next) x.cells (arrives_there w k i _ c (Forward i next) a) in
      row_tally n (after_receipt (Some k) w) w.mail i (forward_row limit c next (w.sites i)) c (forward_reply (held w.sites c i) next) (Forward i next ∷ []) (mobile_cells z.cells) (mobile_cells z.cells) out count count 0 low high (forward_answers limit c next (w.sites i))
      (λ b d. refl)
      (arrives_here w k i _ c (Forward i next) f.0 a f.2) (arrives_other w k i _ c (Forward i next) a) (λ b d. refl) (λ b d. refl) (same_count count c)
      (forward_pays (held w.sites c i) next _ (wants c f.0 f.1 i))
      f.0 f.1 (t.tallied c f.0 f.1) t

  -- a Put comes, and all that wait exchange
  pub put_tally : (p : List Stmt) (limit k i : ℕ) (c : CellName) (v : VarName) (bundle : List Equation) (q : PutRow p limit w z k i c v (after_transition (after_receipt (Some k) w) i (put_row p limit c v (w.sites i)))) → 1 ≤ i → i ≤ n →
      IsOnItsWay w.mail k i (msg.Put c v bundle) → OneOfNumber w.mail k (sent_to i (msg.Put c v bundle)) →
      Then (after_transition (after_receipt (Some k) w) i (put_row p limit c v (w.sites i))) (put_row p limit c v (w.sites i)).sent (mobile_cells q.state.cells) (λ b. count b + length (exchanges_from p b z (put_row p limit c v (w.sites i)).picks))
  put_tally p limit k i c v bundle q low high h one =
      let a = put_arrives w k i c v bundle h one in
      let there = arrives_there w k i _ c (Put i v) a in
      let f = cell_there w.sites w.mail (mobile_cells z.cells) c (Put i v) x.cells there in
      let asked : (held w.sites c i).token ≡ Asked = (messages_can_come f.2.0 _ _ f.0 f.2.2 (Put i v) there).1.0 in
      let some : 1 ≤ length (cell_record (w.sites i) c).queue = subst (λ (y : ℕ). 1 ≤ y) (x.queues i c).long (wants c f.0 f.1 i asked) in
      row_tally n (after_receipt (Some k) w) w.mail i (put_row p limit c v (w.sites i)) c (put_reply (held w.sites c i) q.content) (Put i v ∷ []) (mobile_cells z.cells) (mobile_cells q.state.cells) out count _ (length (cell_record (w.sites i) c).queue) low high q.answers
      (λ b d. ap (lookup (equal_cell b)) q.managers)
      (arrives_here w k i _ c (Put i v) f.0 a f.2) (arrives_other w k i _ c (Put i v) a) q.values (λ b d. none_more (count b) _ (q.apart b d)) (ap (λ (y : ℕ). count c + y) q.exchanged)
      (pays_came (held w.sites c i) _ _ _ (put_pays (held w.sites c i) q.content (length (cell_record (w.sites i) c).queue) asked some))
      q.content q.value (t.tallied c f.0 f.1) t
    where
      none_more : (a : ℕ) (es : List (VarName × VarName)) → es ≡ [] → a + length es ≡ a
      none_more a es e = let l = ap length e in omega arith

  -- the token is elsewhere
  module _ (limit i : ℕ) (c : CellName) (new : VarName) (th : ThreadName) (st : Stack) (v : VarName) (low : 1 ≤ i) (high : i ≤ n) (value : value_of equal_cell (mobile_cells z.cells) c ≡ Some v) (number : (w.sites i).records.site ≡ i) where
    abbrev asking : Transition
    asking = request_row limit c new th st (w.sites i)

    chain : ChainAt w.sites w.mail c v
    chain = x.cells.chains c v value

    abbrev reply : Reply
    reply = exchange_reply c.site (last_before (w.sites i) c) (w.sites i).records.site new (cell_record (w.sites i) c).held

    -- the manager's own site did not ask last
    apart : (cell_record (w.sites i) c).held.token ≡ Away → c.site ≡ i → last_before (w.sites i) c ≢ c.site
    apart e at same =
        let last : last_asker (w.sites i) c ≡ Some chain.0 = subst (λ (y : ℕ). last_asker (w.sites y) c ≡ Some chain.0) at chain.1 in
        let is : last_before (w.sites i) c ≡ chain.0 = ap (λ (o : Option ℕ). unwrap_or o c.site) last in
        last_is_used chain.0 _ _ v chain.2 (ap (λ (y : ℕ). (held w.sites c y).token) (sym is ∙ same ∙ at) ∙ e)

    pays_at : (t : Token) (next : Option ℕ) (waiting : ℕ) → (t ≡ Away → c.site ≡ i → last_before (w.sites i) c ≢ c.site) → ((u : VarName) → t ≢ Here u) →
        IsPaid (record { token = t; next = next; waiting = waiting }) (exchange_reply c.site (last_before (w.sites i) c) (w.sites i).records.site new (record { token = t; next = next; waiting = waiting })) 0 0
    pays_at (Here u) next waiting far elsewhere = absurd (elsewhere u refl)
    pays_at Asked next waiting far elsewhere = waiting_pays (record { token = Asked; next = next; waiting = waiting }) refl
    pays_at Away next waiting far elsewhere = first ((w.sites i).records.site == c.site) refl
      where
        own : (b : Bool) → (last_before (w.sites i) c == c.site) ≡ b → c.site ≡ i →
            IsPaid (record { token = Away; next = next; waiting = waiting }) (cond b (forward_reply (with_waiter (record { token = Away; next = next; waiting = waiting })) (w.sites i).records.site) (record { held = with_waiter (record { token = Away; next = next; waiting = waiting }); sent = Forward (last_before (w.sites i) c) (w.sites i).records.site ∷ [] })) 0 0
        own true q at = absurd (far refl at ((nat_decides _ _).0 q))
        own false q at = own_asking_pays (record { token = Away; next = next; waiting = waiting }) (last_before (w.sites i) c) (w.sites i).records.site refl

        first : (b : Bool) → ((w.sites i).records.site == c.site) ≡ b →
            IsPaid (record { token = Away; next = next; waiting = waiting }) (cond b (get_reply c.site (last_before (w.sites i) c) (w.sites i).records.site (with_waiter (record { token = Away; next = next; waiting = waiting }))) (record { held = with_waiter (record { token = Away; next = next; waiting = waiting }); sent = Get (w.sites i).records.site ∷ [] })) 0 0
        first true q = own (last_before (w.sites i) c == c.site) refl (sym ((nat_decides _ _).0 q) ∙ number)
        first false q = asking_pays (record { token = Away; next = next; waiting = waiting }) (w.sites i).records.site refl

    pays : ((u : VarName) → (cell_record (w.sites i) c).held.token ≢ Here u) → IsPaid (held w.sites c i) reply 0 0
    pays elsewhere = pays_at (cell_record (w.sites i) c).held.token (cell_record (w.sites i) c).held.next (cell_record (w.sites i) c).held.waiting apart elsewhere

    pub asks_tally : ((u : VarName) → (cell_record (w.sites i) c).held.token ≢ Here u) → Then (after_transition w i asking) asking.sent (mobile_cells z.cells) count
    asks_tally elsewhere = row_tally n w w.mail i asking c reply [] (mobile_cells z.cells) (mobile_cells z.cells) out count count 0 low high (request_answers limit c new th st (w.sites i)) (request_others limit c new th st (w.sites i))
        (none_came c w.mail) (λ b d m. refl) (λ b d. refl) (λ b d. refl) (same_count count c)
        (pays_came (held w.sites c i) reply _ 0 (pays elsewhere)) v value (t.tallied c v value) t

  -- a row that has nothing to do with cells
  pub nothing_tally : (i : ℕ) (d : Transition) → NoCells (w.sites i) d → Then (after_transition w i d) d.sent (mobile_cells z.cells) count
  nothing_tally i d q = tallied_still n w.sites (after_transition w i d).sites w.mail (after_transition w i d).mail (mobile_cells z.cells) out d.sent count
      (λ b. others_stay w i d b w.mail (ap (λ (qs : List (CellName × CellRecord)). cell_record_in qs b) q.cell_records) (ap (lookup (equal_cell b)) q.managers) (λ m. silent_list b d.sent q.silent m) (λ m. refl)) (λ b g l u. weightless b g l u d.sent q.silent) t

  -- a step of a thread
  module _ (p : List Stmt) (limit : ℕ) (k : Pick) (kinds : List NameKind) (e : Effect) (i : ℕ) (low : 1 ≤ i) (high : i ≤ n) (number : (w.sites i).records.site ≡ i) where
    abbrev unit_deed : Transition
    unit_deed = step_row p n limit k kinds e (w.sites i)

    more_none : (y : CellName → ℕ) → CellsTallied n (after_transition w i unit_deed).sites (after_transition w i unit_deed).mail (mobile_cells z.cells) (out ++ unit_deed.sent) y → CellsTallied n (after_transition w i unit_deed).sites (after_transition w i unit_deed).mail (mobile_cells z.cells) (out ++ unit_deed.sent) (λ b. y b + 0)
    more_none y h = record {
      tallied = λ b u q. subst (λ (a : ℕ). IsTallied n (after_transition w i unit_deed).sites (after_transition w i unit_deed).mail (out ++ unit_deed.sent) b a) (same_count y b) (h.tallied b u q);
      unmade = h.unmade;
      still = λ b m q. let zero = h.still b m q in omega arith;
    }

    other_count : (a : ℕ) (b : Bool) → b ≡ false → a + cond b 1 0 ≡ a
    other_count a false e = omega arith
    other_count a true e = cc

    one_count : (a : ℕ) (b : Bool) → b ≡ true → a + cond b 1 0 ≡ a + 1
    one_count a true e = refl
    one_count a false e = cc

    unit_go : (c : CellChange) → e.cell ≡ c → FindsCell (mobile_cells z.cells) c → IsReachable (w.sites i) c → IsOwnCell i c → Then (after_transition w i unit_deed) unit_deed.sent (cells_after (mobile_cells z.cells) c) (λ b. count b + exchanges_of c b)
    unit_go Stays is f r o = more_none count (nothing_tally i unit_deed (stays_nothing p n limit k kinds e (w.sites i) is))
    unit_go (Made c v) is f r o =
        let a = made_answers p n limit k kinds e (w.sites i) c v is in
        let m = made_manages p n limit k kinds e (w.sites i) c v is in
        let nowhere = x.cells.others c f in
        let tallied = making_tallies n (held w.sites c) (held (after_transition w i unit_deed).sites c) (tally c w.mail) (tally c (after_transition w i unit_deed).mail) i v low high nowhere.away nowhere.quiet (lifts w i unit_deed c _ [] w.mail a (none_came c w.mail)) in
        tallied_row n w.sites (after_transition w i unit_deed).sites w.mail (after_transition w i unit_deed).mail (mobile_cells z.cells) ((c, v) ∷ (mobile_cells z.cells)) out unit_deed.sent count (λ b. count b + 0) c
        (λ b d. others_stay w i unit_deed b w.mail (a.others b d) (m.others b d) (a.silent b d) (λ m. refl))
        (λ b d. rw (cells_differ c b (λ q. d (sym q))) refl) a.no_kinds (λ b d. sym (same_count count b)) v (rw (cell_same c) refl)
        (rw (kind c (t.unmade c f) a.kinds 1 0 0, kind c (t.unmade c f) a.kinds 0 1 0, kind c (t.unmade c f) a.kinds 0 0 1, t.still c r f) tallied) t
      where
        kind : (c : CellName) → ((g l u : ℕ) → cell_weights c g l u out ≡ 0) → ((g l u : ℕ) → cell_weights c g l u unit_deed.sent ≡ 0) → (g l u : ℕ) → cell_weights c g l u (out ++ unit_deed.sent) ≡ 0
        kind c old new g l u = let sum = weighs_append c g l u out unit_deed.sent in let a = old g l u in let b = new g l u in omega arith
    unit_go (Exchanged c new told) is f r o =
        row_tally n w w.mail i unit_deed c (reply_without_mail (record (cell_record (w.sites i) c).held { token = Here new })) [] (mobile_cells z.cells) (with_value equal_cell (mobile_cells z.cells) c new) out count (λ b. count b + cond (equal_cell c b) 1 0) 1 low high (exchanged_answers p n limit k kinds e (w.sites i) c new told is)
        (λ b d. ap (lookup (equal_cell b)) (exchanged_managers p n limit k kinds e (w.sites i) c new told is)) (none_came c w.mail) (λ b d m. refl)
        (λ b d. put_there (mobile_cells z.cells) c b new (cells_differ c b (λ q. d (sym q)))) (λ b d. other_count (count b) (equal_cell c b) (cells_differ c b (λ q. d (sym q)))) (one_count (count c) (equal_cell c c) (cell_same c))
        (pays_came (held w.sites c i) _ _ 1 (exchange_pays (held w.sites c i) r.0 new r.1)) new (put_here (mobile_cells z.cells) c f.0 new f.1) (t.tallied c f.0 f.1) t

    pub unit_tally : FindsCell (mobile_cells z.cells) e.cell → IsReachable (w.sites i) e.cell → IsOwnCell i e.cell → Then (after_transition w i unit_deed) unit_deed.sent (cells_after (mobile_cells z.cells) e.cell) (λ b. count b + exchanges_of e.cell b)
    unit_tally finds reach own = unit_go e.cell refl finds reach own
