-- A step of a thread and its cell: what is kept of cells is kept, and the old content is the machine's.
use Rattle.std.proofs.Common.{◌≡◌, ◌∙◌, sym, ap, refl, subst, ℕ, List, [], ◌∷◌, ◌⊎◌, inl, inr, Bool, true, false, Some}
use Rattle.std.specs.Prelude.{Contains, ◌≢◌, ◌==◌}
use Rattle.tree_node.specs.declared.names.VarName.{VarName}
use Rattle.tree_node.specs.declared.names.CellName.{CellName}
use Rattle.tree_node.specs.declared.names.NameKind.{NameKind}
use Rattle.tree_node.specs.declared.pick.Pick.{Pick}
use Rattle.tree_node.specs.Assoc.{value_of}
use Rattle.tree_node.specs.Goal.{equal_cell}
use Rattle.tree_node.specs.State.{Stack, State, equal_thread}
use Rattle.kernel_syntax.specs.declared.stmt.Stmt.{Stmt}
use Rattle.site_message.specs.declared.message.Msg.{Msg}
use Rattle.site_message.specs.declared.message.Msg.TheVariants as msg
use Rattle.site_message.specs.declared.message.Sent.{Sent}
use Rattle.oz_model.specs.Effect.{CellChange, Stays, Made, Exchanged, Effect}
use Rattle.oz_model.specs.Laws.{FindsCell}
use Rattle.oz_model.specs.Step.{cells_after}
use Rattle.tree_node.proofs.ClassLemmas.{Contains-cons_cases}
use Rattle.bind_protocol.specs.Records.{Records}
use Rattle.token_chain.specs.declared.token.Token.TheVariants.{Here, Away}
use Rattle.token_chain.specs.Holding.{Holding, here_with}
use Rattle.token_chain.specs.Rows.{reply_without_mail}
use Rattle.std.specs.Map.{lookup}
use Rattle.site_model.specs.Site.{Site, CellRecord, cell_record_in, cell_record}
use Rattle.thread_roster.specs.declared.mode.Mode.TheVariants.{Runs}
use Rattle.site_model.specs.Transition.{Transition}
use Rattle.site_model.specs.Unit.{step_row}
use Rattle.world_model.specs.World.{World, Sites, IsOnItsWay, after_transition, after_receipt, without_number, put, records, cell_records}
use Rattle.world_model.specs.Names.{IsHere, AreContentsHome, ContentsHome}
use Rattle.world_model.specs.Matches.{CellsMatch}
use Rattle.world_model.proofs.PutLemmas.{at_all, nat_decides}
use Rattle.world_model.proofs.MailLemmas.{nothing, sent_to}
use Rattle.world_cells.proofs.TallyLemmas.{IsOfNone, OneOfNumber, tally_other, none_says}
use Rattle.world_cells.proofs.ChainLemmas.{gets_posts, gets_gone, CellsAt, Untouched, chain_stays, nowhere_stays, cells_stay}
use Rattle.world_cells.proofs.FrameLemmas.{AreOfNone, NoCells, silent_list}
use Rattle.world_cells.proofs.ReplyLemmas.{Answers}
use Rattle.world_cells.proofs.QueueLemmas.{queues_put, SameWaiters}
use Rattle.world_cells.proofs.UnitQueueLemmas.{lists_of, step_lists, IsUnused, IsUnmade}
use Rattle.world_cells.proofs.UnitCellLemmas.{begun, begins, step_silent, stays_nothing, exchanged_answers, made_answers, stays_cells, exchange_cells, made_cells}
use Rattle.oz_model.proofs.KindLemmas.{cell_cases}
use Rattle.world_model.proofs.MobileLemmas.{IsMobile, mobile_far}
use Rattle.world_model.specs.Chain.{mobile_cells}
use Rattle.thread_roster.specs.declared.mode.Awaited.{Awaited}

-- what says nothing of cells is no request for a token
pub no_gets : (ms : List Sent) → AreOfNone ms → (to : ℕ) (c : CellName) (a : ℕ) → Contains ms (sent_to to (msg.Get c a)) → ⊥
no_gets [] h to c a q = nothing _ q
no_gets (m ∷ ms) h to c a q = go (Contains-cons_cases _ _ ms q) (λ k. no_gets ms h.1 to c a k)
  where
    go : (m ≡ sent_to to (msg.Get c a)) ⊎ Contains ms (sent_to to (msg.Get c a)) → (Contains ms (sent_to to (msg.Get c a)) → ⊥) → ⊥
    go (inl e) ih = subst (λ (y : Sent). IsOfNone y.msg) e h.0
    go (inr k) ih = ih k

-- a token of site i is where it was, or has a content that is here
pub contents_row : (f : Sites) (i : ℕ) (s : Site) → ContentsHome (records f) (cell_records f) → ((b : CellName) (u : VarName) → (cell_record s b).held.token ≡ Here u → IsHere s.records u) → ContentsHome (records (put f i s)) (cell_records (put f i s))
contents_row f i s all here = at_all f i s (λ (j : ℕ) (y : Site). AreContentsHome y.records y.cell_records) here (λ j other. all j)

-- ---- rows that have nothing to do with cells

pub nothing_match : (w : World) (z : State) (i : ℕ) (d : Transition) → CellsMatch w z → NoCells (w.sites i) d → ((b : Awaited) → SameWaiters (w.sites i).threads d.site.threads b) → ((y : VarName) → IsHere (w.sites i).records y → IsHere d.site.records y) →
    CellsMatch (after_transition w i d) z
nothing_match w z i d x q same wider = record {
  queues = queues_put w.sites i d.site x.queues (lists_of (w.sites i) d.site q.cell_records same (x.queues i));
  cells = cells_stay w i d w.mail (mobile_cells z.cells) (λ b. ap (λ (qs : List (CellName × CellRecord)). cell_record_in qs b) q.cell_records) (λ b. ap (lookup (equal_cell b)) q.managers) (λ b m. silent_list b d.sent q.silent m) (λ b m. refl) x.cells;
  gets = gets_posts w.mail w.sent d.sent x.gets (λ to c a h. absurd (no_gets d.sent q.silent to c a h));
  contents = contents_row w.sites i d.site x.contents (λ b u e. wider u (x.contents i b u (sym (ap (λ (qs : List (CellName × CellRecord)). (cell_record_in qs b).held.token) q.cell_records) ∙ e)));
}

-- the same where the machine has the same cells
pub same_match : (w : World) (z t : State) → t.cells ≡ z.cells → CellsMatch w z → CellsMatch w t
same_match w z t e x = record { queues = x.queues; cells = subst (λ (cs : List (CellName × VarName)). CellsAt w.sites w.mail (mobile_cells cs)) (sym e) x.cells; gets = x.gets; contents = x.contents }

-- a message that says nothing of cells comes
pub gone_match : (w : World) (z : State) (k i : ℕ) (m : Msg) → IsOnItsWay w.mail k i m → OneOfNumber w.mail k (sent_to i m) → IsOfNone m → CellsMatch w z → CellsMatch (after_receipt (Some k) w) z
gone_match w z k i m h one none x = record {
  queues = x.queues;
  cells = record {
    chains = λ c v e. chain_stays w.sites w.sites w.mail _ c v (untouched c) (x.cells.chains c v e);
    others = λ c e. nowhere_stays w.sites w.sites w.mail _ c (untouched c) (x.cells.others c e);
  };
  gets = gets_gone k w.mail x.gets;
  contents = x.contents;
}
  where
    untouched : (c : CellName) → Untouched w.sites w.sites w.mail (without_number k w.mail) c
    untouched c = record { last = refl; holds = λ j. refl; counts = tally_other c w.mail k i m one (none_says c i m none) }

here_same : (v u : VarName) → Here v ≡ Here u → v ≡ u
here_same v u e = cc

-- ---- a step

-- a cell that is made is mobile, and the token of the one that is exchanged is here
abbrev pub IsReachable : Site → CellChange → Type 0
IsReachable s (Exchanged c new told) = (u : VarName) × ((cell_record s c).held.token ≡ Here u)
IsReachable s (Made c v) = c.at ≡ 0
IsReachable s Stays = Unit {0}

-- such a change is of a mobile cell
pub reach_mobile : (w : World) (z : State) (i : ℕ) (ch : CellChange) → CellsMatch w z → IsReachable (w.sites i) ch → IsMobile ch
reach_mobile w z i Stays x h = tt
reach_mobile w z i (Made c v) x h = h
reach_mobile w z i (Exchanged c new told) x (u, h) = go (c.at == 0) refl
  where
    go : (b : Bool) → (c.at == 0) ≡ b → c.at ≡ 0
    go true q = (nat_decides c.at 0).0 q
    go false q =
        let far : c.at ≢ 0 = (λ zero. let yes : (c.at == 0) ≡ true = (nat_decides c.at 0).1 zero in cc) in
        let none : (cell_record (w.sites i) c).held.token ≡ Away = ap (λ (y : Holding). y.token) ((x.cells.others c (mobile_far z.cells c far)).away i) in absurd (cc)

-- a cell that is made is the site's own
abbrev pub IsOwnCell : ℕ → CellChange → Type 0
IsOwnCell i (Made c v) = c.site ≡ i
IsOwnCell i _ = Unit {0}

-- the content that a change leaves is here
abbrev pub IsContentHere : Records → CellChange → Type 0
IsContentHere b (Made c v) = IsHere b v
IsContentHere b (Exchanged c new told) = IsHere b new
IsContentHere b Stays = Unit {0}

module _ (p : List Stmt) (n limit : ℕ) (k : Pick) (kinds : List NameKind) (e : Effect) (w : World) (z : State) (i : ℕ) (x : CellsMatch w z) (number : (w.sites i).records.site ≡ i) where
  abbrev unit_deed : Transition
  unit_deed = step_row p n limit k kinds e (w.sites i)

  pub begun_place : (c : CellName) → cell_record (begun p n limit k kinds e (w.sites i)).site c ≡ cell_record (w.sites i) c
  begun_place c = ap (λ (qs : List (CellName × CellRecord)). cell_record_in qs c) (begins p n limit k kinds e (w.sites i)).cell_records

  module _ (st : Stack) (runs : value_of equal_thread (w.sites i).threads k.thread ≡ Some (st, Runs)) (new : IsUnused p n limit k kinds e (w.sites i) st runs e.born) (finds : FindsCell (mobile_cells z.cells) e.cell) (reach : IsReachable (w.sites i) e.cell)
      (own : IsOwnCell i e.cell) (wider : (y : VarName) → IsHere (w.sites i).records y → IsHere unit_deed.site.records y) (home : IsContentHere unit_deed.site.records e.cell) where
    unmade : (c : CellChange) → FindsCell (mobile_cells z.cells) c → IsUnmade p n limit k kinds e (w.sites i) st runs c
    unmade Stays f = tt
    unmade (Made c v) f = (x.cells.others c f).away i
    unmade (Exchanged c new told) f = tt

    cells_now : (c : CellChange) → e.cell ≡ c → FindsCell (mobile_cells z.cells) c → IsReachable (w.sites i) c → IsOwnCell i c → CellsAt (after_transition w i unit_deed).sites (after_transition w i unit_deed).mail (cells_after (mobile_cells z.cells) c)
    cells_now Stays is f r o = stays_cells p n limit k kinds e w i (mobile_cells z.cells) x.cells is
    cells_now (Made c v) is f r o = made_cells p n limit k kinds e w i (mobile_cells z.cells) x.cells c v is o number f
    cells_now (Exchanged c new told) is f r o = (exchange_cells p n limit k kinds e w i (mobile_cells z.cells) x.cells c new told r.0 f.0 is r.1 f.1).1

    contents_now : (c : CellChange) → e.cell ≡ c → IsContentHere unit_deed.site.records c → (b : CellName) (u : VarName) → (cell_record unit_deed.site b).held.token ≡ Here u → IsHere unit_deed.site.records u
    contents_now Stays is h b u q = wider u (x.contents i b u (sym (ap (λ (qs : List (CellName × CellRecord)). (cell_record_in qs b).held.token) (stays_nothing p n limit k kinds e (w.sites i) is).cell_records) ∙ q))
    contents_now (Made c v) is h b u q = go (cell_cases b c)
      where
        a : Answers c (reply_without_mail (here_with v)) (w.sites i) unit_deed
        a = made_answers p n limit k kinds e (w.sites i) c v is

        go : (b ≡ c) ⊎ (b ≢ c) → IsHere unit_deed.site.records u
        go (inl same) =
            let at : (cell_record unit_deed.site c).held.token ≡ Here u = subst (λ (y : CellName). (cell_record unit_deed.site y).held.token ≡ Here u) same q in
            subst (λ (y : VarName). IsHere unit_deed.site.records y) (here_same v u (sym (ap (λ (y : Holding). y.token) a.held) ∙ at)) h
        go (inr other) = wider u (x.contents i b u (sym (ap (λ (y : CellRecord). y.held.token) (a.others b other)) ∙ q))
    contents_now (Exchanged c fresh told) is h b u q = go (cell_cases b c)
      where
        a : Answers c (reply_without_mail (record (cell_record (w.sites i) c).held { token = Here fresh })) (w.sites i) unit_deed
        a = exchanged_answers p n limit k kinds e (w.sites i) c fresh told is

        go : (b ≡ c) ⊎ (b ≢ c) → IsHere unit_deed.site.records u
        go (inl same) =
            let at : (cell_record unit_deed.site c).held.token ≡ Here u = subst (λ (y : CellName). (cell_record unit_deed.site y).held.token ≡ Here u) same q in
            subst (λ (y : VarName). IsHere unit_deed.site.records y) (here_same fresh u (sym (ap (λ (y : Holding). y.token) a.held) ∙ at)) h
        go (inr other) = wider u (x.contents i b u (sym (ap (λ (y : CellRecord). y.held.token) (a.others b other)) ∙ q))

    pub unit_match : (t : State) → mobile_cells t.cells ≡ cells_after (mobile_cells z.cells) e.cell → CellsMatch (after_transition w i unit_deed) t
    unit_match t is = record {
      queues = queues_put w.sites i unit_deed.site x.queues (step_lists p n limit k kinds e (w.sites i) st runs new (unmade e.cell finds) (x.queues i));
      cells = subst (λ (cs : List (CellName × VarName)). CellsAt (after_transition w i unit_deed).sites (after_transition w i unit_deed).mail cs) (sym is) (cells_now e.cell refl finds reach own);
      gets = gets_posts w.mail w.sent unit_deed.sent x.gets (λ to c a h. absurd (no_gets unit_deed.sent (step_silent p n limit k kinds e (w.sites i)) to c a h));
      contents = contents_row w.sites i unit_deed.site x.contents (contents_now e.cell refl home);
    }
