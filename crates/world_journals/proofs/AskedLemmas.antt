-- The home of a cell serves no exchange of a thread from elsewhere without a request of its own.
use Rattle.std.proofs.Common.{arith, ◌≡◌, ◌≢◌, ◌∙◌, sym, ap, refl, subst, ℕ, ◌+◌, ◌≤◌, List, [], ◌∷◌, ◌++◌, ◌⊎◌, inl, inr, Bool, true, false, cond, Some, None}
use Rattle.std.specs.Prelude.{Option, Contains, unwrap_or, ◌==◌}
use Rattle.std.specs.List.{count_by}
use Rattle.std.proofs.lemmas.List.Sums.{sum_by-append, sum_by-cons}
use Rattle.indexmap.specs.IndexMap.{insert_entry}
use Rattle.tree_node.specs.declared.names.VarName.{VarName}
use Rattle.tree_node.specs.declared.names.CellName.{CellName}
use Rattle.tree_node.specs.declared.names.ThreadName.{ThreadName}
use Rattle.tree_node.specs.declared.names.NameKind.{NameKind}
use Rattle.tree_node.specs.declared.pick.Pick.{Pick}
use Rattle.tree_node.specs.Goal.{equal_cell}
use Rattle.tree_node.specs.State.{Stack, equal_thread}
use Rattle.tree_node.specs.Store.{Equation}
use Rattle.tree_node.proofs.ClassLemmas.{Contains-head, Contains-tail}
use Rattle.tree_node.proofs.NameLemmas.{same_thread_decides}
use Rattle.kernel_syntax.specs.declared.stmt.Stmt.{Stmt}
use Rattle.site_message.specs.declared.message.Msg.{Msg}
use Rattle.site_message.specs.declared.message.Msg.TheVariants as msg
use Rattle.site_message.specs.declared.turn.Turn.{Turn}
use Rattle.oz_model.specs.Effect.{CellChange, Stays, Made, Exchanged, Effect}
use Rattle.oz_model.specs.Need.{Need, Waits, WaitsAny, Binds, Takes, stack_need}
use Rattle.oz_model.proofs.KindLemmas.{equal_cell_decides}
use Rattle.thread_roster.specs.declared.mode.Mode.TheVariants.{Runs}
use Rattle.site_model.proofs.CellKeyLemmas.{entry_here, entry_other}
use Rattle.thread_roster.specs.declared.mode.Awaited.TheVariants.{Port}
use Rattle.thread_roster.specs.declared.mode.Mode.TheVariants as mode
use Rattle.site_model.specs.Cells.{with_exchange_waiting, request_row}
use Rattle.site_model.specs.Messages.{message_row}
use Rattle.site_model.specs.Requests.{with_asking, send_request_row, home_request_row, NewEnd, OldContent, after_answer, with_early, with_home_content, serve_request, serve_early, cell_ask_row}
use Rattle.site_model.specs.Run.{delivered_message}
use Rattle.site_model.specs.Site.{Site, ThreadState, HomeRecord, EarlyRequest, thread_state, cell_record, home_record, with_home_record, unheard_cell}
use Rattle.site_model.specs.Transition.{Transition, without_output}
use Rattle.site_model.specs.Turn.{AreUnits, SiteTurn, IsReception}
use Rattle.site_model.specs.Unit.{with_mode, with_fresh_names, fresh_names, step_pick, step_row, effect_here, after_effect, thread_step, kept_step, kept_step_row, after_home_cell, bind_attempt, IsUnitFor}
use Rattle.site_model.specs.Variables.{own_binds, opening}
use Rattle.site_model.specs.Bundle.{message_bundle}
use Rattle.world_model.specs.Claims.{home_in}
use Rattle.world_model.specs.World.{Sites, put}
use Rattle.world_model.proofs.PutLemmas.{nat_decides, at_here, at_other}
use Rattle.world_messages.proofs.DeedLemmas.{unit_tally}
use Rattle.world_messages.proofs.HomeRowLemmas.{kept_before, kept_site}
use Rattle.world_messages.proofs.PickLemmas.{heard_site}
use Rattle.world_messages.proofs.RunLemmas.{Entry, every_run}
use Rattle.world_messages.proofs.WayLemmas.{Way, Steps, Opens, Sends, Makes, Exchanges, AsksToken, AsksPort, AsksHome, WaitsEarly, WaitsPort, way_of}
use Rattle.world_journals.specs.Asked.{is_about, asks_for, served_in, asked_at_home, served_at_home, HomesServeRequests}
use Rattle.world_journals.specs.Places.{IsPlacedAt}
use Rattle.world_journals.proofs.PartPlaceLemmas.{Belongs, Part, belongs_later}
use Rattle.world_journals.proofs.HeardLemmas.{AllBrought, AllComes, IsAsked, heard_part, answer_homes, serves_homes, asked_homes, told_homes}
use Rattle.world_journals.proofs.UnitLemmas.{own_homes, binds_homes, cell_homes, birth_homes, port_loses, need_part, units_part}
use Rattle.world_journals.proofs.PlaceLemmas.{PlacedIn, own, Came, comes, belongs, placed_in}
use Rattle.world_answers.proofs.OwedLemmas.{Nobody}

abbrev NoRequest : CellName → ThreadName → Type 0
NoRequest c n = ⊥

abbrev NoPick : Pick → Type 0
NoPick k = ⊥

-- what is kept of a cell after a change: the new record, or what was kept
home_changed : (hs : List (CellName × HomeRecord)) (d b : CellName) (q : HomeRecord) → ((b ≡ d) × (home_in (insert_entry equal_cell hs d q) b ≡ q)) ⊎ (home_in (insert_entry equal_cell hs d q) b ≡ home_in hs b)
home_changed hs d b q = go (equal_cell b d) refl
  where
    go : (x : Bool) → equal_cell b d ≡ x → ((b ≡ d) × (home_in (insert_entry equal_cell hs d q) b ≡ q)) ⊎ (home_in (insert_entry equal_cell hs d q) b ≡ home_in hs b)
    go true e =
        let same : b ≡ d = (equal_cell_decides b d).0 e in
        inl (same, subst (λ (z : CellName). home_in (insert_entry equal_cell hs d q) z ≡ q) (sym same) (ap (λ (o : Option HomeRecord). unwrap_or o unheard_cell) (entry_here hs d q)))
    go false e =
        let other : b ≢ d = λ (z : b ≡ d). let yes : equal_cell b d ≡ true = (equal_cell_decides b d).1 z in cc in
        inr (ap (λ (o : Option HomeRecord). unwrap_or o unheard_cell) (entry_other hs d b q other))

module _ (c : CellName) (th : ThreadName) where
  -- how many of these requests are of the thread, and how many of the picks
  abbrev mine : List EarlyRequest → ℕ
  mine rs = count_by (λ (r : EarlyRequest). equal_thread th r.thread) rs

  abbrev steps : List Pick → ℕ
  steps ks = count_by (λ (k : Pick). equal_thread th k.thread) ks

  -- how many are kept for the cell
  abbrev kept : Site → ℕ
  kept s = mine (home_record s c).early

  abbrev one_of : EarlyRequest → ℕ
  one_of r = cond (equal_thread th r.thread) 1 0

  homes_same : (s t : Site) → t.homes ≡ s.homes → kept t ≡ kept s
  homes_same s t e = ap (λ (hs : List (CellName × HomeRecord)). mine (home_in hs c).early) e

  content_same : (d : CellName) (v : VarName) (s : Site) → kept (with_home_content d v s) ≡ kept s
  content_same d v s = by (home_changed s.homes d c (record (home_record s d) { content = Some v }))
    where
      by : ((c ≡ d) × (home_in (insert_entry equal_cell s.homes d (record (home_record s d) { content = Some v })) c ≡ record (home_record s d) { content = Some v })) ⊎ (home_in (insert_entry equal_cell s.homes d (record (home_record s d) { content = Some v })) c ≡ home_in s.homes c) →
          mine (home_in (insert_entry equal_cell s.homes d (record (home_record s d) { content = Some v })) c).early ≡ kept s
      by (inl (e, q)) = ap (λ (x : HomeRecord). mine x.early) q ∙ ap (λ (z : CellName). mine (home_record s z).early) (sym e)
      by (inr q) = ap (λ (x : HomeRecord). mine x.early) q

  heard_none : (v : VarName) (s : Site) → kept (with_home_record s c (record { content = Some v; early = [] })) ≡ 0
  heard_none v s = ap (λ (o : Option HomeRecord). mine (unwrap_or o unheard_cell).early) (entry_here s.homes c (record { content = Some v; early = [] }))

  made_less : (d : CellName) (v : VarName) (s : Site) → kept (with_home_record s d (record { content = Some v; early = [] })) ≤ kept s
  made_less d v s = by (home_changed s.homes d c (record { content = Some v; early = [] }))
    where
      by : ((c ≡ d) × (home_in (insert_entry equal_cell s.homes d (record { content = Some v; early = [] })) c ≡ record { content = Some v; early = [] })) ⊎ (home_in (insert_entry equal_cell s.homes d (record { content = Some v; early = [] })) c ≡ home_in s.homes c) →
          mine (home_in (insert_entry equal_cell s.homes d (record { content = Some v; early = [] })) c).early ≤ kept s
      by (inl (e, q)) = let none : mine (home_in (insert_entry equal_cell s.homes d (record { content = Some v; early = [] })) c).early ≡ 0 = ap (λ (x : HomeRecord). mine x.early) q in omega (arith, none)
      by (inr q) = let same : mine (home_in (insert_entry equal_cell s.homes d (record { content = Some v; early = [] })) c).early ≡ kept s = ap (λ (x : HomeRecord). mine x.early) q in omega (arith, same)

  -- one request more, which counts where it is of the thread for the cell
  early_more : (d : CellName) (r : EarlyRequest) (s : Site) → kept (with_early d r s) ≤ kept s + cond (equal_cell c d) (one_of r) 0
  early_more d r s = by (home_changed s.homes d c new)
    where
      new : HomeRecord
      new = record (home_record s d) { early = (home_record s d).early ++ r ∷ [] }

      by : ((c ≡ d) × (home_in (insert_entry equal_cell s.homes d new) c ≡ new)) ⊎ (home_in (insert_entry equal_cell s.homes d new) c ≡ home_in s.homes c) → mine (home_in (insert_entry equal_cell s.homes d new) c).early ≤ kept s + cond (equal_cell c d) (one_of r) 0
      by (inl (e, q)) =
          let now : mine (home_in (insert_entry equal_cell s.homes d new) c).early ≡ mine ((home_record s d).early ++ r ∷ []) = ap (λ (x : HomeRecord). mine x.early) q in
          let both : mine ((home_record s d).early ++ r ∷ []) ≡ mine (home_record s d).early + mine (r ∷ []) = sum_by-append (λ (x : EarlyRequest). cond (equal_thread th x.thread) 1 0) (home_record s d).early (r ∷ []) in
          let last : mine (r ∷ []) ≡ one_of r + 0 = sum_by-cons (λ (x : EarlyRequest). cond (equal_thread th x.thread) 1 0) r [] in
          let was : mine (home_record s d).early ≡ kept s = ap (λ (z : CellName). mine (home_record s z).early) (sym e) in
          let yes : cond (equal_cell c d) (one_of r) 0 ≡ one_of r = ap (λ (b : Bool). cond b (one_of r) 0) ((equal_cell_decides c d).1 e) in
          omega (arith, now, both, last, was, yes)
      by (inr q) = let same : mine (home_in (insert_entry equal_cell s.homes d new) c).early ≡ kept s = ap (λ (x : HomeRecord). mine x.early) q in omega (arith, same)

  -- ---- rows of messages

  module _ (p : List Stmt) (limit : ℕ) where
    serve_counts : (d : CellName) (r : EarlyRequest) (v : VarName) (s : Site) → (kept (serve_request p limit d r v s).site ≡ kept s) × (steps (serve_request p limit d r v s).picks ≡ one_of r)
    serve_counts d r v s = go (r.asking == s.records.site) refl
      where
        one : steps (step_pick r.thread [] None ∷ []) ≡ one_of r
        one = let e : steps (step_pick r.thread [] None ∷ []) ≡ one_of r + 0 = sum_by-cons (λ (k : Pick). cond (equal_thread th k.thread) 1 0) (step_pick r.thread [] None) [] in omega (arith, e)

        go : (b : Bool) → (r.asking == s.records.site) ≡ b → (kept (serve_request p limit d r v s).site ≡ kept s) × (steps (serve_request p limit d r v s).picks ≡ one_of r)
        go true q = rw q (homes_same (with_home_content d r.new s) (after_answer p r.thread (OldContent v) (with_home_content d r.new s)) (answer_homes Nobody p limit r.thread (OldContent v) (with_home_content d r.new s)) ∙ content_same d r.new s, one)
        go false q = rw q (content_same d r.new s, one)

    -- the home hears of another cell, or of this one
    others_less : (d : CellName) (rs : List EarlyRequest) (v : VarName) (s : Site) → kept (serve_early p limit d v rs s).site ≤ kept s
    others_less d [] v s = made_less d v s
    others_less d (r ∷ rs) v s =
        let one = (serve_counts d r v s).0 in
        let rest = others_less d rs r.new (serve_request p limit d r v s).site in
        let sum : kept (serve_early p limit d r.new rs (serve_request p limit d r v s).site).site ≤ kept s = omega (arith, one, rest) in
        sum

    all_served : (rs : List EarlyRequest) (v : VarName) (s : Site) → (kept (serve_early p limit c v rs s).site ≡ 0) × (steps (serve_early p limit c v rs s).picks ≡ mine rs)
    all_served [] v s = (heard_none v s, refl)
    all_served (r ∷ rs) v s =
        let one = (serve_counts c r v s).1 in
        let rest = all_served rs r.new (serve_request p limit c r v s).site in
        let both : steps ((serve_request p limit c r v s).picks ++ (serve_early p limit c r.new rs (serve_request p limit c r v s).site).picks) ≡ steps (serve_request p limit c r v s).picks + steps (serve_early p limit c r.new rs (serve_request p limit c r v s).site).picks = sum_by-append (λ (k : Pick). cond (equal_thread th k.thread) 1 0) (serve_request p limit c r v s).picks (serve_early p limit c r.new rs (serve_request p limit c r v s).site).picks in
        let first : mine (r ∷ rs) ≡ one_of r + mine rs = sum_by-cons (λ (x : EarlyRequest). cond (equal_thread th x.thread) 1 0) r rs in
        let sum : steps ((serve_request p limit c r v s).picks ++ (serve_early p limit c r.new rs (serve_request p limit c r v s).site).picks) ≡ mine (r ∷ rs) = omega (arith, one, rest.1, both, first) in
        (rest.0, sum)

    -- what is kept and what is served is no more than what was kept and what comes
    abbrev Pays : Option Msg → Site → Transition → Type 0
    Pays m s d = kept d.site + served_in c th m d.picks ≤ kept s + asks_for c th m

    stays : (m : Option Msg) (s : Site) (d : Transition) → is_about c m ≡ false → d.site.homes ≡ s.homes → Pays m s d
    stays m s d other e = let same = homes_same s d.site e in let none : served_in c th m d.picks ≡ 0 = ap (λ (b : Bool). cond b (steps d.picks) 0) other in omega (arith, same, none)

    ask_pays : (d : CellName) (n : ThreadName) (a : ℕ) (v : VarName) (es : List Equation) (s : Site) → Pays (Some (msg.CellAsk d n a v es)) s (cell_ask_row p limit d (record { thread = n; asking = a; new = v }) s)
    ask_pays d n a v es s = go (home_record s d).content refl
      where
        r : EarlyRequest
        r = record { thread = n; asking = a; new = v }

        go : (o : Option VarName) → (home_record s d).content ≡ o → Pays (Some (msg.CellAsk d n a v es)) s (cell_ask_row p limit d r s)
        go None q = rw q (waits (equal_cell c d) refl)
          where
            more : kept (with_early d r s) ≤ kept s + cond (equal_cell c d) (one_of r) 0
            more = early_more d r s

            waits : (b : Bool) → equal_cell c d ≡ b → kept (with_early d r s) + cond (equal_cell c d) (steps []) 0 ≤ kept s + cond (equal_cell c d) (one_of r) 0
            waits true e = let none : cond (equal_cell c d) (steps []) 0 ≡ 0 = ap (λ (b : Bool). cond b (steps []) 0) e in omega (arith, more, none)
            waits false e = let none : cond (equal_cell c d) (steps []) 0 ≡ 0 = ap (λ (b : Bool). cond b (steps []) 0) e in omega (arith, more, none)
        go (Some u) q = rw q (serves (equal_cell c d) refl)
          where
            h : (kept (serve_request p limit d r u s).site ≡ kept s) × (steps (serve_request p limit d r u s).picks ≡ one_of r)
            h = serve_counts d r u s

            serves : (b : Bool) → equal_cell c d ≡ b → kept (serve_request p limit d r u s).site + cond (equal_cell c d) (steps (serve_request p limit d r u s).picks) 0 ≤ kept s + cond (equal_cell c d) (one_of r) 0
            serves true e =
                let x : cond (equal_cell c d) (steps (serve_request p limit d r u s).picks) 0 ≡ steps (serve_request p limit d r u s).picks = ap (λ (b : Bool). cond b (steps (serve_request p limit d r u s).picks) 0) e in
                let y : cond (equal_cell c d) (one_of r) 0 ≡ one_of r = ap (λ (b : Bool). cond b (one_of r) 0) e in
                omega (arith, h.0, h.1, x, y)
            serves false e =
                let x : cond (equal_cell c d) (steps (serve_request p limit d r u s).picks) 0 ≡ 0 = ap (λ (b : Bool). cond b (steps (serve_request p limit d r u s).picks) 0) e in
                omega (arith, h.0, x)

    make_pays : (d : CellName) (v : VarName) (es : List Equation) (s : Site) → Pays (Some (msg.CellMake d v es)) s (serve_early p limit d v (home_record s d).early s)
    make_pays d v es s = go (equal_cell c d) refl
      where
        go : (b : Bool) → equal_cell c d ≡ b → kept (serve_early p limit d v (home_record s d).early s).site + cond (equal_cell c d) (steps (serve_early p limit d v (home_record s d).early s).picks) 0 ≤ kept s + 0
        go true e =
            let same : c ≡ d = (equal_cell_decides c d).0 e in
            subst (λ (z : CellName). kept (serve_early p limit z v (home_record s z).early s).site + cond (equal_cell c z) (steps (serve_early p limit z v (home_record s z).early s).picks) 0 ≤ kept s + 0) same here
          where
            here : kept (serve_early p limit c v (home_record s c).early s).site + cond (equal_cell c c) (steps (serve_early p limit c v (home_record s c).early s).picks) 0 ≤ kept s + 0
            here =
                let h = all_served (home_record s c).early v s in
                let x : cond (equal_cell c c) (steps (serve_early p limit c v (home_record s c).early s).picks) 0 ≡ steps (serve_early p limit c v (home_record s c).early s).picks = ap (λ (b : Bool). cond b (steps (serve_early p limit c v (home_record s c).early s).picks) 0) ((equal_cell_decides c c).1 refl) in
                omega (arith, h.0, h.1, x)
        go false e =
            let less = others_less d (home_record s d).early v s in
            let x : cond (equal_cell c d) (steps (serve_early p limit d v (home_record s d).early s).picks) 0 ≡ 0 = ap (λ (b : Bool). cond b (steps (serve_early p limit d v (home_record s d).early s).picks) 0) e in
            omega (arith, less, x)

    row_pays : (m : Msg) (s : Site) → Pays (Some m) s (message_row p limit m s)
    row_pays (msg.Spawn n code vars es) s = stays (Some (msg.Spawn n code vars es)) s (message_row p limit (msg.Spawn n code vars es) s) refl refl
    row_pays (msg.Register x k) s = stays (Some (msg.Register x k)) s (message_row p limit (msg.Register x k) s) refl refl
    row_pays (msg.BindReq x n t es) s = stays (Some (msg.BindReq x n t es)) s (message_row p limit (msg.BindReq x n t es) s) refl (asked_homes Nobody p limit x t n s)
    row_pays (msg.Binding x t es) s = stays (Some (msg.Binding x t es)) s (message_row p limit (msg.Binding x t es) s) refl (told_homes Nobody p limit ((x, t) ∷ []) s)
    row_pays (msg.Get d k) s = stays (Some (msg.Get d k)) s (message_row p limit (msg.Get d k) s) refl refl
    row_pays (msg.Forward d k) s = stays (Some (msg.Forward d k)) s (message_row p limit (msg.Forward d k) s) refl refl
    row_pays (msg.Put d v es) s = stays (Some (msg.Put d v es)) s (message_row p limit (msg.Put d v es) s) refl (serves_homes Nobody p limit d (cell_record s d).queue v s)
    row_pays (msg.PortSend q n k) s = stays (Some (msg.PortSend q n k)) s (message_row p limit (msg.PortSend q n k) s) refl refl
    row_pays (msg.PortEnd n old new es) s = stays (Some (msg.PortEnd n old new es)) s (message_row p limit (msg.PortEnd n old new es) s) refl (answer_homes Nobody p limit n (NewEnd old new) s)
    row_pays (msg.CellMake d v es) s = make_pays d v es s
    row_pays (msg.CellAsk d n a v es) s = ask_pays d n a v es s
    row_pays (msg.CellOld n v es) s = stays (Some (msg.CellOld n v es)) s (message_row p limit (msg.CellOld n v es) s) refl (answer_homes Nobody p limit n (OldContent v) s)

    no_steps : (m : Option Msg) → served_in c th m [] ≡ 0
    no_steps m = go (is_about c m)
      where
        go : (b : Bool) → ◌≡◌ {A = ℕ} (cond b (steps []) 0) 0
        go true = refl
        go false = refl

    idle : (m : Option Msg) (s : Site) → kept s + served_in c th m [] ≤ kept s + asks_for c th m
    idle m s = let none = no_steps m in omega (arith, none)

    heard_pays : (n : ℕ) (m : Option Msg) (s : Site) (d : Transition) → IsReception p n limit m s d → Pays m s d
    heard_pays n None s d h = subst (Pays None s) (sym h) (idle None s)
    heard_pays n (Some m) s d (inr h) = subst (Pays (Some m) s) (sym h.1) (idle (Some m) s)
    heard_pays n (Some m) s d (inl h) = subst (Pays (Some m) s) (sym h.1) opened
      where
        opened : kept (message_row p limit m (opening m s).site).site + served_in c th (Some m) (message_row p limit m (opening m s).site).picks ≤ kept s + asks_for c th (Some m)
        opened = let row = row_pays m (opening m s).site in let same = homes_same s (opening m s).site (told_homes Nobody p limit (message_bundle m) s) in omega (arith, row, same)

    -- ---- units

    module _ (n i : ℕ) (C : ThreadName → Type 0) where
      less_by : (x y : ℕ) → x ≡ y → x ≤ y
      less_by x y e = omega (arith, e)

      abbrev Less : Site → Transition → Type 0
      Less s d = kept d.site ≤ kept s

      less_same : (s : Site) (d : Transition) → d.site.homes ≡ s.homes → Less s d
      less_same s d e = less_by (kept d.site) (kept s) (homes_same s d.site e)

      step_less : (k : Pick) (kinds : List NameKind) (e : Effect) (s : Site) → Less s (step_row p n limit k kinds e s)
      step_less k kinds e s = less_same s (step_row p n limit k kinds e s)
          (birth_homes p n limit i C NoRequest NoPick e.born (after_effect k.thread e (own_binds limit e.adds (with_fresh_names kinds s)).site)
          ∙ cell_homes p n limit i C NoRequest NoPick e.cell (own_binds limit e.adds (with_fresh_names kinds s)).site
          ∙ binds_homes p n limit i C NoRequest NoPick e.adds (with_fresh_names kinds s))

      home_less : (ch : CellChange) (s : Site) → kept (after_home_cell ch s) ≤ kept s
      home_less Stays s = less_by (kept s) (kept s) refl
      home_less (Exchanged d new told) s = less_by (kept (with_home_content d new s)) (kept s) (content_same d new s)
      home_less (Made d v) s = go (d.at == s.records.site)
        where
          go : (b : Bool) → kept (cond b (with_home_record s d (record { content = Some v; early = [] })) s) ≤ kept s
          go true = made_less d v s
          go false = less_by (kept s) (kept s) refl

      kept_less : (k : Pick) (kinds : List NameKind) (e : Effect) (s : Site) → Less s (kept_step_row limit k kinds e s)
      kept_less k kinds e s =
          let site : kept (kept_step_row limit k kinds e s).site ≡ kept (kept_before kinds e s) = ap kept (kept_site limit k kinds e s) in
          let port = homes_same (after_home_cell e.cell (with_fresh_names kinds s)) (kept_before kinds e s) (port_loses p n limit i C NoRequest NoPick e.port (after_home_cell e.cell (with_fresh_names kinds s))) in
          let home = home_less e.cell (with_fresh_names kinds s) in
          omega (arith, site, port, home)

      way_less : (o : ThreadName) (st : Stack) (s : Site) (whole row : Transition) (e : Effect) (d : Transition) → th ≢ o → Less s whole → Less s row → Way limit o st s whole row e d → Less s d
      way_less o st s whole row e d far h g (Steps finds same) = subst (Less s) (sym same) h
      way_less o st s whole row e d far h g (Opens q end is same) = subst (Less s) (sym same) g
      way_less o st s whole row e d far h g (Sends q value new end is has same) = subst (Less s) (sym same) g
      way_less o st s whole row e d far h g (Makes b v keeps is same) = subst (Less s) (sym same) g
      way_less o st s whole row e d far h g (Exchanges b new told v keeps is has same) = subst (Less s) (sym same) g
      way_less o st s whole row e d far h g (AsksToken b new none same) = subst (Less s) (sym same) (less_same s (request_row limit b new o st s) (own_homes p n limit i C NoRequest NoPick b (cell_record s b).held.token (with_exchange_waiting b o st s)))
      way_less o st s whole row e d far h g (AsksPort q other same) = subst (Less s) (sym same) (less_same s (send_request_row limit q o st s) refl)
      way_less o st s whole row e d far h g (AsksHome b new told is other same) = subst (Less s) (sym same) (less_same s (home_request_row limit b new o st s) refl)
      way_less o st s whole row e d far h g (WaitsEarly b new told is same) = subst (Less s) (sym same) (early (equal_cell c b) (early_more b r s))
        where
          r : EarlyRequest
          r = record { thread = o; asking = s.records.site; new = new }

          none : one_of r ≡ 0
          none = go (equal_thread th o) refl
            where
              go : (x : Bool) → equal_thread th o ≡ x → one_of r ≡ 0
              go true q = absurd (far ((same_thread_decides th o).0 q))
              go false q = ap (λ (x : Bool). cond x 1 0) q

          early : (x : Bool) → kept (with_early b r s) ≤ kept s + cond x (one_of r) 0 → kept (with_early b r s) ≤ kept s
          early true m = omega (arith, m, none)
          early false m = omega (arith, m)
      way_less o st s whole row e d far h g (WaitsPort q same) = subst (Less s) (sym same) (less_same s (without_output (with_asking o st (Port q) s)) refl)

      need_less : (s : Site) (o : ThreadName) (st : Stack) (need : Need) (d : Transition) → th ≢ o → IsUnitFor p n limit s o st need d → Less s d
      need_less s o st (Waits x) d far (z, names, g) = subst (Less s) (sym g) (less_same s (without_output (with_mode o st (mode.Needs z) s)) refl)
      need_less s o st (WaitsAny q) d far (xs, open_on, g) = subst (Less s) (sym g) (less_same s (without_output (with_mode o st (mode.WaitsAny xs) s)) refl)
      need_less s o st (Binds a b) d far (u, t, root, g) = subst (Less s) (sym g) (bind (u.site == s.records.site))
        where
          bind : (x : Bool) → Less s (bind_attempt p n limit o st u t x s)
          bind true = step_less (step_pick o [] (Some (u, t))) [] (effect_here p s [] (Some (u, t)) st) s
          bind false = less_same s (bind_attempt p n limit o st u t false s) refl
      need_less s o st (Takes kinds) d far g =
          way_less o st s (thread_step p n limit o st kinds (fresh_names s kinds) None s) (kept_step p limit o st kinds (fresh_names s kinds) s) (effect_here p s (fresh_names s kinds) None st) d far
          (step_less (step_pick o (fresh_names s kinds) None) kinds (effect_here p s (fresh_names s kinds) None st) s)
          (kept_less (step_pick o (fresh_names s kinds) None) kinds (effect_here p s (fresh_names s kinds) None st) s)
          (way_of limit o st s (thread_step p n limit o st kinds (fresh_names s kinds) None s) (kept_step p limit o st kinds (fresh_names s kinds) s) (effect_here p s (fresh_names s kinds) None st) d g)

      units_less : (ths : List ThreadName) (s : Site) (d : Transition) → s.records.site ≡ i → AreUnits p n limit ths s d → (Belongs i C s d th → ⊥) → Less s d
      units_less [] s d at e far = subst (Less s) (sym e) (less_same s (without_output s) refl)
      units_less (o ∷ ths) s d at (one, rest, unit, units, e) far =
          let number : one.site.records.site ≡ i = (unit_tally p n limit o s one unit).counts.site ∙ at in
          let other : th ≢ o = λ (q : th ≡ o). far (inl (inl (subst (λ (z : ThreadName). (v : ThreadState) × (thread_state s z ≡ Some v)) (sym q) ((unit.0, Runs), unit.1)))) in
          let first : kept one.site ≤ kept s = need_less s o unit.0 (stack_need p s.equations unit.0) one other unit.2 in
          let h : Part i C NoRequest NoPick s one = need_part p n limit i C NoRequest NoPick s o unit.0 (stack_need p s.equations unit.0) one at unit.1 refl unit.2 in
          let g : Part i C NoRequest NoPick one.site rest = units_part p n limit i C NoRequest NoPick ths one.site rest number units in
          let later : kept rest.site ≤ kept one.site = units_less ths one.site rest number units (λ b. far (subst (λ (x : Transition). Belongs i C s x th) (sym e) (belongs_later i C NoRequest NoPick s one rest h g th b))) in
          let both : kept rest.site ≤ kept s = omega (arith, first, later) in
          subst (Less s) (sym e) both

      -- units of other threads make no step of this one
      none_of : (ks : List Pick) → ((k : Pick) → Contains ks k → th ≢ k.thread) → steps ks ≡ 0
      none_of [] h = refl
      none_of (k ∷ ks) h = go (equal_thread th k.thread) refl (none_of ks (λ l q. h l (Contains-tail k l ks q)))
        where
          go : (x : Bool) → equal_thread th k.thread ≡ x → steps ks ≡ 0 → steps (k ∷ ks) ≡ 0
          go true q ih = absurd (h k (Contains-head k ks) ((same_thread_decides th k.thread).0 q))
          go false q ih =
              let e : steps (k ∷ ks) ≡ cond (equal_thread th k.thread) 1 0 + steps ks = sum_by-cons (λ (x : Pick). cond (equal_thread th x.thread) 1 0) k ks in
              let zero : ◌≡◌ {A = ℕ} (cond (equal_thread th k.thread) 1 0) 0 = ap (λ (x : Bool). cond x 1 0) q in
              omega (arith, e, zero, ih)

      -- ---- a turn

      turn_pays : (m : Option Msg) (s : Site) (d : Transition) → s.records.site ≡ i → AllComes C p limit m → SiteTurn p n limit s m d → (Belongs i C s d th → ⊥) → Pays m s d
      turn_pays m s d at comes (ths, few, (heard, rest, reception, units, e)) far = subst (Pays m s) (sym e) (go (is_about c m) (heard_pays n m s heard reception))
        where
          number : heard.site.records.site ≡ i
          number = heard_site p n limit m s heard reception ∙ at

          h : Part i C (AllBrought C p limit m) (IsAsked C p limit m s.homes) s heard
          h = heard_part C p limit i n m s heard comes reception

          g : Part i C (AllBrought C p limit m) (IsAsked C p limit m s.homes) heard.site rest
          g = units_part p n limit i C (AllBrought C p limit m) (IsAsked C p limit m s.homes) ths heard.site rest number units

          apart : Belongs i C heard.site rest th → ⊥
          apart b = far (subst (λ (x : Transition). Belongs i C s x th) (sym e) (belongs_later i C (AllBrought C p limit m) (IsAsked C p limit m s.homes) s heard rest h g th b))

          less : kept rest.site ≤ kept heard.site
          less = units_less ths heard.site rest number units apart

          only : Part i C NoRequest NoPick heard.site rest
          only = units_part p n limit i C NoRequest NoPick ths heard.site rest number units

          none : steps rest.picks ≡ 0
          none = none_of rest.picks (λ k q same. of_pick k same (only.picks k q))
            where
              of_pick : (k : Pick) → th ≡ k.thread → ⊥ ⊎ Belongs i C heard.site rest k.thread → ⊥
              of_pick k same (inl x) = x
              of_pick k same (inr b) = apart (subst (λ (z : ThreadName). Belongs i C heard.site rest z) (sym same) b)

          both : steps (heard.picks ++ rest.picks) ≡ steps heard.picks + steps rest.picks
          both = sum_by-append (λ (k : Pick). cond (equal_thread th k.thread) 1 0) heard.picks rest.picks

          go : (b : Bool) → kept heard.site + cond b (steps heard.picks) 0 ≤ kept s + asks_for c th m → kept rest.site + cond b (steps (heard.picks ++ rest.picks)) 0 ≤ kept s + asks_for c th m
          go true q = omega (arith, q, less, none, both)
          go false q = omega (arith, q, less)

-- ---- every run

abbrev PaidIn : List Turn → Sites → Type 0
PaidIn j f = (c : CellName) (th : ThreadName) → (IsPlacedAt j th c.at → ⊥) → kept c th (f c.at) + served_at_home c th j ≤ asked_at_home c th j

paid_entry : (p : List Stmt) (n limit : ℕ) (j : List Turn) (e : Turn) (f : Sites) (d : Transition) → Entry p n limit j e f d → PaidIn j f → PaidIn (e ∷ j) (put f e.site d.site)
paid_entry p n limit j e f d entry h c th far = go (e.site == c.at) refl
  where
    placed : PlacedIn n j f
    placed = placed_in p n limit j f entry.run

    before : kept c th (f c.at) + served_at_home c th j ≤ asked_at_home c th j
    before = h c th (λ q. far (inl q))

    go : (b : Bool) → (e.site == c.at) ≡ b →
        kept c th (put f e.site d.site c.at) + (served_at_home c th j + cond (e.site == c.at) (served_in c th (delivered_message j e.delivered) e.picks) 0) ≤ asked_at_home c th j + cond (e.site == c.at) (asks_for c th (delivered_message j e.delivered)) 0
    go true q =
        let site : kept c th (put f e.site d.site c.at) ≡ kept c th d.site = ap (kept c th) (ap (put f e.site d.site) (sym same) ∙ at_here f e.site d.site) in
        let was : kept c th (f c.at) ≡ kept c th (f e.site) = ap (λ (k : ℕ). kept c th (f k)) (sym same) in
        let x : cond (e.site == c.at) (served_in c th (delivered_message j e.delivered) e.picks) 0 ≡ served_in c th (delivered_message j e.delivered) e.picks = ap (λ (b : Bool). cond b (served_in c th (delivered_message j e.delivered) e.picks) 0) q in
        let y : cond (e.site == c.at) (asks_for c th (delivered_message j e.delivered)) 0 ≡ asks_for c th (delivered_message j e.delivered) = ap (λ (b : Bool). cond b (asks_for c th (delivered_message j e.delivered)) 0) q in
        omega (arith, before, turn, site, was, x, y)
      where
        same : e.site ≡ c.at
        same = (nat_decides e.site c.at).0 q

        turn : kept c th d.site + served_in c th (delivered_message j e.delivered) e.picks ≤ kept c th (f e.site) + asks_for c th (delivered_message j e.delivered)
        turn = subst (λ (ks : List Pick). kept c th d.site + served_in c th (delivered_message j e.delivered) ks ≤ kept c th (f e.site) + asks_for c th (delivered_message j e.delivered)) (sym entry.tells.picks)
            (turn_pays c th p limit n e.site (Came p n limit j e f d entry placed) (delivered_message j e.delivered) (f e.site) d (own p n limit j e f d entry placed) (comes p n limit j e f d entry placed) entry.turn
            (λ b. far (subst (IsPlacedAt (e ∷ j) th) same (belongs p n limit j e f d entry placed th b))))
    go false q =
        let other : c.at ≢ e.site = λ (z : c.at ≡ e.site). let yes : (e.site == c.at) ≡ true = (nat_decides e.site c.at).1 (sym z) in cc in
        let site : kept c th (put f e.site d.site c.at) ≡ kept c th (f c.at) = ap (kept c th) (at_other f e.site d.site c.at other) in
        let x : cond (e.site == c.at) (served_in c th (delivered_message j e.delivered) e.picks) 0 ≡ 0 = ap (λ (b : Bool). cond b (served_in c th (delivered_message j e.delivered) e.picks) 0) q in
        omega (arith, before, site, x)

pub homes_serve_requests : HomesServeRequests
homes_serve_requests p n limit j w run c th far = let h = every_run p n limit PaidIn (λ b o away. none) (paid_entry p n limit) j w run c th far in omega (arith, h)
  where
    none : ◌≤◌ 0 0
    none = omega arith
