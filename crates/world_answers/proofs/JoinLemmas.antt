-- Units and messages that are no requests and no answers keep a world joined with the machine.
use Rattle.std.proofs.Common.{◌≡◌, ◌∙◌, sym, ap, subst, ℕ, ◌≤◌, length, List, [], ◌++◌, ◌⊎◌, inl, inr, true, Some, None, refl}
use Rattle.std.specs.Prelude.{Option, Contains, ◌≢◌}
use Rattle.std.proofs.lemmas.List.Elements.{Contains-append_left}
use Rattle.tree_node.specs.declared.names.VarName.{VarName}
use Rattle.tree_node.specs.declared.names.ThreadName.{ThreadName}
use Rattle.tree_node.specs.declared.pick.Pick.{Pick}
use Rattle.tree_node.specs.Assoc.{value_of}
use Rattle.tree_node.specs.Each.{Each, AreDistinct}
use Rattle.tree_node.specs.Names.{IsNew}
use Rattle.tree_node.specs.State.{Stack, State, equal_thread}
use Rattle.kernel_syntax.specs.declared.stmt.Stmt.{Stmt}
use Rattle.site_message.specs.declared.message.Msg.{Msg}
use Rattle.site_message.specs.declared.message.Msg.TheVariants as msg
use Rattle.site_message.specs.declared.message.Sent.{Sent}
use Rattle.oz_model.specs.Answers.{IsPartOf}
use Rattle.oz_model.specs.Effect.{Birth}
use Rattle.oz_model.specs.Run.{Run as ModelRun, exchanges}
use Rattle.oz_model.proofs.OnceLemmas.{BornFrom}
use Rattle.oz_model.proofs.SoundLemmas.{runs_are_sound}
use Rattle.bind_protocol.specs.Records.{Records}
use Rattle.thread_roster.specs.declared.mode.Awaited.{Awaited}
use Rattle.thread_roster.specs.declared.mode.Awaited.TheVariants.{Cell}
use Rattle.thread_roster.specs.declared.mode.Mode.TheVariants as mode
use Rattle.site_model.specs.Cells.{effect_here}
use Rattle.site_model.specs.Fit.{CanTake}
use Rattle.site_model.specs.Messages.{reception}
use Rattle.site_model.specs.Site.{Site, Threads, HomeRecord, cell_record}
use Rattle.tree_node.specs.declared.names.CellName.{CellName}
use Rattle.world_model.specs.Keepers.{homes, early_at}
use Rattle.site_model.specs.Transition.{Transition}
use Rattle.site_model.specs.Unit.{IsUnit, fresh_names, next_names}
use Rattle.site_model.specs.Variables.{opening}
use Rattle.world_model.specs.Chain.{mobile_cells}
use Rattle.world_model.specs.Matches.{CellsMatch}
use Rattle.world_model.specs.Names.{IsHere}
use Rattle.world_model.specs.Shown.{is_asking, standing, standing_site, shown, shown_world}
use Rattle.world_model.specs.World.{World, Sites, IsOnItsWay, put, eqs, records, threads, counters, mail_from, without_number, after_transition, after_receipt}
use Rattle.world_model.proofs.PutLemmas.{at_all, at_here, field_kept}
use Rattle.world_variables.specs.Laws.{IsForeignBinding}
use Rattle.world_variables.specs.Sums.{names}
use Rattle.world_variables.proofs.MakeLemmas.{next_fresh}
use Rattle.world_variables.proofs.OwnLemmas.{new_none}
use Rattle.world_variables.proofs.ReceiveLemmas.{numbered_acts}
use Rattle.world_variables.proofs.SumLemmas.{IsUnborn}
use Rattle.world_cells.specs.Reached.{ReachedFrom}
use Rattle.world_cells.specs.Standing.{IsStanding, IsKeptUnit}
use Rattle.world_cells.proofs.QueueLemmas.{SameWaiters}
use Rattle.world_cells.proofs.MessageLemmas.{message_wider, cells_v}
use Rattle.world_cells.proofs.MessageTallyLemmas.{AsksFrom, message_tallied}
use Rattle.world_cells.proofs.UnitTallyLemmas.{Tally, unit_tallied}
use Rattle.world_cells.proofs.RowLemmas.{units_are_reached, messages_are_reached}
use Rattle.world_answers.specs.Joined.{Joined}
use Rattle.world_answers.proofs.BesideLemmas.{Beside, reception_beside}
use Rattle.world_answers.proofs.GrowLemmas.{made_grow, same_grow, rows_counted, heard_counters}
use Rattle.world_answers.proofs.HeardLemmas.{heard_grows, heard_waiters, heard_once}
use Rattle.world_answers.proofs.LeaveLemmas.{tally_real, tally_shown}
use Rattle.world_cells.proofs.PlacedLemmas.{NoPlaced, unit_placed, message_placed}
use Rattle.world_answers.proofs.BalanceLemmas.{Balances, none_came, placed_none}
use Rattle.world_answers.proofs.BalanceRowLemmas.{still_balances}
use Rattle.world_answers.proofs.OwedLemmas.{Owes, Nobody, owes_none, standing_none}
use Rattle.world_answers.proofs.RowsLemmas.{IsRow, Waited, Stepped, Requested, Bound, unit_row, Bears, rows_beside, rows_here, rows_grow, rows_waiters, rows_once}
use Rattle.world_answers.proofs.ShownLemmas.{standing_found, stands_from, shown_real, put_shown}
use Rattle.world_answers.proofs.StandLemmas.{standing_sent, standing_gone, requests_then, answers_stay, nowhere}
use Rattle.world_answers.proofs.ViewLemmas.{standing_deed, StandsAt, QueueStands, view_opening, view_reception, view_unit, kept_unit}

-- site i does this, seen without those that wait for answers
pub shown_acts : (w : World) (transit : Threads) (i : ℕ) (d : Transition) → i ≢ 0 → after_transition (shown_world w transit) i (standing_deed d) ≡ shown_world (after_transition w i d) transit
shown_acts w transit i d real = ap (λ (f : Sites). record (shown_world (after_transition w i d) transit) { sites = f }) (sym (put_shown w.sites transit i d.site real))

module _ (p : List Stmt) (n limit i : ℕ) (real : i ≢ 0) (w : World) (ks : List Pick) (j : Joined p w ks) (th : ThreadName) (d : Transition) (unit : IsUnit p n limit th (w.sites i) d) (other : IsKeptUnit p (w.sites i) th → ⊥) where
  shown_at : shown w.sites j.transit i ≡ standing_site (w.sites i)
  shown_at = shown_real w.sites j.transit i real

  -- the machine follows
  pub now : ReachedFrom p j.reached.centre (shown_world (after_transition w i d) j.transit) (ks ++ d.picks)
  now = subst (λ (v : World). ReachedFrom p j.reached.centre v (ks ++ d.picks)) (shown_acts w j.transit i d real)
      (units_are_reached p n limit i (shown_world w j.transit) ks th (standing_deed d) real j.reached
      (subst (λ (s : Site). IsUnit p n limit th s (standing_deed d)) (sym shown_at) (view_unit p n limit th (w.sites i) d unit other))
      (λ k. other (kept_unit p n limit th (w.sites i) (subst (λ (s : Site). IsKeptUnit p s th) shown_at k))))

  row : IsRow p n limit th unit.0 (w.sites i) d
  row = unit_row p n limit th (w.sites i) d unit other

  number : (w.sites i).records.site ≡ i
  number = (j.reached.parts.kept i).site

  -- a new thread's name is no thread's
  bears : (r : IsRow p n limit th unit.0 (w.sites i) d) → Bears p n limit th (w.sites i) unit.0 d r
  bears (Waited m f is) = tt
  bears (Requested c new zero is) = tt
  bears (Bound u t is) = tt
  bears (Stepped kinds fresh bind born known is) = go (effect_here p (w.sites i) fresh bind unit.0).born born
    where
      new : (fresh ≡ []) ⊎ (fresh ≡ fresh_names (w.sites i) kinds) → Each (IsNew j.reached.centre) fresh
      new (inl e) = subst (Each (IsNew j.reached.centre)) (sym e) tt
      new (inr e) = subst (Each (IsNew j.reached.centre)) (sym (e ∙ ap (λ (k : ℕ). next_names k (w.sites i).counters kinds) number)) (next_fresh (counters w.sites) j.reached.centre i kinds real j.reached.parts.centred).unused

      go : (o : Option Birth) → BornFrom fresh o → IsUnborn (w.sites i) o
      go None f = tt
      go (Some b) (rest, is) = nowhere p w ks j b.name (new_none j.reached.centre.threads b.name (subst (Each (IsNew j.reached.centre)) is (new known)).0.3) i real

  pub unit_joined : Joined p (after_transition w i d) (ks ++ d.picks)
  unit_joined = record {
    transit = j.transit;
    reached = now.0;
    answers = answers_stay p w (after_transition w i d) j.transit j.reached.centre now.0.centre j.answers
        (λ k. (now.0.parts.kept k).sound)
        (at_all w.sites i d.site (λ k (s : Site). IsPartOf (eqs w.sites k) s.equations) (rows_grow p n limit th (w.sites i) unit.0 d row) (λ k far x c. c))
        (at_all w.sites i d.site (λ k (s : Site). (y : VarName) → IsHere (records w.sites k) y → IsHere s.records y) (rows_here p n limit th (w.sites i) unit.0 d row) (λ k far y h. h))
        (at_all w.sites i d.site (λ k (s : Site). (a : Awaited) → is_asking (mode.WaitsFor a) ≡ true → SameWaiters (threads w.sites k) s.threads a) (rows_waiters p n limit th (w.sites i) unit.0 d unit.1 row (bears row)) (λ k far a asks. record { old = λ o st h. h; new = λ o st h. h }))
        (standing_sent w.mail w.sent d.sent beside.silent)
        (field_kept (λ (s : Site). s.homes) w.sites i d.site beside.homes)
        (field_kept (λ (s : Site). s.ports) w.sites i d.site beside.ports)
        now.1 (made_grow w.sites i d.site (rows_counted p n limit th (w.sites i) unit.0 d row));
    once = at_all w.sites i d.site (λ k (s : Site). AreDistinct (names s.threads)) (rows_once p n limit th (w.sites i) unit.0 d row (bears row) (j.once i)) (λ k far. j.once k);
  }
    where
      beside : Beside (w.sites i) d
      beside = rows_beside p n limit th (w.sites i) unit.0 d row

  -- it asks for nothing, and answers nobody
  pub other_owes : Owes p (w.sites i) j.reached.centre d [] Nobody
  other_owes = owes_none p (w.sites i) j.reached.centre d Nobody (rows_beside p n limit th (w.sites i) unit.0 d row).silent
      (λ a asks far m back st h. (rows_waiters p n limit th (w.sites i) unit.0 d unit.1 row (bears row) a asks).new m st h)

  -- and exchanges no content of a stationary cell
  pub other_balances : (R : ℕ → ThreadName → Type 0) → Balances p R none_came w.sites (put w.sites i d.site) j.reached.centre d
  other_balances R = still_balances p R w.sites (put w.sites i d.site) j.reached.centre d none_came (λ b th. refl) (λ b. ap (λ (hs : ℕ → List (CellName × HomeRecord)). early_at hs b) (field_kept (λ (s : Site). s.homes) w.sites i d.site beside.homes))
      (λ f vanishes. placed_none f vanishes p j.reached.centre d.picks placed) (standing_none d.sent beside.silent).contents_asked (standing_none d.sent beside.silent).contents_told
    where
      beside : Beside (w.sites i) d
      beside = rows_beside p n limit th (w.sites i) unit.0 d row

      placed : NoPlaced p j.reached.centre d.picks
      placed = unit_placed p n limit i real (shown_world w j.transit) ks j.reached.centre j.reached.run (runs_are_sound p ks j.reached.centre j.reached.run) j.reached.parts j.reached.numbers j.reached.cells j.reached.sums th (standing_deed d)
          (subst (λ (s : Site). IsUnit p n limit th s (standing_deed d)) (sym shown_at) (view_unit p n limit th (w.sites i) d unit other))
          (λ k. other (kept_unit p n limit th (w.sites i) (subst (λ (s : Site). IsKeptUnit p s th) shown_at k)))

  -- and its exchanges pay
  pub other_tally : 1 ≤ i → i ≤ n → (out : List Sent) → Tally p n w j.reached.centre ks out → (c2 : State) → ModelRun p (ks ++ d.picks) c2 → Tally p n (after_transition w i d) c2 (ks ++ d.picks) (out ++ d.sent)
  other_tally low high out t c2 run2 = tally_real n (after_transition w i d).sites j.transit (after_transition w i d).mail (mobile_cells c2.cells) (out ++ d.sent) (λ b. length (exchanges p (ks ++ d.picks) b))
      (subst (λ (v : World). Tally p n v c2 (ks ++ d.picks) (out ++ d.sent)) (shown_acts w j.transit i d real)
      (unit_tallied p n limit i real (shown_world w j.transit) ks j.reached.centre j.reached.run (runs_are_sound p ks j.reached.centre j.reached.run) j.reached.parts j.reached.numbers j.reached.cells j.reached.sums low high out
      (tally_shown n w.sites j.transit w.mail (mobile_cells j.reached.centre.cells) out (λ b. length (exchanges p ks b)) t) th (standing_deed d)
      (subst (λ (s : Site). IsUnit p n limit th s (standing_deed d)) (sym shown_at) (view_unit p n limit th (w.sites i) d unit other))
      (λ k. other (kept_unit p n limit th (w.sites i) (subst (λ (s : Site). IsKeptUnit p s th) shown_at k))) c2 run2))

-- ---- messages

module _ (p : List Stmt) (limit i : ℕ) (real : i ≢ 0) (w : World) (ks : List Pick) (j : Joined p w ks) (k : ℕ) (m : Msg) (stands : IsStanding m) (far : IsForeignBinding i m) (at : IsOnItsWay w.mail k i m) (takes : CanTake (w.sites i) m) where
  abbrev s : Site
  s = w.sites i

  abbrev deed : Transition
  deed = reception p limit m (w.sites i)

  site_is : shown w.sites j.transit i ≡ standing_site (w.sites i)
  site_is = shown_real w.sites j.transit i real

  -- those that wait for the token that comes stand
  queue : QueueStands (opening m (w.sites i)).site m
  queue = go m at
    where
      go : (m : Msg) → IsOnItsWay w.mail k i m → QueueStands (opening m (w.sites i)).site m
      go (msg.Put c v bundle) at = λ n h. lines n (subst (λ (x : Site). (st : Stack) × (value_of equal_thread x.threads n ≡ Some (st, mode.WaitsFor (Cell c)))) opened_is ((here.queues i c).stand n (subst (λ (x : Site). Contains (cell_record x c).queue n) (sym opened_is) h)))
        where
          here : CellsMatch (after_transition (shown_world w j.transit) i (opening (msg.Put c v bundle) (shown w.sites j.transit i))) j.reached.centre
          here = cells_v p limit (shown_world w j.transit) ks j.reached k i (msg.Put c v bundle) real at

          opened_is : (after_transition (shown_world w j.transit) i (opening (msg.Put c v bundle) (shown w.sites j.transit i))).sites i ≡ standing_site (opening (msg.Put c v bundle) (w.sites i)).site
          opened_is =
              at_here (shown w.sites j.transit) i (opening (msg.Put c v bundle) (shown w.sites j.transit i)).site
              ∙ ap (λ (x : Site). (opening (msg.Put c v bundle) x).site) site_is
              ∙ ap (λ (x : Transition). x.site) (view_opening (msg.Put c v bundle) (w.sites i))

          lines : (n : ThreadName) → (st : Stack) × (value_of equal_thread (standing (opening (msg.Put c v bundle) (w.sites i)).site.threads) n ≡ Some (st, mode.WaitsFor (Cell c))) → StandsAt (opening (msg.Put c v bundle) (w.sites i)).site n
          lines n (st, e) =
              let f = stands_from (opening (msg.Put c v bundle) (w.sites i)).site.threads n (st, mode.WaitsFor (Cell c)) e in
              sym (standing_found (opening (msg.Put c v bundle) (w.sites i)).site.threads n) ∙ e ∙ sym f.0
      go (msg.Spawn n code vars bundle) at = tt
      go (msg.Register x a) at = tt
      go (msg.BindReq x n t bundle) at = tt
      go (msg.Binding x t bundle) at = tt
      go (msg.Get c a) at = tt
      go (msg.Forward c a) at = tt
      go (msg.PortSend q n a) at = tt
      go (msg.PortEnd n old new bundle) at = tt
      go (msg.CellMake c v bundle) at = tt
      go (msg.CellAsk c n a v bundle) at = tt
      go (msg.CellOld n v bundle) at = tt

  pub heard_now : ReachedFrom p j.reached.centre (shown_world (after_receipt (Some k) (after_transition w i deed)) j.transit) (ks ++ deed.picks)
  heard_now = subst (λ (v : World). ReachedFrom p j.reached.centre (after_receipt (Some k) v) (ks ++ deed.picks)) (shown_acts w j.transit i deed real)
      (subst (λ (d : Transition). ReachedFrom p j.reached.centre (after_receipt (Some k) (after_transition (shown_world w j.transit) i d)) (ks ++ d.picks)) (view_reception p limit m (w.sites i) stands queue)
      (subst (λ (x : Site). ReachedFrom p j.reached.centre (after_receipt (Some k) (after_transition (shown_world w j.transit) i (reception p limit m x))) (ks ++ (reception p limit m x).picks)) site_is
      (messages_are_reached p limit (shown_world w j.transit) ks k i m real j.reached stands far at)))

  -- it asks for nothing, and answers nobody
  pub heard_owes : Owes p (w.sites i) j.reached.centre deed [] Nobody
  heard_owes = owes_none p (w.sites i) j.reached.centre deed Nobody (reception_beside p limit m (w.sites i) stands).silent
      (λ a asks away n back st h. (heard_waiters p limit m (w.sites i) stands takes queue a asks).new n st h)

  -- and exchanges no content of a stationary cell
  pub heard_balances : (R : ℕ → ThreadName → Type 0) → Balances p R none_came w.sites (put w.sites i deed.site) j.reached.centre deed
  heard_balances R = still_balances p R w.sites (put w.sites i deed.site) j.reached.centre deed none_came (λ b th. refl) (λ b. ap (λ (hs : ℕ → List (CellName × HomeRecord)). early_at hs b) (field_kept (λ (s : Site). s.homes) w.sites i deed.site beside.homes))
      (λ f vanishes. placed_none f vanishes p j.reached.centre deed.picks placed) (standing_none deed.sent beside.silent).contents_asked (standing_none deed.sent beside.silent).contents_told
    where
      beside : Beside (w.sites i) deed
      beside = reception_beside p limit m (w.sites i) stands

      placed : NoPlaced p j.reached.centre deed.picks
      placed = subst (λ (d : Transition). NoPlaced p j.reached.centre d.picks) (view_reception p limit m (w.sites i) stands queue)
          (subst (λ (x : Site). NoPlaced p j.reached.centre (reception p limit m x).picks) site_is (message_placed p limit (shown_world w j.transit) ks j.reached k i real m at stands far))

  -- and its exchanges pay
  pub heard_tally : (n : ℕ) → 1 ≤ i → i ≤ n → (out : List Sent) → Tally p n w j.reached.centre ks out → AsksFrom n m → (c2 : State) → ModelRun p (ks ++ deed.picks) c2 →
      Tally p n (after_receipt (Some k) (after_transition w i deed)) c2 (ks ++ deed.picks) (out ++ deed.sent)
  heard_tally n low high out t asks c2 run2 = tally_real n (after_transition w i deed).sites j.transit (after_receipt (Some k) (after_transition w i deed)).mail (mobile_cells c2.cells) (out ++ deed.sent) (λ b. length (exchanges p (ks ++ deed.picks) b))
      (subst (λ (v : World). Tally p n (after_receipt (Some k) v) c2 (ks ++ deed.picks) (out ++ deed.sent)) (shown_acts w j.transit i deed real)
      (subst (λ (d : Transition). ModelRun p (ks ++ d.picks) c2 → Tally p n (after_receipt (Some k) (after_transition (shown_world w j.transit) i d)) c2 (ks ++ d.picks) (out ++ d.sent)) (view_reception p limit m (w.sites i) stands queue)
      (subst (λ (x : Site). ModelRun p (ks ++ (reception p limit m x).picks) c2 → Tally p n (after_receipt (Some k) (after_transition (shown_world w j.transit) i (reception p limit m x))) c2 (ks ++ (reception p limit m x).picks) (out ++ (reception p limit m x).sent)) site_is
      (message_tallied p n limit (shown_world w j.transit) ks j.reached k i real low high out (tally_shown n w.sites j.transit w.mail (mobile_cells j.reached.centre.cells) out (λ b. length (exchanges p ks b)) t) m at stands far asks c2)) run2))

  -- the machine's picks are those of the site
  pub heard_picks : (reception p limit m (shown w.sites j.transit i)).picks ≡ deed.picks
  heard_picks = ap (λ (x : Site). (reception p limit m x).picks) site_is ∙ ap (λ (d : Transition). d.picks) (view_reception p limit m (w.sites i) stands queue)

  heard_records : (reception p limit m (shown w.sites j.transit i)).site.records ≡ (reception p limit m (w.sites i)).site.records
  heard_records = ap (λ (x : Site). (reception p limit m x).site.records) site_is ∙ ap (λ (d : Transition). d.site.records) (view_reception p limit m (w.sites i) stands queue)

  numbers : (l a b : ℕ) (x y : Msg) → IsOnItsWay (after_transition w i deed).mail l a x → IsOnItsWay (after_transition w i deed).mail l b y → (a ≡ b) × (x ≡ y)
  numbers l a b x y = (numbered_acts w i deed j.reached.numbers).once l a b x y

  pub message_joined : Joined p (after_receipt (Some k) (after_transition w i deed)) (ks ++ deed.picks)
  message_joined = record {
    transit = j.transit;
    reached = heard_now.0;
    answers = answers_stay p w (after_receipt (Some k) (after_transition w i deed)) j.transit j.reached.centre heard_now.0.centre j.answers
        (λ l. (heard_now.0.parts.kept l).sound)
        (at_all w.sites i deed.site (λ l (x : Site). IsPartOf (eqs w.sites l) x.equations) (heard_grows p limit m (w.sites i) stands) (λ l other x c. c))
        (at_all w.sites i deed.site (λ l (x : Site). (y : VarName) → IsHere (records w.sites l) y → IsHere x.records y)
        (λ y h. subst (λ (b : Records). IsHere b y) heard_records (message_wider p limit (shown_world w j.transit) ks j.reached k i m real stands far at y h)) (λ l other y h. h))
        (at_all w.sites i deed.site (λ l (x : Site). (a : Awaited) → is_asking (mode.WaitsFor a) ≡ true → SameWaiters (threads w.sites l) x.threads a) (heard_waiters p limit m (w.sites i) stands takes queue) (λ l other a asks. record { old = λ o st h. h; new = λ o st h. h }))
        (requests_then w.mail (w.mail ++ mail_from w.sent deed.sent) (without_number k (w.mail ++ mail_from w.sent deed.sent)) (standing_sent w.mail w.sent deed.sent beside.silent)
        (standing_gone (w.mail ++ mail_from w.sent deed.sent) k i m stands (numbers k) (Contains-append_left w.mail (mail_from w.sent deed.sent) _ at)))
        (field_kept (λ (x : Site). x.homes) w.sites i deed.site beside.homes)
        (field_kept (λ (x : Site). x.ports) w.sites i deed.site beside.ports)
        heard_now.1 (made_grow w.sites i deed.site (same_grow (w.sites i).counters deed.site.counters (heard_counters p limit m (w.sites i) stands)));
    once = at_all w.sites i deed.site (λ l (x : Site). AreDistinct (names x.threads)) (heard_once p limit m (w.sites i) stands takes (j.once i)) (λ l other. j.once l);
  }
    where
      beside : Beside (w.sites i) deed
      beside = reception_beside p limit m (w.sites i) stands
