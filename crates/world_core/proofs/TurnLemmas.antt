-- A world at its start, and after a turn.
use Rattle.std.proofs.Common.{arith, ◌≡◌, ◌≢◌, ◌∙◌, sym, ap, refl, subst, ℕ, zero, suc, ◌+◌, ◌-◌, ◌<◌, ◌≤◌, List, [], ◌∷◌, ◌++◌, length, length-append, length-set, map, get_or, Bool, true, false, cond}
use Rattle.std.specs.Prelude.{Option, Some, None, ◌==◌, slice_get, slice_set}
use Rattle.std.specs.List.{enumerate_from}
use Rattle.std.proofs.lemmas.Option.{slice_get_read}
use Rattle.tree_node.specs.declared.names.ThreadName.{ThreadName}
use Rattle.kernel_syntax.specs.declared.stmt.Stmt.{Stmt}
use Rattle.kernel_syntax.specs.Program.{IsProgram}
use Rattle.site_message.specs.declared.message.Msg.{Msg}
use Rattle.site_message.specs.declared.message.Sent.{Sent}
use Rattle.site_message.specs.declared.story.NoSeat.{NoSeat}
use Rattle.site_message.specs.declared.turn.Turn.{Turn}
use Rattle.site_message.specs.Journal.{DeliversOnce, IsTravelling, sent_of, was_delivered, is_number}
use Rattle.site_model.specs.Bundle.{bundle_limit}
use Rattle.site_model.specs.Site.{Site, initial_site}
use Rattle.site_model.specs.Run.{WorldRun, delivered_message, message_of}
use Rattle.site_model.specs.Turn.{IsFullTurnOf}
use Rattle.site_core.specs.Site.{SiteState, IsTurnMade, IsTurnInOrder, message_in, number_in}
use Rattle.site_core.specs.Start.{first_order}
use Rattle.world_core.specs.declared.travel.Travel.{Travel}
use Rattle.world_core.specs.Mail.{MailState, message_at, AreBelow}
use Rattle.world_core.specs.Travels.{travel_of, IsNumberAt}
use Rattle.world_core.proofs.MailLemmas.{travel_at}
use Rattle.world_core.specs.World.{WorldState, IsWorldTurn, IsWorldTurnInOrder, KnowledgeStays, IsLive, IsConsistent, IsSiteOf, IsNewSite, IsTaken, state_in, states_by, states_of, order_in, orders_by, orders_of, travelling_at}
use Rattle.world_core.proofs.PlaceLemmas.{set_all, read_there, read_past, read_same}
use Rattle.world_core.proofs.TravelLemmas.{mail_grows, travels_there, none_either, get_past}
use Rattle.world_core.proofs.WorldLemmas.{run_grows, run_starts, machine}
use Rattle.site_model.proofs.FrameLemmas.{few_units}
use Rattle.oz_model.specs.Answers.{IsPartOf}
use Rattle.world_model.proofs.PutLemmas.{nat_decides}
use Rattle.world_simulation.proofs.GrowLemmas.{equations_stay}
use Rattle.bind_protocol.proofs.ListLemmas.{set_here, set_other}

-- ---- the start

pub new_states : (p : List Stmt) (n : ℕ) (ss : List (SiteState NoSeat)) → ((i : ℕ) (s : SiteState NoSeat) → slice_get ss i ≡ Some s → IsNewSite p n i s) → (i : ℕ) → states_by p n (map state_in ss) i ≡ initial_site p n i
new_states p n ss new zero = refl
new_states p n ss new (suc i) = by (slice_get ss i) refl
  where
    by : (o : Option (SiteState NoSeat)) → slice_get ss i ≡ o → get_or (map state_in ss) i (initial_site p n (suc i)) ≡ initial_site p n (suc i)
    by None e = read_past state_in ss i (initial_site p n (suc i)) e
    by (Some s) e =
        let one : i + 1 ≡ suc i = omega arith in
        read_there state_in ss i s (initial_site p n (suc i)) e ∙ (new i s e).1 ∙ ap (initial_site p n) one

pub new_orders : (p : List Stmt) (n : ℕ) (ss : List (SiteState NoSeat)) → ((i : ℕ) (s : SiteState NoSeat) → slice_get ss i ≡ Some s → IsNewSite p n i s) → (i : ℕ) → orders_by (map order_in ss) i ≡ first_order i
new_orders p n ss new zero = refl
new_orders p n ss new (suc i) = by (slice_get ss i) refl
  where
    by : (o : Option (SiteState NoSeat)) → slice_get ss i ≡ o → get_or (map order_in ss) i (first_order (suc i)) ≡ first_order (suc i)
    by None e = read_past order_in ss i (first_order (suc i)) e
    by (Some s) e =
        let one : i + 1 ≡ suc i = omega arith in
        read_there order_in ss i s (first_order (suc i)) e ∙ (new i s e).2 ∙ ap first_order one

pub starts : (p : List Stmt) (n : ℕ) (ss : List (SiteState NoSeat)) (mail : MailState) → IsProgram p → 1 ≤ n → n ≤ 64 → length ss ≡ n → ((i : ℕ) (s : SiteState NoSeat) → slice_get ss i ≡ Some s → IsNewSite p n i s) →
    mail.queues ≡ n + 1 → mail.messages ≡ [] → IsConsistent p [] ss mail 0 false
starts p n ss mail is low high long new queues empty =
    let states = new_states p (length ss) ss (λ i s at. subst (λ (k : ℕ). IsNewSite p k i s) (sym long) (new i s at)) in
    let run : WorldRun p (length ss) bundle_limit [] (states_by p (length ss) (map state_in ss)) = run_starts p (length ss) bundle_limit (states_by p (length ss) (map state_in ss)) states in
    record {
      program = is;
      range = (omega arith, omega arith);
      run = (states_by p (length ss) (map state_in ss), run);
      live = λ _. record {
        run = run;
        each = λ i s at. subst (λ (k : ℕ). IsSiteOf p k s) (sym long) (new i s at).0;
        count = refl;
        queues = queues ∙ ap (λ (k : ℕ). k + 1) (sym long);
        travels = λ k. ap (λ (ms : List (ℕ × Sent)). message_at ms k) empty;
      };
    }

-- ---- a world that is given up

pub given_up : (p : List Stmt) (j : List Turn) (ss rs : List (SiteState NoSeat)) (mail box : MailState) (sent next : ℕ) (spent : Bool) → length rs ≡ length ss → IsConsistent p j ss mail sent spent → IsConsistent p j rs box next true
given_up p j ss rs mail box sent next spent long k = record {
  program = k.program;
  range = (let r = k.range.0 in omega arith, let r = k.range.1 in omega arith);
  run = subst (λ (n : ℕ). (w : ℕ → Site) × WorldRun p n bundle_limit j w) (sym long) k.run;
  live = λ e. cc;
}

-- ---- the message of a turn

module _ (j : List Turn) (ms ns : List (ℕ × Sent)) (mail : (k : ℕ) → message_at ms k ≡ travelling_at j k) (site : ℕ) where
  abbrev Taken : Option ℕ → Option (ℕ × Msg) → Type 0
  Taken place m = IsTaken ms ns site place m

  pub tells_message : (place : Option ℕ) (m : Option (ℕ × Msg)) → Taken place m → message_in m ≡ delivered_message j (number_in m)
  tells_message None m (none, same) = rw none refl
  tells_message (Some place) m (number, msg, is, at, found, rest) =
      let there = (travels_there j number (record { to = site; msg = msg }) (sym (mail number) ∙ found)).0 in
      rw is (sym (ap message_of there))

  pub taken_once : (place : Option ℕ) (m : Option (ℕ × Msg)) → Taken place m → (q : ℕ) → number_in m ≡ Some q → (o : Sent) × IsTravelling j q o × (o.to ≡ site)
  taken_once None m (none, same) q e = let no : ◌≡◌ {A = Option ℕ} None (Some q) = sym (ap number_in none) ∙ e in cc
  taken_once (Some place) m (number, msg, is, at, found, rest) q e =
      let same : number ≡ q = (let both : ◌≡◌ {A = Option ℕ} (Some number) (Some q) = sym (ap number_in is) ∙ e in cc) in
      (record { to = site; msg = msg }, subst (λ (x : ℕ). IsTravelling j x (record { to = site; msg = msg })) same (travels_there j number (record { to = site; msg = msg }) (sym (mail number) ∙ found)), refl)

  pub taken_out : (place : Option ℕ) (m : Option (ℕ × Msg)) → Taken place m → (q : ℕ) → message_at ns q ≡ cond (is_number (number_in m) q) None (message_at ms q)
  taken_out None m (none, same) q = ap (λ (xs : List (ℕ × Sent)). message_at xs q) same ∙ sym (ap (λ (o : Option (ℕ × Msg)). cond (is_number (number_in o) q) None (message_at ms q)) none)
  taken_out (Some place) m (number, msg, is, at, found, rest) q = rest q ∙ sym (ap (λ (o : Option (ℕ × Msg)). cond (is_number (number_in o) q) None (message_at ms q)) is)

  pub number_at : (place : Option ℕ) (m : Option (ℕ × Msg)) → Taken place m → IsNumberAt (map travel_of ms) site place (number_in m)
  number_at None m (none, same) = ap number_in none
  number_at (Some place) m (number, msg, is, at, found, rest) = (number, travel_at ms place number (record { to = site; msg = msg }) at, ap number_in is)

  pub taken_below : (place : Option ℕ) (m : Option (ℕ × Msg)) → Taken place m → (sent : ℕ) → sent ≡ length (sent_of j) → AreBelow sent ns
  taken_below place m taken sent count q high =
      taken_out place m taken q ∙ none_either (is_number (number_in m) q) (message_at ms q) (mail q ∙ none_either (was_delivered j q) (slice_get (sent_of j) q) (get_past (sent_of j) q (omega arith)))

-- ---- a turn

-- of the site behind the place i, which was s and is t now, with the message that was taken out
module _ (p : List Stmt) (j : List Turn) (ss : List (SiteState NoSeat)) (mail : MailState) (sent : ℕ) (k : IsConsistent p j ss mail sent false)
    (i : ℕ) (inside : i < length ss) (place : Option ℕ) (quantum : ℕ) (few : quantum ≤ 64)
    (s t : SiteState NoSeat) (at : slice_get ss i ≡ Some s) (message : Option (ℕ × Msg)) (box : MailState)
    (taken : IsTaken mail.messages box.messages (suc i) place message)
    (e : Turn) (made : IsTurnMade s.program s.sites s.state message quantum e t.state) where
  live : IsLive p (length ss) j ss mail sent
  live = k.live refl

  abbrev w : ℕ → Site
  w = states_by p (length ss) (map state_in ss)

  abbrev v : ℕ → Site
  v = states_by p (length ss) (map state_in (slice_set ss i t))

  here : w (suc i) ≡ s.state
  here = read_there state_in ss i s (initial_site p (length ss) (suc i)) at

  here_now : v (suc i) ≡ t.state
  here_now = read_there state_in (slice_set ss i t) i t (initial_site p (length ss) (suc i)) (set_here ss i t inside)

  pub others_now : (x : ℕ) → x ≢ suc i → v x ≡ w x
  others_now zero other = refl
  others_now (suc x) other = read_same state_in (slice_set ss i t) ss x (initial_site p (length ss) (suc x)) (set_other ss i x t (λ e. other (ap suc e)))

  is_here : IsSiteOf p (length ss) s
  is_here = live.each i s at

  number_here : s.state.records.site ≡ suc i
  number_here =
      let h = machine p (length ss) j w k.program k.range.0 k.range.1 live.run in
      ap (λ (x : Site). x.records.site) (sym here) ∙ (h.1.matches.parts.kept (suc i)).site

  pub turn_site : e.site ≡ suc i
  turn_site = made.site ∙ number_here

  message_is : message_in message ≡ delivered_message j e.delivered
  message_is = tells_message j mail.messages box.messages live.travels (suc i) place message taken ∙ ap (delivered_message j) (sym made.delivered)

  abbrev Full : List Stmt → ℕ → Site → Option Msg → Type 0
  Full q m x o = IsFullTurnOf q m bundle_limit quantum e.units x o made.turn.0

  full : Full p (length ss) (w (suc i)) (delivered_message j e.delivered)
  full =
      subst (Full p (length ss) (w (suc i))) message_is
      (subst (λ (x : Site). Full p (length ss) x (message_in message)) (sym here)
      (subst (λ (m : ℕ). Full p m s.state (message_in message)) is_here.1
      (subst (λ (q : List Stmt). Full q s.sites s.state (message_in message)) is_here.0 made.turn.1)))

  pub once : DeliversOnce j e
  once q is =
      let o = taken_once j mail.messages box.messages live.travels (suc i) place message taken q (sym made.delivered ∙ is) in
      (o.0, o.1, o.2 ∙ sym turn_site)

  pub run_now : WorldRun p (length ss) bundle_limit (e ∷ j) v
  run_now =
      run_grows p (length ss) bundle_limit j e w v made.turn.0 live.run once
      (subst (λ (x : ℕ). (1 ≤ x) × (x ≤ length ss)) (sym turn_site) (omega arith, omega arith))
      (few_units p (length ss) bundle_limit quantum e.units (w e.site) (delivered_message j e.delivered) made.turn.0 few (subst (λ (x : ℕ). Full p (length ss) (w x) (delivered_message j e.delivered)) (sym turn_site) full))
      made.turn.2
      (ap v turn_site ∙ here_now ∙ made.turn.3)
      (λ x other. others_now x (λ is. other (is ∙ sym turn_site)))

  pub consistent_now : (end : MailState) (next : ℕ) → box.queues ≡ mail.queues → end.queues ≡ box.queues → end.messages ≡ box.messages ++ enumerate_from sent e.sent → next ≡ sent + length e.sent →
      t.program ≡ s.program → t.sites ≡ s.sites → t.spent ≡ false → IsConsistent p (e ∷ j) (slice_set ss i t) end next false
  consistent_now end next queues more messages count program sites spent =
      let long : length (slice_set ss i t) ≡ length ss = length-set ss i t in
      let run : WorldRun p (length (slice_set ss i t)) bundle_limit (e ∷ j) v = subst (λ (m : ℕ). WorldRun p m bundle_limit (e ∷ j) v) (sym long) run_now in
      record {
        program = k.program;
        range = (let r = k.range.0 in omega arith, let r = k.range.1 in omega arith);
        run = (v, run);
        live = λ _. record {
          run = subst (λ (m : ℕ). WorldRun p (length (slice_set ss i t)) bundle_limit (e ∷ j) (states_by p m (map state_in (slice_set ss i t)))) (sym long) run;
          each = set_all (IsSiteOf p (length (slice_set ss i t))) ss i t (λ x y is. subst (λ (m : ℕ). IsSiteOf p m y) (sym long) (live.each x y is)) (program ∙ is_here.0, sites ∙ is_here.1 ∙ sym long, spent);
          count = count ∙ (let c = live.count in let both = length-append (sent_of j) e.sent in omega arith);
          queues = more ∙ queues ∙ live.queues ∙ ap (λ (m : ℕ). m + 1) (sym long);
          travels = λ q. ap (λ (ms : List (ℕ × Sent)). message_at ms q) messages ∙ mail_grows j e (live.run.wired, once) sent live.count mail.messages box.messages live.travels out q;
        };
      }
    where
      out : (q : ℕ) → message_at box.messages q ≡ cond (is_number e.delivered q) None (message_at mail.messages q)
      out q = taken_out j mail.messages box.messages live.travels (suc i) place message taken q ∙ ap (λ (o : Option ℕ). cond (is_number o q) None (message_at mail.messages q)) (sym made.delivered)

  -- as callers see it
  pub world_turn : (old new : WorldState) → old.program ≡ p → old.sites ≡ length ss → old.journal ≡ j → old.states ≡ map state_in ss → old.travels ≡ map travel_of mail.messages →
      new.program ≡ p → new.sites ≡ length ss → new.journal ≡ e ∷ j → new.states ≡ map state_in (slice_set ss i t) → t.state.steps ≤ s.state.steps + quantum → IsWorldTurn old new (suc i) place quantum
  world_turn old new program sites journal states travels program_now sites_now journal_now states_now steps = record {
    entry = e;
    journal = journal_now ∙ ap (λ (l : List Turn). e ∷ l) (sym journal);
    site_is = turn_site;
    delivered = subst (λ (ts : List Travel). IsNumberAt ts (suc i) place e.delivered) (sym travels) (subst (IsNumberAt (map travel_of mail.messages) (suc i) place) (sym made.delivered) (number_at j mail.messages box.messages live.travels (suc i) place message taken));
    turn = (made.turn.0, before, made.turn.2, at_new (suc i) ∙ here_now ∙ made.turn.3);
    few = (let a : (states_of new (suc i)).steps ≡ t.state.steps = ap (λ (x : Site). x.steps) (at_new (suc i) ∙ here_now) in let b : (states_of old (suc i)).steps ≡ s.state.steps = ap (λ (x : Site). x.steps) (at_old (suc i) ∙ here) in omega arith);
    others = λ x other. at_new x ∙ others_now x other ∙ sym (at_old x);
  }
    where
      at_old : (x : ℕ) → states_of old x ≡ w x
      at_old x = λ r. states_by (program r) (sites r) (states r) x

      at_new : (x : ℕ) → states_of new x ≡ v x
      at_new x = λ r. states_by (program_now r) (sites_now r) (states_now r) x

      before : IsFullTurnOf old.program old.sites bundle_limit quantum e.units (states_of old (suc i)) (delivered_message old.journal e.delivered) made.turn.0
      before =
          subst (λ (l : List Turn). IsFullTurnOf old.program old.sites bundle_limit quantum e.units (states_of old (suc i)) (delivered_message l e.delivered) made.turn.0) (sym journal)
          (subst (λ (x : Site). IsFullTurnOf old.program old.sites bundle_limit quantum e.units x (delivered_message j e.delivered) made.turn.0) (sym (at_old (suc i)))
          (subst (λ (m : ℕ). IsFullTurnOf old.program m bundle_limit quantum e.units (w (suc i)) (delivered_message j e.delivered) made.turn.0) (sym sites)
          (subst (λ (q : List Stmt). Full q (length ss) (w (suc i)) (delivered_message j e.delivered)) (sym program) full)))

  abbrev Ordered : List Stmt → ℕ → Site → Option Msg → Site → List ThreadName → List ThreadName → Type 0
  Ordered q m x o y a b = IsTurnInOrder q m x o e y a b

  -- and so are the turns of its threads
  pub world_order : (old new : WorldState) → old.program ≡ p → old.sites ≡ length ss → old.journal ≡ j → old.states ≡ map state_in ss → old.orders ≡ map order_in ss →
      new.program ≡ p → new.sites ≡ length ss → new.journal ≡ e ∷ j → new.states ≡ map state_in (slice_set ss i t) → new.orders ≡ map order_in (slice_set ss i t) →
      Ordered s.program s.sites s.state (message_in message) t.state s.order t.order → IsWorldTurnInOrder old new (suc i)
  world_order old new program sites journal states orders program_now sites_now journal_now states_now orders_now ordered = record {
    entry = e;
    journal = journal_now ∙ ap (λ (l : List Turn). e ∷ l) (sym journal);
    turn = in_world;
    others = λ x other. ap (λ (os : List (List ThreadName)). orders_by os x) orders_now ∙ others x other ∙ sym (ap (λ (os : List (List ThreadName)). orders_by os x) orders);
  }
    where
      others : (x : ℕ) → x ≢ suc i → orders_by (map order_in (slice_set ss i t)) x ≡ orders_by (map order_in ss) x
      others zero other = refl
      others (suc x) other = read_same order_in (slice_set ss i t) ss x (first_order (suc x)) (set_other ss i x t (λ q. other (ap suc q)))

      was : s.state ≡ states_of old (suc i)
      was = sym ((λ r. states_by (program r) (sites r) (states r) (suc i)) ∙ here)

      is : t.state ≡ states_of new (suc i)
      is = sym ((λ r. states_by (program_now r) (sites_now r) (states_now r) (suc i)) ∙ here_now)

      stood : s.order ≡ orders_of old (suc i)
      stood = sym (ap (λ (os : List (List ThreadName)). orders_by os (suc i)) orders ∙ read_there order_in ss i s (first_order (suc i)) at)

      stands : t.order ≡ orders_of new (suc i)
      stands = sym (ap (λ (os : List (List ThreadName)). orders_by os (suc i)) orders_now ∙ read_there order_in (slice_set ss i t) i t (first_order (suc i)) (set_here ss i t inside))

      heard : message_in message ≡ delivered_message old.journal e.delivered
      heard = message_is ∙ ap (λ (l : List Turn). delivered_message l e.delivered) (sym journal)

      in_world : Ordered old.program old.sites (states_of old (suc i)) (delivered_message old.journal e.delivered) (states_of new (suc i)) (orders_of old (suc i)) (orders_of new (suc i))
      in_world =
          subst (λ (q : List Stmt). Ordered q old.sites (states_of old (suc i)) (delivered_message old.journal e.delivered) (states_of new (suc i)) (orders_of old (suc i)) (orders_of new (suc i))) (is_here.0 ∙ sym program)
          (subst (λ (m : ℕ). Ordered s.program m (states_of old (suc i)) (delivered_message old.journal e.delivered) (states_of new (suc i)) (orders_of old (suc i)) (orders_of new (suc i))) (is_here.1 ∙ sym sites)
          (subst (λ (x : Site). Ordered s.program s.sites x (delivered_message old.journal e.delivered) (states_of new (suc i)) (orders_of old (suc i)) (orders_of new (suc i))) was
          (subst (λ (o : Option Msg). Ordered s.program s.sites s.state o (states_of new (suc i)) (orders_of old (suc i)) (orders_of new (suc i))) heard
          (subst (λ (x : Site). Ordered s.program s.sites s.state (message_in message) x (orders_of old (suc i)) (orders_of new (suc i))) is
          (subst (λ (a : List ThreadName). Ordered s.program s.sites s.state (message_in message) t.state a (orders_of new (suc i))) stood
          (subst (λ (b : List ThreadName). Ordered s.program s.sites s.state (message_in message) t.state s.order b) stands ordered))))))

-- ---- one site of a world

pub state_read : (p : List Stmt) (ss : List (SiteState NoSeat)) (site : ℕ) (s : SiteState NoSeat) → 1 ≤ site → site ≤ length ss → s ≡ get_or ss (site - 1) s → states_by p (length ss) (map state_in ss) site ≡ s.state
state_read p ss zero s low high is = absurd (omega arith)
state_read p ss (suc i) s low high is =
    let before : suc i - 1 ≡ i = omega arith in
    let same : s ≡ get_or ss i s = subst (λ (x : ℕ). s ≡ get_or ss x s) before is in
    read_there state_in ss i s (initial_site p (length ss) (suc i)) (slice_get_read ss (length ss) i s refl (omega arith) same)

-- ---- all of a turn

-- what a turn of the site leaves, where its state stands at the place x
pub record After (p : List Stmt) (j : List Turn) (ss : List (SiteState NoSeat)) (mail box : MailState) (sent site x : ℕ) (place : Option ℕ) (quantum : ℕ) (s t : SiteState NoSeat) (e : Turn) : Type 0 where
  pub run : WorldRun p (length ss) bundle_limit (e ∷ j) (states_by p (length ss) (map state_in (slice_set ss x t)))
  pub consistent : (end : MailState) (next : ℕ) → box.queues ≡ mail.queues → end.queues ≡ box.queues → end.messages ≡ box.messages ++ enumerate_from sent e.sent → next ≡ sent + length e.sent →
      t.program ≡ s.program → t.sites ≡ s.sites → t.spent ≡ false → IsConsistent p (e ∷ j) (slice_set ss x t) end next false
  pub turn : (old new : WorldState) → old.program ≡ p → old.sites ≡ length ss → old.journal ≡ j → old.states ≡ map state_in ss → old.travels ≡ map travel_of mail.messages →
      new.program ≡ p → new.sites ≡ length ss → new.journal ≡ e ∷ j → new.states ≡ map state_in (slice_set ss x t) → t.state.steps ≤ s.state.steps + quantum → IsWorldTurn old new site place quantum

pub after_turn : (p : List Stmt) (j : List Turn) (ss : List (SiteState NoSeat)) (mail box : MailState) (sent : ℕ) (k : IsConsistent p j ss mail sent false) (site : ℕ) (low : 1 ≤ site) (high : site ≤ length ss)
    (place : Option ℕ) (quantum : ℕ) (few : quantum ≤ 64) (s t : SiteState NoSeat) (at : s ≡ get_or ss (site - 1) s) (message : Option (ℕ × Msg)) (taken : IsTaken mail.messages box.messages site place message)
    (e : Turn) (made : IsTurnMade s.program s.sites s.state message quantum e t.state) → After p j ss mail box sent site (site - 1) place quantum s t e
after_turn p j ss mail box sent k zero low high place quantum few s t at message taken e made = absurd (omega arith)
after_turn p j ss mail box sent k (suc i) low high place quantum few s t at message taken e made =
    let before : suc i - 1 ≡ i = omega arith in
    let same : s ≡ get_or ss i s = subst (λ (x : ℕ). s ≡ get_or ss x s) before at in
    let found : slice_get ss i ≡ Some s = slice_get_read ss (length ss) i s refl (omega arith) same in
    let inside : i < length ss = omega arith in
    subst (λ (x : ℕ). After p j ss mail box sent (suc i) x place quantum s t e) (sym before) (record {
      run = run_now p j ss mail sent k i inside place quantum few s t found message box taken e made;
      consistent = consistent_now p j ss mail sent k i inside place quantum few s t found message box taken e made;
      turn = world_turn p j ss mail sent k i inside place quantum few s t found message box taken e made;
    })

-- so it is with the order of threads
abbrev OrderAfter : List Stmt → List Turn → List (SiteState NoSeat) → ℕ → ℕ → SiteState NoSeat → SiteState NoSeat → Option (ℕ × Msg) → Turn → Type 0
OrderAfter p j ss site x s t message e =
    (old new : WorldState) → old.program ≡ p → old.sites ≡ length ss → old.journal ≡ j → old.states ≡ map state_in ss → old.orders ≡ map order_in ss →
    new.program ≡ p → new.sites ≡ length ss → new.journal ≡ e ∷ j → new.states ≡ map state_in (slice_set ss x t) → new.orders ≡ map order_in (slice_set ss x t) →
    IsTurnInOrder s.program s.sites s.state (message_in message) e t.state s.order t.order → IsWorldTurnInOrder old new site

pub after_in_order : (p : List Stmt) (j : List Turn) (ss : List (SiteState NoSeat)) (mail box : MailState) (sent : ℕ) (k : IsConsistent p j ss mail sent false) (site : ℕ) (low : 1 ≤ site) (high : site ≤ length ss)
    (place : Option ℕ) (quantum : ℕ) (few : quantum ≤ 64) (s t : SiteState NoSeat) (at : s ≡ get_or ss (site - 1) s) (message : Option (ℕ × Msg)) (taken : IsTaken mail.messages box.messages site place message)
    (e : Turn) (made : IsTurnMade s.program s.sites s.state message quantum e t.state) → OrderAfter p j ss site (site - 1) s t message e
after_in_order p j ss mail box sent k zero low high place quantum few s t at message taken e made = absurd (omega arith)
after_in_order p j ss mail box sent k (suc i) low high place quantum few s t at message taken e made =
    let before : suc i - 1 ≡ i = omega arith in
    let same : s ≡ get_or ss i s = subst (λ (x : ℕ). s ≡ get_or ss x s) before at in
    let found : slice_get ss i ≡ Some s = slice_get_read ss (length ss) i s refl (omega arith) same in
    let inside : i < length ss = omega arith in
    subst (λ (x : ℕ). OrderAfter p j ss (suc i) x s t message e) (sym before) (world_order p j ss mail sent k i inside place quantum few s t found message box taken e made)

-- ---- what the sites know stays

pub turn_stays : (old new : WorldState) (site : ℕ) (place : Option ℕ) (quantum : ℕ) → quantum ≤ 64 → IsWorldTurn old new site place quantum → KnowledgeStays old new
turn_stays old new site place quantum most t i = by (site == i) refl
  where
    here : IsPartOf (states_of old site).equations (states_of new site).equations
    here =
        equations_stay old.program old.sites bundle_limit old.journal t.entry (states_of old site) (states_of new site)
        (t.turn.0, few_units old.program old.sites bundle_limit quantum t.entry.units (states_of old site) (delivered_message old.journal t.entry.delivered) t.turn.0 most t.turn.1, t.turn.2, t.turn.3)

    by : (b : Bool) → (site == i) ≡ b → IsPartOf (states_of old i).equations (states_of new i).equations
    by true q = subst (λ (x : ℕ). IsPartOf (states_of old x).equations (states_of new x).equations) ((nat_decides site i).0 q) here
    by false q =
        let other : i ≢ site = λ same. (let yes : (site == i) ≡ true = (nat_decides site i).1 (sym same) in cc) in
        subst (λ (x : Site). IsPartOf (states_of old i).equations x.equations) (sym (t.others i other)) (λ e there. there)
