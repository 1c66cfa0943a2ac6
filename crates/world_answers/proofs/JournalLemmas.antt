-- Journals: where each site's entries are its turns, the machine follows them all, and its exchanges pay for the messages of mobile cells.
use Rattle.kernel_syntax.specs.declared.stmt.Stmt.{Stmt}
use Rattle.site_message.proofs.JournalLemmas.{travelling_tells}
use Rattle.site_message.specs.Journal.{sent_of, travelling, Wired, IsTravelling}
use Rattle.site_message.specs.declared.message.Msg.{Msg}
use Rattle.site_message.specs.declared.message.Sent.{Sent}
use Rattle.site_message.specs.declared.turn.Turn.{Turn}
use Rattle.site_model.specs.Fit.{IsFit, CanTake}
use Rattle.site_model.specs.Run.{delivered_message, IsRecordOf, IsEntry, IsReachedBy, IsSiteIn}
use Rattle.site_model.specs.Site.{Site, initial_site}
use Rattle.site_model.specs.Transition.{Transition, sequence}
use Rattle.site_model.specs.Turn.{SiteTurnOf}
use Rattle.std.proofs.Common.{arith, ◌≡◌, ◌∙◌, sym, ap, refl, subst, ℕ, ◌+◌, ◌<◌, ◌≤◌, List, [], ◌∷◌, ◌++◌, Some, None, append_assoc, length, length-append, rules, Bool, true, false, ◌⊎◌, inl, inr}
use Rattle.std.specs.Prelude.{Option, Contains, ◌≢◌, ◌==◌}
use Rattle.tree_node.specs.Each.{Each}
use Rattle.tree_node.specs.declared.pick.Pick.{Pick}
use Rattle.oz_model.specs.Run.{exchanges}
use Rattle.world_model.specs.Chain.{mobile_cells}
use Rattle.world_cells.proofs.CellTallyLemmas.{few_messages}
use Rattle.world_answers.proofs.LeaveLemmas.{Paid}
use Rattle.world_answers.proofs.OwingLemmas.{Owed}
use Rattle.world_answers.proofs.BalanceLemmas.{Settled, balanced_wider, none_came}
use Rattle.world_answers.proofs.TurnLemmas.{quiet_paid, quiet_owed, quiet_settled, delivering_paid, delivering_owed, delivering_settled, start_paid, start_owed, start_settled}
use Rattle.world_answers.specs.Balance.{asks_content_for, travelling_for, early_for, outstanding_for, one_exchange, exchanges_by, GoesAt, RequestsBalanceInFitRuns}
use Rattle.world_model.specs.Keepers.{homes, early_at}
use Rattle.oz_model.specs.Run.{start}
use Rattle.std.specs.List.{count_by}
use Rattle.tree_node.specs.declared.names.CellName.{CellName}
use Rattle.tree_node.specs.declared.names.ThreadName.{ThreadName}
use Rattle.tree_node.proofs.ClassLemmas.{Contains-head, Contains-tail}
use Rattle.world_answers.specs.AnswerCounts.{FewAnswersInFitRuns}
use Rattle.world_answers.specs.Joined.{Joined}
use Rattle.world_answers.specs.FitRuns.{IsFitEntry, SiteFitRun, FewInFitRuns}
use Rattle.world_model.proofs.MailLemmas.{acts_after, same_world}
use Rattle.world_model.proofs.PutLemmas.{at_all, at_here, at_own, at_twice, nat_decides}
use Rattle.world_model.specs.Schedule.{schedule, lines_in}
use Rattle.world_model.specs.World.{World, Sites, IsOnItsWay, start_world, put, after_transition, after_receipt, mail_from, world_of}
use Rattle.world_variables.proofs.JournalLemmas.{came_acts, came_is, mail_of, mail_after}
use Rattle.world_variables.specs.Laws.{IsForeignBinding}
use Rattle.site_message.specs.declared.message.Msg.TheVariants as msg

starts_at : (p : List Stmt) (n limit : ℕ) (f : Sites) → ((i : ℕ) → SiteFitRun p n limit i [] (f i)) → f ≡ initial_site p n
starts_at p n limit f h = search (rules, h)

-- from the sites after an entry back to those before
goes_back : (p : List Stmt) (n limit : ℕ) (e : Turn) (j : List Turn) (f : Sites) → ((i : ℕ) → SiteFitRun p n limit i (e ∷ j) (f i)) →
    (old : Site) × IsFitEntry p n limit j e old (f e.site) × ((i : ℕ) → SiteFitRun p n limit i j (put f e.site old i))
goes_back p n limit e j f h = own (e.site == e.site) ((nat_decides e.site e.site).1 refl) (h e.site)
  where
    own : (b : Bool) → b ≡ true → IsReachedBy b (λ old. SiteFitRun p n limit e.site j old) (λ old new. IsFitEntry p n limit j e old new) (f e.site) →
        (old : Site) × IsFitEntry p n limit j e old (f e.site) × ((i : ℕ) → SiteFitRun p n limit i j (put f e.site old i))
    own false q g = cc
    own true q (old, before, entry) = (old, entry, at_all f e.site old (λ i (s : Site). SiteFitRun p n limit i j s) before (λ i other. rest i other (h i)))
      where
        rest : (i : ℕ) → i ≢ e.site → SiteFitRun p n limit i (e ∷ j) (f i) → SiteFitRun p n limit i j (f i)
        rest i other g = go (e.site == i) refl g
          where
            go : (b : Bool) → (e.site == i) ≡ b → IsReachedBy b (λ old. SiteFitRun p n limit i j old) (λ old new. IsFitEntry p n limit j e old new) (f i) → SiteFitRun p n limit i j (f i)
            go true at k = absurd (other (sym ((nat_decides e.site i).0 at)))
            go false at k = k

-- what turns keep, of any world, any picks and any messages that were sent, holds of whole journals
module _ (p : List Stmt) (n limit : ℕ) (Q : List Turn → World → List Pick → List Sent → Type 0) (of_joined : (j : List Turn) (w : World) (ks : List Pick) (out : List Sent) → Q j w ks out → Joined p w ks)
    (of_start : Q [] (start_world p n) [] []) (grows : (e : Turn) (j : List Turn) (w : World) (ks : List Pick) (out : List Sent) → Q j w ks out → Q (e ∷ j) w ks out)
    (of_quiet : (e : Turn) (j : List Turn) → e.site ≢ 0 → 1 ≤ e.site → e.site ≤ n → (w : World) (ks : List Pick) (out : List Sent) (d : Transition) → Q (e ∷ j) w ks out → SiteTurnOf p n limit e.units (w.sites e.site) None d → Q (e ∷ j) (after_transition w e.site d) (ks ++ d.picks) (out ++ d.sent))
    (of_delivery : (e : Turn) (j : List Turn) → e.site ≢ 0 → 1 ≤ e.site → e.site ≤ n → (w : World) (ks : List Pick) (out : List Sent) (k : ℕ) (m : Msg) (d : Transition) → Q (e ∷ j) w ks out → IsForeignBinding e.site m → IsOnItsWay w.mail k e.site m → IsFit p n (w.sites e.site) m → SiteTurnOf p n limit e.units (w.sites e.site) (Some m) d →
    (heard : Transition) × (rest : Transition) × (d ≡ sequence heard rest) × Q (e ∷ j) (after_transition (after_receipt (Some k) (after_transition w e.site heard)) e.site rest) ((ks ++ heard.picks) ++ rest.picks) ((out ++ heard.sent) ++ rest.sent)) where
  -- the world after an entry
  entry_kept : (j : List Turn) (e : Turn) (f : Sites) (old : Site) → Wired (e ∷ j) → IsSiteIn n e → IsFitEntry p n limit j e old (f e.site) → Q j (world_of j (put f e.site old)) (schedule j) (sent_of j) → Q (e ∷ j) (world_of (e ∷ j) f) (schedule j ++ e.picks) (sent_of j ++ e.sent)
  entry_kept j e f old wired inside entry r = go entry.turn
    where
      Later : World → List Pick → List Sent → Type 0
      Later = Q (e ∷ j)

      i : ℕ
      i = e.site

      g : Sites
      g = put f i old

      w : World
      w = world_of j g

      real : i ≢ 0
      real none = absurd (omega (arith, inside.0, none))

      before : Later w (schedule j) (sent_of j)
      before = grows e j w (schedule j) (sent_of j) r

      joined : Joined p w (schedule j)
      joined = of_joined j w (schedule j) (sent_of j) r

      site_w : w.sites i ≡ old
      site_w = at_here f i old

      -- the world that the turn leaves is that of the journal
      whole : (d : Transition) → IsRecordOf e d → f i ≡ d.site → after_receipt e.delivered (after_transition w i d) ≡ world_of (e ∷ j) f
      whole d tells is = came_is e.delivered (after_transition w i d) ∙ same_world _ _ _ _ _ _ _ _ sites sums mails (ap (λ (ls : List (List ℕ)). lines_in j ++ ls) (sym tells.lines))
        where
          sites : put g i d.site ≡ f
          sites = at_twice f i old d.site ∙ ap (λ (s : Site). put f i s) (sym is) ∙ at_own f i

          sums : length (sent_of j) + length d.sent ≡ length (sent_of j ++ e.sent)
          sums = let l : length (sent_of j ++ e.sent) ≡ length (sent_of j) + length e.sent = length-append (sent_of j) e.sent in let q : length e.sent ≡ length d.sent = ap length tells.sent in omega arith

          mails : mail_of e.delivered (travelling j ++ mail_from (length (sent_of j)) d.sent) ≡ travelling (e ∷ j)
          mails = ap (λ (ms : List Sent). mail_of e.delivered (travelling j ++ mail_from (length (sent_of j)) ms)) (sym tells.sent) ∙ mail_after j e wired.0

      finish : (d : Transition) → IsRecordOf e d → f i ≡ d.site → Later (after_receipt e.delivered (after_transition w i d)) (schedule j ++ d.picks) (sent_of j ++ d.sent) → Later (world_of (e ∷ j) f) (schedule j ++ e.picks) (sent_of j ++ e.sent)
      finish d tells is q = subst (λ (v : World). Later v (schedule j ++ e.picks) (sent_of j ++ e.sent)) (whole d tells is) (subst (λ (ks : List Pick). Later (after_receipt e.delivered (after_transition w i d)) (schedule j ++ ks) (sent_of j ++ e.sent)) (sym tells.picks) (subst (λ (ms : List Sent). Later (after_receipt e.delivered (after_transition w i d)) (schedule j ++ d.picks) (sent_of j ++ ms)) (sym tells.sent) q))

      turn_of : (o : Option ℕ) → e.delivered ≡ o → (d : Transition) → SiteTurnOf p n limit e.units old (delivered_message j o) d → Later (after_receipt o (after_transition w i d)) (schedule j ++ d.picks) (sent_of j ++ d.sent)
      turn_of None q d turn = of_quiet e j real inside.0 inside.1 w (schedule j) (sent_of j) d before (subst (λ (s : Site). SiteTurnOf p n limit e.units s None d) (sym site_w) turn)
      turn_of (Some k) q d turn = go (wired.1 k q)
        where
          go : (m : Sent) × IsTravelling j k m × (m.to ≡ e.site) → Later (after_receipt (Some k) (after_transition w i d)) (schedule j ++ d.picks) (sent_of j ++ d.sent)
          go (m, t, to) = last (of_delivery e j real inside.0 inside.1 w (schedule j) (sent_of j) k m.msg d before plain.1 at (subst (λ (s : Site). IsFit p n s m.msg) (sym site_w) plain.0) (subst (λ (s : Site). SiteTurnOf p n limit e.units s (Some m.msg) d) (sym site_w) (subst (λ (o : Option Msg). SiteTurnOf p n limit e.units old o d) is_msg turn)))
            where
              is_msg : delivered_message j (Some k) ≡ Some m.msg
              is_msg = rw t.0 refl

              plain : IsFit p n old m.msg × IsForeignBinding e.site m.msg
              plain = let x = entry.fit m.msg (ap (delivered_message j) q ∙ is_msg) in (x, elsewhere m.msg x.takes)
                where
                  number : old.records.site ≡ i
                  number = subst (λ (s : Site). s.records.site ≡ i) site_w (joined.reached.parts.kept i).site

                  elsewhere : (m : Msg) → CanTake old m → IsForeignBinding i m
                  elsewhere (msg.Binding x t bundle) c = λ own. c.0 (own ∙ sym number)
                  elsewhere (msg.Spawn o code vars bundle) c = tt
                  elsewhere (msg.Register x o) c = tt
                  elsewhere (msg.BindReq x o t bundle) c = tt
                  elsewhere (msg.Get x o) c = tt
                  elsewhere (msg.Forward x o) c = tt
                  elsewhere (msg.Put x o bundle) c = tt
                  elsewhere (msg.PortSend q o a) c = tt
                  elsewhere (msg.PortEnd o old new bundle) c = tt
                  elsewhere (msg.CellMake x v bundle) c = tt
                  elsewhere (msg.CellAsk x o a v bundle) c = tt
                  elsewhere (msg.CellOld o v bundle) c = tt

              at : IsOnItsWay w.mail k i m.msg
              at = subst (λ (o : ℕ). Contains (travelling j) (k, record { to = o; msg = m.msg })) to ((travelling_tells j k m).1 t)

              last : (heard : Transition) × (rest : Transition) × (d ≡ sequence heard rest) × Later (after_transition (after_receipt (Some k) (after_transition w i heard)) i rest) ((schedule j ++ heard.picks) ++ rest.picks) ((sent_of j ++ heard.sent) ++ rest.sent) → Later (after_receipt (Some k) (after_transition w i d)) (schedule j ++ d.picks) (sent_of j ++ d.sent)
              last (heard, rest, is, got) =
                  let low : k < w.sent = joined.reached.numbers.below k i m.msg at in
                  let high : k < (after_transition w i heard).sent = omega (arith, low) in
                  subst (λ (x : Transition). Later (after_receipt (Some k) (after_transition w i x)) (schedule j ++ x.picks) (sent_of j ++ x.sent)) (sym is)
                  (subst (λ (v : World). Later (after_receipt (Some k) v) (schedule j ++ (heard.picks ++ rest.picks)) (sent_of j ++ (heard.sent ++ rest.sent))) (sym (acts_after w i heard rest))
                  (subst (λ (v : World). Later v (schedule j ++ (heard.picks ++ rest.picks)) (sent_of j ++ (heard.sent ++ rest.sent))) (sym (came_acts (after_transition w i heard) i rest k high))
                  (subst (λ (ks : List Pick). Later (after_transition (after_receipt (Some k) (after_transition w i heard)) i rest) ks (sent_of j ++ (heard.sent ++ rest.sent))) (append_assoc (schedule j) heard.picks rest.picks) (subst (λ (ms : List Sent). Later (after_transition (after_receipt (Some k) (after_transition w i heard)) i rest) ((schedule j ++ heard.picks) ++ rest.picks) ms) (append_assoc (sent_of j) heard.sent rest.sent) got))))

      go : IsEntry p n limit j e old (f i) → Later (world_of (e ∷ j) f) (schedule j ++ e.picks) (sent_of j ++ e.sent)
      go (d, turn, tells, is) = finish d tells is (turn_of e.delivered refl d turn)

  -- whatever the order of turns and deliveries
  pub journal_kept : (j : List Turn) (f : Sites) → Wired j → Each (IsSiteIn n) j → ((i : ℕ) → SiteFitRun p n limit i j (f i)) → Q j (world_of j f) (schedule j) (sent_of j)
  journal_kept [] f wired inside runs = subst (λ (g : Sites). Q [] (world_of [] g) [] []) (sym (starts_at p n limit f runs)) of_start
  journal_kept (e ∷ j) f wired inside runs = go (goes_back p n limit e j f runs) (λ g rest. journal_kept j g wired.0 inside.1 rest)
    where
      go : (old : Site) × IsFitEntry p n limit j e old (f e.site) × ((i : ℕ) → SiteFitRun p n limit i j (put f e.site old i)) → ((g : Sites) → ((i : ℕ) → SiteFitRun p n limit i j (g i)) → Q j (world_of j g) (schedule j) (sent_of j)) → Q (e ∷ j) (world_of (e ∷ j) f) (schedule j ++ e.picks) (sent_of j ++ e.sent)
      go (old, entry, rest) ih = entry_kept j e f old wired inside.0 entry (ih (put f e.site old) rest)

pub journal_paid : (p : List Stmt) (n limit : ℕ) (j : List Turn) (f : Sites) → Wired j → Each (IsSiteIn n) j → ((i : ℕ) → SiteFitRun p n limit i j (f i)) → Paid p n (world_of j f) (schedule j) (sent_of j)
journal_paid p n limit j f wired inside runs = journal_kept p n limit (λ j. Paid p n) (λ j w ks out r. r.joined) (start_paid p n n) (λ e j w ks out r. r) (λ e j real low high w ks out d r turn. quiet_paid p n limit e.site real w ks out e.units d low high r turn)
    (λ e j real low high w ks out k m d r far at fit turn. delivering_paid p n limit e.site real w ks out e.units d low high k m r far at fit turn) j f wired inside runs

pub journal_owed : (p : List Stmt) (n limit : ℕ) (j : List Turn) (f : Sites) → Wired j → Each (IsSiteIn n) j → ((i : ℕ) → SiteFitRun p n limit i j (f i)) → Owed p (world_of j f) (schedule j) (sent_of j)
journal_owed p n limit j f wired inside runs = journal_kept p n limit (λ j. Owed p) (λ j w ks out r. r.joined) (start_owed p n) (λ e j w ks out r. r) (λ e j real low high w ks out d r turn. quiet_owed p n limit e.site real w ks out e.units d r turn)
    (λ e j real low high w ks out k m d r far at fit turn. delivering_owed p n limit e.site real w ks out e.units d k m r far at fit turn) j f wired inside runs

-- where a thread has a unit it goes
units_go : (e : Turn) (j : List Turn) (ths : List ThreadName) → ((th : ThreadName) → Contains ths th → Contains e.units th) → Each (GoesAt (e ∷ j) e.site) ths
units_go e j [] h = tt
units_go e j (th ∷ ths) h = ((e, Contains-head e j, refl, h th (Contains-head th ths)), units_go e j ths (λ x q. h x (Contains-tail th x ths q)))

pub journal_settled : (p : List Stmt) (n limit : ℕ) (j : List Turn) (f : Sites) → Wired j → Each (IsSiteIn n) j → ((i : ℕ) → SiteFitRun p n limit i j (f i)) → Settled p (GoesAt j) (world_of j f) (schedule j) (sent_of j)
journal_settled p n limit j f wired inside runs = journal_kept p n limit (λ j. Settled p (GoesAt j)) (λ j w ks out r. r.joined) (start_settled p (GoesAt []) n)
    (λ e j w ks out r. record { joined = r.joined; balanced = balanced_wider p (GoesAt j) (GoesAt (e ∷ j)) none_came w ks out (λ l th h. (h.0, Contains-tail e h.0 j h.1, h.2, h.3)) r.balanced })
    (λ e j real low high w ks out d r turn. quiet_settled p n limit e.site real w ks out e.units d (GoesAt (e ∷ j)) (units_go e j e.units (λ th h. h)) r turn)
    (λ e j real low high w ks out k m d r far at fit turn. delivering_settled p n limit e.site real w ks out e.units d (GoesAt (e ∷ j)) (units_go e j e.units (λ th h. h)) k m r far at fit turn) j f wired inside runs

-- at most three messages of a cell for each exchange and each site
pub few_cell_messages : FewInFitRuns
few_cell_messages p n limit j f c some wired inside runs = (r.joined.reached.centre, r.joined.reached.run, few_messages n f (world_of j f).mail (mobile_cells r.joined.reached.centre.cells) (sent_of j) (λ b. length (exchanges p (schedule j) b)) some r.tally c)
  where
    r : Paid p n (world_of j f) (schedule j) (sent_of j)
    r = journal_paid p n limit j f wired inside runs

-- the requests and the answers
pub few_answers : FewAnswersInFitRuns
few_answers p n limit j f some wired inside runs =
    let r = journal_owed p n limit j f wired inside runs in (
      r.joined.reached.centre,
      record {
        run = r.joined.reached.run;
        ends = r.owing.ends;
        olds = r.owing.olds;
        homes = r.owing.homes;
        asking = r.owing.asking;
        distinct = r.owing.distinct;
        waits = λ m h. (let g = r.owing.waits m h in (g.0, g.1, g.2, g.3));
        few = r.owing.few;
      },
    )

-- the requests, the exchanges and the answers of each thread
pub requests_balance : RequestsBalanceInFitRuns
requests_balance p n limit j w some wired inside runs =
    let b = (journal_settled p n limit j w wired inside runs).balanced in
    record { asked = λ c th away. asked c th (b.asked c th away); far = b.far; answered = b.answered }
  where
    asked : (c : CellName) (th : ThreadName) →
        GoesAt j c.at th ⊎ (count_by (asks_content_for c th) (sent_of j) ≡ exchanges_by (one_exchange c th) p (start p) (schedule j) + (travelling_for c th (travelling j) + 0 + early_for th (early_at (homes w) c))) →
        GoesAt j c.at th ⊎ (count_by (asks_content_for c th) (sent_of j) ≡ exchanges_by (one_exchange c th) p (start p) (schedule j) + outstanding_for c th j w)
    asked c th (inl h) = inl h
    asked c th (inr h) = inr (omega (arith, h))
