-- The simulation with cells and fit messages, in one induction.
use Rattle.std.proofs.Common.{arith, ◌≡◌, ◌≢◌, ◌∙◌, sym, ap, refl, subst, ℕ, ◌≤◌, List, [], ◌∷◌, ◌++◌, Bool, true, false}
use Rattle.std.specs.Prelude.{Option, Some, None, ◌==◌, Contains}
use Rattle.tree_node.specs.State.{State, Stack, equal_thread}
use Rattle.kernel_syntax.specs.declared.stmt.Stmt.{Stmt}
use Rattle.kernel_syntax.specs.Program.{IsProgram}
use Rattle.site_message.specs.declared.message.Msg.{Msg}
use Rattle.site_message.specs.declared.message.Msg.TheVariants as msg
use Rattle.site_message.specs.declared.message.Sent.{Sent}
use Rattle.site_message.specs.declared.turn.Turn.{Turn}
use Rattle.site_message.specs.Journal.{IsTravelling, sent_of}
use Rattle.site_message.proofs.JournalLemmas.{travelling_tells}
use Rattle.world_messages.specs.Unfit.{MessagesAreFit}
use Rattle.site_model.specs.Site.{Site, Threads, ThreadState, unused_cell, cell_record, home_record, thread_state, initial_site}
use Rattle.site_model.specs.Transition.{Transition}
use Rattle.site_model.specs.Fit.{IsFit}
use Rattle.site_model.specs.Run.{WorldRun, IsReachedBy, delivered_message, message_of}
use Rattle.world_model.specs.World.{Sites, World, IsOnItsWay, put, world_of}
use Rattle.world_model.specs.Shown.{shown}
use Rattle.world_answers.specs.FitRuns.{IsFitEntry, SiteFitRun}
use Rattle.world_model.specs.Matches.{IsExchange}
use Rattle.tree_node.specs.declared.names.CellName.{CellName}
use Rattle.tree_node.specs.declared.names.ThreadName.{ThreadName}
use Rattle.tree_node.specs.declared.pick.Pick.{Pick}
use Rattle.tree_node.specs.Assoc.{value_of}
use Rattle.thread_roster.specs.declared.mode.Awaited.TheVariants.{Cell}
use Rattle.thread_roster.specs.declared.mode.Mode.{Mode}
use Rattle.thread_roster.specs.declared.mode.Mode.TheVariants.{WaitsFor}
use Rattle.site_model.specs.Variables.{opening}
use Rattle.world_answers.proofs.SimulatedLemmas.{fit_runs_are_simulated}
use Rattle.world_model.proofs.PutLemmas.{nat_decides, at_all, at_here}
use Rattle.world_messages.specs.Fitting.{TokensServe, WorldFits, HeardWaits, TokenWaits, AreServed, IsSending, IsExchanging, AreTaking, own_threads}
use Rattle.world_model.specs.Matches.{equations_in}
use Rattle.world_cells.specs.Standing.{IsStanding}
use Rattle.site_model.specs.Bundle.{message_bundle}
use Rattle.tree_node.specs.Each.{Each}
use Rattle.world_model.specs.Simulated.{IsSimulated}
use Rattle.world_messages.specs.BindRequests.{ThreadsArePlaced}
use Rattle.world_messages.proofs.FewMessages as few
use Rattle.world_simulation.proofs.PremiseLemmas.{threads_placed}
use Rattle.world_simulation.specs.Messages.{MessagesAreFew, RequestsAreSingle, CellRequestsArePaid}
use Rattle.world_messages.proofs.AskRun.{asks_are_few}
use Rattle.world_simulation.specs.Simulation.{EveryRunIsSimulated, DeliveredMessagesAreFit, CellMessagesAreFew}
use Rattle.world_answers.proofs.JournalLemmas.{journal_paid, few_cell_messages}
use Rattle.world_answers.proofs.LeaveLemmas.{Paid}
use Rattle.world_answers.specs.Joined.{Joined}
use Rattle.world_answers.proofs.OpenLemmas.{open_world, open_joined, open_at}
use Rattle.world_answers.proofs.ShownLemmas.{stands_from, shown_threads_real}
use Rattle.world_simulation.proofs.AnswerLemmas.{sends_next, exchanges_next, takes_next}
use Rattle.world_simulation.proofs.LetterLemmas.{lives_in, goes_to, letters, comes_new}
use Rattle.world_messages.proofs.UnfitLemmas.{outside}
use Rattle.token_chain.specs.declared.token.Token.TheVariants.{Asked}
use Rattle.world_model.specs.Schedule.{schedule}
use Rattle.world_messages.proofs.OthersLemmas.{fit_at}
use Rattle.world_messages.proofs.RunLemmas.{Entry, every_run}
use Rattle.world_messages.proofs.WorldFitLemmas.{fits_entry, start_world_fits}

module _ (p : List Stmt) (n limit : ℕ) (is : IsProgram p) (low : 1 ≤ n) (high : n ≤ 64) (short : limit ≤ 256) where
  pub record JoinedIn (j : List Turn) (f : Sites) : Type 0 where
    pub fit : (i : ℕ) → SiteFitRun p n limit i j (f i)
    pub fits : WorldFits p n j f

  -- those that wait for a token can be served, also once a message is opened that travels
  served : (w : World) (ks : List Pick) (r : Joined p w ks) (i : ℕ) (d : CellName) → i ≢ 0 → AreServed p d (cell_record (w.sites i) d).queue (w.sites i)
  served w ks r i d real = ((r.reached.cells.queues i d).once, λ n listed st m a. by n st m a ((r.reached.cells.queues i d).stand n listed))
    where
      by : (n : ThreadName) (st : Stack) (m : Mode) → thread_state (w.sites i) n ≡ Some (st, m) → (u : Stack) × (value_of equal_thread (shown w.sites r.transit i).threads n ≡ Some (u, WaitsFor (Cell d))) → IsExchange p (w.sites i).equations st d
      by n st m a (u, e) =
          let here = stands_from (w.sites i).threads n (u, WaitsFor (Cell d)) (ap (λ (ts : Threads). value_of equal_thread ts n) (sym (shown_threads_real w.sites r.transit i real)) ∙ e) in
          let same : ◌≡◌ {A = ThreadState} (u, WaitsFor (Cell d)) (st, m) = (let q : ◌≡◌ {A = Option ThreadState} (Some (u, WaitsFor (Cell d))) (Some (st, m)) = sym here.0 ∙ a in cc) in
          let stack : u ≡ st = ap (λ (z : ThreadState). z.0) same in
          subst (λ (z : Stack). IsExchange p (w.sites i).equations z d) stack (r.reached.parts.waiting.exchanges i n u d e)

  -- a token comes to a site that asked for it
  comes_real : (j : List Turn) (f : Sites) → WorldRun p n limit j f → (i : ℕ) (c : CellName) → (cell_record (f i) c).held.token ≡ Asked → i ≢ 0
  comes_real j f run i c asked zero =
      let same : f i ≡ initial_site p n i = outside p n limit j f run i (λ h. let least : 1 ≤ i = h.0 in absurd (omega (arith, least, zero))) in
      let unused : unused_cell.held.token ≡ Asked = subst (λ (t : Site). (cell_record t c).held.token ≡ Asked) same asked in
      cc

  -- the world in which a request or an answer is opened
  opened : (m : Msg) (k i : ℕ) (j : List Turn) (f : Sites) → WorldRun p n limit j f → (r : Joined p (world_of j f) (schedule j)) → (IsStanding m → ⊥) → IsTravelling j k (record { to = i; msg = m }) →
      (w : World) × Joined p w (schedule j ++ []) × IsOnItsWay w.mail k i m
  opened m k i j f run r letter travels =
      let at = (travelling_tells j k (record { to = i; msg = m })).1 travels in
      let real = goes_to p n limit j f low run r k i m travels letter in
      let told = letter_tells m letter (r.reached.parts.knowledge.told k i m at) in
      (open_world p i real (world_of j f) (schedule j) r k m at told, open_joined p i real (world_of j f) (schedule j) r k m at told, open_at p i real (world_of j f) (schedule j) r k m at told)
    where
      letter_tells : (m : Msg) → (IsStanding m → ⊥) → Each (Contains r.reached.centre.equations) (equations_in m) → Each (Contains r.reached.centre.equations) (message_bundle m)
      letter_tells (msg.PortSend a b c) g h = h
      letter_tells (msg.PortEnd a b c d) g h = h
      letter_tells (msg.CellMake a b c) g h = h
      letter_tells (msg.CellAsk a b c d e) g h = h
      letter_tells (msg.CellOld a b c) g h = h
      letter_tells (msg.Spawn a b c d) g h = h
      letter_tells (msg.Register a b) g h = h
      letter_tells (msg.BindReq a b c d) g h = h
      letter_tells (msg.Binding a b c) g h = h.1
      letter_tells (msg.Get a b) g h = h
      letter_tells (msg.Forward a b) g h = h
      letter_tells (msg.Put a b c) g h = h

  token_waits : (m : Msg) (k i : ℕ) (j : List Turn) (f : Sites) → WorldRun p n limit j f → Joined p (world_of j f) (schedule j) → IsFit p n (f i) m → IsTravelling j k (record { to = i; msg = m }) → TokenWaits p m (opening m (f i)).site
  unfolding opened
  token_waits (msg.Put c u bundle) k i j f run r fit travels =
      let w : World = world_of j f in
      let at = (travelling_tells j k (record { to = i; msg = msg.Put c u bundle })).1 travels in
      let real : i ≢ 0 = comes_real j f run i c fit.takes in
      let m : Msg = msg.Put c u bundle in
      let told = r.reached.parts.knowledge.told k i m at in
      subst (λ (t : Site). AreServed p c (cell_record t c).queue t) (at_here f i (opening m (f i)).site)
      (served (open_world p i real w (schedule j) r k m at told) (schedule j ++ []) (open_joined p i real w (schedule j) r k m at told) i c real)
  token_waits (msg.Spawn a b c d) k i j f run r fit at = tt
  token_waits (msg.Register a b) k i j f run r fit at = tt
  token_waits (msg.BindReq a b c d) k i j f run r fit at = tt
  token_waits (msg.Binding a b c) k i j f run r fit at = tt
  token_waits (msg.Get a b) k i j f run r fit at = tt
  token_waits (msg.Forward a b) k i j f run r fit at = tt
  token_waits (msg.PortSend a b c) k i j f run r fit at = tt
  token_waits (msg.CellAsk a b c d e) k i j f run r fit at = tt
  token_waits (msg.PortEnd th old new bundle) k i j f run r fit at =
      let o = opened (msg.PortEnd th old new bundle) k i j f run r (λ h. h) at in
      subst (λ (t : Site). IsSending p th t) (at_here f i (opening (msg.PortEnd th old new bundle) (f i)).site) (sends_next p o.0 (schedule j ++ []) o.1 k i th old new bundle o.2)
  token_waits (msg.CellMake c v bundle) k i j f run r fit at =
      let o = opened (msg.CellMake c v bundle) k i j f run r (λ h. h) at in
      let home : i ≡ c.at = (o.1.answers.contents.makes k i c v (bundle, o.2)).0 in
      let number : (o.0.sites i).records.site ≡ i = (o.1.reached.parts.kept i).site in
      subst (λ (t : Site). AreTaking p (own_threads t.records.site (home_record t c).early) t) (at_here f i (opening (msg.CellMake c v bundle) (f i)).site)
      (subst (λ (l : ℕ). AreTaking p (own_threads l (home_record (o.0.sites i) c).early) (o.0.sites i)) (sym number) (takes_next p o.0 (schedule j ++ []) o.1 i c (sym home)))
  token_waits (msg.CellOld th v bundle) k i j f run r fit at =
      let o = opened (msg.CellOld th v bundle) k i j f run r (λ h. h) at in
      subst (λ (t : Site). IsExchanging p th t) (at_here f i (opening (msg.CellOld th v bundle) (f i)).site) (exchanges_next p o.0 (schedule j ++ []) o.1 k i th v bundle o.2)

  reached : (j : List Turn) (f : Sites) → WorldRun p n limit j f → JoinedIn j f → Joined p (world_of j f) (schedule j)
  reached j f run h = (journal_paid p n limit j f run.wired run.sites h.fit).joined

  follows : (j : List Turn) (f : Sites) → WorldRun p n limit j f → JoinedIn j f → (s : State) × IsSimulated p n j f s
  follows j f run h = fit_runs_are_simulated p n limit j f low run.wired run.sites h.fit

  -- each message that travels is fit
  all_fit : (j : List Turn) (f : Sites) → WorldRun p n limit j f → JoinedIn j f → MessagesAreFit p n j f
  all_fit j f run h k m at =
      let r = reached j f run h in
      fit_at p n limit j f is low high short run h.fits r.transit r.reached.centre r.reached.parts r.reached.cells (comes_new p n limit j f low run r) (letters p n limit j f low run r) k m at

  module _ (j : List Turn) (e : Turn) (f : Sites) (d : Transition) (entry : Entry p n limit j e f d) (h : JoinedIn j f) where
    -- the message that comes
    abbrev ComesFit : Msg → Type 0
    ComesFit m = IsFit p n (f e.site) m × TokenWaits p m (opening m (f e.site)).site

    comes_fit : (m : Msg) → delivered_message j e.delivered ≡ Some m → ComesFit m
    comes_fit m q = by e.delivered refl
      where
        by : (o : Option ℕ) → e.delivered ≡ o → ComesFit m
        by None r = let no : ◌≡◌ {A = Option Msg} None (Some m) = sym (ap (delivered_message j) r) ∙ q in cc
        by (Some k) r = go (entry.wired k r)
          where
            go : (s : Sent) × IsTravelling j k s × (s.to ≡ e.site) → ComesFit m
            go (s, at, to) = subst ComesFit same (fits, token_waits s.msg k e.site j f entry.run (reached j f entry.run h) fits (subst (λ (i : ℕ). IsTravelling j k (record { to = i; msg = s.msg })) to at))
              where
                fits : IsFit p n (f e.site) s.msg
                fits = subst (λ (i : ℕ). IsFit p n (f i) s.msg) to (all_fit j f entry.run h k s at)

                same : s.msg ≡ m
                same = let both : ◌≡◌ {A = Option Msg} (Some s.msg) (Some m) = sym (ap (delivered_message j) r ∙ ap message_of at.0) ∙ q in cc

    waits : HeardWaits p (delivered_message j e.delivered) (f e.site)
    waits = by (delivered_message j e.delivered) refl
      where
        by : (o : Option Msg) → delivered_message j e.delivered ≡ o → HeardWaits p o (f e.site)
        by None q = tt
        by (Some m) q = (comes_fit m q).1

    fit_entry : IsFitEntry p n limit j e (f e.site) d.site
    fit_entry = record { turn = (d, entry.told, entry.tells, refl); fit = λ m q. (comes_fit m q).0 }

    joined_entry : JoinedIn (e ∷ j) (put f e.site d.site)
    joined_entry = record {
      fit = at_all f e.site d.site (λ (i : ℕ) (s : Site). SiteFitRun p n limit i (e ∷ j) s) here others;
      fits = fits_entry p is n limit j e f d entry waits h.fits;
    }
      where
        here : SiteFitRun p n limit e.site (e ∷ j) d.site
        here = subst (λ (b : Bool). IsReachedBy b (λ old. SiteFitRun p n limit e.site j old) (λ old new. IsFitEntry p n limit j e old new) d.site) (sym ((nat_decides e.site e.site).1 refl)) (f e.site, h.fit e.site, fit_entry)

        others : (i : ℕ) → i ≢ e.site → SiteFitRun p n limit i (e ∷ j) (f i)
        others i other = by (e.site == i) refl
          where
            by : (b : Bool) → (e.site == i) ≡ b → IsReachedBy (e.site == i) (λ old. SiteFitRun p n limit i j old) (λ old new. IsFitEntry p n limit j e old new) (f i)
            by true q = absurd (other (sym ((nat_decides e.site i).0 q)))
            by false q = subst (λ (b : Bool). IsReachedBy b (λ old. SiteFitRun p n limit i j old) (λ old new. IsFitEntry p n limit j e old new) (f i)) (sym q) (h.fit i)

  pub joined_in : (j : List Turn) (f : Sites) → WorldRun p n limit j f → JoinedIn j f
  joined_in j f run = every_run p n limit JoinedIn (record { fit = λ i. refl; fits = start_world_fits p is n limit }) joined_entry j f run

  pub simulated : (j : List Turn) (f : Sites) → WorldRun p n limit j f → (s : State) × IsSimulated p n j f s
  simulated j f run = fit_runs_are_simulated p n limit j f low run.wired run.sites (joined_in j f run).fit

  fit : (j : List Turn) (f : Sites) → WorldRun p n limit j f → MessagesAreFit p n j f
  fit j f run = all_fit j f run (joined_in j f run)

  -- the machine's state, and that its exchanges pay for the messages of cells
  pub paid : (j : List Turn) (f : Sites) → WorldRun p n limit j f → Paid p n (world_of j f) (schedule j) (sent_of j)
  paid j f run = journal_paid p n limit j f run.wired run.sites (joined_in j f run).fit

  -- what the bounds on messages want of the run
  tokens_serve : TokensServe p n limit
  tokens_serve j f run k m at = token_waits m.msg k m.to j f run (reached j f run (joined_in j f run)) (fit j f run k m at) at

  pub threads_are_placed : ThreadsArePlaced p n limit
  threads_are_placed j f run = let h = simulated j f run in threads_placed p n j f h.0 h.1 (lives_in p n limit j f low run)

pub every_run_is_simulated : EveryRunIsSimulated
every_run_is_simulated p n limit j f is low high short run =
    let s = simulated p n limit is low high short j f run in
    (s.0, s.1, fit p n limit is low high short j f run)

pub delivered_messages_are_fit : DeliveredMessagesAreFit
delivered_messages_are_fit p n limit j f is low high short run = (joined_in p n limit is low high short j f run).fit

pub cell_messages_are_few : CellMessagesAreFew
cell_messages_are_few p n limit j f c is low high short run = (few_cell_messages p n limit j f c low run.wired run.sites (joined_in p n limit is low high short j f run).fit).2

pub messages_are_few : MessagesAreFew
messages_are_few p n limit j f is low high short run = few.messages_are_few p n limit j f is (tokens_serve p n limit is low high short) (threads_are_placed p n limit is low high short) run

pub requests_are_single : RequestsAreSingle
requests_are_single p n limit j f is low high short run = asks_are_few p n limit j f (threads_are_placed p n limit is low high short) run

pub cell_requests_are_paid : CellRequestsArePaid
cell_requests_are_paid p n limit j f is low high short run =
    let r = paid p n limit is low high short j f run in
    (r.joined.reached.centre, r.joined.reached.run, r.tally.tallied)
