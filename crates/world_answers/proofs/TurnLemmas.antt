-- Whole turns of a site are followed by the machine.
use Rattle.kernel_syntax.specs.declared.stmt.Stmt.{Stmt}
use Rattle.oz_model.specs.Run.{start}
use Rattle.site_message.specs.declared.message.Msg.{Msg}
use Rattle.site_model.specs.Fit.{IsFit}
use Rattle.site_model.specs.Messages.{reception}
use Rattle.site_model.specs.Site.{Site, Threads, ThreadState, initial_site, runnable_threads}
use Rattle.site_model.specs.Transition.{Transition, without_output, sequence}
use Rattle.site_model.specs.Turn.{AreUnits, SiteTurnOf, IsReception}
use Rattle.std.proofs.Common.{arith, rules, ◌≡◌, sym, ap, refl, subst, ℕ, zero, suc, Bool, true, false, cond, List, [], ◌∷◌, ◌++◌, inl, inr, Some, None, append-nil, append_assoc, ◌≤◌, ◌⊎◌}
use Rattle.std.specs.Prelude.{Option, ◌≢◌, ◌==◌}
use Rattle.token_chain.specs.declared.token.Token.TheVariants.{Away, Here}
use Rattle.tree_node.specs.Assoc.{value_of}
use Rattle.tree_node.specs.Each.{Each, AreDistinct}
use Rattle.tree_node.specs.State.{Stack, equal_thread}
use Rattle.tree_node.specs.declared.names.CellName.{CellName}
use Rattle.tree_node.specs.declared.names.ThreadName.{ThreadName}
use Rattle.tree_node.specs.declared.names.VarName.{VarName}
use Rattle.tree_node.specs.declared.pick.Pick.{Pick}
use Rattle.thread_roster.specs.declared.mode.Awaited.{Awaited}
use Rattle.thread_roster.specs.declared.mode.Awaited.TheVariants.{Cell}
use Rattle.thread_roster.specs.declared.mode.Mode.TheVariants as mode
use Rattle.world_model.proofs.MailLemmas.{acts_after, nothing, same_world}
use Rattle.world_model.proofs.PutLemmas.{nat_decides, at_here, at_own}
use Rattle.world_model.specs.Claims.{Claim, Asked, Answered, Listed, IsClaim, IsAsking, answer}
use Rattle.site_model.specs.Requests.{Answer}
use Rattle.tree_node.specs.Store.{Equation}
use Rattle.world_model.specs.Keepers.{AnswersMatch, homes, early_at}
use Rattle.world_model.specs.Matches.{CellsMatch, ended}
use Rattle.world_model.specs.Names.{here_at}
use Rattle.world_model.specs.Schedule.{sum_to}
use Rattle.world_model.specs.Shown.{standing, shown}
use Rattle.world_model.specs.World.{World, Sites, IsOnItsWay, put, start_world, after_transition, after_receipt, records, threads}
use Rattle.world_variables.specs.Laws.{IsForeignBinding, PartsIn}
use Rattle.world_variables.specs.Sums.{names, Sums}
use Rattle.world_variables.proofs.StartLemmas.{start_parts, start_thread}
use Rattle.world_answers.specs.Joined.{Joined}
use Rattle.world_cells.specs.Standing.{IsKeptUnit}
use Rattle.world_cells.proofs.MessageTallyLemmas.{AsksFrom}
use Rattle.world_answers.proofs.AskLemmas.{nobody_asks}
use Rattle.world_answers.proofs.JoinLemmas.{unit_joined, other_tally, other_owes, other_balances}
use Rattle.world_answers.proofs.LeaveLemmas.{Paid, leaves_tally}
use Rattle.world_answers.proofs.MessageLemmas.{message_paid, message_owed, message_settled}
use Rattle.world_answers.proofs.OwedLemmas.{Owes, Nobody, AsksOne}
use Rattle.world_answers.proofs.BalanceLemmas.{Balanced, Balances, Settled, none_came, balanced_row}
use Rattle.world_answers.proofs.OwingLemmas.{Owing, Owed, owing_served, owing_asked}
use Rattle.world_answers.proofs.UnitLemmas.{Led, Anywhere, unit_or_led}
use Rattle.site_message.specs.declared.message.Msg.TheVariants as msg
use Rattle.site_message.specs.declared.message.Sent.{Sent}
use Rattle.site_model.specs.Unit.{IsUnit}

-- ---- units and messages

unit_paid : (p : List Stmt) (n limit i : ℕ) (w : World) (ks : List Pick) (out : List Sent) (th : ThreadName) (d : Transition) → i ≢ 0 → 1 ≤ i → i ≤ n → Paid p n w ks out → IsUnit p n limit th (w.sites i) d → Paid p n (after_transition w i d) (ks ++ d.picks) (out ++ d.sent)
unit_paid p n limit i w ks out th d real low high r unit = go (unit_or_led Anywhere p n limit i w ks th d real r.joined unit)
  where
    go : (IsKeptUnit p (w.sites i) th → ⊥) ⊎ Led Anywhere p w ks r.joined.reached.centre i th d → Paid p n (after_transition w i d) (ks ++ d.picks) (out ++ d.sent)
    go (inl other) = record {
      joined = unit_joined p n limit i real w ks r.joined th d unit other;
      tally = other_tally p n limit i real w ks r.joined th d unit other low high out r.tally (unit_joined p n limit i real w ks r.joined th d unit other).reached.centre (unit_joined p n limit i real w ks r.joined th d unit other).reached.run;
    }
    go (inr led) = record { joined = led.joined; tally = leaves_tally p n w ks r.joined.reached.centre r.joined.reached.run out r.tally i d led.end led.leaves led.joined.reached.centre led.joined.reached.run }

unit_owed : (p : List Stmt) (n limit i : ℕ) (w : World) (ks : List Pick) (out : List Sent) (th : ThreadName) (d : Transition) → i ≢ 0 → Owed p w ks out → IsUnit p n limit th (w.sites i) d → Owed p (after_transition w i d) (ks ++ d.picks) (out ++ d.sent)
unit_owed p n limit i w ks out th d real r unit = go (unit_or_led Anywhere p n limit i w ks th d real r.joined unit)
  where
    number : (w.sites i).records.site ≡ i
    number = (r.joined.reached.parts.kept i).site

    nowhere : (k : ℕ) (a : Awaited) (st : Stack) → IsAsking (threads w.sites) k th a st → ⊥
    nowhere = nobody_asks p i real w ks r.joined th unit.0 unit.1

    quiet : (k to : ℕ) (x : Answer) (bundle : List Equation) → IsOnItsWay w.mail k to (answer th x bundle) → ⊥
    quiet k to x bundle at = let g = r.joined.answers.asking.grounded (Answered k to th x) (bundle, at) in nowhere to g.0 g.1 g.2

    go : (IsKeptUnit p (w.sites i) th → ⊥) ⊎ Led Anywhere p w ks r.joined.reached.centre i th d → Owed p (after_transition w i d) (ks ++ d.picks) (out ++ d.sent)
    go (inl other) = record {
      joined = unit_joined p n limit i real w ks r.joined th d unit other;
      owing = owing_served p w ks out r.joined.reached.centre r.joined.reached.run r.owing i d number [] Nobody (λ m b q. absurd b) (other_owes p n limit i real w ks r.joined th d unit other);
    }
    go (inr led) = record { joined = led.joined; owing = owes led.owes }
      where
        owes : Owes p (w.sites i) r.joined.reached.centre d [] Nobody ⊎ AsksOne (w.sites i) d th → Owing p (after_transition w i d) (ks ++ d.picks) (out ++ d.sent)
        owes (inl o) = owing_served p w ks out r.joined.reached.centre r.joined.reached.run r.owing i d number [] Nobody (λ m b q. absurd b) o
        owes (inr o) = owing_asked p w ks out r.joined.reached.centre r.joined.reached.run r.owing i d number th nowhere quiet o

-- of a thread that goes at the site
unit_settled : (p : List Stmt) (R : ℕ → ThreadName → Type 0) (n limit i : ℕ) (w : World) (ks : List Pick) (out : List Sent) (th : ThreadName) (d : Transition) → i ≢ 0 → R i th → Settled p R w ks out → IsUnit p n limit th (w.sites i) d → Settled p R (after_transition w i d) (ks ++ d.picks) (out ++ d.sent)
unit_settled p R n limit i w ks out th d real goes r unit = go (unit_or_led R p n limit i w ks th d real r.joined unit)
  where
    row : Balances p R none_came w.sites (put w.sites i d.site) r.joined.reached.centre d → Balanced p R none_came (after_transition w i d) (ks ++ d.picks) (out ++ d.sent)
    row a = balanced_row p R w ks out none_came r.joined.reached.centre r.joined.reached.run (λ l o h. r.joined.reached.numbers.below l o.to o.msg h) i d r.balanced a

    go : (IsKeptUnit p (w.sites i) th → ⊥) ⊎ Led R p w ks r.joined.reached.centre i th d → Settled p R (after_transition w i d) (ks ++ d.picks) (out ++ d.sent)
    go (inl other) = record { joined = unit_joined p n limit i real w ks r.joined th d unit other; balanced = row (other_balances p n limit i real w ks r.joined th d unit other R) }
    go (inr led) = record { joined = led.joined; balanced = row (led.balances goes) }

-- ---- turns

-- what units keep, of any world, any picks and any messages that were sent, turns keep
module _ (p : List Stmt) (n limit i : ℕ) (Q : World → List Pick → List Sent → Type 0) (Goes : ThreadName → Type 0)
    (of_unit : (w : World) (ks : List Pick) (out : List Sent) (th : ThreadName) (d : Transition) → Goes th → Q w ks out → IsUnit p n limit th (w.sites i) d → Q (after_transition w i d) (ks ++ d.picks) (out ++ d.sent)) where
  same_site : (w : World) → after_transition w i (without_output (w.sites i)) ≡ w
  same_site w = same_world _ _ _ _ _ _ _ _ (at_own w.sites i) (omega arith) (append-nil w.mail) (append-nil w.lines)

  still_kept : (w : World) (ks : List Pick) (out : List Sent) → Q w ks out → Q (after_transition w i (without_output (w.sites i))) (ks ++ []) (out ++ [])
  still_kept w ks out r = subst (λ (v : World). Q v (ks ++ []) (out ++ [])) (sym (same_site w)) (subst (λ (ls : List Pick). Q w ls (out ++ [])) (sym (append-nil ks)) (subst (λ (ms : List Sent). Q w ks ms) (sym (append-nil out)) r))

  units_kept : (ths : List ThreadName) → Each Goes ths → (w : World) (ks : List Pick) (out : List Sent) (d : Transition) → Q w ks out → AreUnits p n limit ths (w.sites i) d → Q (after_transition w i d) (ks ++ d.picks) (out ++ d.sent)
  units_kept [] goes w ks out d r is = subst (λ (e : Transition). Q (after_transition w i e) (ks ++ e.picks) (out ++ e.sent)) (sym is) (still_kept w ks out r)
  units_kept (th ∷ ths) goes w ks out d r (one, rest, unit, units, is) =
      let first = of_unit w ks out th one goes.0 r unit in
      let v = after_transition w i one in
      let last = units_kept ths goes.1 v (ks ++ one.picks) (out ++ one.sent) rest first (subst (λ (s : Site). AreUnits p n limit ths s rest) (sym (at_here w.sites i one.site)) units) in
      subst (λ (e : Transition). Q (after_transition w i e) (ks ++ e.picks) (out ++ e.sent)) (sym is)
      (subst (λ (u : World). Q u (ks ++ (one.picks ++ rest.picks)) (out ++ (one.sent ++ rest.sent))) (sym (acts_after w i one rest))
      (subst (λ (ls : List Pick). Q (after_transition v i rest) ls (out ++ (one.sent ++ rest.sent))) (append_assoc ks one.picks rest.picks)
      (subst (λ (ms : List Sent). Q (after_transition v i rest) ((ks ++ one.picks) ++ rest.picks) ms) (append_assoc out one.sent rest.sent) last)))

  -- a turn without a message
  pub quiet_kept : (ths : List ThreadName) → Each Goes ths → (w : World) (ks : List Pick) (out : List Sent) (d : Transition) → Q w ks out → SiteTurnOf p n limit ths (w.sites i) None d → Q (after_transition w i d) (ks ++ d.picks) (out ++ d.sent)
  quiet_kept ths goes w ks out d r (few, (heard, rest, silent, units, is)) =
      subst (λ (e : Transition). Q (after_transition w i e) (ks ++ e.picks) (out ++ e.sent)) (sym is)
      (subst (λ (h : Transition). Q (after_transition w i (sequence h rest)) (ks ++ (h.picks ++ rest.picks)) (out ++ (h.sent ++ rest.sent))) (sym silent)
      (units_kept ths goes w ks out rest r (subst (λ (h : Transition). AreUnits p n limit ths h.site rest) silent units)))

  -- and units follow a message
  pub delivering_kept : (ths : List ThreadName) → Each Goes ths → (w : World) (ks : List Pick) (out : List Sent) (k : ℕ) (m : Msg) (d : Transition) → IsFit p n (w.sites i) m → Q (after_receipt (Some k) (after_transition w i (reception p limit m (w.sites i)))) (ks ++ (reception p limit m (w.sites i)).picks) (out ++ (reception p limit m (w.sites i)).sent) → SiteTurnOf p n limit ths (w.sites i) (Some m) d →
      (heard : Transition) × (rest : Transition) × (d ≡ sequence heard rest) × Q (after_transition (after_receipt (Some k) (after_transition w i heard)) i rest) ((ks ++ heard.picks) ++ rest.picks) ((out ++ heard.sent) ++ rest.sent)
  delivering_kept ths goes w ks out k m d fit came (few, (heard, rest, said, units, is)) = (heard, rest, is, go said)
    where
      go : IsReception p n limit (Some m) (w.sites i) heard → Q (after_transition (after_receipt (Some k) (after_transition w i heard)) i rest) ((ks ++ heard.picks) ++ rest.picks) ((out ++ heard.sent) ++ rest.sent)
      go (inr (unfit, e)) = absurd (unfit fit)
      go (inl (f, e)) =
          let v = after_receipt (Some k) (after_transition w i heard) in
          let got = subst (λ (h : Transition). Q (after_receipt (Some k) (after_transition w i h)) (ks ++ h.picks) (out ++ h.sent)) (sym e) came in
          units_kept ths goes v (ks ++ heard.picks) (out ++ heard.sent) rest got (subst (λ (s : Site). AreUnits p n limit ths s rest) (sym (at_here w.sites i heard.site)) units)

-- ---- what is paid, and what is owed

asks_from : (p : List Stmt) (n : ℕ) (s : Site) (m : Msg) → IsFit p n s m → AsksFrom n m
asks_from p n s (msg.Get c k) f = (f.sites.0, f.sites.1)
asks_from p n s (msg.Spawn o code vars bundle) f = tt
asks_from p n s (msg.Register x o) f = tt
asks_from p n s (msg.BindReq x o t bundle) f = tt
asks_from p n s (msg.Binding x t bundle) f = tt
asks_from p n s (msg.Forward c k) f = tt
asks_from p n s (msg.Put c v bundle) f = tt
asks_from p n s (msg.PortSend q o k) f = tt
asks_from p n s (msg.PortEnd o old new bundle) f = tt
asks_from p n s (msg.CellMake c v bundle) f = tt
asks_from p n s (msg.CellAsk c o k v bundle) f = tt
asks_from p n s (msg.CellOld o v bundle) f = tt

-- units of whatever threads
any_thread : (ths : List ThreadName) → Each (λ (th : ThreadName). Unit {0}) ths
any_thread [] = tt
any_thread (th ∷ ths) = (tt, any_thread ths)

module _ (p : List Stmt) (n limit i : ℕ) (real : i ≢ 0) (w : World) (ks : List Pick) (out : List Sent) (ths : List ThreadName) (d : Transition) where
  module _ (low : 1 ≤ i) (high : i ≤ n) where
    pub quiet_paid : Paid p n w ks out → SiteTurnOf p n limit ths (w.sites i) None d → Paid p n (after_transition w i d) (ks ++ d.picks) (out ++ d.sent)
    quiet_paid r turn = quiet_kept p n limit i (Paid p n) (λ th. Unit {0}) (λ w ks out th d goes r unit. unit_paid p n limit i w ks out th d real low high r unit) ths (any_thread ths) w ks out d r turn

    pub delivering_paid : (k : ℕ) (m : Msg) → Paid p n w ks out → IsForeignBinding i m → IsOnItsWay w.mail k i m → IsFit p n (w.sites i) m → SiteTurnOf p n limit ths (w.sites i) (Some m) d →
        (heard : Transition) × (rest : Transition) × (d ≡ sequence heard rest) × Paid p n (after_transition (after_receipt (Some k) (after_transition w i heard)) i rest) ((ks ++ heard.picks) ++ rest.picks) ((out ++ heard.sent) ++ rest.sent)
    delivering_paid k m r far at fit turn = delivering_kept p n limit i (Paid p n) (λ th. Unit {0}) (λ w ks out th d goes r unit. unit_paid p n limit i w ks out th d real low high r unit) ths (any_thread ths) w ks out k m d fit
        (message_paid p n limit i real w ks out r k m at low high far fit.takes (asks_from p n (w.sites i) m fit)) turn

  pub quiet_owed : Owed p w ks out → SiteTurnOf p n limit ths (w.sites i) None d → Owed p (after_transition w i d) (ks ++ d.picks) (out ++ d.sent)
  quiet_owed r turn = quiet_kept p n limit i (Owed p) (λ th. Unit {0}) (λ w ks out th d goes r unit. unit_owed p n limit i w ks out th d real r unit) ths (any_thread ths) w ks out d r turn

  pub delivering_owed : (k : ℕ) (m : Msg) → Owed p w ks out → IsForeignBinding i m → IsOnItsWay w.mail k i m → IsFit p n (w.sites i) m → SiteTurnOf p n limit ths (w.sites i) (Some m) d →
      (heard : Transition) × (rest : Transition) × (d ≡ sequence heard rest) × Owed p (after_transition (after_receipt (Some k) (after_transition w i heard)) i rest) ((ks ++ heard.picks) ++ rest.picks) ((out ++ heard.sent) ++ rest.sent)
  delivering_owed k m r far at fit turn = delivering_kept p n limit i (Owed p) (λ th. Unit {0}) (λ w ks out th d goes r unit. unit_owed p n limit i w ks out th d real r unit) ths (any_thread ths) w ks out k m d fit
      (message_owed p limit i real w ks out r k m at far fit.takes) turn

  -- where the threads of the units go at the site
  module _ (R : ℕ → ThreadName → Type 0) (goes : Each (R i) ths) where
    pub quiet_settled : Settled p R w ks out → SiteTurnOf p n limit ths (w.sites i) None d → Settled p R (after_transition w i d) (ks ++ d.picks) (out ++ d.sent)
    quiet_settled r turn = quiet_kept p n limit i (Settled p R) (R i) (λ w ks out th d here r unit. unit_settled p R n limit i w ks out th d real here r unit) ths goes w ks out d r turn

    pub delivering_settled : (k : ℕ) (m : Msg) → Settled p R w ks out → IsForeignBinding i m → IsOnItsWay w.mail k i m → IsFit p n (w.sites i) m → SiteTurnOf p n limit ths (w.sites i) (Some m) d →
        (heard : Transition) × (rest : Transition) × (d ≡ sequence heard rest) × Settled p R (after_transition (after_receipt (Some k) (after_transition w i heard)) i rest) ((ks ++ heard.picks) ++ rest.picks) ((out ++ heard.sent) ++ rest.sent)
    delivering_settled k m r far at fit turn = delivering_kept p n limit i (Settled p R) (R i) (λ w ks out th d here r unit. unit_settled p R n limit i w ks out th d real here r unit) ths goes w ks out k m d fit
        (message_settled p R limit i real w ks out r k m at far fit.takes) turn

-- ---- the start

start_cells : (p : List Stmt) (count : ℕ) → CellsMatch (start_world p count) (start p)
start_cells p count = record {
  queues = λ i d. record { once = tt; long = refl; stand = λ n h. absurd (nothing n h); listed = λ n st h. absurd (none_waits i n st d h) };
  cells = record { chains = λ c v e. absurd (none_some v e); others = λ c e. record { manager = refl; away = λ i. refl; quiet = λ m. refl } };
  gets = λ k to c a h. absurd (nothing _ h);
  contents = λ i c v e. absurd (away_here v e);
}
  where
    none_some : (v : VarName) → None ≡ Some v → ⊥
    none_some v e = cc

    away_here : (v : VarName) → Away ≡ Here v → ⊥
    away_here v e = cc

    none_waits : (i : ℕ) (n : ThreadName) (st : Stack) (d : CellName) → value_of equal_thread (initial_site p count i).threads n ≡ Some (st, mode.WaitsFor (Cell d)) → ⊥
    none_waits i n st d h = let runs : mode.WaitsFor (Cell d) ≡ mode.Runs = (start_thread p count i n (st, mode.WaitsFor (Cell d)) h).2 in cc

start_once : (p : List Stmt) (count i : ℕ) → AreDistinct (names (initial_site p count i).threads)
start_once p count i = go (i == 1)
  where
    go : (b : Bool) → AreDistinct (names (cond b (runnable_threads (start p).threads) []))
    go true = (tt, tt)
    go false = tt

start_sums : (p : List Stmt) (count : ℕ) → Sums (initial_site p count) [] (start p)
start_sums p count = record { printed = refl; all_ended = λ n out. sym (none n); once = start_once p count }
  where
    none : (n : ℕ) → sum_to n (ended (initial_site p count)) ≡ 0
    none zero = refl
    none (suc n) = let ih = none n in omega (arith, ih)

-- at the start nobody waits for an answer, so the sites are shown as they are
start_shown : (p : List Stmt) (n : ℕ) → shown (initial_site p n) [] ≡ initial_site p n
start_shown p n = search (rules, same)
  where
    same : (i : ℕ) → shown (initial_site p n) [] i ≡ initial_site p n i
    same i = ap (λ (ts : Threads). record (initial_site p n i) { threads = ts }) (go (i == 0) refl)
      where
        stood : (b : Bool) → standing (cond b (runnable_threads (start p).threads) []) ≡ cond b (runnable_threads (start p).threads) []
        stood true = refl
        stood false = refl

        none_zero : (initial_site p n 0).threads ≡ []
        none_zero = refl

        go : (b : Bool) → (i == 0) ≡ b → cond b [] (standing (initial_site p n i).threads) ≡ (initial_site p n i).threads
        go true e = ap (λ (k : ℕ). (initial_site p n k).threads) (sym ((nat_decides i 0).0 e))
        go false e = stood (i == 1)

start_joined : (p : List Stmt) (n : ℕ) → Joined p (start_world p n) []
start_joined p n = record {
  transit = [];
  reached = record {
    centre = start p;
    run = refl;
    parts = subst (λ (f : Sites). PartsIn p (here_at (records (initial_site p n))) (record (start_world p n) { sites = f }) (start p)) (sym (start_shown p n)) (start_parts p n);
    numbers = record { below = λ k to m h. absurd (nothing _ h); once = λ k a b m o h g. absurd (nothing _ h) };
    cells = subst (λ (f : Sites). CellsMatch (record (start_world p n) { sites = f }) (start p)) (sym (start_shown p n)) (start_cells p n);
    sums = subst (λ (f : Sites). Sums f [] (start p)) (sym (start_shown p n)) (start_sums p n);
  };
  answers = answers_at;
  once = start_once p n;
}
  where
    nobody_asks : (i : ℕ) (m : ThreadName) (a : Awaited) (st : Stack) → IsAsking (threads (initial_site p n)) i m a st → ⊥
    nobody_asks i m a st h = let runs : mode.WaitsFor a ≡ mode.Runs = (start_thread p n i m (st, mode.WaitsFor a) h.0).2 in cc

    no_claim : (y : Claim) → IsClaim [] (early_at (homes (initial_site p n))) y → ⊥
    no_claim (Asked k to a m f) (es, h) = nothing _ h
    no_claim (Answered k to m x) (es, h) = nothing _ h
    no_claim (Listed c r) h = nothing _ h

    answers_at : AnswersMatch p (start_world p n) [] (start p)
    answers_at = record {
      asking = record {
        stands = λ i m a st h. absurd (nobody_asks i m a st h);
        known = λ m v h. (let none : ◌≡◌ {A = Option ThreadState} None (Some v) = h in absurd (cc));
        alone = λ i k m a b st su h g. absurd (nobody_asks i m a st h);
        grounded = λ y h. absurd (no_claim y h);
        once = λ x y h g e. absurd (no_claim x h);
      };
      named = λ i m a st h. absurd (nobody_asks i m a st h);
      made = λ i m a st h. absurd (nobody_asks i m a st h);
      ends = record { ends = λ q. refl; alone = λ i q e h. (let none : ◌≡◌ {A = Option VarName} None (Some e) = h in absurd (cc)) };
      contents = record {
        kept = λ c v far h. (let none : ◌≡◌ {A = Option VarName} None (Some v) = h in absurd (cc));
        back = λ i c v h. (let none : ◌≡◌ {A = Option VarName} None (Some v) = h in absurd (cc));
        makes = λ k to c v h. absurd (nothing _ h.1);
        once = λ k l a b c v u h g. absurd (nothing _ h.1);
        lists = λ c. tt;
      };
      early = λ c r h. absurd (nothing _ h);
    }

-- and nothing was sent
pub start_paid : (p : List Stmt) (n count : ℕ) → Paid p n (start_world p count) [] []
unfolding start_joined
start_paid p n count = record { joined = start_joined p count; tally = record { tallied = λ c v e. absurd (none_some v e); unmade = λ c e g k u. refl; still = λ c z e. refl } }
  where
    none_some : (v : VarName) → None ≡ Some v → ⊥
    none_some v e = cc

pub start_owed : (p : List Stmt) (count : ℕ) → Owed p (start_world p count) [] []
start_owed p count = record {
  joined = start_joined p count;
  owing = record { ends = omega arith; olds = omega arith; homes = omega arith; asking = []; distinct = tt; waits = λ n h. absurd (nothing _ h); unanswered = λ n h k to x bundle at. nothing _ h; few = omega arith };
}

pub start_settled : (p : List Stmt) (R : ℕ → ThreadName → Type 0) (count : ℕ) → Settled p R (start_world p count) [] []
start_settled p R count = record {
  joined = start_joined p count;
  balanced = record {
    asked = λ c th away. inr refl;
    far = λ c th. inl refl;
    answered = λ l th. inl refl;
    early = λ c r h. absurd (nothing _ h);
    letters = λ k to c n o v es h. absurd (nothing _ h);
    numbers = λ k. omega arith;
  };
}
