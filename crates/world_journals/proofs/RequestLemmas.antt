-- Each turn of every run pays for its messages on cells, and so does each site in the whole run.
use Rattle.std.proofs.Common.{arith, ◌≡◌, ◌≢◌, ◌∙◌, sym, ap, refl, subst, ℕ, ◌+◌, ◌≤◌, List, [], ◌∷◌, ◌⊎◌, inl, inr, Bool, true, false, cond, Some, None, length}
use Rattle.std.specs.Prelude.{Option, ◌==◌, ◌&&◌}
use Rattle.tree_node.specs.declared.names.CellName.{CellName}
use Rattle.kernel_syntax.specs.declared.stmt.Stmt.{Stmt}
use Rattle.kernel_syntax.specs.Program.{IsProgram}
use Rattle.site_message.specs.declared.message.Sent.{Sent}
use Rattle.site_message.specs.declared.turn.Turn.{Turn}
use Rattle.site_message.specs.Journal.{IsTravelling, sent_of}
use Rattle.bind_protocol.proofs.ListLemmas.{one, count_append}
use Rattle.token_chain.specs.declared.token.Token.{Token}
use Rattle.token_chain.specs.Tally.{total, outstanding}
use Rattle.token_chain.proofs.TallyLemmas.{total_change}
use Rattle.oz_model.specs.Run.{exchanges}
use Rattle.world_journals.proofs.CopyLemmas.{all_zero}
use Rattle.site_model.specs.Site.{Site, initial_site, cell_record}
use Rattle.site_model.specs.Transition.{Transition}
use Rattle.site_model.specs.Run.{WorldRun, delivered_message, message_of}
use Rattle.world_model.specs.Schedule.{schedule}
use Rattle.world_model.specs.Shown.{shown_world}
use Rattle.world_model.specs.World.{Sites, put, world_of}
use Rattle.world_model.proofs.PutLemmas.{nat_decides, at_here, at_other}
use Rattle.world_cells.proofs.ChainLemmas.{number_or}
use Rattle.world_messages.proofs.RunLemmas.{Entry, every_run}
use Rattle.world_simulation.proofs.SimulationLemmas.{paid}
use Rattle.world_journals.specs.Requests.{asked_by, puts_delivered, puts_taken, exchange_count, asks_for, names_next, is_put, gets_for, forwards_for, in_turns_of, exchanges_at, IsTurnPaid, AreRequestsServed, TurnsArePaid, ExchangesAreSplit, RequestsAreServed}
use Rattle.world_journals.proofs.PaymentLemmas.{whole_part}
use Rattle.world_journals.proofs.OwnLemmas.{turn_is_paid, own_gets, answers, none_of_owner}
use Rattle.world_journals.proofs.CountLemmas.{passes, came_of, came, no_more, none_lost}
use Rattle.world_journals.proofs.TravelLemmas.{few_puts}

pub turns_are_paid : TurnsArePaid
turns_are_paid p n limit j w is few many short run e s wired site (d, turn, tells, at) c =
    subst (λ (t : Site). IsTurnPaid p c j e (cell_record (w e.site) c).held.token (cell_record t c).held.token) (sym at)
    (turn_is_paid p n limit is few many short j e w d (record { run = run; wired = wired; site = site; turn = (e.units, turn.0, turn.1); told = turn; tells = tells }) c)

-- ---- what a turn adds

-- what the turns of a site count, with one turn more
counts_here : (s : ℕ) (f : List Turn → Turn → ℕ) (e : Turn) (j : List Turn) → (e.site == s) ≡ true → in_turns_of s f (e ∷ j) ≡ in_turns_of s f j + f j e
counts_here s f e j q = rw q refl

counts_there : (s : ℕ) (f : List Turn → Turn → ℕ) (e : Turn) (j : List Turn) → (e.site == s) ≡ false → in_turns_of s f (e ∷ j) ≡ in_turns_of s f j
counts_there s f e j q = rw q (omega arith)

-- a Get of the cell for the site; a Put of the cell to the site
abbrev is_get : CellName → ℕ → Sent → Bool
is_get c s m = asks_for c s m.msg

abbrev brings : CellName → ℕ → Sent → Bool
brings c s m = is_put c m.msg && (m.to == s)

-- what holds of a site: the Puts that it took are followed by exchanges; the Forwards that name it are its own requests, where
-- it made the cell, else they answer Gets
pub record ServedAt (p : List Stmt) (c : CellName) (s : ℕ) (j : List Turn) (now : Token) : Type 0 where
  pub gets : gets_for c s (sent_of j) ≤ exchanges_at p c s j + outstanding now
  pub own : c.site ≡ s → forwards_for c s (sent_of j) ≤ exchanges_at p c s j + outstanding now
  pub answered : c.site ≢ s → forwards_for c s (sent_of j) ≤ came (is_get c s) j
  pub taken : came (brings c s) j ≤ exchanges_at p c s j

module _ (p : List Stmt) (n limit : ℕ) (is : IsProgram p) (few : 1 ≤ n) (many : n ≤ 64) (short : limit ≤ 256) where
  module _ (j : List Turn) (e : Turn) (f : Sites) (d : Transition) (entry : Entry p n limit j e f d) (c : CellName) (s : ℕ) where
    gets_sum : gets_for c s (sent_of (e ∷ j)) ≡ gets_for c s (sent_of j) + gets_for c s e.sent
    gets_sum = count_append (λ (m : Sent). asks_for c s m.msg) (sent_of j) e.sent

    forwards_sum : forwards_for c s (sent_of (e ∷ j)) ≡ forwards_for c s (sent_of j) + forwards_for c s e.sent
    forwards_sum = count_append (λ (m : Sent). names_next c s m.msg) (sent_of j) e.sent

    -- a Get comes for the site
    get_came : asked_by c s (delivered_message j e.delivered) ≤ came_of (is_get c s) j e.delivered
    get_came = by e.delivered refl
      where
        by : (o : Option ℕ) → e.delivered ≡ o → asked_by c s (delivered_message j e.delivered) ≤ came_of (is_get c s) j e.delivered
        by None q = let zero : asked_by c s (delivered_message j e.delivered) ≡ 0 = ap (λ (o : Option ℕ). asked_by c s (delivered_message j o)) q in omega (arith, zero)
        by (Some k) q = let t = entry.wired k q in go t.0 t.1
          where
            go : (m : Sent) → IsTravelling j k m → asked_by c s (delivered_message j e.delivered) ≤ came_of (is_get c s) j e.delivered
            go m t =
                let a : asked_by c s (delivered_message j e.delivered) ≡ one (asks_for c s m.msg) = ap (λ (o : Option ℕ). asked_by c s (delivered_message j o)) q ∙ ap (λ (o : Option Sent). asked_by c s (message_of o)) t.0 in
                let b : came_of (is_get c s) j e.delivered ≡ one (asks_for c s m.msg) = ap (came_of (is_get c s) j) q ∙ ap (passes (is_get c s)) t.0 in
                omega (arith, a, b)

    both_at : (x y : Bool) → one (x && y) ≤ cond x 1 0
    both_at true true = omega arith
    both_at true false = omega arith
    both_at false y = omega arith

    puts_weigh : (m : Sent) → one (brings c s m) ≤ puts_delivered c (Some m.msg)
    puts_weigh m = both_at (is_put c m.msg) (m.to == s)

    elsewhere : (x : Bool) (to : ℕ) → to ≡ e.site → (e.site == s) ≡ false → one (x && (to == s)) ≡ 0
    elsewhere x to at other = subst (λ (k : ℕ). one (x && (k == s)) ≡ 0) (sym at) (none x (e.site == s) other)
      where
        none : (x y : Bool) → y ≡ false → one (x && y) ≡ 0
        none true y z = ap one z
        none false y z = refl

    -- a Put comes to the site in its own turn
    put_came : came_of (brings c s) j e.delivered ≤ cond (e.site == s) (puts_taken c j e) 0
    put_came = by e.delivered refl
      where
        by : (o : Option ℕ) → e.delivered ≡ o → came_of (brings c s) j e.delivered ≤ cond (e.site == s) (puts_taken c j e) 0
        by None q = let zero : came_of (brings c s) j e.delivered ≡ 0 = ap (came_of (brings c s) j) q in omega (arith, zero)
        by (Some k) q = let t = entry.wired k q in go t.0 t.1 t.2
          where
            go : (m : Sent) → IsTravelling j k m → m.to ≡ e.site → came_of (brings c s) j e.delivered ≤ cond (e.site == s) (puts_taken c j e) 0
            go m t to = two (e.site == s) refl
              where
                this : came_of (brings c s) j e.delivered ≡ one (brings c s m)
                this = ap (came_of (brings c s) j) q ∙ ap (passes (brings c s)) t.0

                weighs : puts_taken c j e ≡ puts_delivered c (Some m.msg)
                weighs = ap (λ (o : Option ℕ). puts_delivered c (delivered_message j o)) q ∙ ap (λ (o : Option Sent). puts_delivered c (message_of o)) t.0

                two : (b : Bool) → (e.site == s) ≡ b → came_of (brings c s) j e.delivered ≤ cond b (puts_taken c j e) 0
                two true at = omega (arith, this, weighs, puts_weigh m)
                two false at = let zero = elsewhere (is_put c m.msg) m.to to at in omega (arith, this, zero)

    -- the turn is the site's
    more : e.site ≡ s → ServedAt p c s j (cell_record (f s) c).held.token → ServedAt p c s (e ∷ j) (cell_record d.site c).held.token
    more at r =
        let yes : (e.site == s) ≡ true = (nat_decides e.site s).1 at in
        let x = counts_here s (exchange_count p c) e j yes in
        let own_paid = subst (λ (k : ℕ). gets_for c k e.sent + outstanding (cell_record (f k) c).held.token ≤ exchange_count p c j e + outstanding (cell_record d.site c).held.token) at (turn_is_paid p n limit is few many short j e f d entry c).gets in
        let put : came_of (brings c s) j e.delivered ≤ puts_taken c j e = subst (λ (b : Bool). came_of (brings c s) j e.delivered ≤ cond b (puts_taken c j e) 0) yes put_came in
        record {
          gets = omega (arith, x, gets_sum, r.gets, own_paid);
          own = λ q. (let mine = subst (λ (k : ℕ). forwards_for c k e.sent + outstanding (cell_record (f k) c).held.token ≤ exchange_count p c j e + outstanding (cell_record d.site c).held.token) at ((turn_is_paid p n limit is few many short j e f d entry c).own (q ∙ sym at)) in omega (arith, x, forwards_sum, r.own q, mine));
          answered = λ other. omega (arith, forwards_sum, r.answered other, get_came, answers p n limit is few many short j e f d entry c s (λ z. other z.1));
          taken = omega (arith, x, r.taken, (turn_is_paid p n limit is few many short j e f d entry c).puts, put);
        }

    -- the turn is another site's
    same : e.site ≢ s → ServedAt p c s j (cell_record (f s) c).held.token → ServedAt p c s (e ∷ j) (cell_record (f s) c).held.token
    same other r =
        let no : (e.site == s) ≡ false = flag (e.site == s) refl in
        let x = counts_there s (exchange_count p c) e j no in
        let none = own_gets p n limit is few many short j e f d entry c s other in
        let put : came_of (brings c s) j e.delivered ≤ 0 = subst (λ (b : Bool). came_of (brings c s) j e.delivered ≤ cond b (puts_taken c j e) 0) no put_came in
        record {
          gets = omega (arith, x, gets_sum, r.gets, none);
          own = λ q. (let zero : asked_by c s (delivered_message j e.delivered) ≡ 0 = subst (λ (k : ℕ). asked_by c k (delivered_message j e.delivered) ≡ 0) q (none_of_owner p n limit is few many short j e f d entry c) in omega (arith, x, forwards_sum, r.own q, zero, answered));
          answered = λ q. omega (arith, forwards_sum, r.answered q, get_came, answered);
          taken = omega (arith, x, r.taken, put);
        }
      where
        flag : (b : Bool) → (e.site == s) ≡ b → (e.site == s) ≡ false
        flag true q = absurd (other ((nat_decides e.site s).0 q))
        flag false q = q

        answered : forwards_for c s e.sent ≤ asked_by c s (delivered_message j e.delivered)
        answered = answers p n limit is few many short j e f d entry c s (λ z. other z.0)

  abbrev ServedIn : List Turn → Sites → Type 0
  ServedIn j f = (c : CellName) (s : ℕ) → ServedAt p c s j (cell_record (f s) c).held.token

  served_start : ServedIn [] (initial_site p n)
  served_start c s = record { gets = omega arith; own = λ q. omega arith; answered = λ q. omega arith; taken = omega arith }

  served_entry : (j : List Turn) (e : Turn) (f : Sites) (d : Transition) → Entry p n limit j e f d → ServedIn j f → ServedIn (e ∷ j) (put f e.site d.site)
  served_entry j e f d entry h c s = by (number_or e.site s)
    where
      by : (e.site ≡ s) ⊎ (e.site ≢ s) → ServedAt p c s (e ∷ j) (cell_record (put f e.site d.site s) c).held.token
      by (inl at) =
          let now = more j e f d entry c s at (h c s) in
          subst (λ (t : Site). ServedAt p c s (e ∷ j) (cell_record t c).held.token) (sym (at_here f e.site d.site) ∙ ap (put f e.site d.site) at) now
      by (inr other) = subst (λ (t : Site). ServedAt p c s (e ∷ j) (cell_record t c).held.token) (sym (at_other f e.site d.site s (λ z. other (sym z)))) (same j e f d entry c s other (h c s))

  served : (j : List Turn) (f : Sites) → WorldRun p n limit j f → ServedIn j f
  served = every_run p n limit ServedIn served_start served_entry

  -- each Get was taken once, and the Puts that are not taken travel
  requests : (j : List Turn) (f : Sites) → WorldRun p n limit j f → (c : CellName) (s : ℕ) → AreRequestsServed p c s j (cell_record (f s) c).held.token
  requests j f run c s =
      let r = served j f run c s in
      let q = paid p n limit is few many short j f run in
      record {
        gets = r.gets;
        forwards = by (number_or c.site s);
        puts = omega (arith, r.taken, none_lost (brings c s) j run.wired, few_puts p (shown_world (world_of j f) q.joined.transit) (schedule j) q.joined.reached c s);
      }
    where
      by : (c.site ≡ s) ⊎ (c.site ≢ s) → forwards_for c s (sent_of j) ≤ exchanges_at p c s j + outstanding (cell_record (f s) c).held.token
      by (inl own) = (served j f run c s).own own
      by (inr other) = omega (arith, (served j f run c s).answered other, (served j f run c s).gets, no_more (is_get c s) j run.wired)

-- ---- exchanges by site

module _ (p : List Stmt) (n limit : ℕ) (is : IsProgram p) (few : 1 ≤ n) (many : n ≤ 64) (short : limit ≤ 256) where
  abbrev SplitIn : List Turn → Sites → Type 0
  SplitIn j f = (c : CellName) → total n (λ s. exchanges_at p c s j) ≡ length (exchanges p (schedule j) c)

  split_entry : (j : List Turn) (e : Turn) (f : Sites) (d : Transition) → Entry p n limit j e f d → SplitIn j f → SplitIn (e ∷ j) (put f e.site d.site)
  split_entry j e f d entry h c =
      let here = counts_here e.site (exchange_count p c) e j ((nat_decides e.site e.site).1 refl) in
      let sum = total_change n e.site (λ s. exchanges_at p c s j) (λ s. exchanges_at p c s (e ∷ j)) 0 (exchange_count p c j e) entry.site.0 entry.site.1 (omega (arith, here)) (λ k other. counts_there k (exchange_count p c) e j (flag k other (e.site == k) refl)) in
      let grown = (whole_part p n limit is few many short j e f d entry c).grown in
      let before = h c in
      omega (arith, sum, grown, before)
    where
      flag : (k : ℕ) → k ≢ e.site → (b : Bool) → (e.site == k) ≡ b → (e.site == k) ≡ false
      flag k other true q = absurd (other (sym ((nat_decides e.site k).0 q)))
      flag k other false q = q

  split : (j : List Turn) (f : Sites) → WorldRun p n limit j f → SplitIn j f
  split = every_run p n limit SplitIn (λ c. all_zero n (λ s. exchanges_at p c s []) (λ s. refl)) split_entry

pub exchanges_are_split : ExchangesAreSplit
exchanges_are_split p n limit j w is few many short run c = split p n limit is few many short j w run c

pub requests_are_served : RequestsAreServed
requests_are_served p n limit j w is few many short run = requests p n limit is few many short j w run
