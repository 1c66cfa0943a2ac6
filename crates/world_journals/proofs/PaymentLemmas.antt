-- What one turn pays for: Gets, Forwards and Puts of one cell.
use Rattle.std.proofs.Common.{arith, ◌≡◌, ◌≢◌, ◌∙◌, sym, ap, refl, subst, ℕ, ◌+◌, ◌<◌, ◌≤◌, List, [], ◌∷◌, ◌++◌, ◌⊎◌, inl, inr, true, Some, None, append_assoc, length}
use Rattle.std.specs.Prelude.{Option}
use Rattle.std.proofs.lemmas.Bool.{cond-true, cond-false}
use Rattle.tree_node.specs.Goal.{equal_cell}
use Rattle.tree_node.specs.declared.names.VarName.{VarName}
use Rattle.tree_node.specs.declared.names.CellName.{CellName}
use Rattle.tree_node.specs.declared.pick.Pick.{Pick}
use Rattle.tree_node.specs.Store.{Equation}
use Rattle.kernel_syntax.specs.declared.stmt.Stmt.{Stmt}
use Rattle.kernel_syntax.specs.Program.{IsProgram}
use Rattle.site_message.specs.declared.message.Msg.{Msg}
use Rattle.site_message.specs.declared.message.Msg.TheVariants as msg
use Rattle.site_message.specs.declared.message.Sent.{Sent}
use Rattle.site_message.specs.declared.turn.Turn.{Turn}
use Rattle.site_message.specs.Journal.{sent_of}
use Rattle.oz_model.specs.Run.{exchanges, exchanges_from}
use Rattle.oz_model.proofs.KindLemmas.{cell_same, cells_differ, cell_cases}
use Rattle.oz_model.proofs.SoundLemmas.{runs_are_sound}
use Rattle.token_chain.specs.declared.token.Token.{Token}
use Rattle.token_chain.specs.Mail.{Get, Forward, Put, mail_count}
use Rattle.token_chain.specs.Mail as token
use Rattle.token_chain.specs.Tally.{total, outstanding}
use Rattle.token_chain.proofs.TallyLemmas.{one_came}
use Rattle.site_model.specs.Site.{Site, CellRecord, cell_record, cell_record_in}
use Rattle.site_model.specs.Transition.{Transition}
use Rattle.site_model.specs.Turn.{SiteTurn, IsReception}
use Rattle.site_model.specs.Messages.{reception}
use Rattle.site_model.specs.Variables.{opening}
use Rattle.site_model.specs.Cells.{put_row}
use Rattle.site_model.specs.Run.{delivered_message}
use Rattle.world_model.specs.Schedule.{schedule}
use Rattle.world_model.specs.World.{World, Sites, Mail, IsOnItsWay, put, after_transition, after_receipt, mail_from, records, world_of}
use Rattle.world_model.proofs.MailLemmas.{sent_to}
use Rattle.world_variables.proofs.JournalLemmas.{came_acts}
use Rattle.world_cells.specs.CellCounts.{cell_weight, cell_weights}
use Rattle.world_cells.proofs.ChainLemmas.{tally, Came, cell_there, get_arrives, forward_arrives, put_arrives, arrives_there, arrives_here}
use Rattle.world_cells.proofs.FrameLemmas.{opens_nothing}
use Rattle.world_cells.proofs.MessageLemmas.{opened, cells_v, at_v, site_v}
use Rattle.world_cells.proofs.MessageLemmas as heard
use Rattle.world_cells.proofs.PutRowLemmas.{one_number, at_real_site, put_kept}
use Rattle.world_cells.proofs.TallyLemmas.{OneOfNumber, IsSilent, tally_sent, tally_other, none_says, silent_get, silent_forward, silent_put}
use Rattle.world_model.specs.Chain.{mobile_cells}
use Rattle.world_model.specs.Shown.{shown_world}
use Rattle.world_answers.proofs.LeaveLemmas.{Paid}
use Rattle.world_answers.proofs.JoinLemmas.{heard_picks}
use Rattle.world_answers.proofs.MessageLemmas.{message_comes}
use Rattle.world_cells.proofs.UnitTallyLemmas.{more_picks}
use Rattle.world_messages.proofs.RunLemmas.{Entry}
use Rattle.world_journals.specs.Requests.{exchange_count}
use Rattle.world_journals.proofs.CopyLemmas.{most, lost_any, all_less, all_zero}
use Rattle.world_journals.proofs.PartPaymentLemmas.{PartPays, part_pays}
use Rattle.world_journals.proofs.TurnLemmas.{Taken, real, paid_before, whole, takes, turn_paid}

-- the Gets and the Forwards of the cell that a turn sends
abbrev pub gets : CellName → Turn → ℕ
gets c e = cell_weights c 1 0 0 e.sent

abbrev pub forwards : CellName → Turn → ℕ
forwards c e = cell_weights c 0 1 0 e.sent

-- g where the message is a Get of the cell, f for a Forward and u for a Put
abbrev pub weight_of : CellName → (g f u : ℕ) → Option Msg → ℕ
weight_of c g f u None = 0
weight_of c g f u (Some m) = cell_weight c g f u m

-- 1 where a turn takes a Get of the cell, and where it takes a Put
abbrev pub all_gets_taken : CellName → List Turn → Turn → ℕ
all_gets_taken c j e = weight_of c 1 0 0 (delivered_message j e.delivered)

abbrev pub all_puts_taken : CellName → List Turn → Turn → ℕ
all_puts_taken c j e = weight_of c 0 0 1 (delivered_message j e.delivered)

pub record TurnPays (p : List Stmt) (c : CellName) (j : List Turn) (e : Turn) (old new : Token) : Type 0 where
  pub gets : gets c e + outstanding old ≤ exchange_count p c j e + outstanding new
  pub forwards : forwards c e + outstanding old ≤ exchange_count p c j e + outstanding new + all_gets_taken c j e
  pub puts : all_puts_taken c j e ≤ exchange_count p c j e

taken_off : (g a m b t u k : ℕ) → g + a + u ≤ m + b + t → t ≤ u + k → g + a ≤ m + b + k
taken_off g a m b t u k h came = omega (arith, h, came)

module _ (p : List Stmt) (n limit : ℕ) (is : IsProgram p) (few : 1 ≤ n) (many : n ≤ 64) (short : limit ≤ 256) (j : List Turn) (e : Turn) (f : Sites) (d : Transition) (entry : Entry p n limit j e f d) where
  abbrev first : World
  first = world_of j f

  abbrev last : World
  last = world_of (e ∷ j) (put f e.site d.site)

  pub old : Paid p n first (schedule j) (sent_of j)
  old = paid_before p n limit is few many short j e f d entry

  one : (k : ℕ) (m : Msg) → IsOnItsWay first.mail k e.site m → OneOfNumber first.mail k (sent_to e.site m)
  one k m at = one_number first k e.site m at (λ a b x o h g. old.joined.reached.numbers.once k a b x o h g)

  -- ---- Gets that travel

  -- the messages of the cell that have come with this one, and how many Gets are among them
  abbrev Lost : CellName → ℕ → Msg → Type 0
  Lost c k m = (gone : List token.Mail) × Came c gone first.mail (after_receipt (Some k) first).mail × (total n (λ s. mail_count gone (Get s)) ≤ cell_weight c 1 0 0 m)

  silent_lost : (c : CellName) (k : ℕ) (m : Msg) → IsOnItsWay first.mail k e.site m → IsSilent c e.site m → Lost c k m
  silent_lost c k m at silent =
      ([], λ x. (let same = tally_other c first.mail k e.site m (one k m at) silent x in omega (arith, same)), (let none : total n (λ s. mail_count [] (Get s)) ≡ 0 = all_zero n _ (λ s. refl) in omega (arith, none)))

  forward_lost : (b : CellName) (k a : ℕ) → IsOnItsWay first.mail k e.site (msg.Forward b a) → Lost b k (msg.Forward b a)
  forward_lost b k a at =
      let arrives = forward_arrives first k e.site b a at (one k (msg.Forward b a) at) in
      let found = cell_there first.sites first.mail (mobile_cells old.joined.reached.centre.cells) b (Forward e.site a) old.joined.reached.cells.cells (arrives_there first k e.site _ b (Forward e.site a) arrives) in
      (Forward e.site a ∷ [], arrives_here first k e.site _ b (Forward e.site a) found.0 arrives found.2, (let none : total n (λ s. mail_count (Forward e.site a ∷ []) (Get s)) ≡ 0 = all_zero n _ (λ s. refl) in omega (arith, none)))

  put_lost : (b : CellName) (k : ℕ) (v : VarName) (bundle : List Equation) → IsOnItsWay first.mail k e.site (msg.Put b v bundle) → Lost b k (msg.Put b v bundle)
  put_lost b k v bundle at =
      let arrives = put_arrives first k e.site b v bundle at (one k (msg.Put b v bundle) at) in
      let found = cell_there first.sites first.mail (mobile_cells old.joined.reached.centre.cells) b (Put e.site v) old.joined.reached.cells.cells (arrives_there first k e.site _ b (Put e.site v) arrives) in
      (Put e.site v ∷ [], arrives_here first k e.site _ b (Put e.site v) found.0 arrives found.2, (let none : total n (λ s. mail_count (Put e.site v ∷ []) (Get s)) ≡ 0 = all_zero n _ (λ s. refl) in omega (arith, none)))

  get_lost : (b : CellName) (k a : ℕ) → IsOnItsWay first.mail k e.site (msg.Get b a) → 1 ≤ a → a ≤ n → Lost b k (msg.Get b a)
  get_lost b k a at low high =
      let arrives = get_arrives first k e.site b a at (one k (msg.Get b a) at) (old.joined.reached.cells.gets k e.site b a at).0 in
      let found = cell_there first.sites first.mail (mobile_cells old.joined.reached.centre.cells) b (Get a) old.joined.reached.cells.cells (arrives_there first k e.site _ b (Get a) arrives) in
      (Get a ∷ [], arrives_here first k e.site _ b (Get a) found.0 arrives found.2, (let came = one_came n a low high in let all = cond-true {A = ℕ} (equal_cell b b) 1 0 (cell_same b) in omega (arith, came, all)))

  lost : (c : CellName) (k : ℕ) (m : Msg) → Taken p n j e (f e.site) k m → Lost c k m
  lost c k (msg.Get b a) t = go (cell_cases c b)
    where
      go : (c ≡ b) ⊎ (c ≢ b) → Lost c k (msg.Get b a)
      go (inl q) = subst (λ (x : CellName). Lost x k (msg.Get b a)) (sym q) (get_lost b k a t.at t.fit.sites.0 t.fit.sites.1)
      go (inr q) = silent_lost c k (msg.Get b a) t.at (silent_get c b e.site a q)
  lost c k (msg.Forward b a) t = go (cell_cases c b)
    where
      go : (c ≡ b) ⊎ (c ≢ b) → Lost c k (msg.Forward b a)
      go (inl q) = subst (λ (x : CellName). Lost x k (msg.Forward b a)) (sym q) (forward_lost b k a t.at)
      go (inr q) = silent_lost c k (msg.Forward b a) t.at (silent_forward c b e.site a q)
  lost c k (msg.Put b v bundle) t = go (cell_cases c b)
    where
      go : (c ≡ b) ⊎ (c ≢ b) → Lost c k (msg.Put b v bundle)
      go (inl q) = subst (λ (x : CellName). Lost x k (msg.Put b v bundle)) (sym q) (put_lost b k v bundle t.at)
      go (inr q) = silent_lost c k (msg.Put b v bundle) t.at (silent_put c b e.site v bundle q)
  lost c k (msg.Spawn o code vars bundle) t = silent_lost c k (msg.Spawn o code vars bundle) t.at (none_says c e.site (msg.Spawn o code vars bundle) tt)
  lost c k (msg.Register x o) t = silent_lost c k (msg.Register x o) t.at (none_says c e.site (msg.Register x o) tt)
  lost c k (msg.BindReq x o y bundle) t = silent_lost c k (msg.BindReq x o y bundle) t.at (none_says c e.site (msg.BindReq x o y bundle) tt)
  lost c k (msg.Binding x y bundle) t = silent_lost c k (msg.Binding x y bundle) t.at (none_says c e.site (msg.Binding x y bundle) tt)
  lost c k (msg.PortSend q o a) t = silent_lost c k (msg.PortSend q o a) t.at (none_says c e.site (msg.PortSend q o a) tt)
  lost c k (msg.PortEnd o was now bundle) t = silent_lost c k (msg.PortEnd o was now bundle) t.at (none_says c e.site (msg.PortEnd o was now bundle) tt)
  lost c k (msg.CellMake b v bundle) t = silent_lost c k (msg.CellMake b v bundle) t.at (none_says c e.site (msg.CellMake b v bundle) tt)
  lost c k (msg.CellAsk d o a v bundle) t = silent_lost c k (msg.CellAsk d o a v bundle) t.at (none_says c e.site (msg.CellAsk d o a v bundle) tt)
  lost c k (msg.CellOld o v bundle) t = silent_lost c k (msg.CellOld o v bundle) t.at (none_says c e.site (msg.CellOld o v bundle) tt)

  abbrev going_in : CellName → Mail → ℕ
  going_in c mail = total n (λ s. tally c mail (Get s))

  -- the Gets that travelled travel still, but for one that the turn took
  came : (c : CellName) → going_in c first.mail ≤ going_in c last.mail + all_gets_taken c j e
  came c = subst (λ (v : World). going_in c first.mail ≤ going_in c v.mail + all_gets_taken c j e) (whole p n limit is few many short j e f d entry) (by e.delivered refl)
    where
      more : (mail : Mail) (k : ℕ) (gone : List token.Mail) (x : ℕ) → Came c gone first.mail mail → total n (λ s. mail_count gone (Get s)) ≤ x → going_in c first.mail ≤ going_in c (mail ++ mail_from k d.sent) + x
      more mail k gone x less most =
          let all = all_less n (λ s. tally c first.mail (Get s)) (λ s. tally c (mail ++ mail_from k d.sent) (Get s)) (λ s. mail_count gone (Get s)) (λ s. (let sum = tally_sent c mail k d.sent (Get s) in let is = less (Get s) in omega (arith, sum, is))) in
          omega (arith, all, most)

      by : (o : Option ℕ) → e.delivered ≡ o → going_in c first.mail ≤ going_in c (after_receipt o (after_transition first e.site d)).mail + weight_of c 1 0 0 (delivered_message j o)
      by None q = more first.mail first.sent [] 0 (λ m. omega arith) (let none : total n (λ s. mail_count [] (Get s)) ≡ 0 = all_zero n _ (λ s. refl) in omega (arith, none))
      by (Some k) q = go (takes p n limit is few many short j e f d entry k q)
        where
          go : (m : Msg) × Taken p n j e (f e.site) k m → going_in c first.mail ≤ going_in c (after_receipt (Some k) (after_transition first e.site d)).mail + weight_of c 1 0 0 (delivered_message j (Some k))
          go (m, t) =
              let l = lost c k m t in
              let low : k < first.sent = old.joined.reached.numbers.below k e.site m t.at in
              subst (λ (o : Option Msg). going_in c first.mail ≤ going_in c (after_receipt (Some k) (after_transition first e.site d)).mail + weight_of c 1 0 0 o) (sym t.is)
              (subst (λ (v : World). going_in c first.mail ≤ going_in c v.mail + cell_weight c 1 0 0 m) (sym (came_acts first e.site d k low))
              (more (after_receipt (Some k) first).mail first.sent l.0 (cell_weight c 1 0 0 m) l.1 l.2))

  -- ---- a Put is served at once

  module _ (k : ℕ) (b : CellName) (v : VarName) (bundle : List Equation) (t : Taken p n j e (f e.site) k (msg.Put b v bundle)) where
    abbrev m : Msg
    m = msg.Put b v bundle

    -- somebody waits
    waits : 1 ≤ length (cell_record (f e.site) b).queue
    waits =
        let arrives = put_arrives first k e.site b v bundle t.at (one k m t.at) in
        let found = cell_there first.sites first.mail (mobile_cells old.joined.reached.centre.cells) b (Put e.site v) old.joined.reached.cells.cells (arrives_there first k e.site _ b (Put e.site v) arrives) in
        subst (λ (y : ℕ). 1 ≤ y) (old.joined.reached.cells.queues e.site b).long ((old.tally.tallied b found.0 found.1).wanted e.site t.fit.takes)

    abbrev taken : List Pick
    taken = (reception p limit m (f e.site)).picks

    far : e.site ≢ 0
    far = real p n limit is few many short j e f d entry

    abbrev seen : World
    seen = shown_world first old.joined.transit

    -- as the machine sees it, without those that wait for answers
    served_seen : length (exchanges_from p b old.joined.reached.centre (reception p limit m (seen.sites e.site)).picks) ≡ length (cell_record (f e.site) b).queue
    served_seen =
        let r = old.joined.reached in
        let row = put_kept p limit (after_transition seen e.site (opening m (seen.sites e.site))) r.centre k e.site b v bundle (opened p limit seen (schedule j) r k e.site m far t.at).parts (cells_v p limit seen (schedule j) r k e.site m far t.at) (runs_are_sound p (schedule j) r.centre r.run) (at_v p limit seen (schedule j) r k e.site m far t.at) (heard.once p limit seen (schedule j) r k e.site m far t.at) (at_real_site (records (after_transition seen e.site (opening m (seen.sites e.site))).sites) e.site v far (opened p limit seen (schedule j) r k e.site m far t.at).vars.0) far in
        let there = subst (λ (y : Site). length (exchanges_from p b r.centre (put_row p limit b v y).picks) ≡ length (cell_record y b).queue) (site_v p limit seen (schedule j) r k e.site m far t.at) row.exchanged in
        there ∙ ap (λ (qs : List (CellName × CellRecord)). length (cell_record_in qs b).queue) (opens_nothing m (seen.sites e.site)).cell_records

    served : length (exchanges_from p b old.joined.reached.centre taken) ≡ length (cell_record (f e.site) b).queue
    served = subst (λ (ks : List Pick). length (exchanges_from p b old.joined.reached.centre ks) ≡ length (cell_record (f e.site) b).queue) (heard_picks p limit e.site far first (schedule j) old.joined k m tt t.elsewhere t.at t.fit.takes) served_seen

    at_once : e.delivered ≡ Some k → 1 ≤ exchange_count p b j e
    at_once q = go (subst (λ (o : Option Msg). SiteTurn p n limit (f e.site) o d) (ap (delivered_message j) q ∙ t.is) entry.turn)
      where
        go : SiteTurn p n limit (f e.site) (Some m) d → 1 ≤ exchange_count p b j e
        go (ths, most, (heard, rest, said, units, sums)) = by said
          where
            by : IsReception p n limit (Some m) (f e.site) heard → 1 ≤ exchange_count p b j e
            by (inr (unfit, u)) = absurd (unfit t.fit)
            by (inl (fit, u)) =
                let r = (message_comes p limit e.site far first (schedule j) old.joined k m t.at t.elsewhere t.fit.takes).reached in
                let x = more_picks p b (schedule j) taken old.joined.reached.centre old.joined.reached.run in
                let y = more_picks p b (schedule j ++ taken) rest.picks r.centre r.run in
                let picks : e.picks ≡ taken ++ rest.picks = entry.tells.picks ∙ ap (λ (z : Transition). z.picks) sums ∙ ap (λ (z : Transition). z.picks ++ rest.picks) u in
                let all : length (exchanges p (schedule j ++ e.picks) b) ≡ length (exchanges p ((schedule j ++ taken) ++ rest.picks) b) = ap (λ (ks : List Pick). length (exchanges p (schedule j ++ ks) b)) picks ∙ ap (λ (ks : List Pick). length (exchanges p ks b)) (sym (append_assoc (schedule j) taken rest.picks)) in
                omega (arith, x, y, all, served, waits)

  puts_paid : (c : CellName) → all_puts_taken c j e ≤ exchange_count p c j e
  puts_paid c = by e.delivered refl
    where
      nothing : weight_of c 0 0 1 (delivered_message j e.delivered) ≡ 0 → all_puts_taken c j e ≤ exchange_count p c j e
      nothing z = omega (arith, z)

      by : (o : Option ℕ) → e.delivered ≡ o → all_puts_taken c j e ≤ exchange_count p c j e
      by None q = nothing (ap (λ (o : Option ℕ). weight_of c 0 0 1 (delivered_message j o)) q)
      by (Some k) q = go (takes p n limit is few many short j e f d entry k q)
        where
          go : (m : Msg) × Taken p n j e (f e.site) k m → all_puts_taken c j e ≤ exchange_count p c j e
          go (m, t) = kind m t (ap (λ (o : Option ℕ). weight_of c 0 0 1 (delivered_message j o)) q ∙ ap (weight_of c 0 0 1) t.is)
            where
              put_paid : (b : CellName) (v : VarName) (bundle : List Equation) → Taken p n j e (f e.site) k (msg.Put b v bundle) → all_puts_taken c j e ≡ cell_weight c 0 0 1 (msg.Put b v bundle) → (c ≡ b) ⊎ (c ≢ b) → all_puts_taken c j e ≤ exchange_count p c j e
              put_paid b v bundle t w (inl y) =
                  let one : 1 ≤ exchange_count p c j e = subst (λ (x : CellName). 1 ≤ exchange_count p x j e) (sym y) (at_once k b v bundle t q) in
                  let is : cell_weight c 0 0 1 (msg.Put b v bundle) ≡ 1 = cond-true (equal_cell c b) 1 0 (subst (λ (x : CellName). equal_cell c x ≡ true) y (cell_same c)) in
                  omega (arith, one, is, w)
              put_paid b v bundle t w (inr y) = nothing (w ∙ cond-false (equal_cell c b) 1 0 (cells_differ c b y))

              kind : (m : Msg) → Taken p n j e (f e.site) k m → all_puts_taken c j e ≡ cell_weight c 0 0 1 m → all_puts_taken c j e ≤ exchange_count p c j e
              kind (msg.Put b v bundle) t w = put_paid b v bundle t w (cell_cases c b)
              kind (msg.Get b a) t w = nothing (w ∙ lost_any (equal_cell c b))
              kind (msg.Forward b a) t w = nothing (w ∙ lost_any (equal_cell c b))
              kind (msg.Spawn o code vars bundle) t w = nothing w
              kind (msg.Register x o) t w = nothing w
              kind (msg.BindReq x o y bundle) t w = nothing w
              kind (msg.Binding x y bundle) t w = nothing w
              kind (msg.PortSend r o a) t w = nothing w
              kind (msg.PortEnd o was now bundle) t w = nothing w
              kind (msg.CellMake b v bundle) t w = nothing w
              kind (msg.CellAsk b o a v bundle) t w = nothing w
              kind (msg.CellOld o v bundle) t w = nothing w

  -- ---- Gets and Forwards

  module _ (c : CellName) where
    keeps : (o : List Sent) → Paid p n first (schedule j) o → Paid p n last (schedule j ++ e.picks) (o ++ e.sent)
    keeps o q = turn_paid p n limit is few many short j e f d entry o q

    abbrev old_token : Token
    old_token = (cell_record (f e.site) c).held.token

    abbrev new_token : Token
    new_token = (cell_record d.site c).held.token

    pub whole_part : PartPays p n c (schedule j) e.picks e.sent first.mail last.mail old_token new_token
    whole_part = part_pays p n first last (schedule j) e.picks e.sent (sent_of j) e.site d.site entry.site.0 entry.site.1 refl old keeps c

    -- all but what a site that made the cell asks for itself
    pub turn_pays : TurnPays p c j e old_token new_token
    turn_pays =
        let part = whole_part in
        record {
          gets = part.gets;
          forwards = taken_off (forwards c e) (outstanding old_token) (exchange_count p c j e) (outstanding new_token) (going_in c first.mail) (going_in c last.mail) (all_gets_taken c j e) part.forwards (came c);
          puts = puts_paid c;
        }
