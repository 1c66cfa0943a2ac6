-- The messages of one site's requests that a turn sends.
use Rattle.std.proofs.Common.{arith, ◌≡◌, ◌≢◌, ◌∙◌, sym, ap, refl, subst, ℕ, ◌+◌, ◌≤◌, List, ◌++◌, ◌⊎◌, inl, inr, Bool, true, false, cond, Some, None, append_assoc, length}
use Rattle.std.specs.Prelude.{Option, ◌==◌, ◌&&◌}
use Rattle.std.proofs.lemmas.Bool.{cond-false}
use Rattle.tree_node.specs.Goal.{equal_cell}
use Rattle.tree_node.specs.declared.names.CellName.{CellName}
use Rattle.tree_node.specs.declared.names.ThreadName.{ThreadName}
use Rattle.tree_node.specs.declared.pick.Pick.{Pick}
use Rattle.kernel_syntax.specs.declared.stmt.Stmt.{Stmt}
use Rattle.kernel_syntax.specs.Program.{IsProgram}
use Rattle.site_message.specs.declared.message.Msg.{Msg}
use Rattle.site_message.specs.declared.message.Msg.TheVariants as msg
use Rattle.site_message.specs.declared.message.Sent.{Sent}
use Rattle.site_message.specs.declared.turn.Turn.{Turn}
use Rattle.site_message.specs.Journal.{sent_of}
use Rattle.oz_model.specs.Run.{exchanges}
use Rattle.oz_model.proofs.KindLemmas.{cells_differ, cell_cases}
use Rattle.bind_protocol.proofs.ListLemmas.{count_append}
use Rattle.token_chain.specs.Mail.{Get}
use Rattle.token_chain.specs.Tally.{outstanding}
use Rattle.site_model.specs.Site.{Site, cell_record}
use Rattle.site_model.specs.Transition.{Transition, without_output, sequence}
use Rattle.site_model.specs.Turn.{SiteTurn, IsReception, AreUnits}
use Rattle.site_model.specs.Messages.{reception}
use Rattle.site_model.specs.Run.{delivered_message}
use Rattle.world_model.specs.Schedule.{schedule}
use Rattle.world_model.specs.World.{World, Sites, after_transition, after_receipt, world_of}
use Rattle.world_model.proofs.PutLemmas.{nat_decides, at_here}
use Rattle.world_cells.specs.CellCounts.{cell_weight}
use Rattle.world_cells.proofs.ChainLemmas.{tally}
use Rattle.world_cells.proofs.TallyLemmas.{tally_sent}
use Rattle.world_answers.proofs.LeaveLemmas.{Paid}
use Rattle.world_answers.proofs.MessageLemmas.{message_paid}
use Rattle.world_answers.proofs.TurnLemmas.{quiet_paid}
use Rattle.world_messages.proofs.RunLemmas.{Entry}
use Rattle.world_journals.specs.Requests.{exchange_count, asks_for, gets_for, forwards_for, asked_by, puts_delivered, IsTurnPaid}
use Rattle.world_journals.proofs.CopyLemmas.{lost_any, all_less, all_zero}
use Rattle.world_journals.proofs.PartPaymentLemmas.{PartPays, part_pays, going_in}
use Rattle.world_journals.proofs.TurnLemmas.{Taken, real, paid_before, takes}
use Rattle.world_journals.proofs.PaymentLemmas.{weight_of, all_gets_taken, turn_pays, whole_part}
use Rattle.world_journals.proofs.MessageLemmas.{turn_gets, turn_next, all_gets, all_next, heard_answers, heard_next}

module _ (p : List Stmt) (n limit : ℕ) (is : IsProgram p) (few : 1 ≤ n) (many : n ≤ 64) (short : limit ≤ 256) (j : List Turn) (e : Turn) (f : Sites) (d : Transition) (entry : Entry p n limit j e f d) where
  abbrev first : World
  first = world_of j f

  old : Paid p n first (schedule j) (sent_of j)
  old = paid_before p n limit is few many short j e f d entry

  number : (f e.site).records.site ≡ e.site
  number = (old.joined.reached.parts.kept e.site).site

  -- a Get for a site is sent in its own turns
  pub own_gets : (c : CellName) (k : ℕ) → e.site ≢ k → gets_for c k e.sent ≡ 0
  own_gets c k other = ap (gets_for c k) entry.tells.sent ∙ turn_gets p n limit c e.site k (delivered_message j e.delivered) (f e.site) d number other entry.turn

  -- a Forward that names a site answers its Get, unless the site made the cell
  pub answers : (c : CellName) (k : ℕ) → ((e.site ≡ k) × (c.site ≡ k) → ⊥) → forwards_for c k e.sent ≤ asked_by c k (delivered_message j e.delivered)
  answers c k other = subst (λ (ms : List Sent). forwards_for c k ms ≤ asked_by c k (delivered_message j e.delivered)) (sym entry.tells.sent) (turn_next p n limit c e.site k (delivered_message j e.delivered) (f e.site) d number other entry.turn)

  -- no Get comes for the site that made the cell
  pub none_of_owner : (c : CellName) → asked_by c c.site (delivered_message j e.delivered) ≡ 0
  none_of_owner c = by e.delivered refl
    where
      second : (a b : Bool) → b ≡ false → ◌≡◌ {A = ℕ} (cond (a && b) 1 0) 0
      second true b q = ap (λ (x : Bool). cond x 1 0) q
      second false b q = refl

      flag : (a b : ℕ) → a ≢ b → (a == b) ≡ false
      flag a b other = go (a == b) refl
        where
          go : (x : Bool) → (a == b) ≡ x → (a == b) ≡ false
          go true q = absurd (other ((nat_decides a b).0 q))
          go false q = q

      of_msg : (k : ℕ) (m : Msg) → Taken p n j e (f e.site) k m → asked_by c c.site (Some m) ≡ 0
      of_msg k (msg.Get b a) t = go (cell_cases c b)
        where
          go : (c ≡ b) ⊎ (c ≢ b) → asked_by c c.site (Some (msg.Get b a)) ≡ 0
          go (inl q) = second (equal_cell c b) (a == c.site) (flag a c.site (λ z. (old.joined.reached.cells.gets k e.site b a t.at).1 (z ∙ ap (λ (x : CellName). x.site) q)))
          go (inr q) = ap (λ (x : Bool). cond (x && (a == c.site)) 1 0) (cells_differ c b q)
      of_msg k (msg.Forward b a) t = refl
      of_msg k (msg.Put b v bundle) t = refl
      of_msg k (msg.Spawn o code vars bundle) t = refl
      of_msg k (msg.Register x a) t = refl
      of_msg k (msg.BindReq x o y bundle) t = refl
      of_msg k (msg.Binding x y bundle) t = refl
      of_msg k (msg.PortSend q m k1) t = refl
      of_msg k (msg.PortEnd o was now bundle) t = refl
      of_msg k (msg.CellMake b v bundle) t = refl
      of_msg k (msg.CellAsk d m k1 v bundle) t = refl
      of_msg k (msg.CellOld o v bundle) t = refl

      by : (o : Option ℕ) → e.delivered ≡ o → asked_by c c.site (delivered_message j e.delivered) ≡ 0
      by None q = ap (λ (o : Option ℕ). asked_by c c.site (delivered_message j o)) q
      by (Some k) q = go (takes p n limit is few many short j e f d entry k q)
        where
          go : (m : Msg) × Taken p n j e (f e.site) k m → asked_by c c.site (delivered_message j e.delivered) ≡ 0
          go (m, t) = ap (λ (o : Option ℕ). asked_by c c.site (delivered_message j o)) q ∙ ap (asked_by c c.site) t.is ∙ of_msg k m t

  -- ---- the site that made the cell

  abbrev OwnNext : CellName → Type 0
  OwnNext c = forwards_for c c.site e.sent + outstanding (cell_record (f e.site) c).held.token ≤ exchange_count p c j e + outstanding (cell_record d.site c).held.token

  -- where no Get of the cell comes
  plain_next : (c : CellName) → all_gets_taken c j e ≡ 0 → OwnNext c
  plain_next c none = omega (arith, none, all_next c c.site e.sent, (turn_pays p n limit is few many short j e f d entry c).forwards)

  module _ (k : ℕ) (b : CellName) (a : ℕ) (q : e.delivered ≡ Some k) (t : Taken p n j e (f e.site) k (msg.Get b a)) where
    abbrev m : Msg
    m = msg.Get b a

    abbrev said : Transition
    said = reception p limit m (f e.site)

    abbrev mid : World
    mid = after_receipt (Some k) (after_transition first e.site said)

    abbrev mid_picks : List Pick
    mid_picks = schedule j ++ said.picks

    heard_keeps : (o : List Sent) → Paid p n first (schedule j) o → Paid p n mid mid_picks (o ++ said.sent)
    heard_keeps o r = message_paid p n limit e.site (real p n limit is few many short j e f d entry) first (schedule j) o r k m t.at entry.site.0 entry.site.1 t.elsewhere t.fit.takes (t.fit.sites.0, t.fit.sites.1)

    one : PartPays p n b (schedule j) said.picks said.sent first.mail mid.mail (cell_record (f e.site) b).held.token (cell_record said.site b).held.token
    one = part_pays p n first mid (schedule j) said.picks said.sent (sent_of j) e.site said.site entry.site.0 entry.site.1 refl old heard_keeps b

    module _ (ths : List ThreadName) (most : length ths ≤ 64) (rest : Transition) (units : AreUnits p n limit ths said.site rest) where
      abbrev end : World
      end = after_transition mid e.site rest

      rest_keeps : (o : List Sent) → Paid p n mid mid_picks o → Paid p n end (mid_picks ++ rest.picks) (o ++ rest.sent)
      rest_keeps o r = quiet_paid p n limit e.site (real p n limit is few many short j e f d entry) mid mid_picks o ths rest entry.site.0 entry.site.1 r
          (most, (without_output (mid.sites e.site), rest, refl, subst (λ (s : Site). AreUnits p n limit ths s rest) (sym (at_here f e.site said.site)) units, refl))

      two : PartPays p n b mid_picks rest.picks rest.sent mid.mail end.mail (cell_record said.site b).held.token (cell_record rest.site b).held.token
      two = subst (λ (s : Site). PartPays p n b mid_picks rest.picks rest.sent mid.mail end.mail (cell_record s b).held.token (cell_record rest.site b).held.token) (at_here f e.site said.site)
          (part_pays p n mid end mid_picks rest.picks rest.sent (sent_of j ++ said.sent) e.site rest.site entry.site.0 entry.site.1 refl (heard_keeps (sent_of j) old) rest_keeps b)

      -- units take no Get
      still : going_in n b mid.mail ≤ going_in n b end.mail
      still =
          let all = all_less n (λ s. tally b mid.mail (Get s)) (λ s. tally b end.mail (Get s)) (λ s. 0) (λ s. (let sum = tally_sent b mid.mail mid.sent rest.sent (Get s) in omega (arith, sum))) in
          let none = all_zero n (λ s. 0) (λ s. refl) in omega (arith, all, none)

      split : d ≡ sequence said rest → OwnNext b
      split sums =
          let picks : e.picks ≡ said.picks ++ rest.picks = entry.tells.picks ∙ ap (λ (z : Transition). z.picks) sums in
          let count : length (exchanges p (schedule j ++ e.picks) b) ≡ length (exchanges p (mid_picks ++ rest.picks) b) = ap (λ (ks : List Pick). length (exchanges p (schedule j ++ ks) b)) picks ∙ ap (λ (ks : List Pick). length (exchanges p ks b)) (sym (append_assoc (schedule j) said.picks rest.picks)) in
          let sent : forwards_for b b.site e.sent ≡ forwards_for b b.site said.sent + forwards_for b b.site rest.sent = ap (forwards_for b b.site) (entry.tells.sent ∙ ap (λ (z : Transition). z.sent) sums) ∙ count_append _ said.sent rest.sent in
          let none : forwards_for b b.site said.sent ≡ 0 = heard_next b b.site m said.sent not_own (heard_answers p n limit m (f e.site)) in
          let end_token : outstanding (cell_record d.site b).held.token ≡ outstanding (cell_record rest.site b).held.token = ap (λ (z : Transition). outstanding (cell_record z.site b).held.token) sums in
          let w = whole_part p n limit is few many short j e f d entry b in
          omega (arith, one.gets, one.grown, two.forwards, two.grown, still, w.grown, count, sent, none, end_token, all_next b b.site rest.sent)
        where
          second : (x y : Bool) → y ≡ false → (x && y) ≡ false
          second true y z = z
          second false y z = refl

          flag : (x : Bool) → (a == b.site) ≡ x → (a == b.site) ≡ false
          flag true z = absurd ((old.joined.reached.cells.gets k e.site b a t.at).1 ((nat_decides a b.site).0 z))
          flag false z = z

          not_own : asks_for b b.site m ≡ false
          not_own = second (equal_cell b b) (a == b.site) (flag (a == b.site) refl)

    get_next : OwnNext b
    get_next = go (subst (λ (o : Option Msg). SiteTurn p n limit (f e.site) o d) (ap (delivered_message j) q ∙ t.is) entry.turn)
      where
        go : SiteTurn p n limit (f e.site) (Some m) d → OwnNext b
        go (ths, most, (heard, rest, came, units, sums)) = by came
          where
            by : IsReception p n limit (Some m) (f e.site) heard → OwnNext b
            by (inr (unfit, u)) = absurd (unfit t.fit)
            by (inl (fit, u)) = split ths most rest (subst (λ (h : Transition). AreUnits p n limit ths h.site rest) u units) (subst (λ (h : Transition). d ≡ sequence h rest) u sums)

  -- its own requests pay for the Forwards that name it
  pub own_next : (c : CellName) → OwnNext c
  own_next c = by e.delivered refl
    where
      by : (o : Option ℕ) → e.delivered ≡ o → OwnNext c
      by None q = plain_next c (ap (λ (o : Option ℕ). weight_of c 1 0 0 (delivered_message j o)) q)
      by (Some k) q = go (takes p n limit is few many short j e f d entry k q)
        where
          go : (m : Msg) × Taken p n j e (f e.site) k m → OwnNext c
          go (m, t) = kind m t (ap (λ (o : Option ℕ). weight_of c 1 0 0 (delivered_message j o)) q ∙ ap (weight_of c 1 0 0) t.is)
            where
              of_get : (b : CellName) (a : ℕ) → Taken p n j e (f e.site) k (msg.Get b a) → all_gets_taken c j e ≡ cell_weight c 1 0 0 (msg.Get b a) → (c ≡ b) ⊎ (c ≢ b) → OwnNext c
              of_get b a t w (inl y) = subst OwnNext (sym y) (get_next k b a q t)
              of_get b a t w (inr y) = plain_next c (w ∙ cond-false (equal_cell c b) 1 0 (cells_differ c b y))

              kind : (m : Msg) → Taken p n j e (f e.site) k m → all_gets_taken c j e ≡ cell_weight c 1 0 0 m → OwnNext c
              kind (msg.Get b a) t w = of_get b a t w (cell_cases c b)
              kind (msg.Forward b a) t w = plain_next c (w ∙ lost_any (equal_cell c b))
              kind (msg.Put b v bundle) t w = plain_next c (w ∙ lost_any (equal_cell c b))
              kind (msg.Spawn o code vars bundle) t w = plain_next c w
              kind (msg.Register x o) t w = plain_next c w
              kind (msg.BindReq x o y bundle) t w = plain_next c w
              kind (msg.Binding x y bundle) t w = plain_next c w
              kind (msg.PortSend r o a) t w = plain_next c w
              kind (msg.PortEnd o was now bundle) t w = plain_next c w
              kind (msg.CellMake b v bundle) t w = plain_next c w
              kind (msg.CellAsk b o a v bundle) t w = plain_next c w
              kind (msg.CellOld o v bundle) t w = plain_next c w

  -- a Put is a Put
  put_is : (c : CellName) (m : Option Msg) → puts_delivered c m ≡ weight_of c 0 0 1 m
  put_is c None = refl
  put_is c (Some m) = by m
    where
      by : (m : Msg) → puts_delivered c (Some m) ≡ weight_of c 0 0 1 (Some m)
      by (msg.Put b v bundle) = refl
      by (msg.Get b a) = sym (lost_any (equal_cell c b))
      by (msg.Forward b a) = sym (lost_any (equal_cell c b))
      by (msg.Spawn o code vars bundle) = refl
      by (msg.Register x a) = refl
      by (msg.BindReq x o y bundle) = refl
      by (msg.Binding x y bundle) = refl
      by (msg.PortSend r o a) = refl
      by (msg.PortEnd o was now bundle) = refl
      by (msg.CellMake b v bundle) = refl
      by (msg.CellAsk b o a v bundle) = refl
      by (msg.CellOld o v bundle) = refl

  pub turn_is_paid : (c : CellName) → IsTurnPaid p c j e (cell_record (f e.site) c).held.token (cell_record d.site c).held.token
  turn_is_paid c =
      let pays = turn_pays p n limit is few many short j e f d entry c in
      record {
        gets = omega (arith, pays.gets, all_gets c e.site e.sent);
        alone = λ s other. own_gets c s other;
        own = λ at. subst (λ (k : ℕ). forwards_for c k e.sent + outstanding (cell_record (f e.site) c).held.token ≤ exchange_count p c j e + outstanding (cell_record d.site c).held.token) at (own_next c);
        answers = λ s other. answers c s (λ z. other z.1);
        puts = (let same = put_is c (delivered_message j e.delivered) in omega (arith, same, pays.puts));
      }
