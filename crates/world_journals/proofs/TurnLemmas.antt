-- A turn that may follow a run, whatever was sent before it.
use Rattle.std.proofs.Common.{arith, ◌≡◌, ◌≢◌, ◌∙◌, sym, ap, refl, subst, ℕ, ◌+◌, ◌<◌, ◌≤◌, List, ◌∷◌, ◌++◌, Some, None, append_assoc, length, length-append}
use Rattle.std.specs.Prelude.{Option, Contains}
use Rattle.tree_node.specs.declared.pick.Pick.{Pick}
use Rattle.kernel_syntax.specs.declared.stmt.Stmt.{Stmt}
use Rattle.kernel_syntax.specs.Program.{IsProgram}
use Rattle.site_message.specs.declared.message.Msg.{Msg}
use Rattle.site_message.specs.declared.message.Msg.TheVariants as msg
use Rattle.site_message.specs.declared.message.Sent.{Sent}
use Rattle.site_message.specs.declared.turn.Turn.{Turn}
use Rattle.site_message.specs.Journal.{IsTravelling, sent_of, travelling}
use Rattle.site_message.proofs.JournalLemmas.{travelling_tells}
use Rattle.site_model.specs.Fit.{IsFit, CanTake}
use Rattle.site_model.specs.Site.{Site}
use Rattle.site_model.specs.Transition.{Transition, sequence}
use Rattle.site_model.specs.Turn.{SiteTurn, SiteTurnOf}
use Rattle.site_model.specs.Run.{delivered_message, message_of}
use Rattle.world_model.specs.Schedule.{schedule, lines_in}
use Rattle.world_model.specs.World.{World, Sites, IsOnItsWay, put, after_transition, after_receipt, mail_from, world_of}
use Rattle.world_model.proofs.MailLemmas.{acts_after, same_world}
use Rattle.world_variables.specs.Laws.{IsForeignBinding}
use Rattle.world_variables.proofs.JournalLemmas.{came_acts, came_is, mail_of, mail_after}
use Rattle.world_answers.proofs.LeaveLemmas.{Paid}
use Rattle.world_answers.proofs.TurnLemmas.{quiet_paid, delivering_paid}
use Rattle.world_messages.proofs.RunLemmas.{Entry}
use Rattle.world_simulation.proofs.SimulationLemmas.{every_run_is_simulated, paid}

-- the message that a turn takes travels to its site, and is fit for it
pub record Taken (p : List Stmt) (n : ℕ) (j : List Turn) (e : Turn) (s : Site) (k : ℕ) (m : Msg) : Type 0 where
  pub is : delivered_message j (Some k) ≡ Some m
  pub at : IsOnItsWay (travelling j) k e.site m
  pub fit : IsFit p n s m
  pub elsewhere : IsForeignBinding e.site m

module _ (p : List Stmt) (n limit : ℕ) (is : IsProgram p) (few : 1 ≤ n) (many : n ≤ 64) (short : limit ≤ 256) (j : List Turn) (e : Turn) (f : Sites) (d : Transition) (entry : Entry p n limit j e f d) where
  abbrev pub before : World
  before = world_of j f

  abbrev pub after : World
  after = world_of (e ∷ j) (put f e.site d.site)

  pub real : e.site ≢ 0
  real none = let least : 1 ≤ e.site = entry.site.0 in absurd (omega (arith, least, none))

  -- the machine's state before
  pub paid_before : Paid p n before (schedule j) (sent_of j)
  paid_before = paid p n limit is few many short j f entry.run

  number : (f e.site).records.site ≡ e.site
  number = (paid_before.joined.reached.parts.kept e.site).site

  -- the world that the turn leaves is that of the journal
  pub whole : after_receipt e.delivered (after_transition before e.site d) ≡ after
  whole = came_is e.delivered (after_transition before e.site d) ∙ same_world _ _ _ _ _ _ _ _ refl sums mails (ap (λ (ls : List (List ℕ)). lines_in j ++ ls) (sym entry.tells.lines))
    where
      sums : length (sent_of j) + length d.sent ≡ length (sent_of j ++ e.sent)
      sums = let l : length (sent_of j ++ e.sent) ≡ length (sent_of j) + length e.sent = length-append (sent_of j) e.sent in let q : length e.sent ≡ length d.sent = ap length entry.tells.sent in omega arith

      mails : mail_of e.delivered (travelling j ++ mail_from (length (sent_of j)) d.sent) ≡ travelling (e ∷ j)
      mails = ap (λ (ms : List Sent). mail_of e.delivered (travelling j ++ mail_from (length (sent_of j)) ms)) (sym entry.tells.sent) ∙ mail_after j e entry.run.wired

  pub takes : (k : ℕ) → e.delivered ≡ Some k → (m : Msg) × Taken p n j e (f e.site) k m
  takes k q = go (entry.wired k q)
    where
      elsewhere : (m : Msg) → CanTake (f e.site) m → IsForeignBinding e.site m
      elsewhere (msg.Binding x t bundle) c = λ own. c.0 (own ∙ sym number)
      elsewhere (msg.PortSend r o a) c = tt
      elsewhere (msg.PortEnd o was now bundle) c = tt
      elsewhere (msg.CellMake b v bundle) c = tt
      elsewhere (msg.CellAsk b o a v bundle) c = tt
      elsewhere (msg.CellOld o v bundle) c = tt
      elsewhere (msg.Spawn o code vars bundle) c = tt
      elsewhere (msg.Register x o) c = tt
      elsewhere (msg.BindReq x o t bundle) c = tt
      elsewhere (msg.Get x o) c = tt
      elsewhere (msg.Forward x o) c = tt
      elsewhere (msg.Put x o bundle) c = tt

      go : (m : Sent) × IsTravelling j k m × (m.to ≡ e.site) → (m : Msg) × Taken p n j e (f e.site) k m
      go (m, t, to) =
          let fit : IsFit p n (f e.site) m.msg = subst (λ (x : ℕ). IsFit p n (f x) m.msg) to ((every_run_is_simulated p n limit j f is few many short entry.run).2 k m t) in (
            m.msg,
            record {
              is = ap message_of t.0;
              at = subst (λ (o : ℕ). Contains (travelling j) (k, record { to = o; msg = m.msg })) to ((travelling_tells j k m).1 t);
              fit = fit;
              elsewhere = elsewhere m.msg fit.takes;
            },
          )

  -- whatever was sent before, where exchanges pay for it they pay for what was sent after the turn
  pub turn_paid : (out : List Sent) → Paid p n before (schedule j) out → Paid p n after (schedule j ++ e.picks) (out ++ e.sent)
  turn_paid out r = finish (turn_of e.delivered refl entry.turn)
    where
      finish : Paid p n (after_receipt e.delivered (after_transition before e.site d)) (schedule j ++ d.picks) (out ++ d.sent) → Paid p n after (schedule j ++ e.picks) (out ++ e.sent)
      finish q = subst (λ (v : World). Paid p n v (schedule j ++ e.picks) (out ++ e.sent)) whole (subst (λ (ks : List Pick). Paid p n (after_receipt e.delivered (after_transition before e.site d)) (schedule j ++ ks) (out ++ e.sent)) (sym entry.tells.picks) (subst (λ (ms : List Sent). Paid p n (after_receipt e.delivered (after_transition before e.site d)) (schedule j ++ d.picks) (out ++ ms)) (sym entry.tells.sent) q))

      turn_of : (o : Option ℕ) → e.delivered ≡ o → SiteTurn p n limit (f e.site) (delivered_message j o) d → Paid p n (after_receipt o (after_transition before e.site d)) (schedule j ++ d.picks) (out ++ d.sent)
      turn_of None q (ths, few, turn) = quiet_paid p n limit e.site real before (schedule j) out ths d entry.site.0 entry.site.1 r (few, turn)
      turn_of (Some k) q (ths, few, turn) = go (takes k q)
        where
          go : (m : Msg) × Taken p n j e (f e.site) k m → Paid p n (after_receipt (Some k) (after_transition before e.site d)) (schedule j ++ d.picks) (out ++ d.sent)
          go (m, t) = last (delivering_paid p n limit e.site real before (schedule j) out ths d entry.site.0 entry.site.1 k m r t.elsewhere t.at t.fit (subst (λ (o : Option Msg). SiteTurnOf p n limit ths (f e.site) o d) t.is (few, turn)))
            where
              last : (heard : Transition) × (rest : Transition) × (d ≡ sequence heard rest) × Paid p n (after_transition (after_receipt (Some k) (after_transition before e.site heard)) e.site rest) ((schedule j ++ heard.picks) ++ rest.picks) ((out ++ heard.sent) ++ rest.sent) → Paid p n (after_receipt (Some k) (after_transition before e.site d)) (schedule j ++ d.picks) (out ++ d.sent)
              last (heard, rest, is, got) =
                  let low : k < before.sent = r.joined.reached.numbers.below k e.site m t.at in
                  let high : k < (after_transition before e.site heard).sent = omega (arith, low) in
                  subst (λ (x : Transition). Paid p n (after_receipt (Some k) (after_transition before e.site x)) (schedule j ++ x.picks) (out ++ x.sent)) (sym is)
                  (subst (λ (v : World). Paid p n (after_receipt (Some k) v) (schedule j ++ (heard.picks ++ rest.picks)) (out ++ (heard.sent ++ rest.sent))) (sym (acts_after before e.site heard rest))
                  (subst (λ (v : World). Paid p n v (schedule j ++ (heard.picks ++ rest.picks)) (out ++ (heard.sent ++ rest.sent))) (sym (came_acts (after_transition before e.site heard) e.site rest k high))
                  (subst (λ (ks : List Pick). Paid p n (after_transition (after_receipt (Some k) (after_transition before e.site heard)) e.site rest) ks (out ++ (heard.sent ++ rest.sent))) (append_assoc (schedule j) heard.picks rest.picks) (subst (λ (ms : List Sent). Paid p n (after_transition (after_receipt (Some k) (after_transition before e.site heard)) e.site rest) ((schedule j ++ heard.picks) ++ rest.picks) ms) (append_assoc out heard.sent rest.sent) got))))
