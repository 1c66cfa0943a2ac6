-- What a site says of a turn made again, said of its world.
use Rattle.std.proofs.Common.{arith, Result, Err, ◌≡◌, ◌≢◌, ◌∙◌, sym, ap, refl, subst, ℕ, zero, suc, ◌-◌, ◌≤◌, List, ◌∷◌, length, map, get_or, false}
use Rattle.std.specs.Prelude.{Option, slice_set}
use Rattle.std.specs.Result.{IsErrAnd}
use Rattle.std.proofs.lemmas.Option.{slice_get_read}
use Rattle.std.proofs.lemmas.Result.{err_from_is_err_and}
use Rattle.tree_node.specs.declared.names.ThreadName.{ThreadName}
use Rattle.kernel_syntax.specs.declared.stmt.Stmt.{Stmt}
use Rattle.site_message.specs.declared.message.Msg.{Msg}
use Rattle.site_message.specs.declared.story.NoSeat.{NoSeat}
use Rattle.site_message.specs.declared.turn.Turn.{Turn}
use Rattle.site_model.specs.Run.{delivered_message}
use Rattle.site_model.specs.Site.{Site, initial_site}
use Rattle.site_core.specs.Replay.{TurnComesTo, IsReplayMade, IsStuckTurn}
use Rattle.site_core.specs.Site.{SiteState, message_in, number_in}
use Rattle.world_core.specs.declared.travel.Travel.{Travel}
use Rattle.world_core.specs.Mail.{MailState}
use Rattle.world_core.specs.Travels.{travel_of, IsNumberAt}
use Rattle.site_units.specs.declared.replay.Replay.{Replay}
use Rattle.site_units.specs.declared.replay.Replay.TheVariants as site_replay
use Rattle.world_core.specs.declared.refusal.WorldRefusal.{WorldRefusal}
use Rattle.world_core.specs.declared.refusal.WorldRefusal.TheVariants as turn
use Rattle.world_core.specs.declared.refusal.ReplayRefusal.{ReplayRefusal}
use Rattle.world_core.specs.declared.refusal.ReplayRefusal.TheVariants as replay
use Rattle.world_core.specs.Replay.{refusal_of, replay_refusal_of, IsReplayed, IsWorldStuck, PrintsOthers}
use Rattle.world_core.specs.World.{WorldState, IsConsistent, IsLive, IsSiteOf, IsTaken, state_in, states_by, states_of}
use Rattle.bind_protocol.proofs.ListLemmas.{set_here}
use Rattle.world_core.proofs.PlaceLemmas.{read_there}
use Rattle.world_core.proofs.TurnLemmas.{tells_message, number_at, state_read}

-- the state that a site was left in
pub state_set : (p : List Stmt) (ss : List (SiteState NoSeat)) (site : ℕ) (t : SiteState NoSeat) → 1 ≤ site → site ≤ length ss → states_by p (length (slice_set ss (site - 1) t)) (map state_in (slice_set ss (site - 1) t)) site ≡ t.state
state_set p ss zero t low high = absurd (omega arith)
state_set p ss (suc i) t low high =
    let before : suc i - 1 ≡ i = omega arith in
    subst (λ (x : ℕ). states_by p (length (slice_set ss x t)) (map state_in (slice_set ss x t)) (suc i) ≡ t.state) (sym before)
    (read_there state_in (slice_set ss i t) i t (initial_site p (length (slice_set ss i t)) (suc i)) (set_here ss i t (omega arith)))

-- the entry of a turn is the one that was pushed
pub same_entry : (e f : Turn) (j k : List Turn) → e ∷ j ≡ f ∷ k → e ≡ f
same_entry e f j k q = cc

-- ---- which refusal was told

abbrev pub Told : Type 0
Told = Result (Unit {0}) ReplayRefusal

-- want of the message, as by a turn
pub not_there : (r : Told) (e : WorldRefusal) → IsErrAnd r (refusal_of e) → e ≡ turn.NotThere → r ≡ Err replay.NotThere
not_there r e h same =
    let p = err_from_is_err_and r h in
    let is : p.0 ≡ replay.NotThere = subst (λ (x : WorldRefusal). refusal_of x p.0) same p.2 in
    p.1 ∙ ap (λ (x : ReplayRefusal). Err x) is

-- of a site's turn only a thread that cannot go on, or want of memory
told_by_site : (r : Told) (e : Replay) → IsErrAnd r (replay_refusal_of e) → (x : ReplayRefusal) × (r ≡ Err x) × replay_refusal_of e x
told_by_site r e h = err_from_is_err_and r h

pub site_stuck : (r : Told) (e : Replay) (at : ℕ) → IsErrAnd r (replay_refusal_of e) → r ≡ Err (replay.NotRunnable at) → e ≡ site_replay.NotRunnable at
site_stuck r (site_replay.NotRunnable k) at h q =
    let p = told_by_site r (site_replay.NotRunnable k) h in
    let both : ◌≡◌ {A = Told} (Err (replay.NotRunnable k)) (Err (replay.NotRunnable at)) = ap (λ (x : ReplayRefusal). Err x) (sym p.2) ∙ sym p.1 ∙ q in
    let same : k ≡ at = cc in
    ap (λ (x : ℕ). site_replay.NotRunnable x) same
site_stuck r site_replay.Memory at h q =
    let p = told_by_site r site_replay.Memory h in
    let both : ◌≡◌ {A = Told} (Err replay.Memory) (Err (replay.NotRunnable at)) = ap (λ (x : ReplayRefusal). Err x) (sym p.2) ∙ sym p.1 ∙ q in
    cc

pub site_there : (r : Told) (e : Replay) → IsErrAnd r (replay_refusal_of e) → r ≡ Err replay.NotThere → ⊥
site_there r (site_replay.NotRunnable k) h q =
    let p = told_by_site r (site_replay.NotRunnable k) h in
    let both : ◌≡◌ {A = Told} (Err (replay.NotRunnable k)) (Err replay.NotThere) = ap (λ (x : ReplayRefusal). Err x) (sym p.2) ∙ sym p.1 ∙ q in
    cc
site_there r site_replay.Memory h q =
    let p = told_by_site r site_replay.Memory h in
    let both : ◌≡◌ {A = Told} (Err replay.Memory) (Err replay.NotThere) = ap (λ (x : ReplayRefusal). Err x) (sym p.2) ∙ sym p.1 ∙ q in
    cc

pub site_lines : (r : Told) (e : Replay) → IsErrAnd r (replay_refusal_of e) → r ≡ Err replay.OtherLines → ⊥
site_lines r (site_replay.NotRunnable k) h q =
    let p = told_by_site r (site_replay.NotRunnable k) h in
    let both : ◌≡◌ {A = Told} (Err (replay.NotRunnable k)) (Err replay.OtherLines) = ap (λ (x : ReplayRefusal). Err x) (sym p.2) ∙ sym p.1 ∙ q in
    cc
site_lines r site_replay.Memory h q =
    let p = told_by_site r site_replay.Memory h in
    let both : ◌≡◌ {A = Told} (Err replay.Memory) (Err replay.OtherLines) = ap (λ (x : ReplayRefusal). Err x) (sym p.2) ∙ sym p.1 ∙ q in
    cc

-- ---- the turn of the site and that of the world

module _ (p : List Stmt) (j : List Turn) (ss : List (SiteState NoSeat)) (mail : MailState) (sent : ℕ) (k : IsConsistent p j ss mail sent false) (site : ℕ) (low : 1 ≤ site) (high : site ≤ length ss)
    (place : Option ℕ) (s : SiteState NoSeat) (at : s ≡ get_or ss (site - 1) s) (message : Option (ℕ × Msg)) (box : MailState) (taken : IsTaken mail.messages box.messages site place message)
    (old : WorldState) (program : old.program ≡ p) (sites : old.sites ≡ length ss) (journal : old.journal ≡ j) (states : old.states ≡ map state_in ss) (travels : old.travels ≡ map travel_of mail.messages) where
  live : IsLive p (length ss) j ss mail sent
  live = k.live refl

  is_here : IsSiteOf p (length ss) s
  is_here = live.each (site - 1) s (slice_get_read ss (length ss) (site - 1) s refl (omega arith) at)

  here : states_of old site ≡ s.state
  here = (λ r. states_by (program r) (sites r) (states r) site) ∙ state_read p ss site s low high at

  told : message_in message ≡ delivered_message old.journal (number_in message)
  told = tells_message j mail.messages box.messages live.travels site place message taken ∙ ap (λ (l : List Turn). delivered_message l (number_in message)) (sym journal)

  pub number_there : IsNumberAt old.travels site place (number_in message)
  number_there = subst (λ (ts : List Travel). IsNumberAt ts site place (number_in message)) (sym travels) (number_at j mail.messages box.messages live.travels site place message taken)

  -- what holds of the site and its message holds of the world's site and of what the journal delivers
  moved : (P : List Stmt → ℕ → Site → Option Msg → Type 0) → P s.program s.sites s.state (message_in message) → P old.program old.sites (states_of old site) (delivered_message old.journal (number_in message))
  moved P h = subst (λ (q : List Stmt × ℕ × Site × Option Msg). P q.0 q.1 q.2 q.3) (λ r. ((is_here.0 ∙ sym program) r, (is_here.1 ∙ sym sites) r, sym here r, told r)) h

  pub stuck_there : (ths : List ThreadName) (stop : ℕ) → IsStuckTurn s.program s.sites s.state (message_in message) ths stop → IsWorldStuck old site place ths stop
  stuck_there ths stop h = (number_in message, number_there, moved (λ q n x m. IsStuckTurn q n x m ths stop) h)

  pub others_there : (ths : List ThreadName) (lines : List (List ℕ)) (e : Turn) (new : Site) → IsReplayMade s.program s.sites s.state message ths e new → e.lines ≢ lines → PrintsOthers old site place ths lines
  others_there ths lines e new h others =
      (number_in message, h.turn.0, number_there, moved (λ q n x m. TurnComesTo q n ths x m h.turn.0) h.turn.1, λ same. others (h.turn.2.lines ∙ same))

  pub replayed_there : (ths : List ThreadName) (lines : List (List ℕ)) (e : Turn) (t : Site) (new : WorldState) → IsReplayMade s.program s.sites s.state message ths e t → e.lines ≡ lines → new.journal ≡ e ∷ j → e.site ≡ site →
      states_of new site ≡ t → IsReplayed old new site place ths lines
  replayed_there ths lines e t new h same pushed number state = record {
    entry = e;
    journal = pushed ∙ ap (λ (l : List Turn). e ∷ l) (sym journal);
    site_is = number;
    delivered = subst (λ (o : Option ℕ). IsNumberAt old.travels site place o) (sym h.delivered) number_there;
    units = h.units;
    lines = same;
    turn = (
      h.turn.0,
      subst (λ (o : Option ℕ). TurnComesTo old.program old.sites ths (states_of old site) (delivered_message old.journal o) h.turn.0) (sym h.delivered) (moved (λ q n x m. TurnComesTo q n ths x m h.turn.0) h.turn.1),
      h.turn.2,
      state ∙ h.turn.3,
    );
  }
