-- When a world is quiet, and what it tells of its messages.
use Rattle.std.proofs.Common.{rules, arith, ◌≡◌, ◌∙◌, sym, subst, ap, refl, ℕ, zero, suc, ◌<◌, ◌≤◌, List, [], ◌∷◌, length, map, Bool, true, false, cond}
use Rattle.std.specs.Prelude.{Option, Some, None, ◌==◌, ◌↔◌, not, IsTrue, Contains, nat_eq, slice_get}
use Rattle.std.specs.List.{IsDistinct}
use Rattle.std.proofs.lemmas.Bool.Decides.{same_from_decides}
use Rattle.std.proofs.lemmas.Map.Entries.{place_from_lookup}
use Rattle.tree_node.proofs.ClassLemmas.{Contains-head, Contains-tail}
use Rattle.kernel_syntax.specs.declared.stmt.Stmt.{Stmt}
use Rattle.std.proofs.lemmas.Option.{slice_get_within}
use Rattle.site_message.specs.declared.message.Msg.{Msg}
use Rattle.site_message.specs.declared.message.Sent.{Sent}
use Rattle.site_message.specs.declared.story.NoSeat.{NoSeat}
use Rattle.site_message.specs.declared.turn.Turn.{Turn}
use Rattle.site_message.specs.Journal as journal
use Rattle.site_message.specs.Journal.{IsTravelling, is_quiet}
use Rattle.site_message.proofs.JournalLemmas.{quiet_tells}
use Rattle.site_model.specs.Bundle.{bundle_limit}
use Rattle.site_model.specs.Site.{Site, initial_site, is_idle}
use Rattle.site_model.specs.Run.{SiteRun, IsReachedBy, IsEntry}
use Rattle.site_core.specs.Site.{SiteState}
use Rattle.world_core.specs.declared.travel.Travel.{Travel}
use Rattle.world_core.specs.Mail.{MailState, message_at}
use Rattle.world_core.specs.Travels.{travel_of, IsNoneFor, AreTravels, IsNothingFor}
use Rattle.world_core.proofs.MailLemmas.{travel_at}
use Rattle.world_core.specs.Laws.{HasMachineAtRest}
use Rattle.world_core.specs.World.{IsLive, IsConsistent, state_in, states_by}
use Rattle.world_core.proofs.PlaceLemmas.{read_there}
use Rattle.world_core.proofs.TravelLemmas.{travels_there, there_travels}
use Rattle.world_core.proofs.WorldLemmas.{machine}
use Rattle.bind_protocol.proofs.ListLemmas.{get_there}

start_idle : (p : List Stmt) (n i : ℕ) (b : Bool) → (i == 1) ≡ b → not (i == 1) ≡ is_idle (initial_site p n i)
start_idle p n i true q = rw q refl
start_idle p n i false q = rw q refl

-- what a site's last turn told is how it is
pub idle_as_told : (p : List Stmt) (n limit i : ℕ) (j : List Turn) (s : Site) → SiteRun p n limit i j s → journal.is_idle j i ≡ is_idle s
idle_as_told p n limit i [] s run = start_idle p n i (i == 1) refl ∙ sym (ap is_idle run)
idle_as_told p n limit i (e ∷ j) s run = by (e.site == i) run (λ r. idle_as_told p n limit i j s r)
  where
    by : (b : Bool) → IsReachedBy b (λ old. SiteRun p n limit i j old) (λ old new. IsEntry p n limit j e old new) s → (SiteRun p n limit i j s → journal.is_idle j i ≡ is_idle s) → cond b e.idle (journal.is_idle j i) ≡ is_idle s
    by true (old, before, (d, turn, tells, is)) rest = tells.idle ∙ ap is_idle (sym is)
    by false before rest = rest before

pub at_contains : (xs : List Travel) (x : Travel) (p : ℕ) → slice_get xs p ≡ Some x → Contains xs x
at_contains [] x p e = cc
at_contains (y ∷ ys) x zero e = let same : y ≡ x = cc in subst (λ (z : Travel). Contains (y ∷ ys) z) same (Contains-head y ys)
at_contains (y ∷ ys) x (suc p) e = Contains-tail y x ys (at_contains ys x p e)

-- ---- quiet

module _ (p : List Stmt) (j : List Turn) (ss : List (SiteState NoSeat)) (mail : MailState) (sent : ℕ) (k : IsConsistent p j ss mail sent false) where
  live : IsLive p (length ss) j ss mail sent
  live = k.live refl

  abbrev w : ℕ → Site
  w = states_by p (length ss) (map state_in ss)

  idle_here : (i : ℕ) (s : SiteState NoSeat) → slice_get ss i ≡ Some s → journal.is_idle j (suc i) ≡ is_idle s.state
  idle_here i s at = idle_as_told p (length ss) bundle_limit (suc i) j (w (suc i)) (live.run.runs (suc i)) ∙ ap is_idle (read_there state_in ss i s (initial_site p (length ss) (suc i)) at)

  -- by what is seen of the messages and of the sites
  abbrev IsSeenQuiet : Type 0
  IsSeenQuiet = (mail.messages ≡ []) × ((i : ℕ) (s : SiteState NoSeat) → slice_get ss i ≡ Some s → is_idle s.state ≡ true)

  pub seen_quiet : IsSeenQuiet → is_quiet (length ss) j ≡ true
  seen_quiet (none, idle) = (quiet_tells (length ss) j).1 (nothing, all)
    where
      nothing : (q : ℕ) (m : Sent) → IsTravelling j q m → ⊥
      nothing q m at =
          let found : ◌≡◌ {A = Option Sent} None (Some m) = sym (ap (λ (ms : List (ℕ × Sent)). message_at ms q) none) ∙ live.travels q ∙ there_travels j q m at in
          cc

      all : (i : ℕ) → 1 ≤ i → i ≤ length ss → journal.is_idle j i ≡ true
      all zero low high = absurd (omega arith)
      all (suc i) low high = let s = get_there ss i (omega arith) in idle_here i s.0 s.1 ∙ idle i s.0 s.1

  pub quiet_seen : is_quiet (length ss) j ≡ true → IsSeenQuiet
  quiet_seen q = (none mail.messages refl, idle)
    where
      two : ((q : ℕ) (m : Sent) → IsTravelling j q m → ⊥) × ((i : ℕ) → 1 ≤ i → i ≤ length ss → journal.is_idle j i ≡ true)
      two = (quiet_tells (length ss) j).0 q

      none : (ms : List (ℕ × Sent)) → mail.messages ≡ ms → mail.messages ≡ []
      none [] e = e
      none (m ∷ ms) e =
          let found : message_at (m ∷ ms) m.0 ≡ Some m.1 = first (nat_eq m.0 m.0) (own m.0) in
          absurd (two.0 m.0 m.1 (travels_there j m.0 m.1 (sym (live.travels m.0) ∙ ap (λ (xs : List (ℕ × Sent)). message_at xs m.0) e ∙ found)))
        where
          own : (x : ℕ) → nat_eq x x ≡ true
          own x = search rules

          first : (b : Bool) → b ≡ true → cond b (Some m.1) (message_at ms m.0) ≡ Some m.1
          first true h = refl
          first false h = cc

      idle : (i : ℕ) (s : SiteState NoSeat) → slice_get ss i ≡ Some s → is_idle s.state ≡ true
      idle i s at = let low : i < length ss = slice_get_within ss i s at in sym (idle_here i s at) ∙ two.1 (suc i) (omega arith) (omega arith)

  pub both_seen : (a b : Bool) → a ≡ true → (IsTrue a ↔ (mail.messages ≡ [])) → (IsTrue b ↔ ((i : ℕ) (s : SiteState NoSeat) → slice_get ss i ≡ Some s → is_idle s.state ≡ true)) → b ≡ is_quiet (length ss) j
  both_seen a b is empty idle = same_from_decides {P = is_quiet (length ss) j ≡ true} b (is_quiet (length ss) j) (λ e. seen_quiet (empty.0 is, idle.0 e), λ e. idle.1 (quiet_seen e).1) (λ e. e, λ e. e)

  pub unseen : (a : Bool) → a ≡ false → (IsTrue a ↔ (mail.messages ≡ [])) → a ≡ is_quiet (length ss) j
  unseen a is empty = same_from_decides {P = is_quiet (length ss) j ≡ true} a (is_quiet (length ss) j) (λ e. (let both : true ≡ false = sym e ∙ is in cc), λ e. empty.1 (quiet_seen e).0) (λ e. e, λ e. e)

  pub rests : is_quiet (length ss) j ≡ true → HasMachineAtRest p (length ss) j w
  rests q = let h = machine p (length ss) j w k.program k.range.0 k.range.1 live.run in (h.0, h.1, h.1.quiet q)

  -- ---- what travels

  pub are_travels : (ts : List Travel) → ((q to : ℕ) → Contains ts (record { number = q; to = to }) ↔ ((m : Msg) × (message_at mail.messages q ≡ Some (record { to = to; msg = m })))) → IsDistinct nat_eq (map (λ (t : Travel). t.number) ts) → AreTravels j ts
  are_travels ts told once = record {
    exact = λ q to. (
      λ at. (let h = (told q to).0 at in (h.0, travels_there j q (record { to = to; msg = h.0 }) (sym (live.travels q) ∙ h.1))),
      λ h. (told q to).1 (h.0, live.travels q ∙ there_travels j q (record { to = to; msg = h.0 }) h.1),
    );
    once = once;
  }

  -- what travels by the journal is among the travels
  pub travels_have : (q : ℕ) (m : Sent) → IsTravelling j q m → Contains (map travel_of mail.messages) (record { number = q; to = m.to })
  travels_have q m at =
      let found = place_from_lookup (nat_eq q) mail.messages m (live.travels q ∙ there_travels j q m at) in
      let same : q ≡ found.1 = search rules in
      let entry : slice_get mail.messages found.0 ≡ Some (q, m) = subst (λ (x : ℕ). slice_get mail.messages found.0 ≡ Some (x, m)) (sym same) found.2 in
      at_contains (map travel_of mail.messages) (record { number = q; to = m.to }) found.0 (travel_at mail.messages found.0 q m entry)

  pub nothing_for : (site : ℕ) → IsNoneFor (map travel_of mail.messages) site → IsNothingFor j site
  nothing_for site none q m at to = none (record { number = q; to = m.to }) (travels_have q m at) to
