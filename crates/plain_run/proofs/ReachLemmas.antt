-- Each message goes to one of the sites, so a run in which no site has a message or can go on is quiet.
use Rattle.world_model.proofs.PutLemmas.{nat_decides}
use Rattle.world_model.specs.Shown.{is_asking}
use Rattle.world_simulation.proofs.LetterLemmas.{lives_in}
use Rattle.tree_node.specs.declared.names.CellName.{CellName}
use Rattle.thread_roster.specs.declared.mode.Mode.TheVariants.{WaitsFor}
use Rattle.thread_roster.specs.declared.mode.Awaited.TheVariants.{Cell, Port}
use Rattle.world_model.specs.Claims.{ContentOf}
use Rattle.world_model.specs.Claims as claim
use Rattle.std.proofs.Common.{rules, arith, ◌≡◌, ◌∙◌, refl, subst, ℕ, zero, suc, ◌<◌, ◌≤◌, List, [], ◌∷◌, length, Bool, true, false, cond, ◌⊎◌, inl, inr, Some, None, sym, ap}
use Rattle.std.specs.Prelude.{Option, ◌==◌, is_some, IsTrue, Contains, nat_lt, nat_le, ◌&&◌, not, ◌≢◌}
use Rattle.std.proofs.lemmas.Bool.{cases_lt}
use Rattle.tree_node.specs.declared.names.VarName.{VarName}
use Rattle.tree_node.specs.Each.{Each}
use Rattle.tree_node.specs.State.{State}
use Rattle.kernel_syntax.specs.declared.stmt.Stmt.{Stmt}
use Rattle.kernel_syntax.specs.Program.{IsProgram}
use Rattle.site_message.specs.declared.limits.Limits.{Limits}
use Rattle.site_message.specs.Limits.{AreLimits}
use Rattle.site_message.specs.declared.message.Msg.{Msg}
use Rattle.site_message.specs.declared.message.Msg.TheVariants as msg
use Rattle.site_message.specs.declared.message.Sent.{Sent}
use Rattle.site_message.specs.declared.turn.Turn.{Turn}
use Rattle.site_message.specs.declared.reason.Reason.{Reason}
use Rattle.site_message.specs.declared.reason.Reason.TheVariants.{Messages, Steps, Quiet}
use Rattle.site_message.specs.Journal as journal
use Rattle.site_message.specs.Journal.{IsTravelling, sent_of, end_of, is_quiet}
use Rattle.site_message.proofs.JournalLemmas.{quiet_tells, travelling_tells}
use Rattle.bind_protocol.specs.Records.{owner_knows, is_own, IsKnown}
use Rattle.bind_protocol.proofs.ListLemmas.{each_at}
use Rattle.variable_owner.specs.Owners.{owner_of}
use Rattle.token_chain.specs.Holding.{CanFollow}
use Rattle.token_chain.specs.declared.token.Token.{Token}
use Rattle.token_chain.specs.declared.token.Token.TheVariants.{Away, Asked}
use Rattle.site_model.specs.Bundle.{bundle_limit}
use Rattle.site_model.specs.Fit.{IsFit}
use Rattle.site_model.specs.Site.{Site, initial_site, is_idle, cell_record}
use Rattle.site_model.specs.Run.{WorldRun, SiteRun, IsReachedBy, IsEntry, IsSiteIn}
use Rattle.world_model.specs.Simulated.{IsSimulated}
use Rattle.world_messages.specs.Unfit.{MessagesAreFit}
use Rattle.world_simulation.proofs.SimulationLemmas.{every_run_is_simulated}
use Rattle.world_core.specs.declared.travel.Travel.{Travel}
use Rattle.world_core.specs.Travels.{AreTravels, IsNothingFor}
use Rattle.world_core.specs.World.{WorldState, states_of}
use Rattle.world_core.proofs.QuietLemmas.{idle_as_told}
use Rattle.plain_run.specs.Progress.{IsAtEase, IsGoing}
use Rattle.plain_run.proofs.SpawnLemmas.{SpawnsWithin, spawns_within}

-- a site that is none of n stays as it began
outside : (p : List Stmt) (n limit i : ℕ) → ((1 ≤ i) × (i ≤ n) → ⊥) → (j : List Turn) (s : Site) → Each (IsSiteIn n) j → SiteRun p n limit i j s → s ≡ initial_site p n i
outside p n limit i out [] s each run = run
outside p n limit i out (e ∷ j) s each run = by (e.site == i) refl run (λ r. outside p n limit i out j s each.1 r)
  where
    by : (b : Bool) → (e.site == i) ≡ b → IsReachedBy b (λ old. SiteRun p n limit i j old) (λ old new. IsEntry p n limit j e old new) s → (SiteRun p n limit i j s → s ≡ initial_site p n i) → s ≡ initial_site p n i
    by true q r rest = let same : e.site ≡ i = search rules in absurd (out (subst (λ (x : ℕ). (1 ≤ x) × (x ≤ n)) same each.0))
    by false q r rest = rest r

in_or_out : (i n : ℕ) → ((1 ≤ i) × (i ≤ n)) ⊎ ((1 ≤ i) × (i ≤ n) → ⊥)
in_or_out zero n = inr (λ h. (let low = h.0 in omega arith))
in_or_out (suc i) n = by (cases_lt n (suc i))
  where
    by : (n < suc i) ⊎ (suc i ≤ n) → ((1 ≤ suc i) × (suc i ≤ n)) ⊎ ((1 ≤ suc i) × (suc i ≤ n) → ⊥)
    by (inl above) = inr (λ h. (let high = h.1 in omega arith))
    by (inr below) = inl (omega arith, below)

-- a site that began just now knows no variable, and can be told nothing of a cell
knows_none : (p : List Stmt) (n i : ℕ) (x : VarName) → IsKnown (initial_site p n i).records x → ⊥
knows_none p n i x h = by (is_own (initial_site p n i).records x) h
  where
    by : (b : Bool) → IsTrue (is_some (cond b (owner_knows (owner_of [] x)) None)) → ⊥
    by true k = cc
    by false k = cc

positive : (k : ℕ) → k ≢ 0 → 1 ≤ k
positive zero h = absurd (h refl)
positive (suc k) h = omega arith

stationary : (c : CellName) → is_asking (WaitsFor (Cell c)) ≡ true → c.at ≢ 0
stationary c asks none =
    let no_answer : is_asking (WaitsFor (Cell c)) ≡ false = ap not ((nat_decides c.at 0).1 none) in
    let both : true ≡ false = sym asks ∙ no_answer in cc

module _ (p : List Stmt) (n : ℕ) (j : List Turn) (w : ℕ → Site) (is : IsProgram p) (low : 1 ≤ n) (high : n ≤ 64) (run : WorldRun p n bundle_limit j w) where
  simulated : (s : State) × IsSimulated p n j w s × MessagesAreFit p n j w
  simulated = every_run_is_simulated p n bundle_limit j w is low high (omega arith) run

  number : (i : ℕ) → (w i).records.site ≡ i
  number i = (simulated.1.matches.parts.kept i).site

  began : (i : ℕ) → ((1 ≤ i) × (i ≤ n) → ⊥) → w i ≡ initial_site p n i
  began i out = outside p n bundle_limit i out j (w i) run.sites (run.runs i)

  named : (to site : ℕ) → site ≡ (w to).records.site → (1 ≤ site) × (site ≤ n) → (1 ≤ to) × (to ≤ n)
  named to site e h = subst (λ (x : ℕ). (1 ≤ x) × (x ≤ n)) (e ∙ number to) h

  inside : (to : ℕ) → (((1 ≤ to) × (to ≤ n) → ⊥) → ⊥) → (1 ≤ to) × (to ≤ n)
  inside to h = by (in_or_out to n)
    where
      by : ((1 ≤ to) × (to ≤ n)) ⊎ ((1 ≤ to) × (to ≤ n) → ⊥) → (1 ≤ to) × (to ≤ n)
      by (inl q) = q
      by (inr out) = absurd (h out)

  -- the home of a stationary cell
  homed : (to : ℕ) (c : CellName) → c.at ≡ (w to).records.site → c.at ≤ n → c.at ≢ 0 → (1 ≤ to) × (to ≤ n)
  homed to c e most far = let same : c.at ≡ to = e ∙ number to in (subst (λ (x : ℕ). 1 ≤ x) same (positive c.at far), subst (λ (x : ℕ). x ≤ n) same most)

  goes_within : (k to : ℕ) (o : Msg) → IsTravelling j k (record { to = to; msg = o }) → IsFit p n (w to) o → (1 ≤ to) × (to ≤ n)
  goes_within k to (msg.Spawn th code vars bundle) at fit = each_at (SpawnsWithin n) (sent_of j) k (record { to = to; msg = msg.Spawn th code vars bundle }) (spawns_within p n bundle_limit low j w run) at.0
  goes_within k to (msg.Register x q) at fit = named to x.site fit.takes.0 (fit.names.0, fit.names.1)
  goes_within k to (msg.BindReq x th t bundle) at fit = named to x.site fit.takes.1.0 (fit.names.0.0, fit.names.0.1)
  goes_within k to (msg.Binding x t bundle) at fit = inside to (λ out. knows_none p n to x (subst (λ (s : Site). IsKnown s.records x) (began to out) fit.takes.2))
  goes_within k to (msg.Get c q) at fit = named to c.site fit.takes.0 (fit.names.0, fit.names.1)
  goes_within k to (msg.Forward c q) at fit = inside to (λ out. (subst (λ (s : Site). CanFollow (cell_record s c).held) (began to out) fit.takes).1)
  goes_within k to (msg.Put c v bundle) at fit = inside to (λ out. (let none : ◌≡◌ {A = Token} Away Asked = subst (λ (s : Site). (cell_record s c).held.token ≡ Asked) (began to out) fit.takes in cc))
  goes_within k to (msg.PortSend q th b) at fit = named to q.site fit.takes.0 (fit.names.0.0, fit.names.0.1)
  goes_within k to (msg.PortEnd th old new bundle) at fit = lives_in p n bundle_limit j w low run to th (fit.takes.0, WaitsFor (Port fit.takes.1)) fit.takes.3
  goes_within k to (msg.CellMake c v bundle) at fit = homed to c fit.takes.0 fit.names.0.2 (simulated.1.answers.contents.makes k to c v (bundle, (travelling_tells j k (record { to = to; msg = msg.CellMake c v bundle })).1 at)).1
  goes_within k to (msg.CellAsk c th b v bundle) at fit = homed to c fit.takes fit.names.0.2 (stationary c (simulated.1.answers.asking.grounded (claim.Asked k to (ContentOf c v) th b) (bundle, (travelling_tells j k (record { to = to; msg = msg.CellAsk c th b v bundle })).1 at)).3.1)
  goes_within k to (msg.CellOld th v bundle) at fit = lives_in p n bundle_limit j w low run to th (fit.takes.0, WaitsFor (Cell fit.takes.1)) fit.takes.4

  -- what travels goes to one of the sites
  pub goes_to_site : (ts : List Travel) (t : Travel) → AreTravels j ts → Contains ts t → (1 ≤ t.to) × (t.to ≤ n)
  goes_to_site ts t h c =
      let at = (h.exact t.number t.to).0 c in
      goes_within t.number t.to at.0 at.1 (simulated.2 t.number (record { to = t.to; msg = at.0 }) at.1)

  -- where all rest and nothing is for them, the run is quiet
  pub all_quiet : ((i : ℕ) → 1 ≤ i → i ≤ n → (is_idle (w i) ≡ true) × IsNothingFor j i) → is_quiet n j ≡ true
  all_quiet ease = (quiet_tells n j).1 (nothing, idle)
    where
      nothing : (k : ℕ) (m : Sent) → IsTravelling j k m → ⊥
      nothing k m at =
          let r = goes_within k m.to m.msg at (simulated.2 k m at) in
          (ease m.to r.0 r.1).1 k m at refl

      idle : (i : ℕ) → 1 ≤ i → i ≤ n → journal.is_idle j i ≡ true
      idle i a b = idle_as_told p n bundle_limit i j (w i) (run.runs i) ∙ (ease i a b).0

-- a quiet run does not go on
pub quiet_ends : (l : Limits) (j : List Turn) → 1 ≤ l.sites → end_of l j ≡ None → is_quiet l.sites j ≡ true → ⊥
quiet_ends l [] low on quiet = let first = ((quiet_tells l.sites []).0 quiet).1 1 (omega arith) low in cc
quiet_ends l (e ∷ j) low on quiet = by (nat_lt l.messages (length (sent_of (e ∷ j)))) (nat_le l.steps e.steps && not e.idle) (is_quiet l.sites (e ∷ j)) quiet on
  where
    by : (a b c : Bool) → c ≡ true → ◌≡◌ {A = Option Reason} (cond a (Some Messages) (cond b (Some (Steps e.site)) (cond c (Some Quiet) None))) None → ⊥
    by true b c q h = cc
    by false true c q h = cc
    by false false true q h = cc
    by false false false q h = cc

-- in a run that goes on some site has a message or can go on
pub some_is_busy : (l : Limits) (w : WorldState) → IsProgram w.program → AreLimits l → IsGoing l w.program w → ((i : ℕ) → 1 ≤ i → i ≤ l.sites → IsAtEase w i) → ⊥
some_is_busy l w is limits going ease =
    let low = subst (λ (n : ℕ). 1 ≤ n) (sym going.sites) limits.some_site in
    let high = subst (λ (n : ℕ). n ≤ 64) (sym going.sites) limits.most_sites in
    let quiet = all_quiet w.program w.sites w.journal (states_of w) is low high going.run (λ i a b. ease i a (subst (λ (n : ℕ). i ≤ n) going.sites b)) in
    quiet_ends l w.journal limits.some_site going.goes_on (subst (λ (n : ℕ). is_quiet n w.journal ≡ true) going.sites quiet)
