-- How a run of a world grows by a turn.
use Rattle.std.proofs.Common.{arith, ◌≡◌, ◌≢◌, sym, refl, subst, ℕ, ◌≤◌, List, [], ◌∷◌, Bool, true, false}
use Rattle.std.specs.Prelude.{◌==◌}
use Rattle.kernel_syntax.specs.declared.stmt.Stmt.{Stmt}
use Rattle.kernel_syntax.specs.Program.{IsProgram}
use Rattle.site_message.specs.declared.turn.Turn.{Turn}
use Rattle.site_message.specs.Journal.{DeliversOnce}
use Rattle.site_model.specs.Bundle.{bundle_limit}
use Rattle.site_model.specs.Site.{Site, initial_site}
use Rattle.site_model.specs.Run.{WorldRun, SiteRun, IsEntry, IsReachedBy, IsRecordOf, IsSiteIn, delivered_message}
use Rattle.site_model.specs.Transition.{Transition}
use Rattle.site_model.specs.Turn.{SiteTurnOf}
use Rattle.world_model.proofs.PutLemmas.{nat_decides}
use Rattle.world_messages.proofs.CountLemmas.{once_each, none_own}
use Rattle.world_journals.proofs.RequestLemmas.{requests_are_served}
use Rattle.world_simulation.specs.Protocols.{ProtocolsHold}
use Rattle.world_simulation.proofs.SimulationLemmas.{every_run_is_simulated, delivered_messages_are_fit, cell_messages_are_few, messages_are_few, requests_are_single}
use Rattle.world_simulation.proofs.ProtocolLemmas.{protocols_always_hold}
use Rattle.world_simulation.proofs.HoldLemmas.{answers_always_hold}
use Rattle.world_simulation.proofs.TotalLemmas.{answer_messages_are_few, all_messages_are_few}
use Rattle.world_core.specs.Laws.{HasMachine, HoldAnswers, WereFit, AreMessagesFew, HasRun}

-- the run goes on by one entry
module _ (p : List Stmt) (n limit : ℕ) (j : List Turn) (e : Turn) (w v : ℕ → Site) (d : Transition)
    (run : WorldRun p n limit j w) (once : DeliversOnce j e) (site : IsSiteIn n e)
    (turn : SiteTurnOf p n limit e.units (w e.site) (delivered_message j e.delivered) d) (tells : IsRecordOf e d)
    (here : v e.site ≡ d.site) (others : (i : ℕ) → i ≢ e.site → v i ≡ w i) where
  own_run : SiteRun p n limit e.site (e ∷ j) (v e.site)
  own_run = subst (λ (b : Bool). IsReachedBy b (λ old. SiteRun p n limit e.site j old) (λ old new. IsEntry p n limit j e old new) (v e.site)) (sym ((nat_decides e.site e.site).1 refl)) (w e.site, run.runs e.site, (d, turn, tells, here))

  site_run : (i : ℕ) → SiteRun p n limit i (e ∷ j) (v i)
  site_run i = by (e.site == i) refl
    where
      by : (b : Bool) → (e.site == i) ≡ b → SiteRun p n limit i (e ∷ j) (v i)
      by true q = subst (λ (k : ℕ). SiteRun p n limit k (e ∷ j) (v k)) ((nat_decides e.site i).0 q) own_run
      by false q =
          let other : i ≢ e.site = λ same. (let yes : (e.site == i) ≡ true = (nat_decides e.site i).1 (sym same) in cc) in
          subst (λ (b : Bool). IsReachedBy b (λ old. SiteRun p n limit i j old) (λ old new. IsEntry p n limit j e old new) (v i)) (sym q) (subst (SiteRun p n limit i j) (sym (others i other)) (run.runs i))

  pub run_grows : WorldRun p n limit (e ∷ j) v
  run_grows = record { wired = (run.wired, once); sites = (site, run.sites); runs = site_run }

-- at the start
pub run_starts : (p : List Stmt) (n limit : ℕ) (w : ℕ → Site) → ((i : ℕ) → w i ≡ initial_site p n i) → WorldRun p n limit [] w
run_starts p n limit w start = record { wired = tt; sites = tt; runs = start }

pub empty_run : (p : List Stmt) (n : ℕ) → HasRun p n []
empty_run p n = ((λ i. initial_site p n i), run_starts p n bundle_limit (λ i. initial_site p n i) (λ i. refl))

-- ---- what the laws say of this run

module _ (p : List Stmt) (n : ℕ) (j : List Turn) (w : ℕ → Site) (is : IsProgram p) (low : 1 ≤ n) (high : n ≤ 64) (run : WorldRun p n bundle_limit j w) where
  short : bundle_limit ≤ 256
  short = omega arith

  pub machine : HasMachine p n j w
  machine = let s = every_run_is_simulated p n bundle_limit j w is low high short run in (s.0, s.1)

  pub were_fit : WereFit p n j w
  were_fit = delivered_messages_are_fit p n bundle_limit j w is low high short run

  pub protocols : ProtocolsHold p n j w
  protocols = protocols_always_hold p n bundle_limit j w is low high short run

  pub answers_hold : HoldAnswers p j w
  answers_hold = answers_always_hold p n bundle_limit j w is low high short run

  pub messages_few : AreMessagesFew p n j
  messages_few = record {
    once = once_each p n bundle_limit j w run;
    own = none_own p n bundle_limit j w run;
    single = requests_are_single p n bundle_limit j w is low high short run;
    variables = messages_are_few p n bundle_limit j w is low high short run;
    cells = λ c. cell_messages_are_few p n bundle_limit j w c is low high short run;
    answers = answer_messages_are_few p n bundle_limit j w is low high short run;
    all = all_messages_are_few p n bundle_limit j w is low high short run;
    served = (w, run, requests_are_served p n bundle_limit j w is low high short run);
  }
