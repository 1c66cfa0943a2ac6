-- A site fits after each of its turns, so each message that it sends can be spelled.
use Rattle.std.proofs.Common.{arith, sym, refl, subst, ℕ, ◌≤◌, List, [], ◌∷◌, Bool, true, false, cond}
use Rattle.std.specs.Prelude.{◌==◌}
use Rattle.tree_node.specs.declared.limits.TheConstants.{MOST_SITES}
use Rattle.tree_node.specs.declared.names.CellName.{CellName}
use Rattle.tree_node.specs.Each.{Each}
use Rattle.tree_node.specs.Env.{restriction}
use Rattle.tree_node.specs.Names.{EachOfEnv}
use Rattle.kernel_syntax.specs.declared.stmt.Stmt.{Stmt}
use Rattle.kernel_syntax.specs.Program.{IsProgram}
use Rattle.site_message.specs.declared.turn.Turn.{Turn}
use Rattle.site_message.specs.Story.{own}
use Rattle.site_message.specs.Wire.{IsSite}
use Rattle.oz_model.specs.Coverage.{IsCovering}
use Rattle.oz_model.specs.Effect.{body_item}
use Rattle.oz_model.specs.Run.{start, first_thread}
use Rattle.site_model.specs.Site.{Site, initial_site, runnable_threads}
use Rattle.site_model.specs.Run.{IsReachedBy, IsEntry, SiteRun, delivered_message}
use Rattle.site_wire.specs.Sending.{CanBeSpelled, IsOfSites, StackFits, QueueFits, ThreadsFit, SiteFits, TransitionFits, line_in}
use Rattle.site_wire.specs.Laws.{SitesSendWhatFits}
use Rattle.site_wire.proofs.ThreadLemmas.{starts_fit}
use Rattle.site_wire.proofs.MessageLemmas.{turn_fits}

module _ (p : List Stmt) (is : IsProgram p) (n i : ℕ) where
  no_threads : (made : ℕ) → ThreadsFit p i made [] (line_in i [] [])
  no_threads made = record { each = λ n v at. cc; own = λ n v at mine. cc; queues = λ c. nobody (c.at == 0) (c.at == i) }
    where
      nobody : {c : CellName} (a b : Bool) → QueueFits [] c (cond a [] (cond b [] []))
      nobody true b = record { once = tt; inside = tt }
      nobody false true = record { once = tt; inside = tt }
      nobody false false = record { once = tt; inside = tt }

  first_stack : StackFits p (body_item p (record { 0 = 0 }) [] ∷ [])
  first_stack = record {
    names = (subst (λ (ks : List ℕ). EachOfEnv IsOfSites (restriction ks [])) (sym is.closed) tt, tt);
    nodes = (tt, tt);
    covered = (subst (λ (ks : List ℕ). IsCovering (restriction ks []) ks) (sym is.closed) tt, tt);
  }

  first_threads : (b : Bool) → ThreadsFit p i (cond b 1 0) (cond b (runnable_threads (start p).threads) []) (line_in i [] [])
  first_threads true = starts_fit p i 1 [] (line_in i [] []) first_thread (body_item p (record { 0 = 0 }) [] ∷ []) refl (omega arith, omega arith) first_stack (λ mine. omega arith) (no_threads 1)
  first_threads false = no_threads 0

  pub start_fits : n ≤ MOST_SITES → SiteFits p i (initial_site p n i)
  start_fits many = record {
    site = refl;
    equations = record { names = tt; nodes = tt };
    owners = λ x t e. cc;
    threads = first_threads (i == 1);
    contents = λ c. tt;
    kept = record { sites = many; ends = tt; homes = λ c. (tt, tt) };
  }

module _ (p : List Stmt) (is : IsProgram p) (n limit : ℕ) (high : limit ≤ 256) (i : ℕ) (low : IsSite i) (many : n ≤ MOST_SITES) where
  abbrev pub Fits : List Turn → Site → Type 0
  Fits j s = SiteFits p i s × Each (λ (e : Turn). CanBeSpelled e.sent) (own i j)

  -- after each turn the site keeps only what fits, and its turns sent what can be spelled
  pub run_fits : (j : List Turn) (s : Site) → SiteRun p n limit i j s → Fits j s
  run_fits [] s e = (subst (SiteFits p i) (sym e) (start_fits p is n i many), tt)
  run_fits (e ∷ j) s run = go (e.site == i) run (λ t k. run_fits j t k)
    where
      go : (b : Bool) → IsReachedBy b (λ (old : Site). SiteRun p n limit i j old) (λ (old new : Site). IsEntry p n limit j e old new) s → ((t : Site) → SiteRun p n limit i j t → Fits j t)
          → SiteFits p i s × Each (λ (e : Turn). CanBeSpelled e.sent) (cond b (e ∷ own i j) (own i j))
      go true (old, before, entry) ih =
          let was : Fits j old = ih old before in
          let d : TransitionFits p i entry.0 = turn_fits p is n limit high i low (delivered_message j e.delivered) old entry.0 was.0 (e.units, entry.1.0, entry.1.1) in
          (subst (SiteFits p i) (sym entry.3) d.site, (subst CanBeSpelled (sym entry.2.sent) d.sent, was.1))
      go false before ih = ih s before

pub sites_send_what_fits : SitesSendWhatFits
sites_send_what_fits p n limit i j s is many high low most run = (run_fits p is n limit high i (low, omega (arith, many, most)) many j s run).1
