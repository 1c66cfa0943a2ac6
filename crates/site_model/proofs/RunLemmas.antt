-- How the run of a site goes on by an entry.
use Rattle.std.proofs.Common.{◌≡◌, ℕ, List, ◌∷◌, false, eqb, eq-eqb, sym, subst}
use Rattle.kernel_syntax.specs.declared.stmt.Stmt.{Stmt}
use Rattle.site_message.specs.declared.turn.Turn.{Turn}
use Rattle.site_model.specs.Site.{Site}
use Rattle.site_model.specs.Run.{SiteRun, IsEntry, IsReachedBy}

module _ (p : List Stmt) (n limit k : ℕ) where
  -- an entry of another site
  pub run_skip : (e : Turn) (j : List Turn) (s : Site) → eqb e.site k ≡ false → SiteRun p n limit k j s → SiteRun p n limit k (e ∷ j) s
  run_skip e j s is run = subst (λ b. IsReachedBy b (λ old. SiteRun p n limit k j old) (λ old new. IsEntry p n limit j e old new) s) (sym is) run

  -- an entry of the site
  pub run_entry : (e : Turn) (j : List Turn) (old s : Site) → e.site ≡ k → SiteRun p n limit k j old → IsEntry p n limit j e old s → SiteRun p n limit k (e ∷ j) s
  run_entry e j old s is run entry =
      subst (λ b. IsReachedBy b (λ old. SiteRun p n limit k j old) (λ old new. IsEntry p n limit j e old new) s) (sym (eq-eqb e.site k is)) (old, run, entry)
