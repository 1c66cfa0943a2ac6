-- What holds at the start of a world and after each entry holds in every run.
use Rattle.std.proofs.Common.{rules, ◌≡◌, ◌≢◌, ◌∙◌, sym, ap, refl, subst, ℕ, List, [], ◌∷◌, Bool, true, false}
use Rattle.std.specs.Prelude.{◌==◌}
use Rattle.kernel_syntax.specs.declared.stmt.Stmt.{Stmt}
use Rattle.site_message.specs.declared.turn.Turn.{Turn}
use Rattle.site_message.specs.Journal.{DeliversOnce}
use Rattle.site_model.specs.Site.{Site, initial_site}
use Rattle.site_model.specs.Transition.{Transition}
use Rattle.site_model.specs.Turn.{SiteTurn, SiteTurnOf}
use Rattle.site_model.specs.Run.{IsRecordOf, IsEntry, IsReachedBy, SiteRun, IsSiteIn, WorldRun, delivered_message}
use Rattle.world_model.specs.World.{Sites, put}
use Rattle.world_model.proofs.PutLemmas.{nat_decides, at_all, at_here, at_own, at_twice}

same_functions : {X : Type 0} (f g : ℕ → X) → ((i : ℕ) → f i ≡ g i) → f ≡ g
same_functions f g e = search (rules, e)

-- before the last entry
abbrev pub IsBefore : List Stmt → ℕ → ℕ → List Turn → Turn → Sites → Type 0
IsBefore p n limit j e f = (old : Site) × IsEntry p n limit j e old (f e.site) × WorldRun p n limit j (put f e.site old)

pub before_entry : (p : List Stmt) (n limit : ℕ) (j : List Turn) (e : Turn) (f : Sites) → WorldRun p n limit (e ∷ j) f → IsBefore p n limit j e f
before_entry p n limit j e f run = (
  here.0,
  here.2,
  record {
    wired = run.wired.0;
    sites = run.sites.1;
    runs = at_all f e.site here.0 (λ (i : ℕ) (s : Site). SiteRun p n limit i j s) here.1 others;
  },
)
  where
    same : (e.site == e.site) ≡ true
    same = (nat_decides e.site e.site).1 refl

    here : (old : Site) × SiteRun p n limit e.site j old × IsEntry p n limit j e old (f e.site)
    here = subst (λ (b : Bool). IsReachedBy b (λ old. SiteRun p n limit e.site j old) (λ old new. IsEntry p n limit j e old new) (f e.site)) same (run.runs e.site)

    others : (i : ℕ) → i ≢ e.site → SiteRun p n limit i j (f i)
    others i other = go (e.site == i) refl (run.runs i)
      where
        go : (b : Bool) → (e.site == i) ≡ b → IsReachedBy b (λ old. SiteRun p n limit i j old) (λ old new. IsEntry p n limit j e old new) (f i) → SiteRun p n limit i j (f i)
        go true q h = absurd (other (sym ((nat_decides e.site i).0 q)))
        go false q h = h

-- one entry more: its turn, told by itself and with its units
pub record Entry (p : List Stmt) (n limit : ℕ) (j : List Turn) (e : Turn) (f : Sites) (d : Transition) : Type 0 where
  pub run : WorldRun p n limit j f
  pub wired : DeliversOnce j e
  pub site : IsSiteIn n e
  pub turn : SiteTurn p n limit (f e.site) (delivered_message j e.delivered) d
  pub told : SiteTurnOf p n limit e.units (f e.site) (delivered_message j e.delivered) d
  pub tells : IsRecordOf e d

module _ (p : List Stmt) (n limit : ℕ) (I : List Turn → Sites → Type 0) (start : I [] (initial_site p n))
    (goes : (j : List Turn) (e : Turn) (f : Sites) (d : Transition) → Entry p n limit j e f d → I j f → I (e ∷ j) (put f e.site d.site)) where
  pub every_run : (j : List Turn) (f : Sites) → WorldRun p n limit j f → I j f
  every_run [] f run = subst (λ (g : Sites). I [] g) (sym (same_functions f (initial_site p n) run.runs)) start
  every_run (e ∷ j) f run = go (before_entry p n limit j e f run) (every_run j)
    where
      go : IsBefore p n limit j e f → ((g : Sites) → WorldRun p n limit j g → I j g) → I (e ∷ j) f
      go (old, (d, turn, tells, is), before) ih =
          subst (λ (g : Sites). I (e ∷ j) g) back (goes j e (put f e.site old) d (record {
            run = before;
            wired = run.wired.1;
            site = run.sites.0;
            turn = subst (λ (s : Site). SiteTurn p n limit s (delivered_message j e.delivered) d) (sym (at_here f e.site old)) (e.units, turn.0, turn.1);
            told = subst (λ (s : Site). SiteTurnOf p n limit e.units s (delivered_message j e.delivered) d) (sym (at_here f e.site old)) turn;
            tells = tells;
          }) (ih (put f e.site old) before))
        where
          back : put (put f e.site old) e.site d.site ≡ f
          back = at_twice f e.site old d.site ∙ ap (λ (s : Site). put f e.site s) (sym is) ∙ at_own f e.site
