-- A request or an answer comes to a site: its bundle is known and its names are met, and it is no longer on its way.
use Rattle.std.proofs.Common.{◌≡◌, ◌∙◌, sym, ap, refl, subst, ℕ, List, ◌++◌, inl, inr, true}
use Rattle.std.specs.Prelude.{Contains, ◌≢◌}
use Rattle.std.proofs.lemmas.List.Elements.{Contains-append_left}
use Rattle.tree_node.specs.declared.names.VarName.{VarName}
use Rattle.tree_node.specs.declared.names.ThreadName.{ThreadName}
use Rattle.tree_node.specs.declared.names.Name.TheVariants as name
use Rattle.tree_node.specs.declared.pick.Pick.{Pick}
use Rattle.tree_node.specs.Each.{Each, AreDistinct}
use Rattle.tree_node.specs.State.{State}
use Rattle.kernel_syntax.specs.declared.stmt.Stmt.{Stmt}
use Rattle.site_message.specs.declared.message.Msg.{Msg}
use Rattle.oz_model.specs.Answers.{IsPartOf}
use Rattle.thread_roster.specs.declared.mode.Awaited.{Awaited}
use Rattle.thread_roster.specs.declared.mode.Mode.TheVariants as mode
use Rattle.site_model.specs.Bundle.{message_bundle, message_vars}
use Rattle.site_model.specs.Site.{Site, Threads}
use Rattle.site_model.specs.Transition.{Transition}
use Rattle.site_model.specs.Variables.{with_known_equations, opening}
use Rattle.world_model.specs.Names.{IsHere, here_at}
use Rattle.world_model.specs.Shown.{is_asking, standing, standing_site, shown, shown_world}
use Rattle.world_model.specs.World.{World, IsOnItsWay, eqs, records, threads, mail_from, after_transition}
use Rattle.world_model.proofs.PutLemmas.{at_all, field_kept}
use Rattle.world_variables.specs.Laws.{PartsIn}
use Rattle.world_variables.specs.Sums.{names}
use Rattle.world_variables.proofs.OpenLemmas.{Opened, opens_row, told_all_known, meets_known}
use Rattle.world_variables.proofs.SumLemmas.{told_all_sums}
use Rattle.world_cells.proofs.FrameLemmas.{opens_nothing}
use Rattle.world_cells.proofs.QueueLemmas.{SameWaiters, waiters_same}
use Rattle.world_cells.proofs.UnitQueueLemmas.{told_all_waiters}
use Rattle.world_answers.specs.Joined.{Joined}
use Rattle.world_answers.proofs.BesideLemmas.{Beside, opens_beside}
use Rattle.world_answers.proofs.GrowLemmas.{made_grow, same_grow, opens_counters}
use Rattle.world_answers.proofs.HeardLemmas.{opens_grow}
use Rattle.world_answers.proofs.JoinLemmas.{shown_acts}
use Rattle.world_answers.proofs.PackLemmas.{ReachedAt, whole, packed}
use Rattle.world_answers.proofs.ShownLemmas.{shown_real, standing_distinct}
use Rattle.world_answers.proofs.StandLemmas.{standing_sent, answers_stay}
use Rattle.world_answers.proofs.ViewLemmas.{standing_deed, view_opening}

module _ (p : List Stmt) (i : ℕ) (real : i ≢ 0) (w : World) (ks : List Pick) (j : Joined p w ks) (k : ℕ) (m : Msg) (at : IsOnItsWay w.mail k i m) (told : Each (Contains j.reached.centre.equations) (message_bundle m)) where
  abbrev c : State
  c = j.reached.centre

  abbrev t : Threads
  t = j.transit

  abbrev d : Transition
  d = opening m (w.sites i)

  abbrev pub open_world : World
  open_world = after_transition w i d

  site_is : shown w.sites t i ≡ standing_site (w.sites i)
  site_is = shown_real w.sites t i real

  view : opening m (shown w.sites t i) ≡ standing_deed d
  view = ap (opening m) site_is ∙ view_opening m (w.sites i)

  world_is : after_transition (shown_world w t) i (opening m (shown w.sites t i)) ≡ shown_world open_world t
  world_is = ap (after_transition (shown_world w t) i) view ∙ shown_acts w t i d real

  opened : Opened p (shown_world w t) c i m
  opened = opens_row p (shown_world w t) c k i m j.reached.parts at told

  parts : PartsIn p (here_at (records open_world.sites)) (shown_world open_world t) c
  parts = subst (λ (v : World). PartsIn p (here_at (records v.sites)) v c) world_is opened.parts

  -- the names of the message are known
  pub open_vars : Each (λ (x : VarName). here_at (records open_world.sites) i (name.Var x)) (message_vars m)
  open_vars = subst (λ (v : World). Each (λ (x : VarName). here_at (records v.sites) i (name.Var x)) (message_vars m)) world_is opened.vars

  pub open_wider : (y : VarName) → IsHere (w.sites i).records y → IsHere d.site.records y
  open_wider y (inl zero) = inl zero
  open_wider y (inr q) = inr (meets_known (message_vars m) (with_known_equations (w.sites i) (message_bundle m)).records y (told_all_known (message_bundle m) (w.sites i) y q))

  waiters : (b : Awaited) → SameWaiters (standing (w.sites i).threads) (standing d.site.threads) b
  waiters b = subst (λ (x : Transition). SameWaiters (standing (w.sites i).threads) x.site.threads b) (view_opening m (w.sites i)) (told_all_waiters (standing_site (w.sites i)) (message_bundle m) b)

  once : AreDistinct (names d.site.threads)
  once = subst (λ (xs : List ThreadName). AreDistinct xs) (sym (told_all_sums (w.sites i) (message_bundle m)).names) (j.once i)

  beside : Beside (w.sites i) d
  beside = opens_beside m (w.sites i)

  there : ReachedAt p (shown_world open_world t) (ks ++ d.picks) c
  there = packed p w ks t j.reached i d t c real (record {
    run = refl;
    parts = parts;
    still = opens_nothing m (w.sites i);
    cells = refl;
    here = waiters;
    away = λ b. waiters_same t b;
    wider = open_wider;
    lines = (refl, refl);
    ended = (refl, (told_all_sums (w.sites i) (message_bundle m)).ended);
    once = (standing_distinct d.site.threads once, j.reached.sums.once 0);
  })

  -- the site has opened the message
  pub open_joined : Joined p open_world (ks ++ d.picks)
  open_joined = record {
    transit = t;
    reached = whole there;
    answers = answers_stay p w open_world t c c j.answers (λ l. (there.parts.kept l).sound)
        (at_all w.sites i d.site (λ l (x : Site). IsPartOf (eqs w.sites l) x.equations) (opens_grow m (w.sites i)) (λ l other x h. h))
        (at_all w.sites i d.site (λ l (x : Site). (y : VarName) → IsHere (records w.sites l) y → IsHere x.records y) open_wider (λ l other y h. h))
        (at_all w.sites i d.site (λ l (x : Site). (a : Awaited) → is_asking (mode.WaitsFor a) ≡ true → SameWaiters (threads w.sites l) x.threads a) (λ a asks. told_all_waiters (w.sites i) (message_bundle m) a) (λ l other a asks. record { old = λ o st h. h; new = λ o st h. h }))
        (standing_sent w.mail w.sent d.sent beside.silent)
        (field_kept (λ (x : Site). x.homes) w.sites i d.site beside.homes)
        (field_kept (λ (x : Site). x.ports) w.sites i d.site beside.ports)
        (record { ports = refl; stationary = λ b far. refl }) (made_grow w.sites i d.site (same_grow (w.sites i).counters d.site.counters (opens_counters m (w.sites i))));
    once = at_all w.sites i d.site (λ l (x : Site). AreDistinct (names x.threads)) once (λ l other. j.once l);
  }

  pub open_at : IsOnItsWay open_world.mail k i m
  open_at = Contains-append_left w.mail (mail_from w.sent d.sent) _ at
