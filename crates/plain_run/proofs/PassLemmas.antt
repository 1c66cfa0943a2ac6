-- A turn behind threads that were passed by is one of the world before.
use Rattle.std.proofs.Common.{◌≡◌, ◌∙◌, sym, ap, subst, ℕ, Bool, true, false, Ok, Err}
use Rattle.std.specs.Prelude.{Result, IfOk, OnErr}
use Rattle.std.proofs.lemmas.Result.{IfOk-weaker}
use Rattle.site_message.specs.declared.limits.Limits.{Limits}
use Rattle.world_core.specs.World.{WorldState, IsWorldTurn, IsWorldTurnInOrder}
use Rattle.plain_run.specs.declared.order.Choice.{Choice}
use Rattle.plain_run.specs.Order.{AreSameButOrders, CanBeMade, IsChosenTurn, units_of}
use Rattle.plain_run.specs.Progress.{IsGoing, IsLimitedTurn, IsProgress}

-- one more is passed by
pub one_more : (old between new : WorldState) → AreSameButOrders old between → AreSameButOrders between new → AreSameButOrders old new
one_more old between new h g = subst (λ (w : WorldState). new ≡ record w { orders = new.orders }) h g

-- the world w, with other orders, which v is
module _ (l : Limits) (w v : WorldState) (same : AreSameButOrders w v) where
  pub going_still : IsGoing l w.program w → IsGoing l v.program v
  going_still h = subst (λ (x : WorldState). IsGoing l x.program x) (sym same) (record {
    program = h.program;
    sites = h.sites;
    live = h.live;
    run = h.run;
    within = h.within;
    kept = h.kept;
    idle = h.idle;
    few = h.few;
    goes_on = h.goes_on;
    went = h.went;
  })

  pub journal_still : {T E : Type 0} (r : Result T E) (new : WorldState) → OnErr r (new.journal ≡ v.journal) → OnErr r (new.journal ≡ w.journal)
  journal_still (Ok x) new h = tt
  journal_still (Err e) new h = h ∙ ap (λ (x : WorldState). x.journal) same

  pub parts_still : (new : WorldState) → (new.program ≡ v.program) × (new.sites ≡ v.sites) → (new.program ≡ w.program) × (new.sites ≡ w.sites)
  parts_still new h = (h.0 ∙ ap (λ (x : WorldState). x.program) same, h.1 ∙ ap (λ (x : WorldState). x.sites) same)

  pub can_still : (c : Choice) → CanBeMade l w c → CanBeMade l v c
  can_still c h = subst (λ (x : WorldState). CanBeMade l x c) (sym same) (record { some = h.some; among = h.among; there = h.there; busy = h.busy; units = h.units })

  -- the turn of v is one of w
  turn_of : (new : WorldState) (c : Choice) → IsWorldTurn v new c.site c.place (units_of l v c) → IsWorldTurn w new c.site c.place (units_of l w c)
  turn_of new c t = again (subst (λ (x : WorldState). IsWorldTurn x new c.site c.place (units_of l x c)) same t)
    where
      again : IsWorldTurn (record w { orders = v.orders }) new c.site c.place (units_of l w c) → IsWorldTurn w new c.site c.place (units_of l w c)
      again h = record { entry = h.entry; journal = h.journal; site_is = h.site_is; delivered = h.delivered; turn = h.turn; few = h.few; others = h.others }

  pub chosen_behind : {E : Type 0} (r : Result Bool E) (new : WorldState) (c : Choice) → (c.passed ≡ 0 → v ≡ w) →
      IfOk r (λ _. IsWorldTurn v new c.site c.place (units_of l v c) × IsWorldTurnInOrder v new c.site) → IfOk r (λ _. IsChosenTurn l w new c)
  chosen_behind r new c none h =
      IfOk-weaker r (λ _. IsWorldTurn v new c.site c.place (units_of l v c) × IsWorldTurnInOrder v new c.site) (λ _. IsChosenTurn l w new c)
      (λ b both. record { turn = turn_of new c both.0; order = λ zero. subst (λ (x : WorldState). IsWorldTurnInOrder x new c.site) (none zero) both.1 }) h

  pub limited_behind : {E : Type 0} (r : Result Bool E) (new : WorldState) (site : ℕ) → IfOk r (λ _. IsLimitedTurn l v.program v new site) → IfOk r (λ _. IsLimitedTurn l w.program w new site)
  limited_behind r new site h =
      IfOk-weaker r (λ _. IsLimitedTurn l v.program v new site) (λ _. IsLimitedTurn l w.program w new site)
      (λ b made. again (subst (λ (x : WorldState). IsLimitedTurn l x.program x new site) same made)) h
    where
      again : IsLimitedTurn l w.program (record w { orders = v.orders }) new site → IsLimitedTurn l w.program w new site
      again h = record {
        entry = h.entry;
        journal = h.journal;
        at = h.at;
        steps = h.steps;
        rests = h.rests;
        program = h.program;
        sites = h.sites;
        live = h.live;
        run = h.run;
        within = h.within;
        kept = h.kept;
        idle = h.idle;
        went = h.went;
      }

  pub progress_behind : {E : Type 0} (r : Result Bool E) (new : WorldState) → IfOk r (λ b. IsProgress l v new b) → IfOk r (λ b. IsProgress l w new b)
  progress_behind r new h = IfOk-weaker r (λ b. IsProgress l v new b) (λ b. IsProgress l w new b) (λ b p. again b (subst (λ (x : WorldState). IsProgress l x new b) same p)) h
    where
      again : (b : Bool) → IsProgress l (record w { orders = v.orders }) new b → IsProgress l w new b
      again true p = p
      again false p = p
