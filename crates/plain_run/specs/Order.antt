-- Which turn may come next in a run that goes on, and that it was made.
use Rattle.std.specs.Prelude.{◌≡◌, ℕ, ◌-◌, ◌≤◌, min, false, None}
use Rattle.tree_node.specs.declared.limits.TheConstants.{MOST_UNITS}
use Rattle.site_message.specs.declared.limits.Limits.{Limits}
use Rattle.site_model.specs.Site.{is_idle}
use Rattle.world_core.specs.Travels.{IsNotThere}
use Rattle.world_core.specs.World.{WorldState, states_of, IsWorldTurn, IsWorldTurnInOrder}
use Rattle.plain_run.specs.declared.order.Choice.{Choice}

-- the turn can be made: there is such a site, and the message is one that travels to it; a site that takes none can go on
pub record CanBeMade (l : Limits) (w : WorldState) (c : Choice) : Type 0 where
  pub some : 1 ≤ c.site
  pub among : c.site ≤ l.sites
  pub there : IsNotThere w.travels c.site c.place → ⊥
  pub busy : c.place ≡ None → is_idle (states_of w c.site) ≡ false
  pub units : (1 ≤ c.units) × (c.units ≤ MOST_UNITS)

-- how many units it makes, unless the site is idle before: as many as were chosen, or fewer where the limit of own steps is nearer
abbrev pub units_of : Limits → WorldState → Choice → ℕ
units_of l w c = min (l.steps - (states_of w c.site).steps) c.units

-- the world has made this turn, and where no thread was passed by, the threads of the site had their turns in its order
pub record IsChosenTurn (l : Limits) (old new : WorldState) (c : Choice) : Type 0 where
  pub turn : IsWorldTurn old new c.site c.place (units_of l old c)
  pub order : c.passed ≡ 0 → IsWorldTurnInOrder old new c.site

-- the worlds are the same but for the orders of threads
abbrev pub AreSameButOrders : WorldState → WorldState → Type 0
AreSameButOrders old new = new ≡ record old { orders = new.orders }
