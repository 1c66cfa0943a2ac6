-- The ranges of the limits of a run.
use Rattle.std.specs.Prelude.{◌≤◌}
use Rattle.tree_node.specs.declared.limits.TheConstants.{MOST_MESSAGES, MOST_SITES, MOST_STEPS}
use Rattle.site_message.specs.declared.limits.Limits.{Limits}

-- each limit is in its range
pub record AreLimits (l : Limits) : Type 0 where
  pub some_site : 1 ≤ l.sites
  pub most_sites : l.sites ≤ MOST_SITES
  pub some_step : 1 ≤ l.steps
  pub most_steps : l.steps ≤ MOST_STEPS
  pub most_messages : l.messages ≤ MOST_MESSAGES
