-- The threads of the sites as the machine has them: each stands at its site, but those that wait for an answer stand at number 0, which is
-- no site, with the stacks that the machine has of them.
use Rattle.std.specs.Prelude.{[], ◌∷◌, Bool, true, false, not, ◌==◌, if◌then◌else◌}
use Rattle.tree_node.specs.Assoc.{without_key}
use Rattle.tree_node.specs.State.{equal_thread}
use Rattle.thread_roster.specs.declared.mode.Awaited.TheVariants.{Cell, Port}
use Rattle.thread_roster.specs.declared.mode.Mode.{Mode}
use Rattle.thread_roster.specs.declared.mode.Mode.TheVariants as mode
use Rattle.site_model.specs.Site.{Site, Threads}
use Rattle.world_model.specs.World.{Sites, World}

-- a thread that stands so waits for an answer: of the owner of a port, or of the home of a stationary cell
abbrev pub is_asking : Mode → Bool
is_asking mode.Runs = false
is_asking (mode.Waits x) = false
is_asking (mode.Needs x) = false
is_asking (mode.WaitsAny xs) = false
is_asking (mode.WaitsFor (Cell c)) = not (c.at == 0)
is_asking (mode.WaitsFor (Port q)) = true

-- the threads without those that wait for an answer
abbrev pub standing : Threads → Threads
standing [] = []
standing (t ∷ ts) = if is_asking t.1.1 then without_key equal_thread (standing ts) t.0 else t ∷ standing ts

-- a site without them
abbrev pub standing_site : Site → Site
standing_site s = record s { threads = standing s.threads }

-- the sites with these threads
abbrev pub shown : Sites → Threads → Sites
shown f transit i = record (f i) { threads = if i == 0 then transit else standing (f i).threads }

abbrev pub shown_world : World → Threads → World
shown_world w transit = record w { sites = shown w.sites transit }
