use Rattle.std.proofs.Common.{arith, ◌≡◌, ◌≤◌, ◌-◌, ◌∙◌, sym, ap, length}
use Rattle.thread_roster.specs.Threads.{waiting_of}
use Rattle.site_model.specs.Site.{Site}
use Rattle.world_core.specs.World.{WorldState, states_of}
use Rattle.world_core.proofs.TurnLemmas.{state_read}
use Rattle.world_core.proofs.world.World.runnable.Goals as goal

pub returns : goal.returns
returns c =
    let sites : length c.self.inside.sites.items ≡ c.args.self.now.sites = ap (λ (v : WorldState). v.sites) c.self.view_is in
    let among = c.requires.among in
    let high : c.args.site ≤ length c.self.inside.sites.items = omega arith in
    let read = state_read c.self.inside.program.now c.self.inside.sites.items c.args.site c.index.result.now c.requires.some high c.index.ensures in
    c.runnable.ensures ∙ ap (λ (x : Site). length x.threads - waiting_of x.threads) (sym read ∙ ap (λ (v : WorldState). states_of v c.args.site) c.self.view_is)
