use Rattle.std.proofs.Common.{arith, ◌≡◌, ◌≢◌, ◌≤◌, ◌-◌, ◌∙◌, sym, ap, ℕ, List, length, length-set, map}
use Rattle.std.specs.Prelude.{slice_set}
use Rattle.tree_node.specs.declared.names.ThreadName.{ThreadName}
use Rattle.thread_roster.specs.Order.{rotated}
use Rattle.world_core.specs.Travels.{travel_of}
use Rattle.world_core.specs.World.{WorldState, order_in, orders_of}
use Rattle.world_core.proofs.PassLemmas.{Passed, passed_by}
use Rattle.world_core.proofs.world.World.pass_by.Goals as goal

after : (c : goal.After-self-1) → Passed c.self.inside.program.now c.self.inside.journal c.self.inside.sites.items c.self.inside.mail c.self.inside.sent c.self.inside.spent c.args.site (c.args.site - 1) c.pass_by.new.self
after c =
    let w = c.self.inside in
    let sites : length w.sites.items ≡ c.args.self.now.sites = ap (λ (v : WorldState). v.sites) c.self.view_is in
    let among = c.requires.among in
    let high : c.args.site ≤ length w.sites.items = omega arith in
    passed_by w.program.now w.journal w.sites.items w.mail w.sent w.spent c.self.invariant c.args.site c.requires.some high c.index_mut.result.now c.pass_by.new.self c.index_mut.ensures.value c.pass_by.ensures

pub invariant_of-self : goal.invariant_of-self
invariant_of-self c = (after c).consistent

pub returns-clause-same : goal.returns-clause-same
returns-clause-same c =
    let w = c.self.inside in
    let orders = map order_in (slice_set w.sites.items (c.args.site - 1) c.pass_by.new.self) in
    (λ r. record {
      program = w.program.now;
      sites = length-set w.sites.items (c.args.site - 1) c.pass_by.new.self r;
      journal = w.journal;
      states = (after c).states r;
      orders = orders;
      travels = map travel_of w.mail.messages;
      spent = w.spent;
    })
    ∙ ap (λ (v : WorldState). record v { orders = orders }) c.self.view_is

pub returns-clause-passed : goal.returns-clause-passed
returns-clause-passed c = (after c).here ∙ ap (λ (v : WorldState). rotated (orders_of v c.args.site)) c.self.view_is

pub returns-clause-others : goal.returns-clause-others
returns-clause-others c i other = (after c).others i other ∙ ap (λ (v : WorldState). orders_of v i) c.self.view_is
