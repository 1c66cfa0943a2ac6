use Rattle.std.proofs.Common.{◌≡◌, sym, subst, ℕ, List, map, false}
use Rattle.site_message.specs.declared.turn.Turn.{Turn}
use Rattle.site_model.specs.Site.{initial_site}
use Rattle.world_core.specs.World.{IsConsistent, state_in, states_by}
use Rattle.world_core.proofs.TurnLemmas.{starts, new_states, new_orders}
use Rattle.world_core.proofs.world.World.new.Goals as goal

pub invariant_of-result : goal.invariant_of-result
invariant_of-result c =
    subst (λ (j : List Turn). IsConsistent c.args.program.now j c.in_ok-first.first.items c.in_ok-mail.mail 0 false) (sym c.new-2.ensures)
    (starts c.args.program.now c.args.sites c.in_ok-first.first.items c.in_ok-mail.mail c.is_program.ensures c.requires.some c.requires.most
    c.in_ok-first.ensures.length c.in_ok-first.ensures.sites c.in_ok-mail.ensures.queues c.in_ok-mail.ensures.empty)

pub returns-clause-states : goal.returns-clause-states
returns-clause-states c =
    subst (λ (n : ℕ). (i : ℕ) → states_by c.args.program.now n (map state_in c.in_ok-first.first.items) i ≡ initial_site c.args.program.now c.args.sites i) (sym c.in_ok-first.ensures.length)
    (new_states c.args.program.now c.args.sites c.in_ok-first.first.items c.in_ok-first.ensures.sites)

pub returns-clause-orders : goal.returns-clause-orders
returns-clause-orders c = new_orders c.args.program.now c.args.sites c.in_ok-first.first.items c.in_ok-first.ensures.sites
