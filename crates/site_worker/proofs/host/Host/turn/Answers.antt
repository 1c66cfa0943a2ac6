use Rattle.std.proofs.Common.{◌-◌, min, ℕ, Option, sym, subst}
use Rattle.site_message.specs.declared.message.Msg.{Msg}
use Rattle.site_message.specs.declared.turn.Turn.{Turn}
use Rattle.site_core.specs.Site.{IsTurnMade}
use Rattle.site_worker.specs.Host.{HasMessage, program_of, sites_of, state_of}
use Rattle.site_worker.proofs.HostLemmas.{sent_fits}
use Rattle.site_worker.proofs.host.Host.turn.Goals as goal

pub new-requires : goal.new-requires
new-requires c =
    let t = c.requires.taken.0 in
    let had = c.requires.taken.1 in
    let message = c.in-Ok.ensures had.0 had.1 in
    sent_fits c.sites_send_what_fits.ensures t c.make_turn.new.self c.in_ok-turn.turn
    (c.in_ok-turn.ensures.turned t (subst (λ (o : Option (ℕ × Msg)). HasMessage t c.args.self.now o) (sym message) had.2))

pub returns-clause-turn : goal.returns-clause-turn
returns-clause-turn c m spelled =
    let h = c.args.self.now in
    let quantum = min (c.args.limit - (state_of h).steps) 64 in
    let made = subst (λ (o : Option (ℕ × Msg)). IsTurnMade (program_of h) (sites_of h) (state_of h) o quantum c.in_ok-turn.turn (state_of c.make_turn.new.self)) (c.in-Ok.ensures m spelled) c.in_ok-turn.ensures.turn in
    subst (λ (e : Turn). IsTurnMade (program_of h) (sites_of h) (state_of h) m quantum e (state_of c.make_turn.new.self)) (sym c.in-Ok-new.ensures) made
