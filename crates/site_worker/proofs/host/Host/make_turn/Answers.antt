use Rattle.std.proofs.Common.{arith}
use Rattle.site_worker.proofs.HostLemmas.{turned_host, spent_host}
use Rattle.site_worker.proofs.host.Host.make_turn.Goals as goal

pub returns-in-Ok-clause-turned : goal.returns-in-Ok-clause-turned
returns-in-Ok-clause-turned c t mine =
    let h = c.args.self.now in
    let v = c.turn.new.self in
    let made = c.turn.ensures in
    let rise = c.in-Ok.ensures.few in
    let left = c.saturating_sub-left.ensures in
    let units = c.min.ensures in
    let were = c.steps.ensures in
    let within = mine.steps in
    let limit = c.requires.limit.0 in
    turned_host t h v c.recipients_of-self.result c.min.result c.args.message c.in-Ok.turn mine made.seat (made.program, made.sites, made.number) c.in-Ok.ensures.live (omega arith) c.in-Ok.ensures.turn (omega arith)

pub returns-in-Err-clause-turned : goal.returns-in-Err-clause-turned
returns-in-Err-clause-turned c t mine =
    let made = c.turn.ensures in
    spent_host t c.args.self.now c.turn.new.self c.args.message mine made.seat (made.program, made.sites, made.number)
