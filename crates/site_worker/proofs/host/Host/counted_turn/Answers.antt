use Rattle.site_worker.proofs.HostLemmas.{counted_host}
use Rattle.site_worker.proofs.host.Host.counted_turn.Goals as goal

pub turn-requires-clause-taken : goal.turn-requires-clause-taken
turn-requires-clause-taken g c = let t = c.requires.taken in (t.0, (t.1.0, t.1.1, counted_host t.0 c.args.self.now _ t.1.0 t.1.2))

pub returns-clause-turned : goal.returns-clause-turned
returns-clause-turned g c t had = c.turn.ensures.turned t (had.0, had.1, counted_host t c.args.self.now _ had.0 had.2)

pub returns-clause-same : goal.returns-clause-same
returns-clause-same g c =
    let same = c.turn.ensures.same in
    (record { number = same.0.number; program = same.0.program; sites = same.0.sites; fixed = same.0.fixed }, same.1)
