use Rattle.site_units.specs.declared.data.Core.{Core}
use Rattle.site_core.proofs.StartLemmas.{first_state, first_consistent}
use Rattle.site_core.proofs.start.first_core.Goals as goal

pub returns-clause-state : goal.returns-clause-state
returns-clause-state c =
    let core : Core = record c.bare_core-core.result { threads = c.in_ok-threads.threads } in
    let b = c.bare_core-core.ensures in
    first_state c.args.program.now c.args.number c.args.sites core c.is_program.ensures (record {
      bare = record { equations = b.equations; known = b.known; records = b.records; linked = b.linked; cells = b.cells; ports = b.ports; homes = b.homes; counters = b.counters; steps = b.steps; sites = b.sites };
      living = c.in_ok-threads.ensures.living;
      ended = c.in_ok-threads.ensures.ended;
    })

pub returns-clause-consistent : goal.returns-clause-consistent
returns-clause-consistent c =
    let core : Core = record c.bare_core-core.result { threads = c.in_ok-threads.threads } in
    let b = c.bare_core-core.ensures in
    first_consistent c.args.program.now c.args.number c.args.sites core c.is_program.ensures c.requires.some c.requires.among (record {
      bare = record { equations = b.equations; known = b.known; records = b.records; linked = b.linked; cells = b.cells; ports = b.ports; homes = b.homes; counters = b.counters; steps = b.steps; sites = b.sites };
      living = c.in_ok-threads.ensures.living;
      ended = c.in_ok-threads.ensures.ended;
    })
