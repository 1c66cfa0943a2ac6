use Rattle.proxy_table.proofs.EntryLemmas.{met_new}
use Rattle.proxy_table.proofs.proxies.Proxies.meet.Goals as goal

pub returns-clause-met : goal.returns-clause-met
returns-clause-met c =
    met_new c.args.self.now c.self.inside.entries.entries c.insert.new.self.entries c.args.var c.met.result c.self.view_is c.met.ensures c.if-met.false c.in_ok-insert.ensures.entries
