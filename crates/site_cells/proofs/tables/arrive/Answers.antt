use Rattle.std.proofs.Common.{[]}
use Rattle.token_chain.specs.declared.token.Token.TheVariants.{Here}
use Rattle.site_model.specs.Site.{CellRecord}
use Rattle.site_cells.proofs.RecordLemmas.{record_written}
use Rattle.site_cells.proofs.tables.arrive.Goals as goal

pub returns-clause-new : goal.returns-clause-new
returns-clause-new c =
    record_written c.args.records.now.entries _ c.args.cell (λ (q : CellRecord). record { held = record q.held { token = Here c.args.content; waiting = 0 }; queue = [] }) c.in-Some.place.now c.arrive.new.self
    c.in-Some.ensures.value (c.get_mut.follows.holds c.arrive.new.self).0 c.arrive.ensures.new
