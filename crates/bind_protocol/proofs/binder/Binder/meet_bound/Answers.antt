use Rattle.std.proofs.Common.{◌∙◌, sym, ap}
use Rattle.bind_protocol.specs.Records.{Records, is_own}
use Rattle.bind_protocol.proofs.KnowLemmas.{met_with_term}
use Rattle.bind_protocol.proofs.binder.Binder.meet_bound.Goals as goal

pub returns-clause-bound : goal.returns-clause-bound
returns-clause-bound c =
    let before : Records = record { site = c.self.inside.site; owners = c.self.inside.owners; proxies = c.self.inside.proxies } in
    met_with_term c.meet_bound.result before c.args.var c.args.term c.meet_bound.new.self
    (ap (λ (b : Records). is_own b c.args.var) c.self.view_is ∙ sym c.owns.ensures ∙ c.if-owns.false) c.meet_bound.ensures.bound
