use Rattle.std.proofs.Common.{◌≡◌, ◌∙◌, sym, ap}
use Rattle.std.specs.Prelude.{is_some}
use Rattle.proxy_table.specs.Proxies.{entry_of}
use Rattle.proxy_table.proofs.proxies.Proxies.met.Goals as goal
use Rattle.tree_node.proofs.OptionLemmas.{lent_some}

pub returns : goal.returns
returns c =
    let found : c.is_some.result ≡ is_some (entry_of c.self.inside.entries.entries c.args.var) = c.is_some.ensures ∙ lent_some c.get.result _ c.get.ensures.value in
    let e : c.is_some.result ≡ is_some (entry_of c.args.self.now c.args.var) = found ∙ ap (λ es. is_some (entry_of es c.args.var)) c.self.view_is in
    (λ h. sym e ∙ h, λ h. e ∙ h)
