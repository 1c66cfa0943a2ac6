use Rattle.std.proofs.Common.{◌≡◌, map, take}
use Rattle.bind_protocol.specs.Rows.{binding}
use Rattle.bind_protocol.proofs.binder.bindings.Given as goal

abbrev pub invariant-loop-site : goal.invariant-loop-site
invariant-loop-site l = l.messages.items ≡ map (λ k. binding l.var l.term k) (take l.site-index l.sites)
