use Rattle.marshal.proofs.ImportLemmas.{known_new}
use Rattle.marshal.proofs.importing.know.Goals as goal

pub returns-clause-known : goal.returns-clause-known
returns-clause-known c =
    known_new c.args.store.now c.know.new.self c.args.names.now.items c.push.new.self.items c.args.var (λ k. let yes = c.known.ensures.1 k in cc) c.in_ok-know.ensures.known c.in_ok-push.ensures.items
