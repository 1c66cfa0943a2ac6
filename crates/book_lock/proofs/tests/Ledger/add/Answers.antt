use Rattle.book_lock.proofs.LedgerLemmas.{turn_added}
use Rattle.book_lock.proofs.tests.Ledger.add.Goals as goal

pub returns : goal.returns
returns c = turn_added c.push.result c.args.turn _ _ c.push.ensures.ok c.push.ensures.err
