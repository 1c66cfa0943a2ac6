use Rattle.std.proofs.Common.{◌≡◌, length}
use Rattle.book_lock.proofs.board.Board.new.Given as goal

abbrev pub invariant-loop : goal.invariant-loop
invariant-loop l = length l.parkers.items ≡ l.counter
