use Rattle.site_message.specs.Story.{hand}
use Rattle.std.specs.Prelude.{ℕ, List}
use Rattle.message_book.specs.Book.{IsUntakenSpelling}
use Rattle.message_book.proofs.Hands.{in_hand_then}
use Rattle.unit_tests.proofs.book.take_message.Goals as goal

pub returns-clause-hand : goal.returns-clause-hand
returns-clause-hand c = in_hand_then c.take.result _ (λ (x : ℕ × List ℕ). IsUntakenSpelling c.args.book.now 2 x.0 x.1) (hand 2 c.args.book.now.hands) (hand 2 c.take.new.self.hands) c.take.ensures.taken
