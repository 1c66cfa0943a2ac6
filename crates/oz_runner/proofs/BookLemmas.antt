-- What a finished book tells of the run that workers made.
use Rattle.std.proofs.Common.{◌≡◌, sym, List, Some, inl, inr}
use Rattle.site_message.specs.declared.turn.Turn.{Turn}
use Rattle.site_message.specs.declared.reason.Reason.{Reason}
use Rattle.site_message.specs.declared.reason.Reason.TheVariants.{Memory}
use Rattle.site_message.specs.declared.limits.Limits.{Limits}
use Rattle.message_book.specs.Book.{IsReason}
use Rattle.plain_run.specs.Progress.{HasReason}

-- the reason of a book is how a run within its limits ended
pub reason_of_book : (l : Limits) (j : List Turn) (r : Reason) → IsReason l j (Some r) → HasReason l j r
reason_of_book l j r (inl ends) = inl (sym ends)
reason_of_book l j r (inr (memory, goes_on)) = inr ((let same : r ≡ Memory = cc in same), goes_on)
