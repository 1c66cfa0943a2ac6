use Rattle.std.proofs.Common.{◌≡◌, take, length}
use Rattle.oz_phrases.proofs.scope.Scope.truncate.Given as goal

abbrev pub invariant-declarations : goal.invariant-declarations
invariant-declarations l = take l.outer l.self ≡ take l.outer l.fn.self

abbrev pub decreases-declarations : goal.decreases-declarations
decreases-declarations l = length l.self
