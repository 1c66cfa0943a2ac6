use Rattle.std.proofs.Common.{◌≡◌, drop}
use Rattle.byte_fields.specs.TextReading.{word_at}
use Rattle.byte_fields.proofs.cursor.Cursor.word.Given as goal

abbrev pub invariant-loop-wanted : goal.invariant-loop-wanted
invariant-loop-wanted l = word_at (drop l.wanted-index l.word) l.self ≡ word_at l.word l.fn.self
