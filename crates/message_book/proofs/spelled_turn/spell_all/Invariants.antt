use Rattle.std.proofs.Common.{◌≡◌, map, take}
use Rattle.message_book.specs.Inboxes.{AllOfFormat, letter_of}
use Rattle.message_book.proofs.spelled_turn.spell_all.Given as goal

abbrev pub invariant-loop-one : goal.invariant-loop-one
invariant-loop-one l = (l.letters.items ≡ map letter_of (take l.one-index l.sent)) × AllOfFormat (take l.one-index l.sent)
