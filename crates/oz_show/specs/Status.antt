-- The end line of each status, and the number with which the program ends.
use Rattle.std.specs.Prelude.{ℕ, zero, suc, List, [], ◌++◌, codes, decimal}
use Rattle.oz_show.specs.declared.status.Status.{Status}
use Rattle.oz_show.specs.declared.status.Status.TheVariants.{Quiescent, Usage, Refused, NotUtf8, TooLong, StepLimit, MessageLimit, ReadFault, WriteFault, Memory, Checked, Wrong, BadFile}
use Rattle.oz_show.specs.Refusal.{fault_line}

-- the end line of a status, without its newline; empty where writing failed, which has none
abbrev pub end_line : Status → List ℕ
end_line (Quiescent ended waiting) = codes "quiescent ended=" ++ decimal ended ++ codes " waiting=" ++ decimal waiting
end_line Usage = codes "usage"
end_line (Refused fault) = fault_line fault
end_line (NotUtf8 at) = codes "refused byte " ++ decimal at ++ codes " not UTF-8"
end_line TooLong = codes "refused text too long"
end_line (StepLimit site) = codes "stopped steps site=" ++ decimal site
end_line MessageLimit = codes "stopped messages"
end_line ReadFault = codes "read fault"
end_line WriteFault = []
end_line Memory = codes "out of memory"
end_line (Checked entries picks) = codes "checked entries=" ++ decimal entries ++ codes " picks=" ++ decimal picks
end_line (Wrong at) = codes "wrong entry=" ++ decimal at
end_line (BadFile at) = codes "bad run file byte " ++ decimal at

-- the exit code of a status
abbrev pub status_number : Status → ℕ
status_number (Quiescent ended zero) = 0
status_number (Quiescent ended (suc waiting)) = 1
status_number Usage = 2
status_number (Refused fault) = 3
status_number (NotUtf8 at) = 3
status_number TooLong = 3
status_number (StepLimit site) = 4
status_number MessageLimit = 5
status_number ReadFault = 6
status_number WriteFault = 7
status_number Memory = 8
status_number (Checked entries picks) = 0
status_number (Wrong at) = 9
status_number (BadFile at) = 10

-- all have an end line but the fault of writing, after which nothing more is written
abbrev pub HasLine : Status → Type 0
HasLine WriteFault = ⊥
HasLine _ = Unit {0}

-- the statuses whose end lines have numbers in them
abbrev pub HasNumbers : Status → Type 0
HasNumbers (Quiescent ended waiting) = Unit {0}
HasNumbers (Refused fault) = Unit {0}
HasNumbers (NotUtf8 at) = Unit {0}
HasNumbers (StepLimit site) = Unit {0}
HasNumbers (Checked entries picks) = Unit {0}
HasNumbers (Wrong at) = Unit {0}
HasNumbers (BadFile at) = Unit {0}
HasNumbers _ = ⊥
