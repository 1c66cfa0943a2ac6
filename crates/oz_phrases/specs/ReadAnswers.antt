-- What a reader's answer says.
use Rattle.std.specs.Prelude.{◌≡◌, Result, Ok, Err}
use Rattle.oz_grammar.specs.declared.fault.Fault.{Fault}
use Rattle.oz_phrases.specs.declared.stop.Stop.{Stop}
use Rattle.oz_phrases.specs.declared.stop.Stop.TheVariants as stops

-- the fault is the one that reading gives; want of memory says nothing of it
abbrev pub IsFailure : {Y : Type 0} → Stop → Result Y Fault → Type 0
IsFailure stops.Memory read = Unit {0}
IsFailure (stops.Fault f) read = read ≡ Err f

-- what a function returned, seen by view, is what reading gives, unless memory ran out
abbrev pub IsReadAs : {X Y : Type 0} → (X → Y) → Result X Stop → Result Y Fault → Type 0
IsReadAs view (Ok x) read = read ≡ Ok (view x)
IsReadAs view (Err e) read = IsFailure e read
