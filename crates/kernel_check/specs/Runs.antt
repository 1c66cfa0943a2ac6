-- What a step along the symbols comes to.
use Rattle.std.specs.Prelude.{◌≡◌, ℕ, List, [], ◌∷◌, ◌++◌, Result, Ok, Err, Option, Some, None}
use Rattle.oz_grammar.specs.declared.symbol.Symbol.{Symbol}
use Rattle.oz_grammar.specs.declared.symbol.Symbol.TheVariants as t
use Rattle.oz_grammar.specs.declared.symbol.Sign.TheVariants as sign
use Rattle.oz_grammar.specs.declared.symbol.Closer.TheVariants as closer
use Rattle.oz_grammar.specs.Scoping.{Scope}
use Rattle.oz_grammar.specs.Points.{Point, First, AfterThread, At, Here, Used, LocalName, CallName, PatternOf, ProcName, CatchName, run}
use Rattle.oz_phrases.specs.declared.stop.Stop.{Stop}
use Rattle.oz_phrases.specs.declared.stop.Stop.TheVariants as stops

-- the fault is the first one of these symbols, read from these points; want of memory says nothing of it
abbrev pub IsFault : Stop → List Symbol → List Point → Type 0
IsFault stops.Memory symbols points = Unit {0}
IsFault (stops.Fault f) symbols points = run symbols points ≡ Some f

-- symbols, read from some points, have the first fault that the rest has from others; or their first fault is told
abbrev pub Runs : {X : Type 0} → (X → List Symbol) → Result X Stop → List Symbol → List Point → List Point → Type 0
Runs rest (Ok x) symbols before behind = run symbols before ≡ run (rest x) behind
Runs rest (Err stop) symbols before behind = IsFault stop symbols before

-- these symbols have no fault from these points; or their first one is told
abbrev pub IsChecked : {X : Type 0} → Result X Stop → List Symbol → List Point → Type 0
IsChecked (Ok x) symbols points = run symbols points ≡ None
IsChecked (Err stop) symbols points = IsFault stop symbols points

-- the points that the symbol leads to, if it leads on, and those that were there
abbrev pub IsOn : Option (List Point) → List Point → List Point → Type 0
IsOn (Some points) before behind = behind ≡ points ++ before
IsOn None before behind = Unit {0}

-- behind a symbol that begins a statement, and is no variable, the points before the one behind the statement
abbrev pub head_points : Symbol → Scope → ℕ → List Point
head_points t.OpenCurly scope d = CallName scope ∷ []
head_points t.Raise scope d = Used scope ∷ Here sign.End ∷ []
head_points t.Local scope d = LocalName scope d ∷ []
head_points t.Proc scope d = Here sign.OpenCurly ∷ ProcName scope d ∷ []
head_points t.Thread scope d = At AfterThread closer.End scope d ∷ []
head_points t.If scope d = Used scope ∷ Here sign.Then ∷ At First closer.Else scope d ∷ At First closer.End scope d ∷ []
head_points t.Case scope d = Used scope ∷ Here sign.Of ∷ PatternOf scope d ∷ At First closer.End scope d ∷ []
head_points t.Try scope d = At First closer.Catch scope d ∷ CatchName scope d ∷ []
head_points symbol scope d = []
