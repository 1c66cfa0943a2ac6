-- What a text is read as.
use Rattle.std.specs.Prelude.{List, ℕ, Result, Ok, Err}
use Rattle.std.specs.Str.{IsUtf8, IsValidUpTo}
use Rattle.kernel_syntax.specs.declared.stmt.Stmt.{Stmt}
use Rattle.oz_sugar.specs.Texts.{Reads, FaultOf}
use Rattle.oz_show.specs.declared.status.Status.{Status}
use Rattle.oz_show.specs.declared.status.Status.TheVariants.{Refused, NotUtf8, Memory}

-- the program that a text in UTF-8 stands for, or its refusal; want of memory says nothing
abbrev pub IsProgramOf : List ℕ → Result (List Stmt) Status → Type 0
IsProgramOf text (Ok program) = Reads text program
IsProgramOf text (Err (Refused fault)) = FaultOf text fault
IsProgramOf text (Err Memory) = Unit {0}
IsProgramOf text (Err _) = ⊥

-- the program that the text of these bytes stands for, or why there is none
abbrev pub IsReadAs : List ℕ → Result (List Stmt) Status → Type 0
IsReadAs bytes (Ok program) = IsUtf8 bytes × Reads bytes program
IsReadAs bytes (Err (NotUtf8 at)) = (IsUtf8 bytes → ⊥) × IsValidUpTo bytes at
IsReadAs bytes (Err (Refused fault)) = IsUtf8 bytes × FaultOf bytes fault
IsReadAs bytes (Err Memory) = Unit {0}
IsReadAs bytes (Err _) = ⊥
