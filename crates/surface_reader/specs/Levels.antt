-- What is read with a number of levels, as the private functions count them. Their names stand for it, so that each function's
-- proof sees only what that function reads.
use Rattle.std.specs.Prelude.{◌≡◌, ℕ, ◌+◌, List, Result, Ok, Err, Option, Some, None}
use Rattle.kernel_syntax.specs.Sugar.{Value}
use Rattle.oz_grammar.specs.declared.symbol.Symbol.{Symbol}
use Rattle.oz_grammar.specs.declared.fault.FaultKind.{FaultKind}
use Rattle.oz_grammar.specs.declared.fault.What.{What}
use Rattle.oz_grammar.specs.Scoping.{Scope}
use Rattle.oz_grammar.specs.Faults.{or_else, deep_fault, fewer, fault_here}
use Rattle.oz_phrases.specs.declared.stop.Stop.{Stop}
use Rattle.oz_phrases.specs.declared.stop.Stop.TheVariants as stops
use Rattle.surface_grammar.specs.Reading.{Read, PartRead, ValueReader, StatementReader, Readers, primary_at, part_at, value_with, operand_at, tail_at, statement_with, below}

-- a value with d levels
unfoldable pub read_value : ℕ → ValueReader
read_value d = value_with d

-- a primary with d levels, without what may follow it
unfoldable pub read_primary : ℕ → Scope → Option FaultKind → What → List Symbol → PartRead
read_primary d = primary_at (below d) d

-- .. with what is selected in it
unfoldable pub read_part : ℕ → Scope → Option FaultKind → What → List Symbol → PartRead
read_part d = part_at (below d) d

-- the second part of an operator or a test
unfoldable pub read_operand : ℕ → Scope → List Symbol → Read Value
read_operand d = operand_at (below d) d

-- the tail of a list
unfoldable pub read_tail : ℕ → Scope → List Symbol → Read Value
read_tail d = tail_at (below d) d

-- a statement with d levels
unfoldable pub read_statement : ℕ → StatementReader
read_statement d = statement_with d

-- what is read with d levels
abbrev pub readers : ℕ → Readers
readers d = record { value = read_value d; operand = read_operand d; tail = read_tail d; statement = read_statement d }

-- what has d levels has n inside it
abbrev pub IsInside : ℕ → ℕ → Type 0
IsInside d n = (d ≡ n + 1) × (fewer d ≡ n) × (below d ≡ readers n)

-- the levels inside what begins here with d of them, or what is wrong with it
abbrev pub IsLevel : ℕ → Option FaultKind → List Symbol → Result ℕ Stop → Type 0
IsLevel d holder symbols (Ok n) = (or_else (deep_fault d) holder ≡ None) × IsInside d n
IsLevel d holder symbols (Err e) = (kind : FaultKind) × (or_else (deep_fault d) holder ≡ Some kind) × (e ≡ stops.Fault (fault_here kind symbols))
