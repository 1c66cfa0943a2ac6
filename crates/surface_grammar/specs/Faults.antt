-- The first fault of symbols under the grammar with sugar.
use Rattle.std.specs.Prelude.{List}
use Rattle.oz_grammar.specs.declared.symbol.Symbol.{Symbol}
use Rattle.oz_grammar.specs.declared.fault.Fault.{Fault}
use Rattle.oz_grammar.specs.declared.fault.FaultKind.{FaultKind}
use Rattle.oz_grammar.specs.Automata.{Grammar}
use Rattle.oz_grammar.specs.Faults.{is_colon}
use Rattle.surface_grammar.specs.Derivations.{Sequence, IsDerivation, program_text}
use Rattle.surface_grammar.specs.Points.{Point, points_automaton, start}
use Rattle.surface_grammar.specs.Check.{check}

-- derivations, their symbols and faults, and the automaton that reads them
abbrev pub surface : Grammar Symbol FaultKind Fault Sequence IsDerivation (List Point)
surface = record { text = program_text; check = check; automaton = points_automaton; start = start; is_colon = is_colon }
