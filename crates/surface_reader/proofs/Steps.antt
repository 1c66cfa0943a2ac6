-- What is read with a number of levels, one step each.
use Rattle.std.proofs.Common.{◌≡◌, ℕ, List, [], ◌∷◌, length, false, Ok, Option, None, refl}
use Rattle.std.specs.Prelude.{drop, if◌then◌else◌}
use Rattle.kernel_syntax.specs.Sugar.{Value}
use Rattle.oz_grammar.specs.declared.symbol.Symbol.{Symbol}
use Rattle.oz_grammar.specs.declared.symbol.Symbol.TheVariants as t
use Rattle.oz_grammar.specs.declared.fault.FaultKind.{FaultKind}
use Rattle.oz_grammar.specs.declared.fault.What.{What}
use Rattle.oz_grammar.specs.declared.fault.What.TheVariants as what
use Rattle.oz_grammar.specs.Scoping.{Scope}
use Rattle.oz_grammar.specs.Faults.{fewer}
use Rattle.oz_grammar.specs.Reading.{◌>>=◌, fault_expected}
use Rattle.surface_grammar.specs.declared.parts.Closer.TheVariants as closer
use Rattle.surface_grammar.specs.Reading.{Readers, on_level, is_at_statement, is_at_compound, variable_at, integer_at, compound_at, selections_at, behind_head_at, behind_part_at, if_value_at, case_value_at, kind_at, sequence_at, below, program_at}
use Rattle.surface_parts.specs.Signs.{is_variable, is_integer, is_if, is_case, goes_on}
use Rattle.surface_reader.specs.Levels.{read_value, read_primary, read_part, read_operand, read_tail, read_statement}

pub value_is : (d : ℕ) (scope : Scope) (holder : Option FaultKind) (w : What) (symbols : List Symbol)
    → read_value d scope holder w symbols
    ≡ (if is_if symbols then on_level d holder symbols (if_value_at (below d).value scope (length symbols) (drop 1 symbols))
    else (if is_case symbols then on_level d holder symbols (case_value_at (below d).value scope (length symbols) (drop 1 symbols))
    else (read_part d scope holder w symbols >>= λ p. behind_part_at (below d) scope (length symbols) p.0 p.1)))
unfolding read_value read_part
value_is d scope holder w [] = refl
value_is d scope holder w (t.If ∷ rest) = refl
value_is d scope holder w (t.Case ∷ rest) = refl
value_is d scope holder w (symbol ∷ rest) = refl

-- a part alone is a value
pub part_alone : (inner : Readers) (scope : Scope) (left : ℕ) (p : Value × ℕ) (symbols : List Symbol) → goes_on symbols ≡ false → behind_part_at inner scope left p symbols ≡ Ok (p.0, symbols)
part_alone inner scope left p [] e = refl
part_alone inner scope left p (t.Operator o ∷ rest) e = absurd cc
part_alone inner scope left p (t.Test o ∷ rest) e = absurd cc
part_alone inner scope left p (t.Bar ∷ rest) e = absurd cc
part_alone inner scope left p (symbol ∷ rest) e = refl

pub part_is : (d : ℕ) (scope : Scope) (holder : Option FaultKind) (w : What) (symbols : List Symbol) → read_part d scope holder w symbols ≡ (read_primary d scope holder w symbols >>= λ p. selections_at p.0.1 scope (length symbols) p.0.0 p.1)
unfolding read_part read_primary
part_is d scope holder w symbols = refl

pub primary_is : (d : ℕ) (scope : Scope) (holder : Option FaultKind) (w : What) (symbols : List Symbol)
    → read_primary d scope holder w symbols
    ≡ (if is_variable symbols then (variable_at scope holder symbols >>= λ v. Ok ((v.0, d), v.1))
    else (if is_integer symbols then integer_at d holder symbols
    else (if is_at_compound symbols then on_level d holder symbols (compound_at (below d) scope symbols >>= λ v. Ok ((v.0, fewer d), v.1)) else fault_expected w symbols)))
unfolding read_primary
primary_is d scope holder w [] = refl
primary_is d scope holder w (t.Variable x ∷ rest) = refl
primary_is d scope holder w (t.Integer n ∷ rest) = refl
primary_is d scope holder w (symbol ∷ rest) = refl

pub operand_is : (d : ℕ) (scope : Scope) (symbols : List Symbol) → read_operand d scope symbols ≡ (read_part d scope None what.Value symbols >>= λ p. Ok (p.0.0, p.1))
unfolding read_operand read_part
operand_is d scope symbols = refl

pub tail_is : (d : ℕ) (scope : Scope) (symbols : List Symbol) → read_tail d scope symbols ≡ (read_part d scope None what.Value symbols >>= λ p. behind_head_at (below d) scope (length symbols) p.0 p.1)
unfolding read_tail read_part
tail_is d scope symbols = refl

pub statement_is : (d : ℕ) (scope : Scope) (w : What) (symbols : List Symbol) → read_statement d scope w symbols ≡ (if is_at_statement symbols then on_level d None symbols (kind_at (read_value d) (below d) scope symbols) else fault_expected w symbols)
unfolding read_statement read_value
statement_is d scope w symbols = refl

pub program_is : (symbols : List Symbol) → program_at symbols ≡ (sequence_at (read_statement 200) closer.EndOfText [] what.Statement symbols >>= λ q. Ok q.0)
unfolding program_at read_statement
program_is symbols = refl
