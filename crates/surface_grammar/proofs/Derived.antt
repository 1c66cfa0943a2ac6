-- Symbols with sugar are a program or have one first fault, and reading by the points tells which.
use Rattle.std.proofs.Common.{◌≡◌, ◌∙◌, ◌⊎◌, inl, inr, List, [], ◌∷◌, true, Option, Some, None, refl, sym, ap}
use Rattle.kernel_syntax.specs.Sugar.{Statements}
use Rattle.oz_grammar.specs.declared.symbol.Symbol.{Symbol}
use Rattle.oz_grammar.specs.declared.symbol.Symbol.TheVariants as t
use Rattle.oz_grammar.specs.declared.fault.Fault.{Fault}
use Rattle.oz_grammar.specs.declared.fault.FaultKind.{FaultKind}
use Rattle.oz_grammar.specs.declared.fault.FaultKind.TheVariants.{Expected}
use Rattle.oz_grammar.specs.Symbols.{ends_once}
use Rattle.oz_grammar.specs.Automata.{read_step}
use Rattle.oz_grammar.proofs.FirstFaults.{IsRead, read_is_first, one_first_fault, passes_without}
use Rattle.surface_grammar.specs.Derivations.{sequence_text, program_text}
use Rattle.surface_grammar.specs.Points.{Point, expected, next, wrong, points_automaton, start, run}
use Rattle.surface_grammar.specs.Trees.{program_of}
use Rattle.surface_grammar.specs.Faults.{surface}
use Rattle.surface_grammar.specs.Laws.{ReadsSymbols, FaultOfSymbols, SymbolsHaveOne, NeverBoth, OneFault, PointsTellFaults, PointsTellPrograms}
use Rattle.surface_grammar.proofs.Runs.{program_run}
use Rattle.oz_grammar.proofs.FaultRows.{faults_told}
use Rattle.surface_grammar.proofs.FaultRows.{none_expected}
use Rattle.surface_grammar.proofs.Leaves.{leads, leaves}
use Rattle.surface_grammar.proofs.Roles.{look, roles}
use Rattle.surface_grammar.proofs.StatementsTaken.{program_taken, through}
use Rattle.surface_grammar.proofs.Ends.{none_lexical, ends_there}

pub surface_is_read : IsRead surface look
surface_is_read = record {
  reads = program_run;
  none_expected = λ q s rest. none_expected q (expected s) rest;
  told = faults_told;
  roles = roles;
  through = through;
  none_lexical = none_lexical;
}

-- ---- what is read without a fault is taken

read_taken : (w : FaultKind) (wrong : Option FaultKind) (x : Symbol) (xs : List Symbol) (o : Option (List Point)) → ((σ : List Point) → run xs σ ≡ None → (rest : List Symbol) × (leaves xs σ ≡ Some rest))
    → read_step points_automaton w wrong (x ∷ xs) (run xs) o ≡ None → (rest : List Symbol) × (leads (leaves xs) o ≡ Some rest)
read_taken w wrong x xs None ih e = absurd cc
read_taken w (Some kind) x xs (Some σ) ih e = absurd cc
read_taken w None x xs (Some σ) ih e = ih σ e

leaves_read : (symbols : List Symbol) (σ : List Point) → run symbols σ ≡ None → (rest : List Symbol) × (leaves symbols σ ≡ Some rest)
leaves_read [] [] e = ([], refl)
leaves_read [] (p ∷ σ) e = absurd cc
leaves_read (x ∷ xs) [] e = (x ∷ xs, refl)
leaves_read (x ∷ xs) (p ∷ σ) e = read_taken (Expected (expected (p ∷ σ))) (wrong (p ∷ σ) (x ∷ xs)) x xs (next (p ∷ σ) x) (leaves_read xs) e

-- symbols in which nothing is wrong are a program
pub points_tell_programs : PointsTellPrograms
points_tell_programs symbols ends e =
    let left = leaves_read symbols start e in
    let k = program_taken symbols left.0 left.1 in
    let none : left.0 ≡ [] = ends_there k.0 left.0 (ap ends_once (sym k.2) ∙ ends) in
    let is : symbols ≡ program_text k.0 = k.2 ∙ ap (λ (rest : List Symbol). sequence_text k.0 (t.EndOfText ∷ rest)) none in (
      program_of k.0,
      record {
        program = k.0;
        derives = k.1;
        derived = is;
        passes = sym (program_run k.0 k.1) ∙ ap (λ (a : List Symbol). run a start) (sym is) ∙ e;
        tree = refl;
      },
    )

-- ---- one of both

pub points_tell_faults : PointsTellFaults
points_tell_faults symbols f e = read_is_first surface look surface_is_read symbols f e

one_by : (symbols : List Symbol) (o : Option Fault) → ends_once symbols ≡ true → run symbols start ≡ o → ((s : Statements) × ReadsSymbols symbols s) ⊎ ((f : Fault) × FaultOfSymbols symbols f)
one_by symbols None ends e = inl (points_tell_programs symbols ends e)
one_by symbols (Some f) ends e = inr (f, points_tell_faults symbols f e)

pub symbols_have_one : SymbolsHaveOne
symbols_have_one symbols ends = one_by symbols (run symbols start) ends refl

pub never_both : NeverBoth
never_both symbols s f r F = passes_without surface look surface_is_read r.program symbols f r.derives r.derived r.passes F

pub one_fault : OneFault
one_fault symbols f g F G = one_first_fault surface look surface_is_read symbols f g F G
