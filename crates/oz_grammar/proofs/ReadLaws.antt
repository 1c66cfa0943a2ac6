-- Reading by the points tells whether symbols are a program, or their first fault, and they have one of both.
use Rattle.std.proofs.Common.{◌≡◌, List, [], ◌∷◌, ◌⊎◌, inl, inr, true, Option, Some, None, refl, sym, ap, subst, ◌∙◌}
use Rattle.kernel_syntax.specs.declared.stmt.Stmt.{Stmt}
use Rattle.tree_node.specs.Each.{Each}
use Rattle.kernel_syntax.specs.Program.{IsProgram}
use Rattle.oz_grammar.specs.declared.symbol.Symbol.{Symbol}
use Rattle.oz_grammar.specs.declared.symbol.Symbol.TheVariants as t
use Rattle.oz_grammar.specs.declared.fault.Fault.{Fault}
use Rattle.oz_grammar.specs.Symbols.{ends_once, IsSpelled}
use Rattle.oz_grammar.specs.Grammar.{seq_text, program_text}
use Rattle.oz_grammar.specs.Points.{Point, wrong, expected, run, start}
use Rattle.oz_grammar.specs.Automata.{Look, Alone}
use Rattle.oz_grammar.specs.Table.{program_table}
use Rattle.oz_grammar.specs.Reads.{ReadsSymbols, kernel, FaultOfSymbols}
use Rattle.oz_grammar.specs.Laws.{ReadsPrograms, ReadsFaults, SymbolsHaveOne, NeverBoth, OneFault, ReadsArePrograms}
use Rattle.oz_grammar.proofs.TreeRuns.{program_run}
use Rattle.oz_grammar.proofs.Leaves.{leaves_read}
use Rattle.oz_grammar.proofs.Derivations.{program_taken, through}
use Rattle.oz_grammar.proofs.Ends.{none_lexical, ends_there}
use Rattle.oz_grammar.proofs.FaultRows.{none_expected, faults_told}
use Rattle.oz_grammar.proofs.FirstFaults.{IsRead, read_is_first, one_first_fault, passes_without}
use Rattle.oz_grammar.proofs.Tables.{table_is_program}

-- ---- programs

-- symbols in which nothing is wrong are a program
pub is_program : (symbols : List Symbol) → ends_once symbols ≡ true → run symbols start ≡ None → (p : List Stmt) × ReadsSymbols symbols p
is_program symbols ends e =
    let left = leaves_read symbols start e in
    let k = program_taken symbols left.0 left.1 in
    let none : k.rest ≡ [] = ends_there k.seq k.rest (ap ends_once (sym k.is) ∙ ends) in
    let is : symbols ≡ program_text k.seq = k.is ∙ ap (λ (rest : List Symbol). seq_text k.seq (t.EndOfText ∷ rest)) none in (
      program_table k.seq,
      record {
        program = k.seq;
        derives = k.derives;
        derived = is;
        passes = sym (program_run k.seq k.derives) ∙ ap (λ (a : List Symbol). run a start) (sym is) ∙ e;
        table = refl;
      },
    )

pub points_pass : (symbols : List Symbol) (p : List Stmt) → ReadsSymbols symbols p → run symbols start ≡ None
points_pass symbols p r = ap (λ (a : List Symbol). run a start) r.derived ∙ program_run r.program r.derives ∙ r.passes

pub reads_programs : ReadsPrograms
reads_programs symbols ends = (is_program symbols ends, λ m. points_pass symbols m.0 m.1)

-- ---- faults

-- the symbol alone tells its role
abbrev pub look : List Point → Symbol → Look
look σ x = Alone

roles : (σ : List Point) (x : Symbol) (a b : List Symbol) → wrong σ (x ∷ a) ≡ wrong σ (x ∷ b)
roles [] x a b = refl
roles (p ∷ σ) x a b = refl

pub kernel_is_read : IsRead kernel look
kernel_is_read = record {
  reads = program_run;
  none_expected = λ q s rest. none_expected q (expected s) rest;
  told = faults_told;
  roles = λ σ x a b same. roles σ x a b;
  through = through;
  none_lexical = none_lexical;
}

pub fault_is : (symbols : List Symbol) (f : Fault) → run symbols start ≡ Some f → FaultOfSymbols symbols f
fault_is symbols f e = read_is_first kernel look kernel_is_read symbols f e

pub never_both : NeverBoth
never_both symbols p f r F = passes_without kernel look kernel_is_read r.program symbols f r.derives r.derived r.passes F

pub one_fault : OneFault
one_fault symbols f g F G = one_first_fault kernel look kernel_is_read symbols f g F G

fault_of : (symbols : List Symbol) (f : Fault) (o : Option Fault) → ends_once symbols ≡ true → run symbols start ≡ o → FaultOfSymbols symbols f → o ≡ Some f
fault_of symbols f None ends e F = let m = is_program symbols ends e in absurd (never_both symbols m.0 f m.1 F)
fault_of symbols f (Some g) ends e F = ap (λ (h : Fault). Some h) (one_fault symbols g f (fault_is symbols g e) F)

pub fault_found : (symbols : List Symbol) (f : Fault) → ends_once symbols ≡ true → FaultOfSymbols symbols f → run symbols start ≡ Some f
fault_found symbols f ends F = fault_of symbols f (run symbols start) ends refl F

pub reads_faults : ReadsFaults
reads_faults symbols f ends = (fault_is symbols f, fault_found symbols f ends)

-- ---- one of both

one_by : (symbols : List Symbol) (o : Option Fault) → ends_once symbols ≡ true → run symbols start ≡ o → ((p : List Stmt) × ReadsSymbols symbols p) ⊎ ((f : Fault) × FaultOfSymbols symbols f)
one_by symbols None ends e = inl (is_program symbols ends e)
one_by symbols (Some f) ends e = inr (f, fault_is symbols f e)

pub symbols_have_one : SymbolsHaveOne
symbols_have_one symbols ends = one_by symbols (run symbols start) ends refl

pub reads_are_programs : ReadsArePrograms
reads_are_programs symbols p spelled r =
    subst IsProgram (sym r.table) (table_is_program r.program r.derives r.passes (subst (Each IsSpelled) r.derived spelled))
